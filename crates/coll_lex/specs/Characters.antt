-- Names for the characters that have a meaning in a line.
use Rattle.std.specs.Prelude.{ℕ}

-- a tab, one of the two blanks
abbrev pub tab : ℕ
tab = 9

-- a space, one of the two blanks
abbrev pub space : ℕ
space = 32

-- `"`, which begins and ends a string
abbrev pub quotation_mark : ℕ
quotation_mark = 34

-- `#`, which begins a comment at first
abbrev pub number_sign : ℕ
number_sign = 35

-- `,`, which separates
abbrev pub comma : ℕ
comma = 44

-- `-`, which joins the parts of a keyword
abbrev pub hyphen : ℕ
hyphen = 45

-- `/`, under which spellings are read back
abbrev pub slash : ℕ
slash = 47

-- `;`, which separates
abbrev pub semicolon : ℕ
semicolon = 59

-- `<`, which begins a symbol
abbrev pub less_than : ℕ
less_than = 60

-- `>`, which ends a symbol
abbrev pub greater_than : ℕ
greater_than = 62

-- `U`, which stands before the digits of a code point
abbrev pub capital_u : ℕ
capital_u = 85

-- `\`, which is the escape character at first
abbrev pub backslash : ℕ
backslash = 92
