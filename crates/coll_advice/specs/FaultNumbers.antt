-- Which numbers faults have (the project's own).
use Rattle.std.specs.Prelude.{ℕ, ◌==◌, ◌||◌, Bool, List, [], ◌∷◌}
use Rattle.std.specs.List.{list_any}

-- a number is among some
abbrev pub is_among : ℕ → List ℕ → Bool
is_among number numbers = list_any (λ one. number == one) numbers

-- the faults of lines
abbrev pub of_lines : List ℕ
of_lines = 1 ∷ 2 ∷ 3 ∷ 4 ∷ 5 ∷ 6 ∷ 8 ∷ 9 ∷ 10 ∷ 11 ∷ 12 ∷ []

-- those of the grammar
abbrev pub of_grammar : List ℕ
of_grammar = 20 ∷ 21 ∷ 22 ∷ 23 ∷ 24 ∷ 25 ∷ 26 ∷ 27 ∷ 28 ∷ 29 ∷ []

-- those of tables, and of deltas
abbrev pub of_tables : List ℕ
of_tables = 30 ∷ 31 ∷ 32 ∷ 33 ∷ 34 ∷ 35 ∷ 36 ∷ 37 ∷ 38 ∷ 39 ∷ 40 ∷ 41 ∷ 42 ∷ 43 ∷ []

-- those of statements
abbrev pub of_statements : List ℕ
of_statements = 50 ∷ 51 ∷ 52 ∷ 53 ∷ 54 ∷ 55 ∷ []

-- those of histories, blocks, commands, texts and devices, and one of tables and deltas
abbrev pub of_sessions : List ℕ
of_sessions = 60 ∷ 61 ∷ 62 ∷ 63 ∷ 64 ∷ 65 ∷ 66 ∷ 67 ∷ 68 ∷ 69 ∷ 70 ∷ 71 ∷ 72 ∷ 73 ∷ []

-- those of imports
abbrev pub of_imports : List ℕ
of_imports = 80 ∷ 81 ∷ 82 ∷ 83 ∷ 84 ∷ []

-- a number is that of a fault
abbrev pub is_fault_number : ℕ → Bool
is_fault_number number =
    is_among number of_lines || (is_among number of_grammar || (is_among number of_tables || (is_among number of_statements
    || (is_among number of_sessions || is_among number of_imports))))
