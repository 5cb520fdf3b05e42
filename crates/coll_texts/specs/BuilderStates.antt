-- What the lines of a category say together, and which line may follow them (POSIX.1-2017, 7.3.2).
use Rattle.std.specs.Prelude.{◌&&◌, ℕ, Bool, true, false, if◌then◌else◌, not, nat_le, nat_lt, is_some}
use Rattle.std.specs.Prelude.{is_none, List, [], ◌∷◌, ◌++◌, length, fold, Option, Some, None}
use Rattle.std.specs.List.{flat_map}
use Rattle.std.specs.Option.{option_or, option_map}
use Rattle.coll_syntax.specs.Identifier.{has_name}
use Rattle.coll_syntax.specs.declared.identifiers.Id.{Id}
use Rattle.coll_syntax.specs.declared.rules.Rule.{Rule}
use Rattle.coll_syntax.specs.declared.statements.OrderLine.{OrderLine}
use Rattle.coll_syntax.specs.declared.lines.TableLine.{TableLine}
use Rattle.coll_syntax.specs.declared.lines.TableLine.TheVariants as line
use Rattle.coll_nodes.specs.declared.declarations.Declaration.{Declaration}
use Rattle.coll_nodes.specs.declared.declarations.Declaration.TheVariants as declaration
use Rattle.coll_nodes.specs.declared.entries.Entry.{Entry}
use Rattle.coll_nodes.specs.Table.{Collation, Section, name_of, text_of, has_text, joined_entries}
use Rattle.coll_nodes.specs.Table.{section_names, is_placed_in, is_declared, is_known, is_symbol}
use Rattle.coll_nodes.specs.Entries.{entry_of, given_weights, ids_named}
use Rattle.coll_nodes.specs.OwnNames.{named_own, own_id, own_sections, means_nothing, means_no_symbol}
use Rattle.coll_nodes.specs.Causes.{refused_if}
use Rattle.coll_nodes.specs.Limits.{most_entries, most_declarations, most_sections}
use Rattle.coll_texts.specs.declared.load_faults.LoadFault.{LoadFault}
use Rattle.coll_texts.specs.declared.load_faults.LoadCause.{LoadCause}
use Rattle.coll_texts.specs.declared.load_faults.LoadCause.TheVariants.{NoRules, RulesDiffer, DeclaredTwice, NotDeclared, NotASymbol}
use Rattle.coll_texts.specs.declared.load_faults.LoadCause.TheVariants.{PlacedTwice, SymbolWithWeights, TooManyWeights, WeightNotPlaced}
use Rattle.coll_texts.specs.declared.load_faults.LoadCause.TheVariants.{StringTwice, SectionTwice, OutsideOrder, Full}

-- a line of the category, with its number
pub record Numbered : Type 0 where
  pub number : ℕ
  pub line : TableLine

-- What lines say together.

-- a second name for what a name stands for where this is declared: if the name is itself a second name, its symbol is meant (the
-- project's own meaning of `symbol-equivalence`)
abbrev pub second_name : List Declaration → (name symbol : List ℕ) → Declaration
second_name declared name symbol = declaration.Equivalence name (named_own declared symbol)

-- what a line declares behind what is declared before it
abbrev pub declared_in_line : List Declaration → TableLine → List Declaration
declared_in_line declared (line.Symbol name) = declaration.Symbol name ∷ []
declared_in_line declared (line.Element name text) = declaration.Element name text ∷ []
declared_in_line declared (line.Equivalence name symbol) = second_name declared name symbol ∷ []
declared_in_line declared _ = []

-- what lines declare, in order: what a line declares may depend on what is declared before it
abbrev pub declared_in : List Numbered → List Declaration
declared_in lines = fold (λ declared (n : Numbered). declared ++ declared_in_line declared n.line) [] lines

-- whether an order is open after a line, where it was so before
abbrev pub open_after : Bool → TableLine → Bool
open_after was (line.OrderStart section rules) = true
open_after was line.OrderEnd = false
open_after was _ = was

-- whether an order is open after lines: the last `order_start` or `order_end` among them says
abbrev pub is_open : List Numbered → Bool
is_open lines = fold (λ was (n : Numbered). open_after was n.line) false lines

-- one level, compared forward
abbrev pub one_forward : List Rule
one_forward = record { backward = false; position = false } ∷ []

-- the rules that an `order_start` gives; without operands it means one level, compared forward (7.3.2.3)
abbrev pub rules_given : Option (List Rule) → List Rule
rules_given None = one_forward
rules_given (Some rules) = rules

-- the rules of a line, if it is an `order_start`
abbrev pub rules_by : TableLine → Option (List Rule)
rules_by (line.OrderStart section rules) = Some (rules_given rules)
rules_by _ = None

-- the rules of the first `order_start` among lines
abbrev pub rules_in : List Numbered → Option (List Rule)
rules_in [] = None
rules_in (n ∷ lines) = option_or (rules_by n.line) (rules_in lines)

-- the rules of a table; where there are none yet, no levels
abbrev pub given_rules : Option (List Rule) → List Rule
given_rules None = []
given_rules (Some rules) = rules

-- the number of levels
abbrev pub levels_of : Option (List Rule) → ℕ
levels_of rules = length (given_rules rules)

-- the name of the section that a line begins, if it begins one
abbrev pub begun_by : TableLine → Option (List ℕ)
begun_by (line.OrderStart section rules) = section
begun_by (line.Section name) = Some name
begun_by _ = None

-- the order line that is meant where this is declared: its identifier is looked up, and a second name stands for its symbol
abbrev pub own_order : List Declaration → OrderLine → OrderLine
own_order declared order = record order { id = own_id declared order.id }

-- the entry that a line places, from the lines before it; its weights are looked up where the category ends, since a name in them
-- may be declared behind it
abbrev pub placed_by : List Numbered → TableLine → List Entry
placed_by before (line.Order order) =
    entry_of (levels_of (rules_in before)) (declared_in before) (own_order (declared_in before) order) ∷ []
placed_by before _ = []

-- the entries up to the next line that begins a section, and the sections from there on
pub record Cut : Type 0 where
  pub entries : List Entry
  pub later : List Section

-- a line before a cut: it begins a section with the entries up to the next, or what it places stands before them
abbrev pub cut_at : Option (List ℕ) → List Entry → Cut → Cut
cut_at (Some name) placed rest = record { entries = []; later = record { name = Some name; entries = rest.entries } ∷ rest.later }
cut_at None placed rest = record { entries = placed ++ rest.entries; later = rest.later }

-- lines cut at those that begin a section, from the lines before them
abbrev pub cut : List Numbered → List Numbered → Cut
cut before [] = record { entries = []; later = [] }
cut before (n ∷ lines) = cut_at (begun_by n.line) (placed_by before n.line) (cut (before ++ n ∷ []) lines)

-- the first section, which has no name, and the others
abbrev pub sections_of : Cut → List Section
sections_of whole = record { name = None; entries = whole.entries } ∷ whole.later

-- the sections of lines: their entries, cut at the lines that begin a section
abbrev pub sections_in : List Numbered → List Section
sections_in lines = sections_of (cut [] lines)

-- the number of a line, if it places an entry
abbrev pub placing_number : ℕ → TableLine → List ℕ
placing_number number (line.Order order) = number ∷ []
placing_number number _ = []

-- the numbers of the lines that place entries, in order
abbrev pub numbers_in : List Numbered → List ℕ
numbers_in lines = flat_map (λ (n : Numbered). placing_number n.number n.line) lines

-- what lines say together: whether an order is open, the rules, what is declared, the sections, and the number of the line
-- of each entry, in order
pub record BuilderState : Type 0 where
  pub order_open : Bool
  pub rules : Option (List Rule)
  pub declared : List Declaration
  pub sections : List Section
  pub numbers : List ℕ

-- what these lines say together
unfoldable pub state_of : List Numbered → BuilderState
state_of lines = record {
  order_open = is_open lines;
  rules = rules_in lines;
  declared = declared_in lines;
  sections = sections_in lines;
  numbers = numbers_in lines;
}

-- the table that is said
abbrev pub table_of : BuilderState → Collation
table_of d = record { rules = given_rules d.rules; declared = d.declared; sections = d.sections }

-- Which line may follow.

-- why what a second name stands for is refused: it isn't declared, or it is no collating symbol
abbrev pub meaning_cause : List Declaration → Declaration → Option LoadCause
meaning_cause declared new = refused_if (means_nothing declared new) NotDeclared (refused_if (means_no_symbol declared new) NotASymbol None)

-- why a declaration is refused behind those before it; the declaration of a second name has the own name of its symbol already, so
-- it means nothing where that name isn't declared
abbrev pub declaration_cause : List Declaration → Declaration → Option LoadCause
declaration_cause declared new =
    refused_if (is_declared declared (name_of new)) DeclaredTwice
    (option_or (meaning_cause declared new)
    (refused_if (has_text declared (text_of new)) StringTwice
    (refused_if (nat_le most_declarations (length declared)) Full None)))

-- two flags are the same
abbrev pub same_flag : Bool → Bool → Bool
same_flag a b = if a then b else not b

-- two rules are the same
abbrev pub same_rule : Rule → Rule → Bool
same_rule a b = same_flag a.backward b.backward && same_flag a.position b.position

-- two lists of rules are the same
abbrev pub same_rules : List Rule → List Rule → Bool
same_rules [] [] = true
same_rules [] (b ∷ others) = false
same_rules (a ∷ later) [] = false
same_rules (a ∷ later) (b ∷ others) = same_rule a b && same_rules later others

-- rules that are given differ from those of the table
abbrev pub rules_differ : Option (List Rule) → Option (List Rule) → Bool
rules_differ None given = false
rules_differ (Some rules) None = false
rules_differ (Some rules) (Some given) = not (same_rules rules given)

-- why a section that begins is refused
abbrev pub section_cause : BuilderState → List ℕ → Option LoadCause
section_cause d name =
    refused_if (has_name (section_names d.sections) name) SectionTwice
    (refused_if (nat_le most_sections (length d.sections)) Full None)

-- why a section is refused, if one begins
abbrev pub section_cause_if : BuilderState → Option (List ℕ) → Option LoadCause
section_cause_if d None = None
section_cause_if d (Some name) = section_cause d name

-- why an order line is refused
abbrev pub order_cause : BuilderState → OrderLine → Option LoadCause
order_cause d order =
    refused_if (not d.order_open) OutsideOrder
    (refused_if (not (is_known d.declared order.id)) NotDeclared
    (refused_if (is_placed_in d.sections order.id) PlacedTwice
    (refused_if (is_symbol d.declared order.id && is_some order.weights) SymbolWithWeights
    (refused_if (nat_lt (levels_of d.rules) (length (given_weights order.weights))) TooManyWeights
    (refused_if (nat_le most_entries (length (joined_entries d.sections))) Full None)))))

-- the causes behind that its identifier is placed
abbrev pub late_cause : BuilderState → OrderLine → Option LoadCause
late_cause d order =
    refused_if (is_symbol d.declared order.id && is_some order.weights) SymbolWithWeights
    (refused_if (nat_lt (levels_of d.rules) (length (given_weights order.weights))) TooManyWeights
    (refused_if (nat_le most_entries (length (joined_entries d.sections))) Full None))

-- why a line is refused, from what the lines before it say; the causes stand in their order
abbrev pub cause_after : BuilderState → TableLine → Option LoadCause
cause_after d (line.Symbol name) = declaration_cause d.declared (declaration.Symbol name)
cause_after d (line.Element name text) = declaration_cause d.declared (declaration.Element name text)
cause_after d (line.Equivalence name symbol) = declaration_cause d.declared (second_name d.declared name symbol)
cause_after d (line.OrderStart section rules) = refused_if (rules_differ d.rules rules) RulesDiffer (section_cause_if d section)
cause_after d line.OrderEnd = refused_if (not d.order_open) OutsideOrder None
cause_after d (line.Section name) = refused_if (not d.order_open) OutsideOrder (section_cause d name)
cause_after d line.Script = None
cause_after d line.EndCategory = refused_if d.order_open OutsideOrder (refused_if (is_none d.rules) NoRules None)
cause_after d (line.Order order) = order_cause d (own_order d.declared order)

-- The weights, which are looked up where the category ends.

-- what is said, with the weights of each entry by own names: a second name in them stands for its symbol
abbrev pub with_own_weights : BuilderState → BuilderState
with_own_weights d = record d { sections = own_sections d.declared d.sections }

-- why an identifier in a weight is refused, where this is declared and these are the sections
abbrev pub weight_cause : List Declaration → List Section → Id → Option LoadCause
weight_cause declared sections id =
    refused_if (not (is_known declared id)) NotDeclared
    (refused_if (not (is_placed_in sections id)) WeightNotPlaced None)

-- why the first of these identifiers that is refused is
abbrev pub ids_cause : List Declaration → List Section → List Id → Option LoadCause
ids_cause declared sections [] = None
ids_cause declared sections (id ∷ ids) = option_or (weight_cause declared sections id) (ids_cause declared sections ids)

-- a fault of a line
abbrev pub at_line : ℕ → LoadCause → LoadFault
at_line number cause = record { line = number; cause = cause }

-- the fault of the first of these entries whose weights are refused; each has the number of its line
abbrev pub entries_fault : BuilderState → List ℕ → List Entry → Option LoadFault
entries_fault d [] entries = None
entries_fault d (number ∷ numbers) [] = None
entries_fault d (number ∷ numbers) (entry ∷ entries) =
    option_or (option_map (at_line number) (ids_cause d.declared d.sections (ids_named entry))) (entries_fault d numbers entries)

-- the fault of the first order line whose weights are refused
abbrev pub weights_fault : BuilderState → Option LoadFault
weights_fault d = entries_fault d d.numbers (joined_entries d.sections)

-- the fault of the weights, where a line ends the category
abbrev pub fault_at_end : BuilderState → TableLine → Option LoadFault
fault_at_end d line.EndCategory = weights_fault (with_own_weights d)
fault_at_end d _ = None

-- the fault of a line, from what the lines before it say: its own, or where it ends the category that of the weights
unfoldable pub line_fault : BuilderState → Numbered → Option LoadFault
line_fault d n = option_or (option_map (at_line n.number) (cause_after d n.line)) (fault_at_end d n.line)

-- a line ends the category
abbrev pub is_end : TableLine → Bool
is_end line.EndCategory = true
is_end _ = false
