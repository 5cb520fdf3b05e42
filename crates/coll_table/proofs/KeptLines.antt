-- A line as a loader keeps it is taken as the line itself: what an entry keeps of its weights is the same.
use Rattle.std.proofs.Common.{◌≡◌, ℕ, ◌-◌, Bool, true, false, cond, List, [], ◌∷◌, ◌++◌, map, replicate, length, Option, Some, None, sym, ap, ap₂, ◌∙◌, refl}
use Rattle.std.specs.Prelude.{Result, Ok, Err, nat_le, nat_lt, not, ◌&&◌, ◌==◌}
use Rattle.std.specs.Option.{option_map, option_or}
use Rattle.std.proofs.lemmas.List.{length-map}
use Rattle.std.proofs.lemmas.Bool.Decides.{Decides-eqb}
use Rattle.coll_lex.specs.declared.tokens.Token.{Token}
use Rattle.coll_lex.specs.declared.tokens.Token.TheVariants as token
use Rattle.coll_lookups.proofs.Sameness.{decided_symmetric}
use Rattle.coll_syntax.specs.KeptLines.{kept_line, kept_operand, kept_order, kept_weights}
use Rattle.coll_syntax.specs.Keywords.{keyword_of}
use Rattle.coll_syntax.specs.Operands.{all_read, and_then, operands_of, read_as}
use Rattle.coll_syntax.specs.TableLines.{table_line, table_row}
use Rattle.coll_syntax.specs.Weights.{operand_weight, weights}
use Rattle.coll_syntax.specs.declared.identifiers.Id.TheVariants.{Char}
use Rattle.coll_syntax.specs.declared.lines.TableLine.{TableLine}
use Rattle.coll_syntax.specs.declared.lines.TableLine.TheVariants.{Order}
use Rattle.coll_syntax.specs.declared.syntax_faults.SyntaxFault.{SyntaxFault}
use Rattle.coll_syntax.specs.declared.weights.Weight.{Weight}
use Rattle.coll_syntax.specs.declared.weights.Weight.TheVariants.{Own, Names}
use Rattle.coll_nodes.specs.Causes.{refused_if}
use Rattle.coll_nodes.specs.Entries.{kept_weight}
use Rattle.coll_nodes.specs.Limits.{most_entries}
use Rattle.coll_nodes.specs.Table.{is_known, is_placed_in, is_symbol, joined_entries}
use Rattle.coll_texts.specs.BuilderStates.{Numbered, BuilderState, at_line, line_fault, levels_of}
use Rattle.coll_texts.specs.Loading.{LoaderState, by_read, state_after, state_with, taken_line, with_entry}
use Rattle.coll_texts.specs.declared.load_faults.LoadCause.{LoadCause}
use Rattle.coll_texts.specs.declared.load_faults.LoadCause.TheVariants.{OutsideOrder, NotDeclared, PlacedTwice, SymbolWithWeights, TooManyWeights, Full}
use Rattle.coll_texts.specs.declared.load_faults.LoadFault.{LoadFault}

module _ (own : ℕ) where
  -- what the entry of this character keeps of a weight
  abbrev kept : Weight → Weight
  kept w = kept_weight (Char own) w

  -- what two operands give is kept alike
  abbrev Alike : Result Weight SyntaxFault → Result Weight SyntaxFault → Type 0
  Alike a b = read_as kept a ≡ read_as kept b

  -- so it is with two lists of weights
  abbrev AreAlike : Result (List Weight) SyntaxFault → Result (List Weight) SyntaxFault → Type 0
  AreAlike a b = read_as (map kept) a ≡ read_as (map kept) b

  -- the code point of the character is the entry's own, and so is what names it
  code_point : (c : ℕ) → Alike (kept_operand own (token.Char c ∷ [])) (operand_weight (token.Char c ∷ []))
  code_point c = by (c == own) refl where
    by : (b : Bool) → (c == own) ≡ b → Alike (cond b (Ok Own) (operand_weight (token.Char c ∷ []))) (operand_weight (token.Char c ∷ []))
    by true e = ap (λ (s : Bool). Ok (cond s Own (Names (Char c ∷ [])))) (sym (decided_symmetric (λ a b. a == b) Decides-eqb own c ∙ e))
    by false e = refl

  operand_alike : (ts : List Token) → Alike (kept_operand own ts) (operand_weight ts)
  operand_alike [] = refl
  operand_alike (token.Word w ∷ []) = refl
  operand_alike (token.Symbol name ∷ []) = refl
  operand_alike (token.Char c ∷ []) = code_point c
  operand_alike (token.Text ps ∷ []) = refl
  operand_alike (token.Semicolon ∷ []) = refl
  operand_alike (token.Comma ∷ []) = refl
  operand_alike (token.Word w ∷ t ∷ ts) = refl
  operand_alike (token.Symbol name ∷ t ∷ ts) = refl
  operand_alike (token.Char c ∷ t ∷ ts) = refl
  operand_alike (token.Text ps ∷ t ∷ ts) = refl
  operand_alike (token.Semicolon ∷ t ∷ ts) = refl
  operand_alike (token.Comma ∷ t ∷ ts) = refl

  -- one weight before others
  abbrev before : Result Weight SyntaxFault → Result (List Weight) SyntaxFault → Result (List Weight) SyntaxFault
  before first later = and_then first (λ w. read_as (λ ws. w ∷ ws) later)

  before_alike : (a b : Result Weight SyntaxFault) (us vs : Result (List Weight) SyntaxFault) → Alike a b → AreAlike us vs → AreAlike (before a us) (before b vs)
  before_alike (Ok v) (Ok w) (Ok vs) (Ok ws) e es =
      let first : kept v ≡ kept w = cc in
      let later : map kept vs ≡ map kept ws = cc in
      ap₂ (λ (x : Weight) (xs : List Weight). Ok (x ∷ xs)) first later
  before_alike (Ok v) (Ok w) (Ok vs) (Err g) e es = cc
  before_alike (Ok v) (Ok w) (Err f) (Ok ws) e es = cc
  before_alike (Ok v) (Ok w) (Err f) (Err g) e es = es
  before_alike (Ok v) (Err g) us vs e es = cc
  before_alike (Err f) (Ok w) us vs e es = cc
  before_alike (Err f) (Err g) us vs e es = let same : f ≡ g = cc in ap (λ (x : SyntaxFault). Err x) same

  parts_alike : (parts : List (List Token)) → AreAlike (all_read (map (kept_operand own) parts)) (all_read (map operand_weight parts))
  unfolding all_read
  parts_alike [] = refl
  parts_alike (part ∷ parts) = before_alike (kept_operand own part) (operand_weight part) _ _ (operand_alike part) (parts_alike parts)

  weights_alike : (ts : List Token) → AreAlike (kept_weights own ts) (weights ts)
  unfolding kept_weights weights
  weights_alike ts = parts_alike (operands_of ts)

  -- the order line of the character with these weights
  abbrev given : List Weight → TableLine
  given ws = Order (record { id = Char own; weights = Some ws })

  -- why its line is refused, by how many weights it gives
  abbrev caused : BuilderState → ℕ → Option LoadCause
  caused d given =
      refused_if (not d.order_open) OutsideOrder
      (refused_if (not (is_known d.declared (Char own))) NotDeclared
      (refused_if (is_placed_in d.sections (Char own)) PlacedTwice
      (refused_if (is_symbol d.declared (Char own) && true) SymbolWithWeights
      (refused_if (nat_lt (levels_of d.rules) given) TooManyWeights
      (refused_if (nat_le most_entries (length (joined_entries d.sections))) Full None)))))

  module _ (s : LoaderState) (number : ℕ) where
    abbrev numbered : List Weight → Numbered
    numbered ws = record { number = number; line = given ws }

    -- lines whose weights are kept alike are refused alike, and say the same
    fault_alike : (vs ws : List Weight) → length vs ≡ length ws → line_fault s.builder (numbered vs) ≡ line_fault s.builder (numbered ws)
    unfolding line_fault
    fault_alike vs ws e = ap (λ (n : ℕ). option_or (option_map (at_line number) (caused s.builder n)) None) e

    state_alike : (vs ws : List Weight) → map kept vs ≡ map kept ws → length vs ≡ length ws → state_after s.builder (numbered vs) ≡ state_after s.builder (numbered ws)
    unfolding state_with
    state_alike vs ws e l = ap₂ (λ (ms : List Weight) (n : ℕ). with_entry s.builder number (record { id = Char own; weights = ms ++ replicate (levels_of s.builder.rules - n) Own })) e l

    taken_alike : (vs ws : List Weight) → map kept vs ≡ map kept ws → by_read s number (Ok (given vs)) ≡ by_read s number (Ok (given ws))
    taken_alike vs ws e =
        let l : length vs ≡ length ws = sym (length-map vs kept) ∙ (ap (λ (ms : List Weight). length ms) e ∙ length-map ws kept) in
        ap (λ (fault : Option LoadFault). taken_line s (numbered vs) fault) (fault_alike vs ws l) ∙ by (line_fault s.builder (numbered ws)) (state_alike vs ws e l)
      where
        by : (fault : Option LoadFault) → state_after s.builder (numbered vs) ≡ state_after s.builder (numbered ws)
            → taken_line s (numbered vs) fault ≡ taken_line s (numbered ws) fault
        by (Some fault) e = refl
        by None e = ap (λ (b : BuilderState). Ok (record s { builder = b; ended = false })) e

    read_alike : (a b : Result (List Weight) SyntaxFault) → AreAlike a b → by_read s number (read_as given a) ≡ by_read s number (read_as given b)
    read_alike (Ok vs) (Ok ws) e = let same : map kept vs ≡ map kept ws = cc in taken_alike vs ws same
    read_alike (Ok vs) (Err g) e = cc
    read_alike (Err f) (Ok ws) e = cc
    read_alike (Err f) (Err g) e = let same : f ≡ g = cc in ap (λ (x : SyntaxFault). by_read s number (Err x)) same

    -- what is read as a line, twice
    twice : (r : Result (List Weight) SyntaxFault) → read_as given r ≡ read_as Order (read_as (λ ws. record { id = Char own; weights = Some ws }) r)
    twice (Ok ws) = refl
    twice (Err f) = refl

    order_alike : (rest : List Token) → by_read s number (kept_order own rest) ≡ by_read s number (table_row (token.Char own) rest)
    unfolding keyword_of
    order_alike [] = refl
    order_alike (t ∷ ts) = read_alike (kept_weights own (t ∷ ts)) (weights (t ∷ ts)) (weights_alike (t ∷ ts)) ∙ ap (by_read s number) (twice (weights (t ∷ ts)))

-- a line as it is kept is taken as the line is
pub kept_taken : (s : LoaderState) (number : ℕ) (ts : List Token) → by_read s number (kept_line ts) ≡ by_read s number (table_line ts)
unfolding table_line
kept_taken s number [] = refl
kept_taken s number (token.Word w ∷ rest) = refl
kept_taken s number (token.Symbol name ∷ rest) = refl
kept_taken s number (token.Char c ∷ rest) = order_alike c s number rest
kept_taken s number (token.Text ps ∷ rest) = refl
kept_taken s number (token.Semicolon ∷ rest) = refl
kept_taken s number (token.Comma ∷ rest) = refl
