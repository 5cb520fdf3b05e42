-- Each line of a delta file is read as what it says.
use Rattle.std.proofs.Common.{◌≡◌, ℕ, ◌+◌, ◌<◌, ◌≤◌, false, List, [], ◌∷◌, ◌++◌, All, length, map, codes, Option, Some, None, Ok, ap, ◌∙◌, refl, arith}
use Rattle.std.specs.List.{flat_map}
use lib.Utf8.{encode}
use Rattle.std.proofs.lemmas.List.{length-append}
use Rattle.std.proofs.lemmas.List.Elements.{All-head, All-tail}
use Rattle.coll_lex.specs.Blanks.{past_blanks}
use Rattle.coll_lex.specs.Directives.{operand_of, directive}
use Rattle.coll_lex.specs.Names.{IsName}
use Rattle.coll_lex.specs.Spelling.{spelled_symbol}
use Rattle.coll_lex.specs.declared.tokens.Token.{Token}
use Rattle.coll_lex.specs.declared.tokens.Token.TheVariants as token
use Rattle.coll_lex.specs.declared.tokens.Piece.TheVariants as piece
use Rattle.coll_syntax.specs.DeltaLines.{delta_line, begun_row}
use Rattle.coll_syntax.specs.Keywords.{keyword_of}
use Rattle.coll_syntax.specs.Operands.{and_then, read_as, ended, wanted}
use Rattle.coll_syntax.specs.OrderLines.{weighted}
use Rattle.coll_syntax.specs.Proper.{IsId, IsElementText, AreProperWeights, IsProperLine}
use Rattle.coll_syntax.specs.declared.lines.DeltaLine.{DeltaLine}
use Rattle.coll_syntax.specs.declared.lines.DeltaLine.TheVariants as line
use Rattle.coll_syntax.specs.declared.identifiers.Id.{Id}
use Rattle.coll_syntax.specs.declared.identifiers.Id.TheVariants.{Undefined}
use Rattle.coll_syntax.specs.declared.weights.Weight.{Weight}
use Rattle.coll_syntax.specs.declared.weights.Weight.TheVariants.{Ignore, Own, Names}
use Rattle.coll_syntax.specs.declared.statements.OrderLine.{OrderLine}
use Rattle.coll_syntax.specs.declared.statements.Statement.{Statement}
use Rattle.coll_syntax.specs.declared.statements.Statement.TheVariants as statement
use Rattle.coll_nodes.specs.declared.declarations.Declaration.TheVariants as declaration
use Rattle.coll_texts.specs.CanonicalText.{spelled_id, declaration_line}
use Rattle.coll_texts.specs.StatementText.{given_behind, order_line, target_line, section_after_line, statement_lines}
use Rattle.coll_texts.proofs.PrintedSpellings.{is_clean, is_letter, spells_word, spells_id}
use Rattle.coll_texts.proofs.PrintedTokens.{tokens_behind, tokens_joined, id_token, weight_tokens, own_read, weight_read}
use Rattle.coll_texts.proofs.PrintedTokens.{weights_are_read, some_weights, id_is_read, id_begins_order, weights_behind_id, element_is_read}
use Rattle.coll_texts.proofs.PrintedLines.{IsLine, SaysTo, line_from, spells_begun, spells_names_apart, symbol_is_line, element_is_line, equivalence_is_line}
use Rattle.coll_texts.proofs.PrintedLines.{id_is_line, weighted_is_line, category_end_is_line}
use Rattle.coll_texts.proofs.PrintedReading.{SayAll, say_append, say_members, say_one}
use Rattle.coll_delta_texts.specs.DeltaText.{copy_line}
use Rattle.coll_delta_texts.specs.Writable.{is_own_alone, AreGiven, GivesWeights, IsWritable, IsCopyName}
use Rattle.coll_delta_texts.proofs.CopyLines.{copy_is_line}

-- a line that says this to the grammar of deltas
abbrev pub Says : List ℕ → DeltaLine → Type 0
Says text read = SaysTo delta_line text read

-- The lines of one word or two.

end_is_line : IsLine (codes "reorder-end") (token.Word (codes "reorder-end")) []
unfolding is_letter is_clean directive operand_of past_blanks encode
end_is_line = line_from (λ rest. codes "reorder-end" ++ rest) (token.Word (codes "reorder-end")) [] 11 (spells_word 114 (codes "eorder-end") refl) (omega arith) (λ special. refl)

pub block_end_says : Says (codes "reorder-end") line.ReorderEnd
unfolding delta_line keyword_of
block_end_says = (token.Word (codes "reorder-end"), [], end_is_line, refl)

pub category_end_says : Says (codes "END LC_COLLATE") line.EndCategory
unfolding delta_line keyword_of
category_end_says = (token.Word (codes "END"), token.Word (codes "LC_COLLATE") ∷ [], category_end_is_line, refl)

-- The line of a copy.

pub copy_says : (name : List ℕ) → IsCopyName name → Says (copy_line name) line.Copy
unfolding delta_line keyword_of
copy_says name is = (token.Word (codes "copy"), token.Text (map piece.Char name) ∷ [], copy_is_line name is, refl)

-- The lines of declarations.

symbol_says : (name : List ℕ) → IsName name → Says (declaration_line (declaration.Symbol name)) (line.Symbol name)
unfolding delta_line keyword_of
symbol_says name is = (token.Word (codes "collating-symbol"), token.Symbol name ∷ [], symbol_is_line name is, refl)

element_says : (name text : List ℕ) → IsName name → IsElementText text → Says (declaration_line (declaration.Element name text)) (line.Element name text)
unfolding delta_line keyword_of
element_says name text is few = (
  token.Word (codes "collating-element"),
  token.Symbol name ∷ token.Word (codes "from") ∷ token.Text (map piece.Char text) ∷ [],
  element_is_line name text is few,
  ap (λ t. read_as (λ (read : List ℕ × List ℕ). line.Element read.0 read.1) (read_as (λ text. (name, text)) (and_then t (λ read. ended read [])))) (element_is_read text few),
)

equivalence_says : (name symbol : List ℕ) → IsName name → IsName symbol → Says (declaration_line (declaration.Equivalence name symbol)) (line.Equivalence name symbol)
unfolding delta_line keyword_of
equivalence_says name symbol is own = (token.Word (codes "symbol-equivalence"), token.Symbol name ∷ token.Symbol symbol ∷ [], equivalence_is_line name symbol is own, refl)

-- The line that moves a section.

section_after_is_line : (moved after : List ℕ) → IsName moved → IsName after
    → IsLine (section_after_line moved after) (token.Word (codes "reorder-section-after")) (token.Symbol moved ∷ token.Symbol after ∷ [])
unfolding is_letter is_clean directive operand_of past_blanks encode
section_after_is_line moved after is other =
    line_from (λ rest. codes "reorder-section-after" ++ 32 ∷ spelled_symbol moved (32 ∷ spelled_symbol after rest)) (token.Word (codes "reorder-section-after"))
    (token.Symbol moved ∷ token.Symbol after ∷ []) (21 + (1 + (258 + (1 + 258))))
    (spells_begun 114 (codes "eorder-section-after") (λ rest. spelled_symbol moved (32 ∷ spelled_symbol after rest)) (token.Symbol moved ∷ token.Symbol after ∷ []) (258 + (1 + 258)) refl
    (spells_names_apart moved after is other)) (omega arith) (λ special. refl)

section_after_says : (moved after : List ℕ) → IsName moved → IsName after → Says (section_after_line moved after) (line.SectionAfter moved after)
unfolding delta_line keyword_of
section_after_says moved after is other =
    (token.Word (codes "reorder-section-after"), token.Symbol moved ∷ token.Symbol after ∷ [], section_after_is_line moved after is other, refl)

-- The line that begins a block.

target_is_line : (target : Id) → IsId target → IsLine (target_line target) (token.Word (codes "reorder-after")) (id_token target ∷ [])
unfolding is_letter is_clean directive operand_of past_blanks encode
target_is_line target is =
    line_from (λ rest. codes "reorder-after" ++ 32 ∷ spelled_id target rest) (token.Word (codes "reorder-after")) (id_token target ∷ []) (13 + (1 + 258))
    (spells_begun 114 (codes "eorder-after") (spelled_id target) (id_token target ∷ []) 258 refl (spells_id target is)) (omega arith) (λ special. refl)

target_says : (target : Id) → IsId target → Says (target_line target) (line.ReorderAfter target)
unfolding delta_line keyword_of
target_says target is = (
  token.Word (codes "reorder-after"),
  id_token target ∷ [],
  target_is_line target is,
  ap (λ i. read_as line.ReorderAfter (and_then (wanted i) (λ read. ended read []))) (id_is_read target),
)

-- Order lines.

-- weights that are given are read as they are
one_read : (w : Weight) → weight_read Undefined w ≡ w
unfolding weight_read own_read
one_read Ignore = refl
one_read Own = refl
one_read (Names ids) = refl

given_read : (ws : List Weight) → map (weight_read Undefined) ws ≡ ws
given_read [] = refl
given_read (w ∷ ws) = ap (λ first. first ∷ map (weight_read Undefined) ws) (one_read w) ∙ ap (λ later. w ∷ later) (given_read ws)

-- they are spelled by some tokens
some_given : (ws : List Weight) → 1 ≤ length ws → is_own_alone ws ≡ false → 0 < length (tokens_joined (map (weight_tokens Undefined) ws))
unfolding tokens_joined tokens_behind
some_given [] some h = absurd (omega (arith, some))
some_given (Ignore ∷ []) some h = some_weights Undefined (Ignore ∷ []) refl
some_given (Own ∷ []) some h = cc
some_given (Names ids ∷ []) some h = some_weights Undefined (Names ids ∷ []) refl
some_given (w ∷ next ∷ ws) some h = omega (arith, length-append (weight_tokens Undefined w) (tokens_behind (map (weight_tokens Undefined) (next ∷ ws))))

-- an order line by its tokens
order_is_read : (id : Id) (given : Option (List Weight)) (ts : List Token) → weighted (Some id) ts ≡ Ok (record { id = id; weights = given })
    → delta_line (id_token id ∷ ts) ≡ Ok (line.Order (record { id = id; weights = given }))
unfolding delta_line
order_is_read id given ts e =
    ap (λ k. begun_row k (id_token id) ts) (id_begins_order id) ∙ ap (λ i. read_as line.Order (weighted i ts)) (id_is_read id) ∙ ap (read_as line.Order) e

given_says : (id : Id) (given : Option (List Weight)) → IsId id → AreProperWeights given → AreGiven given
    → Says (spelled_id id (given_behind given)) (line.Order (record { id = id; weights = given }))
given_says id None is proper fits = (id_token id, [], id_is_line id is, order_is_read id None [] refl)
given_says id (Some []) is proper fits = absurd (omega (arith, proper.0))
given_says id (Some (w ∷ ws)) is proper fits =
    let ts = tokens_joined (map (weight_tokens Undefined) (w ∷ ws)) in (
      id_token id,
      ts,
      weighted_is_line id Undefined (w ∷ ws) is tt proper.1 fits.0,
      order_is_read id (Some (w ∷ ws)) ts
          (weights_behind_id id (w ∷ ws) ts (some_given (w ∷ ws) proper.0 fits.1) (weights_are_read Undefined w ws proper.1 ∙ ap Ok (given_read (w ∷ ws)))),
    )

pub order_says : (o : OrderLine) → IsProperLine o → GivesWeights o → Says (order_line o) (line.Order o)
order_says o proper fits = given_says o.id o.weights proper.0 proper.1 fits

-- The lines of statements.

-- the lines of a statement, as they are read
abbrev pub statement_reads : Statement → List DeltaLine
statement_reads (statement.Symbol name) = line.Symbol name ∷ []
statement_reads (statement.Element name text) = line.Element name text ∷ []
statement_reads (statement.Equivalence name symbol) = line.Equivalence name symbol ∷ []
statement_reads (statement.Block target lines) = line.ReorderAfter target ∷ (map line.Order lines ++ line.ReorderEnd ∷ [])
statement_reads (statement.SectionAfter moved after) = line.SectionAfter moved after ∷ []
statement_reads (statement.Reweight order) = line.Order order ∷ []

orders_say : (lines : List OrderLine) → All IsProperLine lines → All GivesWeights lines → SayAll delta_line (map order_line lines) (map line.Order lines)
unfolding SayAll
orders_say [] proper fits = tt
orders_say (o ∷ os) proper fits =
    (order_says o (All-head IsProperLine o os proper) (All-head GivesWeights o os fits), orders_say os (All-tail IsProperLine o os proper) (All-tail GivesWeights o os fits))

statement_says : (s : Statement) → IsWritable s → SayAll delta_line (statement_lines s) (statement_reads s)
unfolding SayAll
statement_says (statement.Symbol name) h = (symbol_says name h.0, tt)
statement_says (statement.Element name text) h = let is = h.0 in (element_says name text is.0 is.1, tt)
statement_says (statement.Equivalence name symbol) h = let is = h.0 in (equivalence_says name symbol is.0 is.1, tt)
statement_says (statement.Block target lines) h =
    let is = h.0 in (
      target_says target is.0,
      say_append delta_line (map order_line lines) (codes "reorder-end" ∷ []) (map line.Order lines) (line.ReorderEnd ∷ []) (orders_say lines is.2 h.1)
          (say_one delta_line (codes "reorder-end") line.ReorderEnd block_end_says),
    )
statement_says (statement.SectionAfter moved after) h = let is = h.0 in (section_after_says moved after is.0 is.1, tt)
statement_says (statement.Reweight order) h = (order_says order h.0 h.1, tt)

pub statements_say : (ss : List Statement) → All IsWritable ss → SayAll delta_line (flat_map statement_lines ss) (flat_map statement_reads ss)
unfolding SayAll
statements_say [] h = tt
statements_say (s ∷ ss) h =
    say_append delta_line (statement_lines s) (flat_map statement_lines ss) (statement_reads s) (flat_map statement_reads ss) (statement_says s (All-head IsWritable s ss h))
    (statements_say ss (All-tail IsWritable s ss h))

pub copies_say : (copies : List (List ℕ)) → All IsCopyName copies → SayAll delta_line (map copy_line copies) (map (λ _. line.Copy) copies)
copies_say copies named = say_members delta_line copy_line (λ _. line.Copy) IsCopyName copy_says copies named
