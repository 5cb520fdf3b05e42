-- The operands of a list, read one after another as weights and as rules.
use Rattle.std.proofs.Common.{◌≡◌, ℕ, zero, suc, ◌+◌, ◌<◌, ◌≤◌, List, [], ◌∷◌, ◌++◌, length, take, drop, map, get_or, refl, ap, sym, ◌∙◌, arith}
use Rattle.std.specs.Prelude.{Result, Ok, Err}
use Rattle.std.proofs.lemmas.List.{get_or-map, length-map}
use Rattle.std.proofs.lemmas.List.Splits.{length-slice_split}
use Rattle.coll_lex.specs.declared.tokens.Token.{Token}
use Rattle.coll_syntax.specs.Operands.{all_read, operands_of, is_semicolon}
use Rattle.coll_syntax.specs.Weights.{operand_weight, weights}
use Rattle.coll_syntax.specs.Rules.{rule, judged_levels, rules}
use Rattle.coll_syntax.specs.declared.rules.Rule.{Rule}
use Rattle.coll_syntax.specs.declared.weights.Weight.{Weight}
use Rattle.coll_syntax.specs.declared.syntax_faults.SyntaxFault.{SyntaxFault}
use Rattle.coll_syntax.specs.declared.syntax_faults.SyntaxFault.TheVariants.{TooManyLevels}
use Rattle.coll_syntax.proofs.Reading.{prefixed, reads_more, reads_fault, reads_all}

-- this operand stands at this place of the list
pub record StandsAt (ts : List Token) (n : ℕ) (operand : List Token) : Type 0 where
  pub within : n < length (operands_of ts)
  pub is : operand ≡ get_or (operands_of ts) n operand

pub stands_at : (ts : List Token) (n : ℕ) (operand : List Token) → n < length (operands_of ts) → operand ≡ get_or (operands_of ts) n operand → StandsAt ts n operand
stands_at ts n operand l e = record { within = l; is = e }

-- what is read so far of the weights of a list
pub record ReadsWeights (ts : List Token) (done : List Weight) (n : ℕ) : Type 0 where
  pub read : all_read (map operand_weight (operands_of ts)) ≡ prefixed done (all_read (drop n (map operand_weight (operands_of ts))))

weight_at : (ts : List Token) (n : ℕ) (operand : List Token) (d : Result Weight SyntaxFault) → StandsAt ts n operand → get_or (map operand_weight (operands_of ts)) n d ≡ operand_weight operand
weight_at ts n operand d at = get_or-map operand_weight (operands_of ts) n operand d at.within ∙ ap operand_weight (sym at.is)

pub weights_more : (ts : List Token) (done : List Weight) (n : ℕ) (operand : List Token) (w : Weight) → ReadsWeights ts done n → StandsAt ts n operand → operand_weight operand ≡ Ok w
    → ReadsWeights ts (done ++ w ∷ []) (n + 1)
weights_more ts done n operand w h at e = record {
  read = reads_more _ done n w h.read (rw length-map at.within) (weight_at ts n operand (Ok w) at ∙ e);
}

pub weights_fault : (ts : List Token) (done : List Weight) (n : ℕ) (operand : List Token) (f : SyntaxFault) → ReadsWeights ts done n → StandsAt ts n operand → operand_weight operand ≡ Err f
    → weights ts ≡ Err f
unfolding weights
weights_fault ts done n operand f h at e = reads_fault _ done n f h.read (rw length-map at.within) (weight_at ts n operand (Err f) at ∙ e)

pub weights_all : (ts : List Token) (done : List Weight) (n : ℕ) → ReadsWeights ts done n → length (operands_of ts) ≤ n → weights ts ≡ Ok done
unfolding weights
weights_all ts done n h l = reads_all _ done n h.read (rw length-map l)

-- the first so many operands as rules, and the others as too many
abbrev judged : ℕ → List (List Token) → List (Result Rule SyntaxFault)
judged m ops = map rule (take m ops) ++ map (λ _. Err TooManyLevels) (drop m ops)

length-judged : (m : ℕ) (ops : List (List Token)) → length (judged m ops) ≡ length ops
length-judged zero ops = simp length-map
length-judged (suc m) [] = refl
length-judged (suc m) (op ∷ ops) = ap (λ n. suc n) (length-judged m ops)

-- each operand is judged
pub length-judged_levels : (ops : List (List Token)) → length (judged_levels ops) ≡ length ops
length-judged_levels ops = length-judged 4 ops

judged-low : (m n : ℕ) (ops : List (List Token)) (x : List Token) (d : Result Rule SyntaxFault) → n < length ops → n < m → get_or (judged m ops) n d ≡ rule (get_or ops n x)
judged-low zero n ops x d l k = absurd (omega (arith, k))
judged-low (suc m) n [] x d l k = absurd (omega (arith, l))
judged-low (suc m) zero (op ∷ ops) x d l k = refl
judged-low (suc m) (suc n) (op ∷ ops) x d l k = judged-low m n ops x d (omega (arith, l)) (omega (arith, k))

judged-past : (m : ℕ) (ops : List (List Token)) (d : Result Rule SyntaxFault) → m < length ops → get_or (judged m ops) m d ≡ Err TooManyLevels
judged-past m [] d l = absurd (omega (arith, l))
judged-past zero (op ∷ ops) d l = refl
judged-past (suc m) (op ∷ ops) d l = judged-past m ops d (omega (arith, l))

-- what is read so far of the rules of a list
pub record ReadsRules (ts : List Token) (done : List Rule) (n : ℕ) : Type 0 where
  pub read : all_read (judged_levels (operands_of ts)) ≡ prefixed done (all_read (drop n (judged_levels (operands_of ts))))

rule_at : (ts : List Token) (n : ℕ) (operand : List Token) (d : Result Rule SyntaxFault) → StandsAt ts n operand → n < 4 → get_or (judged_levels (operands_of ts)) n d ≡ rule operand
rule_at ts n operand d at k = judged-low 4 n (operands_of ts) operand d at.within k ∙ ap rule (sym at.is)

pub rules_more : (ts : List Token) (done : List Rule) (n : ℕ) (operand : List Token) (r : Rule) → ReadsRules ts done n → StandsAt ts n operand → n < 4 → rule operand ≡ Ok r
    → ReadsRules ts (done ++ r ∷ []) (n + 1)
rules_more ts done n operand r h at k e = record {
  read = reads_more _ done n r h.read (rw length-judged at.within) (rule_at ts n operand (Ok r) at k ∙ e);
}

pub rules_fault : (ts : List Token) (done : List Rule) (n : ℕ) (operand : List Token) (f : SyntaxFault) → ReadsRules ts done n → StandsAt ts n operand → n < 4 → rule operand ≡ Err f → rules ts ≡ Err f
unfolding rules
rules_fault ts done n operand f h at k e = reads_fault _ done n f h.read (rw length-judged at.within) (rule_at ts n operand (Err f) at k ∙ e)

pub rules_past : (ts : List Token) (done : List Rule) (n : ℕ) (operand : List Token) → ReadsRules ts done n → StandsAt ts n operand → n ≡ 4 → rules ts ≡ Err TooManyLevels
unfolding rules
rules_past ts done n operand h at k =
    let fifth : 4 < length (operands_of ts) = let w = at.within in omega arith in
    reads_fault _ done n TooManyLevels h.read (rw length-judged at.within) (rw k (judged-past 4 (operands_of ts) (Err TooManyLevels) fifth))

pub rules_all : (ts : List Token) (done : List Rule) (n : ℕ) → ReadsRules ts done n → length (operands_of ts) ≤ n → rules ts ≡ Ok done
unfolding rules
rules_all ts done n h l = reads_all _ done n h.read (rw length-judged l)

-- a list has an operand, perhaps an empty one
pub some_operand : (ts : List Token) → 0 < length (operands_of ts)
some_operand ts = omega (arith, length-slice_split is_semicolon ts)
