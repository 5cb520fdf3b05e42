-- The operands of the line of a character, read one after another as weights, and what they give.
use Rattle.std.proofs.Common.{◌≡◌, ℕ, ◌+◌, ◌≤◌, List, [], ◌∷◌, ◌++◌, length, drop, map, get_or, ap, sym, ◌∙◌}
use Rattle.std.specs.Prelude.{Result, Ok, Err}
use Rattle.std.proofs.lemmas.List.{get_or-map, length-map}
use Rattle.coll_lex.specs.declared.tokens.Token.{Token}
use Rattle.coll_syntax.specs.KeptLines.{kept_operand, kept_weights}
use Rattle.coll_syntax.specs.Operands.{all_read, operands_of}
use Rattle.coll_syntax.specs.declared.syntax_faults.SyntaxFault.{SyntaxFault}
use Rattle.coll_syntax.specs.declared.weights.Weight.{Weight}
use Rattle.coll_syntax.proofs.ListReading.{StandsAt}
use Rattle.coll_syntax.proofs.Reading.{prefixed, reads_more, reads_fault, reads_all}

-- what is read so far of the weights of a list
pub record ReadsKept (own : ℕ) (ts : List Token) (done : List Weight) (n : ℕ) : Type 0 where
  pub read : all_read (map (kept_operand own) (operands_of ts)) ≡ prefixed done (all_read (drop n (map (kept_operand own) (operands_of ts))))

module _ (own : ℕ) (ts : List Token) where
  kept_at : (n : ℕ) (operand : List Token) (d : Result Weight SyntaxFault) → StandsAt ts n operand → get_or (map (kept_operand own) (operands_of ts)) n d ≡ kept_operand own operand
  kept_at n operand d at = get_or-map (kept_operand own) (operands_of ts) n operand d at.within ∙ ap (kept_operand own) (sym at.is)

  pub kept_more : (done : List Weight) (n : ℕ) (operand : List Token) (w : Weight) → ReadsKept own ts done n → StandsAt ts n operand → kept_operand own operand ≡ Ok w
      → ReadsKept own ts (done ++ w ∷ []) (n + 1)
  kept_more done n operand w h at e = record {
    read = reads_more _ done n w h.read (rw length-map at.within) (kept_at n operand (Ok w) at ∙ e);
  }

  pub kept_fault : (done : List Weight) (n : ℕ) (operand : List Token) (f : SyntaxFault) → ReadsKept own ts done n → StandsAt ts n operand → kept_operand own operand ≡ Err f
      → kept_weights own ts ≡ Err f
  unfolding kept_weights
  kept_fault done n operand f h at e = reads_fault _ done n f h.read (rw length-map at.within) (kept_at n operand (Err f) at ∙ e)

  pub kept_all : (done : List Weight) (n : ℕ) → ReadsKept own ts done n → length (operands_of ts) ≤ n → kept_weights own ts ≡ Ok done
  unfolding kept_weights
  kept_all done n h l = reads_all _ done n h.read (rw length-map l)
