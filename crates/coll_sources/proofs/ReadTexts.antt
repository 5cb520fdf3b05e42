-- A device that is read line by line, to its end.
use Rattle.std.proofs.Common.{◌≡◌, ℕ, Bool, true, false, List, [], ◌++◌, Option, Some, None, Ok, ⊎_elim, subst, sym, ap, ◌∙◌}
use Rattle.std.proofs.lemmas.Bool.{false≢true}
use Rattle.std.specs.Bool.{OnTrue, ⊤}
use Rattle.coll_devices.specs.LineReading.{ReaderState, Advances, GivesLine, GivesEnd, EndsAgain}
use Rattle.coll_sources.specs.Readers.{ReadsAll}

-- what was known of the device at the start is known still, and where its end was met no byte is left
abbrev pub IsKnown : (ended : Bool) → (start left : Option (List ℕ)) → Type 0
IsKnown ended None left = ⊤
IsKnown ended (Some text) None = ⊥
IsKnown ended (Some text) (Some rest) = OnTrue ended (rest ≡ [])

-- before the first line
pub known_first : (start : Option (List ℕ)) → IsKnown false start start
known_first None = tt
known_first (Some text) = tt

module _ (old new : ReaderState) (start left left_after : Option (List ℕ)) (failed failed_after : ℕ) where
  -- behind a line
  pub known_next : (is_line : Bool) → is_line ≡ true → Advances old new left left_after failed failed_after (Ok is_line) → IsKnown old.ended start left → IsKnown new.ended start left_after
  known_next false given advances known = absurd (false≢true given)
  known_next true given advances known = by_known start left left_after advances known where
    by_known : (start left left_after : Option (List ℕ)) → GivesLine old new left left_after failed failed_after → IsKnown old.ended start left → IsKnown new.ended start left_after
    by_known None left left_after gives known = tt
    by_known (Some text) None left_after gives known = absurd known
    by_known (Some text) (Some rest) None gives known = absurd gives.cut
    by_known (Some text) (Some rest) (Some later) gives known = gives.at_end

  -- at the end
  pub read_all : (is_line : Bool) → is_line ≡ false → Advances old new left left_after failed failed_after (Ok is_line) → IsKnown old.ended start left → ReadsAll start left_after
  read_all true none advances known = absurd (false≢true (sym none))
  read_all false none advances known = ⊎_elim
      (λ (ends : GivesEnd old new left left_after failed failed_after). by_end start left left_after ends known)
      (λ (again : EndsAgain old new left left_after failed failed_after). by_again start left left_after again (subst (λ ended. IsKnown ended start left) again.ended known)) advances where
        by_end : (start left left_after : Option (List ℕ)) → GivesEnd old new left left_after failed failed_after → IsKnown old.ended start left → ReadsAll start left_after
        by_end None left left_after ends known = tt
        by_end (Some text) None left_after ends known = absurd known
        by_end (Some text) (Some rest) None ends known = absurd ends.kept
        by_end (Some text) (Some rest) (Some later) ends known = ap Some (subst (λ (held : List ℕ). held ++ later ≡ []) ends.held ends.end)

        by_again : (start left left_after : Option (List ℕ)) → EndsAgain old new left left_after failed failed_after → IsKnown true start left → ReadsAll start left_after
        by_again None left left_after again known = tt
        by_again (Some text) None left_after again known = absurd known
        by_again (Some text) (Some rest) None again known = absurd again.kept
        by_again (Some text) (Some rest) (Some later) again known = ap Some (again.kept ∙ known)
