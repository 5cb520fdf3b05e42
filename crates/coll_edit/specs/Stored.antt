-- How many statements stand in a file, counted from the first that remains, on into those that may be put again; and how many were
-- read or written last, where all of them are still there (the project's own).
use Rattle.std.specs.Prelude.{ℕ, ◌==◌, ◌-◌, min, nat_le, nat_lt, Bool, false, if◌then◌else◌, Option, Some, None}
use Rattle.coll_edit_messages.specs.declared.changes.Asked.{Asked}
use Rattle.coll_edit_messages.specs.declared.changes.Asked.TheVariants as asked
use Rattle.coll_edit.specs.declared.stored.Stored.{Stored}

-- what stands there where that was noted, and else all of so many that remain
abbrev pub stored_in : Option Stored → (remaining : ℕ) → Stored
stored_in (Some stored) remaining = stored
stored_in None remaining = record { count = remaining; last = Some remaining }

-- so many, where all of them are among the first of so many
abbrev pub kept_to : (count : Option ℕ) → (most : ℕ) → Option ℕ
kept_to None most = None
kept_to (Some count) most = if nat_le count most then Some count else None

-- those that were read or written last are the ones that remain, so many
abbrev pub is_last : (last : Option ℕ) → (remaining : ℕ) → Bool
is_last None remaining = false
is_last (Some count) remaining = count == remaining

-- what stands there once the statement with a number was withdrawn, behind which so many remain
abbrev pub behind_withdrawal : Stored → (number remaining : ℕ) → Stored
behind_withdrawal stored number remaining =
    record {
      count = min (if nat_le number stored.count then stored.count - 1 else stored.count) remaining;
      last = kept_to stored.last (number - 1);
    }

-- what stands there behind a request, which was accepted if another number of statements remains than before
abbrev pub behind_request : Stored → Asked → (before now : ℕ) → Stored
behind_request stored asked.Statement before now =
    if nat_lt before now then record { count = min stored.count before; last = kept_to stored.last before } else stored
behind_request stored (asked.Withdrawal number) before now = if nat_lt now before then behind_withdrawal stored number now else stored
behind_request stored asked.Undo before now = stored
behind_request stored asked.Redo before now = stored
behind_request stored asked.Nothing before now = stored
