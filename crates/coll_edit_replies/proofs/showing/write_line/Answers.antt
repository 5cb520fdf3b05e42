-- The mark and the rank, and the entry; and no line where there is none.
use Rattle.std.proofs.Common.{◌≡◌, ◌++◌, ℕ, List, Option, Some, codes, ap, sym, ◌∙◌, append_assoc, subst, rules}
use Rattle.std.specs.Prelude.{decimal, option_copied}
use Rattle.coll_devices.specs.Devices.{AppendsPrefix, Sends}
use Rattle.coll_devices.proofs.WritingLemmas.{AppendsPrefix-before, Sends-after}
use Rattle.coll_nodes.specs.declared.entries.Entry.{Entry}
use Rattle.coll_texts.specs.WeighedEntries.{weighed_line}
use Rattle.coll_edit_replies.specs.Showing.{line_if}
use Rattle.coll_edit_replies.proofs.showing.write_line.Goals as goal

whole : (mark : List ℕ) (rank : ℕ) (one : Option Entry) (entry : Entry) → one ≡ Some entry
    → (mark ++ (decimal rank ++ codes " ")) ++ weighed_line entry ≡ line_if mark rank one
whole mark rank one entry is =
    append_assoc mark (decimal rank ++ codes " ") (weighed_line entry) ∙ ap (λ l. mark ++ l) (append_assoc (decimal rank) (codes " ") (weighed_line entry))
    ∙ sym (ap (line_if mark rank) is)

pub returns-in-Ok : goal.returns-in-Ok
returns-in-Ok g c =
    let taken = g.W.Sink.taken in
    let line = c.args.line.now in
    let entry = c.in-Some.entry.now in
    record {
      sent = subst (λ bytes. Sends (taken c.args.out.now) (taken c.write_weighed.new.out) bytes c.write_weighed.result)
          (whole line.mark.now line.rank (option_copied line.entry) entry (ap option_copied c.in-Some.is))
          (Sends-after (taken c.args.out.now) (taken c.write_pieces.new.out) (taken c.write_weighed.new.out) (line.mark.now ++ (decimal line.rank ++ codes " ")) (weighed_line entry)
          c.write_weighed.result c.in-Ok.ensures.sent c.write_weighed.ensures.sent);
      errors = search rules;
    }

pub returns-in-Err : goal.returns-in-Err
returns-in-Err g c =
    let taken = g.W.Sink.taken in
    let line = c.args.line.now in
    let entry = c.in-Some.entry.now in
    record {
      sent = subst (AppendsPrefix (taken c.args.out.now) (taken c.write_pieces.new.out))
          (whole line.mark.now line.rank (option_copied line.entry) entry (ap option_copied c.in-Some.is))
          (AppendsPrefix-before (taken c.args.out.now) (taken c.write_pieces.new.out) (line.mark.now ++ (decimal line.rank ++ codes " ")) (weighed_line entry) c.in-Err.ensures.sent);
      errors = search rules;
    }
