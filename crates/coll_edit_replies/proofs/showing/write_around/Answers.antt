-- The lines of the places around one.
use Rattle.std.proofs.Common.{◌≡◌, ◌+◌, ◌-◌, codes, refl, sym, ap, ◌∙◌, subst, arith}
use Rattle.std.specs.Prelude.{option_copied}
use Rattle.coll_devices.specs.Devices.{Writes}
use Rattle.coll_nodes.specs.Table.{entries_of}
use Rattle.coll_nodes.specs.TableLayout.{collation}
use Rattle.coll_edit_replies.specs.Showing.{entry_in}
use Rattle.coll_edit_replies.proofs.ShowingLemmas.{line_is, lines_around}
use Rattle.coll_edit_replies.proofs.showing.write_around.Goals as goal

pub returns : goal.returns
returns g c =
    let taken = g.W.Sink.taken in
    let failed = g.W.Sink.failed in
    let entries = entries_of (collation c.args.table.now) in
    let spot = c.args.spot.now in
    let n = spot.rank in
    let second : option_copied c.entry_before-second.result ≡ entry_in entries (n - 2) =
    c.entry_before-second.ensures (n - 1) (omega (arith, c.requires.within)) c.requires.before_is ∙ ap (entry_in entries) (let less : n - 1 - 1 ≡ n - 2 = omega arith in less) in
    let first : option_copied c.entry_before-first.result ≡ entry_in entries (n - 3) =
    c.entry_before-first.ensures (n - 2) (omega (arith, c.requires.within)) second ∙ ap (entry_in entries) (let less : n - 2 - 1 ≡ n - 3 = omega arith in less) in
    let next : option_copied c.entry_behind-next.result ≡ entry_in entries (n + 2) =
    c.entry_behind-next.ensures (n + 1) (omega arith) c.requires.behind_is ∙ ap (entry_in entries) (let more : n + 1 + 1 ≡ n + 2 = omega arith in more) in
    let last : option_copied c.entry_behind-last.result ≡ entry_in entries (n + 3) =
    c.entry_behind-last.ensures (n + 2) (omega arith) next ∙ ap (entry_in entries) (let more : n + 2 + 1 ≡ n + 3 = omega arith in more) in
    let blank = codes "  " in
    subst (λ bytes. Writes (taken c.args.out.now) (taken c.write_marked.new.out) (failed c.args.out.now) (failed c.write_marked.new.out) bytes c.write_marked.result)
    (sym (lines_around entries n _ _ _ _ _ _ _ (line_is blank entries (n - 3) _ _ _ c.beside.ensures c.saturating_sub.ensures first)
    (line_is blank entries (n - 2) _ _ _ c.beside-2.ensures c.saturating_sub-2.ensures second)
    (line_is blank entries (n - 1) _ _ _ c.beside-3.ensures c.saturating_sub-3.ensures c.requires.before_is)
    (line_is (codes "> ") entries n n (option_copied spot.here) _ refl refl c.requires.here_is)
    (line_is blank entries (n + 1) _ _ _ c.beside-4.ensures refl c.requires.behind_is)
    (line_is blank entries (n + 2) _ _ _ c.beside-5.ensures refl next)
    (line_is blank entries (n + 3) _ _ _ c.beside-6.ensures refl last))) c.write_marked.ensures
