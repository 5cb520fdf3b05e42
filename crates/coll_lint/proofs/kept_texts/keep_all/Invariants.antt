-- What is kept was read, and no read failed.
use Rattle.std.proofs.Common.{◌≡◌, ◌≤◌, length}
use Rattle.std.specs.Io.KnownBytes.{Consumes}
use Rattle.coll_lint.specs.KeptTexts.{most_text_bytes}
use Rattle.coll_lint.proofs.kept_texts.keep_all.Given as goal

abbrev pub invariant-reads : goal.invariant-reads
invariant-reads g l = record {
  kept : Consumes (g.R.Source.left l.initial.source) (g.R.Source.left l.source) l.kept.items;
  errors : g.R.Source.failed l.source ≡ g.R.Source.failed l.initial.source;
  most : length l.kept.items ≤ most_text_bytes;
}
