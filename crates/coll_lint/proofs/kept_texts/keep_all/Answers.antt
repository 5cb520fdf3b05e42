-- Each read keeps what it gave, and at the end all is kept.
use Rattle.std.proofs.Common.{List, ℕ, sym, ap, subst, refl, ◌∙◌, length, arith}
use Rattle.std.specs.Io.KnownBytes.{Consumes}
use Rattle.std.proofs.KnownBytes.{Consumes-nil}
use Rattle.coll_lint.proofs.KeptLemmas.{all_kept, keeps_more}
use Rattle.coll_lint.proofs.kept_texts.keep_all.Goals as goal

pub reads-init : goal.reads-init
reads-init g c =
    let left = g.R.Source.left c.args.source.now in
    record {
      kept = subst (λ (kept : List ℕ). Consumes left left kept) (sym c.requires.none) (Consumes-nil left);
      errors = refl;
      most = let few = ap length c.requires.none in omega (arith, few);
    }

pub reads-preserved : goal.reads-preserved
reads-preserved g c =
    let left = g.R.Source.left in
    record {
      kept = keeps_more (left c.args.source.now) (left c.reads.source) (left c.read_part.new.source) c.reads.kept.items c.read_part.new.kept.items c.reads.invariant.kept c.in-Ok-true.ensures.part;
      errors = c.in-Ok-true.ensures.reads ∙ c.reads.invariant.errors;
      most = c.in-Ok-true.ensures.most c.reads.invariant.most;
    }

pub returns-in-Ok-false-clause-text : goal.returns-in-Ok-false-clause-text
returns-in-Ok-false-clause-text g c =
    let left = g.R.Source.left in
    all_kept (left c.args.source.now) (left c.read_part.new.source) c.read_part.new.kept.items
    (keeps_more (left c.args.source.now) (left c.reads.source) (left c.read_part.new.source) c.reads.kept.items c.read_part.new.kept.items c.reads.invariant.kept c.in-Ok-false.ensures.part)
    (c.in-Ok-false.ensures.end c.in-Ok-false.field-0-test)
