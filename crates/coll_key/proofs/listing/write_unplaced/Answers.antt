-- UNDEFINED is placed, or stands for itself at each level.
use Rattle.std.proofs.Common.{List, length, take, ap, sym, subst, ◌∷◌, [], ◌∙◌, rules}
use Rattle.std.specs.Option.{unwrap_or}
use Rattle.std.specs.Io.KnownBytes.{Appends}
use Rattle.std.proofs.KnownBytes.{Appends-nil}
use Rattle.coll_syntax.specs.declared.identifiers.Id.TheVariants.{Undefined}
use Rattle.coll_syntax.specs.declared.rules.Rule.{Rule}
use Rattle.coll_syntax.specs.declared.weights.Weight.TheVariants.{Own}
use Rattle.coll_nodes.specs.TableLayout.{collation}
use Rattle.coll_texts.proofs.PrintedParts.{sends_same}
use Rattle.coll_key.specs.CompiledListing.{listed_undefined}
use Rattle.coll_key.specs.ListingParts.{ranked_line}
use Rattle.coll_key.proofs.ListedLines.{undefined_is_entry, undefined_is_listed, own_levels}
use Rattle.coll_key.proofs.listing.write_unplaced.Goals as goal

pub returns-then-is_undefined_placed : goal.returns-then-is_undefined_placed
returns-then-is_undefined_placed g c =
    let taken = g.W.Sink.taken in
    record {
      sent = subst (Appends (taken c.args.out.now) (taken c.args.out.now)) (sym (undefined_is_entry (collation c.args.table.now) (sym c.if-is_undefined_placed.ensures)))
          (Appends-nil (taken c.args.out.now));
      errors = search rules;
    }

pub returns : goal.returns
returns g c =
    let taken = g.W.Sink.taken in
    let table = collation c.args.table.now in
    let four = Own ∷ Own ∷ Own ∷ Own ∷ [] in
    let rank = c.unwrap_or-rank.ensures ∙ ap (λ r. unwrap_or r 0) (c.rank.ensures.place table c.requires) in
    let own = ap (λ (rules : List Rule). take (length rules) four) c.rules.ensures ∙ own_levels (length table.rules) c.lemma_well_formed.ensures.well_formed.built.few_levels in
    record {
      sent = sends_same (taken c.args.out.now) (taken c.write_line.new.out) (listed_undefined table)
          (ranked_line c.args.ranks.now c.unwrap_or-rank.result Undefined (take (length c.rules.result.now) four))
          c.write_line.result
          (undefined_is_listed c.args.ranks.now table c.requires c.lemma_well_formed.ensures.well_formed c.unwrap_or-rank.result (take (length c.rules.result.now) four)
          (sym c.if-is_undefined_placed.ensures) rank own) c.write_line.ensures.sent;
      errors = search rules;
    }
