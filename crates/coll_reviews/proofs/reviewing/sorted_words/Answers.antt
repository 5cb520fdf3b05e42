-- The words are sorted, and then kept.
use Rattle.std.proofs.Common.{List, map, ap, ◌∙◌}
use Rattle.coll_reviews.specs.KeptWords.{keyed_line, kept_line}
use Rattle.coll_reviews.specs.declared.numbered_words.KeyedLine.{KeyedLine}
use Rattle.coll_reviews.proofs.ReviewLemmas.{sorts_lines}
use Rattle.coll_reviews.proofs.reviewing.sorted_words.Goals as goal

pub returns-in-Ok-kept_words : goal.returns-in-Ok-kept_words
returns-in-Ok-kept_words c =
    sorts_lines c.args.list.now.items c.sort_numbered.new.list.items (map kept_line c.in-Ok-kept_words.kept.items) c.sort_numbered.ensures.same c.in-Ok.ensures.sorted
    (c.in-Ok-kept_words.ensures ∙ ap (λ (l : List KeyedLine). map keyed_line l) c.deref.ensures.value)
