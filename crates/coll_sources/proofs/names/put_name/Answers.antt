-- One more name is there.
use Rattle.std.proofs.Common.{true, string_bytes, cond, ap, ◌∙◌}
use Rattle.std.specs.Str.{bytes_eq}
use Rattle.std.specs.HashSet.{contains_text}
use Rattle.std.proofs.lemmas.Map.Text.{hash_set_updates_text}
use Rattle.coll_sources.proofs.names.put_name.Goals as goal

pub returns : goal.returns
returns c = λ word.
    hash_set_updates_text (string_bytes c.in_ok-from_str.field-0) c.args.all.now c.insert.new.self true c.in_ok-insert.ensures.updates word
    ∙ ap (λ name. cond (bytes_eq name word) true (contains_text c.args.all.now word)) c.in_ok-from_str.ensures.ok
