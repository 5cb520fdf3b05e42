use Rattle.std.proofs.Common.{◌∙◌, sym, string_bytes}
use Rattle.std.specs.Str.{bytes_eq}
use Rattle.coll_sources.proofs.AnyLemmas.{any_made}
use Rattle.coll_sources.proofs.readers.SourceReader.defines.Goals as goal

pub returns : goal.returns
returns c = rw (← c.self.view_is) (c.contains.ensures ∙ sym (any_made (bytes_eq c.args.name.now) string_bytes c.self.inside.defined.keys))
