-- What is defined are the names that are given.
use Rattle.std.proofs.Common.{string_bytes, ◌∙◌}
use Rattle.std.specs.Str.{bytes_eq}
use Rattle.coll_sources.proofs.AnyLemmas.{any_made}
use Rattle.coll_sources.proofs.readers.SourceReader.new.Goals as goal

pub returns-in-Ok-clause-defined : goal.returns-in-Ok-clause-defined
returns-in-Ok-clause-defined c = λ name. any_made (bytes_eq name) string_bytes c.in-Ok.defined.keys ∙ c.in-Ok.ensures name
