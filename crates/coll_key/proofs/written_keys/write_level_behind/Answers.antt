use Rattle.std.proofs.Common.{codes, ◌∷◌, refl, rules}
use Rattle.coll_lex.specs.Characters.{space}
use Rattle.coll_key.specs.WrittenKey.{joined_by_spaces, level_words}
use Rattle.coll_key.proofs.WritingSteps.{stops_first, writes_rest}
use Rattle.coll_key.proofs.written_keys.write_level_behind.Goals as goal

pub returns-in_err-write_bytes : goal.returns-in_err-write_bytes
returns-in_err-write_bytes g c =
    let taken = g.W.Sink.taken in
    let level = joined_by_spaces (level_words c.args.position c.args.level.now) in
    record {
      sent = stops_first (taken c.args.out.now) (taken c.write_bytes.new.out) (space ∷ level) (codes " ") level c.from_residual.result refl c.from_residual.ensures.0 c.in_err-write_bytes.ensures.sent;
      errors = search rules;
    }

pub returns : goal.returns
returns g c =
    let taken = g.W.Sink.taken in
    let level = joined_by_spaces (level_words c.args.position c.args.level.now) in
    record {
      sent = writes_rest (taken c.args.out.now) (taken c.write_bytes.new.out) (taken c.write_level.new.out) (space ∷ level) (codes " ") level c.write_level.result refl c.in_ok-write_bytes.ensures.sent
          c.write_level.ensures.sent;
      errors = search rules;
    }
