-- Each level is one part.
use Rattle.std.proofs.Common.{◌+◌, ◌∷◌, false, drop, get_or, ◌∙◌, rules}
use Rattle.std.specs.List.{flat_map}
use Rattle.coll_lex.specs.Characters.{space}
use Rattle.coll_syntax.specs.declared.rules.Rule.{Rule}
use Rattle.coll_key.specs.WrittenKey.{behind_space, joined_by_spaces, key_words, level_words}
use Rattle.coll_key.proofs.WritingSteps.{left_prefix, left_less}
use Rattle.coll_key.proofs.WrittenKeys.{levels_left}
use Rattle.coll_key.proofs.written_keys.write_later_levels.Goals as goal

-- what stands behind the last rule
abbrev no_rule : Rule
no_rule = record { backward = false; position = false }

pub returns-in-Err : goal.returns-in-Err
returns-in-Err g c =
    let taken = g.W.Sink.taken in
    let given = c.args.rules.now in
    let i = c.loop-rule.rule-index in
    let level = c.split_level.result.0.now in
    let later = c.split_level.result.1.now in
    record {
      sent = left_prefix (flat_map behind_space (key_words given c.args.key.now)) (flat_map behind_space (key_words (drop i given) c.loop-rule.left.now))
          (space ∷ joined_by_spaces (level_words (get_or given i no_rule).position level)) (flat_map behind_space (key_words (drop (i + 1) given) later)) (taken c.args.out.now) (taken c.loop-rule.out)
          (taken c.write_level_behind.new.out)
          (levels_left given i no_rule c.loop-rule-test.true c.loop-rule.left.now level later c.split_level.ensures.level c.split_level.ensures.later) c.loop-rule.invariant.sent c.in-Err.ensures.sent;
      errors = search rules;
    }

pub loop-rule-preserved : goal.loop-rule-preserved
loop-rule-preserved g c =
    let taken = g.W.Sink.taken in
    let given = c.args.rules.now in
    let i = c.loop-rule.rule-index in
    let level = c.split_level.result.0.now in
    let later = c.split_level.result.1.now in
    record {
      sent = left_less (flat_map behind_space (key_words given c.args.key.now)) (flat_map behind_space (key_words (drop i given) c.loop-rule.left.now))
          (space ∷ joined_by_spaces (level_words (get_or given i no_rule).position level)) (flat_map behind_space (key_words (drop (i + 1) given) later)) (taken c.args.out.now) (taken c.loop-rule.out)
          (taken c.write_level_behind.new.out)
          (levels_left given i no_rule c.loop-rule-test.true c.loop-rule.left.now level later c.split_level.ensures.level c.split_level.ensures.later) c.loop-rule.invariant.sent c.in_default.ensures.sent;
      count = c.in_default.ensures.errors ∙ c.loop-rule.invariant.count;
    }
