-- Each part, one behind another.
use Rattle.std.proofs.Common.{ℕ, List, Bor, ◌++◌, refl, rules}
use Rattle.std.specs.Option.{option_copied, option_map}
use Rattle.std.specs.Prelude.{chars}
use Rattle.coll_devices.proofs.WritingLemmas.{Sends-after}
use Rattle.coll_texts.proofs.PrintedParts.{stops_first}
use Rattle.coll_advice.specs.AdviceLines.{near_bytes, sentence_bytes, subject_bytes}
use Rattle.coll_advice.proofs.advice_lines.write_told.Goals as goal

pub returns-in_err-write_subject : goal.returns-in_err-write_subject
returns-in_err-write_subject g c =
    let taken = g.W.Sink.taken in
    let near = near_bytes (option_map (λ (name : Bor (List ℕ)). chars name.now) c.args.near) in
    record {
      sent = stops_first (taken c.args.out.now) (taken c.write_subject.new.out) _ (subject_bytes (option_copied c.args.id)) (sentence_bytes (option_copied c.args.sentence) ++ near)
          c.from_residual.result refl
          c.from_residual.ensures.0 c.in_err-write_subject.ensures.sent;
      errors = search rules;
    }

pub returns-in_err-write_sentence : goal.returns-in_err-write_sentence
returns-in_err-write_sentence g c =
    let taken = g.W.Sink.taken in
    let near = near_bytes (option_map (λ (name : Bor (List ℕ)). chars name.now) c.args.near) in
    let sentence = sentence_bytes (option_copied c.args.sentence) in
    record {
      sent = Sends-after (taken c.args.out.now) (taken c.write_subject.new.out) (taken c.write_sentence.new.out) (subject_bytes (option_copied c.args.id)) (sentence ++ near)
          c.from_residual-in_err-write_sentence.result c.in_ok-write_subject.ensures.sent
          (stops_first (taken c.write_subject.new.out) (taken c.write_sentence.new.out) _ sentence near c.from_residual-in_err-write_sentence.result refl
          c.from_residual-in_err-write_sentence.ensures.0
          c.in_err-write_sentence.ensures.sent);
      errors = search rules;
    }

pub returns : goal.returns
returns g c =
    let taken = g.W.Sink.taken in
    let near = near_bytes (option_map (λ (name : Bor (List ℕ)). chars name.now) c.args.near) in
    let sentence = sentence_bytes (option_copied c.args.sentence) in
    record {
      sent = Sends-after (taken c.args.out.now) (taken c.write_subject.new.out) (taken c.write_near.new.out) (subject_bytes (option_copied c.args.id)) (sentence ++ near) c.write_near.result
          c.in_ok-write_subject.ensures.sent
          (Sends-after (taken c.write_subject.new.out) (taken c.write_sentence.new.out) (taken c.write_near.new.out) sentence near c.write_near.result c.in_ok-write_sentence.ensures.sent
          c.write_near.ensures.sent);
      errors = search rules;
    }
