-- The place, and what stands there in either list.
use Rattle.std.proofs.Common.{◌++◌, ◌∙◌, Option, codes, refl, ap, rules}
use Rattle.std.specs.Prelude.{option_map}
use Rattle.coll_devices.proofs.WritingLemmas.{Sends-after}
use Rattle.coll_texts.proofs.PrintedParts.{stops_first, writes_rest}
use Rattle.coll_explanations.specs.Explanations.{difference_words}
use Rattle.coll_explanations.specs.ToldSteps.{apart_of}
use Rattle.coll_explanations.specs.declared.differences.Difference.{Difference}
use Rattle.coll_explanations.proofs.ExplanationParts.{place_parts, place_start}
use Rattle.coll_explanations.proofs.lines.write_difference.Goals as goal

pub returns-in_err-write_pieces : goal.returns-in_err-write_pieces
returns-in_err-write_pieces g c =
    let taken = g.W.Sink.taken in
    let apart = apart_of c.in-Some.apart in
    let parts = ap (λ (d : Option Difference). difference_words (option_map apart_of d)) c.in-Some.is ∙ place_parts apart in
    record {
      sent = stops_first (taken c.args.out.now) (taken c.write_pieces.new.out) (difference_words (option_map apart_of c.args.difference)) (place_start apart.place) ((apart.words ++ codes ", ") ++
          (apart.other_words ++ codes "\n"))
          c.from_residual.result parts c.from_residual.ensures.0 c.in_err-write_pieces.ensures.sent;
      errors = search rules;
    }

pub returns-in_err-write_words : goal.returns-in_err-write_words
returns-in_err-write_words g c =
    let taken = g.W.Sink.taken in
    let apart = apart_of c.in-Some.apart in
    let parts = ap (λ (d : Option Difference). difference_words (option_map apart_of d)) c.in-Some.is ∙ place_parts apart in
    record {
      sent = writes_rest (taken c.args.out.now) (taken c.write_pieces.new.out) (taken c.write_words.new.out) (difference_words (option_map apart_of c.args.difference)) (place_start apart.place)
          ((apart.words ++ codes ", ") ++ (apart.other_words ++ codes "\n")) c.from_residual-in_err-write_words.result parts c.in_ok-write_pieces.ensures.sent
          (stops_first (taken c.write_pieces.new.out) (taken c.write_words.new.out) _ (apart.words ++ codes ", ") (apart.other_words ++ codes "\n") c.from_residual-in_err-write_words.result refl
          c.from_residual-in_err-write_words.ensures.0 c.in_err-write_words.ensures.sent);
      errors = search rules;
    }

pub returns : goal.returns
returns g c =
    let taken = g.W.Sink.taken in
    let apart = apart_of c.in-Some.apart in
    let parts = ap (λ (d : Option Difference). difference_words (option_map apart_of d)) c.in-Some.is ∙ place_parts apart in
    record {
      sent = writes_rest (taken c.args.out.now) (taken c.write_pieces.new.out) (taken c.write_words-2.new.out) (difference_words (option_map apart_of c.args.difference)) (place_start apart.place)
          ((apart.words ++ codes ", ") ++ (apart.other_words ++ codes "\n")) c.write_words-2.result parts c.in_ok-write_pieces.ensures.sent
          (Sends-after (taken c.write_pieces.new.out) (taken c.write_words.new.out) (taken c.write_words-2.new.out) (apart.words ++ codes ", ") (apart.other_words ++ codes "\n") c.write_words-2.result
          c.in_ok-write_words.ensures.sent c.write_words-2.ensures.sent);
      errors = search rules;
    }
