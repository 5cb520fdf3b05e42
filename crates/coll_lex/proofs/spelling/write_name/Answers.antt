use Rattle.std.proofs.Common.{◌≡◌, ◌+◌, ◌-◌, [], ◌∷◌, ◌++◌, length, take, drop, get_or, sym, ap, ◌∙◌, append_assoc, arith, rules}
use Rattle.std.proofs.KnownBytes.{Appends-trans}
use Rattle.std.proofs.lemmas.List.{take_rest, drop-drop, get_or-drop}
use Rattle.coll_lex.specs.Spelling.{spelled_name}
use Rattle.coll_devices.proofs.WritingLemmas.{AppendsPrefix-before, AppendsPrefix-after, Sends-after, Sends-stopped}
use Rattle.coll_lex.proofs.SpellingLemmas.{spelled_name-all_bare, spelled_name-cut}
use Rattle.coll_lex.proofs.spelling.write_name.Goals as goal

pub returns-in_err-write_bytes : goal.returns-in_err-write_bytes
returns-in_err-write_bytes g c =
    record {
      sent = let taken = g.W.Sink.taken in
          let rest = c.escapes.rest.now in
          let at = c.in-Some.at in
          let sent = c.escapes.invariant.sent in
          let more = 47 ∷ get_or rest at 0 ∷ spelled_name (drop (at + 1) rest) [] in
          let whole : spelled_name c.args.name.now [] ≡ sent.0 ++ (take at rest ++ more) =
          sent.1 ∙ ap (λ l. sent.0 ++ l) (spelled_name-cut rest at c.in-Some.ensures.within c.in-Some.ensures.first c.in-Some.ensures.found) in
          let part = rw c.split_at.ensures.front at c.in_err-write_bytes.ensures.sent in
          rw whole
          (Sends-stopped (taken c.args.out.now) (taken c.write_bytes.new.out) (sent.0 ++ (take at rest ++ more)) c.from_residual.result c.from_residual.ensures.0
          (AppendsPrefix-after _ _ _ sent.0 (take at rest ++ more) sent.2 (AppendsPrefix-before _ _ (take at rest) more part)));
      errors = search rules;
    }

pub returns-in_err-write_bytes-2 : goal.returns-in_err-write_bytes-2
returns-in_err-write_bytes-2 g c =
    record {
      sent = let taken = g.W.Sink.taken in
          let rest = c.escapes.rest.now in
          let at = c.in-Some.at in
          let sent = c.escapes.invariant.sent in
          let more = spelled_name (drop (at + 1) rest) [] in
          let two = 47 ∷ get_or rest at 0 ∷ [] in
          let whole : spelled_name c.args.name.now [] ≡ sent.0 ++ (take at rest ++ (two ++ more)) =
          sent.1 ∙ ap (λ l. sent.0 ++ l) (spelled_name-cut rest at c.in-Some.ensures.within c.in-Some.ensures.first c.in-Some.ensures.found) in
          let run = rw c.split_at.ensures.front at c.in_ok-write_bytes.ensures.sent in
          let same : at + 0 ≡ at = omega arith in
          let first : get_or c.split_at.result.1.now 0 0 ≡ get_or rest at 0 = ap (λ l. get_or l 0 0) c.split_at.ensures.back ∙ get_or-drop at rest 0 0 ∙ ap (λ k. get_or rest k 0) same in
          let part = rw first at c.in_err-write_bytes-2.ensures.sent in
          rw whole
          (Sends-stopped (taken c.args.out.now) (taken c.write_bytes-in-Some.new.out) (sent.0 ++ (take at rest ++ (two ++ more))) c.from_residual-in_err-write_bytes-2.result
          c.from_residual-in_err-write_bytes-2.ensures.0
          (AppendsPrefix-after _ _ _ sent.0 (take at rest ++ (two ++ more)) sent.2
          (AppendsPrefix-after _ _ _ (take at rest) (two ++ more) run (AppendsPrefix-before _ _ two more part))));
      errors = search rules;
    }

pub escapes-preserved : goal.escapes-preserved
escapes-preserved g c =
    let rest = c.escapes.rest.now in
    let at = c.in-Some.at in
    let back = c.split_at.result.1.now in
    let sent = c.escapes.invariant.sent in
    let more = spelled_name (drop (at + 1) rest) [] in
    let two = 47 ∷ get_or rest at 0 ∷ [] in
    let run = rw c.split_at.ensures.front at c.in_ok-write_bytes.ensures.sent in
    let same : at + 0 ≡ at = omega arith in
    let first : get_or back 0 0 ≡ get_or rest at 0 = ap (λ l. get_or l 0 0) c.split_at.ensures.back ∙ get_or-drop at rest 0 0 ∙ ap (λ k. get_or rest k 0) same in
    let escaped = rw first at c.in_ok-write_bytes-2.ensures.sent in
    let left : take (length back - 1) (drop 1 back) ≡ drop (at + 1) rest = take_rest back 1 ∙ ap (drop 1) c.split_at.ensures.back ∙ drop-drop 1 at rest in
    let whole : spelled_name c.args.name.now [] ≡ (sent.0 ++ (take at rest ++ two)) ++ more =
    sent.1
    ∙ ap (λ l. sent.0 ++ l) (spelled_name-cut rest at c.in-Some.ensures.within c.in-Some.ensures.first c.in-Some.ensures.found ∙ sym (append_assoc (take at rest) two more))
    ∙ sym (append_assoc sent.0 (take at rest ++ two) more) in
    record {
      sent = (
        sent.0 ++ (take at rest ++ two),
        whole ∙ ap (λ l. (sent.0 ++ (take at rest ++ two)) ++ spelled_name l []) (sym left),
        Appends-trans _ _ _ sent.0 (take at rest ++ two) sent.2 (Appends-trans _ _ _ (take at rest) two run escaped),
      );
      count = c.in_ok-write_bytes-2.ensures.errors ∙ c.in_ok-write_bytes.ensures.errors ∙ c.escapes.invariant.count;
    }

pub returns : goal.returns
returns g c =
    record {
      sent = let taken = g.W.Sink.taken in
          let rest = c.escapes.rest.now in
          let sent = c.escapes.invariant.sent in
          let whole : spelled_name c.args.name.now [] ≡ sent.0 ++ rest = sent.1 ∙ ap (λ l. sent.0 ++ l) (spelled_name-all_bare rest c.in_default.ensures.none) in
          rw whole (Sends-after (taken c.args.out.now) (taken c.escapes.out) (taken c.write_bytes-2.new.out) sent.0 rest c.write_bytes-2.result sent.2 c.write_bytes-2.ensures.sent);
      errors = search rules;
    }
