-- What is cut off stands behind, and where less is left nothing is.
use Rattle.std.proofs.Common.{◌≡◌, arith, drop, length, sym, take}
use Rattle.std.proofs.lemmas.List.{length-take-le, take-append-drop}
use Rattle.coll_refused_lines.proofs.refused_lines.first_part.Goals as goal

pub returns : goal.returns
returns c =
    let line = c.args.line.now in
    let most = c.args.most in
    let all : length (take most line) ≡ most = length-take-le most line (omega arith) in
    record {
      cut = drop most line;
      is = sym (take-append-drop most line);
      whole = λ less. absurd (omega (arith, all, less));
    }
