-- A text is cut where its rest begins.
use Rattle.std.proofs.Common.{◌≡◌, ◌-◌, ◌++◌, take, ap, ap₂, sym, subst, ◌∙◌, arith, length, length-append, chars}
use Rattle.std.proofs.Math.Seq.{take-append_seam}
use Rattle.std.proofs.lemmas.Str.{chars-append, IsCharBoundary-at_seam, IsUtf8-take}
use Rattle.std.specs.Str.{IsCharBoundary, IsUtf8}
use Rattle.coll_letters.proofs.first_pieces.before.Goals as goal

pub split_at-requires : goal.split_at-requires
split_at-requires c =
    let counted = ap length c.requires.1 ∙ length-append c.requires.0 c.args.rest.now in
    let size : length c.requires.0 ≡ length c.args.text.now - length c.args.rest.now = omega (arith, counted) in
    subst (IsCharBoundary c.args.text.now) size (IsCharBoundary-at_seam c.args.text.now c.requires.0 c.args.rest.now c.requires.1 c.utf8.rest)

pub returns : goal.returns
returns c =
    let counted = ap length c.requires.1 ∙ length-append c.requires.0 c.args.rest.now in
    let size : length c.args.text.now - length c.args.rest.now ≡ length c.requires.0 = omega (arith, counted) in
    let seam = take-append_seam c.requires.0 c.args.rest.now in
    let prefix : c.split_at.result.0.now ≡ c.requires.0 = c.split_at.ensures.front ∙ (ap₂ (λ n bs. take n bs) size c.requires.1 ∙ seam) in
    let boundary = IsCharBoundary-at_seam c.args.text.now c.requires.0 c.args.rest.now c.requires.1 c.utf8.rest in
    let utf8 : IsUtf8 c.requires.0 = subst IsUtf8 (ap (take (length c.requires.0)) c.requires.1 ∙ seam) (IsUtf8-take c.args.text.now (length c.requires.0) c.utf8.text boundary) in
    ap chars c.requires.1 ∙ (chars-append c.requires.0 c.args.rest.now utf8 ∙ ap (λ bs. chars bs ++ chars c.args.rest.now) (sym prefix))
