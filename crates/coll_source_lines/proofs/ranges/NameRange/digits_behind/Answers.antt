-- A name is cut where the letters end.
use Rattle.std.proofs.Common.{◌≡◌, ◌≢◌, ◌∙◌, chars, encode_utf8_all, length, take, drop, sym, ap, rules}
use Rattle.std.specs.Str.{IsUtf8}
use Rattle.std.proofs.lemmas.Slice.Eq.{bytes_eq-Decides}
use Rattle.coll_source_lines.proofs.RangeLemmas.{front_is, has_digits}
use Rattle.coll_source_lines.proofs.ranges.NameRange.digits_behind.Goals as goal

pub returns-then-ne-clause-none : goal.returns-then-ne-clause-none
returns-then-ne-clause-none c = λ digits has.
    let letters = c.as_bytes-letters.result.now in
    let bytes : encode_utf8_all c.args.self.now.letters ≡ letters = c.get.ensures.bytes ∙ sym c.as_bytes-letters.ensures.value in
    let cut = c.in_ok-front.ensures.cases in
    let front : c.in_ok-front.front.now ≡ take (length letters) c.args.name.now = search rules in
    let other : c.in_ok-front.front.now ≢ letters = search (rules, bytes_eq-Decides) in
    other (front ∙ front_is c.args.self.now c.args.name.now letters bytes digits has)

pub returns-clause-some : goal.returns-clause-some
returns-clause-some c =
    let letters = c.as_bytes-letters.result.now in
    let bytes : encode_utf8_all c.args.self.now.letters ≡ letters = c.get.ensures.bytes ∙ sym c.as_bytes-letters.ensures.value in
    let cut = c.in_ok-front.ensures.cases in
    let front : c.in_ok-front.front.now ≡ take (length letters) c.args.name.now = search rules in
    let behind : c.in_ok-front.digits.now ≡ drop (length letters) c.args.name.now = search rules in
    let same : c.in_ok-front.front.now ≡ letters = search (rules, bytes_eq-Decides) in
    let named : chars letters ≡ c.args.self.now.letters = ap chars c.as_bytes-letters.ensures.value ∙ c.get.ensures.characters in
    let utf8 : IsUtf8 letters = c.as_bytes-letters.ensures.utf8 in
    let width : length c.in_ok-front.digits.now ≡ c.args.self.now.width = search rules in
    has_digits c.args.self.now c.args.name.now letters bytes c.in_ok-front.front.now c.in_ok-front.digits.now utf8 named front behind same width
