use Rattle.std.proofs.Common.{◌≡◌, ◌+◌, ◌≤◌, [], ◌∷◌, ◌++◌, length, take, get_or, sym, ap, ◌∙◌, arith}
use Rattle.std.proofs.lemmas.List.{take_more}
use Rattle.arrayvec.specs.ArrayVec.{array_vec_len}
use Rattle.coll_lex.specs.Spelling.{spelled_char, spelled_name}
use Rattle.coll_lex.proofs.SpellingLemmas.{spelled_name-nil, spelled_name-push}
use Rattle.coll_lex.proofs.spelling.symbol_bytes.Goals as goal

pub name-init : goal.name-init
name-init g c =
    let items : c.push.new.self.items ≡ 60 ∷ [] = c.push.ensures.items ∙ ap (λ l. l ++ 60 ∷ []) c.new-bytes.ensures in
    let room : array_vec_len c.push.new.self ≤ 1 = omega (arith, ap length items) in
    record { items = items ∙ ap (λ l. 60 ∷ l) (sym (spelled_name-nil [])); room = room }

pub name-preserved : goal.name-preserved
name-preserved g c =
    let name = c.args.name.now in
    let i = c.name.byte-index in
    let more = take_more name i 0 c.name-test.true in
    let spelled : spelled_name (take (i + 1) name) [] ≡ spelled_name (take i name) [] ++ spelled_char (get_or name i 0) [] =
    ap (λ l. spelled_name l []) more ∙ spelled_name-push (take i name) (get_or name i 0) in
    record {
      items = c.push_spelled.ensures.spelled ∙ ap (λ l. l ++ spelled_char (get_or name i 0) []) c.name.invariant.items ∙ ap (λ l. 60 ∷ l) (sym spelled);
      room = omega (arith, c.push_spelled.ensures.room, c.name.invariant.room);
    }
