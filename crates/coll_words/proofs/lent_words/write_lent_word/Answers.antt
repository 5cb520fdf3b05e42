-- The bytes of a text are its characters, written.
use Rattle.std.proofs.Common.{◌≡◌, ◌∙◌, ◌∷◌, [], ◌++◌, ℕ, List, sym, ap, subst}
use Rattle.std.proofs.lemmas.Str.{encodes-chars}
use Rattle.coll_devices.specs.Devices.{Writes}
use Rattle.coll_word_lists.specs.KeyedWords.{KeyedWord}
use Rattle.coll_word_lists.specs.Words.{written_word}
use Rattle.coll_words.proofs.lent_words.write_lent_word.Goals as goal

pub returns : goal.returns
returns g c =
    let W = g.W.Sink in
    let same : written_word c.args.word.now.text ≡ c.word.inside.text.now ++ 10 ∷ [] =
    ap (λ (word : KeyedWord). written_word word.text) (sym c.word.view_is) ∙ ap (λ (bytes : List ℕ). bytes ++ 10 ∷ []) (encodes-chars c.word.inside.text.now c.word.invariant) in
    subst (λ (bytes : List ℕ). Writes (W.taken c.args.out.now) (W.taken c.write_pieces.new.out) (W.failed c.args.out.now) (W.failed c.write_pieces.new.out) bytes c.write_pieces.result) (sym same)
    c.write_pieces.ensures
