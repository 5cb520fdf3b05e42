-- What words are compared by.
use Rattle.std.specs.Prelude.{◌≡◌, IfSome, chars, false, string_bytes}
use Rattle.coll_nodes.specs.NodeNumbers.{AreNumbersOf}
use Rattle.coll_nodes.specs.TableLayout.{TableValue, collation}
use Rattle.coll_ranks.specs.Ranks.{AreRanksOf}
use Rattle.coll_key.specs.KeyLimits.{is_too_long}
use Rattle.coll_letters.specs.LetterWeights.{AreLetterWeights}
use Rattle.coll_reviews.specs.declared.letters.Letters.{Letters}
use Rattle.coll_reviews.specs.declared.word_orders.WordOrder.{WordOrder}
use Rattle.coll_reviews.specs.declared.word_orders.WordOrder.TheVariants.{ByRanks, ByLetters}

-- it serves a table as that stands
abbrev pub Serves : WordOrder → TableValue → Type 0
Serves (ByRanks ranks) table = AreRanksOf ranks (collation table)
Serves (ByLetters letters) table =
    AreLetterWeights (collation table) letters.weights × AreNumbersOf letters.numbers.now table.layout
    × IfSome letters.ranks (λ ranks. AreRanksOf ranks (collation table))

-- the characters and strings, one behind another, are a text that may have a key
abbrev pub MayServe : Letters → Type 0
MayServe letters = is_too_long (chars (string_bytes letters.text)) ≡ false
