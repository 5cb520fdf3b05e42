-- Words that are lent, each with the lead of its key before it.
use Rattle.std.specs.Prelude.{◌≡◌, ℕ, ◌<◌, List, ◌∷◌, All, length, map, drop}
use Rattle.coll_nodes.specs.Table.{Collation}
use Rattle.coll_words.specs.FirstKeys.{packed_first_key}
use Rattle.coll_words.specs.KeyLeads.{AreRising, LeadsTo}
use Rattle.coll_word_lists.specs.KeyedWords.{KeyedWord}

-- the lead of a key stands before it
pub record IsLedKey (numbers : List ℕ) (base room : ℕ) (key led : List ℕ) : Type 0 where
  pub lead : ℕ
  pub is : led ≡ lead ∷ key
  pub leads : LeadsTo numbers base room 0 key lead

-- a word without the lead of its key
abbrev pub without_lead : KeyedWord → KeyedWord
without_lead word = record { text = word.text; key = drop 1 word.key }

-- a word has a lead before its key
abbrev pub HasLead : (numbers : List ℕ) → (base room : ℕ) → KeyedWord → Type 0
HasLead numbers base room word = IsLedKey numbers base room (drop 1 word.key) word.key

-- a word is lent with a lead
pub record IsLent (numbers : List ℕ) (base room : ℕ) (word lent : KeyedWord) : Type 0 where
  pub led : HasLead numbers base room lent
  pub same : without_lead lent ≡ word

-- numbers that have digits
pub record AreDigits (numbers : List ℕ) (base : ℕ) : Type 0 where
  pub rising : AreRising numbers
  pub less : length numbers < base

-- words are lent with leads by the same digits
pub record AreLent (words lent : List KeyedWord) : Type 0 where
  pub numbers : List ℕ
  pub base : ℕ
  pub room : ℕ
  pub digits : AreDigits numbers base
  pub led : All (HasLead numbers base room) lent
  pub same : map without_lead lent ≡ words

-- a word has as its key what it is sorted by first, behind the lead of that
abbrev pub IsLedFirst : Collation → (numbers : List ℕ) → (base room : ℕ) → KeyedWord → Type 0
IsLedFirst table numbers base room word = IsLedKey numbers base room (packed_first_key table word.text) word.key

-- words have such keys, by the same digits
pub record AreLedFirst (table : Collation) (words : List KeyedWord) : Type 0 where
  pub numbers : List ℕ
  pub base : ℕ
  pub room : ℕ
  pub digits : AreDigits numbers base
  pub led : All (IsLedFirst table numbers base room) words
