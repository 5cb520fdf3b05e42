-- A digit is 0 where the key has ended or goes on with less than a rank, and else that of its first number.
use Rattle.std.proofs.Common.{◌≡◌, ◌∙◌, ◌+◌, ◌*◌, ◌<◌, suc, ℕ, List, [], ◌∷◌, length, sym, ap, subst, rules}
use Rattle.coll_ranks.specs.WeightNumbers.{rank_step}
use Rattle.coll_words.specs.KeyLeads.{LeadsTo, HasDigit}
use Rattle.coll_words.proofs.KeyLeadLemmas.{no_numbers, leads_ended, leads_below, leads_on}
use Rattle.coll_words.proofs.key_leads.LeadDigits.longer.Goals as goal

pub returns-in-None : goal.returns-in-None
returns-in-None c =
    let numbers = c.args.self.now.numbers.items in
    let base = c.args.self.now.base in
    let none : length c.args.key.now ≡ 0 = search rules in
    let ended : c.args.key.now ≡ [] = no_numbers c.args.key.now none in
    let scaled : c.in_ok-scaled.scaled ≡ c.args.lead * base = search rules in
    λ room last leads.
    subst (λ (key : List ℕ). LeadsTo numbers base (suc room) c.args.lead key last) (sym ended)
    (leads_ended numbers base room c.args.lead last
    (subst (λ (n : ℕ). LeadsTo numbers base room n [] last) scaled (subst (λ (key : List ℕ). LeadsTo numbers base room c.in_ok-scaled.scaled key last) ended leads)))

pub returns-then-not-is_of_rank : goal.returns-then-not-is_of_rank
returns-then-not-is_of_rank c =
    let numbers = c.args.self.now.numbers.items in
    let base = c.args.self.now.base in
    let first : c.args.key.now ≡ c.in-Some.number.now ∷ c.in-Some.later.now = search rules in
    let scaled : c.in_ok-scaled.scaled ≡ c.args.lead * base = search rules in
    let below : c.in-Some.number.now < rank_step = c.is_of_rank.ensures.no c.if-not-is_of_rank.true in
    λ room last leads.
    subst (λ (key : List ℕ). LeadsTo numbers base (suc room) c.args.lead key last) (sym first)
    (leads_below numbers base room c.args.lead c.in-Some.number.now c.in-Some.later.now last below
    (subst (λ (n : ℕ). LeadsTo numbers base room n [] last) scaled leads))

pub returns-in_ok-longer-in-Some : goal.returns-in_ok-longer-in-Some
returns-in_ok-longer-in-Some c =
    let numbers = c.args.self.now.numbers.items in
    let base = c.args.self.now.base in
    let first : c.args.key.now ≡ c.in-Some.number.now ∷ c.in-Some.later.now = search rules in
    let scaled : c.in_ok-scaled.scaled ≡ c.args.lead * base = search rules in
    let longer : c.in_ok-longer-in-Some.longer ≡ c.in_ok-scaled.scaled + c.in_ok-digit-in-Some.digit = search rules in
    let has : HasDigit numbers c.in-Some.number.now c.in_ok-digit-in-Some.digit = search rules in
    λ room last leads.
    subst (λ (key : List ℕ). LeadsTo numbers base (suc room) c.args.lead key last) (sym first)
    (leads_on numbers base room c.args.lead c.in-Some.number.now c.in-Some.later.now last c.in_ok-digit-in-Some.digit has
    (subst (λ (n : ℕ). LeadsTo numbers base room n c.in-Some.later.now last) (longer ∙ ap (λ (n : ℕ). n + c.in_ok-digit-in-Some.digit) scaled) leads))
