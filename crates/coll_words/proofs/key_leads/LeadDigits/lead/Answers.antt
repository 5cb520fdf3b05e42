-- No digit is left.
use Rattle.std.proofs.Common.{◌≡◌, ℕ, subst, arith}
use Rattle.coll_words.specs.KeyLeads.{LeadsTo}
use Rattle.coll_words.proofs.KeyLeadLemmas.{leads_all}
use Rattle.coll_words.proofs.key_leads.LeadDigits.lead.Goals as goal

pub returns : goal.returns
returns c =
    let self = c.args.self.now in
    let none : 0 ≡ c.digits.room = omega (arith, c.digits-test.false) in
    c.digits.invariant.leads c.digits.lead
    (subst (λ (room : ℕ). LeadsTo self.numbers.items self.base room c.digits.lead c.digits.left.now c.digits.lead) none
    (leads_all self.numbers.items self.base c.digits.lead c.digits.left.now))
