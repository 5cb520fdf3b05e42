-- Whatever the digits that are left make of the lead so far is the lead of the key.
use Rattle.std.proofs.Common.{ℕ}
use Rattle.coll_words.specs.KeyLeads.{LeadsTo}
use Rattle.coll_words.proofs.key_leads.LeadDigits.lead.Given as goal

abbrev pub invariant-digits : goal.invariant-digits
invariant-digits l = record {
  leads : (last : ℕ) → LeadsTo l.self.numbers.items l.self.base l.room l.lead l.left last → LeadsTo l.self.numbers.items l.self.base l.self.count 0 l.key last;
}

abbrev pub decreases-digits : goal.decreases-digits
decreases-digits l = l.room
