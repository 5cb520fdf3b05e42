-- What is kept of the warnings of a kind: how many there are, and the first of them (the project's own).
use Rattle.std.specs.Prelude.{◌≡◌, ℕ, ◌+◌, ◌-◌, ◌^◌, min, nat_lt, if◌then◌else◌, List, [], ◌∷◌, ◌++◌, length}
use Rattle.coll_findings.specs.declared.warnings.Warned.{Warned}
use Rattle.coll_findings.specs.declared.warnings.WarnedKind.{WarnedKind}
use Rattle.coll_findings.specs.declared.warnings.Warnings.{Warnings}
use Rattle.coll_findings.specs.declared.warnings.Warning.{Warning}
use Rattle.coll_findings.specs.declared.warnings.Warning.TheVariants as warning

-- so many warnings of a kind are kept
abbrev pub most_firsts : ℕ
most_firsts = 5

-- one more behind the first ones, where these are fewer than are kept
abbrev pub with_one : List Warned → Warned → List Warned
with_one firsts one = if nat_lt (length firsts) most_firsts then firsts ++ one ∷ [] else firsts

-- one more, up to the greatest number that is counted
abbrev pub counted : ℕ → ℕ
counted count = min (count + 1) (2 ^ 32 - 1)

-- a warning is counted, and kept where it is one of the first
abbrev pub AddsOne : (old new : WarnedKind) → Warned → Type 0
AddsOne old new one = (new.count ≡ counted old.count) × (new.firsts.items ≡ with_one old.firsts.items one)

-- a warning is one more of its kind, and the others stay
abbrev pub Warns : (old new : Warnings) → Warning → Warned → Type 0
Warns old new warning.CopyWithoutEffect one = AddsOne old.copies new.copies one × (new ≡ record old { copies = new.copies })
Warns old new warning.ScriptWithoutEffect one = AddsOne old.scripts new.scripts one × (new ≡ record old { scripts = new.scripts })
Warns old new warning.SymbolNeverPlaced one = AddsOne old.symbols new.symbols one × (new ≡ record old { symbols = new.symbols })
Warns old new warning.ElementNeverPlaced one = AddsOne old.elements new.elements one × (new ≡ record old { elements = new.elements })
Warns old new warning.ChangesNothing one = AddsOne old.unchanged new.unchanged one × (new ≡ record old { unchanged = new.unchanged })
Warns old new warning.PercentSign one = AddsOne old.percents new.percents one × (new ≡ record old { percents = new.percents })
Warns old new warning.LacksWeights one = AddsOne old.lacking new.lacking one × (new ≡ record old { lacking = new.lacking })
Warns old new warning.SortsElsewhere one = AddsOne old.elsewhere new.elsewhere one × (new ≡ record old { elsewhere = new.elsewhere })
Warns old new warning.SymbolElsewhere one =
    AddsOne old.symbols_elsewhere new.symbols_elsewhere one × (new ≡ record old { symbols_elsewhere = new.symbols_elsewhere })
