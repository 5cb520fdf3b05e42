-- The faults that a survey tells, in another order, and with names that are near (the project's own).
use Rattle.std.specs.Prelude.{List, map, None}
use Rattle.std.specs.List.Sorted.{IsPermutation}
use Rattle.coll_findings.specs.declared.findings.About.{About}
use Rattle.coll_findings.specs.declared.findings.About.TheVariants as about
use Rattle.coll_findings.specs.declared.findings.FoundFault.{FoundFault}

-- what a fault is about, without a name that is near
abbrev pub bare_subject : About → About
bare_subject about.Nothing = about.Nothing
bare_subject (about.Id id near) = about.Id id None
bare_subject (about.Word word) = about.Word word

-- a fault without a name that is near
abbrev pub bare_fault : FoundFault → FoundFault
bare_fault found = record found { about = bare_subject found.about }

-- the same faults, but for names that are near, in another order
abbrev pub AreRearranged : (faults others : List FoundFault) → Type 0
AreRearranged faults others = IsPermutation (map bare_fault faults) (map bare_fault others)
