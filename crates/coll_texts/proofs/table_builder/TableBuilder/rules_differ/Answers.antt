-- Two lists of rules are the same where they are equal.
use Rattle.coll_texts.proofs.RuleLists.{differ_unless_same}
use Rattle.coll_texts.proofs.table_builder.TableBuilder.rules_differ.Goals as goal

pub returns-in-Some-Some : goal.returns-in-Some-Some
returns-in-Some-Some c =
    let e = differ_unless_same c.is_same.result c.in-Some-Some.rules c.in-Some-Some.given c.is_same.ensures in cc
