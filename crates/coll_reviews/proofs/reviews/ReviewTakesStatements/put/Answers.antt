-- The table is rewritten, the words are sorted anew, and what that did is told.
use Rattle.std.proofs.Common.{◌≡◌, ◌++◌, List, length, take, refl, sym, subst, ◌∙◌}
use Rattle.std.specs.List.{flat_map}
use Rattle.std.specs.Prelude.{Ok, IfSome}
use Rattle.coll_nodes.specs.TableLayout.{TableValue, collation}
use Rattle.coll_table.specs.Delta.{delta}
use Rattle.coll_bench.specs.Replies.{history_line}
use Rattle.coll_bench.specs.BatchOutcome.{judged_at}
use Rattle.coll_letters.specs.ElementMarks.{AreMarks}
use Rattle.coll_reviews.specs.ListedWords.{IsSortedAnew, newly_beside}
use Rattle.coll_reviews.specs.ReviewLines.{joined_line, most_told, parted_line}
use Rattle.coll_reviews.specs.declared.listed_words.ListedWord.{ListedWord}
use Rattle.coll_reviews.specs.declared.reviews.Review.{Review}
use Rattle.coll_reviews.proofs.ReviewLemmas.{leads_on, judged_well, puts_declared, puts_sorted}
use Rattle.coll_reviews.proofs.reviews.ReviewTakesStatements.put.Goals as goal

pub returns-in-Ok-clause-reaches : goal.returns-in-Ok-clause-reaches
returns-in-Ok-clause-reaches c = λ start before leads.
    let new : Review = record { alloc = c.args.self.now.alloc; table = c.put.new.self; list = c.args.self.now.list; looks = c.args.self.now.looks; count = c.in-Some.number; told = c.write_unmoved.new.out } in
    leads_on start c.args.self.now new before c.args.at.now leads
    (puts_declared c.args.self.now new c.args.at.now
    (judged_well c.args.input c.args.at.now.line (delta (collation c.args.self.now.table) c.args.at.now.statement) (collation c.put.new.self) c.in_default-put.ensures.ok)
    c.in-Some.ensures.1 c.lemma_well_formed.ensures.well_formed (sym c.declares_alone.ensures ∙ c.if-declares_alone.true) refl c.in-Ok.ensures.sent)

pub sort_anew-requires : goal.sort_anew-requires
sort_anew-requires c =
    subst (λ (t : TableValue). IfSome c.take_marks-marks.result (AreMarks (collation t))) (sym (c.table.ensures ∙ c.take_marks-marks.ensures.same)) c.take_marks-marks.ensures.marks

pub keep_marks-requires : goal.keep_marks-requires
keep_marks-requires c = subst (λ (t : TableValue). IfSome c.sort_anew.new.marks (AreMarks (collation t))) c.table.ensures c.sort_anew.ensures.marks

pub returns-in-Ok-write_told-clause-ok : goal.returns-in-Ok-write_told-clause-ok
returns-in-Ok-write_told-clause-ok c =
    subst (λ (t : TableValue). judged_at c.args.input c.args.at.now.line (delta (collation c.args.self.now.table) c.args.at.now.statement) ≡ Ok (collation t))
    (sym (c.keep_marks.ensures ∙ c.take_marks-marks.ensures.same)) c.in_default-put.ensures.ok

pub returns-in-Ok-write_told-clause-reaches : goal.returns-in-Ok-write_told-clause-reaches
returns-in-Ok-write_told-clause-reaches c = λ start before leads.
    let new : Review = record { alloc = c.args.self.now.alloc; table = c.keep_marks.new.self; list = c.sort_anew.new.list; looks = c.sort_anew.new.looks; count = c.in-Some.number; told = c.write_told.new.out } in
    let table_is : c.keep_marks.new.self ≡ c.put.new.self = c.keep_marks.ensures ∙ c.take_marks-marks.ensures.same in
    leads_on start c.args.self.now new before c.args.at.now leads
    (puts_sorted c.args.self.now new c.args.at.now
    (subst (λ (t : TableValue). delta (collation c.args.self.now.table) c.args.at.now.statement ≡ Ok (collation t)) (sym table_is)
    (judged_well c.args.input c.args.at.now.line (delta (collation c.args.self.now.table) c.args.at.now.statement) (collation c.put.new.self) c.in_default-put.ensures.ok))
    c.in-Some.ensures.1
    (subst (λ (t : TableValue). IsSortedAnew (collation t) c.args.self.now.list.items c.sort_anew.new.list.items) (c.table.ensures ∙ sym c.keep_marks.ensures) c.in_default-sort_anew.ensures.sorted)
    (subst (λ (list : List ListedWord). c.write_told.new.out.bytes.items ≡ c.args.self.now.told.bytes.items ++ (history_line c.in-Some.number c.args.at.now.statement
    ++ (parted_line (length (newly_beside list)) ++ flat_map joined_line (take most_told (newly_beside list))))) c.as_slice.ensures.value c.in-Ok-write_told.ensures.sent))
