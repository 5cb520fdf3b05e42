-- The causes that a line of the category is refused for, after those before it, are causes of lines.
use Rattle.std.proofs.Common.{◌≡◌, ◌≢◌, ℕ, Bool, true, false, List, [], ◌∷◌, Option, Some, None, IfSome, subst}
use Rattle.std.specs.Option.{option_or, option_map}
use Rattle.coll_syntax.specs.declared.identifiers.Id.{Id}
use Rattle.coll_syntax.specs.declared.statements.OrderLine.{OrderLine}
use Rattle.coll_syntax.specs.declared.lines.TableLine.{TableLine}
use Rattle.coll_syntax.specs.declared.lines.TableLine.TheVariants as line
use Rattle.coll_nodes.specs.declared.declarations.Declaration.{Declaration}
use Rattle.coll_nodes.specs.declared.declarations.Declaration.TheVariants as declaration
use Rattle.coll_nodes.specs.declared.entries.Entry.{Entry}
use Rattle.coll_nodes.specs.Table.{Section, joined_entries}
use Rattle.coll_nodes.specs.Entries.{ids_named}
use Rattle.coll_nodes.specs.Causes.{refused_if}
use Rattle.coll_texts.specs.BuilderStates.{Numbered, BuilderState, second_name, own_order, with_own_weights, meaning_cause, declaration_cause, section_cause}
use Rattle.coll_texts.specs.BuilderStates.{section_cause_if, order_cause, cause_after, weight_cause, ids_cause, at_line, entries_fault, fault_at_end, line_fault}
use Rattle.coll_table.specs.SoundLoaders.{IsLineCause}
use Rattle.coll_texts.specs.declared.load_faults.LoadFault.{LoadFault}
use Rattle.coll_texts.specs.declared.load_faults.LoadCause.{LoadCause}
use Rattle.coll_texts.specs.declared.load_faults.LoadCause.TheVariants.{OutOfMemory}

abbrev OwnCause : Option LoadCause → Type 0
OwnCause cause = IfSome cause IsLineCause

abbrev OwnFault : Option LoadFault → Type 0
OwnFault fault = IfSome fault (λ (f : LoadFault). IsLineCause f.cause)

tested : (test : Bool) (cause : LoadCause) (later : Option LoadCause) → IsLineCause cause → OwnCause later → OwnCause (refused_if test cause later)
tested true cause later own h = own
tested false cause later own h = h

section_own : (d : BuilderState) (name : List ℕ) → OwnCause (section_cause d name)
section_own d name = search (tested)

section_if_own : (d : BuilderState) (name : Option (List ℕ)) → OwnCause (section_cause_if d name)
section_if_own d None = tt
section_if_own d (Some name) = section_own d name

either_cause : (a b : Option LoadCause) → OwnCause a → OwnCause b → OwnCause (option_or a b)
either_cause (Some cause) b h k = h
either_cause None b h k = k

meaning_own : (declared : List Declaration) (new : Declaration) → OwnCause (meaning_cause declared new)
meaning_own declared new = search (tested)

declaration_own : (declared : List Declaration) (new : Declaration) → OwnCause (declaration_cause declared new)
declaration_own declared new = search (tested, either_cause, meaning_own) depth 8

order_own : (d : BuilderState) (order : OrderLine) → OwnCause (order_cause d order)
order_own d order = search (tested) depth 8

after_own : (d : BuilderState) (l : TableLine) → OwnCause (cause_after d l)
after_own d (line.Symbol name) = declaration_own d.declared (declaration.Symbol name)
after_own d (line.Element name text) = declaration_own d.declared (declaration.Element name text)
after_own d (line.Equivalence name symbol) = declaration_own d.declared (second_name d.declared name symbol)
after_own d (line.OrderStart section rules) = search (tested, section_if_own)
after_own d line.OrderEnd = search (tested)
after_own d (line.Section name) = search (tested, section_own)
after_own d line.Script = tt
after_own d line.EndCategory = search (tested)
after_own d (line.Order order) = order_own d (own_order d.declared order)

module _ (declared : List Declaration) (sections : List Section) where
  weight_own : (id : Id) → OwnCause (weight_cause declared sections id)
  weight_own id = search (tested)

  ids_own : (ids : List Id) → OwnCause (ids_cause declared sections ids)
  ids_own [] = tt
  ids_own (id ∷ ids) = either_cause (weight_cause declared sections id) (ids_cause declared sections ids) (weight_own id) (ids_own ids)

either_fault : (number : ℕ) (a : Option LoadCause) (b : Option LoadFault) → OwnCause a → OwnFault b → OwnFault (option_or (option_map (at_line number) a) b)
either_fault number (Some cause) b h k = h
either_fault number None b h k = k

entries_own : (d : BuilderState) (numbers : List ℕ) (entries : List Entry) → OwnFault (entries_fault d numbers entries)
entries_own d [] entries = tt
entries_own d (number ∷ numbers) [] = tt
entries_own d (number ∷ numbers) (entry ∷ entries) =
    either_fault number (ids_cause d.declared d.sections (ids_named entry)) (entries_fault d numbers entries) (ids_own d.declared d.sections (ids_named entry)) (entries_own d numbers entries)

end_own : (d : BuilderState) (l : TableLine) → OwnFault (fault_at_end d l)
end_own d line.EndCategory = let own = with_own_weights d in entries_own own own.numbers (joined_entries own.sections)
end_own d _ = tt

line_own : (d : BuilderState) (n : Numbered) → OwnFault (line_fault d n)
unfolding line_fault
line_own d n = either_fault n.number (cause_after d n.line) (fault_at_end d n.line) (after_own d n.line) (end_own d n.line)

unless_starved : (judged : Option LoadFault) (number : ℕ) (cause : LoadCause) → OwnFault judged → (cause ≢ OutOfMemory → judged ≡ Some (record { line = number; cause = cause })) → IsLineCause cause
unless_starved judged number OutOfMemory own h = tt
unless_starved judged number _ own h = subst OwnFault (h (λ e. cc)) own

-- a line that is refused, if not for lack of memory, is refused for a cause of lines
pub refused_cause : (d : BuilderState) (n : Numbered) (fault : LoadFault) → (fault.cause ≢ OutOfMemory → line_fault d n ≡ Some fault) → IsLineCause fault.cause
refused_cause d n fault h = unless_starved (line_fault d n) fault.line fault.cause (line_own d n) h
