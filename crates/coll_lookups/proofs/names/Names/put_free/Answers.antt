-- A text goes in where its name isn't there.
use Rattle.std.proofs.Common.{not, sym, ap, ◌∙◌, chars}
use Rattle.std.specs.Prelude.{encode_utf8_all}
use Rattle.std.proofs.lemmas.Str.{encodes-chars}
use Rattle.coll_syntax.specs.Identifier.{has_name}
use Rattle.coll_lookups.specs.IdSets.{IsText}
use Rattle.coll_lookups.proofs.NameSets.{found_name, put_adds, put_are}
use Rattle.coll_lookups.proofs.names.Names.put_free.Goals as goal

is_text : (c : goal.In_ok-free) → IsText c.in_ok-text.text
is_text c = let same = c.in_ok-text.ensures.ok in ap (λ b. encode_utf8_all (chars b)) same ∙ (encodes-chars _ c.utf8.name ∙ sym same)

pub invariant_of-self-2 : goal.invariant_of-self-2
invariant_of-self-2 c =
    put_are c.in_ok-free.free c.self.inside.names.keys _ c.in_ok-text.text c.in_ok-free.ensures.keys c.self.invariant (is_text c)

pub returns-clause-free : goal.returns-clause-free
returns-clause-free c =
    let same = c.in_ok-text.ensures.ok in
    c.in_ok-free.ensures.added
    ∙ ap not
    (found_name c.self.inside.names.keys (chars c.args.name.now) _ (encodes-chars _ c.utf8.name ∙ sym same) (ap chars same) c.self.invariant
    ∙ ap (λ names. has_name names (chars c.args.name.now)) c.self.view_is)

pub returns-clause-ok : goal.returns-clause-ok
returns-clause-ok c =
    let same = c.in_ok-text.ensures.ok in
    let free = c.in_ok-free.ensures.added
    ∙ ap not (found_name c.self.inside.names.keys (chars c.args.name.now) _ (encodes-chars _ c.utf8.name ∙ sym same) (ap chars same) c.self.invariant) in
    rw (← c.self.view_is)
    (put_adds c.in_ok-free.free c.self.inside.names.keys _ c.in_ok-text.text (chars c.args.name.now) c.in_ok-free.ensures.keys (ap chars same) free)
