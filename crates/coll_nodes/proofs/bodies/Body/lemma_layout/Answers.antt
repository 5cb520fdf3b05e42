-- A look-up leads to one node, so that no two nodes in rings have one key.
use Rattle.std.proofs.Common.{Bool, Option, List, sym, ◌∙◌}
use Rattle.coll_order.specs.declared.places.NodeId.{NodeId}
use Rattle.coll_syntax.specs.Identifier.{same_id, same_name}
use Rattle.coll_lookups.specs.NodeLookUps.{node_named, node_with}
use Rattle.coll_nodes.specs.SoundBodies.{Finds, ids_in, names_in, section_names_in, texts_in}
use Rattle.coll_nodes.specs.SoundLayouts.{AreOnce}
use Rattle.coll_nodes.specs.TableLayout.{TableLayout}
use Rattle.coll_nodes.specs.declared.contents.Content.{Content}
use Rattle.coll_nodes.proofs.BodyReads.{some_same, names_once}
use Rattle.coll_nodes.proofs.bodies.Body.lemma_layout.Goals as goal

-- no two nodes have a key by which one is found
found_once : {Key : Type 0} (same : Key → Key → Bool) (keys : Content → List Key) (layout : TableLayout) (find : Key → Option NodeId) → Finds same keys layout find → AreOnce same keys layout
found_once same keys layout find found key a b has_a has_b = some_same (sym (found.finds key a has_a) ∙ found.finds key b has_b)

pub returns-clause-sound : goal.returns-clause-sound
returns-clause-sound c =
    let layout = c.self.inside.nodes.layout in
    let found = c.self.invariant.found in
    rw (← c.self.view_is) (record {
      laid = c.lemma_layout.ensures;
      named = c.lemma_named.ensures;
      shaped = c.self.invariant.shaped;
      names = found_once same_name names_in layout (node_named c.self.inside.keys.names) found.names;
      texts = found_once same_name texts_in layout (node_named c.self.inside.keys.texts) found.texts;
      sections = found_once same_name section_names_in layout (node_named c.self.inside.keys.sections) found.sections;
      ids = found_once same_id ids_in layout (node_with c.self.inside.keys.placed) found.ids;
    })

pub returns-clause-distinct : goal.returns-clause-distinct
returns-clause-distinct c = rw (← c.self.view_is) (names_once c.self.inside.nodes.layout c.lemma_layout.ensures
    (found_once same_name names_in c.self.inside.nodes.layout (node_named c.self.inside.keys.names) c.self.invariant.found.names))
