-- The links that a store has.
use Rattle.coll_order.specs.declared.store.Store.{Store}
use Rattle.coll_order.specs.Store.{Links}

-- the heads, the last places and the nodes of a store
abbrev pub links_of : Store → Links
links_of store = record { heads = store.heads.items; lasts = store.lasts.items; slots = store.nodes.slots }
