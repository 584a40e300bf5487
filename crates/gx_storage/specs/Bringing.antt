-- A page that is brought to be read, and what of a leaf a sweep takes.
use Rattle.std.specs.Prelude.{◌==◌, nat_lt, Bool, true, ◌&&◌}
use Rattle.gx_machine.specs.declared.entry.Entry.{Entry}
use Rattle.gx_node.specs.Edits.{entry_of}
use Rattle.gx_node.specs.Lists.{how_many}
use Rattle.gx_node.specs.Trees.{Node}
use Rattle.gx_node.specs.Writes.{is_sweepable}
use Rattle.gx_store.specs.State.{Shelf}
use Rattle.gx_storage.specs.State.{Volume}

-- the pages of a volume as an event begins that appends no record, and so wants no room for one
abbrev pub bringing : {D : Type 0} → Volume D → Shelf D
bringing v = record v.shelf { batch = v.log.used; has_room = true }

-- whether a node is a leaf that has a marked pair that no session claims
abbrev pub has_removable : {B : Type 0} → (Entry B → Bool) → Node B → Bool
has_removable claimed node = (node.level == 0) && nat_lt 0 (how_many (is_sweepable (λ x. claimed (entry_of x))) node.pairs)
