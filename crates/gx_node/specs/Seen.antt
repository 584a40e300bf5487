-- What the code returns, as the entries that it means.
use Rattle.std.specs.Prelude.{ℕ, Bool}
use Rattle.gx_machine.specs.declared.entry.Entry.{Entry}
use Rattle.gx_node.specs.Trees.{Pair, Child}

abbrev pub pair_seen : {B : Type 0} → Entry B × Bool → Pair B
pair_seen p = record { row = p.0.row; key = p.0.key; marked = p.1 }

abbrev pub child_seen : {B : Type 0} → B × ℕ → Child B
child_seen c = record { key = c.0; page = c.1 }
