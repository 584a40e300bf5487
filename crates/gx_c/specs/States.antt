-- What contracts see of an open index.
use Rattle.std.specs.Prelude.{List}
use Rattle.gx_machine.specs.declared.entry.Entry.{Entry}
use Rattle.gx_queue_disk.specs.declared.disk.QueueDisk.{QueueDisk}
use Rattle.gx_restart.specs.States.{State}

-- the index; and for each session what is left of the entries that its last search found
pub record Opened (B : Type 0) : Type 0 where
  pub index : State B QueueDisk
  pub found : List (List (Entry B))
