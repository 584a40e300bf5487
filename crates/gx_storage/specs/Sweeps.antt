-- What an engine learns of a record that no session notices.
use Rattle.std.specs.Prelude.{ℕ, Bool, List}
use Rattle.gx_machine.specs.declared.entry.Entry.{Entry}
use Rattle.gx_disk.specs.Device.{Device}
use Rattle.gx_page.specs.Contents.{Contents}
use Rattle.gx_node.specs.Reading.{Format}
use Rattle.gx_events.specs.Happenings.{Works}
use Rattle.gx_recovery.specs.Records.{Record}
use Rattle.gx_index_laws.specs.Classes.{Class, Page, known_of}
use Rattle.gx_index_laws.specs.Happening.{Comes, with_record}
use Rattle.gx_index_laws.specs.States.{State}
use Rattle.gx_durable.specs.Spelled.{Reading}
use Rattle.gx_storage.specs.Keeps.{Keeps}
use Rattle.gx_storage.specs.State.{Volume}

module _ {B : Type 0} (c : Class B) (r : Reading (Entry B) (Page B)) (f : Format B) (passes : ℕ → Contents → Bool) where
  -- A record may come after an index's, and with it nothing happens that a session sees; and the volume keeps the index with it.
  pub record WorksWith {D : Type 0} (e : Device) (w : Volume D) (bodies : List (List (Record (Entry B) (Page B)))) (old : State B) (x : Record (Entry B) (Page B)) : Type 0 where
    pub comes : Comes c old x Works (with_record x old)
    pub keeps : Keeps (known_of c) r f passes e w bodies (with_record x old).log
