-- What an opening may result in.
use Rattle.std.specs.Prelude.{◌≡◌, ◌⊎◌, ℕ, Bool, List, Err}
use Rattle.gx_geom.specs.declared.refusal.Refusal.{Refusal}
use Rattle.gx_geom.specs.declared.refusal.Refusal.TheVariants.{Memory}
use Rattle.gx_disk.specs.Device.{Device, MayLeave}
use Rattle.gx_durable.specs.Area.{area_of}
use Rattle.gx_events.specs.Engines.{SeenAs, opened_machine}
use Rattle.gx_engine.specs.States.{Parts}
use Rattle.gx_glog.specs.declared.parameters.Parameters.{Parameters}
use Rattle.gx_index_laws.specs.States.{engine_of}
use Rattle.gx_machine.specs.declared.entry.Entry.{Entry}
use Rattle.gx_machine.specs.Keys.{Members}
use Rattle.gx_machine.specs.Sets.{IsSetOf}
use Rattle.gx_node.specs.Reading.{Format}
use Rattle.gx_opening.specs.declared.standing.Standing.{Standing}
use Rattle.gx_opening.specs.Formatted.{MaySettle}
use Rattle.gx_opening.specs.Standing.{IsFormatted, IsUnlaid, IsUnsound, Stands, known_for, limits_of, reading}
use Rattle.gx_durable.specs.Classes.{class_of}
use Rattle.gx_recovery.specs.Analysis.{number_of}
use Rattle.gx_recovery.specs.Damage.{records_of}
use Rattle.gx_recovery.specs.Standing.{stands_for}
use Rattle.gx_restart.specs.Beginning.{HasFailed, HoldsFound}
use Rattle.gx_restart.specs.Keeping.{StandsForFound}

module _ {B : Type 0} (shape : Members B) (is_key : B → Bool) (said : List ℕ → B) (f : Format B) where
  -- An engine was opened over a device that is formatted for it: it holds an index that has the one set of the log that is seen, under its
  -- number; it is seen as the machine with that set, that number and idle sessions; and each image stands for that set.
  pub record IsOpened {D : Type 0} (class : ℕ) (d e : Device) (engine : Parts B D) : Type 0 where
    pub parameters : Parameters
    pub formatted : IsFormatted shape is_key said f class d parameters
    pub holds : HoldsFound shape is_key said f parameters d.seen e engine
    pub seen : (set : List (Entry B))
        → IsSetOf (class_of shape is_key (limits_of parameters)).keys
        (stands_for (known_for shape is_key said f parameters) (area_of (reading shape is_key said f) parameters.pages d.seen) (records_of holds.found.log.bodies)) set
        → SeenAs (class_of shape is_key (limits_of parameters)).keys (engine_of (class_of shape is_key (limits_of parameters)) holds.index)
        (opened_machine (number_of (known_for shape is_key said f parameters) (records_of holds.found.log.bodies)) set)
    pub stands : (image : List ℕ) → MayLeave e image → StandsForFound shape is_key said f parameters d.seen image

  -- What was found sound on a device wasn't opened: a call failed, or memory was refused.
  pub record IsStopped {D : Type 0} (state : D → Device) (class : ℕ) (d : Device) (why : Refusal) : Type 0 where
    pub middle : D
    pub standing : Standing B
    pub stands : Stands shape is_key said f class d (state middle) standing
    pub cause : HasFailed why

  -- Why it was refused: the first test that wasn't passed, in their order; or it was stopped behind them; or memory was refused before any call,
  -- and the device is the same.
  abbrev pub IsRefused : {D : Type 0} → (D → Device) → ℕ → D → D → Refusal → Type 0
  IsRefused state class old new why =
      MaySettle class (state old).sectors (state old).seen (Err why)
      ⊎ (IsUnlaid shape is_key said f class (state old) why
      ⊎ (IsUnsound shape is_key said f class (state old) (state new) why ⊎ (IsStopped state class (state old) why ⊎ ((why ≡ Memory) × (new ≡ old)))))
