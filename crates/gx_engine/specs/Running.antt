-- Events one after another.
use Rattle.std.specs.Prelude.{ℕ, ◌≡◌, ◌⊎◌, Bool, List, [], ◌∷◌}
use Rattle.gx_machine.specs.declared.entry.Entry.{Entry}
use Rattle.gx_disk.specs.Device.{Device}
use Rattle.gx_disk.specs.Moments.{Leaves}
use Rattle.gx_page.specs.Contents.{Contents}
use Rattle.gx_node.specs.Reading.{Format}
use Rattle.gx_events.specs.Happenings as laws
use Rattle.gx_recovery.specs.Records.{Record}
use Rattle.gx_index_laws.specs.Classes.{Class, Page, known_of}
use Rattle.gx_index_laws.specs.Happening.{AreHappening}
use Rattle.gx_index_laws.specs.States as index
use Rattle.gx_durable.specs.Spelled.{Reading}
use Rattle.gx_durable.specs.Standing.{Stands}
use Rattle.gx_events.specs.declared.event.Event.{Event}
use Rattle.gx_events.specs.declared.outcome.Outcome.{Outcome}
use Rattle.gx_engine.specs.Holds.{Holds}
use Rattle.gx_engine.specs.States.{Parts}
use Rattle.gx_engine.specs.Stepping.{Steps}

module _ {B : Type 0} (c : Class B) (r : Reading (Entry B) (Page B)) (f : Format B) (passes : ℕ → Contents → Bool) where
  -- from old, these events with their outcomes lead to new, each as the contract of a step has it, over a device that is seen so
  abbrev pub AreSteps : {D : Type 0} → (D → Device) → Parts B D → List (Event B × Outcome B) → Parts B D → Type 0
  AreSteps state old [] new = new ≡ old
  AreSteps {D} state old (step ∷ steps) new =
      (middle : Parts B D) × Steps c r f passes (state old.volume.shelf.disk) (state middle.volume.shelf.disk) step.0 old middle step.1 × AreSteps state middle steps new

  -- an image stands for a kept set of one of these indexes
  abbrev pub StandsForOne : List (index.State B) → List ℕ → Type 0
  StandsForOne [] image = ⊥
  StandsForOne (i ∷ indexes) image = Stands (known_of c) r i.log image ⊎ StandsForOne indexes image

  -- They are events of the index, one after another, and the engine holds what they led to. At each moment of them,
  -- whatever a crash may leave stands for a set that one of the indexes on the way keeps, from the first on.
  pub record Ran {D : Type 0} (d e : Device) (new : Parts B D) (i : index.State B) : Type 0 where
    pub passed : List (index.State B)
    pub events : List (laws.Happening B)
    pub bodies : List (List (Record (Entry B) (Page B)))
    pub index : index.State B
    pub happening : AreHappening c i events index
    pub holds : Holds c r f passes e new bodies index
    pub leaves : Leaves (StandsForOne passed) d e
