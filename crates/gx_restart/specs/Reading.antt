-- What reading pages leaves of an index and its tree, and what contracts say of that.
use Rattle.std.specs.Prelude.{ℕ, ◌≡◌, Bool, List, Result, Err}
use Rattle.gx_machine.specs.declared.entry.Entry.{Entry}
use Rattle.gx_disk.specs.Device.{Device}
use Rattle.gx_page.specs.Contents.{Contents}
use Rattle.gx_node.specs.Reading.{Format}
use Rattle.gx_node.specs.Trees.{Tree}
use Rattle.gx_recovery.specs.Records.{Record}
use Rattle.gx_index_laws.specs.Classes.{Class, Page}
use Rattle.gx_index_laws.specs.States as index
use Rattle.gx_durable.specs.Spelled.{Reading}
use Rattle.gx_engine.specs.Holds.{Holds}
use Rattle.gx_engine.specs.Running.{Ran}
use Rattle.gx_engine.specs.States.{Parts}
use Rattle.gx_restart.specs.declared.text.stop.Stop.{Stop}
use Rattle.gx_restart.specs.declared.text.stop.Stop.TheVariants as stop

-- it wasn't given up
abbrev pub IsNotGivenUp : Result (Unit {0}) Stop → Type 0
IsNotGivenUp (Err stop.GivenUp) = ⊥
IsNotGivenUp result = Unit {0}

module _ {B : Type 0} (c : Class B) (r : Reading (Entry B) (Page B)) (f : Format B) (passes : ℕ → Contents → Bool) where
  -- What was done is events of an index; the engine holds what they led to, and the tree is unchanged.
  pub record Read {D : Type 0} (d e : Device) (new : Parts B D) (i : index.State B) : Type 0 where
    pub ran : Ran c r f passes d e new i
    pub same : index.tree_now c ran.index ≡ index.tree_now c i

  -- whatever index an engine held, what was done is events of it, and the engine holds what they led to
  abbrev pub Runs : {D : Type 0} → (D → Device) → Parts B D → Parts B D → Type 0
  Runs state old new = (bodies : List (List (Record (Entry B) (Page B)))) (i : index.State B) → Holds c r f passes (state old.volume.shelf.disk) old bodies i
      → Ran c r f passes (state old.volume.shelf.disk) (state new.volume.shelf.disk) new i

  -- and its tree is unchanged
  abbrev pub Reads : {D : Type 0} → (D → Device) → Parts B D → Parts B D → Type 0
  Reads state old new = (bodies : List (List (Record (Entry B) (Page B)))) (i : index.State B) → Holds c r f passes (state old.volume.shelf.disk) old bodies i
      → Read (state old.volume.shelf.disk) (state new.volume.shelf.disk) new i

  -- this holds of the tree of every index that the engine may have held
  abbrev pub OfItsTree : {D : Type 0} → (D → Device) → Parts B D → (Tree B → Type 0) → Type 0
  OfItsTree state e P = (bodies : List (List (Record (Entry B) (Page B)))) (i : index.State B) → Holds c r f passes (state e.volume.shelf.disk) e bodies i
      → P (index.tree_now c i)

  -- where an engine holds an index, this is so
  abbrev pub WhereHeld : {D : Type 0} → (D → Device) → Parts B D → Type 0 → Type 0
  WhereHeld state e P = (bodies : List (List (Record (Entry B) (Page B)))) (i : index.State B) → Holds c r f passes (state e.volume.shelf.disk) e bodies i → P
