-- The outcome of a page that is brought in an event of no session, and of the sweep of a leaf.
use Rattle.std.specs.Prelude.{ℕ, ◌≡◌, ◌<◌, ◌⊎◌, nat_le, nat_lt, Bool, true, false, ◌&&◌, Result, Ok, Err, length, List, [], ◌∷◌}
use Rattle.gx_geom.specs.declared.refusal.Refusal.{Refusal}
use Rattle.gx_geom.specs.declared.refusal.Refusal.TheVariants.{Damaged as DamagedRefusal, Device as DeviceRefusal}
use Rattle.gx_machine.specs.declared.entry.Entry.{Entry}
use Rattle.gx_machine.specs.Keys.{Keys}
use Rattle.gx_disk.specs.Device.{Device}
use Rattle.gx_page.specs.Contents.{Contents}
use Rattle.gx_node.specs.Reading.{Format}
use Rattle.gx_node.specs.declared.items.TheConstants.{MAX_ENTRIES}
use Rattle.gx_tree.specs.Writing.{Swept}
use Rattle.gx_events.specs.Happenings.{Happening, Works, Fails}
use Rattle.gx_recovery.specs.Known.{Known, Limits}
use Rattle.gx_index_laws.specs.Classes.{Page}
use Rattle.gx_durable.specs.Spelled.{Reading}
use Rattle.gx_events.specs.declared.outcome.Need.{Need}
use Rattle.gx_events.specs.declared.outcome.Need.TheVariants as need
use Rattle.gx_events.specs.declared.outcome.Outcome.{Outcome}
use Rattle.gx_events.specs.declared.outcome.Outcome.TheVariants.{More, Help, Nothing, Refused}
use Rattle.gx_phases.specs.Moves.{failed_state}
use Rattle.gx_store.specs.Faults.{CanBeRead}
use Rattle.gx_store.specs.Standing.{store_of}
use Rattle.gx_store.specs.State.{IsSteady}
use Rattle.gx_storage.specs.Bringing.{bringing, has_removable}
use Rattle.gx_storage.specs.Changes.{IsLogged, begun}
use Rattle.gx_engine.specs.Flushing.{IsEnded}
use Rattle.gx_engine.specs.Refusals.{IsHelp}
pub use Rattle.gx_engine.specs.Slots.{AreTaken, is_held, node_shown, slots_room, slots_said}
use Rattle.gx_engine.specs.States.{Parts, is_due, runs}
use Rattle.gx_engine.specs.Writes.{brought}

-- The engine has failed: the device failed meanwhile; or it isn't honest, or doesn't have the right page. Pages may
-- have been brought, and nothing else has changed.
abbrev pub HasFailed : {B D : Type 0} → Type 0 → Device → Device → Parts B D → Parts B D → Refusal → Type 0
HasFailed Lies d e old new why =
    (((why ≡ DeviceRefusal) × (d.faults < e.faults)) ⊎ ((why ≡ DamagedRefusal) × Lies)) × (new ≡ record (brought old new) { sessions = failed_state old.sessions })

-- A page in use was brought; or it wasn't, and an event can free a frame for it; or the engine has failed.
abbrev pub BringComes : {A B D : Type 0} → (ℕ → Contents → Bool) → Device → Device → Parts B D → Parts B D → Result A (Outcome B) → Type 0
BringComes passes d e old new (Ok done) = new ≡ brought old new
BringComes passes d e old new (Err (Help n)) = IsHelp passes d e (runs old.checkpoint) (bringing old.volume) new.volume.shelf n × (new ≡ brought old new)
BringComes passes d e old new (Err (Refused why)) = HasFailed (IsSteady d old.volume.shelf.frames → CanBeRead passes d old.volume.shelf → ⊥) d e old new why
BringComes passes d e old new (Err other) = ⊥

-- the index's event that it is
abbrev pub sweep_events : {B : Type 0} → Outcome B → List (Happening B)
sweep_events More = Works ∷ []
sweep_events (Refused DeviceRefusal) = Fails ∷ []
sweep_events other = []

abbrev pub bring_events : {A B : Type 0} → Result A (Outcome B) → List (Happening B)
bring_events (Ok done) = []
bring_events (Err outcome) = sweep_events outcome

-- whether a page is in use
abbrev pub is_page : {B D : Type 0} → ℕ → Parts B D → Bool
is_page page e = nat_lt 0 page && nat_le page e.volume.shelf.used

-- whether a sweep removes anything: the page is in use, and is a leaf that has a marked pair that no session claims
abbrev pub takes_any : {B D : Type 0} → Keys B → Format B → Device → ℕ → Parts B D → Bool
takes_any k f d page e = is_page page e && has_removable (is_held k e) (node_shown f d page e)

module _ {B : Type 0} (k : Keys B) (known : Limits → Known (Entry B) (Page B)) (r : Reading (Entry B) (Page B)) (f : Format B) (passes : ℕ → Contents → Bool) where
  -- The leaf's marked pairs that no session claims are removed, and the record of that is logged.
  pub record IsSwept {D : Type 0} (page : ℕ) (d e : Device) (old new : Parts B D) : Type 0 where
    pub early : is_due old ≡ false
    pub slots : List ℕ
    pub taken : AreTaken (is_held k old) f d old.volume page slots
    pub logged : IsLogged known r f passes (slots_room old.volume page slots) d e old.volume new.volume (slots_said old.volume page slots e new.volume)
    pub swept : IsSteady d old.volume.shelf.frames → Swept (is_held k old) (store_of f d.seen old.volume.shelf) (store_of f e.seen new.volume.shelf) page true
    pub only : new ≡ record old { volume = new.volume }

  -- A pair is to be removed from a leaf, and the log has no room for the record of just that, or no frame is clean.
  pub record SweepLacks {D : Type 0} (page : ℕ) (d e : Device) (old new : Parts B D) (n : Need) : Type 0 where
    pub slots : List ℕ
    pub taken : AreTaken (is_held k old) f d old.volume page slots
    pub help : IsHelp passes d e (runs old.checkpoint) (begun old.volume (slots_room old.volume page slots)) new.volume.shelf n

  -- Another event has to come first: the page isn't in a frame yet; or a pair is to be removed from it, and a
  -- checkpoint is due, or there is no room.
  abbrev pub SweepWaits : {D : Type 0} → ℕ → Device → Device → Parts B D → Parts B D → Need → Type 0
  SweepWaits page d e old new n =
      IsHelp passes d e (runs old.checkpoint) (bringing old.volume) new.volume.shelf n
      ⊎ ((IsSteady d old.volume.shelf.frames → takes_any k f d page old ≡ true)
      × (((n ≡ need.Checkpoint) × (is_due old ≡ true)) ⊎ ((is_due old ≡ false) × SweepLacks page d e old new n)))

  -- The outcome of the sweep of a page in use. Pairs were removed; or there was none to remove; or it waits; or the
  -- engine has failed: the device failed, or isn't honest, or doesn't have the right page, or has one with more pairs
  -- than fit. Besides, pages may have been brought, and nothing else has changed.
  abbrev pub SweepsPage : {D : Type 0} → ℕ → Device → Device → Parts B D → Parts B D → Outcome B → Type 0
  SweepsPage page d e old new More = IsSwept page d e old new
  SweepsPage page d e old new Nothing = (IsSteady d old.volume.shelf.frames → takes_any k f d page old ≡ false) × (new ≡ brought old new)
  SweepsPage page d e old new (Help n) = SweepWaits page d e old new n × (new ≡ brought old new)
  SweepsPage page d e old new (Refused why) =
      HasFailed (IsSteady d old.volume.shelf.frames → CanBeRead passes d old.volume.shelf → MAX_ENTRIES < length (node_shown f d page old).pairs) d e old new why
  SweepsPage page d e old new other = ⊥

  -- by whether the page is in use: if it isn't, there is nothing to do, and no page was brought
  abbrev pub SweepsBy : {D : Type 0} → Bool → ℕ → Device → Device → Parts B D → Parts B D → Outcome B → Type 0
  SweepsBy true page d e old new outcome = SweepsPage page d e old new outcome
  SweepsBy false page d e old new outcome = (outcome ≡ Nothing) × (new ≡ old)

  -- by whether a fault has ended the engine
  abbrev pub SweepComes : {D : Type 0} → ℕ → Device → Device → Parts B D → Parts B D → Bool → Outcome B → Type 0
  SweepComes page d e old new true outcome = IsEnded old new outcome
  SweepComes page d e old new false outcome = SweepsBy (is_page page old) page d e old new outcome
