-- A page that isn't lent, by what bringing it came to.
use Rattle.std.proofs.Common.{◌≡◌, Bool, List, ℕ, subst, sym, ◌∙◌, ap}
use Rattle.std.specs.Prelude.{Result, Err}
use Rattle.gx_machine.specs.Keys.{Members}
use Rattle.gx_class.specs.Traits.{traits_of}
use Rattle.gx_class.specs.declared.class.KeyClass.{Ghosts}
use Rattle.gx_disk.specs.Device.{Device}
use Rattle.gx_node.specs.Reading.{format_of, is_node}
use Rattle.gx_recovery.specs.Known.{Limits}
use Rattle.gx_durable.specs.Classes.{class_of, reading_of}
use Rattle.gx_node.specs.Store.{Stays}
use Rattle.gx_store.specs.Standing.{store_of}
use Rattle.gx_store.specs.State.{IsSteady}
use Rattle.gx_events.specs.declared.outcome.Outcome.{Outcome}
use Rattle.gx_engine.specs.declared.pages.NotLent.{NotLent}
use Rattle.gx_engine.specs.Holds.{Leads}
use Rattle.gx_engine.specs.Lending.{BringPageComes}
use Rattle.gx_engine.specs.States.{IsOrderly, Parts}
use Rattle.gx_engine.specs.Sweeping.{bring_events}
use Rattle.gx_engine.specs.Viewing.{Views, brought_as}

module _ {C B D : Type 0} (shape : Members B) (proper : B → Bool) (said : List ℕ → B) (class : Ghosts C B) (state : D → Device) (page : ℕ) (old new : Parts B D) where
  abbrev Comes : Result (Unit {0}) (Outcome B) → Type 0
  Comes result = BringPageComes (is_node (format_of class)) (state old.volume.shelf.disk) (state new.volume.shelf.disk) old new old.sessions.failed result

  abbrev LeadsOn : Result (Unit {0}) (Outcome B) → Type 0
  LeadsOn result = (l : Limits) → Leads (class_of shape proper l) (reading_of said (format_of class)) (format_of class) (is_node (format_of class))
      (state old.volume.shelf.disk) (state new.volume.shelf.disk) old new (bring_events result)

  pub not_viewed : (given named : Outcome B) (why : NotLent) → given ≡ named → brought_as {B = B} (Err why) ≡ Err named → Comes (Err given)
      → Stays (IsSteady (state old.volume.shelf.disk) old.volume.shelf.frames) (store_of (format_of class) (state old.volume.shelf.disk).seen old.volume.shelf)
      (store_of (format_of class) (state new.volume.shelf.disk).seen new.volume.shelf) → LeadsOn (Err given) → IsOrderly old × IsOrderly new
      → Views shape (traits_of proper said class) state page old new (Err why)
  not_viewed given named why is told comes stays leads order =
      let same : Err given ≡ brought_as (Err why) = ap Err is ∙ sym told in
      record { comes = subst Comes same comes; stays = stays; leads = subst LeadsOn same leads; order = order; lent = tt }
