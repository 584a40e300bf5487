-- What a crash leaves within a hold.
use Rattle.std.proofs.Common.{sym, subst, ℕ, ◌≤◌, Bool, List}
use Rattle.gx_class.specs.Traits.{traits_of}
use Rattle.gx_class.specs.declared.class.KeyClass.{Ghosts}
use Rattle.gx_machine.specs.declared.item.Item.{Item}
use Rattle.gx_machine.specs.Keys.{Members}
use Rattle.gx_machine.specs.Machine.{Machine}
use Rattle.gx_disk.specs.Device.{Device}
use Rattle.gx_disk.proofs.Leaving.{nothing_leaves}
use Rattle.gx_node.specs.Reading.{format_of}
use Rattle.gx_recovery.specs.Known.{Limits}
use Rattle.gx_index_laws.specs.Classes.{IsLawful}
use Rattle.gx_durable.specs.Classes.{class_of, reading_of}
use Rattle.gx_events.specs.declared.event.Event.{Event}
use Rattle.gx_events.specs.declared.outcome.Outcome.{Outcome}
use Rattle.gx_events.specs.declared.outcome.Outcome.TheVariants.{Replied}
use Rattle.gx_shared.specs.Books.{IsMade, is_made, is_turned_away, is_unrecorded}
use Rattle.gx_engine.specs.Made.{Makes}
use Rattle.gx_engine.specs.States.{Parts}
use Rattle.gx_engine_events.specs.Crashes.{LeavesSets, StandsForSet}
use Rattle.gx_engine_events.specs.Seen.{Sees, class_in}
use Rattle.gx_engine_events.proofs.Crashes.{step_leaves}

module _ {C B D : Type 0} (shape : Members B) (proper : B → Bool) (said : List ℕ → B) (class : Ghosts C B) (state : D → Device)
    (lawful : (l : Limits) → 4 ≤ l.most → IsLawful (class_of shape proper l)) where
  pub event_leaves : (old new : Parts B D) (event : Event B) (outcome : Outcome B) (m : Machine B) → Sees shape proper said (format_of class) state old m
      → Makes shape (traits_of proper said class) state old event outcome new → LeavesSets shape proper said (format_of class) state m old new
  event_leaves old new event outcome m seen made = step_leaves shape proper said (format_of class) state lawful old new event outcome made.steps m seen

  pub hold_leaves : (old new : Parts B D × List (Item B)) (event : Event B) (outcome : Outcome B) (m : Machine B) → Sees shape proper said (format_of class) state old.0 m
      → IsMade (Makes shape (traits_of proper said class) state) old event outcome new → LeavesSets shape proper said (format_of class) state m old.0 new.0
  hold_leaves old new event outcome m seen (is_made given made told recorded) = event_leaves old.0 new.0 event given m seen made
  hold_leaves old new event outcome m seen (is_turned_away why same) =
      subst (λ (x : Parts B D × List (Item B)). LeavesSets shape proper said (format_of class) state m old.0 x.0) (sym same)
      (nothing_leaves (StandsForSet (class_in shape proper state old.0) (reading_of said (format_of class)) m) (state old.0.volume.shelf.disk))
  hold_leaves old new event outcome m seen (is_unrecorded given made full same) = event_leaves old.0 new.0 event (Replied given) m seen made
