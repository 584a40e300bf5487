-- A book over an engine, and what a crash leaves of it.
use Rattle.std.specs.Prelude.{ℕ, ◌≡◌, ◌≤◌, ◌==◌, Bool, true, false, List}
use Rattle.std.specs.List.{list_any}
use Rattle.gx_machine.specs.declared.item.Item.{Item}
use Rattle.gx_machine.specs.declared.item.Item.TheVariants.{Asked, Sealed, Replied}
use Rattle.gx_machine.specs.declared.reply.Reply.{Reply}
use Rattle.gx_machine.specs.declared.reply.Reply.TheVariants.{Committed}
use Rattle.gx_machine.specs.Keys.{Members, keys_of}
use Rattle.gx_machine.specs.Machine.{Machine}
use Rattle.gx_disk.specs.Device.{Device, MayLeave}
use Rattle.gx_node.specs.Reading.{Format}
use Rattle.gx_durable.specs.Classes.{reading_of}
use Rattle.gx_events.specs.Replay.{ReplaysAs}
use Rattle.gx_engine.specs.States.{Parts}
use Rattle.gx_shared.specs.Books.{StartsAt}
use Rattle.gx_engine_events.specs.Crashes.{StandsForSet}
use Rattle.gx_engine_events.specs.Seen.{Sees, class_in}

-- a reply acknowledges the commit of this number
abbrev pub is_commit : {B : Type 0} → ℕ → Reply B → Bool
is_commit number (Committed n) = n == number
is_commit number other = false

-- an item acknowledges the commit of this number
abbrev pub acknowledges : {B : Type 0} → ℕ → Item B → Bool
acknowledges number (Asked s call) = false
acknowledges number (Sealed s n) = false
acknowledges number (Replied s r) = is_commit number r

-- Replaying a record from the machine that the run starts at gives one that the engine is seen as. Whatever a crash may
-- leave now stands for a set that this machine keeps, and its number is at least that of each commit that the record
-- acknowledges.
pub record Outlives {B D : Type 0} (shape : Members B) (proper : B → Bool) (said : List ℕ → B) (f : Format B) (state : D → Device) (starts : Machine B → Type 0) (e : Parts B D)
    (calls : List (Item B)) : Type 0 where
  pub start : Machine B
  pub at : StartsAt starts start
  pub machine : Machine B
  pub seen : Sees shape proper said f state e machine
  pub replays : ReplaysAs (keys_of shape) start calls machine
  pub sets : (image : List ℕ) → MayLeave (state e.volume.shelf.disk) image → StandsForSet (class_in shape proper state e) (reading_of said f) machine image
  pub covers : (number : ℕ) → list_any (acknowledges number) calls ≡ true → number ≤ machine.oldest
