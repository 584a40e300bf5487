-- A device whose queue is drained.
use Rattle.std.specs.Prelude.{◌≡◌, List, [], true}
use Rattle.gx_disk.specs.Device.{Device, Elapses, Rests, SamePending}
use Rattle.gx_queue_disk.specs.Calls.{Call}

-- no call was made of the device, and nothing of it changes
pub record IsSame (old new : Device) : Type 0 where
  pub sectors : new.sectors ≡ old.sectors
  pub honest : new.honest ≡ old.honest
  pub faults : new.faults ≡ old.faults
  pub calls : new.calls ≡ old.calls
  pub moment : new.moment ≡ old.moment
  pub rests : old.honest ≡ true → Rests old new
  pub pending : old.honest ≡ true → SamePending old new
  pub time : old.honest ≡ true → Elapses old new

-- These are the calls that the device had in its queue, in their order. It has none now, and nothing else of it
-- changes.
pub record Drains {D : Type 0} (state : D → Device) (queued : D → List Call)
    (old new : D) (calls : List Call) : Type 0 where
  pub taken : calls ≡ queued old
  pub none : queued new ≡ []
  pub same : IsSame (state old) (state new)
