-- What clauses say of a class of keys and of a device, from what their traits say of them.
use Rattle.std.specs.Prelude.{List}
use Rattle.gx_machine.specs.declared.item.Item.{Item}
use Rattle.gx_machine.specs.Keys.{Members}
use Rattle.gx_machine.specs.Machine.{Machine}
use Rattle.gx_class.specs.Traits.{Traits, own}
use Rattle.gx_disk.specs.Device.{Device}
use Rattle.gx_node.specs.Reading.{format_of}
use Rattle.gx_engine.specs.States.{Parts}
use Rattle.gx_engine_events.specs.Books.{Outlives}
use Rattle.gx_engine_events.specs.Crashes.{LeavesSets}
use Rattle.gx_engine_events.specs.Seen.{Sees}

module _ {B D : Type 0} (shape : Members B) (traits : Traits B) (state : D → Device) where
  -- an engine is seen as a machine; what crashes leave between two engines are sets of it; a book outlives crashes
  abbrev pub SeesAs : Parts B D → Machine B → Type 0
  SeesAs e m = Sees shape traits.is_proper traits.said (format_of (own traits)) state e m

  abbrev pub LeavesSetsAs : Machine B → Parts B D → Parts B D → Type 0
  LeavesSetsAs m old new = LeavesSets shape traits.is_proper traits.said (format_of (own traits)) state m old new

  abbrev pub OutlivesAs : (Machine B → Type 0) → Parts B D → List (Item B) → Type 0
  OutlivesAs starts e calls = Outlives shape traits.is_proper traits.said (format_of (own traits)) state starts e calls
