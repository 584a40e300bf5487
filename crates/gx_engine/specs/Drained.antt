-- An engine whose device was lent.
use Rattle.std.specs.Prelude.{◌≡◌}
use Rattle.gx_engine.specs.States.{Parts}

-- an engine with this device in the place of another's, and else the same
abbrev pub with_disk : {B D : Type 0} → D → Parts B D → Parts B D
with_disk disk e = record e { volume = record e.volume { shelf = record e.volume.shelf { disk = disk } } }

-- nothing but the device is another
abbrev pub IsBeside : {B D : Type 0} → D → Parts B D → Parts B D → Type 0
IsBeside disk old new = new ≡ with_disk disk old
