-- What an append does.
use Rattle.std.specs.Prelude.{◌≡◌, ◌⊎◌, ℕ, ◌+◌, ◌<◌, ◌≤◌, List, ◌++◌, length}
use Rattle.gx_glog.specs.declared.extent.TheConstants.{BODY_ROOM}
use Rattle.gx_glog.specs.State.{Log, turning}
use Rattle.gx_glog.specs.declared.filling.Appended.{Appended}
use Rattle.gx_glog.specs.declared.filling.Appended.TheVariants.{At, NoRoom}
use Rattle.gx_glog.specs.declared.stage.Turn.TheVariants.{Closed}

-- The record's bytes come after those that fill, at the place that is returned. There is no room for it if they
-- don't fit, nor while a turn is under way, and nothing then changes.
abbrev pub Appends : List ℕ → Log → Log → Appended → Type 0
Appends bytes old new (At place) = (length old.filling + length bytes ≤ BODY_ROOM) × (place ≡ old.used) × (new ≡ record old { filling = old.filling ++ bytes }) × (old.turn ≡ Closed)
Appends bytes old new NoRoom = ((BODY_ROOM < length old.filling + length bytes) ⊎ (1 ≤ turning old.turn)) × (new ≡ old)
