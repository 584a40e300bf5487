-- What the slots from here on say is what all of them say.
use Rattle.std.proofs.Common.{◌≡◌, ◌+◌, ◌-◌, ◌*◌, drop}
use Rattle.gx_page.specs.Faults.{lowest}
use Rattle.gx_page.specs.Reading.{entries}
use Rattle.gx_page.proofs.check.lowest_place.Given as goal

abbrev pub invariant-loop-slot : goal.invariant-loop-slot
invariant-loop-slot l = lowest l.end (entries (l.count - l.slot) (drop (32 + 4 * l.slot) l.bytes)) ≡ lowest 4096 (entries l.count (drop 32 l.bytes))
