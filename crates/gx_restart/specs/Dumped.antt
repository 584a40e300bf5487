-- What a dump does.
use Rattle.std.specs.Prelude.{ℕ, ◌≡◌, ◌⊎◌, Bool, true, false, Result, Ok, Err}
use Rattle.gx_geom.specs.declared.refusal.Refusal.TheVariants.{Damaged, Failed}
use Rattle.gx_events.specs.declared.outcome.Need.{Need}
use Rattle.gx_events.specs.declared.outcome.Outcome.{Outcome}
use Rattle.gx_engine.specs.States.{Parts}
use Rattle.gx_restart.specs.declared.text.stop.Stop.TheVariants as stop
use Rattle.gx_restart.specs.Bringing.{IsRead}
use Rattle.gx_restart.specs.declared.fault.DumpFault.{DumpFault}
use Rattle.gx_restart.specs.declared.fault.DumpFault.TheVariants as fault
use Rattle.gx_restart.specs.States.{State}

module _ {B D : Type 0} (brings : ℕ → Parts B D → Result (Unit {0}) (Outcome B) → Parts B D → Type 0) (helps : Need → Parts B D → Outcome B → Parts B D → Type 0) where
  -- all pages were read, or some until the writer failed, an event was refused or the bound was passed; of which this is the result, and
  -- whether the index only refuses from then on
  abbrev pub DumpsOn : State B D → Result (Unit {0}) DumpFault → State B D → Type 0
  DumpsOn old (Ok done) new = IsRead brings helps old.engine (Ok tt) new.engine × (new.ended ≡ false)
  DumpsOn old (Err fault.Write) new = IsRead brings helps old.engine (Err stop.Write) new.engine × (new.ended ≡ false)
  DumpsOn old (Err (fault.Refused why)) new =
      (IsRead brings helps old.engine (Err (stop.Refused why)) new.engine × (new.ended ≡ false))
      ⊎ (IsRead brings helps old.engine (Err stop.GivenUp) new.engine × (why ≡ Damaged) × (new.ended ≡ true))

  -- by whether the bound was passed before
  abbrev pub DumpsBy : Bool → State B D → Result (Unit {0}) DumpFault → State B D → Type 0
  DumpsBy true old result new = (result ≡ Err (fault.Refused Failed)) × (new ≡ old)
  DumpsBy false old result new = DumpsOn old result new

  abbrev pub Dumps : State B D → Result (Unit {0}) DumpFault → State B D → Type 0
  Dumps old result new = DumpsBy old.ended old result new
