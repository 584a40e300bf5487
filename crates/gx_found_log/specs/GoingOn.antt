-- A log that was read and redone goes on there.
use Rattle.std.specs.Prelude.{◌≡◌, true, List, Ok}
use Rattle.gx_geom.specs.declared.refusal.Refusal.{Refusal}
use Rattle.gx_disk.specs.Device.{Device, IsSettled}
use Rattle.gx_disk.specs.Looks.{Looks}
use Rattle.gx_glog.specs.Later.{ClosesLaterOfRun}
use Rattle.gx_glog.specs.Layout.{selected_of}
use Rattle.gx_recovery.specs.Known.{Known, IsLawful}
use Rattle.gx_recovery.specs.Records.{Record}
use Rattle.gx_recovery.specs.Damage.{records_of}
use Rattle.gx_recovery.specs.Life.{AllWritten}
use Rattle.gx_recovery.specs.Telling.{IsKept}
use Rattle.gx_durable.specs.Spelled.{Reading}
use Rattle.gx_durable.specs.Area.{area_of, HasPages}
use Rattle.gx_durable.specs.Fitting.{AreGood}
use Rattle.gx_durable.specs.Head.{head_in}
use Rattle.gx_durable.specs.GoingOn.{opened, found_state, IsFoundGood, HasNoLater}
use Rattle.gx_found_log.specs.declared.found.FoundLog.{FoundLog}
use Rattle.gx_found_log.specs.Found.{IsFound}
use Rattle.gx_found_log.specs.Restart.{RedoesFound}

-- A device is unchanged: as many sectors, as honest.
pub record IsSameDevice (old new : Device) : Type 0 where
  pub sectors : new.sectors ≡ old.sectors
  pub honest : new.honest ≡ old.honest

-- What is known of the device that a log which was read goes on from: the device has its bodies, over pages that are
-- good for them and are all written, and no later gate is open. These are the premises of `FoundIsUp` and `FoundRuns`.
pub record MayGoOn {E P : Type 0} (k : Known E P) (r : Reading E P) (d : Device) (bodies : List (List (Record E P))) (log : FoundLog E) : Type 0 where
  pub found : IsFoundGood k r d.sectors d.seen d.pending bodies
  pub closed : HasNoLater d.seen d.pending
  pub written : AllWritten (found_state k r d.seen bodies)
  pub extent : log.extent ≡ selected_of d.seen
  pub places : log.bodies ≡ opened d.seen
  pub kept : IsKept k (records_of bodies) log.analysis

-- The calls of a restart in a row, each answered Ok, with reads between them: a log was read of a synced device d that
-- says what is known of it, its pages were laid (e), they were tested and found good for it (at b), and its later gates
-- were closed (f).
abbrev pub RedoneGoesOn : {E P : Type 0} → Known E P → Reading E P → Device → Device → Device → Device → Type 0
RedoneGoesOn {E} {P} k r d e b f =
    IsLawful k → d.honest ≡ true → IsSettled d → head_in d.seen ≡ k.head → HasPages k.pages d.sectors → IsSameDevice d e → IsSameDevice e b → IsSameDevice b f → (log : FoundLog E) (is : IsFound k r d.seen log)
    → RedoesFound {T = Unit {0}} k r log d e (Ok tt) → Looks e b → AreGood k r (area_of r k.pages b.seen) (records_of is.log.bodies)
    → ClosesLaterOfRun {T = Unit {0}} {E = Refusal} log.extent log.bodies b f (Ok tt) → MayGoOn k r f is.log.bodies log
