-- What a page's write keeps and returns.
use Rattle.std.specs.Prelude.{◌≡◌, ℕ, true, List}
use Rattle.gx_disk.specs.Device.{Device}
use Rattle.gx_glog.specs.declared.stage.Turn.TheVariants.{Closed}
use Rattle.gx_glog.specs.State.{Log}
use Rattle.gx_pool.specs.State.{State}
use Rattle.gx_recovery.specs.Known.{Known, IsLawful}
use Rattle.gx_recovery.specs.Records.{Record}
use Rattle.gx_recovery.specs.Logged.{Logged, AgreesBeside}
use Rattle.gx_durable.specs.Spelled.{Reading}
use Rattle.gx_durable.specs.Area.{area_of}
use Rattle.gx_durable.specs.Stamps.{AllSaid}
use Rattle.gx_durable.specs.Stored.{IsStored}
use Rattle.gx_durable.specs.Calls.{Runs, GoesSafely}

-- the same records over the page area that is read now
abbrev pub rewritten : {E P : Type 0} → Reading E P → ℕ → List ℕ → Logged E P → Logged E P
rewritten r pages seen s = record s { area = area_of r pages seen }

-- what a page's write makes of the state, also where it fails
pub record AfterPage {E P : Type 0} (k : Known E P) (r : Reading E P) (log : Log) (frames frames' : State) (d e : Device) (bodies : List (List (Record E P))) (s : Logged E P) : Type 0 where
  pub runs : Runs k r log frames' e bodies (rewritten r k.pages e.seen s)
  pub said : AllSaid frames s → AllSaid frames' (rewritten r k.pages e.seen s)
  pub stored : IsStored r k.pages frames d.seen s → IsStored r k.pages frames' e.seen (rewritten r k.pages e.seen s)
  pub beside : AgreesBeside s.gated s.area (area_of r k.pages e.seen)
  pub safely : GoesSafely k r d e s (rewritten r k.pages e.seen s)

-- A page is written, while no turn is under way.
abbrev pub PageKeepsRunning : {E P : Type 0} → Known E P → Reading E P → State → State → Device → Device → Type 0
PageKeepsRunning {E} {P} k r frames frames' d e = (log : Log) (bodies : List (List (Record E P))) (s : Logged E P) → IsLawful k → d.honest ≡ true → log.turn ≡ Closed
    → Runs k r log frames d bodies s → AfterPage k r log frames frames' d e bodies s
