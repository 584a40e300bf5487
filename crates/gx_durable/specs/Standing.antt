-- A log and a page area on a device, as a state of the theory of logs.
use Rattle.std.specs.Prelude.{◌≡◌, ℕ, ◌≤◌, Bool, true, false, List, []}
use Rattle.gx_glog.specs.declared.stage.Stage.{Stage}
use Rattle.gx_glog.specs.declared.stage.Stage.TheVariants.{Body, BodySync, Gate, GateSync, Idle}
use Rattle.gx_glog.specs.State.{Log, turning}
use Rattle.gx_glog.specs.Standing.{On}
use Rattle.gx_glog.specs.Cuts.{bodies_in, open_bodies}
use Rattle.gx_recovery.specs.Known.{Known}
use Rattle.gx_recovery.specs.Records.{Record}
use Rattle.gx_recovery.specs.Analysis.{analysis}
use Rattle.gx_recovery.specs.Damage.{records_of, is_undamaged}
use Rattle.gx_recovery.specs.Logged.{Logged, IsHealthy, StandsForKept}
use Rattle.gx_recovery.specs.Life.{AllWritten}
use Rattle.gx_recovery.specs.Redo.{tree_of}
use Rattle.gx_recovery.specs.Renewal.{renewed}
use Rattle.gx_durable.specs.Spelled.{Reading, AreRecords}
use Rattle.gx_durable.specs.Bodies.{AreBodies}
use Rattle.gx_durable.specs.Area.{area_of, HasPages, is_given, IsSettledBut}
use Rattle.gx_durable.specs.Fitting.{AllFit, HasSizes, PagesFit}
use Rattle.gx_durable.specs.Head.{HasHead, head_in}

-- the bytes of the batch in flight: while there is none, its buffer has a head
abbrev pub batch_of : Stage → List ℕ → List ℕ
batch_of Idle flight = []
batch_of Body flight = flight
batch_of BodySync flight = flight
batch_of Gate flight = flight
batch_of GateSync flight = flight

-- A log's bytes are the records of this state: the gated ones body by body, as they read, those in flight and those that fill.
pub record Tells {E P : Type 0} (r : Reading E P) (log : Log) (seen : List ℕ) (bodies : List (List (Record E P))) (s : Logged E P) : Type 0 where
  pub gated_bodies : AreBodies r (bodies_in seen log.extent log.gated) bodies
  pub gated : records_of bodies ≡ s.gated
  pub flight : AreRecords r (batch_of log.stage log.flight) s.flight
  pub filling : AreRecords r log.filling s.filling

-- A turn may be under way with this head: nothing is in flight or fills, each page is written and settled, and the head
-- is the renewed log, with a next transaction's number that covers what the log says.
pub record MayRenew {E P : Type 0} (k : Known E P) (r : Reading E P) (head : List ℕ) (sectors : ℕ) (pending : ℕ → Bool) (s : Logged E P) : Type 0 where
  pub no_flight : s.flight ≡ []
  pub no_filling : s.filling ≡ []
  pub written : AllWritten s
  pub settled : IsSettledBut (λ p. false) sectors pending
  pub next : ℕ
  pub covers : (analysis k s.gated).next ≤ next
  pub head_is : AreRecords r head (renewed k next s.gated)

-- What a device carries, as it reads and with what is pending on it: the bodies of a log that is undamaged, the records of a
-- healthy state whose pages can be read, its page area, of which a crash leaves each page that no gated record gives, and what it says
-- of itself.
pub record Carries {E P : Type 0} (k : Known E P) (r : Reading E P) (log : Log) (sectors : ℕ) (seen : List ℕ) (pending : ℕ → Bool) (bodies : List (List (Record E P))) (s : Logged E P) : Type 0 where
  pub told : Tells r log seen bodies s
  pub undamaged : is_undamaged k bodies ≡ true
  pub healthy : IsHealthy k s
  pub fit : AllFit k r s
  pub has_pages : HasPages k.pages sectors
  pub head : HasHead k.head seen pending
  pub area : (p : ℕ) → s.area p ≡ area_of r k.pages seen p
  pub settled : IsSettledBut (is_given s.gated) sectors pending
  pub turn : 1 ≤ turning log.turn → MayRenew k r log.flight sectors pending s

-- A log is up on a device: it is on it, and the device carries this state.
pub record Up {E P : Type 0} (k : Known E P) (r : Reading E P) (log : Log) (sectors : ℕ) (seen : List ℕ) (pending : ℕ → Bool) (bodies : List (List (Record E P))) (s : Logged E P) : Type 0 where
  pub on : On log seen pending
  pub carries : Carries k r log sectors seen pending bodies s

-- An image stands for a kept set of a state: it says what the device does, its open bodies are an undamaged log, over its page area; and
-- bodies and pages can be read.
pub record Stands {E P : Type 0} (k : Known E P) (r : Reading E P) (s : Logged E P) (image : List ℕ) : Type 0 where
  pub head : head_in image ≡ k.head
  pub bodies : List (List (Record E P))
  pub told : AreBodies r (open_bodies image) bodies
  pub undamaged : is_undamaged k bodies ≡ true
  pub sizes : HasSizes image
  pub stands : StandsForKept k s (area_of r k.pages image) (records_of bodies)
  pub fit : PagesFit r (tree_of k (area_of r k.pages image) (records_of bodies))
