-- A log on a device: what its sectors read as, and which of them a crash leaves.
use Rattle.std.specs.Prelude.{◌≡◌, ◌⊎◌, ℕ, ◌+◌, ◌*◌, ◌<◌, ◌≤◌, List, [], ◌++◌, length, Bool, true, false}
use Rattle.gx_disk.specs.declared.layout.TheConstants.{LOG_AT, PAGES_AT}
use Rattle.gx_disk.specs.Sectors.{sector_of, IsWithin}
use Rattle.gx_glog.specs.declared.extent.TheConstants.{BODY_SECTORS, PLACES}
use Rattle.gx_glog.specs.declared.extent.Extent.{Extent}
use Rattle.gx_glog.specs.declared.stage.Stage.{Stage}
use Rattle.gx_glog.specs.declared.stage.Stage.TheVariants.{Body, BodySync, Gate, GateSync, Idle}
use Rattle.gx_glog.specs.declared.stage.Turn.{Turn}
use Rattle.gx_glog.specs.declared.stage.Turn.TheVariants as turn
use Rattle.gx_glog.specs.Layout.{gates_of, bodies_of, other_of, selected_of, is_open, body_of, size_in, batches_of, log_of}
use Rattle.gx_glog.specs.Reading.{IsSize}
use Rattle.gx_glog.specs.Bodies.{HasRecords, IsBody}
use Rattle.gx_glog.specs.State.{Log, IsSound, turning}
use Rattle.gx_glog.specs.Tails.{HaveTails}

-- the gate of place k reads open or closed, and a crash leaves it so
pub record IsGate (state : Bool) (seen : List ℕ) (pending : ℕ → Bool) (extent : Extent) (k : ℕ) : Type 0 where
  pub reads : is_open seen extent k ≡ state
  pub settled : pending (gates_of extent + k) ≡ false

-- a crash leaves the body of place k as it reads
abbrev pub IsBodySettled : (ℕ → Bool) → Extent → ℕ → Type 0
IsBodySettled pending extent k = (s : ℕ) → IsWithin (bodies_of extent + BODY_SECTORS * k) BODY_SECTORS s → pending s ≡ false

-- the selector selects this extent, and a crash leaves it so
pub record IsSelected (extent : Extent) (seen : List ℕ) (pending : ℕ → Bool) : Type 0 where
  pub reads : selected_of seen ≡ extent
  pub settled : pending 2 ≡ false

-- an extent's first batches are gated, with bodies of a size in range; the gates of the places that aren't taken are closed
pub record HasBatches (extent : Extent) (gated used : ℕ) (seen : List ℕ) (pending : ℕ → Bool) : Type 0 where
  pub size : 512 * PAGES_AT ≤ length seen
  pub opened : (k : ℕ) → k < gated → IsGate true seen pending extent k
  pub bodies : (k : ℕ) → k < gated → IsBodySettled pending extent k
  pub sizes : (k : ℕ) → k < gated → IsSize (size_in (body_of seen extent k))
  pub closed : (k : ℕ) → used ≤ k → k < PLACES → IsGate false seen pending extent k

-- What is known of the place in flight while a call is due. Until its gate is written it is closed; once the body is
-- written, the place reads as that body to its end, with zeros after the records; from the gate's write on, which may
-- fail and leave it in any state, the body is settled.
abbrev pub Flies : Stage → Extent → ℕ → List ℕ → List ℕ → (ℕ → Bool) → Type 0
Flies Idle extent k flight seen pending = Unit {0}
Flies Body extent k flight seen pending = IsGate false seen pending extent k
Flies BodySync extent k flight seen pending = IsGate false seen pending extent k × IsBody flight (body_of seen extent k)
Flies Gate extent k flight seen pending = HasRecords flight (body_of seen extent k) × IsBodySettled pending extent k
Flies GateSync extent k flight seen pending = HasRecords flight (body_of seen extent k) × IsBodySettled pending extent k × (is_open seen extent k ≡ true)

-- each gate of an extent reads closed
abbrev pub ReadsClosed : Extent → List ℕ → Type 0
ReadsClosed extent seen = (k : ℕ) → k < PLACES → is_open seen extent k ≡ false

-- body 0 of an extent has these records, and all gates but the first are closed, as a crash leaves it
pub record HasFirst (extent : Extent) (head seen : List ℕ) (pending : ℕ → Bool) : Type 0 where
  pub records : HasRecords head (body_of seen extent 0)
  pub body : IsBodySettled pending extent 0
  pub closed : (k : ℕ) → 1 ≤ k → k < PLACES → IsGate false seen pending extent k

-- the first batch of an extent is gated, and has these records
pub record HasHead (extent : Extent) (head seen : List ℕ) (pending : ℕ → Bool) : Type 0 where
  pub batches : HasBatches extent 1 1 seen pending
  pub records : HasRecords head (body_of seen extent 0)

-- What is known of the selector and of the extent `to` while a call of the turn to it is due. Until the selector's write the extent
-- that the turn leads from is selected; from then on, since that write may fail and leave any selector, either extent has its log.
abbrev pub Leads : Turn → Extent → Extent → List ℕ → List ℕ → (ℕ → Bool) → Type 0
Leads turn.Closed from to head seen pending = IsSelected from seen pending
Leads turn.Body from to head seen pending = IsSelected from seen pending × ReadsClosed to seen
Leads turn.BodySync from to head seen pending = IsSelected from seen pending × ReadsClosed to seen × IsBody head (body_of seen to 0)
Leads turn.Gate from to head seen pending = IsSelected from seen pending × HasFirst to head seen pending
Leads turn.GateSync from to head seen pending = IsSelected from seen pending × HasFirst to head seen pending × (is_open seen to 0 ≡ true)
Leads turn.Selector from to head seen pending = HasHead to head seen pending
Leads turn.Done from to head seen pending = HasHead to head seen pending × (selected_of seen ≡ to)

-- A log's value fits what is seen of a device, and what is pending on it: each place has its tail, and while a turn is
-- under way, nothing fills.
pub record On (log : Log) (seen : List ℕ) (pending : ℕ → Bool) : Type 0 where
  pub sound : IsSound log
  pub batches : HasBatches log.extent log.gated log.used seen pending
  pub flight : Flies log.stage log.extent log.gated log.flight seen pending
  pub turn : Leads log.turn log.extent (other_of log.extent) log.flight seen pending
  pub quiet : 1 ≤ turning log.turn → log.filling ≡ []
  pub tails : HaveTails log.tails seen pending

-- So many gates in a row are open, with bodies of a size in range, and the next one is closed. Of later gates nothing is said: none is read.
pub record HasRun (extent : Extent) (run : ℕ) (seen : List ℕ) (pending : ℕ → Bool) : Type 0 where
  pub size : 512 * PAGES_AT ≤ length seen
  pub opened : (k : ℕ) → k < run → IsGate true seen pending extent k
  pub bodies : (k : ℕ) → k < run → IsBodySettled pending extent k
  pub sizes : (k : ℕ) → k < run → IsSize (size_in (body_of seen extent k))
  pub ends : run < PLACES → IsGate false seen pending extent run

-- A log with nothing in flight may turn on what is seen of a device, or is turning on it. Later gates of its extent may be open, so it may
-- not go on there: a batch more might let them count.
pub record MayTurn (log : Log) (seen : List ℕ) (pending : ℕ → Bool) : Type 0 where
  pub sound : IsSound log
  pub idle : log.stage ≡ Idle
  pub run : HasRun log.extent log.gated seen pending
  pub turn : Leads log.turn log.extent (other_of log.extent) log.flight seen pending
  pub quiet : 1 ≤ turning log.turn → log.filling ≡ []
  pub tails : HaveTails log.tails seen pending

-- the records of the batches that are gated, as they read
abbrev pub gated_of : Log → List ℕ → List ℕ
gated_of log seen = batches_of seen log.extent log.gated

-- an image's log is what is gated, or that and what is in flight
abbrev pub IsLogOf : List ℕ → List ℕ → List ℕ → Type 0
IsLogOf gated flight image = (log_of image ≡ gated) ⊎ (log_of image ≡ gated ++ flight)

-- the same, by the call that is due: what is in flight doesn't count until its gate is written
abbrev pub Shows : Stage → List ℕ → List ℕ → List ℕ → Type 0
Shows Idle gated flight image = log_of image ≡ gated
Shows Body gated flight image = log_of image ≡ gated
Shows BodySync gated flight image = log_of image ≡ gated
Shows Gate gated flight image = IsLogOf gated flight image
Shows GateSync gated flight image = IsLogOf gated flight image

-- The same of a log with a turn. From the selector's write on, an image's log is what is gated, or the head alone.
abbrev pub ShowsIn : Turn → Stage → List ℕ → List ℕ → List ℕ → Type 0
ShowsIn turn.Closed stage gated flight image = Shows stage gated flight image
ShowsIn turn.Body stage gated flight image = Shows stage gated flight image
ShowsIn turn.BodySync stage gated flight image = Shows stage gated flight image
ShowsIn turn.Gate stage gated flight image = Shows stage gated flight image
ShowsIn turn.GateSync stage gated flight image = Shows stage gated flight image
ShowsIn turn.Selector stage gated flight image = (log_of image ≡ gated) ⊎ (log_of image ≡ flight)
ShowsIn turn.Done stage gated flight image = (log_of image ≡ gated) ⊎ (log_of image ≡ flight)

-- a sector reads as before, and is settled if it was
pub record IsKept (seen seen' : List ℕ) (pending pending' : ℕ → Bool) (s : ℕ) : Type 0 where
  pub bytes : sector_of seen' s ≡ sector_of seen s
  pub settled : pending s ≡ false → pending' s ≡ false

-- the sectors of the log: the selector, the gates and the bodies
abbrev pub IsOfLog : ℕ → Type 0
IsOfLog s = (s ≡ 2) ⊎ ((LOG_AT ≤ s) × (s < PAGES_AT))

-- no sector of the log reads otherwise, or is pending if it was settled
pub record LeavesLog (seen seen' : List ℕ) (pending pending' : ℕ → Bool) : Type 0 where
  pub size : length seen' ≡ length seen
  pub kept : (s : ℕ) → IsOfLog s → IsKept seen seen' pending pending' s
