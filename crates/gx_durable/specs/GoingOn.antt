-- A log that was found goes on there, once its later gates are closed.
use Rattle.std.specs.Prelude.{◌≡◌, ℕ, ◌+◌, ◌*◌, ◌<◌, ◌≤◌, Bool, true, false, List, length, None, Result, OnOk}
use Rattle.gx_geom.specs.declared.refusal.Refusal.{Refusal}
use Rattle.gx_disk.specs.declared.layout.TheConstants.{PAGES_AT}
use Rattle.gx_disk.specs.Device.{Device}
use Rattle.gx_disk.specs.Moments.{Leaves}
use Rattle.gx_disk.specs.Sectors.{sector_of}
use Rattle.gx_glog.specs.declared.extent.TheConstants.{PLACES}
use Rattle.gx_glog.specs.Cuts.{open_bodies}
use Rattle.gx_glog.specs.Later.{ClosesLaterOfRun}
use Rattle.gx_glog.specs.Layout.{selected_of, body_of, size_in, open_run}
use Rattle.gx_glog.specs.Reading.{IsSize}
use Rattle.gx_glog.specs.Standing.{HasBatches}
use Rattle.gx_glog.specs.State.{Log}
use Rattle.gx_pool.specs.State.{State, kept}
use Rattle.gx_recovery.specs.Known.{Known, IsLawful}
use Rattle.gx_recovery.specs.Records.{Record}
use Rattle.gx_recovery.specs.Damage.{records_of, is_undamaged}
use Rattle.gx_recovery.specs.Life.{AllWritten}
use Rattle.gx_recovery.specs.Logged.{Logged}
use Rattle.gx_recovery.specs.Renewal.{found}
use Rattle.gx_durable.specs.Spelled.{Reading}
use Rattle.gx_durable.specs.Bodies.{AreBodies}
use Rattle.gx_durable.specs.Area.{area_of, HasPages}
use Rattle.gx_durable.specs.Fitting.{AreGood, HasSizes}
use Rattle.gx_durable.specs.Head.{head_in}
use Rattle.gx_durable.specs.Standing.{Up, Stands}
use Rattle.gx_durable.specs.Stamps.{AllSaid, AllPlaced}
use Rattle.gx_durable.specs.Stored.{IsStored}
use Rattle.gx_durable.specs.Calls.{Runs}
use Rattle.gx_durable.specs.Opening.{found_glog}

-- how many gates in a row are open from the first of the selected extent on
abbrev pub opened : List ℕ → ℕ
opened seen = open_run seen (selected_of seen) 0 PLACES

-- the state of a log that was found with these bodies
abbrev pub found_state : {E P : Type 0} → Known E P → Reading E P → List ℕ → List (List (Record E P)) → Logged E P
found_state k r seen bodies = found (area_of r k.pages seen) (records_of bodies)

-- A synced device says what is known of it, and has these open bodies, which are undamaged, over a page area that is
-- good for them and can be read.
pub record IsFoundGood {E P : Type 0} (k : Known E P) (r : Reading E P) (sectors : ℕ) (seen : List ℕ) (pending : ℕ → Bool) (bodies : List (List (Record E P))) : Type 0 where
  pub settled : (n : ℕ) → pending n ≡ false
  pub head : head_in seen ≡ k.head
  pub size : 512 * PAGES_AT ≤ length seen
  pub pages : HasPages k.pages sectors
  pub sizes : (j : ℕ) → j < opened seen → IsSize (size_in (body_of seen (selected_of seen) j))
  pub told : AreBodies r (open_bodies seen) bodies
  pub undamaged : is_undamaged k bodies ≡ true
  pub good : AreGood k r (area_of r k.pages seen) (records_of bodies)

-- each gate behind the leading open ones is closed
abbrev pub HasNoLater : List ℕ → (ℕ → Bool) → Type 0
HasNoLater seen pending = HasBatches (selected_of seen) (opened seen) (opened seen) seen pending

-- The log that starts behind the open bodies is up where no later gate is open: records may be appended to it.
abbrev pub FoundIsUp : {E P : Type 0} → Known E P → Reading E P → Type 0
FoundIsUp {E} {P} k r = (sectors : ℕ) (seen : List ℕ) (pending : ℕ → Bool) (bodies : List (List (Record E P))) → IsFoundGood k r sectors seen pending bodies → HasNoLater seen pending
    → Up k r (found_glog seen) sectors seen pending bodies (found_state k r seen bodies)

-- A pool that begins behind so many gated batches: nothing is kept, and it knows the last of them.
pub record BeginsBehind (frames : State) (gated : ℕ) : Type 0 where
  pub empty : (p : ℕ) → kept frames p ≡ None
  pub told : frames.gated + 1 ≡ gated

-- A log runs with such a pool; no page is dirty, and each is stored as the records leave it where all are written.
pub record RunsAfresh {E P : Type 0} (k : Known E P) (r : Reading E P) (log : Log) (frames : State) (d : Device) (bodies : List (List (Record E P))) (s : Logged E P) : Type 0 where
  pub runs : Runs k r log frames d bodies s
  pub said : AllSaid frames s
  pub placed : AllPlaced log frames
  pub stored : AllWritten s → IsStored r k.pages frames d.seen s

abbrev pub FoundRuns : {E P : Type 0} → Known E P → Reading E P → Device → Type 0
FoundRuns {E} {P} k r d = (frames : State) (bodies : List (List (Record E P))) → IsFoundGood k r d.sectors d.seen d.pending bodies → HasNoLater d.seen d.pending → BeginsBehind frames (opened d.seen)
    → RunsAfresh k r (found_glog d.seen) frames d bodies (found_state k r d.seen bodies)

-- An image that says the same as a device that a log was found on, with its open bodies and its pages, and with sizes in range, stands for the
-- kept set of that log.
abbrev pub SameLogStands : {E P : Type 0} → Known E P → Reading E P → Type 0
SameLogStands {E} {P} k r = IsLawful k → (sectors : ℕ) (seen : List ℕ) (pending : ℕ → Bool) (bodies : List (List (Record E P))) (image : List ℕ) → IsFoundGood k r sectors seen pending bodies
    → head_in image ≡ head_in seen → open_bodies image ≡ open_bodies seen → HasSizes image → ((s : ℕ) → PAGES_AT ≤ s → sector_of image s ≡ sector_of seen s) → Stands k r (found_state k r seen bodies) image

-- a device that has the same log, over the same pages, with no later gate open
pub record IsClosedFound {E P : Type 0} (k : Known E P) (r : Reading E P) (d e : Device) (bodies : List (List (Record E P))) : Type 0 where
  pub found : IsFoundGood k r e.sectors e.seen e.pending bodies
  pub closed : HasNoLater e.seen e.pending
  pub area : (p : ℕ) → area_of r k.pages e.seen p ≡ area_of r k.pages d.seen p
  pub glog : found_glog e.seen ≡ found_glog d.seen

-- What closing the later gates of a log that was found leaves, also where a call fails: each image at each moment stands for the kept set
-- that was found.
pub record AfterClosing {E P : Type 0} (k : Known E P) (r : Reading E P) (d e : Device) (bodies : List (List (Record E P))) (result : Result (Unit {0}) Refusal) : Type 0 where
  pub leaves : Leaves (Stands k r (found_state k r d.seen bodies)) d e
  pub done : OnOk result (IsClosedFound k r d e bodies)

abbrev pub ClosingKeepsFound : {E P : Type 0} → Known E P → Reading E P → Device → Device → Type 0
ClosingKeepsFound {E} {P} k r d e = IsLawful k → d.honest ≡ true → e.sectors ≡ d.sectors → (bodies : List (List (Record E P))) (result : Result (Unit {0}) Refusal) → IsFoundGood k r d.sectors d.seen d.pending bodies
    → ClosesLaterOfRun (selected_of d.seen) (opened d.seen) d e result → AfterClosing k r d e bodies result
