-- The index on a device: its parameters, its log, and pages that are good for the log.
use Rattle.std.specs.Prelude.{◌≡◌, ◌⊎◌, ℕ, ◌≤◌, Bool, List, Result, Ok, Err}
use Rattle.gx_geom.specs.declared.refusal.Refusal.{Refusal}
use Rattle.gx_geom.specs.declared.refusal.Refusal.TheVariants.{Damaged, Memory}
use Rattle.gx_disk.specs.Device.{Device}
use Rattle.gx_disk.specs.Moments.{Leaves}
use Rattle.gx_format.specs.Fresh.{HasMagic}
use Rattle.gx_glog.specs.declared.extent.TheConstants.{PLACES}
use Rattle.gx_glog.specs.declared.parameters.Parameters.{Parameters}
use Rattle.gx_machine.specs.declared.entry.Entry.{Entry}
use Rattle.gx_machine.specs.Keys.{Members}
use Rattle.gx_node.specs.Reading.{Format, is_node}
use Rattle.gx_recovery.specs.Damage.{records_of}
use Rattle.gx_recovery.specs.Renewal.{found}
use Rattle.gx_recovery.specs.Known.{Known, Limits}
use Rattle.gx_durable.specs.Area.{area_of}
use Rattle.gx_durable.specs.Fitting.{AreGood}
use Rattle.gx_durable.specs.Head.{head_in}
use Rattle.gx_durable.specs.Standing as durable
use Rattle.gx_durable.specs.Spelled.{Reading}
use Rattle.gx_found_log.specs.declared.found.FoundLog.{FoundLog}
use Rattle.gx_found_log.specs.Found.{HasUndamaged}
use Rattle.gx_index_laws.specs.Classes.{Page, known_of}
use Rattle.gx_durable.specs.Classes.{class_of, reading_of}
use Rattle.gx_opening.specs.Formatted.{IsAllowed, IsLarge, MaySettle, Says, head_of}
use Rattle.gx_found_log.specs.Laid.{Spares}
use Rattle.gx_opening.specs.Laid.{HasFoundLog, IsKeptOrFound, IsLaid, IsSpared}
use Rattle.gx_opening.specs.Sound.{AreSound, IsCause, IsFaultOrDamage}
use Rattle.gx_opening.specs.Writing.{IsInOrder, IsUnfit, IsUnwritten, SyncsFirst}
use Rattle.gx_opening.specs.declared.standing.Standing.{Standing}

-- what was found, if its test passed
abbrev pub told_with : {T : Type 0} → Result (Unit {0}) Refusal → T → Result T Refusal
told_with (Ok done) x = Ok x
told_with (Err why) x = Err why

-- the limits of an index that a device is formatted for
abbrev pub limits_of : Parameters → Limits
limits_of p = record { most = p.most; pages = p.pages; head = head_of p }

-- An engine may start with these numbers: the log has a body and no more than an extent has, and no more pages are in
-- use than the device has.
pub record MayStart {B : Type 0} (s : Standing B) : Type 0 where
  pub some : 1 ≤ s.log.bodies
  pub few : s.log.bodies ≤ PLACES
  pub fits : s.log.analysis.told.used ≤ s.parameters.pages

module _ {B : Type 0} (shape : Members B) (is_key : B → Bool) (said : List ℕ → B) (f : Format B) where
  abbrev pub known_for : Parameters → Known (Entry B) (Page B)
  known_for p = known_of (class_of shape is_key (limits_of p))

  abbrev pub reading : Reading (Entry B) (Page B)
  reading = reading_of said f

  -- At each moment, by what the device as it reads is formatted for: what a crash may leave is as at the start, or has the log that is found and
  -- after it the same pages.
  abbrev pub StaysSafe : Device → Device → Type 0
  StaysSafe d e = (p : Parameters) → Says d.seen p → Leaves (IsKeptOrFound (known_for p) reading d) d e

  -- This holds; and of the sectors of the device, which was synced, only those of pages that its log gives are written.
  pub record LaysSafely (d e : Device) : Type 0 where
    pub safe : StaysSafe d e
    pub spares : (p : Parameters) → Says d.seen p → Spares (IsSpared (known_for p) reading d.seen) d e

  -- a sync comes before anything is written, and a device that isn't one of the class isn't written
  abbrev pub FindsInOrder : {D : Type 0} → (D → Device) → Device → Device → Result (Standing B) Refusal → Type 0
  FindsInOrder state d e (Ok s) = SyncsFirst state LaysSafely d e
  FindsInOrder state d e (Err why) = IsInOrder state LaysSafely d e × (IsUnfit why → IsUnwritten d e)

  -- Of a device that is formatted so, if the pages after the log that is found are good for it, an image that says the
  -- same and has that log and the same pages after it stands for what the log keeps, as it was found.
  abbrev pub FoundStands : Parameters → Type 0
  FoundStands p = (seen image : List ℕ) → head_in seen ≡ head_of p → (has : HasFoundLog (known_for p) reading seen image)
      → AreGood (known_for p) reading (area_of reading p.pages seen) (records_of has.log.bodies)
      → durable.Stands (known_for p) reading (found (area_of reading p.pages seen) (records_of has.log.bodies)) image

  -- the pages of a device whose log is laid are good for it, and can be read, if they are sound
  abbrev pub SoundIsGood : {D : Type 0} → (D → Device) → Parameters → Type 0
  SoundIsGood {D} state p = (seen : List ℕ) (e : D) (log : FoundLog (Entry B)) → (laid : IsLaid (known_for p) reading seen (state e) log)
      → AreSound (known_for p) reading (is_node f p.pages) log.analysis.told (state e).seen
      → AreGood (known_for p) reading (area_of reading p.pages seen) (records_of laid.is.log.bodies)

  -- The device is formatted for an index of the class, and has its sectors.
  pub record IsFormatted (class : ℕ) (d : Device) (p : Parameters) : Type 0 where
    pub magic : HasMagic d.seen
    pub says : Says d.seen p
    pub allowed : IsAllowed class p
    pub large : IsLarge d.sectors p

  -- Its log wasn't laid: a call failed, or it is damaged.
  pub record IsUnlaid (class : ℕ) (d : Device) (why : Refusal) : Type 0 where
    pub parameters : Parameters
    pub formatted : IsFormatted class d parameters
    pub cause : IsFaultOrDamage why
    pub damaged : why ≡ Damaged → HasUndamaged (known_for parameters) reading d.seen → ⊥

  -- what is read of a device that has the sectors of the smallest index, and laid on it
  abbrev pub IsStood : (class : ℕ) → Device → Device → Result (Standing B) Refusal → Type 0
  IsStood class d e (Ok s) = IsFormatted class d s.parameters × IsLaid (known_for s.parameters) reading d.seen e s.log
  IsStood class d e (Err why) = MaySettle class d.sectors d.seen (Err why) ⊎ IsUnlaid class d why

  -- Its log is laid, and its pages weren't found sound: a call failed; memory was refused, and no more are in use than
  -- the device has; or they aren't sound.
  pub record IsUnsound (class : ℕ) (d e : Device) (why : Refusal) : Type 0 where
    pub parameters : Parameters
    pub formatted : IsFormatted class d parameters
    pub log : FoundLog (Entry B)
    pub laid : IsLaid (known_for parameters) reading d.seen e log
    pub cause : IsCause why
    pub fits : why ≡ Memory → log.analysis.told.used ≤ parameters.pages
    pub unsound : why ≡ Damaged → AreSound (known_for parameters) reading (is_node f parameters.pages) log.analysis.told e.seen → ⊥

  -- A device has an index: it is formatted for it, its log is laid, and its pages are sound.
  pub record Stands (class : ℕ) (d e : Device) (s : Standing B) : Type 0 where
    pub formatted : IsFormatted class d s.parameters
    pub laid : IsLaid (known_for s.parameters) reading d.seen e s.log
    pub sound : AreSound (known_for s.parameters) reading (is_node f s.parameters.pages) s.log.analysis.told e.seen

  -- The index was found so; or it wasn't, by the first test that failed; or memory was refused before any call, and the
  -- device is the same.
  abbrev pub IsTested : (class : ℕ) (same : Type 0) → Device → Device → Result (Standing B) Refusal → Type 0
  IsTested class same d e (Ok s) = Stands class d e s
  IsTested class same d e (Err why) =
      MaySettle class d.sectors d.seen (Err why) ⊎ (IsUnlaid class d why ⊎ (IsUnsound class d e why ⊎ ((why ≡ Memory) × same)))
