-- The life of an index on a device: events of an engine, readings, crashes at any moment, and openings, of which a crash or a fault may cut
-- some off.
use Rattle.std.specs.Prelude.{ℕ, ◌≡◌, ◌⊎◌, true, List, [], ◌∷◌}
use Rattle.gx_geom.specs.declared.refusal.Refusal.{Refusal}
use Rattle.gx_class.specs.Traits.{Traits}
use Rattle.gx_disk.specs.Device.{Device, IsSettled, MayLeave}
use Rattle.gx_engine.specs.States.{Parts}
use Rattle.gx_engine.specs.Setting.{LeadsSoAs}
use Rattle.gx_events.specs.Happenings as laws
use Rattle.gx_events.specs.declared.event.Event.{Event}
use Rattle.gx_events.specs.declared.outcome.Outcome.{Outcome}
use Rattle.gx_machine.specs.Keys.{Members}
use Rattle.gx_engine.specs.Made.{Makes}
use Rattle.gx_opening.specs.Formatted.{OnlyRests}
use Rattle.gx_restart.specs.Beginning.{IsSameDevice}
use Rattle.gx_restart.specs.Setting.{IsOpenedAs, KeepsItsSetAs}

-- What there is: an engine at work over its device, or a device alone.
pub data Stage (B D : Type 0) : Type 0 where
  Works : (engine : Parts B D) → Stage B D
  Lies : (disk : D) → Stage B D

-- What comes next: an event of the engine, with its outcome; a crash; the engine ends, and leaves its device unchanged;
-- the device is opened; an opening is refused; pages are read, or the device is.
pub data Turn (B : Type 0) : Type 0 where
  Happens : (event : Event B) (outcome : Outcome B) → Turn B
  Crashes : Turn B
  GivesUp : Turn B
  Opens : Turn B
  Refuses : (why : Refusal) → Turn B
  Reads : Turn B

-- events of an index that no session sees: work, commits that get durable, a fault
abbrev pub AreUpkeep : {B : Type 0} → List (laws.Happening B) → Type 0
AreUpkeep [] = Unit {0}
AreUpkeep (laws.Works ∷ events) = AreUpkeep events
AreUpkeep (laws.Durable number ∷ events) = AreUpkeep events
AreUpkeep (laws.Fails ∷ events) = AreUpkeep events
AreUpkeep (other ∷ events) = ⊥

-- A device was read, and perhaps synced: it has as many sectors and is as honest, nothing reads otherwise, and a crash
-- leaves nothing that it couldn't leave before.
pub record IsRead (d e : Device) : Type 0 where
  pub same : IsSameDevice d e
  pub only : OnlyRests d e

-- A device of so many sectors comes up again after a crash: it reads as an image that could be left, and nothing of it
-- is pending.
pub record ComesUp (many : ℕ) (IsLeft : List ℕ → Type 0) (d : Device) : Type 0 where
  pub honest : d.honest ≡ true
  pub sectors : d.sectors ≡ many
  pub left : IsLeft d.seen
  pub settled : IsSettled d

module _ {B : Type 0} (shape : Members B) (traits : Traits B) where
  -- What any opening does to a device, whether it succeeds or not: as `gx_restart::open` promises, a crash at each
  -- moment leaves what it could leave before, or what stands for the set that the log keeps.
  pub record IsTried (d e : Device) : Type 0 where
    pub same : IsSameDevice d e
    pub keeps : KeepsItsSetAs shape traits d e

module _ {B D : Type 0} (shape : Members B) (traits : Traits B) (state : D → Device) where
  abbrev pub IsTriedOn : D → D → Type 0
  IsTriedOn old new = IsTried shape traits (state old) (state new)

  -- A page was read, or an event that frees a frame for it was made: whatever index the engine held, it holds what
  -- upkeep led to, and at each moment a crash leaves what stands for a set that this index keeps.
  abbrev pub IsReading : Parts B D → Parts B D → Type 0
  IsReading old new = LeadsSoAs shape traits state old new AreUpkeep

  -- what may begin of an engine, an event or a reading; and of a device, an opening or a reading
  abbrev pub MayMake : Parts B D → Parts B D → Type 0
  MayMake e new = ((event : Event B) × (outcome : Outcome B) × Makes shape traits state e event outcome new) ⊎ IsReading e new

  abbrev pub MayTry : D → D → Type 0
  MayTry d new = IsTriedOn d new ⊎ IsRead (state d) (state new)

  -- what a crash may leave now, and at each moment of what begins now
  abbrev pub MayBeLeft : Stage B D → List ℕ → Type 0
  MayBeLeft (Works e) image =
      MayLeave (state e.volume.shelf.disk) image
      ⊎ ((new : Parts B D) × MayMake e new × (state new.volume.shelf.disk).left_since (state e.volume.shelf.disk).moment image)
  MayBeLeft (Lies d) image = MayLeave (state d) image ⊎ ((new : D) × MayTry d new × (state new).left_since (state d).moment image)

  -- how an engine at work goes on
  abbrev pub WorksOn : Parts B D → Turn B → Stage B D → Type 0
  WorksOn e (Happens event outcome) (Works new) = Makes shape traits state e event outcome new
  WorksOn e Crashes (Lies d) = ComesUp (state e.volume.shelf.disk).sectors (MayBeLeft (Works e)) (state d)
  WorksOn e GivesUp (Lies d) = d ≡ e.volume.shelf.disk
  WorksOn e Reads (Works new) = IsReading e new
  WorksOn e other new = ⊥

  -- what becomes of a device alone
  abbrev pub LiesOn : D → Turn B → Stage B D → Type 0
  LiesOn d Crashes (Lies new) = ComesUp (state d).sectors (MayBeLeft (Lies d)) (state new)
  LiesOn d Opens (Works e) =
      IsTriedOn d e.volume.shelf.disk × IsOpenedAs shape traits (state d) (state e.volume.shelf.disk) e
  LiesOn d (Refuses why) (Lies new) = IsTriedOn d new
  LiesOn d Reads (Lies new) = IsRead (state d) (state new)
  LiesOn d other new = ⊥

  abbrev pub GoesOn : Stage B D → Turn B → Stage B D → Type 0
  GoesOn (Works e) turn new = WorksOn e turn new
  GoesOn (Lies d) turn new = LiesOn d turn new

  -- A life, turn by turn.
  abbrev pub Lives : Stage B D → List (Turn B) → Stage B D → Type 0
  Lives old [] new = new ≡ old
  Lives old (turn ∷ turns) new = (middle : Stage B D) × GoesOn old turn middle × Lives middle turns new
