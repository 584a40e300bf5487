-- An index that is opened over a handle's device, and closed again.
use Rattle.std.specs.Prelude.{◌≡◌, ◌≤◌, ◌<◌, ◌⊎◌, ℕ, true, false, [], replicate, Result, Ok, Err, IfErr, IfOk, MatchResult, OnOk}
use Rattle.gx_class.specs.Traits.{Traits}
use Rattle.gx_disk.specs.declared.layout.TheConstants.{LEAST_SECTORS}
use Rattle.gx_disk.specs.Device as disk
use Rattle.gx_engine.specs.Calls.{TellsWhy}
use Rattle.gx_engine.specs.Made.{Makes}
use Rattle.gx_engine.specs.Resting.{IsAtRest, KeepsSessions}
use Rattle.gx_engine.specs.States.{Parts}
use Rattle.gx_engine.specs.declared.start.NotOpened.{NotOpened}
use Rattle.gx_geom.specs.Rectangles.{Rectangle}
use Rattle.gx_geom.specs.Solids.{Solid}
use Rattle.gx_geom.specs.declared.refusal.Refusal.{Refusal}
use Rattle.gx_geom.specs.declared.refusal.Refusal.TheVariants.{BadParameter, TooSmall}
use Rattle.gx_machine.specs.Keys.{Members}
use Rattle.gx_opening.specs.Setting.{LeftDamaged}
use Rattle.gx_queue_disk.specs.declared.disk.QueueDisk.{QueueDisk}
use Rattle.gx_restart.specs.Beginning.{CountsOpening, IsSameDevice}
use Rattle.gx_restart.specs.Order.{OpensInOrder}
use Rattle.gx_restart.specs.Setting.{IsOpenedAs, IsRefusedAs, KeepsItsSetAs, OpensSafelyAs, RunsOnAs}
use Rattle.gx_restart.specs.Settled.{Settles}
use Rattle.gx_restart.specs.States.{State}
use Rattle.gx_restart.specs.Undoing.{BeganWith, IsIdle}
use Rattle.gx_c.specs.Bytes.{LacksMemory}
use Rattle.gx_c.specs.States.{Opened}
use Rattle.gx_c.specs.Stages.{IsUndone}
use Rattle.gx_c.specs.Statuses.{refused, resulted}
use Rattle.gx_c.specs.declared.held.Stage.{Stage}
use Rattle.gx_c.specs.declared.held.Stage.TheVariants.{Device, Plane, Space}

module _ {B : Type 0} (shape : Members B) (traits : Traits B) (state : QueueDisk → disk.Device) where
  -- A device was opened with so many frames, with this result.
  pub record Opens (frames : ℕ) (disk : QueueDisk) (result : Result (Parts B QueueDisk) (NotOpened QueueDisk)) : Type 0 where
    pub frames_are : ((16 ≤ frames) × (frames ≤ 4096) → ⊥) → result ≡ Err (record { why = BadParameter; disk = disk })
    pub small : 16 ≤ frames → frames ≤ 4096 → (state disk).sectors < LEAST_SECTORS → result ≡ Err (record { why = TooSmall; disk = disk })
    pub device : MatchResult result (λ engine. IsSameDevice (state disk) (state engine.volume.shelf.disk)) (λ n. IsSameDevice (state disk) (state n.disk))
    pub faults : CountsOpening state (state disk).faults result
    pub idle : IfOk result IsIdle
    pub began : IfOk result (BeganWith (Makes shape traits state) frames)
    pub safe : (state disk).honest ≡ true → MatchResult result
        (λ engine. OpensSafelyAs shape traits (state disk) (state engine.volume.shelf.disk))
        (λ n. OpensSafelyAs shape traits (state disk) (state n.disk))
    pub keeps : (state disk).honest ≡ true → MatchResult result
        (λ engine. KeepsItsSetAs shape traits (state disk) (state engine.volume.shelf.disk))
        (λ n. KeepsItsSetAs shape traits (state disk) (state n.disk))
    pub order : OpensInOrder shape traits state disk result
    pub opened : (state disk).honest ≡ true → IfOk result (λ engine. IsOpenedAs shape traits (state disk) (state engine.volume.shelf.disk) engine)
    pub refused : (state disk).honest ≡ true → 16 ≤ frames → frames ≤ 4096 → LEAST_SECTORS ≤ (state disk).sectors
        → IfErr result (λ n. IsRefusedAs shape traits state disk n.disk n.why)
    pub damaged : (state disk).honest ≡ true → IfErr result (λ n. LeftDamaged shape traits (state n.disk) n.why)

  -- what is open, or what is left of the device that wasn't opened
  abbrev pub IsOpenOr : Result (Parts B QueueDisk) (NotOpened QueueDisk) → Result (Opened B) QueueDisk → ℕ → Type 0
  IsOpenOr (Ok engine) (Ok made) status = (status ≡ 0) × (made ≡ record { index = record { engine = engine; ended = false }; found = replicate 8 [] })
  IsOpenOr (Err n) (Err disk) status = (status ≡ refused n.why) × (disk ≡ n.disk)
  IsOpenOr result left status = ⊥

  -- A device was opened, or memory for what sessions will find was refused and nothing was done.
  pub record OpensAs (frames : ℕ) (disk : QueueDisk) (left : Result (Opened B) QueueDisk) (status : ℕ) : Type 0 where
    pub result : Result (Parts B QueueDisk) (NotOpened QueueDisk)
    pub opens : Opens frames disk result
    pub left_is : IsOpenOr result left status

  -- An index was settled and closed: this device is left.
  pub record ClosesOpen (old : Opened B) (left : QueueDisk) (status : ℕ) : Type 0 where
    pub result : Result (Unit {0}) Refusal
    pub settled : State B QueueDisk
    pub settles : Settles (Makes shape traits state) old.index result settled
    pub told : TellsWhy state old.index.engine settled.engine result
    pub runs : RunsOnAs shape traits state old.index.engine settled.engine
    pub rests : OnOk result (IsAtRest settled.engine)
    pub keeps : KeepsSessions old.index.engine settled.engine
    pub left_is : left ≡ settled.engine.volume.shelf.disk
    pub status_is : status ≡ resulted result

-- of the stage of a handle
abbrev pub OpensPlane : (QueueDisk → Result (Opened Rectangle) QueueDisk → ℕ → Type 0) → Stage → Stage → ℕ → Type 0
OpensPlane P (Device old) (Plane made) status = P old (Ok made) status
OpensPlane P (Device old) (Device new) status = P old (Err new) status ⊎ LacksMemory (Device old) (Device new) status
OpensPlane P (Device old) new status = ⊥
OpensPlane P old new status = IsUndone old new status

abbrev pub OpensSpace : (QueueDisk → Result (Opened Solid) QueueDisk → ℕ → Type 0) → Stage → Stage → ℕ → Type 0
OpensSpace P (Device old) (Space made) status = P old (Ok made) status
OpensSpace P (Device old) (Device new) status = P old (Err new) status ⊎ LacksMemory (Device old) (Device new) status
OpensSpace P (Device old) new status = ⊥
OpensSpace P old new status = IsUndone old new status

module _ (box : Members Rectangle) (boxes : Traits Rectangle) (solid : Members Solid) (solids : Traits Solid)
    (state : QueueDisk → disk.Device) where
  -- whatever index was open is closed
  abbrev pub ClosesEach : Stage → Stage → ℕ → Type 0
  ClosesEach (Plane old) (Device left) status = ClosesOpen box boxes state old left status
  ClosesEach (Plane old) new status = ⊥
  ClosesEach (Space old) (Device left) status = ClosesOpen solid solids state old left status
  ClosesEach (Space old) new status = ⊥
  ClosesEach old new status = IsUndone old new status
