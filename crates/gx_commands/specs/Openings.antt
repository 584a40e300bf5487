-- What an opening may result in.
use Rattle.std.specs.Prelude.{◌≡◌, ◌≤◌, ◌<◌, ℕ, true, Result, Err, IfErr, IfOk, MatchResult}
use Rattle.gx_disk.specs.declared.layout.TheConstants.{LEAST_SECTORS}
use Rattle.gx_class.specs.Traits.{Traits, own}
use Rattle.gx_disk.specs.Device.{Device}
use Rattle.gx_engine.specs.Made.{Makes}
use Rattle.gx_engine.specs.declared.start.NotOpened.{NotOpened}
use Rattle.gx_engine.specs.States.{Parts}
use Rattle.gx_geom.specs.declared.refusal.Refusal.TheVariants.{BadParameter, TooSmall}
use Rattle.gx_machine.specs.Keys.{Members}
use Rattle.gx_node.specs.Reading.{format_of}
use Rattle.gx_opening.specs.Shown.{LeavesDamaged}
use Rattle.gx_restart.specs.Beginning.{CountsOpening, IsSameDevice}
use Rattle.gx_restart.specs.Opened.{IsOpened, IsRefused}
use Rattle.gx_restart.specs.Order.{OpensInOrder}
use Rattle.gx_restart.specs.Undoing.{BeganWith, IsIdle}
use Rattle.gx_restart.specs.Setting.{KeepsItsSetAs, OpensSafelyAs}

-- A device was opened with so many frames, for a class of keys of this number; of which this is the result.
pub record Opens {B D : Type 0} (shape : Members B) (traits : Traits B) (state : D → Device)
    (number frames : ℕ) (disk : D) (result : Result (Parts B D) (NotOpened D)) : Type 0 where
  pub frames_are : ((16 ≤ frames) × (frames ≤ 4096) → ⊥) → result ≡ Err (record { why = BadParameter; disk = disk })
  pub small : 16 ≤ frames → frames ≤ 4096 → (state disk).sectors < LEAST_SECTORS → result ≡ Err (record { why = TooSmall; disk = disk })
  pub device : MatchResult result (λ engine. IsSameDevice (state disk) (state engine.volume.shelf.disk)) (λ n. IsSameDevice (state disk) (state n.disk))
  pub faults : CountsOpening state (state disk).faults result
  pub idle : IfOk result IsIdle
  pub began : IfOk result (BeganWith (Makes shape traits state) frames)
  pub safe : (state disk).honest ≡ true → MatchResult result
      (λ engine. OpensSafelyAs shape traits (state disk) (state engine.volume.shelf.disk))
      (λ n. OpensSafelyAs shape traits (state disk) (state n.disk))
  pub keeps : (state disk).honest ≡ true → MatchResult result
      (λ engine. KeepsItsSetAs shape traits (state disk) (state engine.volume.shelf.disk))
      (λ n. KeepsItsSetAs shape traits (state disk) (state n.disk))
  pub order : OpensInOrder shape traits state disk result
  pub opened : (state disk).honest ≡ true
      → IfOk result (λ engine. IsOpened shape traits.is_proper traits.said (format_of (own traits)) number (state disk) (state engine.volume.shelf.disk) engine)
  pub refused : (state disk).honest ≡ true → 16 ≤ frames → frames ≤ 4096 → LEAST_SECTORS ≤ (state disk).sectors
      → IfErr result (λ n. IsRefused shape traits.is_proper traits.said (format_of (own traits)) state number disk n.disk n.why)
  pub damaged : (state disk).honest ≡ true
      → IfErr result (λ n. LeavesDamaged shape traits.is_proper traits.said (format_of (own traits)) number (state n.disk) n.why)
