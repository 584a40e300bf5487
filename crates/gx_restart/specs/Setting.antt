-- What clauses say of a class of keys and of a device, from what their traits say of them. Where a relation names no
-- limits, it holds within whatever limits an index has.
use Rattle.std.specs.Prelude.{ℕ, Bool, List}
use Rattle.gx_geom.specs.declared.refusal.Refusal.{Refusal}
use Rattle.gx_machine.specs.declared.entry.Entry.{Entry}
use Rattle.gx_machine.specs.Keys.{Members}
use Rattle.gx_class.specs.Traits.{Traits, own}
use Rattle.gx_disk.specs.Device.{Device}
use Rattle.gx_glog.specs.declared.parameters.Parameters.{Parameters}
use Rattle.gx_page.specs.Contents.{Contents}
use Rattle.gx_node.specs.Reading.{Format, format_of, is_node}
use Rattle.gx_recovery.specs.Known.{Limits}
use Rattle.gx_index_laws.specs.Classes.{Class, Page}
use Rattle.gx_durable.specs.Spelled.{Reading as Spelling}
use Rattle.gx_durable.specs.Classes.{class_of, reading_of}
use Rattle.gx_engine.specs.States.{Parts}
use Rattle.gx_restart.specs.declared.verification.NotVerified.{NotVerified}
use Rattle.gx_restart.specs.declared.verification.Report.{Report}
use Rattle.gx_restart.specs.Alone.{RunsOn}
use Rattle.gx_restart.specs.Beginning.{HasBegun, HasNotBegun, HoldsFound}
use Rattle.gx_restart.specs.Idle.{IsSeenIdle}
use Rattle.gx_restart.specs.Keeping.{KeepsItsSet, OpensSafely}
use Rattle.gx_restart.specs.Opened.{IsOpened, IsRefused}
use Rattle.gx_restart.specs.Reading.{Reads, WhereHeld}
use Rattle.gx_restart.specs.Verified.{HandsOut, IsCopyOf, IsDamagedCopy, IsUncopied, IsUnverified, IsUnverifiedCopy, IsVerified}

module _ {B : Type 0} (shape : Members B) (traits : Traits B) where
  abbrev form : Format B
  form = format_of (own traits)

  -- an engine holds the index that a log keeps; it begins so, or does not
  abbrev pub HoldsFoundAs : {D : Type 0} → Parameters → List ℕ → Device → Parts B D → Type 0
  HoldsFoundAs p seen e engine = HoldsFound shape traits.is_proper traits.said form p seen e engine

  abbrev pub HasBegunAs : {D : Type 0} → Parameters → List ℕ → Device → Device → Parts B D → Type 0
  HasBegunAs p seen d e engine = HasBegun shape traits.is_proper traits.said form p seen d e engine

  abbrev pub HasNotBegunAs : Parameters → List ℕ → Device → Device → Refusal → Type 0
  HasNotBegunAs p seen d e why = HasNotBegun shape traits.is_proper traits.said form p seen d e why

  -- what a crash may leave at each moment of an opening
  abbrev pub OpensSafelyAs : Device → Device → Type 0
  OpensSafelyAs d e = OpensSafely shape traits.is_proper traits.said form d e

  abbrev pub KeepsItsSetAs : Device → Device → Type 0
  KeepsItsSetAs d e = KeepsItsSet shape traits.is_proper traits.said form d e

  -- an engine was opened, or that was refused; and it is seen with no session at work
  abbrev pub IsOpenedAs : {D : Type 0} → Device → Device → Parts B D → Type 0
  IsOpenedAs d e engine = IsOpened shape traits.is_proper traits.said form traits.CLASS d e engine

  abbrev pub IsRefusedAs : {D : Type 0} → (D → Device) → D → D → Refusal → Type 0
  IsRefusedAs state old new why = IsRefused shape traits.is_proper traits.said form state traits.CLASS old new why

  abbrev pub IsSeenIdleAs : {D : Type 0} → Device → Parts B D → Type 0
  IsSeenIdleAs d engine = IsSeenIdle shape traits.is_proper traits.said form d engine

  -- a device is verified, or is not; so is a copy of it, or no copy was made
  abbrev pub IsVerifiedAs : Device → Report → Type 0
  IsVerifiedAs d report = IsVerified shape traits.is_proper traits.said form traits.CLASS d report

  abbrev pub IsUnverifiedAs : Device → Refusal → Type 0
  IsUnverifiedAs d why = IsUnverified shape traits.is_proper traits.said form traits.CLASS d why

  abbrev pub IsUnverifiedCopyAs : Device → Refusal → Type 0
  IsUnverifiedCopyAs d why = IsUnverifiedCopy shape traits.is_proper traits.said form traits.CLASS d why

  abbrev pub IsUncopiedAs : Device → Refusal → Type 0
  IsUncopiedAs d why = IsUncopied shape traits.is_proper traits.said form traits.CLASS d why

  abbrev pub IsCopyOfAs : Device → Device → Type 0
  IsCopyOfAs d e = IsCopyOf shape traits.is_proper traits.said form traits.CLASS d e

  abbrev pub HandsOutAs : NotVerified → Type 0
  HandsOutAs n = HandsOut shape traits.is_proper traits.said form traits.CLASS n

  abbrev pub IsDamagedCopyAs : Device → Device → Type 0
  IsDamagedCopyAs d e = IsDamagedCopy shape traits.is_proper traits.said form d e

module _ {B D : Type 0} (shape : Members B) (traits : Traits B) (state : D → Device) where
  abbrev class : Limits → Class B
  class = class_of shape traits.is_proper

  abbrev node : Format B
  node = format_of (own traits)

  abbrev spelled : Spelling (Entry B) (Page B)
  spelled = reading_of traits.said node

  abbrev passes : ℕ → Contents → Bool
  passes = is_node node

  -- whatever index an engine held, what was done is events of it; and its tree is unchanged
  abbrev pub RunsOnAs : Parts B D → Parts B D → Type 0
  RunsOnAs old new = (l : Limits) → RunsOn (class l) spelled node passes state old new

  abbrev pub ReadsAs : Parts B D → Parts B D → Type 0
  ReadsAs old new = (l : Limits) → Reads (class l) spelled node passes state old new

  -- where an engine holds an index, this is so
  abbrev pub WhereHeldAs : Parts B D → Type 0 → Type 0
  WhereHeldAs e P = (l : Limits) → WhereHeld (class l) spelled node passes state e P
