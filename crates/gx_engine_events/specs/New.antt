-- A new index on a device, with an engine that starts on it.
use Rattle.std.specs.Prelude.{ℕ, ◌≡◌, ◌⊎◌, ◌≤◌, false, Err, replicate}
use Rattle.gx_geom.specs.declared.refusal.Refusal.{Refusal}
use Rattle.gx_geom.specs.declared.refusal.Refusal.TheVariants.{BadParameter, Memory}
use Rattle.gx_page.specs.Contents.{Contents}
use Rattle.gx_disk.specs.Device.{Device}
use Rattle.gx_durable.specs.Beginning.{first_glog}
use Rattle.gx_format.specs.Formatting.{Formats}
use Rattle.gx_glog.specs.declared.parameters.Parameters.{Parameters}
use Rattle.gx_pool.specs.declared.frames.TheConstants.{FRAMES}
use Rattle.gx_pool.specs.State.{State, IsEmpty}
use Rattle.gx_phases.specs.States.{fresh_state}
use Rattle.gx_engine.specs.declared.checkpoint.Checkpoint.TheVariants.{Off}
use Rattle.gx_engine.specs.declared.work.Work.{Work}
use Rattle.gx_engine.specs.States.{Parts}

-- An engine over a device with a new index: its log goes on after the first batch, which is gated and has no image;
-- pages 1 and 2 are taken, and none is in a frame; no session has a transaction, nothing is committed, and no
-- checkpoint runs.
abbrev pub new_parts : {B D : Type 0} → (pages most : ℕ) → State → D → Parts B D
new_parts {B} pages most frames disk = record {
  volume = record {
    log = first_glog;
    shelf = record { disk = disk; frames = frames; used = 2; counter = 0; pages = pages; batch = 0; has_room = false };
    most = most;
    imaged = replicate pages false;
  };
  sessions = fresh_state (Work B) 0 0 1;
  in_flight = 0;
  checkpoint = Off;
}

-- the same, with so many empty frames
pub record IsNew {B D : Type 0} (pages most count : ℕ) (e : Parts B D) : Type 0 where
  pub parts : e ≡ new_parts pages most e.volume.shelf.frames e.volume.shelf.disk
  pub empty : IsEmpty count e.volume.shelf.frames

-- how many frames an engine may have
pub record IsFrames (count : ℕ) : Type 0 where
  pub least : 16 ≤ count
  pub most : count ≤ FRAMES

-- Why no engine was started: too few frames or too many, which is tested first; or the format was refused; or memory
-- was refused.
abbrev pub WhyNone : {D : Type 0} → (D → Device) → Parameters → Contents → ℕ → D → D → Refusal → Type 0
WhyNone state parameters root count old new why =
    ((why ≡ BadParameter) × (IsFrames count → ⊥) × (new ≡ old)) ⊎ ((why ≡ Memory) ⊎ Formats state parameters root old new (Err why))
