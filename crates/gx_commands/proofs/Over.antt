-- A script or a dump on an engine is one on the index that is begun over it.
use Rattle.std.proofs.Common.{◌≡◌, ℕ, Bool, false, List, ap, ◌∙◌, subst}
use Rattle.gx_machine.specs.Keys.{Members}
use Rattle.gx_script.specs.Corners.{Grammar}
use Rattle.gx_class.specs.Traits.{traits_of}
use Rattle.gx_class.specs.declared.class.KeyClass.{Ghosts}
use Rattle.gx_disk.specs.Device.{Device}
use Rattle.gx_engine.specs.States.{Parts}
use Rattle.gx_restart.specs.States.{State}
use Rattle.gx_commands.specs.Streams.{Outputs, Stream}
use Rattle.gx_commands.specs.declared.watched.Watched.{Watched}
use Rattle.gx_commands.specs.Dumping.{DumpsIndex, index_over}
use Rattle.gx_commands.specs.Endings.{RunsScript, device_of, watched_over}

-- the device of an engine that was taken out of its index
pub left_of : {B D : Type 0} (index : State B D) (engine : Parts B D) (disk : D) → engine ≡ index.engine → disk ≡ engine.volume.shelf.disk
    → disk ≡ device_of index
left_of {B} {D} index engine disk is left = left ∙ ap (λ (e : Parts B D). e.volume.shelf.disk) is

module _ {B C D : Type 0} (grammar : Grammar B) (shape : Members B) (is_key : B → Bool) (said : List ℕ → B) (class : Ghosts C B) (state : D → Device)
    (engine : Parts B D) (index : State B D) (first : index ≡ record { engine = engine; ended = false }) where
  pub dumps_over : (after : D) (from to : Outputs) (status : ℕ) → DumpsIndex grammar shape (traits_of is_key said class) state index after from to status
      → DumpsIndex grammar shape (traits_of is_key said class) state (index_over shape (traits_of is_key said class) state engine) after from to status
  dumps_over after from to status dumps =
      subst (λ (o : State B D). DumpsIndex grammar shape (traits_of is_key said class) state o after from to status) first dumps

  -- a new index over the engine is watched
  begins : (old : Watched (State B D)) → old ≡ record { index = index; met = false } → old ≡ watched_over shape (traits_of is_key said class) state engine
  begins old then = then ∙ ap (λ (i : State B D). let w : Watched (State B D) = record { index = i; met = false } in w) first

  pub runs_over : (old : Watched (State B D)) (after : D) (had left : Stream) (from to : Outputs) (status : ℕ) → old ≡ record { index = index; met = false }
      → RunsScript grammar shape (traits_of is_key said class) state old after had left from to status
      → RunsScript grammar shape (traits_of is_key said class) state (watched_over shape (traits_of is_key said class) state engine) after had left from to status
  runs_over old after had left from to status then runs =
      subst (λ (o : Watched (State B D)). RunsScript grammar shape (traits_of is_key said class) state o after had left from to status) (begins old then) runs
