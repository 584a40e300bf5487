-- A log and a pool still run after a step.
use Rattle.std.proofs.Common.{◌≡◌, sym, refl, subst, ℕ, true, [], Result, Ok}
use Rattle.gx_geom.specs.declared.refusal.Refusal.{Refusal}
use Rattle.gx_disk.specs.Device.{Device, Counts}
use Rattle.gx_glog.specs.declared.stage.Stage.{Stage}
use Rattle.gx_glog.specs.declared.stage.Stage.TheVariants.{Idle}
use Rattle.gx_glog.specs.State.{Log, Goes}
use Rattle.gx_glog.specs.Standing.{On}
use Rattle.gx_glog.specs.Steps.{CallOf, Keeps}
use Rattle.gx_pool.specs.State.{State}
use Rattle.gx_recovery.specs.Known.{Known}
use Rattle.gx_recovery.specs.Logged.{Logged}
use Rattle.gx_durable.specs.Spelled.{Reading}
use Rattle.gx_durable.specs.Steps.{with_batch, stepped, told_frames}
use Rattle.gx_durable.specs.Stamps.{Stamped, AllSaid}
use Rattle.gx_durable.specs.Calls.{StepKeepsRunning}
use Rattle.gx_durable.proofs.Stepping.{none_flies, step_up, step_goes, call_stands}
use Rattle.gx_durable.proofs.Stamping.{step_said, step_stamped}

module _ {E P : Type 0} (k : Known E P) (r : Reading E P) where
  -- a step of the log, which is then noted in the pool
  pub step_runs : (old new : Log) (frames frames' : State) (d e : Device) (made : ℕ) (result : Result Stage Refusal) → frames' ≡ told_frames result new frames → Counts made d e result → Goes old new result
      → (d.honest ≡ true → CallOf new d e result) → (result ≡ Ok Idle → e ≡ d)
      → (d.honest ≡ true → On old d.seen d.pending → Keeps old new d e result) → StepKeepsRunning k r old new frames frames' d e result
  step_runs old new frames frames' d e made result tells counts goes call rests keeps bodies s l honest runs said =
      let t : Logged E P = with_batch old.stage old.filling s in
      let kept = keeps honest runs.up.on in
      let up = step_up k l r old new d e bodies s runs.up result counts.sectors goes (call honest) rests kept in
      let goes_on = step_goes k l r old new d e bodies s runs.up result in
      let none : old.stage ≡ Idle → s.flight ≡ [] = λ idle. none_flies k l r old new d e bodies s runs.up idle in
      record {
        runs = record {
          up = up;
          stamped = (let S : State → Type 0 = λ f. Stamped new f (stepped result t) in
              subst S (sym tells) (step_stamped frames old new s runs.stamped said none runs.up.on.sound.places old.stage old.filling result refl refl goes));
        };
        said = (let A : State → Type 0 = λ f. AllSaid f (stepped result t) in
            subst A (sym tells) (step_said frames old new s runs.stamped said none runs.up.on.sound.places old.stage old.filling result refl));
        safely = record { goes = goes_on; leaves = call_stands k l r new d e _ s (stepped result t) kept.time goes_on up };
      }
