use Rattle.std.proofs.Common.{◌≡◌, inl, inr, refl, subst}
use Rattle.gx_machine.specs.Keys.{Keys}
use Rattle.gx_script.specs.Corners.{Grammar}
use Rattle.gx_script.specs.Scripts.{asked, IsDone, IsStopped}
use Rattle.gx_script.specs.declared.fault.ScriptFault.{ScriptFault}
use Rattle.gx_plain.specs.Index.{Index, fresh_index, CallsIndex}
use Rattle.gx_plain.specs.Runs.{IsPlain}
use Rattle.gx_plain.proofs.CallRuns.{script_run}
use Rattle.gx_commands.specs.Scripts.{RanScript, StoppedScript, TellsFault}
use Rattle.gx_commands.specs.Streams.{HasEnded, IsFaultOf, Stream, Outputs, kind_of}
use Rattle.gx_commands.proofs.Faults.{fault_of}
use Rattle.gx_commands.proofs.scripts.run_script.Goals as goal

-- a script that ran to its end on a fresh index is one run
ran : {B : Type 0} (grammar : Grammar B) (k : Keys B) (had left : Stream) (from to : Outputs) (old new : Index B) → old ≡ fresh_index
    → IsDone grammar (CallsIndex k) had.bytes left.bytes from.replies.bytes to.replies.bytes old new → HasEnded left → to.person ≡ from.person
    → RanScript grammar k had left from to 0
ran {B} grammar k had left from to old new fresh done ended quiet =
    let from_fresh : IsDone grammar (CallsIndex k) had.bytes left.bytes from.replies.bytes to.replies.bytes fresh_index new =
    subst (λ (index : Index B). IsDone grammar (CallsIndex k) had.bytes left.bytes from.replies.bytes to.replies.bytes index new) fresh done in
    let plain : IsPlain {B = B} fresh_index = record { eight = refl; durable = refl; runs = refl } in
    record {
      index = new;
      status_is = refl;
      done = from_fresh;
      one_run = script_run grammar k 1 (asked grammar from_fresh.input) fresh_index new from_fresh.text plain from_fresh.ran;
      ended = ended;
      quiet = quiet;
    }

-- and so one that was stopped
halted : {B : Type 0} (grammar : Grammar B) (k : Keys B) (had left : Stream) (from to : Outputs) (old new : Index B) (fault : ScriptFault) → old ≡ fresh_index
    → IsStopped grammar (CallsIndex k) had.bytes left.bytes from.replies.bytes to.replies.bytes old new fault → IsFaultOf left to.replies fault
    → TellsFault fault (kind_of left to.replies fault) from.person to.person → StoppedScript grammar k had left from to 1
halted {B} grammar k had left from to old new fault fresh stopped faulty tells = record {
  index = new;
  fault = fault;
  status_is = refl;
  stopped = subst (λ (index : Index B). IsStopped grammar (CallsIndex k) had.bytes left.bytes from.replies.bytes to.replies.bytes index new fault) fresh stopped;
  faulty = faulty;
  tells = tells;
}

pub returns-in-Ok-run_plain : goal.returns-in-Ok-run_plain
returns-in-Ok-run_plain g c =
    inr (inl (ran _ _ _ _ _ _ c.in-Ok.index c.run_plain.new.index c.in-Ok.ensures c.in-Ok-run_plain.ensures.done c.in-Ok-run_plain.ensures.ended refl))

pub returns : goal.returns
returns g c =
    inr (inr (halted _ _ _ _ _ _ c.in-Ok.index c.run_plain.new.index c.in-Err.fault c.in-Ok.ensures c.in-Err.ensures.stopped
    (fault_of g.R.Read.remaining g.W.Write.contents c.run_plain.new.reader c.run_plain.new.writer c.in-Err.fault c.in-Err.ensures.fault) c.tell_stopped.ensures))
