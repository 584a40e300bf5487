-- What a run of calls counts: the calls, and the one that failed.
use Rattle.std.proofs.Common.{◌≡◌, ◌∙◌, sym, ap, subst, inl, inr, ℕ, ◌+◌, ◌≤◌, List, [], ◌∷◌, length, Result, Ok, Err, arith}
use Rattle.std.specs.Prelude.{IfErr}
use Rattle.gx_geom.specs.declared.refusal.Refusal.{Refusal}
use Rattle.gx_geom.specs.declared.refusal.Refusal.TheVariants as refusal
use Rattle.gx_disk.specs.Device.{Counts, Device, SameDevice}
use Rattle.gx_format.specs.Calls.{Call, HasFailed, HasRun, Makes, Runs, Sync, Write}
use Rattle.gx_migrate.specs.Migrating.{IsNotLaid}
use Rattle.gx_older.specs.Reads.{FaultsAre}
use Rattle.gx_recovery.specs.Analysis.{Analysis}

-- each call is one
call_counts : (call : Call) (d e : Device) (result : Result (Unit {0}) Refusal) → Makes call d e result → Counts 1 d e result
call_counts (Write first n bytes) d e result makes = makes.1.0
call_counts Sync d e result makes = makes.0

module _ {D : Type 0} (state : D → Device) where
  -- all were made, and none failed
  record HasCounted (made : List Call) (failed : ℕ) (a b : D) : Type 0 where
    pub same : SameDevice (state a) (state b)
    pub counted : (state b).calls ≤ (state a).calls + length made
    pub reported : (state b).faults ≡ (state a).faults + failed

  run_counted : (calls : List Call) (a b : D) → HasRun state calls a b → HasCounted calls 0 a b
  run_counted [] a b same = record {
    same = (ap (λ (d : D). (state d).sectors) same, ap (λ (d : D). (state d).honest) same);
    counted = (let is = ap (λ (d : D). (state d).calls) same in omega (arith, is));
    reported = (let is = ap (λ (d : D). (state d).faults) same in omega (arith, is));
  }
  run_counted (call ∷ calls) a b run =
      let first = call_counts call (state a) (state run.0) (Ok tt) run.1.0 in
      let rest = run_counted calls run.0 b run.1.1 in
      record {
        same = (rest.same.0 ∙ first.sectors, rest.same.1 ∙ first.honest);
        counted = (let one = first.calls in let more = rest.counted in omega (arith, one, more));
        reported = (let one : (state run.0).faults ≡ (state a).faults = first.faults in let more = rest.reported in omega (arith, one, more));
      }

  failed_counted : (calls : List Call) (a b : D) → HasFailed state calls a b → HasCounted calls 1 a b
  failed_counted [] a b none = absurd none
  failed_counted (call ∷ calls) a b (inl fails) =
      let first = call_counts call (state a) (state b) (Err refusal.Device) fails in
      record {
        same = (first.sectors, first.honest);
        counted = (let one = first.calls in omega (arith, one));
        reported = (let one : (state b).faults ≡ (state a).faults + 1 = first.faults in omega (arith, one));
      }
  failed_counted (call ∷ calls) a b (inr later) =
      let first = call_counts call (state a) (state later.0) (Ok tt) later.1.0 in
      let rest = failed_counted calls later.0 b later.1.1 in
      record {
        same = (rest.same.0 ∙ first.sectors, rest.same.1 ∙ first.honest);
        counted = (let one = first.calls in let more = rest.counted in omega (arith, one, more));
        reported = (let one : (state later.0).faults ≡ (state a).faults = first.faults in let more = rest.reported in omega (arith, one, more));
      }

  -- no more calls than these were made
  pub runs_calls : (calls : List Call) (a b : D) (result : Result (Unit {0}) Refusal) → Runs state calls a b result → (state b).calls ≤ (state a).calls + length calls
  runs_calls calls a b (Ok x) run = (run_counted calls a b run).counted
  runs_calls calls a b (Err why) fails = (failed_counted calls a b fails.1).counted

  -- the device is as large and as honest
  pub runs_same : (calls : List Call) (a b : D) (result : Result (Unit {0}) Refusal) → Runs state calls a b result → SameDevice (state a) (state b)
  runs_same calls a b (Ok x) run = (run_counted calls a b run).same
  runs_same calls a b (Err why) fails = (failed_counted calls a b fails.1).same

  -- and one that failed is reported
  pub runs_faults : (calls : List Call) (a b : D) (result : Result (Unit {0}) Refusal) → Runs state calls a b result → FaultsAre (state a).faults (state b).faults result
  runs_faults calls a b (Ok x) run = (let all = (run_counted calls a b run).reported in omega (arith, all))
  runs_faults calls a b (Err why) fails =
      subst (λ (w : Refusal). FaultsAre {T = Unit {0}} (state a).faults (state b).faults (Err w)) (sym fails.0) (failed_counted calls a b fails.1).reported

  -- no other refusal comes of it
  pub runs_not_laid : {E : Type 0} (told : Analysis E) (calls : List Call) (a b : D) (result : Result (Unit {0}) Refusal) → Runs state calls a b result → IfErr result (IsNotLaid told)
  runs_not_laid told calls a b (Ok x) run = tt
  runs_not_laid told calls a b (Err why) fails = inl fails.0
