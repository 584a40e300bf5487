-- Commits that were acknowledged are left by every crash.
use Rattle.std.proofs.Common.{◌≡◌, ℕ, ◌≤◌, Bool, true, false, List, [], ◌∷◌, Some, ap, sym, ◌∙◌, subst, arith}
use Rattle.gx_geom.specs.declared.refusal.Refusal.{Refusal}
use Rattle.gx_geom.specs.declared.refusal.Refusal.TheVariants as refusal
use Rattle.gx_machine.specs.declared.call.Call.{Call}
use Rattle.gx_machine.specs.declared.reply.Reply.{Reply}
use Rattle.gx_machine.specs.declared.reply.Reply.TheVariants as reply
use Rattle.gx_machine.specs.declared.reply.Asked.{Asked}
use Rattle.gx_machine.specs.Keys.{Keys}
use Rattle.gx_machine.specs.Sessions.{Session, answer_session, sealed_set, closed_session}
use Rattle.gx_machine.specs.Machine.{Machine, is_session, session_at, with_session, answer, failed_machine}
use Rattle.gx_machine.specs.Runs.{Step, Asks, Answers, Seals, Durable, Closes, RefusesAsk, RefusesCall, Fails, Crashes, Nothing, IsStep, IsRun, AskRefused, MeetsFault}
use Rattle.gx_machine.proofs.StepEffects.{mapped, with_set, asked_there}
use Rattle.gx_machine.proofs.Answered.{durable_commit}

module _ {B : Type 0} (k : Keys B) where
  along : (old new m : Machine B) → m ≡ new → old.oldest ≤ m.oldest → old.oldest ≤ new.oldest
  along old new m e h = subst (λ (z : Machine B). old.oldest ≤ z.oldest) e h

  ask_rises : (s : ℕ) (call : Call B) (given : Asked B) (old new : Machine B) (there : Bool) → asked_there k s call old there ≡ (given, new) → old.oldest ≤ new.oldest
  ask_rises s call given old new true h = along old new (asked_there k s call old true).1 (ap (λ (p : Asked B × Machine B). p.1) h) (omega arith)
  ask_rises s call given old new false h = along old new old (ap (λ (p : Asked B × Machine B). p.1) h) (omega arith)

  fault_rises : (why : Refusal) (old new : Machine B) → MeetsFault why old new → old.oldest ≤ new.oldest
  fault_rises refusal.Device old new h = along old new (failed_machine old) (sym h.1) (omega arith)
  fault_rises refusal.Failed old new h = along old new (failed_machine old) (sym h) (omega arith)
  fault_rises other old new h = absurd h

  ask_refused_rises : (s : ℕ) (call : Call B) (why : Refusal) (old new : Machine B) → AskRefused k s call why old new → old.oldest ≤ new.oldest
  ask_refused_rises s call refusal.HistoryFull old new h = along old new old (sym h.2) (omega arith)
  ask_refused_rises s call refusal.Device old new h = along old new (failed_machine old) (sym h.1) (omega arith)
  ask_refused_rises s call refusal.Failed old new h = along old new (failed_machine old) (sym h) (omega arith)
  ask_refused_rises s call other old new h = absurd h

  -- the number of the oldest kept set falls in no step
  pub oldest_rises : (old new : Machine B) (step : Step B) → IsStep k old step new → old.oldest ≤ new.oldest
  oldest_rises old new (Asks s call given) h = ask_rises s call given old new (is_session s) h.1
  oldest_rises old new (Answers s r) h =
      let found = mapped (λ (p : Reply B × Session B). (p.0, with_session s p.1 old)) (answer_session k old.latest old.oldest (session_at s old.sessions)) (r, new) h.1 in
      along old new (with_session s found.0.1 old) (ap (λ (p : Reply B × Machine B). p.1) found.2) (omega arith)
  oldest_rises old new (Seals s number) h =
      let found = mapped (with_set s old) (sealed_set k old.latest (session_at s old.sessions)) new h.2 in
      along old new (with_set s old found.0) found.2 (omega arith)
  oldest_rises old new (Durable number) h = subst (λ (z : Machine B). old.oldest ≤ z.oldest) (sym h.3) h.1
  oldest_rises old new (Closes s why) h =
      let found = mapped (λ (x : Session B). with_session s x old) (closed_session (session_at s old.sessions)) new h.2 in
      along old new (with_session s found.0 old) found.2 (omega arith)
  oldest_rises old new (RefusesAsk s call why) h = ask_refused_rises s call why old new h
  oldest_rises old new (RefusesCall s why) h = fault_rises why old new h.1
  oldest_rises old new Fails h = along old new (failed_machine old) (sym h) (omega arith)
  oldest_rises old new (Crashes number) h = subst (λ (z : Machine B). old.oldest ≤ z.oldest) (sym h.2) h.0
  oldest_rises old new Nothing h = along old new old (sym h) (omega arith)

  pub run_rises : (steps : List (Step B)) (old new : Machine B) → IsRun k old steps new → old.oldest ≤ new.oldest
  run_rises [] old new run = along old new old (sym run) (omega arith)
  run_rises (step ∷ steps) old new run = omega (arith, oldest_rises old run.0 step run.1, run_rises steps run.0 new run.2)

  -- an answer to a commit comes once the commit is durable
  pub acknowledged : (s committed : ℕ) (old new : Machine B) → answer k s old ≡ Some (reply.Committed committed, new) → committed ≤ new.oldest
  acknowledged s committed old new h =
      let found = mapped (λ (p : Reply B × Session B). (p.0, with_session s p.1 old)) (answer_session k old.latest old.oldest (session_at s old.sessions)) (reply.Committed committed, new) h in
      let is : found.0.0 ≡ reply.Committed committed = ap (λ (p : Reply B × Machine B). p.0) found.2 in
      let durable : committed ≤ old.oldest =
      durable_commit k old.latest old.oldest committed (session_at s old.sessions) found.0.1 (found.1 ∙ (λ i. Some (is i, found.0.1))) in
      subst (λ (z : Machine B). committed ≤ z.oldest) (ap (λ (p : Reply B × Machine B). p.1) found.2) durable
