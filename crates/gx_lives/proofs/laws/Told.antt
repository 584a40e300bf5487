-- A life's events and openings are steps of the machine, one after another.
use Rattle.std.proofs.Common.{◌≡◌, inl, inr, ℕ, ◌≤◌, true, List, [], ◌∷◌, ◌++◌, refl, ap, sym, ◌∙◌, subst, arith}
use Rattle.gx_geom.specs.declared.refusal.Refusal.{Refusal}
use Rattle.gx_geom.specs.declared.refusal.Refusal.TheVariants as refusal
use Rattle.gx_machine.specs.declared.call.Call.{Call}
use Rattle.gx_machine.specs.declared.reply.Reply.{Reply}
use Rattle.gx_machine.specs.declared.reply.Reply.TheVariants as reply
use Rattle.gx_machine.specs.declared.reply.Asked.TheVariants as asked
use Rattle.gx_machine.specs.Keys.{Keys}
use Rattle.gx_machine.specs.Machine.{Machine, crash, failed_machine, newest, set_of}
use Rattle.gx_machine.specs.Runs.{Step, Asks, Answers, Seals, Durable, Closes, RefusesAsk, RefusesCall, Fails, Crashes, IsRun, IsStep}
use Rattle.gx_machine.proofs.RunLemmas.{join}
use Rattle.gx_events.specs.declared.event.Event.{Event}
use Rattle.gx_events.specs.declared.event.Event.TheVariants.{Ask, Move, LogStep, WritePage, CheckpointStep, Sweep}
use Rattle.gx_events.specs.declared.outcome.Outcome.{Outcome}
use Rattle.gx_events.specs.declared.outcome.Outcome.TheVariants.{Replied, More, Help, Nothing, Refused}
use Rattle.gx_events.specs.Happens.{AskHappens, AskRefused, Ends, Happens, MoveHappens, MeetsFault, SyncHappens, WorkHappens}
use Rattle.gx_lives.specs.Bearing.{AreOf, IsOf}
use Rattle.gx_lives.specs.Lives.{Turn}
use Rattle.gx_lives.specs.Lives as life
use Rattle.gx_lives.specs.OneRun.{IsAcknowledged}
use Rattle.gx_lives.specs.Told.{Tells, TellsEvent, TellsReply, TellsTurn, TellsWork}

module _ {B : Type 0} (k : Keys B) where
  -- steps of which this holds lead from old to new
  abbrev Run : Machine B → Machine B → (List (Step B) → Type 0) → Type 0
  Run old new Told = (steps : List (Step B)) × Told steps × IsRun k old steps new

  one : (old new : Machine B) (step : Step B) (Told : List (Step B) → Type 0) → Told (step ∷ []) → IsStep k old step new → Run old new Told
  one old new step Told is goes = (step ∷ [], is, (new, goes, refl))

  none : (old new : Machine B) (Told : List (Step B) → Type 0) → Told [] → new ≡ old → Run old new Told
  none old new Told is same = ([], is, same)

  -- one that had failed is as one that fails
  had_failed : (old new : Machine B) → old.failed ≡ true → new ≡ old → new ≡ failed_machine old
  had_failed old new failed same = same ∙ (λ t. record old { failed = failed t })

  refused_ask : (s : ℕ) (call : Call B) (r : Reply B) (old new : Machine B) → AskRefused k s call r old new → Run old new (TellsEvent (Ask s call) (Replied r))
  refused_ask s call (reply.Refused refusal.Failed) old new h =
      one old new (RefusesAsk s call refusal.Failed) (TellsEvent (Ask s call) (Replied (reply.Refused refusal.Failed))) (inr (refusal.Failed, refl, refl)) (had_failed old new h.0 h.1)
  refused_ask s call (reply.Refused refusal.HistoryFull) old new h =
      one old new (RefusesAsk s call refusal.HistoryFull) (TellsEvent (Ask s call) (Replied (reply.Refused refusal.HistoryFull))) (inr (refusal.HistoryFull, refl, refl)) h.1
  refused_ask s call other old new h = absurd h

  ask : (s : ℕ) (call : Call B) (outcome : Outcome B) (old new : Machine B) → AskHappens k s call old outcome new → Run old new (TellsEvent (Ask s call) outcome)
  ask s call (Replied r) old new (inl h) = one old new (Asks s call (asked.Now r)) (TellsEvent (Ask s call) (Replied r)) (inl refl) h
  ask s call (Replied r) old new (inr h) = refused_ask s call r old new h
  ask s call More old new h = one old new (Asks s call asked.Open) (TellsEvent (Ask s call) More) refl h
  ask s call other old new h = absurd h

  answers : (s : ℕ) (r : Reply B) (old new : Machine B) → IsStep k old (Answers s r) new → Run old new (TellsReply s r)
  answers s r old new h = one old new (Answers s r) (TellsReply s r) (inl refl) h

  closes : (s : ℕ) (why : Refusal) (old new : Machine B) → IsStep k old (Closes s why) new → Run old new (TellsReply s (reply.Refused why))
  closes s why old new h = one old new (Closes s why) (TellsReply s (reply.Refused why)) (inr (why, refl, inl refl)) h

  refuses : (s : ℕ) (why : Refusal) (old new : Machine B) → IsStep k old (RefusesCall s why) new → Run old new (TellsReply s (reply.Refused why))
  refuses s why old new h = one old new (RefusesCall s why) (TellsReply s (reply.Refused why)) (inr (why, refl, inr refl)) h

  ends : (s : ℕ) (r : Reply B) (old new : Machine B) → Ends k s r old new → Run old new (TellsReply s r)
  ends s (reply.Refused refusal.Present) old new h = answers s (reply.Refused refusal.Present) old new h
  ends s (reply.Refused refusal.Absent) old new h = answers s (reply.Refused refusal.Absent) old new h
  ends s (reply.Refused refusal.PagesFull) old new h = closes s refusal.PagesFull old new h.1
  ends s (reply.Refused refusal.Memory) old new h = closes s refusal.Memory old new h.1
  ends s (reply.Refused refusal.Device) old new h = refuses s refusal.Device old new h
  ends s (reply.Refused refusal.Failed) old new h = refuses s refusal.Failed old new (h.0, had_failed old new h.1.0 h.1.1)
  ends s (reply.Refused other) old new h = absurd h.1
  ends s reply.Ok old new h = answers s reply.Ok old new h
  ends s reply.Inserted old new h = answers s reply.Inserted old new h
  ends s reply.Deleted old new h = answers s reply.Deleted old new h
  ends s (reply.Found entries) old new h = answers s (reply.Found entries) old new h
  ends s reply.Aborted old new h = answers s reply.Aborted old new h
  ends s (reply.Committed number) old new h = answers s (reply.Committed number) old new h

  move : (s : ℕ) (outcome : Outcome B) (old new : Machine B) → MoveHappens k s old outcome new → Run old new (TellsEvent (Move s) outcome)
  move s (Replied r) old new h = ends s r old new h
  move s More old new (inl h) = none old new (TellsEvent (Move s) More) (inl refl) h.1
  move s More old new (inr h) = one old new (Seals s (newest new)) (TellsEvent (Move s) More) (inr (newest new, refl)) h
  move s (Help need) old new h = none old new (TellsEvent (Move s) (Help need)) refl h.1
  move s Nothing old new h = absurd h
  move s (Refused why) old new h = none old new (TellsEvent (Move s) (Refused why)) refl h.1

  fails : (why : Refusal) (old new : Machine B) → MeetsFault why old new → Run old new (TellsWork (Refused why))
  fails refusal.Device old new h = one old new Fails (TellsWork (Refused refusal.Device)) (inr refl) h.1
  fails refusal.Failed old new h = none old new (TellsWork (Refused refusal.Failed)) (inl refl) h.1
  fails other old new h = absurd h

  work : (outcome : Outcome B) (old new : Machine B) → WorkHappens old outcome new → Run old new (TellsWork outcome)
  work (Replied r) old new h = absurd h
  work More old new h = none old new (TellsWork More) (inl refl) h.1
  work (Help need) old new h = none old new (TellsWork (Help need)) refl h.1
  work Nothing old new h = none old new (TellsWork Nothing) refl h.1
  work (Refused why) old new h = fails why old new h

  sync : (outcome : Outcome B) (old new : Machine B) → SyncHappens k old outcome new → Run old new (TellsWork outcome)
  sync More old new h = one old new (Durable new.oldest) (TellsWork More) (inr (new.oldest, refl)) h
  sync other old new h = work other old new h

  event : (e : Event B) (outcome : Outcome B) (old new : Machine B) → Happens k old e outcome new → Run old new (TellsEvent e outcome)
  event (Ask s call) outcome old new h = ask s call outcome old new h
  event (Move s) outcome old new h = move s outcome old new h
  event LogStep outcome old new h = sync outcome old new h
  event (WritePage page) outcome old new h = work outcome old new h
  event CheckpointStep outcome old new h = sync outcome old new h
  event (Sweep page) outcome old new h = work outcome old new h

  pub turn_told : (turn : Turn B) (old new : Machine B) → IsOf k old turn new → Run old new (TellsTurn turn)
  turn_told (life.Happens e outcome) old new h = event e outcome old new h
  turn_told life.Crashes old new same = none old new (TellsTurn life.Crashes) refl same
  turn_told life.GivesUp old new same = none old new (TellsTurn life.GivesUp) refl same
  turn_told life.Opens old new (number, step) = one old new (Crashes number) (TellsTurn life.Opens) (number, refl) step
  turn_told (life.Refuses why) old new same = none old new (TellsTurn (life.Refuses why)) refl same
  turn_told life.Reads old new upkeep = upkeep

  -- a life is a run
  pub told : (turns : List (Turn B)) (old new : Machine B) → AreOf k old turns new → Run old new (Tells turns)
  told [] old new same = ([], refl, same)
  told (turn ∷ turns) old new (middle, is, others) =
      let first = turn_told turn old middle is in
      let rest = told turns middle new others in
      (first.0 ++ rest.0, (first.0, rest.0, first.1, rest.1, refl), join k first.0 rest.0 old middle new first.2 rest.2)

  -- what was acknowledged is durable from then on
  pub covered : ((old answered last crashed : Machine B) (s committed number : ℕ) (steps : List (Step B)) → IsStep k old (Answers s (reply.Committed committed)) answered
      → IsRun k answered steps last → IsStep k last (Crashes number) crashed → (committed ≤ number) × (newest crashed ≡ number) × (crashed.latest ≡ set_of number last))
      → (turns : List (Turn B)) (old new : Machine B) → AreOf k old turns new → (number : ℕ) → IsAcknowledged number turns → number ≤ new.oldest
  covered law [] old new same number none = absurd none
  covered law (turn ∷ turns) old new (middle, is, others) number (inl (s, same)) =
      let answered : IsStep k old (Answers s (reply.Committed number)) middle = subst (λ (t : Turn B). IsOf k old t middle) same is in
      let run = told turns middle new others in
      let kept : IsStep k new (Crashes new.oldest) (crash new.oldest new) = (omega arith, omega arith, refl) in
      (law old middle new (crash new.oldest new) s number new.oldest run.0 answered run.2 kept).0
  covered law (turn ∷ turns) old new (middle, is, others) number (inr more) = covered law turns middle new others number more

  -- what was acknowledged is kept by a later opening
  pub opened_later : ((old answered last crashed : Machine B) (s committed number : ℕ) (steps : List (Step B)) → IsStep k old (Answers s (reply.Committed committed)) answered
      → IsRun k answered steps last → IsStep k last (Crashes number) crashed → (committed ≤ number) × (newest crashed ≡ number) × (crashed.latest ≡ set_of number last))
      → (old answered last opened : Machine B) (s committed : ℕ) (turns : List (Turn B)) → IsOf k old (life.Happens (Move s) (Replied (reply.Committed committed))) answered
      → AreOf k answered turns last → IsOf k last life.Opens opened → (committed ≤ newest opened) × (opened.latest ≡ set_of (newest opened) last)
  opened_later law old answered last opened s committed turns is are (number, step) =
      let run = told turns answered last are in
      let all = law old answered last opened s committed number run.0 is run.2 step in
      (subst (λ n. committed ≤ n) (sym all.1) all.0, all.2 ∙ ap (λ n. set_of n last) (sym all.1))
