-- A call that is driven to its end is a run of the machine, in which that call is asked and given its reply, and nothing else is.
use Rattle.std.proofs.Common.{◌≡◌, ◌≢◌, ℕ, ◌+◌, ◌-◌, Bool, true, false, inl, inr, List, [], ◌∷◌, ◌++◌, Option, Some, None, length, refl, ap, sym, ◌∙◌, subst, append_assoc}
use Rattle.std.specs.Prelude.{slice_set, ◌&&◌, if◌then◌else◌, Ok, Err, Result}
use Rattle.std.specs.List.{list_all, slice_index_or}
use Rattle.std.proofs.lemmas.List.{length-set}
use Rattle.gx_geom.specs.declared.refusal.Refusal.{Refusal}
use Rattle.gx_geom.specs.declared.refusal.Refusal.TheVariants as refusal
use Rattle.gx_machine.specs.declared.call.Call.{Call}
use Rattle.gx_machine.specs.declared.call.Call.TheVariants.{Begin, Insert, Delete, Search, Commit, Abort}
use Rattle.gx_machine.specs.declared.item.Item.{Item}
use Rattle.gx_machine.specs.declared.item.Item.TheVariants.{Asked, Sealed, Replied}
use Rattle.gx_machine.specs.declared.reply.Reply.{Reply}
use Rattle.gx_machine.specs.declared.reply.Reply.TheVariants as reply
use Rattle.gx_machine.specs.declared.reply.Asked.{Asked as Given}
use Rattle.gx_machine.specs.declared.reply.Asked.TheVariants as asked
use Rattle.gx_machine.specs.Keys.{Keys}
use Rattle.gx_machine.specs.Sessions.{Session, Idle, Open, Aborting, Committing, Locks, Changes, ask_session, asked_with, lock_for, is_unanswered}
use Rattle.gx_machine.specs.Machine.{Machine, newest, is_session, session_at, failed_machine, least_conflicting, claims_held}
use Rattle.gx_machine.specs.Runs.{Step, Asks, Answers, Seals, Durable, Closes, RefusesAsk, RefusesCall, IsStep, IsRun}
use Rattle.gx_machine.specs.Records.{items_of, record_of, calls_and_replies}
use Rattle.gx_machine.proofs.RunLemmas.{join}
use Rattle.gx_machine.proofs.Places.{at_same}
use Rattle.gx_machine.proofs.StepEffects.{asked_session, asked_there, mapped, with_set}
use Rattle.gx_machine.proofs.Transactions.{sealed_is}
use Rattle.gx_events.specs.declared.event.Event.{Event}
use Rattle.gx_events.specs.declared.event.Event.TheVariants.{Ask, Move, LogStep, WritePage, CheckpointStep, Sweep}
use Rattle.gx_events.specs.declared.outcome.Outcome.{Outcome}
use Rattle.gx_events.specs.declared.outcome.Outcome.TheVariants as outcome
use Rattle.gx_events.specs.declared.outcome.Need.TheVariants as need
use Rattle.gx_events.specs.declared.driver.Next.{Next}
use Rattle.gx_events.specs.declared.driver.Next.TheVariants.{Run, Done}
use Rattle.gx_events.specs.Driven.{next_of}
use Rattle.gx_events.specs.Happens.{Happens, Stays, MeetsFault, Ends, MoveHappens, WorkHappens, SyncHappens, AskHappens, AskRefused}
use Rattle.gx_plain.specs.OneRun.{is_in_call}
use Rattle.gx_engine.specs.Driven.{AreDriven}
use Rattle.gx_restart.specs.Alone.{HaveHappened}

-- a machine of eight sessions, in which this one waits for its answer
pub record Waits {B : Type 0} (s : ℕ) (m : Machine B) : Type 0 where
  pub eight : length m.sessions ≡ 8
  pub waits : is_unanswered (session_at s m.sessions) ≡ true

-- the event that is due, if there is one
abbrev event_in : {B : Type 0} → Event B → Next B → Event B
event_in none (Run event) = event
event_in none (Done r) = none

-- a place read where the number is a session's
abbrev place : {B : Type 0} → Bool → ℕ → List (Session B) → Session B
place there s sessions = if there then slice_index_or sessions (s - 1) Idle else Idle

-- an event that may be due in a session's call once it was asked
abbrev IsDue : {B : Type 0} → ℕ → Event B → Type 0
IsDue s (Ask t call) = ⊥
IsDue s (Move t) = t ≡ s
IsDue s LogStep = Unit {0}
IsDue s (WritePage page) = Unit {0}
IsDue s CheckpointStep = Unit {0}
IsDue s (Sweep page) = Unit {0}

both_true : (a b : Bool) → (a && b) ≡ true → (a ≡ true) × (b ≡ true)
both_true true b is = (refl, is)
both_true false b is = let no : ⊥ = cc in absurd no

module _ {B : Type 0} (k : Keys B) where
  -- a run that shows these calls and replies
  pub record Shows (old : Machine B) (items : List (Item B)) (new : Machine B) : Type 0 where
    pub steps : List (Step B)
    pub runs : IsRun k old steps new
    pub items_are : calls_and_replies (record_of steps) ≡ items
    pub in_call : list_all is_in_call steps ≡ true

  one : (step : Step B) → is_in_call step ≡ true → (old new : Machine B) → IsStep k old step new → Shows old (calls_and_replies (record_of (step ∷ []))) new
  one step own old new is = record { steps = step ∷ []; runs = (new, is, refl); items_are = refl; in_call = rw own refl }

  still : (old new : Machine B) → new ≡ old → Shows old [] new
  still old new same = record { steps = []; runs = same; items_are = refl; in_call = refl }

  -- what follows an outcome: the call goes on, and is still open; or it ends with this reply
  abbrev Follows : ℕ → Machine B → Machine B → Next B → Type 0
  Follows s m n (Run event) = Shows m [] n × (Waits s n × IsDue s event)
  Follows s m n (Done r) = Shows m (Replied s r ∷ []) n

  -- a machine that had failed is the one that fails
  fails_again : (m n : Machine B) → m.failed ≡ true → n ≡ m → n ≡ failed_machine m
  fails_again m n had same = same ∙ ap (λ b. record m { failed = b }) had

  by_fault : (s : ℕ) (why : Refusal) (m n : Machine B) → is_unanswered (session_at s m.sessions) ≡ true → MeetsFault why m n
      → Shows m (Replied s (reply.Refused why) ∷ []) n
  by_fault s refusal.Device m n waits met = one (RefusesCall s refusal.Device) refl m n (waits, met)
  by_fault s refusal.Failed m n waits met = one (RefusesCall s refusal.Failed) refl m n (waits, fails_again m n met.0 met.1)
  by_fault s other m n waits met = absurd met

  answered : (s : ℕ) (r : Reply B) (m n : Machine B) → IsStep k m (Answers s r) n → Shows m (Replied s r ∷ []) n
  answered s r m n is = one (Answers s r) refl m n is

  ended_by : (s : ℕ) (why : Refusal) (m n : Machine B) → Ends k s (reply.Refused why) m n → Shows m (Replied s (reply.Refused why) ∷ []) n
  ended_by s refusal.Present m n ends = answered s (reply.Refused refusal.Present) m n ends
  ended_by s refusal.Absent m n ends = answered s (reply.Refused refusal.Absent) m n ends
  ended_by s refusal.PagesFull m n ends = one (Closes s refusal.PagesFull) refl m n ends.1
  ended_by s refusal.Memory m n ends = one (Closes s refusal.Memory) refl m n ends.1
  ended_by s refusal.Device m n ends = by_fault s refusal.Device m n ends.0 ends.1
  ended_by s refusal.Failed m n ends = by_fault s refusal.Failed m n ends.0 ends.1
  ended_by s other m n ends = absurd ends.1

  ended : (s : ℕ) (r : Reply B) (m n : Machine B) → Ends k s r m n → Shows m (Replied s r ∷ []) n
  ended s reply.Ok m n ends = answered s reply.Ok m n ends
  ended s reply.Inserted m n ends = answered s reply.Inserted m n ends
  ended s reply.Deleted m n ends = answered s reply.Deleted m n ends
  ended s (reply.Found entries) m n ends = answered s (reply.Found entries) m n ends
  ended s (reply.Committed number) m n ends = answered s (reply.Committed number) m n ends
  ended s reply.Aborted m n ends = answered s reply.Aborted m n ends
  ended s (reply.Refused why) m n ends = ended_by s why m n ends

  waits_still : (s : ℕ) (m n : Machine B) → n.sessions ≡ m.sessions → Waits s m → Waits s n
  waits_still s m n same w = record { eight = ap length same ∙ w.eight; waits = ap (λ xs. is_unanswered (session_at s xs)) same ∙ w.waits }

  waits_sealed : (s number : ℕ) (m n : Machine B) → Waits s m → IsStep k m (Seals s number) n → Waits s n
  waits_sealed s number m n w is =
      let sealed = sealed_is k s number m n w.eight is.1 is.2 in
      let found = mapped (with_set s m) _ n is.2 in
      record {
        eight = sym (ap (λ (x : Machine B). length x.sessions) found.2) ∙ (length-set m.sessions (s - 1) (Committing (newest m + 1)) ∙ w.eight);
        waits = ap is_unanswered sealed.waits;
      }

  stays_open : (s : ℕ) (m n : Machine B) → Waits s m → Stays m n → Shows m [] n × Waits s n
  stays_open s m n w stays = (still m n stays.1, waits_still s m n (ap (λ x. x.sessions) stays.1) w)

  settles : (s : ℕ) (m n : Machine B) → Waits s m → IsStep k m (Durable n.oldest) n → Shows m [] n × Waits s n
  settles s m n w is = (one (Durable n.oldest) refl m n is, waits_still s m n (ap (λ x. x.sessions) is.3) w)

  -- an event that is no session's

  worked : (s : ℕ) (m n : Machine B) (given : Outcome B) → Waits s m → given ≢ outcome.Refused refusal.Damaged → WorkHappens m given n → Follows s m n (next_of s given)
  worked s m n (outcome.Replied r) w sound h = absurd h
  worked s m n outcome.More w sound h = let on = stays_open s m n w h in (on.0, (on.1, refl))
  worked s m n (outcome.Help need.Log) w sound h = let on = stays_open s m n w h in (on.0, (on.1, tt))
  worked s m n (outcome.Help (need.Write page)) w sound h = let on = stays_open s m n w h in (on.0, (on.1, tt))
  worked s m n (outcome.Help need.Checkpoint) w sound h = let on = stays_open s m n w h in (on.0, (on.1, tt))
  worked s m n outcome.Nothing w sound h = let on = stays_open s m n w h in (on.0, (on.1, refl))
  worked s m n (outcome.Refused refusal.Damaged) w sound h = absurd (sound refl)
  worked s m n (outcome.Refused refusal.Device) w sound h = by_fault s refusal.Device m n w.waits h
  worked s m n (outcome.Refused refusal.Failed) w sound h = by_fault s refusal.Failed m n w.waits h
  worked s m n (outcome.Refused other) w sound h = absurd h

  synced : (s : ℕ) (m n : Machine B) (given : Outcome B) → Waits s m → given ≢ outcome.Refused refusal.Damaged → SyncHappens k m given n → Follows s m n (next_of s given)
  synced s m n outcome.More w sound h = let on = settles s m n w h in (on.0, (on.1, refl))
  synced s m n (outcome.Replied r) w sound h = worked s m n (outcome.Replied r) w sound h
  synced s m n (outcome.Help need) w sound h = worked s m n (outcome.Help need) w sound h
  synced s m n outcome.Nothing w sound h = worked s m n outcome.Nothing w sound h
  synced s m n (outcome.Refused why) w sound h = worked s m n (outcome.Refused why) w sound h

  -- a session's move

  unmoved : (s : ℕ) (why : Refusal) (m n : Machine B) → Waits s m → MoveHappens k s m (outcome.Refused why) n → ⊥
  unmoved s refusal.BadSession m n w h =
      let idle : session_at s m.sessions ≡ Idle = ap (λ t. place t s m.sessions) h.0 in
      let no : is_unanswered {B = B} Idle ≡ true = sym (ap is_unanswered idle) ∙ w.waits in cc
  unmoved s refusal.NoCall m n w h = let no : true ≡ false = sym w.waits ∙ h.0.1 in cc
  unmoved s other m n w h = absurd h.0

  moved : (s : ℕ) (m n : Machine B) (given : Outcome B) → Waits s m → MoveHappens k s m given n → Follows s m n (next_of s given)
  moved s m n (outcome.Replied r) w h = ended s r m n h
  moved s m n outcome.More w (inl stays) = let on = stays_open s m n w stays in (on.0, (on.1, refl))
  moved s m n outcome.More w (inr seals) = (one (Seals s (newest n)) refl m n seals, (waits_sealed s (newest n) m n w seals, refl))
  moved s m n (outcome.Help need.Log) w h = let on = stays_open s m n w h in (on.0, (on.1, tt))
  moved s m n (outcome.Help (need.Write page)) w h = let on = stays_open s m n w h in (on.0, (on.1, tt))
  moved s m n (outcome.Help need.Checkpoint) w h = let on = stays_open s m n w h in (on.0, (on.1, tt))
  moved s m n outcome.Nothing w h = absurd h
  moved s m n (outcome.Refused why) w h = absurd (unmoved s why m n w h)

  happened : (s : ℕ) (m n : Machine B) (event : Event B) (given : Outcome B) → Waits s m → IsDue s event → given ≢ outcome.Refused refusal.Damaged
      → Happens k m event given n → Follows s m n (next_of s given)
  happened s m n (Ask t call) given w due sound h = absurd due
  happened s m n (Move t) given w due sound h = moved s m n given w (subst (λ a. MoveHappens k a m given n) due h)
  happened s m n LogStep given w due sound h = synced s m n given w sound h
  happened s m n (WritePage page) given w due sound h = worked s m n given w sound h
  happened s m n CheckpointStep given w due sound h = synced s m n given w sound h
  happened s m n (Sweep page) given w due sound h = worked s m n given w sound h

  -- runs join, and so does what they show

  calls_join : (xs ys : List (Item B)) → calls_and_replies (xs ++ ys) ≡ calls_and_replies xs ++ calls_and_replies ys
  calls_join [] ys = refl
  calls_join (Asked s call ∷ xs) ys = ap (λ (items : List (Item B)). Asked s call ∷ items) (calls_join xs ys)
  calls_join (Sealed s number ∷ xs) ys = calls_join xs ys
  calls_join (Replied s r ∷ xs) ys = ap (λ (items : List (Item B)). Replied s r ∷ items) (calls_join xs ys)

  records_join : (before after : List (Step B)) → record_of (before ++ after) ≡ record_of before ++ record_of after
  records_join [] after = refl
  records_join (step ∷ before) after =
      ap (λ (items : List (Item B)). items_of step ++ items) (records_join before after) ∙ sym (append_assoc (items_of step) (record_of before) (record_of after))

  all_joined : (xs ys : List (Step B)) → list_all is_in_call xs ≡ true → list_all is_in_call ys ≡ true → list_all is_in_call (xs ++ ys) ≡ true
  all_joined [] ys first second = second
  all_joined (x ∷ xs) ys first second = let both = both_true (is_in_call x) (list_all is_in_call xs) first in rw (both.0, all_joined xs ys both.1 second) refl

  pub shows_join : (old middle new : Machine B) (xs ys : List (Item B)) → Shows old xs middle → Shows middle ys new → Shows old (xs ++ ys) new
  shows_join old middle new xs ys first second = record {
    steps = first.steps ++ second.steps;
    runs = join k first.steps second.steps old middle new first.runs second.runs;
    items_are =
        ap calls_and_replies (records_join first.steps second.steps) ∙ calls_join (record_of first.steps) (record_of second.steps)
        ∙ ap (λ items. items ++ calls_and_replies (record_of second.steps)) first.items_are ∙ ap (λ items. xs ++ items) second.items_are;
    in_call = all_joined first.steps second.steps first.in_call second.in_call;
  }

  -- what follows an outcome, and what shows how it goes on from there, show the call's end
  going : (s : ℕ) (m middle n : Machine B) (next : Next B) (steps : List (Event B × Outcome B)) (r : Reply B) → Follows s m middle next
      → AreDriven s next steps (Done r) → HaveHappened k middle steps n
      → ((event : Event B) → Waits s middle → IsDue s event → AreDriven s (Run event) steps (Done r) → Shows middle (Replied s r ∷ []) n) → Shows m (Replied s r ∷ []) n
  going s m middle n (Run event) steps r on are have rest = shows_join m middle n [] (Replied s r ∷ []) on.0 (rest event on.1.0 on.1.1 are)
  going s m middle n (Done last) [] r over are have rest =
      let same : r ≡ last = cc in
      subst (λ (x : Machine B). Shows m (Replied s r ∷ []) x) (sym have) (subst (λ (x : Reply B). Shows m (Replied s x ∷ []) middle) (sym same) over)
  going s m middle n (Done last) (step ∷ steps) r over are have rest = let no : ⊥ = cc in absurd no

  -- a call that waits for its answer is driven to its end
  driven : (s : ℕ) (m n : Machine B) (event : Event B) (steps : List (Event B × Outcome B)) (r : Reply B) → Waits s m → IsDue s event
      → AreDriven s (Run event) steps (Done r) → HaveHappened k m steps n → Shows m (Replied s r ∷ []) n
  driven s m n event [] r w due are have = cc
  driven s m n event (step ∷ steps) r w due (same, are) (middle, sound, happens, have) =
      let now : event ≡ step.0 = ap (λ next. event_in event next) same in
      going s m middle n (next_of s step.1) steps r (happened s m middle step.0 step.1 w (subst (IsDue s) now due) sound happens) are have
      (λ later waits is_due more. driven s middle n later steps r waits is_due more have)

  -- asking

  opened_lock : (call : Call B) (lock : Result (Locks B) Refusal) (locks : Locks B) (changes : Changes B) → (asked_with call lock locks changes).0 ≡ asked.Open
      → is_unanswered (asked_with call lock locks changes).1 ≡ true
  opened_lock call (Ok g) locks changes h = refl
  opened_lock call (Err why) locks changes h = cc

  opened : (call : Call B) (least : Option ℕ) (spent : ℕ) (x : Session B) → (ask_session k call least spent x).0 ≡ asked.Open
      → is_unanswered (ask_session k call least spent x).1 ≡ true
  opened Begin least spent Idle h = cc
  opened (Insert e) least spent Idle h = cc
  opened (Delete e) least spent Idle h = cc
  opened (Search q) least spent Idle h = cc
  opened Commit least spent Idle h = cc
  opened Abort least spent Idle h = cc
  opened Begin least spent (Open locks changes None) h = cc
  opened (Insert e) least spent (Open locks changes None) h = opened_lock (Insert e) (lock_for k (Insert e) least spent locks) locks changes h
  opened (Delete e) least spent (Open locks changes None) h = opened_lock (Delete e) (lock_for k (Delete e) least spent locks) locks changes h
  opened (Search q) least spent (Open locks changes None) h = opened_lock (Search q) (lock_for k (Search q) least spent locks) locks changes h
  opened Commit least spent (Open locks changes None) h = opened_lock Commit (lock_for k Commit least spent locks) locks changes h
  opened Abort least spent (Open locks changes None) h = refl
  opened call least spent (Open locks changes (Some pending)) h = cc
  opened call least spent (Aborting locks) h = cc
  opened call least spent (Committing number) h = cc

  asked_by : (s : ℕ) (call : Call B) (m n : Machine B) (there : Bool) → length m.sessions ≡ 8 → is_session s ≡ there
      → asked_there k s call m there ≡ (asked.Open, n) → Waits s n
  asked_by s call m n true eight is h =
      let given = asked_session k s call m in
      let sessions : n.sessions ≡ slice_set m.sessions (s - 1) given.1 = sym (ap (λ (p : Given B × Machine B). p.1.sessions) h) in
      record {
        eight = ap length sessions ∙ (length-set m.sessions (s - 1) given.1 ∙ eight);
        waits = ap (λ (xs : List (Session B)). is_unanswered (session_at s xs)) sessions
            ∙ (ap is_unanswered (at_same s m.sessions given.1 is eight)
            ∙ opened call (least_conflicting k call s 1 m.sessions) (claims_held m.sessions) (session_at s m.sessions) (ap (λ (p : Given B × Machine B). p.0) h));
      }
  asked_by s call m n false eight is h =
      let no : asked.Now (reply.Refused refusal.BadSession) ≡ asked.Open = ap (λ (p : Given B × Machine B). p.0) h in cc

  refused_ask : (s : ℕ) (call : Call B) (r : Reply B) (m n : Machine B) → AskRefused k s call r m n → Shows m (Asked s call ∷ Replied s r ∷ []) n
  refused_ask s call (reply.Refused refusal.Failed) m n h = one (RefusesAsk s call refusal.Failed) refl m n (fails_again m n h.0 h.1)
  refused_ask s call (reply.Refused refusal.HistoryFull) m n h = one (RefusesAsk s call refusal.HistoryFull) refl m n h.1
  refused_ask s call other m n h = absurd h

  -- what follows the ask
  AsksOn : ℕ → Call B → Machine B → Machine B → Next B → Type 0
  AsksOn s call m n (Run event) = Shows m (Asked s call ∷ []) n × (Waits s n × IsDue s event)
  AsksOn s call m n (Done r) = Shows m (Asked s call ∷ Replied s r ∷ []) n

  asks : (s : ℕ) (call : Call B) (m n : Machine B) (given : Outcome B) → length m.sessions ≡ 8 → AskHappens k s call m given n → AsksOn s call m n (next_of s given)
  unfolding AsksOn
  asks s call m n (outcome.Replied r) eight (inl is) = one (Asks s call (asked.Now r)) refl m n is
  asks s call m n (outcome.Replied r) eight (inr refused) = refused_ask s call r m n refused
  asks s call m n outcome.More eight h = (one (Asks s call asked.Open) refl m n h, (asked_by s call m n (is_session s) eight refl h.1, refl))
  asks s call m n (outcome.Help need) eight h = absurd h
  asks s call m n outcome.Nothing eight h = absurd h
  asks s call m n (outcome.Refused why) eight h = absurd h

  asks_going : (s : ℕ) (call : Call B) (m middle n : Machine B) (next : Next B) (steps : List (Event B × Outcome B)) (r : Reply B) → AsksOn s call m middle next
      → AreDriven s next steps (Done r) → HaveHappened k middle steps n → Shows m (Asked s call ∷ Replied s r ∷ []) n
  unfolding AsksOn
  asks_going s call m middle n (Run event) steps r on are have =
      shows_join m middle n (Asked s call ∷ []) (Replied s r ∷ []) on.0 (driven s middle n event steps r on.1.0 on.1.1 are have)
  asks_going s call m middle n (Done last) [] r over are have =
      let same : r ≡ last = cc in
      subst (λ (x : Machine B). Shows m (Asked s call ∷ Replied s r ∷ []) x) (sym have) (subst (λ (x : Reply B). Shows m (Asked s call ∷ Replied s x ∷ []) middle) (sym same) over)
  asks_going s call m middle n (Done last) (step ∷ steps) r over are have = let no : ⊥ = cc in absurd no

  -- a call that is asked and driven to its end shows its ask and its reply
  pub called : (s : ℕ) (call : Call B) (m n : Machine B) (steps : List (Event B × Outcome B)) (r : Reply B) → length m.sessions ≡ 8
      → AreDriven s (Run (Ask s call)) steps (Done r) → HaveHappened k m steps n → Shows m (Asked s call ∷ Replied s r ∷ []) n
  called s call m n [] r eight are have = cc
  called s call m n (step ∷ steps) r eight (same, are) (middle, sound, happens, have) =
      let now : step.0 ≡ Ask s call = ap (λ next. event_in (Ask s call) next) (sym same) in
      asks_going s call m middle n (next_of s step.1) steps r (asks s call m middle step.1 eight (subst (λ e. Happens k m e step.1 middle) now happens)) are have
