-- What calls alone decide: a run that asks one and answers it, and the text of a script.
use Rattle.std.proofs.Common.{◌≡◌, ◌≢◌, ◌∙◌, ℕ, ◌+◌, ◌-◌, ◌≤◌, Bool, true, false, ⊎_elim, List, [], ◌∷◌, ◌++◌, length, drop, refl, ap, sym, subst, arith, length-set, length-drop, length-append}
use Rattle.std.specs.Prelude.{Option, None, Some, option_map, unwrap_or, Result, Ok, Err, ◌&&◌, if◌then◌else◌, nat_le, slice_set}
use Rattle.std.specs.Option.{option_or}
use Rattle.std.specs.List.{list_all}
use Rattle.std.proofs.Math.Decide.{ℕ_discrete}
use Rattle.gx_geom.specs.declared.refusal.Refusal.{Refusal}
use Rattle.gx_geom.specs.declared.refusal.Refusal.TheVariants as refusal
use Rattle.gx_machine.specs.declared.entry.Entry.{Entry}
use Rattle.gx_machine.specs.declared.call.Call.{Call}
use Rattle.gx_machine.specs.declared.call.Call.TheVariants.{Begin, Insert, Delete, Search, Commit, Abort}
use Rattle.gx_machine.specs.declared.item.Item.{Item}
use Rattle.gx_machine.specs.declared.item.Item.TheVariants.{Asked, Replied, Sealed}
use Rattle.gx_machine.specs.declared.reply.Reply.{Reply}
use Rattle.gx_machine.specs.declared.reply.Reply.TheVariants as reply
use Rattle.gx_machine.specs.declared.reply.Asked.{Asked as Given}
use Rattle.gx_machine.specs.declared.reply.Asked.TheVariants.{Now, Open as Opened}
use Rattle.gx_machine.specs.Keys.{Keys}
use Rattle.gx_machine.specs.Sessions.{Locks, Changes, Session, Idle, Open, Aborting, Committing, lock_for, asked_with, ask_session, answer_call, answer_session, sealed_set, is_unanswered}
use Rattle.gx_machine.specs.Machine.{Machine, newest, is_session, session_at, with_session, kept_sets, least_conflicting, claims_held, ask, answer, seal, durable}
use Rattle.gx_machine.specs.Runs.{Step, Asks, Answers, Seals, Durable, Closes, RefusesAsk, RefusesCall, Fails, Crashes, Nothing, IsRun, MeetsFault, AskRefused, may_close}
use Rattle.gx_machine.specs.Records.{record_of, calls_and_replies}
use Rattle.gx_machine.proofs.Places.{at_same, at_set}
use Rattle.gx_machine.proofs.SessionMoves.{value_of}
use Rattle.gx_machine.proofs.StepEffects.{mapped, asked_session, asked_there}
use Rattle.gx_script.specs.declared.line.Line.{Line}
use Rattle.gx_script.specs.declared.line.Line.TheVariants.{Blank, Bad, Reversed, Asks as Wants}
use Rattle.gx_script.specs.Corners.{Grammar}
use Rattle.gx_script.specs.Replies.{bad_line, reply_text}
use Rattle.gx_script.specs.Scripts.{IsScript, asked_as}
use Rattle.gx_plain.specs.Index.{CallsIndex, Index, answer_machine, commit}
use Rattle.gx_plain.specs.OneRun.{IsCallRun, is_in_call}
use Rattle.gx_plain.specs.Runs.{IsPlain}
use Rattle.gx_plain.specs.Decided.{AnswersDecided, Rests, IsDecidedCall, answered_by, decided_call, decided_text, is_decided, is_decided_refusal, seen_by_calls}
use Rattle.gx_plain.proofs.CallRuns.{call_plain, call_run}

-- ---- what items are

call_in : {B : Type 0} → Call B → Item B → Call B
call_in none (Asked s call) = call
call_in none (Sealed s number) = none
call_in none (Replied s r) = none

session_in : {B : Type 0} → Item B → ℕ
session_in (Asked s call) = s
session_in (Sealed s number) = s
session_in (Replied s r) = s

reply_in : {B : Type 0} → Reply B → Item B → Reply B
reply_in none (Asked s call) = none
reply_in none (Sealed s number) = none
reply_in none (Replied s r) = r

-- ---- refusals that calls don't decide

closed : (why : Refusal) → may_close why ≡ true → is_decided_refusal why ≡ false
closed refusal.PagesFull may = refl
closed refusal.Memory may = refl
closed other may = cc

module _ {B : Type 0} (k : Keys B) where
  faulted : (why : Refusal) (old new : Machine B) → MeetsFault why old new → is_decided_refusal why ≡ false
  faulted refusal.Device old new met = refl
  faulted refusal.Failed old new met = refl
  faulted other old new met = absurd met

  refused_so : (s : ℕ) (call : Call B) (why : Refusal) (old new : Machine B) → AskRefused k s call why old new → is_decided_refusal why ≡ false
  refused_so s call refusal.HistoryFull old new is = refl
  refused_so s call refusal.Device old new is = refl
  refused_so s call refusal.Failed old new is = refl
  refused_so s call other old new is = absurd is

  never_decided : (s t : ℕ) (why : Refusal) (r : Reply B) (rest more : List (Item B)) → Replied t (reply.Refused why) ∷ rest ≡ Replied s r ∷ more → is_decided r ≡ true → is_decided_refusal why ≡ false → ⊥
  never_decided s t why r rest more same decided not_so =
      let is : reply.Refused why ≡ r = cc in
      let no : true ≡ false = sym decided ∙ ap is_decided (sym is) ∙ not_so in cc

  -- ---- no session waits, or only this one

  pub record OnlyWaits (s : ℕ) (m : Machine B) : Type 0 where
    pub there : is_session s ≡ true
    pub eight : length m.sessions ≡ 8
    pub works : m.failed ≡ false
    pub others : (t : ℕ) → t ≢ s → is_unanswered (session_at t m.sessions) ≡ false

  -- a session that doesn't wait has nothing to be sealed
  unsealed : (latest : List (Entry B)) (x : Session B) → is_unanswered x ≡ false → sealed_set k latest x ≡ None
  unsealed latest Idle rests = refl
  unsealed latest (Open locks changes None) rests = refl
  unsealed latest (Open locks changes (Some call)) rests = cc
  unsealed latest (Aborting locks) rests = cc
  unsealed latest (Committing number) rests = cc

  never_sealed : (s : ℕ) (m middle : Machine B) → is_unanswered (session_at s m.sessions) ≡ false → seal k s m ≡ Some middle → ⊥
  never_sealed s m middle rests is =
      let set = mapped _ (sealed_set k m.latest (session_at s m.sessions)) middle is in
      let no : None ≡ Some set.0 = sym (unsealed m.latest (session_at s m.sessions) rests) ∙ set.1 in cc

  -- the sessions once this one, which waits no more, has changed
  rests_with : (s : ℕ) (m : Machine B) (y : Session B) → OnlyWaits s m → is_unanswered y ≡ false → Rests (with_session s y m)
  rests_with s m y w rests = record {
    eight = length-set m.sessions (s - 1) y ∙ w.eight;
    works = w.works;
    answered = λ t. ⊎_elim (λ here. ap is_unanswered here.1 ∙ rests) (λ other. ap is_unanswered other.1 ∙ w.others t other.0) (at_set t s m.sessions y w.there w.eight);
  }

  waits_with : (s : ℕ) (m : Machine B) (y : Session B) → is_session s ≡ true → Rests m → OnlyWaits s (with_session s y m)
  waits_with s m y there rests = record {
    there = there;
    eight = length-set m.sessions (s - 1) y ∙ rests.eight;
    works = rests.works;
    others = λ t other. ⊎_elim (λ here. absurd (other here.0)) (λ apart. ap is_unanswered apart.1 ∙ rests.answered t) (at_set t s m.sessions y there rests.eight);
  }

  -- ---- what becomes durable changes nothing that calls see

  durable_newest : (number : ℕ) (m : Machine B) → m.oldest ≤ number → number ≤ newest m → newest (durable number m) ≡ newest m
  durable_newest number m low high = let left = length-drop (number - m.oldest) m.older in omega (arith, left, low, high)

  durable_seen : (number : ℕ) (m : Machine B) → m.oldest ≤ number → number ≤ newest m → seen_by_calls (durable number m) ≡ seen_by_calls m
  durable_seen number m low high =
      ap (λ n. record { older = []; latest = m.latest; oldest = n; sessions = m.sessions; failed = false }) (durable_newest number m low high)

  -- ---- the end that a session's call comes to

  abbrev finish_by : ℕ → Session B → Machine B → Reply B × Machine B
  finish_by s Idle m = answer_machine k s m
  finish_by s (Open locks changes call) m = answer_machine k s m
  finish_by s (Aborting locks) m = answer_machine k s m
  finish_by s (Committing number) m = (reply.Committed number, with_session s Idle m)

  abbrev finish : ℕ → Machine B → Reply B × Machine B
  finish s m = finish_by s (session_at s m.sessions) m

  -- an answer that doesn't hang on what is durable
  answered_at_once : (s : ℕ) (m : Machine B) (y : Reply B × Session B) → answer_session k m.latest (newest m) (session_at s m.sessions) ≡ Some y
      → answer_machine k s (seen_by_calls m) ≡ (y.0, with_session s y.1 (seen_by_calls m))
  answered_at_once s m y is =
      let answers : answer k s (seen_by_calls m) ≡ Some (y.0, with_session s y.1 (seen_by_calls m)) =
      ap (λ (o : Option (Reply B × Session B)). option_map (λ r. (r.0, with_session s r.1 (seen_by_calls m))) o) is in
      ap (λ (o : Option (Reply B × Machine B)). unwrap_or (option_or o (commit k s (seen_by_calls m))) (reply.Refused (if is_session s then refusal.NoCall else refusal.BadSession), seen_by_calls m)) answers

  ends_by : (s : ℕ) (m : Machine B) (x : Session B) (y : Reply B × Session B) → session_at s m.sessions ≡ x → answer_session k m.latest m.oldest x ≡ Some y
      → (finish_by s x (seen_by_calls m) ≡ (y.0, with_session s y.1 (seen_by_calls m))) × (is_unanswered y.1 ≡ false)
  ends_by s m Idle y at is = let no : ⊥ = cc in absurd no
  ends_by s m (Open locks changes None) y at is = let no : ⊥ = cc in absurd no
  ends_by s m (Open locks changes (Some call)) y at is =
      let from = mapped _ (answer_call k call m.latest changes) y is in
      (answered_at_once s m y (ap (λ (x : Session B). answer_session k m.latest (newest m) x) at ∙ is), ap (λ (z : Reply B × Session B). is_unanswered z.1) (sym from.2))
  ends_by s m (Aborting locks) y at is =
      (answered_at_once s m y (ap (λ (x : Session B). answer_session k m.latest (newest m) x) at ∙ is), ap (λ (z : Reply B × Session B). is_unanswered z.1) (sym (value_of is)))
  ends_by s m (Committing number) y at is = committed_by s m number y (nat_le number m.oldest) is
    where
      committed_by : (s : ℕ) (m : Machine B) (number : ℕ) (y : Reply B × Session B) (b : Bool) → (if b then Some (reply.Committed number, Idle) else None) ≡ Some y
          → (◌≡◌ {A = Reply B × Machine B} (reply.Committed number, with_session s Idle (seen_by_calls m)) (y.0, with_session s y.1 (seen_by_calls m))) × (is_unanswered y.1 ≡ false)
      committed_by s m number y true is =
          (ap (λ (z : Reply B × Session B). (z.0, with_session s z.1 (seen_by_calls m))) (value_of is), ap (λ (z : Reply B × Session B). is_unanswered z.1) (sym (value_of is)))
      committed_by s m number y false is = let no : ⊥ = cc in absurd no

  ends : (s : ℕ) (r : Reply B) (m middle : Machine B) → OnlyWaits s m → answer k s m ≡ Some (r, middle) → (finish s (seen_by_calls m) ≡ (r, seen_by_calls middle)) × Rests middle
  ends s r m middle w is =
      let from = mapped _ (answer_session k m.latest m.oldest (session_at s m.sessions)) (r, middle) is in
      let so = ends_by s m (session_at s m.sessions) from.0 refl from.1 in
      let to : with_session s from.0.1 m ≡ middle = ap (λ (p : Reply B × Machine B). p.1) from.2 in
      (so.0 ∙ ap (λ (p : Reply B × Machine B). (p.0, seen_by_calls p.1)) from.2, subst Rests to (rests_with s m from.0.1 w so.1))

  -- ---- a commit is sealed, and then ends as it would have

  -- a machine of one set, under this number
  abbrev one_set : ℕ → List (Entry B) → List (Session B) → Machine B
  one_set number set sessions = record { older = []; latest = set; oldest = number; sessions = sessions; failed = false }

  -- a commit that is sealed with everything durable before it
  sealed_once : (s n : ℕ) (set latest : List (Entry B)) (sessions : List (Session B)) → is_session s ≡ true → length sessions ≡ 8
      → answer k s (record { older = drop (n + 1 - n) (latest ∷ []); latest = set; oldest = n + 1; sessions = slice_set sessions (s - 1) (Committing (n + 1)); failed = false })
      ≡ Some (reply.Committed (n + 1), one_set (n + 1) set (slice_set (slice_set sessions (s - 1) (Committing (n + 1))) (s - 1) Idle))
  sealed_once s n set latest sessions there eight =
      let one : n + 1 - n ≡ 1 = omega arith in
      let least : nat_le (n + 1) (n + 1) ≡ true = grind (arith) in
      rw (one, at_same s sessions (Committing (n + 1)) there eight, least) refl

  seals_by : (s : ℕ) (m : Machine B) (x : Session B) (set : List (Entry B)) → is_session s ≡ true → length m.sessions ≡ 8 → session_at s m.sessions ≡ x → sealed_set k m.latest x ≡ Some set
      → finish_by s x (seen_by_calls m) ≡ (reply.Committed (newest m + 1), one_set (newest m + 1) set (slice_set (slice_set m.sessions (s - 1) (Committing (newest m + 1))) (s - 1) Idle))
  seals_by s m Idle set there eight at is = let no : ⊥ = cc in absurd no
  seals_by s m (Open locks changes None) set there eight at is = let no : ⊥ = cc in absurd no
  seals_by s m (Open locks changes (Some Begin)) set there eight at is = let no : ⊥ = cc in absurd no
  seals_by s m (Open locks changes (Some (Insert e))) set there eight at is = let no : ⊥ = cc in absurd no
  seals_by s m (Open locks changes (Some (Delete e))) set there eight at is = let no : ⊥ = cc in absurd no
  seals_by s m (Open locks changes (Some (Search q))) set there eight at is = let no : ⊥ = cc in absurd no
  seals_by s m (Open locks changes (Some Abort)) set there eight at is = let no : ⊥ = cc in absurd no
  seals_by s m (Aborting locks) set there eight at is = let no : ⊥ = cc in absurd no
  seals_by s m (Committing number) set there eight at is = let no : ⊥ = cc in absurd no
  seals_by s m (Open locks changes (Some Commit)) set there eight at is =
      let none : answer_session k m.latest (newest m) (session_at s m.sessions) ≡ None = ap (λ (x : Session B). answer_session k m.latest (newest m) x) at in
      let some : sealed_set k m.latest (session_at s m.sessions) ≡ Some set = ap (λ (x : Session B). sealed_set k m.latest x) at ∙ is in
      let same : newest m + 0 ≡ newest m = omega arith in
      rw (none, some, same, sealed_once s (newest m) set m.latest m.sessions there eight) refl

  -- the machine once it is sealed
  abbrev sealed_as : ℕ → Machine B → List (Entry B) → Machine B
  sealed_as s m set = record m { older = kept_sets m; latest = set; sessions = slice_set m.sessions (s - 1) (Committing (newest m + 1)) }

  newest_sealed : (s : ℕ) (m : Machine B) (set : List (Entry B)) → newest (sealed_as s m set) ≡ newest m + 1
  newest_sealed s m set = let long = length-append m.older (m.latest ∷ []) in omega (arith, long)

  sealed_finish : (s : ℕ) (m : Machine B) (set : List (Entry B)) → is_session s ≡ true → length m.sessions ≡ 8
      → finish s (seen_by_calls (sealed_as s m set)) ≡ (reply.Committed (newest m + 1), one_set (newest m + 1) set (slice_set (slice_set m.sessions (s - 1) (Committing (newest m + 1))) (s - 1) Idle))
  sealed_finish s m set there eight =
      ap (λ (x : Session B). finish_by s x (seen_by_calls (sealed_as s m set))) (at_same s m.sessions (Committing (newest m + 1)) there eight)
      ∙ ap (λ n. (reply.Committed (newest m + 1), one_set n set (slice_set (slice_set m.sessions (s - 1) (Committing (newest m + 1))) (s - 1) Idle))) (newest_sealed s m set)

  sealed_waits : (s : ℕ) (m : Machine B) (set : List (Entry B)) → OnlyWaits s m → OnlyWaits s (sealed_as s m set)
  sealed_waits s m set w = record {
    there = w.there;
    eight = length-set m.sessions (s - 1) (Committing (newest m + 1)) ∙ w.eight;
    works = w.works;
    others = λ t other.
        ⊎_elim (λ same. absurd (other same.0)) (λ apart. ap is_unanswered apart.1 ∙ w.others t other) (at_set t s m.sessions (Committing (newest m + 1)) w.there w.eight);
  }

  seals : (s : ℕ) (m middle : Machine B) → OnlyWaits s m → seal k s m ≡ Some middle → (finish s (seen_by_calls m) ≡ finish s (seen_by_calls middle)) × OnlyWaits s middle
  seals s m middle w sealed =
      let from = mapped (sealed_as s m) (sealed_set k m.latest (session_at s m.sessions)) middle sealed in (
        seals_by s m (session_at s m.sessions) from.0 w.there w.eight refl from.1
            ∙ sym (sealed_finish s m from.0 w.there w.eight) ∙ ap (λ (x : Machine B). finish s (seen_by_calls x)) from.2,
        subst (OnlyWaits s) from.2 (sealed_waits s m from.0 w),
      )

  -- ---- runs, step by step

  both_first : (a b : Bool) → (a && b) ≡ true → a ≡ true
  both_first true b h = refl
  both_first false b h = h

  both_second : (a b : Bool) → (a && b) ≡ true → b ≡ true
  both_second true b h = h
  both_second false b h = cc

  rests_same : (m n : Machine B) → n.sessions ≡ m.sessions → n.failed ≡ m.failed → Rests m → Rests n
  rests_same m n sessions failed rests = record {
    eight = ap length sessions ∙ rests.eight;
    works = failed ∙ rests.works;
    answered = λ t. ap (λ (xs : List (Session B)). is_unanswered (session_at t xs)) sessions ∙ rests.answered t;
  }

  -- with nothing asked and nothing replied
  abbrev Quiet : List (Step B) → Type 0
  Quiet steps = (m new : Machine B) → Rests m → list_all is_in_call steps ≡ true → IsRun k m steps new → calls_and_replies (record_of steps) ≡ []
      → (seen_by_calls new ≡ seen_by_calls m) × Rests new

  quiet : (steps : List (Step B)) → Quiet steps
  quiet [] m new rests own run none = (ap seen_by_calls run, subst Rests (sym run) rests)
  quiet (Asks t c (Now x) ∷ steps) m new rests own run none = let no : ⊥ = cc in absurd no
  quiet (Asks t c Opened ∷ steps) m new rests own run none = let no : ⊥ = cc in absurd no
  quiet (Answers t x ∷ steps) m new rests own run none = let no : ⊥ = cc in absurd no
  quiet (Seals t number ∷ steps) m new rests own run none = absurd (never_sealed t m run.0 (rests.answered t) run.1.2)
  quiet (Durable number ∷ steps) m new rests own (middle, (works, low, high, is), more) none =
      let after = quiet steps middle new (rests_same m middle (ap (λ (x : Machine B). x.sessions) is) (ap (λ (x : Machine B). x.failed) is) rests) own more none in
      (after.0 ∙ ap seen_by_calls is ∙ durable_seen number m low high, after.1)
  quiet (Closes t why ∷ steps) m new rests own run none = let no : ⊥ = cc in absurd no
  quiet (RefusesAsk t c why ∷ steps) m new rests own run none = let no : ⊥ = cc in absurd no
  quiet (RefusesCall t why ∷ steps) m new rests own run none = let no : ⊥ = cc in absurd no
  quiet (Fails ∷ steps) m new rests own run none = let no : ⊥ = cc in absurd no
  quiet (Crashes number ∷ steps) m new rests own run none = let no : ⊥ = cc in absurd no
  quiet (Nothing ∷ steps) m new rests own (middle, is, more) none = let after = quiet steps middle new (subst Rests (sym is) rests) own more none in (after.0 ∙ ap seen_by_calls is, after.1)

  -- a call that waits, up to its reply
  waiting : (s : ℕ) (r : Reply B) (steps : List (Step B)) (m new : Machine B) → is_decided r ≡ true → OnlyWaits s m → list_all is_in_call steps ≡ true → IsRun k m steps new
      → calls_and_replies (record_of steps) ≡ Replied s r ∷ [] → (finish s (seen_by_calls m) ≡ (r, seen_by_calls new)) × Rests new
  waiting s r [] m new decided w own run items = let no : ⊥ = cc in absurd no
  waiting s r (Asks t c (Now x) ∷ steps) m new decided w own run items = let no : ⊥ = cc in absurd no
  waiting s r (Asks t c Opened ∷ steps) m new decided w own run items = let no : ⊥ = cc in absurd no
  waiting s r (Answers t x ∷ steps) m new decided w own (middle, (works, is), more) items =
      let here : t ≡ s = cc in
      let same : x ≡ r = cc in
      let none : calls_and_replies (record_of steps) ≡ [] = cc in
      let end = ends s r m middle w (subst (λ n. answer k n m ≡ Some (r, middle)) here (subst (λ (y : Reply B). answer k t m ≡ Some (y, middle)) same is)) in
      let after = quiet steps middle new end.1 own more none in
      (end.0 ∙ ap (λ (x : Machine B). (r, x)) (sym after.0), after.1)
  waiting s r (Seals t number ∷ steps) m new decided w own (middle, (works, is, sealed), more) items =
      elim (ℕ_discrete t s) [
        | yes here ↦
            (let on = seals s m middle w (subst (λ n. seal k n m ≡ Some middle) here sealed) in
            let after = waiting s r steps middle new decided on.1 own more items in
            (on.0 ∙ after.0, after.1))
        | no other ↦ absurd (never_sealed t m middle (w.others t other) sealed)
      ]
  waiting s r (Durable number ∷ steps) m new decided w own (middle, (works, low, high, is), more) items =
      let now : OnlyWaits s middle = subst (OnlyWaits s) (sym is) (record { there = w.there; eight = w.eight; works = w.works; others = w.others }) in
      let after = waiting s r steps middle new decided now own more items in
      let same : seen_by_calls middle ≡ seen_by_calls m = ap seen_by_calls is ∙ durable_seen number m low high in
      (ap (λ (x : Machine B). finish s x) (sym same) ∙ after.0, after.1)
  waiting s r (Closes t why ∷ steps) m new decided w own (middle, (works, may, is), more) items = absurd (never_decided s t why r _ _ items decided (closed why may))
  waiting s r (RefusesAsk t c why ∷ steps) m new decided w own run items = let no : ⊥ = cc in absurd no
  waiting s r (RefusesCall t why ∷ steps) m new decided w own (middle, (waits, met), more) items = absurd (never_decided s t why r _ _ items decided (faulted why m middle met))
  waiting s r (Fails ∷ steps) m new decided w own run items = let no : ⊥ = cc in absurd no
  waiting s r (Crashes number ∷ steps) m new decided w own run items = let no : ⊥ = cc in absurd no
  waiting s r (Nothing ∷ steps) m new decided w own (middle, is, more) items =
      let after = waiting s r steps middle new decided (subst (OnlyWaits s) (sym is) w) own more items in
      (ap (λ (x : Machine B). finish s (seen_by_calls x)) (sym is) ∙ after.0, after.1)

  -- ---- asking

  ask_seen_by : (s : ℕ) (call : Call B) (m : Machine B) (there : Bool) → asked_there k s call (seen_by_calls m) there ≡ ((asked_there k s call m there).0, seen_by_calls (asked_there k s call m there).1)
  ask_seen_by s call m true = refl
  ask_seen_by s call m false = refl

  lock_rests : (call : Call B) (lock : Result (Locks B) Refusal) (locks : Locks B) (changes : Changes B) (r : Reply B) → (asked_with call lock locks changes).0 ≡ Now r
      → is_unanswered (asked_with call lock locks changes).1 ≡ false
  lock_rests call (Ok g) locks changes r h = let no : ⊥ = cc in absurd no
  lock_rests call (Err why) locks changes r h = refl

  now_rests : (call : Call B) (least : Option ℕ) (spent : ℕ) (x : Session B) (r : Reply B) → is_unanswered x ≡ false → (ask_session k call least spent x).0 ≡ Now r
      → is_unanswered (ask_session k call least spent x).1 ≡ false
  now_rests Begin least spent Idle r rests h = refl
  now_rests (Insert e) least spent Idle r rests h = refl
  now_rests (Delete e) least spent Idle r rests h = refl
  now_rests (Search q) least spent Idle r rests h = refl
  now_rests Commit least spent Idle r rests h = refl
  now_rests Abort least spent Idle r rests h = refl
  now_rests Begin least spent (Open locks changes None) r rests h = refl
  now_rests (Insert e) least spent (Open locks changes None) r rests h = lock_rests (Insert e) (lock_for k (Insert e) least spent locks) locks changes r h
  now_rests (Delete e) least spent (Open locks changes None) r rests h = lock_rests (Delete e) (lock_for k (Delete e) least spent locks) locks changes r h
  now_rests (Search q) least spent (Open locks changes None) r rests h = lock_rests (Search q) (lock_for k (Search q) least spent locks) locks changes r h
  now_rests Commit least spent (Open locks changes None) r rests h = lock_rests Commit (lock_for k Commit least spent locks) locks changes r h
  now_rests Abort least spent (Open locks changes None) r rests h = let no : ⊥ = cc in absurd no
  now_rests call least spent (Open locks changes (Some pending)) r rests h = rests
  now_rests call least spent (Aborting locks) r rests h = rests
  now_rests call least spent (Committing number) r rests h = rests

  lock_finish : (s : ℕ) (m : Machine B) (call : Call B) (lock : Result (Locks B) Refusal) (locks : Locks B) (changes : Changes B) → (asked_with call lock locks changes).0 ≡ Opened
      → finish_by s (asked_with call lock locks changes).1 m ≡ answer_machine k s m
  lock_finish s m call (Ok g) locks changes h = refl
  lock_finish s m call (Err why) locks changes h = refl

  open_finish : (s : ℕ) (m : Machine B) (call : Call B) (least : Option ℕ) (spent : ℕ) (x : Session B) → (ask_session k call least spent x).0 ≡ Opened
      → finish_by s (ask_session k call least spent x).1 m ≡ answer_machine k s m
  open_finish s m Begin least spent Idle h = refl
  open_finish s m (Insert e) least spent Idle h = refl
  open_finish s m (Delete e) least spent Idle h = refl
  open_finish s m (Search q) least spent Idle h = refl
  open_finish s m Commit least spent Idle h = refl
  open_finish s m Abort least spent Idle h = refl
  open_finish s m Begin least spent (Open locks changes None) h = refl
  open_finish s m (Insert e) least spent (Open locks changes None) h = lock_finish s m (Insert e) (lock_for k (Insert e) least spent locks) locks changes h
  open_finish s m (Delete e) least spent (Open locks changes None) h = lock_finish s m (Delete e) (lock_for k (Delete e) least spent locks) locks changes h
  open_finish s m (Search q) least spent (Open locks changes None) h = lock_finish s m (Search q) (lock_for k (Search q) least spent locks) locks changes h
  open_finish s m Commit least spent (Open locks changes None) h = lock_finish s m Commit (lock_for k Commit least spent locks) locks changes h
  open_finish s m Abort least spent (Open locks changes None) h = refl
  open_finish s m call least spent (Open locks changes (Some pending)) h = let no : ⊥ = cc in absurd no
  open_finish s m call least spent (Aborting locks) h = let no : ⊥ = cc in absurd no
  open_finish s m call least spent (Committing number) h = let no : ⊥ = cc in absurd no

  -- asked, and given a reply at once
  now_by : (s : ℕ) (call : Call B) (r : Reply B) (m middle : Machine B) (there : Bool) → is_session s ≡ there → Rests m → asked_there k s call m there ≡ (Now r, middle) → Rests middle
  now_by s call r m middle true is rests h =
      let given = asked_session k s call m in
      let to : with_session s given.1 m ≡ middle = ap (λ (p : Given B × Machine B). p.1) h in
      subst Rests to (rests_with s m given.1 (record { there = is; eight = rests.eight; works = rests.works; others = λ t other. rests.answered t })
      (now_rests call (least_conflicting k call s 1 m.sessions) (claims_held m.sessions) (session_at s m.sessions) r (rests.answered s) (ap (λ (p : Given B × Machine B). p.0) h)))
  now_by s call r m middle false is rests h = subst Rests (ap (λ (p : Given B × Machine B). p.1) h) rests

  -- asked, and open
  open_by : (s : ℕ) (call : Call B) (m middle : Machine B) (there : Bool) → is_session s ≡ there → Rests m → asked_there k s call m there ≡ (Opened, middle)
      → OnlyWaits s middle × (answer_machine k s (seen_by_calls middle) ≡ finish s (seen_by_calls middle))
  open_by s call m middle true is rests h =
      let given = asked_session k s call m in
      let to : with_session s given.1 m ≡ middle = ap (λ (p : Given B × Machine B). p.1) h in
      let here : session_at s middle.sessions ≡ given.1 = ap (λ (x : Machine B). session_at s x.sessions) (sym to) ∙ at_same s m.sessions given.1 is rests.eight in (
        subst (OnlyWaits s) to (waits_with s m given.1 is rests),
        sym (ap (λ (x : Session B). finish_by s x (seen_by_calls middle)) here
            ∙ open_finish s (seen_by_calls middle) call (least_conflicting k call s 1 m.sessions) (claims_held m.sessions) (session_at s m.sessions) (ap (λ (p : Given B × Machine B). p.0) h)),
      )
  open_by s call m middle false is rests h = let no : Now (reply.Refused refusal.BadSession) ≡ Opened = ap (λ (p : Given B × Machine B). p.0) h in cc

  asked_so : (s : ℕ) (call : Call B) (m middle : Machine B) (given : Given B) → ask k s call m ≡ (given, middle)
      → decided_call k s call (seen_by_calls m) ≡ answered_by k s given (seen_by_calls middle)
  asked_so s call m middle given is =
      ap (λ (p : Given B × Machine B). answered_by k s p.0 p.1) (ask_seen_by s call m (is_session s))
      ∙ ap (λ (p : Given B × Machine B). answered_by k s p.0 (seen_by_calls p.1)) is

  -- a call is asked and replied
  pub decides : (s : ℕ) (call : Call B) (r : Reply B) (steps : List (Step B)) (m new : Machine B) → is_decided r ≡ true → Rests m → list_all is_in_call steps ≡ true → IsRun k m steps new
      → calls_and_replies (record_of steps) ≡ Asked s call ∷ Replied s r ∷ [] → IsDecidedCall k s call r m new
  decides s call r [] m new decided rests own run items = let no : ⊥ = cc in absurd no
  decides s call r (Asks t c (Now x) ∷ steps) m new decided rests own (middle, (works, is), more) items =
      let here : t ≡ s = cc in
      let asks : c ≡ call = cc in
      let same : x ≡ r = cc in
      let none : calls_and_replies (record_of steps) ≡ [] = cc in
      let so : ask k s call m ≡ (Now r, middle) =
      subst (λ n. ask k n call m ≡ (Now r, middle)) here (subst (λ (y : Call B). ask k t y m ≡ (Now r, middle)) asks (subst (λ (y : Reply B). ask k t c m ≡ (Now y, middle)) same is)) in
      let after = quiet steps middle new (now_by s call r m middle (is_session s) refl rests so) own more none in
      record { decides = asked_so s call m middle (Now r) so ∙ ap (λ (x : Machine B). (r, x)) (sym after.0); rests = after.1 }
  decides s call r (Asks t c Opened ∷ steps) m new decided rests own (middle, (works, is), more) items =
      let here : t ≡ s = cc in
      let asks : c ≡ call = cc in
      let later : calls_and_replies (record_of steps) ≡ Replied s r ∷ [] = cc in
      let so : ask k s call m ≡ (Opened, middle) = subst (λ n. ask k n call m ≡ (Opened, middle)) here (subst (λ (y : Call B). ask k t y m ≡ (Opened, middle)) asks is) in
      let on = open_by s call m middle (is_session s) refl rests so in
      let after = waiting s r steps middle new decided on.0 own more later in
      record { decides = asked_so s call m middle Opened so ∙ (on.1 ∙ after.0); rests = after.1 }
  decides s call r (Answers t x ∷ steps) m new decided rests own run items = let no : ⊥ = cc in absurd no
  decides s call r (Seals t number ∷ steps) m new decided rests own run items = absurd (never_sealed t m run.0 (rests.answered t) run.1.2)
  decides s call r (Durable number ∷ steps) m new decided rests own (middle, (works, low, high, is), more) items =
      let after = decides s call r steps middle new decided (rests_same m middle (ap (λ (x : Machine B). x.sessions) is) (ap (λ (x : Machine B). x.failed) is) rests) own more items in
      let same : seen_by_calls middle ≡ seen_by_calls m = ap seen_by_calls is ∙ durable_seen number m low high in
      record { decides = ap (λ (x : Machine B). decided_call k s call x) (sym same) ∙ after.decides; rests = after.rests }
  decides s call r (Closes t why ∷ steps) m new decided rests own run items = let no : ⊥ = cc in absurd no
  decides s call r (RefusesAsk t c why ∷ steps) m new decided rests own (middle, is, more) items =
      let later : Replied t (reply.Refused why) ∷ calls_and_replies (record_of steps) ≡ Replied s r ∷ [] = cc in
      absurd (never_decided s t why r _ _ later decided (refused_so t c why m middle is))
  decides s call r (RefusesCall t why ∷ steps) m new decided rests own run items = let no : ⊥ = cc in absurd no
  decides s call r (Fails ∷ steps) m new decided rests own run items = let no : ⊥ = cc in absurd no
  decides s call r (Crashes number ∷ steps) m new decided rests own run items = let no : ⊥ = cc in absurd no
  decides s call r (Nothing ∷ steps) m new decided rests own (middle, is, more) items =
      let after = decides s call r steps middle new decided (subst Rests (sym is) rests) own more items in
      record { decides = ap (λ (x : Machine B). decided_call k s call (seen_by_calls x)) (sym is) ∙ after.decides; rests = after.rests }

  pub call_decides : (s : ℕ) (call : Call B) (r : Reply B) (m new : Machine B) → is_decided r ≡ true → Rests m → IsCallRun k s call r m new → IsDecidedCall k s call r m new
  call_decides s call r m new decided rests run = decides s call r run.steps m new decided rests run.in_call run.runs run.record_is

-- ---- the text of a script

-- indexes of some kind, each seen as a machine, whose calls decide their replies
module _ {B I : Type 0} (grammar : Grammar B) (k : Keys B) (answered : I → ℕ → Call B → Reply B → I → Type 0) (Is : I → Machine B → Type 0)
    (each : (old : I) (s : ℕ) (call : Call B) (r : Reply B) (new : I) (m : Machine B) → Is old m → Rests m → answered old s call r new → is_decided r ≡ true
    → (n : Machine B) × Is new n × IsDecidedCall k s call r m n) where
  pub script_text : (number : ℕ) (lines : List (Line B)) (old new : I) (text : List ℕ) (m : Machine B) → Is old m → Rests m
      → IsScript grammar (AnswersDecided answered) number lines old text new → text ≡ decided_text grammar k number lines (seen_by_calls m)
  script_text number [] old new text m is rests script = script.0
  script_text number (Blank ∷ more) old new text m is rests script =
      let rest = script_text (number + 1) more script.2 new script.1 m (subst (λ (x : I). Is x m) (sym script.3.1) is) rests script.4 in
      script.5 ∙ ap (λ (t : List ℕ). t ++ script.1) script.3.0 ∙ rest
  script_text number (Bad ∷ more) old new text m is rests script =
      let rest = script_text (number + 1) more script.2 new script.1 m (subst (λ (x : I). Is x m) (sym script.3.1) is) rests script.4 in
      script.5 ∙ ap (λ (t : List ℕ). t ++ script.1) script.3.0 ∙ ap (λ (t : List ℕ). bad_line number ++ t) rest
  script_text number (Reversed session ∷ more) old new text m is rests script =
      let rest = script_text (number + 1) more script.2 new script.1 m (subst (λ (x : I). Is x m) (sym script.3.1) is) rests script.4 in
      script.5 ∙ ap (λ (t : List ℕ). t ++ script.1) script.3.0 ∙ ap (λ (t : List ℕ). reply_text grammar session (reply.Refused refusal.BadBox) ++ t) rest
  script_text number (Wants session call ∷ more) old new text m is rests script =
      let told = script.3 in
      let on = each old (asked_as session) call told.0 script.2 m is rests told.1.0 told.1.1 in
      let rest = script_text (number + 1) more script.2 new script.1 on.0 on.1 on.2.rests script.4 in
      script.5 ∙ ap (λ (t : List ℕ). t ++ script.1) told.2 ∙ ap (λ (t : List ℕ). reply_text grammar session told.0 ++ t) rest
      ∙ ap (λ (p : Reply B × Machine B). reply_text grammar session p.0 ++ decided_text grammar k (number + 1) more p.1) (sym on.2.decides)

-- so of the plain index
plain_seen_by : {B : Type 0} (m : Machine B) → m.older ≡ [] → m.failed ≡ false → seen_by_calls m ≡ m
plain_seen_by m durable works =
    let number : m.oldest + length m.older ≡ m.oldest = (let none : length m.older ≡ 0 = ap length durable in omega (arith, none)) in
    rw (number, durable, works) refl

abbrev IsSeen : {B : Type 0} → Index B → Machine B → Type 0
IsSeen index m = IsPlain index × (index.machine ≡ m)

each_plain : {B : Type 0} (k : Keys B) (old : Index B) (s : ℕ) (call : Call B) (r : Reply B) (new : Index B) (m : Machine B) → IsSeen old m → Rests m
    → CallsIndex k old s call r new → is_decided r ≡ true → (n : Machine B) × IsSeen new n × IsDecidedCall k s call r m n
each_plain {B} k old s call r new m is rests calls decided = (
  new.machine,
  (call_plain k s call old new r is.0 calls, refl),
  call_decides k s call r m new.machine decided rests (subst (λ (x : Machine B). IsCallRun k s call r x new.machine) is.1 (call_run k s call old new r is.0 calls)),
)

pub plain_text : {B : Type 0} (grammar : Grammar B) (k : Keys B) (number : ℕ) (lines : List (Line B)) (old new : Index B) (text : List ℕ) → IsPlain old → Rests old.machine
    → IsScript grammar (AnswersDecided (CallsIndex k)) number lines old text new → text ≡ decided_text grammar k number lines old.machine
plain_text {B} grammar k number lines old new text plain rests script =
    script_text grammar k (CallsIndex k) IsSeen (each_plain k) number lines old new text old.machine (plain, refl) rests script
    ∙ ap (λ (x : Machine B). decided_text grammar k number lines x) (plain_seen_by old.machine plain.durable plain.runs)
