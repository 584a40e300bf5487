-- What each step does to the machine, in five kinds.
use Rattle.std.proofs.Common.{◌≡◌, ℕ, ◌+◌, ◌-◌, Bool, true, false, List, Option, Some, None, refl, ap, sym, ◌∙◌}
use Rattle.std.specs.Prelude.{if◌then◌else◌, option_map, slice_set}
use Rattle.gx_geom.specs.declared.refusal.Refusal.{Refusal}
use Rattle.gx_geom.specs.declared.refusal.Refusal.TheVariants as refusal
use Rattle.gx_machine.specs.declared.call.Call.{Call}
use Rattle.gx_machine.specs.declared.call.Call.TheVariants.{Begin, Insert, Delete, Search, Commit, Abort}
use Rattle.gx_machine.specs.declared.entry.Entry.{Entry}
use Rattle.gx_machine.specs.declared.reply.Reply.{Reply}
use Rattle.gx_machine.specs.declared.reply.Reply.TheVariants as reply
use Rattle.gx_machine.specs.declared.reply.Asked.{Asked}
use Rattle.gx_machine.specs.declared.reply.Asked.TheVariants as asked
use Rattle.gx_machine.specs.Keys.{Keys, IsLawful}
use Rattle.gx_machine.specs.Sessions.{Session, Idle, Open, Aborting, Committing, Locks, Changes, ask_session, answer_session, sealed_set, closed_session, view}
use Rattle.gx_machine.specs.Machine.{Machine, newest, kept_sets, is_session, session_at, with_session, least_conflicting, claims_held, ask, answer, seal, durable, close, crash}
use Rattle.gx_machine.specs.Runs.{Step, Asks, Answers, Seals, Durable, Closes, RefusesAsk, RefusesCall, Fails, Crashes, Nothing, IsStep, AskRefused, MeetsFault}
use Rattle.gx_machine.specs.Outcomes.{NoneConflicts}
use Rattle.gx_machine.proofs.SessionMoves.{Move, ask_move, answer_move, close_move, value_of}
use Rattle.gx_machine.proofs.Places.{session_there, others_clear}

-- the machine once this session's commit has added this set
abbrev pub with_set : {B : Type 0} → ℕ → Machine B → List (Entry B) → Machine B
with_set s m set = record m {
  older = kept_sets m;
  latest = set;
  sessions = slice_set m.sessions (s - 1) (Committing (newest m + 1));
}

-- the machine once the commit of this session is sealed
abbrev pub sealed_machine : {B : Type 0} → Keys B → ℕ → Changes B → Machine B → Machine B
sealed_machine k s changes m = with_set s m (view k m.latest changes)

-- a step changes nothing but whether a fault has made the machine fail; or moves one session; or seals a commit; or
-- drops sets; or is a crash
pub data Effect {B : Type 0} (k : Keys B) (begun : ℕ → Type 0) (old new : Machine B) : Type 0 where
  quiet : (failed : Bool) → new ≡ record old { failed = failed } → Effect k begun old new
  moved : (s : ℕ) (y : Session B) → is_session s ≡ true
      → Move k (λ call. NoneConflicts k s call old.sessions) (begun s) (session_at s old.sessions) y
      → new ≡ with_session s y old → Effect k begun old new
  sealed : (s : ℕ) (locks : Locks B) (changes : Changes B) → is_session s ≡ true → session_at s old.sessions ≡ Open locks changes (Some Commit)
      → new ≡ sealed_machine k s changes old → Effect k begun old new
  settled : (number : ℕ) → new ≡ durable number old → Effect k begun old new
  crashed : (number : ℕ) → new ≡ crash number old → Effect k begun old new

-- what a value was made of
pub mapped : {X Y : Type 0} (f : X → Y) (o : Option X) (y : Y) → option_map f o ≡ Some y → (x : X) × (o ≡ Some x) × (f x ≡ y)
mapped f None y h = let no : ⊥ = cc in absurd no
mapped f (Some x) y h = (x, refl, value_of h)

-- what asking gives if the session exists
abbrev pub asked_session : {B : Type 0} → Keys B → ℕ → Call B → Machine B → Asked B × Session B
asked_session k s call m = ask_session k call (least_conflicting k call s 1 m.sessions) (claims_held m.sessions) (session_at s m.sessions)

abbrev pub asked_there : {B : Type 0} → Keys B → ℕ → Call B → Machine B → Bool → Asked B × Machine B
asked_there k s call m there =
    if there then (let r = asked_session k s call m in (r.0, with_session s r.1 m))
    else (asked.Now (reply.Refused refusal.BadSession), m)

module _ {B : Type 0} (k : Keys B) where
  -- what a sealed set is of
  pub sealed_view : (latest set : List (Entry B)) (x : Session B) → sealed_set k latest x ≡ Some set
      → (locks : Locks B) × (changes : Changes B) × (x ≡ Open locks changes (Some Commit)) × (set ≡ view k latest changes)
  sealed_view latest set Idle h = let no : ⊥ = cc in absurd no
  sealed_view latest set (Open g c None) h = let no : ⊥ = cc in absurd no
  sealed_view latest set (Open g c (Some Begin)) h = let no : ⊥ = cc in absurd no
  sealed_view latest set (Open g c (Some (Insert e))) h = let no : ⊥ = cc in absurd no
  sealed_view latest set (Open g c (Some (Delete e))) h = let no : ⊥ = cc in absurd no
  sealed_view latest set (Open g c (Some (Search q))) h = let no : ⊥ = cc in absurd no
  sealed_view latest set (Open g c (Some Commit)) h = (g, c, refl, sym (value_of h))
  sealed_view latest set (Open g c (Some Abort)) h = let no : ⊥ = cc in absurd no
  sealed_view latest set (Aborting g) h = let no : ⊥ = cc in absurd no
  sealed_view latest set (Committing number) h = let no : ⊥ = cc in absurd no

module _ {B : Type 0} (k : Keys B) (l : IsLawful k) where
  module _ (begun : ℕ → Type 0) (old new : Machine B) where
    ask_by : (s : ℕ) (call : Call B) (r : Asked B) (there : Bool) → is_session s ≡ there → asked_there k s call old there ≡ (r, new)
        → (call ≡ Begin → r ≡ asked.Now reply.Ok → begun s) → Effect k begun old new
    ask_by s call r true is h begin =
        moved s (asked_session k s call old).1 is
        (ask_move k l (λ call. NoneConflicts k s call old.sessions) (begun s) call (least_conflicting k call s 1 old.sessions) (claims_held old.sessions) (session_at s old.sessions)
        (λ none. others_clear k call s old.sessions none)
        (λ c ok. begin c (sym (ap (λ (p : Asked B × Machine B). p.0) h) ∙ ok)))
        (sym (ap (λ (p : Asked B × Machine B). p.1) h))
    ask_by s call r false is h begin = quiet old.failed (sym (ap (λ (p : Asked B × Machine B). p.1) h))

    ask_effect : (s : ℕ) (call : Call B) (r : Asked B) → ask k s call old ≡ (r, new) → (call ≡ Begin → r ≡ asked.Now reply.Ok → begun s)
        → Effect k begun old new
    ask_effect s call r h begin = ask_by s call r (is_session s) refl h begin

    answer_effect : (s : ℕ) (r : Reply B) → answer k s old ≡ Some (r, new) → Effect k begun old new
    answer_effect s r h =
        let found = mapped (λ (p : Reply B × Session B). (p.0, with_session s p.1 old)) (answer_session k old.latest old.oldest (session_at s old.sessions)) (r, new) h in
        let busy : ¬ (session_at s old.sessions ≡ Idle) = λ idle.
        (let none : None ≡ Some found.0 = sym (ap (answer_session k old.latest old.oldest) idle) ∙ found.1 in cc) in
        moved s found.0.1 (session_there s old.sessions busy (is_session s) refl)
        (answer_move k l (λ call. NoneConflicts k s call old.sessions) (begun s) old.latest old.oldest (session_at s old.sessions) found.0.1 found.0.0 found.1)
        (sym (ap (λ (p : Reply B × Machine B). p.1) found.2))

    close_effect : (s : ℕ) → close s old ≡ Some new → Effect k begun old new
    close_effect s h =
        let found = mapped (λ (x : Session B). with_session s x old) (closed_session (session_at s old.sessions)) new h in
        let busy : ¬ (session_at s old.sessions ≡ Idle) = λ idle.
        (let none : None ≡ Some found.0 = sym (ap closed_session idle) ∙ found.1 in cc) in
        moved s found.0 (session_there s old.sessions busy (is_session s) refl)
        (close_move k l (λ call. NoneConflicts k s call old.sessions) (begun s) (session_at s old.sessions) found.0 found.1)
        (sym found.2)

    seal_effect : (s : ℕ) → seal k s old ≡ Some new → Effect k begun old new
    seal_effect s h =
        let found = mapped (with_set s old) (sealed_set k old.latest (session_at s old.sessions)) new h in
        let of = sealed_view k old.latest found.0 (session_at s old.sessions) found.1 in
        let busy : ¬ (session_at s old.sessions ≡ Idle) = λ idle. (let both : Idle ≡ Open of.0 of.1 (Some Commit) = sym idle ∙ of.2 in cc) in
        sealed s of.0 of.1 (session_there s old.sessions busy (is_session s) refl) of.2 (sym found.2 ∙ ap (with_set s old) of.3)

    fault_effect : (why : Refusal) → MeetsFault why old new → Effect k begun old new
    fault_effect refusal.Device h = quiet true h.1
    fault_effect refusal.Failed h = quiet true h
    fault_effect other h = absurd h

    ask_refused_effect : (s : ℕ) (call : Call B) (why : Refusal) → AskRefused k s call why old new → Effect k begun old new
    ask_refused_effect s call refusal.HistoryFull h = quiet old.failed h.2
    ask_refused_effect s call refusal.Device h = quiet true h.1
    ask_refused_effect s call refusal.Failed h = quiet true h
    ask_refused_effect s call other h = absurd h

  -- the session begins by this step
  abbrev pub Began : Step B → ℕ → Type 0
  Began step s = step ≡ Asks s Begin (asked.Now reply.Ok)

  -- each step is of one of the five kinds
  pub step_effect : (old new : Machine B) (step : Step B) → IsStep k old step new → Effect k (Began step) old new
  step_effect old new (Asks s call given) h =
      ask_effect (Began (Asks s call given)) old new s call given h.1 (λ c ok. (λ i. Asks s (c i) (ok i)))
  step_effect old new (Answers s r) h = answer_effect (Began (Answers s r)) old new s r h.1
  step_effect old new (Seals s number) h = seal_effect (Began (Seals s number)) old new s h.2
  step_effect old new (Durable number) h = settled number h.3
  step_effect old new (Closes s why) h = close_effect (Began (Closes s why)) old new s h.2
  step_effect old new (RefusesAsk s call why) h = ask_refused_effect (Began (RefusesAsk s call why)) old new s call why h
  step_effect old new (RefusesCall s why) h = fault_effect (Began (RefusesCall s why)) old new why h.1
  step_effect old new Fails h = quiet true h
  step_effect old new (Crashes number) h = crashed number h.2
  step_effect old new Nothing h = quiet old.failed h
