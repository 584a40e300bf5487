-- Sessions that have changed nothing, and one whose open call is a search.
use Rattle.std.proofs.Common.{◌≡◌, ℕ, ◌-◌, Bool, true, false, List, [], ◌∷◌, length, Option, Some, None, refl, ap, sym, ◌∙◌, subst, arith, eq-eqb}
use Rattle.std.specs.Prelude.{◌==◌, nat_le, Result, Ok, Err}
use Rattle.std.specs.List.{filter}
use Rattle.std.proofs.lemmas.List.{length-append}
use Rattle.gx_geom.specs.declared.refusal.Refusal.{Refusal}
use Rattle.gx_machine.specs.declared.call.Call.{Call}
use Rattle.gx_machine.specs.declared.call.Call.TheVariants.{Begin, Insert, Delete, Search, Commit, Abort}
use Rattle.gx_machine.specs.declared.entry.Entry.{Entry}
use Rattle.gx_machine.specs.declared.query.Query.{Query}
use Rattle.gx_machine.specs.declared.reply.Asked.TheVariants as asked
use Rattle.gx_machine.specs.declared.reply.Reply.{Reply}
use Rattle.gx_machine.specs.declared.reply.Reply.TheVariants as reply
use Rattle.gx_machine.specs.Invariants.{SameSets, changes_sets}
use Rattle.gx_machine.specs.Keys.{Keys}
use Rattle.gx_machine.specs.Machine.{Machine, kept_sets}
use Rattle.gx_machine.specs.Outcomes.{IsSealed}
use Rattle.gx_machine.specs.Runs.{Step, Asks, Answers, Seals, Durable, Closes, RefusesAsk, RefusesCall, Fails, Crashes, Nothing, IsStep}
use Rattle.gx_machine.specs.Sessions.{Changes, Session, Idle, Open, Aborting, Committing, Locks, answer_session, ask_open, ask_session, asked_with, closed_session, lock_for, no_changes, view}
use Rattle.gx_machine.specs.Sets.{has}
use Rattle.gx_machine.proofs.SessionMoves.{commit_answered, delete_answered, insert_answered, value_of}
use Rattle.gx_node.specs.Lists.{Each}
use Rattle.gx_lives.specs.Later.{is_change}
use Rattle.gx_lives.proofs.laws.Kept.{AllAre, Keeps, each_at, each_drop, each_push, step_asks, step_changes, step_keeps_all}

-- a session's transaction has changed nothing
abbrev pub Unchanged : {B : Type 0} → ℕ → Session B → Type 0
Unchanged s Idle = Unit {0}
Unchanged s (Open locks changes call) = changes ≡ no_changes
Unchanged s (Aborting locks) = Unit {0}
Unchanged s (Committing number) = Unit {0}

-- if the session is this one, a call that it has open is this search
abbrev pub OpenFor : {B : Type 0} → ℕ → Query B → ℕ → Session B → Type 0
OpenFor s q a Idle = Unit {0}
OpenFor s q a (Open locks changes None) = Unit {0}
OpenFor s q a (Open locks changes (Some call)) = a ≡ s → call ≡ Search q
OpenFor s q a (Aborting locks) = Unit {0}
OpenFor s q a (Committing number) = Unit {0}

keeps_all : {X : Type 0} (xs : List X) → filter (λ x. true) xs ≡ xs
keeps_all [] = refl
keeps_all (x ∷ xs) = ap (λ ys. x ∷ ys) (keeps_all xs)

module _ {B : Type 0} (k : Keys B) where
  -- the view without changes is the last committed set
  pub view_of_none : (set : List (Entry B)) → view k set no_changes ≡ set
  view_of_none set = keeps_all set

  pair_second : {p q : Reply B × Session B} → Some p ≡ Some q → p.1 ≡ q.1
  pair_second h = ap (λ (r : Reply B × Session B). r.1) (value_of h)

  pair_first : {p q : Reply B × Session B} → Some p ≡ Some q → p.0 ≡ q.0
  pair_first h = ap (λ (r : Reply B × Session B). r.0) (value_of h)

  -- Nothing changed.

  asked_unchanged : (s : ℕ) (call : Call B) (lock : Result (Locks B) Refusal) (locks : Locks B) (changes : Changes B) → changes ≡ no_changes
      → Unchanged s (asked_with call lock locks changes).1
  asked_unchanged s call (Ok given) locks changes none = none
  asked_unchanged s call (Err why) locks changes none = none

  open_unchanged : (s : ℕ) (call : Call B) (least : Option ℕ) (spent : ℕ) (locks : Locks B) (changes : Changes B) → changes ≡ no_changes
      → Unchanged s (ask_open k call least spent locks changes).1
  open_unchanged s Begin least spent locks changes none = none
  open_unchanged s (Insert e) least spent locks changes none = asked_unchanged s (Insert e) (lock_for k (Insert e) least spent locks) locks changes none
  open_unchanged s (Delete e) least spent locks changes none = asked_unchanged s (Delete e) (lock_for k (Delete e) least spent locks) locks changes none
  open_unchanged s (Search q) least spent locks changes none = asked_unchanged s (Search q) (lock_for k (Search q) least spent locks) locks changes none
  open_unchanged s Commit least spent locks changes none = asked_unchanged s Commit (lock_for k Commit least spent locks) locks changes none
  open_unchanged s Abort least spent locks changes none = tt

  ask_unchanged : (s : ℕ) (call : Call B) (least : Option ℕ) (spent : ℕ) (x : Session B) → Unchanged s x → Unchanged s (ask_session k call least spent x).1
  ask_unchanged s Begin least spent Idle so = refl
  ask_unchanged s (Insert e) least spent Idle so = tt
  ask_unchanged s (Delete e) least spent Idle so = tt
  ask_unchanged s (Search q) least spent Idle so = tt
  ask_unchanged s Commit least spent Idle so = tt
  ask_unchanged s Abort least spent Idle so = tt
  ask_unchanged s call least spent (Open locks changes None) so = open_unchanged s call least spent locks changes so
  ask_unchanged s call least spent (Open locks changes (Some pending)) so = so
  ask_unchanged s call least spent (Aborting locks) so = tt
  ask_unchanged s call least spent (Committing number) so = tt

  told_of : (r : Reply B) → reply.Inserted ≡ r → ¬ (is_change r ≡ false)
  told_of r is quiet = let both : true ≡ false = ap is_change is ∙ quiet in cc

  told_deleted : (r : Reply B) → reply.Deleted ≡ r → ¬ (is_change r ≡ false)
  told_deleted r is quiet = let both : true ≡ false = ap is_change is ∙ quiet in cc

  insert_unchanged : (s : ℕ) (e : Entry B) (locks : Locks B) (changes : Changes B) (r : Reply B) (y : Session B) (present : Bool) → is_change r ≡ false → changes ≡ no_changes
      → ◌≡◌ {A = Option (Reply B × Session B)} (Some ((insert_answered k e present changes).0, Open locks (insert_answered k e present changes).1 None)) (Some (r, y)) → Unchanged s y
  insert_unchanged s e locks changes r y true quiet none h = subst (Unchanged s) (pair_second h) none
  insert_unchanged s e locks changes r y false quiet none h = absurd (told_of r (pair_first h) quiet)

  delete_unchanged : (s : ℕ) (e : Entry B) (locks : Locks B) (changes : Changes B) (r : Reply B) (y : Session B) (present : Bool) → is_change r ≡ false → changes ≡ no_changes
      → ◌≡◌ {A = Option (Reply B × Session B)} (Some ((delete_answered k e present changes).0, Open locks (delete_answered k e present changes).1 None)) (Some (r, y)) → Unchanged s y
  delete_unchanged s e locks changes r y true quiet none h = absurd (told_deleted r (pair_first h) quiet)
  delete_unchanged s e locks changes r y false quiet none h = subst (Unchanged s) (pair_second h) none

  commit_unchanged : (s number : ℕ) (lasting : Bool) (r : Reply B) (y : Session B) → commit_answered number lasting ≡ Some (r, y) → Unchanged s y
  commit_unchanged s number true r y h = subst (Unchanged s) (pair_second h) tt
  commit_unchanged s number false r y h = let no : ⊥ = cc in absurd no

  answer_unchanged : (s : ℕ) (latest : List (Entry B)) (oldest : ℕ) (r : Reply B) → is_change r ≡ false → (x y : Session B) → answer_session k latest oldest x ≡ Some (r, y)
      → Unchanged s x → Unchanged s y
  answer_unchanged s latest oldest r quiet Idle y h so = let no : ⊥ = cc in absurd no
  answer_unchanged s latest oldest r quiet (Open g c None) y h so = let no : ⊥ = cc in absurd no
  answer_unchanged s latest oldest r quiet (Open g c (Some Begin)) y h so = let no : ⊥ = cc in absurd no
  answer_unchanged s latest oldest r quiet (Open g c (Some (Insert e))) y h so = insert_unchanged s e g c r y (has k e (view k latest c)) quiet so h
  answer_unchanged s latest oldest r quiet (Open g c (Some (Delete e))) y h so = delete_unchanged s e g c r y (has k e (view k latest c)) quiet so h
  answer_unchanged s latest oldest r quiet (Open g c (Some (Search q))) y h so = subst (Unchanged s) (pair_second h) so
  answer_unchanged s latest oldest r quiet (Open g c (Some Commit)) y h so = let no : ⊥ = cc in absurd no
  answer_unchanged s latest oldest r quiet (Open g c (Some Abort)) y h so = let no : ⊥ = cc in absurd no
  answer_unchanged s latest oldest r quiet (Aborting g) y h so = subst (Unchanged s) (pair_second h) tt
  answer_unchanged s latest oldest r quiet (Committing number) y h so = commit_unchanged s number (nat_le number oldest) r y h

  close_unchanged : (s : ℕ) (x y : Session B) → closed_session x ≡ Some y → Unchanged s x → Unchanged s y
  close_unchanged s Idle y h so = let no : ⊥ = cc in absurd no
  close_unchanged s (Open g c None) y h so = let no : ⊥ = cc in absurd no
  close_unchanged s (Open g c (Some call)) y h so = subst (Unchanged s) (value_of h) so
  close_unchanged s (Aborting g) y h so = let no : ⊥ = cc in absurd no
  close_unchanged s (Committing number) y h so = let no : ⊥ = cc in absurd no

  unchanged_kept : (step : Step B) → step_changes step ≡ false → Keeps k Unchanged step
  unchanged_kept step quiet = record {
    idle = λ s. tt;
    waits = λ s number. tt;
    asks = λ s call given is least spent x so. ask_unchanged s call least spent x so;
    answers = λ s r is latest oldest x y h so. answer_unchanged s latest oldest r (sym (ap step_changes is) ∙ quiet) x y h so;
    closes = close_unchanged;
  }

  -- One call.

  after_answer : (s : ℕ) (q : Query B) (a : ℕ) (latest : List (Entry B)) (oldest : ℕ) (r : Reply B) (x y : Session B) → answer_session k latest oldest x ≡ Some (r, y) → OpenFor s q a y
  after_answer s q a latest oldest r Idle y h = let no : ⊥ = cc in absurd no
  after_answer s q a latest oldest r (Open g c None) y h = let no : ⊥ = cc in absurd no
  after_answer s q a latest oldest r (Open g c (Some Begin)) y h = let no : ⊥ = cc in absurd no
  after_answer s q a latest oldest r (Open g c (Some (Insert e))) y h = subst (OpenFor s q a) (pair_second h) tt
  after_answer s q a latest oldest r (Open g c (Some (Delete e))) y h = subst (OpenFor s q a) (pair_second h) tt
  after_answer s q a latest oldest r (Open g c (Some (Search other))) y h = subst (OpenFor s q a) (pair_second h) tt
  after_answer s q a latest oldest r (Open g c (Some Commit)) y h = let no : ⊥ = cc in absurd no
  after_answer s q a latest oldest r (Open g c (Some Abort)) y h = let no : ⊥ = cc in absurd no
  after_answer s q a latest oldest r (Aborting g) y h = subst (OpenFor s q a) (pair_second h) tt
  after_answer s q a latest oldest r (Committing number) y h = after_commit (nat_le number oldest) h
    where
      after_commit : (lasting : Bool) → commit_answered number lasting ≡ Some (r, y) → OpenFor s q a y
      after_commit true is = subst (OpenFor s q a) (pair_second is) tt
      after_commit false is = let no : ⊥ = cc in absurd no

  after_close : (s : ℕ) (q : Query B) (a : ℕ) (x y : Session B) → closed_session x ≡ Some y → OpenFor s q a y
  after_close s q a Idle y h = let no : ⊥ = cc in absurd no
  after_close s q a (Open g c None) y h = let no : ⊥ = cc in absurd no
  after_close s q a (Open g c (Some call)) y h = subst (OpenFor s q a) (value_of h) tt
  after_close s q a (Aborting g) y h = let no : ⊥ = cc in absurd no
  after_close s q a (Committing number) y h = let no : ⊥ = cc in absurd no

  -- another session's call is nothing to this one
  pub of_another : (s : ℕ) (q : Query B) (a : ℕ) → ¬ (a ≡ s) → (x : Session B) → OpenFor s q a x
  of_another s q a ne Idle = tt
  of_another s q a ne (Open locks changes None) = tt
  of_another s q a ne (Open locks changes (Some call)) = λ same. absurd (ne same)
  of_another s q a ne (Aborting locks) = tt
  of_another s q a ne (Committing number) = tt

  asks_another : (s t : ℕ) → (t == s) ≡ false → ¬ (t ≡ s)
  asks_another s t other same = let both : true ≡ false = sym (eq-eqb t s same) ∙ other in cc

  pub open_kept : (s : ℕ) (q : Query B) (step : Step B) → step_asks s step ≡ false → Keeps k (OpenFor s q) step
  open_kept s q step quiet = record {
    idle = λ a. tt;
    waits = λ a number. tt;
    asks = λ a call given is least spent x so. of_another s q a (asks_another s a (sym (ap (step_asks s) is) ∙ quiet)) (ask_session k call least spent x).1;
    answers = λ a r is latest oldest x y h so. after_answer s q a latest oldest r x y h;
    closes = λ a x y h so. after_close s q a x y h;
  }

  -- a search that is open after its ask
  asked_for : (s : ℕ) (q : Query B) (a : ℕ) (lock : Result (Locks B) Refusal) (locks : Locks B) (changes : Changes B) → OpenFor s q a (asked_with (Search q) lock locks changes).1
  asked_for s q a (Ok given) locks changes = λ same. refl
  asked_for s q a (Err why) locks changes = tt

  pub open_search : (s : ℕ) (q : Query B) (least : Option ℕ) (spent : ℕ) (x : Session B) → (ask_session k (Search q) least spent x).0 ≡ asked.Open
      → OpenFor s q s (ask_session k (Search q) least spent x).1
  open_search s q least spent Idle h = tt
  open_search s q least spent (Open locks changes None) h = asked_for s q s (lock_for k (Search q) least spent locks) locks changes
  open_search s q least spent (Open locks changes (Some pending)) h = let no : ⊥ = cc in absurd no
  open_search s q least spent (Aborting locks) h = tt
  open_search s q least spent (Committing number) h = tt

  -- The sets.

  -- each kept set is this one, and no transaction has changed anything
  pub record HoldsOnly (set : List (Entry B)) (m : Machine B) : Type 0 where
    pub latest : m.latest ≡ set
    pub older : Each (λ (x : List (Entry B)). x ≡ set) m.older
    pub sessions : AllAre k Unchanged m.sessions

  module _ (keeps_sets : (old new : Machine B) (step : Step B) → changes_sets step ≡ false → IsStep k old step new → SameSets old new)
      (seals : (old new : Machine B) (s number : ℕ) → length old.sessions ≡ 8 → IsStep k old (Seals s number) new → IsSealed k s number old new)
      (set : List (Entry B)) where
    abbrev Is : List (Entry B) → Type 0
    Is x = x ≡ set

    kept_are : (m : Machine B) → HoldsOnly set m → Each Is (kept_sets m)
    kept_are m only = each_push Is m.older m.latest only.older only.latest

    abbrev Sets : Machine B → Type 0
    Sets m = Is m.latest × Each Is m.older

    same_sets : (old new : Machine B) → SameSets old new → HoldsOnly set old → Sets new
    same_sets old new same only = (same.latest ∙ only.latest, subst (Each Is) (sym same.older) only.older)

    sets_sealed : (old new : Machine B) (s number : ℕ) → IsSealed k s number old new → HoldsOnly set old → Sets new
    sets_sealed old new s number sealed only =
        let none : sealed.changes ≡ no_changes = subst (Unchanged s) sealed.asked (only.sessions.each s) in (
          sealed.set ∙ ap (view k old.latest) none ∙ view_of_none old.latest ∙ only.latest,
          subst (Each Is) (sym sealed.kept) (kept_are old only),
        )

    sets_kept : (step : Step B) (old new : Machine B) → IsStep k old step new → HoldsOnly set old → Sets new
    sets_kept (Asks s call given) old new h only = same_sets old new (keeps_sets old new (Asks s call given) refl h) only
    sets_kept (Answers s r) old new h only = same_sets old new (keeps_sets old new (Answers s r) refl h) only
    sets_kept (Seals s number) old new h only = sets_sealed old new s number (seals old new s number only.sessions.eight h) only
    sets_kept (Durable number) old new h only =
        subst Sets (sym h.3) (only.latest, each_drop Is (number - old.oldest) old.older only.older)
    sets_kept (Closes s why) old new h only = same_sets old new (keeps_sets old new (Closes s why) refl h) only
    sets_kept (RefusesAsk s call why) old new h only = same_sets old new (keeps_sets old new (RefusesAsk s call why) refl h) only
    sets_kept (RefusesCall s why) old new h only = same_sets old new (keeps_sets old new (RefusesCall s why) refl h) only
    sets_kept Fails old new h only = same_sets old new (keeps_sets old new Fails refl h) only
    sets_kept (Crashes number) old new h only =
        let long = length-append old.older (old.latest ∷ []) in
        let low = h.0 in let high = h.1 in
        subst Sets (sym h.2) (each_at Is (kept_sets old) (number - old.oldest) [] (kept_are old only) (omega (arith, long, low, high)), tt)
    sets_kept Nothing old new h only = same_sets old new (keeps_sets old new Nothing refl h) only

    -- a step that reports no change keeps it so
    pub only_kept : (step : Step B) (old new : Machine B) → step_changes step ≡ false → IsStep k old step new → HoldsOnly set old → HoldsOnly set new
    only_kept step old new quiet h only =
        let sets = sets_kept step old new h only in
        record { latest = sets.0; older = sets.1; sessions = step_keeps_all k Unchanged step (unchanged_kept step quiet) old new h only.sessions }
