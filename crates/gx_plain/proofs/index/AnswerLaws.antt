-- Answering at a place of the list is answering of the machine.
use Rattle.std.proofs.Common.{◌≡◌, inl, inr, ℕ, ◌+◌, ◌-◌, ◌<◌, Bool, true, false, cond, List, [], ◌∷◌, ◌++◌, length, slice_set, drop, refl, ap, sym, ◌∙◌, subst, arith, nat_le, ◌≤◌}
use Rattle.std.specs.Prelude.{None, Some, option_map, unwrap_or}
use Rattle.std.specs.Option.{option_and_then, option_or}
use Rattle.std.specs.List.{slice_index_or}
use Rattle.std.proofs.lemmas.List.{get_or-set_same, set-get_or, set-set}
use Rattle.std.proofs.lemmas.Bool.{le-leb}
use Rattle.gx_geom.specs.declared.refusal.Refusal.TheVariants.{BadSession, NoCall, Memory}
use Rattle.gx_machine.specs.declared.entry.Entry.{Entry}
use Rattle.gx_machine.specs.declared.call.Call.{Call}
use Rattle.gx_machine.specs.declared.call.Call.TheVariants.{Begin, Insert, Delete, Search, Commit, Abort}
use Rattle.gx_machine.specs.declared.reply.Reply.{Reply}
use Rattle.gx_machine.specs.declared.reply.Reply.TheVariants as replies
use Rattle.gx_machine.specs.Keys.{Keys}
use Rattle.gx_machine.specs.Sessions.{Locks, Changes, Session, Idle, Open, Aborting, Committing, view, answer_session, answer_insert, answer_delete, sealed_set, closed_session}
use Rattle.gx_machine.specs.Machine.{Machine, newest, is_session, session_at, with_session, answer, durable}
use Rattle.gx_machine.specs.Sets.{found}
use Rattle.gx_plain.specs.Index.{Index, answer_machine, AnswersIndex}
use Rattle.gx_plain.specs.Slots.{CanAnswer, SlotAnswers, Closes, SameSet, takes_memory}
use Rattle.gx_plain.proofs.IndexLaws.{index_with}

leb-true : (n : ℕ) → nat_le n n ≡ true
leb-true n = le-leb n n (omega arith)

module _ {B : Type 0} (k : Keys B) where
  -- the answer by what the session is, and by whether it is one
  abbrev answered : Bool → Session B → ℕ → Machine B → Reply B × Machine B
  answered t x s m =
      unwrap_or
      (option_or (option_map (λ r. (r.0, with_session s r.1 m)) (answer_session k m.latest m.oldest x))
      (option_and_then (answer k s)
      (option_map (λ sealed. durable (newest sealed) sealed)
      (option_map (λ set. record m {
        older = m.older ++ m.latest ∷ [];
        latest = set;
        sessions = slice_set m.sessions (s - 1) (Committing (newest m + 1));
      }) (sealed_set k m.latest x)))))
      (replies.Refused (cond t NoCall BadSession), m)

  answer_is : (s : ℕ) (m : Machine B) (t : Bool) (x : Session B) → is_session s ≡ t → session_at s m.sessions ≡ x → answer_machine k s m ≡ answered t x s m
  answer_is s m t x e f =
      ap (λ (u : Bool). answered u (session_at s m.sessions) s m) e ∙ ap (λ (y : Session B). answered t y s m) f

  module _ (s : ℕ) (place : ℕ) (session : is_session s ≡ true) (at : place ≡ s - 1) (latest : List (Entry B)) (commits next : ℕ)
      (sessions : List (Session B)) (within : place < length sessions)
      (reply : Reply B) (latest' : List (Entry B)) (commits' : ℕ) (sessions' : List (Session B)) (x' : Session B) (changed : sessions' ≡ slice_set sessions place x')
      (can : CanAnswer commits (slice_index_or sessions place Idle)) where
    abbrev old : Index B
    old = index_with k latest commits next sessions

    abbrev new : Index B
    new = index_with k latest' commits' next sessions'

    found_at : session_at s sessions ≡ slice_index_or sessions place Idle
    found_at =
        ap (λ (t : Bool). cond t (slice_index_or sessions (s - 1) Idle) Idle) session ∙ ap (λ (p : ℕ). slice_index_or sessions p Idle) (sym at)

    -- the machine with this set, number and session
    abbrev machine_with : List (Entry B) → ℕ → Session B → Machine B
    machine_with set number y = record { older = []; latest = set; oldest = number; sessions = slice_set sessions (s - 1) y; failed = false }

    new_machine : (set : List (Entry B)) (number : ℕ) (y : Session B) → latest' ≡ set → commits' ≡ number → x' ≡ y → new.machine ≡ machine_with set number y
    new_machine set number y e f h = λ i. record {
      older = [];
      latest = e i;
      oldest = f i;
      sessions = (changed ∙ (λ j. slice_set sessions (at j) (h j))) i;
      failed = false;
    }

    -- the answer is this, with this set, number and session
    fully : (x : Session B) (set : List (Entry B)) (number : ℕ) (y : Session B) (given : Reply B) → session_at s sessions ≡ x
        → answered true x s old.machine ≡ (given, machine_with set number y) → reply ≡ given → latest' ≡ set → commits' ≡ number → x' ≡ y
        → AnswersIndex k s old reply new
    fully x set number y given is gives re le ce ye =
        let answers : answer_machine k s old.machine ≡ (given, machine_with set number y) = answer_is s old.machine true x session is ∙ gives in
        inl (record {
          reply_is = re ∙ sym (ap (λ (r : Reply B × Machine B). r.0) answers);
          machine_is = new_machine set number y le ce ye ∙ sym (ap (λ (r : Reply B × Machine B). r.1) answers);
          next_stays = refl;
        })

    -- memory was refused
    lacking : (x y : Session B) (given : Reply B × Machine B) → session_at s sessions ≡ x → answered true x s old.machine ≡ given → takes_memory given.0 ≡ true
        → closed_session x ≡ Some y → reply ≡ replies.Refused Memory → latest' ≡ latest → commits' ≡ commits → x' ≡ y → AnswersIndex k s old reply new
    lacking x y given is gives wants closes re le ce ye =
        inr (record {
          wanted = ap (λ (r : Reply B × Machine B). takes_memory r.0) (answer_is s old.machine true x session is ∙ gives) ∙ wants;
          reply_is = re;
          closed = ap (λ (z : Session B). option_map (λ session. with_session s session old.machine) (closed_session z)) is
              ∙ ap (option_map (λ session. with_session s session old.machine)) closes ∙ ap Some (sym (new_machine latest commits y le ce ye));
          next_stays = refl;
        })

    -- a session without an open call has none to answer
    nothing : (x : Session B) → session_at s sessions ≡ x → answered true x s old.machine ≡ (replies.Refused NoCall, old.machine)
        → reply ≡ replies.Refused NoCall → latest' ≡ latest → commits' ≡ commits → x' ≡ x → AnswersIndex k s old reply new
    nothing x is gives re le ce xe =
        fully x latest commits x (replies.Refused NoCall) is
        (gives ∙ (λ i. (replies.Refused NoCall, record { older = []; latest = latest; oldest = commits; sessions = same i; failed = false })))
        re le ce xe
      where
        same : sessions ≡ slice_set sessions (s - 1) x
        same = sym ((λ i. slice_set sessions (sym at i) ((sym is ∙ found_at) i)) ∙ set-get_or sessions place Idle)

    closes_by : (h : Locks B) (c : Changes B) (call : Call B) (given : Reply B × Changes B) → session_at s sessions ≡ Open h c (Some call)
        → answered true (Open h c (Some call)) s old.machine ≡ (given.0, machine_with latest commits (Open h given.1 None))
        → Closes given (Open h c (Some call)) reply x' → SameSet latest commits latest' commits' → AnswersIndex k s old reply new
    closes_by h c call given is gives (inl full) same =
        fully (Open h c (Some call)) latest commits (Open h given.1 None) given.0 is gives full.0 same.0 same.1 full.1
    closes_by h c call given is gives (inr none) same =
        lacking (Open h c (Some call)) (Open h c None) (given.0, machine_with latest commits (Open h given.1 None)) is gives none.0 refl none.1 same.0 same.1 none.2

    -- sealing, becoming durable and answering, by the sets before, the session as sealed, and as it is found then
    abbrev committed : Changes B → List (List (Entry B)) → Session B → Session B → Reply B × Machine B
    committed h older sealed y =
        unwrap_or
        (option_map (λ (r : Reply B × Session B). (
          r.0,
          record {
            older = older;
            latest = view k latest h;
            oldest = commits + 1;
            sessions = slice_set (slice_set sessions (s - 1) sealed) (s - 1) r.1;
            failed = false;
          },
        )) (answer_session k (view k latest h) (commits + 1) y))
        (replies.Refused NoCall, old.machine)

    none_before : drop (commits + 1 - commits) (latest ∷ []) ≡ []
    none_before = ap (λ (n : ℕ). drop n (latest ∷ [])) one
      where
        one : commits + 1 - commits ≡ 1
        one = omega arith

    next_number : commits + 0 + 1 ≡ commits + 1
    next_number = omega arith

    place_is : s - 1 < length sessions
    place_is = omega (arith, within, at)

    sealed_at : (sealed : Session B) → session_at s (slice_set sessions (s - 1) sealed) ≡ sealed
    sealed_at sealed =
        ap (λ (t : Bool). cond t (slice_index_or (slice_set sessions (s - 1) sealed) (s - 1) Idle) Idle) session
        ∙ get_or-set_same sessions (s - 1) sealed Idle place_is

    commits_by : (locks : Locks B) (h : Changes B) → answered true (Open locks h (Some Commit)) s old.machine ≡ (replies.Committed (commits + 1), machine_with (view k latest h) (commits + 1) Idle)
    commits_by locks h =
        (λ i. committed h (none_before i) (Committing (next_number i)) (session_at s (slice_set sessions (s - 1) (Committing (next_number i)))))
        ∙ ap (committed h [] (Committing (commits + 1))) (sealed_at (Committing (commits + 1)))
        ∙ ap (λ (t : Bool). unwrap_or (option_map (λ (r : Reply B × Session B). (
          r.0,
          record {
            older = [];
            latest = view k latest h;
            oldest = commits + 1;
            sessions = slice_set (slice_set sessions (s - 1) (Committing (commits + 1))) (s - 1) r.1;
            failed = false;
          },
        )) (cond t (Some (replies.Committed (commits + 1), Idle)) None)) (replies.Refused NoCall, old.machine)) (leb-true (commits + 1))
        ∙ (λ i. (
          replies.Committed (commits + 1),
          record {
            older = [];
            latest = view k latest h;
            oldest = commits + 1;
            sessions = set-set sessions (s - 1) (Committing (commits + 1)) Idle i;
            failed = false;
          },
        ))

    -- a sealed commit is answered, since it is durable
    waits_by : (number : ℕ) → number ≤ commits → answered true (Committing number) s old.machine ≡ (replies.Committed number, machine_with latest commits Idle)
    waits_by number durable =
        ap (λ (t : Bool). unwrap_or (option_or (option_map (λ (r : Reply B × Session B). (r.0, with_session s r.1 old.machine)) (cond t (Some (replies.Committed number, Idle)) None)) None)
        (replies.Refused NoCall, old.machine)) (le-leb number commits durable)

    answers_by : (x : Session B) → session_at s sessions ≡ x → SlotAnswers k x latest commits reply x' latest' commits' → AnswersIndex k s old reply new
    answers_by Idle is a = nothing Idle is refl a.0 a.2.0 a.2.1 a.1
    answers_by (Open h c None) is a = nothing (Open h c None) is refl a.0 a.2.0 a.2.1 a.1
    answers_by (Open h c (Some Begin)) is a = absurd a
    answers_by (Open h c (Some (Insert e))) is a = closes_by h c (Insert e) (answer_insert k e latest c) is refl a.0 a.1
    answers_by (Open h c (Some (Delete e))) is a =
        let given = answer_delete k e latest c in
        fully (Open h c (Some (Delete e))) latest commits (Open h given.1 None) given.0 is refl a.0 a.2.0 a.2.1 a.1
    answers_by (Open h c (Some (Search q))) is a = closes_by h c (Search q) (replies.Found (found k q (view k latest c)), c) is refl a.0 a.1
    answers_by (Open h c (Some Commit)) is a =
        fully (Open h c (Some Commit)) (view k latest c) (commits + 1) Idle (replies.Committed (commits + 1)) is (commits_by h c) a.0 a.2 a.3 a.1
    answers_by (Open h c (Some Abort)) is a = absurd a
    answers_by (Aborting h) is a = fully (Aborting h) latest commits Idle replies.Aborted is refl a.0 a.2.0 a.2.1 a.1
    answers_by (Committing number) is a =
        fully (Committing number) latest commits Idle (replies.Committed number) is (waits_by number lasting) a.0 a.2.0 a.2.1 a.1
      where
        lasting : number ≤ commits
        lasting = subst (λ (x : Session B). CanAnswer commits x) (sym found_at ∙ is) can

    pub answers : SlotAnswers k (slice_index_or sessions place Idle) latest commits reply x' latest' commits' → AnswersIndex k s old reply new
    answers a = answers_by (slice_index_or sessions place Idle) found_at a
