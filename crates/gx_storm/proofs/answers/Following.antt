-- A plain index goes along with the replay of a record.
use Rattle.std.proofs.Common.{arith, ◌≡◌, ℕ, ◌+◌, ◌-◌, ◌≤◌, ◌⊎◌, inl, inr, Bool, true, false, List, [], ◌∷◌, ◌++◌, length, Option, Some, None, refl, ap, sym, ◌∙◌, subst, eq-eqb}
use Rattle.std.specs.Prelude.{if◌then◌else◌, nat_le, ◌==◌, MatchBool, is_some, slice_set, option_map, unwrap_or}
use Rattle.std.specs.Option.{option_and_then, option_or}
use Rattle.std.proofs.lemmas.List.{length-drop, length-append}
use Rattle.std.proofs.lemmas.Bool.{le-leb}
use Rattle.std.proofs.lemmas.Bool.Decides.{nat_tests}
use Rattle.gx_geom.specs.declared.refusal.Refusal.TheVariants as refusal
use Rattle.gx_machine.specs.declared.entry.Entry.{Entry}
use Rattle.gx_machine.specs.declared.call.Call.{Call}
use Rattle.gx_machine.specs.declared.call.Call.TheVariants.{Begin, Insert, Delete, Search, Commit, Abort}
use Rattle.gx_machine.specs.declared.reply.Reply.{Reply}
use Rattle.gx_machine.specs.declared.reply.Reply.TheVariants as reply
use Rattle.gx_machine.specs.declared.item.Item.{Item}
use Rattle.gx_machine.specs.declared.item.Item.TheVariants.{Asked, Sealed, Replied}
use Rattle.gx_machine.specs.Keys.{Keys}
use Rattle.gx_machine.specs.Sets.{has, including, excluding}
use Rattle.gx_machine.specs.Sessions.{Session, Idle, Open, Aborting, Committing, Changes, view, answer_session, answer_call, sealed_set, closed_session}
use Rattle.gx_machine.specs.Machine.{Machine, newest, kept_sets, session_at, is_session, with_session, answer, seal, durable, close}
use Rattle.gx_machine.specs.Runs.{IsStep, Answers}
use Rattle.gx_machine.proofs.StepEffects.{mapped, sealed_view}
use Rattle.gx_machine.proofs.SessionMoves.{value_of}
use Rattle.gx_events.specs.Replay.{Point, At, Asking, StandsFor, FitsAt, FitsReply}
use Rattle.gx_events.proofs.Follows.{works, stands_with, stands_durable, answer_alike, committed_alike, close_alike, seal_alike, is_committed, true_or_false}
use Rattle.gx_plain.specs.Index.{Index, answer_machine, commit, SealsIndex, DropsIndex, AnswersIndex}
use Rattle.gx_plain.specs.Runs.{IsPlain}
use Rattle.gx_storm.specs.Following.{Follows, GoesAlong, kind_of}
use Rattle.gx_storm.specs.declared.answers.Kind.TheVariants as kind

module _ {B : Type 0} (k : Keys B) where
  none_some : (X : Type 0) (x : X) → ◌≡◌ {A = Option X} None (Some x) → ⊥
  none_some X x h = let no : ⊥ = cc in no

  -- ---- what an answer is of

  committing_of : (oldest number : ℕ) (y : Reply B × Session B) (lasting : Bool) → nat_le number oldest ≡ lasting
      → (if lasting then Some (reply.Committed number, Idle) else None) ≡ Some y → y ≡ (reply.Committed number, Idle)
  committing_of oldest number y true is h = sym (value_of h)
  committing_of oldest number y false is h = let no : ⊥ = cc in absurd no

  -- an answer whatever is durable
  record IsAtOnce (x : Reply B) : Type 0 where
    answers : kind_of x ≡ kind.Answer
    other : is_committed x ≡ false

  insert_kind : (there : Bool) (e : Entry B) (changes : Changes B)
      → (let p : Reply B × Changes B = if there then (reply.Refused refusal.Present, changes) else (reply.Inserted, record { added = including k e changes.added; taken = excluding k e changes.taken }) in IsAtOnce p.0)
  insert_kind true e changes = record { answers = refl; other = refl }
  insert_kind false e changes = record { answers = refl; other = refl }

  delete_kind : (there : Bool) (e : Entry B) (changes : Changes B)
      → (let p : Reply B × Changes B = if there then (reply.Deleted, record { added = excluding k e changes.added; taken = including k e changes.taken }) else (reply.Refused refusal.Absent, changes) in IsAtOnce p.0)
  delete_kind true e changes = record { answers = refl; other = refl }
  delete_kind false e changes = record { answers = refl; other = refl }

  call_kind : (call : Call B) (latest : List (Entry B)) (changes : Changes B) (p : Reply B × Changes B) → answer_call k call latest changes ≡ Some p → IsAtOnce p.0
  call_kind (Insert e) latest changes p h = subst (λ (q : Reply B × Changes B). IsAtOnce q.0) (value_of h) (insert_kind (has k e (view k latest changes)) e changes)
  call_kind (Delete e) latest changes p h = subst (λ (q : Reply B × Changes B). IsAtOnce q.0) (value_of h) (delete_kind (has k e (view k latest changes)) e changes)
  call_kind (Search q) latest changes p h = subst (λ (z : Reply B × Changes B). IsAtOnce z.0) (value_of h) (record { answers = refl; other = refl })
  call_kind Begin latest changes p h = let no : ⊥ = cc in absurd no
  call_kind Commit latest changes p h = let no : ⊥ = cc in absurd no
  call_kind Abort latest changes p h = let no : ⊥ = cc in absurd no

  -- an answer is one whatever is durable, or a sealed commit's
  answer_of : (latest : List (Entry B)) (oldest : ℕ) (x : Session B) (y : Reply B × Session B) → answer_session k latest oldest x ≡ Some y
      → (((d : ℕ) → answer_session k latest d x ≡ Some y) × IsAtOnce y.0)
      ⊎ ((number : ℕ) × (x ≡ Committing number) × (y ≡ (reply.Committed number, Idle)))
  answer_of latest oldest Idle y h = let no : ⊥ = cc in absurd no
  answer_of latest oldest (Open locks changes None) y h = let no : ⊥ = cc in absurd no
  answer_of latest oldest (Open locks changes (Some call)) y h =
      let f = mapped (λ (p : Reply B × Changes B). (p.0, Open locks p.1 None)) (answer_call k call latest changes) y h in
      inl ((λ d. h), subst (λ (p : Reply B × Session B). IsAtOnce p.0) f.2 (call_kind call latest changes f.0 f.1))
  answer_of latest oldest (Aborting locks) y h = inl ((λ d. h), subst (λ (p : Reply B × Session B). IsAtOnce p.0) (value_of h) (record { answers = refl; other = refl }))
  answer_of latest oldest (Committing number) y h = inr (number, refl, committing_of oldest number y (nat_le number oldest) refl h)

  -- what is answered is an answer
  answers_are : (s : ℕ) (m n : Machine B) (x : Reply B) → answer k s m ≡ Some (x, n) → kind_of x ≡ kind.Answer
  answers_are s m n x h =
      let f = mapped (λ (p : Reply B × Session B). (p.0, with_session s p.1 m)) (answer_session k m.latest m.oldest (session_at s m.sessions)) (x, n) h in
      let same : f.0.0 ≡ x = ap (λ (p : Reply B × Machine B). p.0) f.2 in
      elim (answer_of m.latest m.oldest (session_at s m.sessions) f.0 f.1) [
        | inl at_once ↦ sym (ap kind_of same) ∙ at_once.1.answers
        | inr sealed ↦ sym (ap kind_of same) ∙ ap (λ (p : Reply B × Session B). kind_of p.0) sealed.2
      ]

  -- an answer leaves the sets
  answer_keeps : (s : ℕ) (m n : Machine B) (x : Reply B) → answer k s m ≡ Some (x, n) → newest n ≡ newest m
  answer_keeps s m n x h =
      let f = mapped (λ (p : Reply B × Session B). (p.0, with_session s p.1 m)) (answer_session k m.latest m.oldest (session_at s m.sessions)) (x, n) h in
      sym (ap (λ (p : Reply B × Machine B). newest p.1) f.2)

  module _ (s : ℕ) (r : Machine B) (old : Index B) (plain : IsPlain old) (st : StandsFor r old.machine) where
    abbrev m : Machine B
    m = old.machine

    working : r.failed ≡ false
    working = works r m st plain.runs

    same : m.sessions ≡ r.sessions
    same = st.sessions working

    there : session_at s r.sessions ≡ session_at s m.sessions
    there = ap (session_at s) (sym same)

    all_durable : newest m ≡ m.oldest
    all_durable = (let none : length m.older ≡ 0 = ap length plain.durable in omega arith)

    -- ---- seals

    sealed_grows : (n : Machine B) → seal k s m ≡ Some n → newest n ≡ newest m + 1
    sealed_grows n h =
        let f = mapped (λ (set : List (Entry B)). record m {
          older = kept_sets m;
          latest = set;
          sessions = slice_set m.sessions (s - 1) (Committing (newest m + 1));
        }) (sealed_set k m.latest (session_at s m.sessions)) n h in
        let long : length (m.older ++ m.latest ∷ []) ≡ length m.older + 1 = length-append m.older (m.latest ∷ []) in
        let number : m.oldest + length (m.older ++ m.latest ∷ []) ≡ newest m + 1 = omega arith in
        sym (ap newest f.2) ∙ number

    durable_keeps : (n : Machine B) → newest (durable (newest n) n) ≡ newest n
    durable_keeps n = let left = length-drop (newest n - n.oldest) n.older in omega (arith, left)

    -- what the replay seals, the index does
    seal_back : (end : Machine B) → seal k s r ≡ Some end → (n : Machine B) × (seal k s m ≡ Some n)
    seal_back end h =
        let f = mapped (λ (set : List (Entry B)). record r {
          older = kept_sets r;
          latest = set;
          sessions = slice_set r.sessions (s - 1) (Committing (newest r + 1));
        }) (sealed_set k r.latest (session_at s r.sessions)) end h in
        let set : sealed_set k m.latest (session_at s m.sessions) ≡ Some f.0 =
        ap (λ (xs : List (Entry B)). sealed_set k xs (session_at s m.sessions)) st.latest ∙ ap (sealed_set k r.latest) (sym there) ∙ f.1 in (
          record m { older = kept_sets m; latest = f.0; sessions = slice_set m.sessions (s - 1) (Committing (newest m + 1)) },
          ap (option_map (λ (set : List (Entry B)). record m {
            older = kept_sets m;
            latest = set;
            sessions = slice_set m.sessions (s - 1) (Committing (newest m + 1));
          })) set,
        )

    sealed_along : (number : ℕ) (new : Index B) → SealsIndex k s old (Some number) new → GoesAlong (FitsAt k r (Sealed s number)) 0 (Sealed s number) old new
    sealed_along number new h =
        let f = mapped (λ sealed. durable (newest sealed) sealed) (seal k s m) new.machine h.0 in
        let along = seal_alike k s r m st plain.runs f.0 f.1 in
        let rises : f.0.oldest ≤ newest f.0 = omega arith in
        let upto : newest f.0 ≤ newest f.0 = omega arith in
        let number_is : number ≡ newest r + 1 = h.1 ∙ ap (λ n. n + 1) st.number in
        let grown : newest new.machine ≡ newest m + 1 = sym (ap newest f.2) ∙ durable_keeps f.0 ∙ sealed_grows f.0 f.1 in
        let next = h.2 in
        record {
          point = At along.0;
          fits = (along.0, (working, number_is, along.1), refl);
          waits_is = refl;
          stands = subst (StandsFor along.0) f.2 (stands_durable along.0 f.0 (newest f.0) along.2 rises upto);
          commits = omega (arith, grown);
          next = omega (arith, next);
        }

    -- there is nothing to seal
    pub seals_none : (number : ℕ) (new : Index B) → SealsIndex k s old None new → Follows (FitsAt k r (Sealed s number)) 0 (Sealed s number) old false new
    seals_none number new h = λ p fits.
        (let back = seal_back fits.0 fits.1.2 in let no : Some back.0 ≡ None = sym back.1 ∙ h.0 in let never : ⊥ = cc in never)

    -- a commit is sealed, by whether it is under the number of the item
    pub seals_some : (number given : ℕ) (new : Index B) (b : Bool) → SealsIndex k s old (Some given) new → (given == number) ≡ b
        → Follows (FitsAt k r (Sealed s number)) 0 (Sealed s number) old b new
    seals_some number given new true h is =
        let same : given ≡ number = grind (arith, nat_tests) in
        sealed_along number new (subst (λ (n : ℕ). SealsIndex k s old (Some n) new) same h)
    seals_some number given new false h isnt = λ p fits.
        (let same : given ≡ number = h.1 ∙ ap (λ n. n + 1) st.number ∙ sym fits.1.1 in
        let is : (given == number) ≡ true = eq-eqb given number same in let no : ⊥ = cc in no)

    -- ---- calls that are closed

    close_back : (end : Machine B) → close s r ≡ Some end → (n : Machine B) × (close s m ≡ Some n)
    close_back end h =
        let f = mapped (λ (x : Session B). with_session s x r) (closed_session (session_at s r.sessions)) end h in (
          with_session s f.0 m,
          ap (option_map (λ (x : Session B). with_session s x m)) (ap closed_session (sym there) ∙ f.1),
        )

    closed_along : (x : Reply B) (why_fits : (end : Machine B) → close s r ≡ Some end → FitsReply k s x r end) (new : Index B) → DropsIndex s old true new
        → GoesAlong (FitsAt k r (Replied s x)) 0 (Replied s x) old new
    closed_along x why_fits new h =
        let along = close_alike k s r m st plain.runs new.machine h.0 in
        let grown : newest new.machine ≡ newest m = ap newest along.1 in
        let next = h.1 in
        record {
          point = At (record r { sessions = new.machine.sessions });
          fits = (record r { sessions = new.machine.sessions }, why_fits (record r { sessions = new.machine.sessions }) along.0, refl);
          waits_is = refl;
          stands = subst (StandsFor (record r { sessions = new.machine.sessions })) (sym along.1) (stands_with r m new.machine.sessions st);
          commits = omega (arith, grown);
          next = omega (arith, next);
        }

    closes_by : (x : Reply B) → ((end : Machine B) → close s r ≡ Some end → FitsReply k s x r end) → ((end : Machine B) → FitsReply k s x r end → close s r ≡ Some end)
        → (new : Index B) (b : Bool) → DropsIndex s old b new → Follows (FitsAt k r (Replied s x)) 0 (Replied s x) old b new
    closes_by x there back new true h = closed_along x there new h
    closes_by x there back new false h = λ p fits. (let closed = close_back fits.0 (back fits.0 fits.1) in let no : Some closed.0 ≡ None = sym closed.1 ∙ h.0 in let never : ⊥ = cc in never)

    pub closes_along : (x : Reply B) (new : Index B) (b : Bool) → kind_of x ≡ kind.Closed → DropsIndex s old b new → Follows (FitsAt k r (Replied s x)) 0 (Replied s x) old b new
    closes_along (reply.Refused refusal.PagesFull) new b is h = closes_by (reply.Refused refusal.PagesFull) (λ end closed. (working, refl, closed)) (λ end fits. fits.2) new b h
    closes_along (reply.Refused refusal.Memory) new b is h = closes_by (reply.Refused refusal.Memory) (λ end closed. (working, refl, closed)) (λ end fits. fits.2) new b h
    closes_along other new b is h = let no : ⊥ = cc in absurd no

    -- ---- answers

    -- an answer that isn't a commit's fits if the machine gives it
    answer_fits : (x : Reply B) (end : Machine B) → kind_of x ≡ kind.Answer → is_committed x ≡ false → IsStep k r (Answers s x) end → FitsReply k s x r end
    answer_fits (reply.Committed number) end is isnt step = let no : ⊥ = cc in absurd no
    answer_fits (reply.Refused refusal.PagesFull) end is isnt step = let no : ⊥ = cc in absurd no
    answer_fits (reply.Refused refusal.Memory) end is isnt step = let no : ⊥ = cc in absurd no
    answer_fits (reply.Refused refusal.Device) end is isnt step = let no : ⊥ = cc in absurd no
    answer_fits (reply.Refused refusal.Failed) end is isnt step = let no : ⊥ = cc in absurd no
    answer_fits other end is isnt step = step

    abbrev Answered : Reply B → Type 0
    Answered x = (y : Session B) × (answer_session k m.latest m.oldest (session_at s m.sessions) ≡ Some (x, y))

    -- what the replay answers, the index does
    answer_back : (x : Reply B) (end : Machine B) → is_committed x ≡ false → answer k s r ≡ Some (x, end) → Answered x
    answer_back x end isnt h =
        let f = mapped (λ (p : Reply B × Session B). (p.0, with_session s p.1 r)) (answer_session k r.latest r.oldest (session_at s r.sessions)) (x, end) h in
        let same_reply : f.0.0 ≡ x = ap (λ (p : Reply B × Machine B). p.0) f.2 in
        elim (answer_of r.latest r.oldest (session_at s r.sessions) f.0 f.1) [
          | inl at_once ↦ (
            f.0.1,
            ap (λ (xs : List (Entry B)). answer_session k xs m.oldest (session_at s m.sessions)) st.latest
                ∙ ap (answer_session k r.latest m.oldest) (sym there) ∙ at_once.0 m.oldest ∙ ap (λ (z : Reply B). Some (z, f.0.1)) same_reply,
          )
          | inr sealed ↦ (
              let is : true ≡ is_committed x = ap (λ (p : Reply B × Session B). is_committed p.0) (sym sealed.2) ∙ ap is_committed same_reply in
              let no : ⊥ = cc in absurd no
              )
        ]

    -- an acknowledged commit is durable in the index
    committed_back_by : (c : ℕ) (end z : Machine B) → c ≤ newest r → z.sessions ≡ r.sessions → answer k s z ≡ Some (reply.Committed c, end) → Answered (reply.Committed c)
    committed_back_by c end z within sessions_are h =
        let f = mapped (λ (p : Reply B × Session B). (p.0, with_session s p.1 z)) (answer_session k z.latest z.oldest (session_at s z.sessions)) (reply.Committed c, end) h in
        let same_reply : f.0.0 ≡ reply.Committed c = ap (λ (p : Reply B × Machine B). p.0) f.2 in
        elim (answer_of z.latest z.oldest (session_at s z.sessions) f.0 f.1) [
          | inl at_once ↦ (
              let is : true ≡ false = sym (ap is_committed same_reply) ∙ at_once.1.other in
              let no : ⊥ = cc in absurd no
              )
          | inr sealed ↦ (
              let number_is : sealed.0 ≡ c = (let both : reply.Committed sealed.0 ≡ reply.Committed c = ap (λ (p : Reply B × Session B). p.0) (sym sealed.2) ∙ same_reply in cc) in
              let waits_here : session_at s m.sessions ≡ Committing c =
              sym there ∙ ap (session_at s) (sym sessions_are) ∙ sealed.1 ∙ ap Committing number_is in
              let lasting : c ≤ m.oldest = (let high = st.number in let low = all_durable in omega arith) in (
                Idle,
                ap (answer_session k m.latest m.oldest) waits_here ∙ ap (λ (b : Bool). if b then Some (reply.Committed c, Idle) else None) (le-leb c m.oldest lasting),
              )
              )
        ]

    committed_back : (c : ℕ) (end : Machine B) (late : Bool) → c ≤ newest r → answer k s (if late then r else durable c r) ≡ Some (reply.Committed c, end) → Answered (reply.Committed c)
    committed_back c end true within h = committed_back_by c end r within refl h
    committed_back c end false within h = committed_back_by c end (durable c r) within refl h

    fits_back : (x : Reply B) (end : Machine B) → kind_of x ≡ kind.Answer → FitsReply k s x r end → Answered x
    fits_back (reply.Committed c) end is fits = committed_back c end (nat_le c r.oldest) fits.1 fits.2
    fits_back (reply.Refused refusal.PagesFull) end is fits = let no : ⊥ = cc in absurd no
    fits_back (reply.Refused refusal.Memory) end is fits = let no : ⊥ = cc in absurd no
    fits_back (reply.Refused refusal.Device) end is fits = let no : ⊥ = cc in absurd no
    fits_back (reply.Refused refusal.Failed) end is fits = let no : ⊥ = cc in absurd no
    fits_back other end is fits = answer_back other end refl fits.1

    -- a commit that isn't sealed has no answer
    pub unsealed_fits_nowhere : (x : Reply B) (number : ℕ) (new : Index B) → kind_of x ≡ kind.Answer → SealsIndex k s old (Some number) new
        → (p : Point B) → FitsAt k r (Replied s x) p → ⊥
    unsealed_fits_nowhere x number new is h = λ p fits. (
        let f = mapped (λ sealed. durable (newest sealed) sealed) (seal k s m) new.machine h.0 in
        let g = mapped (λ (set : List (Entry B)). record m {
          older = kept_sets m;
          latest = set;
          sessions = slice_set m.sessions (s - 1) (Committing (newest m + 1));
        }) (sealed_set k m.latest (session_at s m.sessions)) f.0 f.1 in
        let at = sealed_view k m.latest g.0 (session_at s m.sessions) g.1 in
        let answered = fits_back x fits.0 is fits.1 in
        none_some (Reply B × Session B) (x, answered.0) (sym (ap (answer_session k m.latest m.oldest) at.2) ∙ answered.1)
        )

    -- the index's answer if nothing is to be sealed
    abbrev answer_or : Option (Reply B × Machine B) → Reply B × Machine B
    answer_or o = unwrap_or o (reply.Refused (if is_session s then refusal.NoCall else refusal.BadSession), m)

    no_commit : seal k s m ≡ None → commit k s m ≡ None
    no_commit none = ap (λ (o : Option (Machine B)). option_and_then (answer k s) (option_map (λ sealed. durable (newest sealed) sealed) o)) none

    or_none : (o : Option (Reply B × Machine B)) → option_or o None ≡ o
    or_none None = refl
    or_none (Some p) = refl

    answer_is : seal k s m ≡ None → answer_machine k s m ≡ answer_or (answer k s m)
    answer_is none =
        ap (λ (o : Option (Reply B × Machine B)). answer_or (option_or (answer k s m) o)) (no_commit none) ∙ ap answer_or (or_none (answer k s m))

    never_given : (b : Bool) → kind_of {B = B} (reply.Refused (if b then refusal.NoCall else refusal.BadSession)) ≡ kind.Never
    never_given true = refl
    never_given false = refl

    answered_by : (x : Reply B) (new : Index B) (o : Option (Reply B × Machine B)) → answer k s m ≡ o → kind_of x ≡ kind.Answer
        → x ≡ (answer_or o).0 → new.machine ≡ (answer_or o).1 → new.next ≡ old.next → GoesAlong (FitsAt k r (Replied s x)) 0 (Replied s x) old new
    answered_by x new None at is xe me ne = let no : kind.Answer ≡ kind.Never = sym is ∙ ap kind_of xe ∙ never_given (is_session s) in let never : ⊥ = cc in absurd never
    answered_by x new (Some (y, n)) at is xe me ne =
        let given : answer k s m ≡ Some (x, new.machine) = at ∙ (λ i. Some (sym xe i, sym me i)) in
        let grown : newest new.machine ≡ newest m = answer_keeps s m new.machine x given in
        elim (true_or_false (is_committed x)) [
          | inl c ↦ by_commit x new given grown ne c
          | inr isnt ↦ (
              let along = answer_alike k s r m st plain.runs x new.machine isnt given in
              record {
                point = At (record r { sessions = new.machine.sessions });
                fits = (
                  record r { sessions = new.machine.sessions },
                  answer_fits x (record r { sessions = new.machine.sessions }) is isnt (working, along.0),
                  refl,
                );
                waits_is = refl;
                stands = subst (StandsFor (record r { sessions = new.machine.sessions })) (sym along.1) (stands_with r m new.machine.sessions st);
                commits = omega (arith, grown);
                next = omega (arith, ne);
              }
              )
        ]
      where
        by_commit : (x : Reply B) (new : Index B) → answer k s m ≡ Some (x, new.machine) → newest new.machine ≡ newest m → new.next ≡ old.next → is_committed x ≡ true
            → GoesAlong (FitsAt k r (Replied s x)) 0 (Replied s x) old new
        by_commit (reply.Committed c) new given grown ne is =
            let along = committed_alike k s r m st plain.runs c new.machine given in
            record {
              point = At along.0;
              fits = (along.0, along.1, refl);
              waits_is = refl;
              stands = along.2;
              commits = omega (arith, grown);
              next = omega (arith, ne);
            }
        by_commit other new given grown ne is = let no : ⊥ = cc in absurd no

    pub answers_along : (x given : Reply B) (new : Index B) (b : Bool) → kind_of x ≡ kind.Answer → seal k s m ≡ None → AnswersIndex k s old given new
        → (given ≡ reply.Refused refusal.Memory → ⊥) → MatchBool b (given ≡ x) (given ≡ x → ⊥)
        → Follows (FitsAt k r (Replied s x)) 0 (Replied s x) old b new
    answers_along x given new b is none (inr lacks) enough _ = absurd (enough lacks.reply_is)
    answers_along x given new true is none (inl full) enough equal =
        answered_by x new (answer k s m) refl is
        (sym equal ∙ full.reply_is ∙ ap (λ (p : Reply B × Machine B). p.0) (answer_is none)) (full.machine_is ∙ ap (λ (p : Reply B × Machine B). p.1) (answer_is none)) full.next_stays
    answers_along x given new false is none (inl full) enough isnt = λ p fits. (
        let answered = fits_back x fits.0 is fits.1 in
        let gives : answer k s m ≡ Some (x, with_session s answered.0 m) =
        ap (option_map (λ (p : Reply B × Session B). (p.0, with_session s p.1 m))) answered.1 in
        isnt (full.reply_is ∙ ap (λ (p : Reply B × Machine B). p.0) (answer_is none ∙ ap answer_or gives))
        )

    -- an answer that is given once there is nothing to seal
    pub unsealed_along : (x given : Reply B) (o : Option ℕ) (mid new : Index B) (b : Bool) → kind_of x ≡ kind.Answer → SealsIndex k s old o mid → is_some o ≡ false
        → AnswersIndex k s mid given new → (given ≡ reply.Refused refusal.Memory → ⊥) → MatchBool b (given ≡ x) (given ≡ x → ⊥)
        → Follows (FitsAt k r (Replied s x)) 0 (Replied s x) old b new
    unsealed_along x given None mid new b is h none full enough same_one =
        answers_along x given new b is h.0 (subst (λ (i : Index B). AnswersIndex k s i given new) h.1 full) enough same_one
    unsealed_along x given (Some number) mid new b is h none full enough same_one = let no : ⊥ = cc in absurd no

    -- a commit that was to be sealed
    pub sealed_nowhere : (x : Reply B) (o : Option ℕ) (mid : Index B) → kind_of x ≡ kind.Answer → SealsIndex k s old o mid → is_some o ≡ true
        → (p : Point B) → FitsAt k r (Replied s x) p → ⊥
    sealed_nowhere x None mid is h some = let no : ⊥ = cc in absurd no
    sealed_nowhere x (Some number) mid is h some = unsealed_fits_nowhere x number mid is h

  -- an ask fits wherever none waits
  pub asked_along : (r : Machine B) (old : Index B) → StandsFor r old.machine → (item : Item B) (s : ℕ) (call : Call B) → item ≡ Asked s call
      → GoesAlong (FitsAt k r item) 0 item old old
  asked_along r old st item s call is =
      subst (λ (x : Item B). GoesAlong (FitsAt k r x) 0 x old old) (sym is)
      (record { point = Asking s call r; fits = refl; waits_is = refl; stands = st; commits = omega arith; next = omega arith })

  -- a reply that no open call is given
  pub never_fits : (s : ℕ) (r : Machine B) (x : Reply B) → kind_of x ≡ kind.Never → (p : Point B) → FitsAt k r (Replied s x) p → ⊥
  never_fits s r (reply.Refused refusal.BadSession) is = λ p fits. (let no : kind.Never ≡ kind.Answer = answers_are s r fits.0 (reply.Refused refusal.BadSession) fits.1.1 in let never : ⊥ = cc in never)
  never_fits s r (reply.Refused refusal.NoCall) is = λ p fits. (let no : kind.Never ≡ kind.Answer = answers_are s r fits.0 (reply.Refused refusal.NoCall) fits.1.1 in let never : ⊥ = cc in never)
  never_fits s r other is = let no : ⊥ = cc in absurd no
