-- An event after a record, on the machine that the record's replay ends in.
use Rattle.std.proofs.Common.{arith, ◌≡◌, ℕ, ◌+◌, ◌-◌, ◌<◌, ◌≤◌, ◌⊎◌, inl, inr, Bool, true, false, List, [], ◌∷◌, ◌++◌, length, Option, Some, None, refl, ap, sym, ◌∙◌, subst}
use Rattle.std.specs.Prelude.{if◌then◌else◌, nat_le, drop, slice_set, option_map}
use Rattle.std.proofs.lemmas.List.{drop-drop, drop-append-le, length-drop, length-append}
use Rattle.std.proofs.lemmas.Bool.{leb-true, le-leb}
use Rattle.std.proofs.lemmas.Bool.Decides.{nat_tests}
use Rattle.gx_geom.specs.declared.refusal.Refusal.TheVariants as refusal
use Rattle.gx_machine.specs.declared.entry.Entry.{Entry}
use Rattle.gx_machine.specs.declared.call.Call.{Call}
use Rattle.gx_machine.specs.declared.call.Call.TheVariants.{Begin, Insert, Delete, Search, Commit, Abort}
use Rattle.gx_machine.specs.declared.reply.Reply.{Reply}
use Rattle.gx_machine.specs.declared.reply.Reply.TheVariants as reply
use Rattle.gx_machine.specs.declared.reply.Asked.{Asked as Given}
use Rattle.gx_machine.specs.declared.reply.Asked.TheVariants as asked
use Rattle.gx_machine.specs.Keys.{Keys}
use Rattle.gx_machine.specs.Sessions.{Session, Changes, view, Idle, Open, Aborting, Committing, ask_session, answer_session, answer_call, sealed_set, closed_session}
use Rattle.gx_machine.specs.Sets.{has, including, excluding}
use Rattle.gx_machine.specs.Machine.{Machine, newest, kept_sets, is_session, session_at, with_session, least_conflicting, claims_held, ask, answer, seal, durable, close, failed_machine}
use Rattle.gx_machine.proofs.StepEffects.{mapped, asked_there}
use Rattle.gx_machine.proofs.SessionMoves.{value_of}
use Rattle.gx_events.specs.Replay.{settled, FitsReply, StandsFor}

pub true_or_false : (b : Bool) → (b ≡ true) ⊎ (b ≡ false)
true_or_false true = inl refl
true_or_false false = inr refl

-- Machines that stand for others.

module _ {B : Type 0} where
  pub stands_itself : (m : Machine B) → StandsFor m m
  stands_itself m = record {
    rises = omega arith;
    within = omega arith;
    older = sym (ap (λ d. drop d m.older) (let none : m.oldest - m.oldest ≡ 0 = omega arith in none));
    latest = refl;
    number = refl;
    sessions = λ h. refl;
    failed = λ h. h;
  }

  -- both with these sessions
  pub stands_with : (r m : Machine B) (xs : List (Session B)) → StandsFor r m → StandsFor (record r { sessions = xs }) (record m { sessions = xs })
  stands_with r m xs st = record {
    rises = st.rises;
    within = st.within;
    older = st.older;
    latest = st.latest;
    number = st.number;
    sessions = λ h. refl;
    failed = st.failed;
  }

  -- both fail; of the replay, with any sessions
  pub stands_failed : (r m : Machine B) → StandsFor r m → StandsFor (failed_machine r) (failed_machine m)
  stands_failed r m st = record {
    rises = st.rises;
    within = st.within;
    older = st.older;
    latest = st.latest;
    number = st.number;
    sessions = λ h. let no : ⊥ = cc in absurd no;
    failed = λ h. refl;
  }

  -- the engine had failed, and the replay meets it, with any sessions
  pub stands_ended : (r m : Machine B) (xs : List (Session B)) → StandsFor r m → m.failed ≡ true → StandsFor (record r { sessions = xs; failed = true }) m
  stands_ended r m xs st ended = record {
    rises = st.rises;
    within = st.within;
    older = st.older;
    latest = st.latest;
    number = st.number;
    sessions = λ h. let no : ⊥ = cc in absurd no;
    failed = λ h. ended;
  }

  -- the engine failed unseen
  pub stands_unseen : (r m : Machine B) → StandsFor r m → StandsFor r (failed_machine m)
  stands_unseen r m st = record {
    rises = st.rises;
    within = st.within;
    older = st.older;
    latest = st.latest;
    number = st.number;
    sessions = st.sessions;
    failed = λ h. refl;
  }

  pub works : (r m : Machine B) → StandsFor r m → m.failed ≡ false → r.failed ≡ false
  works r m st h = elim (true_or_false r.failed) [
    | inl p ↦ (let q : m.failed ≡ true = st.failed p in let no : ⊥ = cc in absurd no)
    | inr p ↦ p
  ]

  dropped_length : (a : ℕ) (xs : List (List (Entry B))) → length (drop a xs) ≡ length xs - a
  dropped_length a xs = length-drop a xs

  -- commits become durable in the engine
  pub stands_durable : (r m : Machine B) (d : ℕ) → StandsFor r m → m.oldest ≤ d → d ≤ newest m → StandsFor r (durable d m)
  stands_durable r m d st up within =
      let a = st.rises in let b = st.within in let c = st.number in
      let sum : (m.oldest - r.oldest) + (d - m.oldest) ≡ d - r.oldest = omega arith in
      record {
        rises = omega arith;
        within = omega arith;
        older = ap (λ xs. drop (d - m.oldest) xs) st.older ∙ drop-drop (d - m.oldest) (m.oldest - r.oldest) r.older ∙ ap (λ n. drop n r.older) sum;
        latest = st.latest;
        number = (let l = length-drop (d - m.oldest) m.older in omega arith);
        sessions = st.sessions;
        failed = st.failed;
      }

  -- commits become durable in the replay, no further than in the engine
  pub stands_settled : (r m : Machine B) (d : ℕ) → StandsFor r m → d ≤ m.oldest → (late : Bool) → nat_le d r.oldest ≡ late → StandsFor (if late then r else durable d r) m
  stands_settled r m d st below true is = st
  stands_settled r m d st below false is =
      let a = st.rises in let b = st.within in let c = st.number in
      let later : r.oldest < d = grind (arith, nat_tests) in
      let sum : (d - r.oldest) + (m.oldest - d) ≡ m.oldest - r.oldest = omega arith in
      let l : length (drop (d - r.oldest) r.older) ≡ length r.older - (d - r.oldest) = length-drop (d - r.oldest) r.older in
      record {
        rises = below;
        within = omega arith;
        older = st.older ∙ ap (λ n. drop n r.older) (sym sum) ∙ sym (drop-drop (m.oldest - d) (d - r.oldest) r.older);
        latest = st.latest;
        number = omega arith;
        sessions = st.sessions;
        failed = st.failed;
      }

abbrev pub is_committed : {B : Type 0} → Reply B → Bool
is_committed (reply.Committed number) = true
is_committed reply.Ok = false
is_committed reply.Inserted = false
is_committed reply.Deleted = false
is_committed (reply.Found entries) = false
is_committed reply.Aborted = false
is_committed (reply.Refused why) = false

abbrev number_of : {B : Type 0} → Reply B → ℕ
number_of (reply.Committed number) = number
number_of reply.Ok = 0
number_of reply.Inserted = 0
number_of reply.Deleted = 0
number_of (reply.Found entries) = 0
number_of reply.Aborted = 0
number_of (reply.Refused why) = 0

-- What depends on sessions alone.

module _ {B : Type 0} (k : Keys B) where
  -- the machine after an ask differs in its sessions, and the ask goes the same if the sessions are the same
  asked_alike : (s : ℕ) (call : Call B) (m r n : Machine B) (g : Given B) (there : Bool) → m.sessions ≡ r.sessions
      → asked_there k s call m there ≡ (g, n)
      → (n ≡ record m { sessions = n.sessions }) × (asked_there k s call r there ≡ (g, record r { sessions = n.sessions }))
  asked_alike s call m r n g true same h =
      let F : List (Session B) → Given B × Session B = λ xs. ask_session k call (least_conflicting k call s 1 xs) (claims_held xs) (session_at s xs) in (
        ap (λ (p : Given B × Machine B). p.1) (sym h) ∙ ap (λ (p : Given B × Machine B). record m { sessions = p.1.sessions }) h,
        ap (λ (xs : List (Session B)). ((F xs).0, record r { sessions = slice_set xs (s - 1) (F xs).1 })) (sym same)
            ∙ ap (λ (p : Given B × Machine B). (p.0, record r { sessions = p.1.sessions })) h,
      )
  asked_alike s call m r n g false same h = (
    ap (λ (p : Given B × Machine B). p.1) (sym h) ∙ ap (λ (p : Given B × Machine B). record m { sessions = p.1.sessions }) h,
    ap (λ (xs : List (Session B)). (asked.Now (reply.Refused refusal.BadSession), record r { sessions = xs })) (sym same)
        ∙ ap (λ (p : Given B × Machine B). (p.0, record r { sessions = p.1.sessions })) h,
  )

  pub ask_alike : (s : ℕ) (call : Call B) (m r n : Machine B) (g : Given B) → m.sessions ≡ r.sessions → ask k s call m ≡ (g, n)
      → (n ≡ record m { sessions = n.sessions }) × (ask k s call r ≡ (g, record r { sessions = n.sessions }))
  ask_alike s call m r n g same h = asked_alike s call m r n g (is_session s) same h

  -- what an answer is of: it doesn't ask what is durable, or is a commit's
  committing_of : (oldest number : ℕ) (y : Reply B × Session B) (lasting : Bool) → nat_le number oldest ≡ lasting
      → (if lasting then Some (reply.Committed number, Idle) else None) ≡ Some y
      → (number ≤ oldest) × (y ≡ (reply.Committed number, Idle))
  committing_of oldest number y true is h = (leb-true number oldest is, sym (value_of h))
  committing_of oldest number y false is h = let no : ⊥ = cc in absurd no

  insert_answer : (there : Bool) (e : Entry B) (changes : Changes B)
      → (let p : Reply B × Changes B = if there then (reply.Refused refusal.Present, changes) else (reply.Inserted, record { added = including k e changes.added; taken = excluding k e changes.taken }) in is_committed p.0 ≡ false)
  insert_answer true e changes = refl
  insert_answer false e changes = refl

  delete_answer : (there : Bool) (e : Entry B) (changes : Changes B)
      → (let p : Reply B × Changes B = if there then (reply.Deleted, record { added = excluding k e changes.added; taken = including k e changes.taken }) else (reply.Refused refusal.Absent, changes) in is_committed p.0 ≡ false)
  delete_answer true e changes = refl
  delete_answer false e changes = refl

  call_answer : (call : Call B) (latest : List (Entry B)) (changes : Changes B) (p : Reply B × Changes B) → answer_call k call latest changes ≡ Some p
      → is_committed p.0 ≡ false
  call_answer (Insert e) latest changes p h = sym (ap (λ (q : Reply B × Changes B). is_committed q.0) (value_of h)) ∙ insert_answer (has k e (view k latest changes)) e changes
  call_answer (Delete e) latest changes p h = sym (ap (λ (q : Reply B × Changes B). is_committed q.0) (value_of h)) ∙ delete_answer (has k e (view k latest changes)) e changes
  call_answer (Search q) latest changes p h = sym (ap (λ (q : Reply B × Changes B). is_committed q.0) (value_of h))
  call_answer Begin latest changes p h = let no : ⊥ = cc in absurd no
  call_answer Commit latest changes p h = let no : ⊥ = cc in absurd no
  call_answer Abort latest changes p h = let no : ⊥ = cc in absurd no

  answer_of : (latest : List (Entry B)) (oldest : ℕ) (x : Session B) (y : Reply B × Session B) → answer_session k latest oldest x ≡ Some y
      → (((d : ℕ) → answer_session k latest d x ≡ Some y) × (is_committed y.0 ≡ false))
      ⊎ ((number : ℕ) × (x ≡ Committing number) × (number ≤ oldest) × (y ≡ (reply.Committed number, Idle)))
  answer_of latest oldest Idle y h = let no : ⊥ = cc in absurd no
  answer_of latest oldest (Open locks changes None) y h = let no : ⊥ = cc in absurd no
  answer_of latest oldest (Open locks changes (Some call)) y h =
      let f = mapped (λ (p : Reply B × Changes B). (p.0, Open locks p.1 None)) (answer_call k call latest changes) y h in
      inl ((λ d. h), sym (ap (λ (p : Reply B × Session B). is_committed p.0) f.2) ∙ call_answer call latest changes f.0 f.1)
  answer_of latest oldest (Aborting locks) y h = inl ((λ d. h), sym (ap (λ (p : Reply B × Session B). is_committed p.0) (value_of h)))
  answer_of latest oldest (Committing number) y h =
      let c = committing_of oldest number y (nat_le number oldest) refl h in
      inr (number, refl, c.0, c.1)

  module _ (s : ℕ) (r m : Machine B) (st : StandsFor r m) (working : m.failed ≡ false) where
    same : m.sessions ≡ r.sessions
    same = st.sessions (works r m st working)

    here : session_at s r.sessions ≡ session_at s m.sessions
    here = ap (λ xs. session_at s xs) (sym same)

    -- an answer that isn't a commit's
    pub answer_alike : (x : Reply B) (n : Machine B) → is_committed x ≡ false → answer k s m ≡ Some (x, n)
        → (answer k s r ≡ Some (x, record r { sessions = n.sessions })) × (n ≡ record m { sessions = n.sessions })
    answer_alike x n other h =
        let f = mapped (λ (p : Reply B × Session B). (p.0, with_session s p.1 m)) (answer_session k m.latest m.oldest (session_at s m.sessions)) (x, n) h in
        let y = f.0 in
        elim (answer_of m.latest m.oldest (session_at s m.sessions) y f.1) [
          | inl open_call ↦ (
            ap (λ (o : Option (Reply B × Session B)). option_map (λ (p : Reply B × Session B). (p.0, with_session s p.1 r)) o)
                (ap (λ (xs : List (Entry B)). answer_session k xs r.oldest (session_at s r.sessions)) (sym st.latest)
                ∙ ap (λ (z : Session B). answer_session k m.latest r.oldest z) here ∙ open_call.0 r.oldest)
                ∙ ap (λ (xs : List (Session B)). Some (y.0, record r { sessions = slice_set xs (s - 1) y.1 })) (sym same)
                ∙ ap (λ (p : Reply B × Machine B). Some (p.0, record r { sessions = p.1.sessions })) f.2,
            ap (λ (p : Reply B × Machine B). p.1) (sym f.2) ∙ ap (λ (p : Reply B × Machine B). record m { sessions = p.1.sessions }) f.2,
          )
          | inr c ↦ (
              let is : is_committed x ≡ true = ap (λ (p : Reply B × Machine B). is_committed p.0) (sym f.2) ∙ ap (λ (p : Reply B × Session B). is_committed p.0) c.3 in
              let no : ⊥ = cc in absurd no
              )
        ]

    -- an acknowledged commit, once it is durable in the replay
    acknowledged_at : (latest : List (Entry B)) (c d : ℕ) → c ≤ d → answer_session k latest d (Committing c) ≡ Some (reply.Committed c, Idle)
    acknowledged_at latest c d below = ap (λ (b : Bool). if b then Some (reply.Committed c, Idle) else None) (le-leb c d below)

    committed_by : (c : ℕ) (n : Machine B) (late : Bool) → nat_le c r.oldest ≡ late → session_at s m.sessions ≡ Committing c → c ≤ m.oldest
        → n ≡ with_session s Idle m → StandsFor (if late then r else durable c r) m
        → (answer k s (if late then r else durable c r) ≡ Some (reply.Committed c, with_session s Idle (if late then r else durable c r)))
        × StandsFor (with_session s Idle (if late then r else durable c r)) n
    committed_by c n true is at below ends st' =
        let below' : c ≤ r.oldest = leb-true c r.oldest is in (
          ap (λ (x : Session B). option_map (λ (p : Reply B × Session B). (p.0, with_session s p.1 r)) (answer_session k r.latest r.oldest x)) (here ∙ at)
              ∙ ap (λ (o : Option (Reply B × Session B)). option_map (λ (p : Reply B × Session B). (p.0, with_session s p.1 r)) o) (acknowledged_at r.latest c r.oldest below'),
          subst (λ (z : Machine B). StandsFor (with_session s Idle r) z) (sym ends)
              (subst (λ (xs : List (Session B)). StandsFor (record r { sessions = xs }) (record m { sessions = slice_set m.sessions (s - 1) Idle }))
              (ap (λ (xs : List (Session B)). slice_set xs (s - 1) Idle) same) (stands_with r m (slice_set m.sessions (s - 1) Idle) st')),
        )
    committed_by c n false is at below ends st' = (
      ap (λ (x : Session B). option_map (λ (p : Reply B × Session B). (p.0, with_session s p.1 (durable c r))) (answer_session k r.latest c x)) (here ∙ at)
          ∙ ap (λ (o : Option (Reply B × Session B)). option_map (λ (p : Reply B × Session B). (p.0, with_session s p.1 (durable c r))) o) (acknowledged_at r.latest c c (omega arith)),
      subst (λ (z : Machine B). StandsFor (with_session s Idle (durable c r)) z) (sym ends)
          (subst (λ (xs : List (Session B)). StandsFor (record (durable c r) { sessions = xs }) (record m { sessions = slice_set m.sessions (s - 1) Idle }))
          (ap (λ (xs : List (Session B)). slice_set xs (s - 1) Idle) same) (stands_with (durable c r) m (slice_set m.sessions (s - 1) Idle) st')),
    )

    -- an answer that is a commit's
    pub committed_alike : (c : ℕ) (n : Machine B) → answer k s m ≡ Some (reply.Committed c, n)
        → (end : Machine B) × FitsReply k s (reply.Committed c) r end × StandsFor end n
    committed_alike c n h =
        let f = mapped (λ (p : Reply B × Session B). (p.0, with_session s p.1 m)) (answer_session k m.latest m.oldest (session_at s m.sessions)) (reply.Committed c, n) h in
        elim (answer_of m.latest m.oldest (session_at s m.sessions) f.0 f.1) [
          | inl open_call ↦ (
              let is : is_committed f.0.0 ≡ true = ap (λ (p : Reply B × Machine B). is_committed p.0) f.2 in
              let none : is_committed f.0.0 ≡ false = open_call.1 in
              let no : ⊥ = cc in absurd no
              )
          | inr w ↦ (
              let number : w.0 ≡ c = ap (λ (p : Reply B × Session B). number_of p.0) (sym w.3) ∙ ap (λ (p : Reply B × Machine B). number_of p.0) f.2 in
              let at : session_at s m.sessions ≡ Committing c = w.1 ∙ ap (λ (j : ℕ). Committing j) number in
              let below : c ≤ m.oldest = omega (arith, w.2, number) in
              let ends : n ≡ with_session s Idle m = ap (λ (p : Reply B × Machine B). p.1) (sym f.2) ∙ ap (λ (p : Reply B × Session B). with_session s p.1 m) w.3 in
              let by = committed_by c n (nat_le c r.oldest) refl at below ends (stands_settled r m c st below (nat_le c r.oldest) refl) in
              let within : c ≤ newest r = (let a = st.within in omega (arith, a, below)) in
              (with_session s Idle (settled c r), (works r m st working, within, by.0), by.1)
              )
        ]

    -- a call that is closed
    pub close_alike : (n : Machine B) → close s m ≡ Some n
        → (close s r ≡ Some (record r { sessions = n.sessions })) × (n ≡ record m { sessions = n.sessions })
    close_alike n h =
        let f = mapped (λ (x : Session B). with_session s x m) (closed_session (session_at s m.sessions)) n h in (
          ap (λ (o : Option (Session B)). option_map (λ (x : Session B). with_session s x r) o) (ap closed_session here ∙ f.1)
              ∙ ap (λ (xs : List (Session B)). Some (record r { sessions = slice_set xs (s - 1) f.0 })) (sym same)
              ∙ ap (λ (z : Machine B). Some (record r { sessions = z.sessions })) f.2,
          sym f.2 ∙ ap (λ (z : Machine B). record m { sessions = z.sessions }) f.2,
        )

    -- a commit that is sealed
    abbrev sealed_with : Machine B → List (Entry B) → Machine B
    sealed_with z set = record z {
      older = kept_sets z;
      latest = set;
      sessions = slice_set z.sessions (s - 1) (Committing (newest z + 1));
    }

    sealed_stands : (set : List (Entry B)) → StandsFor (sealed_with r set) (sealed_with m set)
    sealed_stands set =
        let a = st.rises in let b = st.within in let c = st.number in
        let less : m.oldest - r.oldest ≤ length r.older = omega arith in
        let grown : length (r.older ++ r.latest ∷ []) ≡ length r.older + 1 = length-append r.older (r.latest ∷ []) in
        let grown' : length (m.older ++ m.latest ∷ []) ≡ length m.older + 1 = length-append m.older (m.latest ∷ []) in
        record {
          rises = st.rises;
          within = omega arith;
          older = ap (λ (xs : List (List (Entry B))). xs ++ m.latest ∷ []) st.older
              ∙ ap (λ (x : List (Entry B)). drop (m.oldest - r.oldest) r.older ++ x ∷ []) st.latest
              ∙ sym (drop-append-le (m.oldest - r.oldest) r.older (r.latest ∷ []) less);
          latest = refl;
          number = omega arith;
          sessions = λ h. ap (λ (xs : List (Session B)). slice_set xs (s - 1) (Committing (newest m + 1))) same
              ∙ ap (λ (j : ℕ). slice_set r.sessions (s - 1) (Committing (j + 1))) st.number;
          failed = st.failed;
        }

    pub seal_alike : (n : Machine B) → seal k s m ≡ Some n → (end : Machine B) × (seal k s r ≡ Some end) × StandsFor end n
    seal_alike n h =
        let f = mapped (λ (set : List (Entry B)). sealed_with m set) (sealed_set k m.latest (session_at s m.sessions)) n h in (
          sealed_with r f.0,
          ap (λ (o : Option (List (Entry B))). option_map (λ (set : List (Entry B)). sealed_with r set) o)
              (ap (λ (xs : List (Entry B)). sealed_set k xs (session_at s r.sessions)) (sym st.latest) ∙ ap (λ (x : Session B). sealed_set k m.latest x) here ∙ f.1),
          subst (λ (z : Machine B). StandsFor (sealed_with r f.0) z) f.2 (sealed_stands f.0),
        )
