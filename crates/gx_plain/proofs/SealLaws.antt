-- Sealing and dropping at a place of the list are sealing and closing of the machine, and keep what is kept.
use Rattle.std.proofs.Common.{◌≡◌, ℕ, ◌+◌, ◌-◌, ◌<◌, ◌≤◌, Bool, true, false, cond, List, [], ◌∷◌, ◌++◌, length, slice_set, drop, refl, ap, sym, ◌∙◌, subst, arith}
use Rattle.std.specs.Prelude.{Option, None, Some, option_map, MatchOption, sum_by}
use Rattle.std.specs.List.{slice_index_or}
use Rattle.std.proofs.lemmas.List.{set-get_or, length-append, length-set, drop_all}
use Rattle.gx_machine.specs.declared.entry.Entry.{Entry}
use Rattle.gx_machine.specs.Keys.{Keys}
use Rattle.gx_machine.specs.Sets.{InOrder}
use Rattle.gx_machine.specs.Sessions.{Session, Idle, Open, Aborting, Committing, claims_of, sealed_set, closed_session}
use Rattle.gx_machine.specs.Machine.{Machine, newest, kept_sets, is_session, session_at, with_session, seal, durable}
use Rattle.gx_machine.specs.Runs.{Seals, Durable, IsRun}
use Rattle.gx_machine.proofs.StepEffects.{mapped}
use Rattle.gx_plain.specs.Index.{Index, SealsIndex, DropsIndex}
use Rattle.gx_plain.specs.Runs.{IsPlain}
use Rattle.gx_plain.specs.Kept.{IsKept}
use Rattle.gx_plain.specs.Slots.{CanAnswer, SlotSeals, NothingSealed, SlotDrops, added_by, opened_by}
use Rattle.gx_plain.proofs.IndexLaws.{index_with, kept_answer}

module _ {B : Type 0} (k : Keys B) where
  -- what sealing makes of the set that a session's commit adds
  abbrev seal_by : ℕ → Machine B → Option (List (Entry B)) → Option (Machine B)
  seal_by s m set =
      option_map (λ set. record m {
        older = kept_sets m;
        latest = set;
        sessions = slice_set m.sessions (s - 1) (Committing (newest m + 1));
      }) set

  abbrev close_by : ℕ → Machine B → Option (Session B) → Option (Machine B)
  close_by s m session = option_map (λ session. with_session s session m) session

  -- outside of the sessions there is nothing to seal or to close
  nobody : (s : ℕ) (sessions : List (Session B)) → is_session s ≡ false → session_at s sessions ≡ Idle
  nobody s sessions none = ap (λ (t : Bool). cond t (slice_index_or sessions (s - 1) Idle) Idle) none

  pub nothing_to_seal : (s : ℕ) (index : Index B) → is_session s ≡ false → SealsIndex k s index None index
  nothing_to_seal s index none =
      (ap (λ (x : Session B). seal_by s index.machine (sealed_set k index.machine.latest x)) (nobody s index.machine.sessions none), refl)

  pub nothing_to_drop : (s : ℕ) (index : Index B) → is_session s ≡ false → DropsIndex s index false index
  nothing_to_drop s index none = (ap (λ (x : Session B). close_by s index.machine (closed_session x)) (nobody s index.machine.sessions none), refl)

  module _ (s place : ℕ) (session : is_session s ≡ true) (at : place ≡ s - 1) (latest : List (Entry B)) (commits next : ℕ) (sessions : List (Session B))
      (latest' : List (Entry B)) (commits' : ℕ) (sessions' : List (Session B)) (x' : Session B) (changed : sessions' ≡ slice_set sessions place x') where
    abbrev old : Index B
    old = index_with k latest commits next sessions

    abbrev new : Index B
    new = index_with k latest' commits' next sessions'

    found_at : session_at s sessions ≡ slice_index_or sessions place Idle
    found_at =
        ap (λ (t : Bool). cond t (slice_index_or sessions (s - 1) Idle) Idle) session ∙ ap (λ (p : ℕ). slice_index_or sessions p Idle) (sym at)

    -- the sessions, if the one at the place is unchanged
    same_sessions : x' ≡ slice_index_or sessions place Idle → sessions' ≡ sessions
    same_sessions same = changed ∙ ap (slice_set sessions place) same ∙ set-get_or sessions place Idle

    sealed_by : sealed_set k latest (session_at s sessions) ≡ sealed_set k latest (slice_index_or sessions place Idle)
    sealed_by = ap (sealed_set k latest) found_at

    none_sealed : NothingSealed k (slice_index_or sessions place Idle) latest commits x' latest' commits' → SealsIndex k s old None new
    none_sealed n = (
      ap (seal_by s old.machine) (sealed_by ∙ n.none),
      λ i. index_with k (n.latest_is i) (n.commits_is i) next (same_sessions n.session i),
    )

    none_before : drop (commits + 1 - commits) (latest ∷ []) ≡ []
    none_before = ap (λ (n : ℕ). drop n (latest ∷ [])) one
      where
        one : commits + 1 - commits ≡ 1
        one = omega arith

    next_number : commits + 0 + 1 ≡ commits + 1
    next_number = omega arith

    some_sealed : (number : ℕ) → SlotSeals k (slice_index_or sessions place Idle) latest commits x' latest' commits' number → SealsIndex k s old (Some number) new
    some_sealed number n =
        let commits_are : commits + 1 ≡ commits' = sym (n.commits_is ∙ n.number_is) in
        let waits : Committing (commits + 0 + 1) ≡ x' = ap Committing (next_number ∙ sym n.number_is) ∙ sym n.session in
        let sessions_are : slice_set sessions (s - 1) (Committing (commits + 0 + 1)) ≡ sessions' =
        (λ i. slice_set sessions (sym at i) (waits i)) ∙ sym changed in (
          ap (λ (o : Option (List (Entry B))). option_map (λ sealed. durable (newest sealed) sealed) (seal_by s old.machine o)) (sealed_by ∙ n.set)
              ∙ (λ i. Some (record { older = none_before i; latest = latest'; oldest = commits_are i; sessions = sessions_are i; failed = false })),
          n.number_is ∙ sym next_number,
          refl,
        )

    pub seals : (result : Option ℕ) → MatchOption result (NothingSealed k (slice_index_or sessions place Idle) latest commits x' latest' commits')
        (SlotSeals k (slice_index_or sessions place Idle) latest commits x' latest' commits') → SealsIndex k s old result new
    seals None h = none_sealed h
    seals (Some number) h = some_sealed number h

    pub drops : (b : Bool) → latest' ≡ latest → commits' ≡ commits → SlotDrops (slice_index_or sessions place Idle) b x' → DropsIndex s old b new
    drops true le ce d = (
      ap (close_by s old.machine) (ap closed_session found_at ∙ d)
          ∙ (λ i. Some (record { older = []; latest = sym le i; oldest = sym ce i; sessions = closed i; failed = false })),
      refl,
    )
      where
        closed : slice_set sessions (s - 1) x' ≡ sessions'
        closed = (λ i. slice_set sessions (sym at i) x') ∙ sym changed
    drops false le ce d = (
      ap (close_by s old.machine) (ap closed_session found_at ∙ d.0),
      λ i. index_with k (le i) (ce i) next (same_sessions d.1 i),
    )

  -- a session that was sealed, or whose call was dropped, is still one that is answered

  sealed_can : (x x' : Session B) (latest latest' : List (Entry B)) (commits commits' : ℕ) (result : Option ℕ)
      → MatchOption result (NothingSealed k x latest commits x' latest' commits') (SlotSeals k x latest commits x' latest' commits')
      → CanAnswer commits x → CanAnswer commits' x' × (commits ≤ commits')
  sealed_can x x' latest latest' commits commits' None h can = (
    subst (λ (n : ℕ). CanAnswer n x') (sym h.commits_is) (subst (CanAnswer commits) (sym h.session) can),
    (let same = h.commits_is in omega (arith, same)),
  )
  sealed_can x x' latest latest' commits commits' (Some number) h can = (
    subst (CanAnswer commits') (sym h.session) (let same = h.commits_is in omega (arith, same)),
    (let same = h.commits_is in let more = h.number_is in omega (arith, same, more)),
  )

  dropped_can : (commits : ℕ) (x x' : Session B) (b : Bool) → SlotDrops x b x' → CanAnswer commits x → CanAnswer commits x'
  dropped_can commits Idle x' true d can = let no : ⊥ = cc in absurd no
  dropped_can commits (Open locks changes None) x' true d can = let no : ⊥ = cc in absurd no
  dropped_can commits (Open locks changes (Some call)) x' true d can =
      let is : Open locks changes None ≡ x' = cc in subst (CanAnswer commits) is tt
  dropped_can commits (Aborting locks) x' true d can = let no : ⊥ = cc in absurd no
  dropped_can commits (Committing number) x' true d can = let no : ⊥ = cc in absurd no
  dropped_can commits x x' false d can = subst (CanAnswer commits) (sym d.1) can

  -- what is kept stays kept

  pub kept_seal : (latest : List (Entry B)) (capacity commits next : ℕ) (sessions : List (Session B)) → IsKept k latest capacity commits next sessions
      → (place : ℕ) → place < 8 → (x' : Session B) (latest' : List (Entry B)) (capacity' commits' : ℕ) (sessions' : List (Session B)) (result : Option ℕ)
      → sessions' ≡ slice_set sessions place x'
      → MatchOption result (NothingSealed k (slice_index_or sessions place Idle) latest commits x' latest' commits')
      (SlotSeals k (slice_index_or sessions place Idle) latest commits x' latest' commits')
      → length latest' + added_by x' ≤ length latest + added_by (slice_index_or sessions place Idle) → capacity ≤ capacity'
      → commits' + opened_by x' ≤ commits + opened_by (slice_index_or sessions place Idle)
      → claims_of x' ≤ claims_of (slice_index_or sessions place Idle) → InOrder k latest' → IsKept k latest' capacity' commits' next sessions'
  kept_seal latest capacity commits next sessions kept place within x' latest' capacity' commits' sessions' result set_is h room grows opened claims in_order =
      let can = sealed_can (slice_index_or sessions place Idle) x' latest latest' commits commits' result h (kept.answerable place) in
      kept_answer k latest capacity commits next sessions kept place within x' latest' capacity' commits' (sum_by added_by sessions) sessions' sessions set_is refl refl
      (omega (arith, room, grows, kept.room)) opened claims can.0 can.1 in_order

  pub kept_drop : (latest : List (Entry B)) (capacity commits next : ℕ) (sessions : List (Session B)) → IsKept k latest capacity commits next sessions
      → (place : ℕ) → place < 8 → (x' : Session B) (sessions' : List (Session B)) (b : Bool) → sessions' ≡ slice_set sessions place x'
      → SlotDrops (slice_index_or sessions place Idle) b x'
      → added_by x' ≡ added_by (slice_index_or sessions place Idle) → opened_by x' ≡ opened_by (slice_index_or sessions place Idle)
      → claims_of x' ≡ claims_of (slice_index_or sessions place Idle) → IsKept k latest capacity commits next sessions'
  kept_drop latest capacity commits next sessions kept place within x' sessions' b set_is d added opened claims =
      kept_answer k latest capacity commits next sessions kept place within x' latest capacity commits (sum_by added_by sessions) sessions' sessions set_is refl refl
      (omega (arith, added, kept.room)) (omega (arith, opened)) (omega (arith, claims)) (dropped_can commits (slice_index_or sessions place Idle) x' b d (kept.answerable place))
      (omega arith) kept.in_order

  -- ---- sealing is a run, and so is dropping

  -- the machine once it is sealed with this set
  abbrev sealed_with : ℕ → Machine B → List (Entry B) → Machine B
  sealed_with s m set = record m { older = kept_sets m; latest = set; sessions = slice_set m.sessions (s - 1) (Committing (newest m + 1)) }

  newest_sealed : (s : ℕ) (m : Machine B) (set : List (Entry B)) → newest (sealed_with s m set) ≡ newest m + 1
  newest_sealed s m set = let long = length-append m.older (m.latest ∷ []) in omega (arith, long)

  -- a seal, and that it is durable then
  record IsSealedOnce (s number : ℕ) (old new : Index B) : Type 0 where
    set : List (Entry B)
    sealed : seal k s old.machine ≡ Some (sealed_with s old.machine set)
    low : old.machine.oldest ≤ number
    high : number ≤ newest (sealed_with s old.machine set)
    durably : new.machine ≡ durable number (sealed_with s old.machine set)

  sealed_once : (s number : ℕ) (old new : Index B) → SealsIndex k s old (Some number) new → IsSealedOnce s number old new
  sealed_once s number old new h =
      let m = old.machine in
      let f = mapped (λ sealed. durable (newest sealed) sealed) (seal k s m) new.machine h.0 in
      let g = mapped (sealed_with s m) (sealed_set k m.latest (session_at s m.sessions)) f.0 f.1 in
      let grown : newest (sealed_with s m g.0) ≡ newest m + 1 = newest_sealed s m g.0 in
      let number_is : number ≡ newest m + 1 = h.1 in
      record {
        set = g.0;
        sealed = f.1 ∙ ap Some (sym g.2);
        low = omega arith;
        high = omega arith;
        durably = sym f.2 ∙ ap (λ (n : Machine B). durable (newest n) n) (sym g.2) ∙ ap (λ (n : ℕ). durable n (sealed_with s m g.0)) (grown ∙ sym number_is);
      }

  pub sealed_run : (s number : ℕ) (old new : Index B) → IsPlain old → SealsIndex k s old (Some number) new
      → IsRun k old.machine (Seals s number ∷ Durable number ∷ []) new.machine
  sealed_run s number old new plain h =
      let once = sealed_once s number old new h in (
        sealed_with s old.machine once.set,
        (plain.runs, h.1, once.sealed),
        (new.machine, (plain.runs, once.low, once.high, once.durably), refl),
      )

  pub sealed_plain : (s number : ℕ) (old new : Index B) → IsPlain old → SealsIndex k s old (Some number) new → IsPlain new
  sealed_plain s number old new plain h =
      let once = sealed_once s number old new h in
      let m = old.machine in
      let long : length (m.older ++ m.latest ∷ []) ≡ length m.older + 1 = length-append m.older (m.latest ∷ []) in
      let number_is : number ≡ newest m + 1 = h.1 in
      let all : length (m.older ++ m.latest ∷ []) ≤ number - m.oldest = omega arith in
      record {
        eight = ap (λ (n : Machine B). length n.sessions) once.durably ∙ length-set m.sessions (s - 1) (Committing (newest m + 1)) ∙ plain.eight;
        durable = ap (λ (n : Machine B). n.older) once.durably ∙ drop_all (number - m.oldest) (m.older ++ m.latest ∷ []) all;
        runs = ap (λ (n : Machine B). n.failed) once.durably ∙ plain.runs;
      }

-- dropping keeps an index plain
pub dropped_plain : {B : Type 0} (s : ℕ) (old new : Index B) → IsPlain old → DropsIndex s old true new → IsPlain new
dropped_plain {B = B} s old new plain h =
    let m = old.machine in
    let f = mapped (λ session. with_session s session m) (closed_session (session_at s m.sessions)) new.machine h.0 in
    record {
      eight = ap (λ (n : Machine B). length n.sessions) (sym f.2) ∙ length-set m.sessions (s - 1) f.0 ∙ plain.eight;
      durable = ap (λ (n : Machine B). n.older) (sym f.2) ∙ plain.durable;
      runs = ap (λ (n : Machine B). n.failed) (sym f.2) ∙ plain.runs;
    }
