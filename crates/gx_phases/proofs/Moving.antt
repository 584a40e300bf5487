-- What is kept of the sessions stays kept by each move. The state is given twice: by its parts, and as contracts see it.
use Rattle.std.proofs.Common.{◌≡◌, ℕ, ◌+◌, ◌-◌, ◌≤◌, Bool, true, List, Some, refl, ap, sym, ◌∙◌, arith, subst}
use Rattle.std.specs.Prelude.{sum_by}
use Rattle.std.proofs.lemmas.List.Sums.{get_or-le-sum_by}
use Rattle.gx_machine.specs.declared.entry.Entry.{Entry}
use Rattle.gx_machine.specs.declared.call.Call.{Call}
use Rattle.gx_machine.specs.declared.call.Call.TheVariants.{Begin, Insert, Delete, Search, Commit, Abort}
use Rattle.gx_machine.specs.Keys.{Keys, IsLawful}
use Rattle.gx_machine.specs.Machine.{is_session}
use Rattle.gx_machine.specs.Sets.{InOrder}
use Rattle.gx_machine.proofs.SetLaws.{in_order_including}
use Rattle.gx_txn.specs.declared.note.Note as txn
use Rattle.gx_txn.specs.Notes.{entries_of, noting}
use Rattle.gx_txn.specs.Tables.{Held, nothing_held, held_by, with_held, with_notes, claims}
use Rattle.gx_txn.proofs.Noted.{entries_of-noting}
use Rattle.gx_phases.specs.declared.phase.Phase.{Phase}
use Rattle.gx_phases.specs.declared.phase.Phase.TheVariants as phase
use Rattle.gx_phases.specs.States.{State, phase_at, held_at, with_phase, HoldsNothing, ClaimsItsEntry, may_commit, IsPlaced, IsKept, WaitsForSealed}
use Rattle.gx_phases.specs.Moves.{is_open, asks_commit, WritesEntry, HasWrite, MovedIn, moved, waits_for, with_work, covered}
use Rattle.gx_phases.proofs.Moved.{set_map}
use Rattle.gx_phases.proofs.Keeping.{low, kept_with, kept_session, no_wait, same_session, numbers_left}

module _ {B W : Type 0} where
  open_commits : (p : Phase B W) → is_open p ≡ true → may_commit p ≡ 1
  open_commits phase.Free is = let no : ⊥ = cc in absurd no
  open_commits phase.Working is = refl
  open_commits (phase.Open call work) is = refl
  open_commits (phase.Undoing restored work) is = let no : ⊥ = cc in absurd no
  open_commits (phase.Waiting number) is = let no : ⊥ = cc in absurd no

  commit_commits : (p : Phase B W) → asks_commit p ≡ true → may_commit p ≡ 1
  commit_commits phase.Free is = let no : ⊥ = cc in absurd no
  commit_commits phase.Working is = refl
  commit_commits (phase.Open call work) is = refl
  commit_commits (phase.Undoing restored work) is = let no : ⊥ = cc in absurd no
  commit_commits (phase.Waiting number) is = let no : ⊥ = cc in absurd no

  write_commits : (e : Entry B) (p : Phase B W) → HasWrite e p → may_commit p ≡ 1
  write_commits e phase.Free is = absurd is
  write_commits e phase.Working is = refl
  write_commits e (phase.Open call work) is = refl
  write_commits e (phase.Undoing restored work) is = absurd is
  write_commits e (phase.Waiting number) is = absurd is

  module _ (k : Keys B) where
    entry_claimed : (e : Entry B) (call : Call B) (work : W) (h : Held B) → WritesEntry e call → ClaimsItsEntry k (phase.Open call work) h → claims k e h ≡ true
    entry_claimed e Begin work h is c = absurd is
    entry_claimed e (Insert x) work h is c = ap (λ (y : Entry B). claims k y h) (sym is) ∙ c
    entry_claimed e (Delete x) work h is c = ap (λ (y : Entry B). claims k y h) (sym is) ∙ c
    entry_claimed e (Search q) work h is c = absurd is
    entry_claimed e Commit work h is c = absurd is
    entry_claimed e Abort work h is c = absurd is

    write_claimed : (e : Entry B) (p : Phase B W) (h : Held B) → HasWrite e p → ClaimsItsEntry k p h → claims k e h ≡ true
    write_claimed e phase.Free h is c = absurd is
    write_claimed e phase.Working h is c = absurd is
    write_claimed e (phase.Open call work) h is c = entry_claimed e call work h is c
    write_claimed e (phase.Undoing restored work) h is c = absurd is
    write_claimed e (phase.Waiting number) h is c = absurd is

    -- with other work
    work_placed : (work : W) (p : Phase B W) (h : Held B) → IsPlaced k p h → IsPlaced k (with_work work p).1 h
    work_placed work phase.Free h is = is
    work_placed work phase.Working h is = is
    work_placed work (phase.Open call before) h is = record { nothing = tt; claimed = is.claimed; in_order = is.in_order }
    work_placed work (phase.Undoing restored before) h is = record { nothing = tt; claimed = tt; in_order = is.in_order }
    work_placed work (phase.Waiting number) h is = is

  work_commits : (work : W) (p : Phase B W) → may_commit (with_work work p).1 ≡ may_commit p
  work_commits work phase.Free = refl
  work_commits work phase.Working = refl
  work_commits work (phase.Open call before) = refl
  work_commits work (phase.Undoing restored before) = refl
  work_commits work (phase.Waiting number) = refl

  -- other work is no wait
  work_sealed : (latest : ℕ) (work : W) (p : Phase B W) → WaitsForSealed latest p → WaitsForSealed latest (with_work work p).1
  work_sealed latest work phase.Free sealed = sealed
  work_sealed latest work phase.Working sealed = sealed
  work_sealed latest work (phase.Open call before) sealed = no_wait latest (phase.Open call work) refl
  work_sealed latest work (phase.Undoing restored before) sealed = no_wait latest (phase.Undoing restored work) refl
  work_sealed latest work (phase.Waiting number) sealed = sealed

  -- a session that waits holds nothing
  waiting_nothing : (p : Phase B W) (number durable : ℕ) (h : Held B) → covered durable (waits_for p) ≡ Some number → HoldsNothing p h → h ≡ nothing_held
  waiting_nothing phase.Free number durable h is n = n
  waiting_nothing phase.Working number durable h is n = let no : ⊥ = cc in absurd no
  waiting_nothing (phase.Open call work) number durable h is n = let no : ⊥ = cc in absurd no
  waiting_nothing (phase.Undoing restored work) number durable h is n = let no : ⊥ = cc in absurd no
  waiting_nothing (phase.Waiting at) number durable h is n = n

module _ {B W : Type 0} (k : Keys B) (old now : State B W) (same : old ≡ now) (kept : IsKept k old) (s : ℕ) (is : is_session s ≡ true) where
  abbrev p : Phase B W
  p = phase_at (s - 1) old.phases

  abbrev h : Held B
  h = held_at (s - 1) old.table

  was : IsPlaced k p h
  was = kept.placed (s - 1) (low k old kept s is)

  test_old : (f : Phase B W → Bool) → f (phase_at (s - 1) now.phases) ≡ true → f p ≡ true
  test_old f it = ap (λ (x : State B W). f (phase_at (s - 1) x.phases)) same ∙ it

  -- a session that holds what it did is in another phase
  phase_kept : (phases' : List (Phase B W)) (q : Phase B W) → phases' ≡ with_phase s q old.phases → IsPlaced k q h → may_commit q ≤ may_commit p
      → WaitsForSealed old.latest q → IsKept k (record old { phases = phases' })
  phase_kept phases' q changed placed fewer waits =
      kept_session k old kept s is (record old { phases = phases' }) q h
      ((λ i. record old { phases = changed i }) ∙ same_session k old kept s is q) placed fewer waits

  pub work_kept : (phases' : List (Phase B W)) (work : W) → phases' ≡ with_phase s (with_work work p).1 old.phases → IsKept k (record old { phases = phases' })
  work_kept phases' work changed =
      phase_kept phases' (with_work work p).1 changed (work_placed k work p h was) (omega (arith, work_commits work p))
      (work_sealed old.latest work p (kept.sealed (s - 1)))

  pub answer_kept : (phases' : List (Phase B W)) → phases' ≡ with_phase s phase.Working old.phases → is_open (phase_at (s - 1) now.phases) ≡ true
      → IsKept k (record old { phases = phases' })
  answer_kept phases' changed open_now =
      phase_kept phases' phase.Working changed (record { nothing = tt; claimed = tt; in_order = was.in_order })
      (omega (arith, open_commits p (test_old (λ (x : Phase B W). is_open x) open_now))) (no_wait old.latest phase.Working refl)

  module _ (e : Entry B) (writes : HasWrite e (phase_at (s - 1) now.phases)) where
    writes_old : HasWrite e p
    writes_old = subst (λ (x : State B W). HasWrite e (phase_at (s - 1) x.phases)) (sym same) writes

    -- an open write claims its entry
    pub claims_it : claims k e (held_by s old.table) ≡ true
    claims_it = write_claimed k e p h writes_old was.claimed

    pub note_kept : IsLawful k → (n : txn.Note B) (phases' : List (Phase B W)) (table' : List (Held B)) → n.entry ≡ e → phases' ≡ with_phase s phase.Working old.phases
        → table' ≡ with_held s (with_notes (noting k n (held_by s old.table).notes) (held_by s old.table)) old.table
        → IsKept k (record old { phases = phases'; table = table' })
    note_kept l n phases' table' of_it changed noted =
        kept_session k old kept s is (record old { phases = phases'; table = table' }) phase.Working (with_notes (noting k n h.notes) h)
        (λ i. record old { phases = changed i; table = noted i })
        (record {
          nothing = tt;
          claimed = tt;
          in_order = subst (InOrder k) (sym (entries_of-noting k n h.notes)) (in_order_including k l n.entry (entries_of h.notes) was.in_order);
        })
        (omega (arith, write_commits e p writes_old)) (no_wait old.latest phase.Working refl)

  module _ (commit : asks_commit (phase_at (s - 1) now.phases) ≡ true) where
    one : may_commit p ≡ 1
    one = commit_commits p (test_old (λ (x : Phase B W). asks_commit x) commit)

    pub latest_small : old.latest + 1 ≤ 18446744073709551615
    latest_small =
        let most : may_commit p ≤ sum_by may_commit old.phases =
        get_or-le-sum_by may_commit old.phases (s - 1) phase.Free (omega (arith, kept.phases, low k old kept s is)) in
        omega (arith, one, most, kept.numbers)

    pub seal_kept : (phases' : List (Phase B W)) (table' : List (Held B)) → phases' ≡ with_phase s (phase.Waiting (old.latest + 1)) old.phases
        → table' ≡ with_held s nothing_held old.table → IsKept k (record old { phases = phases'; table = table'; latest = old.latest + 1 })
    seal_kept phases' table' changed freed =
        kept_with k old kept s is (record old { phases = phases'; table = table'; latest = old.latest + 1 }) (phase.Waiting (old.latest + 1)) nothing_held
        changed freed kept.transactions (record { nothing = refl; claimed = tt; in_order = tt })
        (numbers_left old.phases phases' (s - 1) (phase.Waiting (old.latest + 1)) old.latest (old.latest + 1) kept.phases (low k old kept s is) changed kept.numbers
        (omega (arith, one)))
        (omega (arith, kept.durable)) (omega arith) (λ number is. (let same : old.latest + 1 ≡ number = cc in omega (arith, same)))

  pub acknowledge_kept : (phases' : List (Phase B W)) (number : ℕ) → phases' ≡ with_phase s phase.Free old.phases
      → covered now.durable (waits_for (phase_at (s - 1) now.phases)) ≡ Some number → IsKept k (record old { phases = phases' })
  acknowledge_kept phases' number changed covers =
      let covers_old : covered old.durable (waits_for p) ≡ Some number =
      ap (λ (x : State B W). covered x.durable (waits_for (phase_at (s - 1) x.phases))) same ∙ covers in
      phase_kept phases' phase.Free changed
      (record { nothing = waiting_nothing p number old.durable h covers_old was.nothing; claimed = tt; in_order = was.in_order }) (omega arith)
      (no_wait old.latest phase.Free refl)

  pub restored_kept : (phases' : List (Phase B W)) (table' : List (Held B)) (restored leaf : ℕ) (work : W) → phases' ≡ with_phase s (phase.Undoing (restored + 1) work) old.phases
      → MovedIn s restored leaf old.table table' → IsKept k (record old { phases = phases'; table = table' })
  restored_kept phases' table' restored leaf work changed written =
      let n : txn.Note B = written.0 in
      kept_session k old kept s is (record old { phases = phases'; table = table' }) (phase.Undoing (restored + 1) work) (with_notes (moved restored n leaf h.notes) h)
      (λ i. record old { phases = changed i; table = written.2 i })
      (record {
        nothing = tt;
        claimed = tt;
        in_order = subst (InOrder k) (sym (set_map (λ (x : txn.Note B). x.entry) h.notes restored n (record n { leaf = leaf }) written.1 refl)) was.in_order;
      })
      (omega arith) (no_wait old.latest (phase.Undoing (restored + 1) work) refl)

  pub end_kept : (phases' : List (Phase B W)) (table' : List (Held B)) → phases' ≡ with_phase s phase.Free old.phases
      → table' ≡ with_held s nothing_held old.table → IsKept k (record old { phases = phases'; table = table' })
  end_kept phases' table' changed freed =
      kept_session k old kept s is (record old { phases = phases'; table = table' }) phase.Free nothing_held
      (λ i. record old { phases = changed i; table = freed i })
      (record { nothing = refl; claimed = tt; in_order = tt }) (omega arith) (no_wait old.latest phase.Free refl)
