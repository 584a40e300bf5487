-- The notes of sessions and the touches of the log: how they stay the same.
use Rattle.std.proofs.Common.{◌≡◌, ◌≢◌, ◌∙◌, sym, ap, refl, subst, ℕ, ◌-◌, ◌<◌, Bool, true, false, not, ◌&&◌, cond, List, [], ◌∷◌, map, arith}
use Rattle.std.specs.Prelude.{◌==◌}
use Rattle.std.proofs.lemmas.Bool.{and_from, eqb-true, ne_eqb, or_parts}
use Rattle.std.proofs.lemmas.List.{get_or-set_other, get_or-set_same}
use Rattle.gx_machine.specs.declared.entry.Entry.{Entry}
use Rattle.gx_machine.specs.Machine.{is_session}
use Rattle.gx_machine.specs.Keys.{Keys}
use Rattle.gx_machine.proofs.Places.{session_bounds}
use Rattle.gx_recovery.specs.Records.{Touch}
use Rattle.gx_recovery.specs.Analysis.{lists, without}
use Rattle.gx_recovery.specs.Known.{Known, same}
use Rattle.gx_index_laws.specs.Whole.{is_busy}
use Rattle.gx_txn.specs.declared.note.Note.{Note}
use Rattle.gx_txn.specs.Tables.{Held, with_held}
use Rattle.gx_phases.specs.declared.phase.Phase.{Phase}
use Rattle.gx_phases.specs.declared.phase.Phase.TheVariants as phase
use Rattle.gx_phases.specs.Moves.{transaction_of}
use Rattle.gx_phases.specs.States.{State, HoldsNothing, IsKept, held_at, phase_at, slot_of, with_phase, with_phase_of, with_session, with_transaction}
use Rattle.gx_phases.proofs.Slots.{placed_set}
use Rattle.gx_engine.specs.Noted.{AreTold, has_transaction, touch_by, touched_by}
use Rattle.gx_engine.proofs.Serving.{held_as_it_is}

-- One session has changed, of which this is known; what the transactions of the others have touched is the same.
module _ {B W : Type 0} (k : Keys B) (old new : State B W) (xs ys : List (Touch (Entry B))) (kept : IsKept k old) (s : ℕ) (is : is_session s ≡ true) (p : Phase B W) (h : Held B)
    (phases : new.phases ≡ with_phase s p old.phases) (table : new.table ≡ with_held s h old.table)
    (others : (a : ℕ) → is_session a ≡ true → a ≢ s → has_transaction (phase_at (a - 1) old.phases) ≡ true → touched_by (transaction_of a new) ys ≡ touched_by (transaction_of a old) xs)
    (same : (a : ℕ) → is_session a ≡ true → a ≢ s → transaction_of a new ≡ transaction_of a old) where
  pub told_set : (has_transaction p ≡ true → touched_by (transaction_of s new) ys ≡ map (touch_by (transaction_of s new)) h.notes) → AreTold old xs → AreTold new ys
  told_set own told a there =
      let mine : (0 < s) × (s < 9) = session_bounds s is in
      let its : (0 < a) × (a < 9) = session_bounds a there in
      let P : Phase B W → Held B → Type 0 = λ q g. has_transaction q ≡ true → touched_by (transaction_of a new) ys ≡ map (touch_by (transaction_of a new)) g.notes in
      subst (λ (ps : List (Phase B W)). P (phase_at (a - 1) ps) (held_at (a - 1) new.table)) (sym phases)
      (subst (λ (hs : List (Held B)). P (phase_at (a - 1) (with_phase s p old.phases)) (held_at (a - 1) hs)) (sym table)
      (placed_set P old.phases old.table (s - 1) (a - 1) p h (omega (arith, kept.phases, mine.0, mine.1)) (omega (arith, kept.table, mine.0, mine.1))
      (λ e busy. let one : a ≡ s = omega (arith, e, mine.0, its.0) in
      subst (λ (n : ℕ). touched_by (transaction_of n new) ys ≡ map (touch_by (transaction_of n new)) h.notes) (sym one) (own busy))
      (λ ne busy. let apart : a ≢ s = λ one. ne (ap (λ n. n - 1) one) in
      others a there apart busy ∙ told a there busy ∙ ap (λ (t : ℕ). map (touch_by t) (held_at (a - 1) old.table).notes) (sym (same a there apart)))))

-- a transaction that ends leaves what the others have touched
without_by : {E : Type 0} (t u : ℕ) (x : Touch E) (xs : List (Touch E)) (b : Bool) → (x.transaction == t) ≡ b → u ≢ t → touched_by u (without t xs) ≡ touched_by u xs
    → touched_by u (cond (not b) (x ∷ without t xs) (without t xs)) ≡ touched_by u (x ∷ xs)
without_by {E} t u x xs true is ne rest =
    let other : (x.transaction == u) ≡ false = ne_eqb x.transaction u (λ same. ne (sym same ∙ eqb-true x.transaction t is)) in
    rest ∙ sym (ap (λ (b : Bool). cond b (x ∷ touched_by u xs) (touched_by u xs)) other)
without_by {E} t u x xs false is ne rest = ap (λ (ys : List (Touch E)). cond (x.transaction == u) (x ∷ ys) ys) rest

pub without_others : {E : Type 0} (t u : ℕ) (xs : List (Touch E)) → u ≢ t → touched_by u (without t xs) ≡ touched_by u xs
without_others t u [] ne = refl
without_others t u (x ∷ xs) ne = without_by t u x xs (x.transaction == t) refl ne (without_others t u xs ne)

-- a slot of a phase with a transaction has one
pub busy_slot : {B W : Type 0} (p : Phase B W) (h : Held B) → has_transaction p ≡ true → is_busy (slot_of p h) ≡ true
busy_slot phase.Free h busy = busy
busy_slot phase.Working h busy = busy
busy_slot (phase.Open call work) h busy = busy
busy_slot (phase.Undoing restored work) h busy = busy
busy_slot (phase.Waiting number) h busy = busy

-- One session is at another phase, and has the notes that it had.
module _ {B W : Type 0} (k : Keys B) (old : State B W) (kept : IsKept k old) (s : ℕ) (is : is_session s ≡ true) (xs : List (Touch (Entry B))) (p : Phase B W)
    (had : has_transaction p ≡ true → has_transaction (phase_at (s - 1) old.phases) ≡ true) (told : AreTold old xs) where
  pub told_session : (h : Held B) → h.notes ≡ (held_at (s - 1) old.table).notes → AreTold (with_session s p h old) xs
  told_session h same =
      told_set k old (with_session s p h old) xs xs kept s is p h refl refl (λ a there ne busy. refl) (λ a there ne. refl)
      (λ busy. told s is (had busy) ∙ ap (λ (ns : List (Note B)). map (touch_by (transaction_of s old)) ns) (sym same)) told

  pub told_phase : AreTold (with_phase_of s p old) xs
  told_phase =
      told_set k old (with_phase_of s p old) xs xs kept s is p (held_at (s - 1) old.table) refl (held_as_it_is s old.table) (λ a there ne busy. refl) (λ a there ne. refl)
      (λ busy. told s is (had busy)) told

-- what a transaction that a log doesn't name has touched: nothing
module _ {E P : Type 0} (k : Known E P) (itself : (e : E) → same k e e ≡ true) (t : ℕ) where
  none_by : (x : Touch E) (xs : List (Touch E)) (b : Bool) → (x.transaction == t) ≡ b → lists k t x.entry (x ∷ xs) ≡ false → touched_by t xs ≡ [] → touched_by t (x ∷ xs) ≡ []
  none_by x xs true is none rest =
      let here : (x.transaction == t && same k x.entry x.entry) ≡ true = and_from (x.transaction == t) (same k x.entry x.entry) is (itself x.entry) in
      absurd (let never : true ≡ false = sym here ∙ (or_parts (x.transaction == t && same k x.entry x.entry) (lists k t x.entry xs) none).0 in cc)
  none_by x xs false is none rest = ap (λ b. cond b (x ∷ touched_by t xs) (touched_by t xs)) is ∙ rest

  pub none_touched : (xs : List (Touch E)) → ((e : E) → lists k t e xs ≡ false) → touched_by t xs ≡ []
  none_touched [] none = refl
  none_touched (x ∷ xs) none =
      none_by x xs (x.transaction == t) refl (none x.entry)
      (none_touched xs (λ e. (or_parts (x.transaction == t && same k e x.entry) (lists k t e xs) (none e)).1))

-- a session begins a transaction that has touched nothing, and has noted nothing
pub told_begun : {B W : Type 0} (k : Keys B) (old : State B W) → IsKept k old → (s : ℕ) → is_session s ≡ true → phase_at (s - 1) old.phases ≡ phase.Free
    → (xs : List (Touch (Entry B))) → touched_by old.next xs ≡ [] → AreTold old xs → AreTold (with_transaction s old) xs
told_begun {B} {W} k old kept s is free xs none told =
    let mine : (0 < s) × (s < 9) = session_bounds s is in
    let new : State B W = with_transaction s old in
    let its : transaction_of s new ≡ old.next = get_or-set_same old.transactions (s - 1) old.next 0 (omega (arith, kept.transactions, mine.0, mine.1)) in
    let empty : (held_at (s - 1) old.table).notes ≡ [] =
    ap (λ (h : Held B). h.notes)
    (subst (λ (p : Phase B W). HoldsNothing p (held_at (s - 1) old.table)) free (kept.placed (s - 1) (omega (arith, mine.0, mine.1))).nothing) in
    let other : (a : ℕ) → is_session a ≡ true → a ≢ s → transaction_of a new ≡ transaction_of a old =
    λ a there ne. get_or-set_other old.transactions (s - 1) (a - 1) old.next 0 (λ same. ne (let at = session_bounds a there in omega (arith, same, at.0, mine.0))) in
    told_set k old new xs xs kept s is phase.Working (held_at (s - 1) old.table) refl (held_as_it_is s old.table)
    (λ a there ne busy. ap (λ (t : ℕ). touched_by t xs) (other a there ne)) other
    (λ busy. ap (λ (t : ℕ). touched_by t xs) its ∙ none ∙ sym (ap (λ (ns : List (Note B)). map (touch_by (transaction_of s new)) ns) empty)) told
