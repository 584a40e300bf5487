-- Slots by place: how far a session is, with what it holds.
use Rattle.std.proofs.Common.{◌≡◌, ◌≢◌, ℕ, zero, suc, ◌-◌, ◌<◌, Bool, true, List, [], ◌∷◌, length, map, refl, ap, sym, ◌∙◌, arith, get_or-set_same, get_or-set_other, subst}
use Rattle.std.specs.Prelude.{if◌then◌else◌, slice_set}
use Rattle.std.specs.List.{slice_index_or}
use Rattle.std.proofs.Math.Decide.{ℕ_discrete}
use Rattle.gx_machine.specs.Machine.{is_session}
use Rattle.gx_machine.specs.Sessions.{locks_of}
use Rattle.gx_machine.specs.declared.entry.Entry.{Entry}
use Rattle.gx_machine.specs.Keys.{Keys}
use Rattle.gx_txn.specs.Tables.{Held, nothing_held}
use Rattle.gx_events.specs.Slots as slots
use Rattle.gx_events.specs.Slots.{Slot, slot_at}
use Rattle.gx_events.specs.Engines.{session_of, sessions_of}
use Rattle.gx_phases.specs.declared.phase.Phase.{Phase}
use Rattle.gx_phases.specs.declared.phase.Phase.TheVariants as phase
use Rattle.gx_phases.specs.States.{slot_of, slots_of, phase_at, held_at, HoldsNothing}

abbrev place : {B : Type 0} → Bool → ℕ → List (Slot B) → Slot B
place there s all = if there then slice_index_or all (s - 1) slots.Free else slots.Free

module _ {B W : Type 0} where
  pub slots_at : (phases : List (Phase B W)) (table : List (Held B)) (i : ℕ) → length phases ≡ length table
      → slice_index_or (slots_of phases table) i slots.Free ≡ slot_of (phase_at i phases) (held_at i table)
  slots_at [] [] i same = refl
  slots_at [] (h ∷ hs) i same = absurd (omega arith)
  slots_at (p ∷ ps) [] i same = absurd (omega arith)
  slots_at (p ∷ ps) (h ∷ hs) zero same = refl
  slots_at (p ∷ ps) (h ∷ hs) (suc i) same = slots_at ps hs i (omega arith)

  pub length-slots : (phases : List (Phase B W)) (table : List (Held B)) → length phases ≡ length table → length (slots_of phases table) ≡ length phases
  length-slots [] table same = refl
  length-slots (p ∷ ps) [] same = absurd (omega arith)
  length-slots (p ∷ ps) (h ∷ hs) same = ap suc (length-slots ps hs (omega arith))

  -- one session changed
  pub slots_set : (phases : List (Phase B W)) (table : List (Held B)) (i : ℕ) (p : Phase B W) (h : Held B) → length phases ≡ length table
      → slots_of (slice_set phases i p) (slice_set table i h) ≡ slice_set (slots_of phases table) i (slot_of p h)
  slots_set [] table i p h same = refl
  slots_set (q ∷ qs) [] i p h same = absurd (omega arith)
  slots_set (q ∷ qs) (g ∷ gs) zero p h same = refl
  slots_set (q ∷ qs) (g ∷ gs) (suc i) p h same = ap (λ (xs : List (Slot B)). slot_of q g ∷ xs) (slots_set qs gs i p h (omega arith))

  -- a session's slot by its number
  pub slot_here : (s : ℕ) (phases : List (Phase B W)) (table : List (Held B)) → is_session s ≡ true → length phases ≡ length table
      → slot_at s (slots_of phases table) ≡ slot_of (phase_at (s - 1) phases) (held_at (s - 1) table)
  slot_here s phases table is same = ap (λ t. place t s (slots_of phases table)) is ∙ slots_at phases table (s - 1) same

  -- what holds of the session that is set, and of each other one, holds of each
  pub placed_set : (P : Phase B W → Held B → Type 0) (ps : List (Phase B W)) (hs : List (Held B)) (i j : ℕ) (p : Phase B W) (h : Held B) → i < length ps → i < length hs
      → (j ≡ i → P p h) → (j ≢ i → P (phase_at j ps) (held_at j hs)) → P (phase_at j (slice_set ps i p)) (held_at j (slice_set hs i h))
  placed_set P ps hs i j p h low low' own other =
      elim (ℕ_discrete j i) [
        | yes e ↦
            (let first : phase_at j (slice_set ps i p) ≡ p = ap (λ n. phase_at n (slice_set ps i p)) e ∙ get_or-set_same ps i p phase.Free low in
            let second : held_at j (slice_set hs i h) ≡ h = ap (λ n. held_at n (slice_set hs i h)) e ∙ get_or-set_same hs i h nothing_held low' in
            subst (λ (x : Phase B W). P x (held_at j (slice_set hs i h))) (sym first) (subst (λ (y : Held B). P p y) (sym second) (own e)))
        | no ne ↦
            (let first : phase_at j (slice_set ps i p) ≡ phase_at j ps = get_or-set_other ps i j p phase.Free (omega arith) in
            let second : held_at j (slice_set hs i h) ≡ held_at j hs = get_or-set_other hs i j h nothing_held (omega arith) in
            subst (λ (x : Phase B W). P x (held_at j (slice_set hs i h))) (sym first) (subst (λ (y : Held B). P (phase_at j ps) y) (sym second) (other ne)))
      ]

  -- a session without a transaction holds nothing, so that the locks of the slots are those of the table
  pub own_locks : (k : Keys B) (live : Entry B → Bool) (p : Phase B W) (h : Held B) → HoldsNothing p h → locks_of (session_of k live (slot_of p h)) ≡ h.locks
  own_locks k live phase.Free h none = ap (λ (x : Held B). x.locks) (sym none)
  own_locks k live phase.Working h none = refl
  own_locks k live (phase.Open call work) h none = refl
  own_locks k live (phase.Undoing restored work) h none = refl
  own_locks k live (phase.Waiting number) h none = ap (λ (x : Held B). x.locks) (sym none)

  pub table_locks : (k : Keys B) (live : Entry B → Bool) (phases : List (Phase B W)) (table : List (Held B)) → length phases ≡ length table
      → ((i : ℕ) → i < length phases → HoldsNothing (phase_at i phases) (held_at i table))
      → map locks_of (sessions_of k live (slots_of phases table)) ≡ map (λ h. h.locks) table
  table_locks k live [] [] same none = refl
  table_locks k live [] (h ∷ hs) same none = absurd (omega arith)
  table_locks k live (p ∷ ps) [] same none = absurd (omega arith)
  table_locks k live (p ∷ ps) (h ∷ hs) same none =
      let first : locks_of (session_of k live (slot_of p h)) ≡ h.locks = own_locks k live p h (none 0 (omega arith)) in
      let rest : map locks_of (sessions_of k live (slots_of ps hs)) ≡ map (λ (x : Held B). x.locks) hs =
      table_locks k live ps hs (omega arith) (λ i low. none (suc i) (omega arith)) in
      λ i. first i ∷ rest i
