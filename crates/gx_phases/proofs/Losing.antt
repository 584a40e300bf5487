-- A note of a transaction that is to be undone, taken up.
use Rattle.std.proofs.Common.{◌≡◌, ℕ, zero, suc, ◌-◌, ◌<◌, true, List, [], ◌∷◌, length, Result, Ok, Err, refl, ap, sym, ◌∙◌, arith, subst, get_or-set_same}
use Rattle.std.specs.Prelude.{slice_set, IsOk}
use Rattle.std.proofs.lemmas.List.{length-set}
use Rattle.gx_geom.specs.declared.refusal.Refusal.{Refusal}
use Rattle.gx_machine.specs.Keys.{Keys, IsLawful}
use Rattle.gx_machine.specs.Sets.{InOrder}
use Rattle.gx_machine.specs.Sessions.{Locks}
use Rattle.gx_machine.specs.Machine.{is_session}
use Rattle.gx_machine.proofs.SetLaws.{in_order_including}
use Rattle.gx_machine.proofs.Places.{session_bounds}
use Rattle.gx_txn.specs.declared.note.Note as txn
use Rattle.gx_txn.specs.Notes.{entries_of, noting}
use Rattle.gx_txn.specs.Tables.{Held, nothing_held, held_by, with_held, with_notes, with_locks, TakesIn}
use Rattle.gx_txn.proofs.Noted.{entries_of-noting}
use Rattle.gx_phases.specs.declared.phase.Phase.{Phase}
use Rattle.gx_phases.specs.declared.phase.Phase.TheVariants as phase
use Rattle.gx_phases.specs.States.{State, with_phase, IsKept}
use Rattle.gx_phases.specs.Moves.{HeldNote, TakesUp}
use Rattle.gx_phases.proofs.Keeping.{low, kept_with, no_wait, numbers_left}

set_again : {X : Type 0} (xs : List X) (i : ℕ) (a b : X) → slice_set (slice_set xs i a) i b ≡ slice_set xs i b
set_again [] i a b = refl
set_again (x ∷ xs) zero a b = refl
set_again {X} (x ∷ xs) (suc i) a b = ap (λ (ys : List X). x ∷ ys) (set_again xs i a b)

module _ {B : Type 0} (k : Keys B) (s : ℕ) (n : txn.Note B) (old : List (Held B)) where
  -- one that is held
  pub held_note : (r : Result (Locks B) Refusal) (done : Unit {0}) (mid new : List (Held B)) → is_session s ≡ true → length old ≡ 8 → TakesIn r s old (Ok done) mid
      → new ≡ with_held s (with_notes (noting k n (held_by s mid).notes) (held_by s mid)) mid → HeldNote k r s n old (Ok tt) new
  held_note (Ok locks) done mid new is eight a noted =
      let bounds : (0 < s) × (s < 9) = session_bounds s is in
      let l : Held B = with_locks locks (held_by s old) in
      let here : held_by s (with_held s l old) ≡ l = get_or-set_same old (s - 1) l nothing_held (omega (arith, bounds.0, bounds.1, eight)) in (
        refl,
        noted
            ∙ ap (λ (t : List (Held B)). with_held s (with_notes (noting k n (held_by s t).notes) (held_by s t)) t) a.1
            ∙ ap (λ (h : Held B). with_held s (with_notes (noting k n h.notes) h) (with_held s l old)) here
            ∙ set_again old (s - 1) l (with_notes (noting k n l.notes) l),
      )
  held_note (Err why) done mid new is eight a noted = let no : ⊥ = cc in absurd no

module _ {B W : Type 0} (k : Keys B) (l : IsLawful k) (old : State B W) (kept : IsKept k old) (s : ℕ) (is : is_session s ≡ true) (n : txn.Note B) where
  -- if it is refused
  pub refused_kept : (r : Result (Locks B) Refusal) (why : Refusal) (table' : List (Held B)) → HeldNote k r s n old.table (Err why) table'
      → IsKept k (record old { table = table' })
  refused_kept (Ok locks) why table' a = let is_ok : IsOk {T = Unit {0}} (Err why) = a.0 in let no : ⊥ = cc in absurd no
  refused_kept (Err other) why table' a = subst (λ (t : List (Held B)). IsKept k (record old { table = t })) (sym a.1) kept

  pub refused_takes : (r : Result (Locks B) Refusal) (why : Refusal) (t : ℕ) (work : W) (table' : List (Held B)) → HeldNote k r s n old.table (Err why) table'
      → TakesUp k r s t n work old (Err why) (record old { table = table' })
  refused_takes (Ok locks) why t work table' a = let is_ok : IsOk {T = Unit {0}} (Err why) = a.0 in let no : ⊥ = cc in absurd no
  refused_takes (Err other) why t work table' a = (a.0, ap (λ (x : List (Held B)). record old { table = x }) a.1)

  module _ (t m : ℕ) (work : W) (done : Unit {0}) (phases' : List (Phase B W)) (table' : List (Held B)) (place : m ≡ s - 1)
      (changed : phases' ≡ with_phase s (phase.Undoing 0 work) old.phases) where
    abbrev new : State B W
    new = record old { phases = phases'; table = table'; transactions = slice_set old.transactions m t }

    pub taken_kept : (r : Result (Locks B) Refusal) → HeldNote k r s n old.table (Ok done) table' → IsKept k new
    taken_kept (Ok locks) a =
        let h : Held B = held_by s old.table in
        kept_with k old kept s is new (phase.Undoing 0 work) (with_notes (noting k n h.notes) (with_locks locks h)) changed a.1
        (length-set old.transactions m t ∙ kept.transactions)
        (record {
          nothing = tt;
          claimed = tt;
          in_order = subst (InOrder k) (sym (entries_of-noting k n h.notes))
              (in_order_including k l n.entry (entries_of h.notes) (kept.placed (s - 1) (low k old kept s is)).in_order);
        })
        (numbers_left old.phases phases' (s - 1) (phase.Undoing 0 work) old.latest old.latest kept.phases (low k old kept s is) changed kept.numbers (omega arith))
        kept.durable (omega arith) (no_wait old.latest (phase.Undoing 0 work) refl)
    taken_kept (Err why) a = let no : ⊥ = cc in absurd no

    pub taken_up : (r : Result (Locks B) Refusal) → HeldNote k r s n old.table (Ok done) table' → TakesUp k r s t n work old (Ok tt) new
    taken_up (Ok locks) a =
        (refl, (λ i. record old { phases = changed i; table = a.1 i; transactions = slice_set old.transactions (place i) t }))
    taken_up (Err why) a = let no : ⊥ = cc in absurd no
