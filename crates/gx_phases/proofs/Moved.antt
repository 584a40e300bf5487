-- A note that is written again.
use Rattle.std.proofs.Common.{◌≡◌, ◌∙◌, ◌<◌, ◌+◌, ℕ, zero, suc, Bool, true, false, List, [], ◌∷◌, Option, None, Some, length, get_or, map, slice_get, slice_set, refl, ap, sym, subst}
use Rattle.std.specs.declared.cmp.Ordering.TheVariants.{Equal}
use Rattle.std.specs.Prelude.{if◌then◌else◌, nat_lt}
use Rattle.std.proofs.lemmas.Bool.{ltb-true}
use Rattle.std.proofs.lemmas.Option.{slice_get_read}
use Rattle.gx_machine.specs.Keys.{Keys, IsLawful, entry_cmp}
use Rattle.gx_machine.proofs.SetLaws.{entry_itself}
use Rattle.gx_txn.specs.declared.note.Note.{Note}
use Rattle.gx_txn.specs.Notes.{noting}
use Rattle.gx_txn.specs.Tables.{Held, IsKept, claims, held_by, with_held, with_notes}
use Rattle.gx_txn.proofs.Noted.{noting_at}
use Rattle.gx_phases.specs.declared.phase.Phase.{Phase}
use Rattle.gx_phases.specs.declared.phase.Phase.TheVariants as phase
use Rattle.gx_phases.specs.Moves.{MovedIn, RestoredOne, before_last, moved, next_of}
use Rattle.gx_phases.specs.States.{State, with_phase}
use Rattle.gx_phases.proofs.Undoing.{IsNoted, each_noted}

module _ {B : Type 0} (k : Keys B) (l : IsLawful k) (s : ℕ) (table : List (Held B)) (kept : IsKept k (held_by s table)) (place : ℕ) (there : place < length (held_by s table).notes)
    (n : Note B) (is : n ≡ get_or (held_by s table).notes place n) where
  abbrev notes : List (Note B)
  notes = (held_by s table).notes

  -- its entry is claimed
  pub claims_noted : claims k n.entry (held_by s table) ≡ true
  claims_noted =
      let it : IsNoted k n notes = subst (λ (x : Note B). IsNoted k x notes) (sym is) (each_noted k l notes place n kept.notes_in_order there) in
      kept.noted_is_claimed n.entry it.among

  -- and it is where it was
  pub moved_in : (leaf : ℕ) (new : List (Held B)) → new ≡ with_held s (with_notes (noting k (record { entry = n.entry; before = n.before; leaf = leaf }) notes) (held_by s table)) table
      → MovedIn s place leaf table new
  moved_in leaf new noted =
      let own : entry_cmp k (get_or notes place n).entry n.entry ≡ Equal = ap (λ (x : Note B). entry_cmp k x.entry n.entry) (sym is) ∙ entry_itself k l n.entry in
      let at : noting k (record { entry = n.entry; before = n.before; leaf = leaf }) notes ≡ moved place n leaf notes =
      noting_at k l (record { entry = n.entry; before = n.before; leaf = leaf }) notes place n kept.notes_in_order there own
      ∙ ap (λ (x : Note B). slice_set notes place (record x { leaf = leaf })) (sym is) in
      (n, slice_get_read notes (length notes) place n refl there is, noted ∙ ap (λ (ns : List (Note B)). with_held s (with_notes ns (held_by s table)) table) at)

-- what is the same of both is the same of a list in which the one takes the other's place
pub set_map : {X Y : Type 0} (f : X → Y) (xs : List X) (i : ℕ) (x y : X) → slice_get xs i ≡ Some x → f y ≡ f x → map f (slice_set xs i y) ≡ map f xs
set_map f [] i x y at same = let no : ⊥ = cc in absurd no
set_map {X} {Y} f (z ∷ zs) zero x y at same = let here : z ≡ x = cc in ap (λ (v : Y). v ∷ map f zs) (same ∙ ap f (sym here))
set_map {X} {Y} f (z ∷ zs) (suc i) x y at same = ap (λ (vs : List Y). f z ∷ vs) (set_map f zs i x y at same)

-- a note that is next is one of so many
pub next_low : (many : ℕ) (by : Option ℕ) (restored : ℕ) → Some restored ≡ before_last many by → restored < many
next_low many None restored is = let no : ⊥ = cc in absurd no
next_low many (Some at) restored is = by_test (nat_lt at many) refl is
  where
    by_test : (b : Bool) → nat_lt at many ≡ b → Some restored ≡ (if b then Some at else None) → restored < many
    by_test true low same = let here : restored ≡ at = cc in subst (λ n. n < many) (sym here) (ltb-true at many low)
    by_test false low same = let no : ⊥ = cc in absurd no

-- and it is restored
pub one_restored : {B W : Type 0} (s restored leaf : ℕ) (work : W) (old now new : State B W) (phases : List (Phase B W)) (table : List (Held B)) → old ≡ now → Some restored ≡ next_of s now
    → phases ≡ with_phase s (phase.Undoing (restored + 1) work) old.phases → MovedIn s restored leaf old.table table → new ≡ record old { phases = phases; table = table }
    → RestoredOne (next_of s now) s leaf work now new
one_restored {B} {W} s restored leaf work old now new phases table same next changed written is =
    subst (λ (o : Option ℕ). RestoredOne o s leaf work now new) next
    (subst (λ (x : State B W). RestoredOne (Some restored) s leaf work x new) same
    (written.0, written.1, is ∙ (λ i. record old { phases = changed i; table = written.2 i })))
