-- What an undo has restored, one note more.
use Rattle.std.proofs.Common.{◌≡◌, ℕ, zero, suc, ◌+◌, ◌<◌, ◌≤◌, Bool, true, false, not, ◌||◌, List, [], ◌∷◌, ◌++◌, Option, Some, None, map, take, get_or, length, refl, ap, sym, ◌∙◌, arith}
use Rattle.std.specs.Prelude.{if◌then◌else◌}
use Rattle.std.proofs.lemmas.List.{take_all, take_more}
use Rattle.std.specs.declared.cmp.Ordering.TheVariants.{Less, Equal}
use Rattle.gx_machine.specs.declared.entry.Entry.{Entry}
use Rattle.gx_machine.specs.Keys.{Keys, IsLawful, entry_cmp, same_entry}
use Rattle.gx_machine.specs.Sets.{has, Before, InOrder}
use Rattle.gx_machine.proofs.SetLaws.{same_is, entry_itself}
use Rattle.gx_machine.proofs.SetsByTests.{comes_before_each}
use Rattle.gx_machine.proofs.SessionMoves.{same_itself, value_of, or_second}
use Rattle.gx_txn.specs.declared.note.Note as txn
use Rattle.gx_txn.specs.Notes.{entries_of}
use Rattle.gx_events.specs.Happenings.{marked}
use Rattle.gx_events.specs.Slots.{noted}
use Rattle.gx_phases.specs.States.{note_of}
use Rattle.gx_phases.specs.Restoring.{AreRestored}

module _ {B : Type 0} (k : Keys B) where
  -- before an undo begins none is
  pub none_restored : (live : Entry B → Bool) (notes : List (txn.Note B)) → AreRestored k live 0 notes
  none_restored live notes e was h = let no : ⊥ = cc in absurd no

  before_step : (was here : Bool) (first all : Option Bool) (same : Bool) → (first ≡ Some was → all ≡ Some was)
      → (if same then Some here else first) ≡ Some was → (if same then Some here else all) ≡ Some was
  before_step was here first all true rest h = h
  before_step was here first all false rest h = rest h

  -- what is noted among the first is noted so
  pub noted_before : (e : Entry B) (was : Bool) (m : ℕ) (notes : List (txn.Note B)) → noted k e (map note_of (take m notes)) ≡ Some was
      → noted k e (map note_of notes) ≡ Some was
  noted_before e was zero notes h = let no : ⊥ = cc in absurd no
  noted_before e was (suc m) [] h = let no : ⊥ = cc in absurd no
  noted_before e was (suc m) (x ∷ notes) h =
      before_step was (not x.before) (noted k e (map note_of (take m notes))) (noted k e (map note_of notes)) (same_entry k e x.entry) (λ r. noted_before e was m notes r) h

  -- a note of another entry adds nothing
  other_added : (e : Entry B) (n : txn.Note B) (notes : List (txn.Note B)) → same_entry k e n.entry ≡ false
      → noted k e (map note_of (notes ++ n ∷ [])) ≡ noted k e (map note_of notes)
  other_added e n [] other = ap (λ t. if t then Some (not n.before) else None) other
  other_added e n (x ∷ notes) other = ap (λ r. if same_entry k e x.entry then Some (not x.before) else r) (other_added e n notes other)

  -- a note, that it is noted, and that its entry is among those noted
  pub record IsNoted (n : txn.Note B) (notes : List (txn.Note B)) : Type 0 where
    pub among : has k n.entry (entries_of notes) ≡ true
    pub was : noted k n.entry (map note_of notes) ≡ Some (not n.before)

  module _ (l : IsLawful k) where
    pub apart_by : (e x : Entry B) (xs : List (Entry B)) (same : Bool) → same_entry k e x ≡ same → Before k x xs → has k e xs ≡ true → same ≡ false
    apart_by e x xs true is before there =
        let less : entry_cmp k x e ≡ Less = comes_before_each k l x e xs before there in
        let equal : entry_cmp k x e ≡ Equal = ap (λ z. entry_cmp k x z) (same_is k l e x is) ∙ entry_itself k l x in
        let no : ⊥ = cc in absurd no
    apart_by e x xs false is before there = refl

    later_noted : (n x : txn.Note B) (notes : List (txn.Note B)) → Before k x.entry (entries_of notes) → IsNoted n notes → IsNoted n (x ∷ notes)
    later_noted n x notes before h =
        let other : same_entry k n.entry x.entry ≡ false = apart_by n.entry x.entry (entries_of notes) (same_entry k n.entry x.entry) refl before h.among in
        record {
          among = or_second (same_entry k n.entry x.entry) (has k n.entry (entries_of notes)) h.among;
          was = ap (λ t. if t then Some (not x.before) else noted k n.entry (map note_of notes)) other ∙ h.was;
        }

    -- each note is noted so
    pub each_noted : (notes : List (txn.Note B)) (i : ℕ) (d : txn.Note B) → InOrder k (entries_of notes) → i < length notes → IsNoted (get_or notes i d) notes
    each_noted [] i d o low = absurd (omega arith)
    each_noted (x ∷ notes) zero d o low = record {
      among = ap (λ t. t || has k x.entry (entries_of notes)) (same_itself k l x.entry);
      was = ap (λ t. if t then Some (not x.before) else noted k x.entry (map note_of notes)) (same_itself k l x.entry);
    }
    each_noted (x ∷ notes) (suc i) d o low = later_noted (get_or notes i d) x notes o.0 (each_noted notes i d o.1 (omega arith))

    module _ (notes : List (txn.Note B)) (m : ℕ) (n : txn.Note B) (low : m < length notes) (is : n ≡ get_or notes m n) (note_is : IsNoted n notes)
        (live later : Entry B → Bool) (changed : (x : Entry B) → later x ≡ marked k n.entry (not n.before) live x) (before : AreRestored k live m notes) where
      more_step : (e : Entry B) (was same : Bool) → same_entry k e n.entry ≡ same → noted k e (map note_of (take (m + 1) notes)) ≡ Some was
          → (if same then not n.before else live e) ≡ was
      more_step e was true it h =
          value_of (sym note_is.was ∙ ap (λ z. noted k z (map note_of notes)) (sym (same_is k l e n.entry it)) ∙ noted_before e was (m + 1) notes h)
      more_step e was false it h =
          before e was (sym (
          ap (λ (ns : List (txn.Note B)). noted k e (map note_of ns)) (take_more notes m n low ∙ ap (λ (x : txn.Note B). take m notes ++ x ∷ []) (sym is))
          ∙ other_added e n (take m notes) it
          ) ∙ h)

      -- with the next note restored, it is one more
      pub one_more_restored : AreRestored k later (m + 1) notes
      one_more_restored e was h = changed e ∙ more_step e was (same_entry k e n.entry) refl h

  -- if no note is left, each is restored
  pub all_restored : (live : Entry B → Bool) (m : ℕ) (notes : List (txn.Note B)) → length notes ≤ m → AreRestored k live m notes
      → (e : Entry B) (was : Bool) → noted k e (map note_of notes) ≡ Some was → live e ≡ was
  all_restored live m notes past before e was h = before e was (ap (λ (ns : List (txn.Note B)). noted k e (map note_of ns)) (take_all m notes past) ∙ h)
