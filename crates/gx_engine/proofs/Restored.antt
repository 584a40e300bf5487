-- What an undo has restored, note by note.
use Rattle.std.proofs.Common.{◌≡◌, ◌∙◌, sym, ap, refl, subst, ℕ, zero, suc, ◌+◌, ◌≤◌, Bool, true, false, ◌||◌, List, [], ◌∷◌, ◌++◌, Option, Some, map, take, get_or, length, option_map}
use Rattle.std.specs.Prelude.{slice_get, slice_set}
use Rattle.std.proofs.lemmas.List.{length-map, take_all, take_more}
use Rattle.std.proofs.lemmas.Option.{get_or_from_slice_get, slice_get-map, slice_get_within}
use Rattle.gx_machine.specs.declared.entry.Entry.{Entry}
use Rattle.gx_machine.specs.Keys.{Keys, IsLawful, entry_cmp, same_entry}
use Rattle.gx_machine.specs.Sets.{has, InOrder}
use Rattle.gx_machine.proofs.SetLaws.{entry_itself}
use Rattle.gx_machine.proofs.SessionMoves.{same_itself, or_second}
use Rattle.gx_txn.specs.declared.note.Note.{Note}
use Rattle.gx_txn.specs.Notes.{entries_of, noting}
use Rattle.gx_txn.proofs.Noted.{noting_at}
use Rattle.gx_events.specs.Slots as slots
use Rattle.gx_events.specs.Slots.{noted}
use Rattle.gx_events.proofs.Noted.{has_noted}
use Rattle.gx_phases.specs.Moves.{moved}
use Rattle.gx_phases.specs.States.{note_of}
use Rattle.gx_phases.proofs.Moved.{set_map}
use Rattle.gx_phases.proofs.Undoing.{apart_by}
use Rattle.gx_engine.specs.Holds.{AreDone}

-- the engine's notes have the same entries
same_entries : {B : Type 0} (notes : List (Note B)) → slots.entries_of (map note_of notes) ≡ entries_of notes
same_entries [] = refl
same_entries {B} (n ∷ notes) = ap (λ (es : List (Entry B)). n.entry ∷ es) (same_entries notes)

or_swap : (a b c : Bool) → (a || (b || c)) ≡ (b || (a || c))
or_swap true true c = refl
or_swap true false c = refl
or_swap false b c = refl

or_none : (a : Bool) → (a || false) ≡ a
or_none true = refl
or_none false = refl

module _ {B : Type 0} (k : Keys B) where
  has_last : (e x : Entry B) (xs : List (Entry B)) → has k e (xs ++ x ∷ []) ≡ (same_entry k e x || has k e xs)
  has_last e x [] = refl
  has_last e x (y ∷ ys) = ap (λ b. same_entry k e y || b) (has_last e x ys) ∙ or_swap (same_entry k e y) (same_entry k e x) (has k e ys)

  -- a note that gets another leaf counts as restored if it did before
  pub moved_done : (notes : List (Note B)) (place restored : ℕ) (n : Note B) (leaf : ℕ) (done : List (Entry B)) → slice_get notes place ≡ Some n
      → AreDone k notes restored done → AreDone k (moved place n leaf notes) restored done
  moved_done notes place restored n leaf done at are e =
      are e ∙ ap (λ (es : List (Entry B)). has k e (take restored es)) (sym (set_map (λ (x : Note B). x.entry) notes place n (record n { leaf = leaf }) at refl))

  entry_at : (notes : List (Note B)) (place : ℕ) (n : Note B) → slice_get notes place ≡ Some n → slice_get (entries_of notes) place ≡ Some n.entry
  entry_at notes place n at = slice_get-map (λ (x : Note B). x.entry) notes place ∙ ap (λ (o : Option (Note B)). option_map (λ (x : Note B). x.entry) o) at

  -- with the next note restored it is one more
  pub one_more_done : (notes : List (Note B)) (restored : ℕ) (n : Note B) (done : List (Entry B)) → slice_get notes restored ≡ Some n
      → AreDone k notes restored done → AreDone k notes (restored + 1) (n.entry ∷ done)
  one_more_done notes restored n done at are e =
      let es : List (Entry B) = entries_of notes in
      let here : slice_get es restored ≡ Some n.entry = entry_at notes restored n at in
      ap (λ b. same_entry k e n.entry || b) (are e) ∙ sym (has_last e n.entry (take restored es))
      ∙ ap (λ (x : Entry B). has k e (take restored es ++ x ∷ [])) (sym (get_or_from_slice_get es restored n.entry n.entry here))
      ∙ ap (has k e) (sym (take_more es restored n.entry (slice_get_within es restored n.entry here)))

  -- if no note is left, what is noted is restored
  pub all_done : (notes : List (Note B)) (restored : ℕ) (done : List (Entry B)) → length notes ≤ restored → AreDone k notes restored done
      → (e : Entry B) (was : Bool) → noted k e (map note_of notes) ≡ Some was → has k e done ≡ true
  all_done notes restored done past are e was is =
      are e ∙ ap (has k e) (take_all restored (entries_of notes) (subst (λ m. m ≤ restored) (sym (length-map notes (λ (x : Note B). x.entry))) past))
      ∙ ap (has k e) (sym (same_entries notes)) ∙ has_noted k e (map note_of notes) was is

  module _ (l : IsLawful k) where
    has_at : (es : List (Entry B)) (i : ℕ) (x : Entry B) → slice_get es i ≡ Some x → has k x es ≡ true
    has_at [] i x at = let no : ⊥ = cc in absurd no
    has_at (y ∷ ys) zero x at = let here : y ≡ x = cc in ap (λ (z : Entry B). same_entry k x z || has k x ys) here ∙ ap (λ b. b || has k x ys) (same_itself k l x)
    has_at (y ∷ ys) (suc i) x at = or_second (same_entry k x y) (has k x ys) (has_at ys i x at)

    not_before : (es : List (Entry B)) (i : ℕ) (x : Entry B) → InOrder k es → slice_get es i ≡ Some x → has k x (take i es) ≡ false
    not_before [] i x order at = let no : ⊥ = cc in absurd no
    not_before (y ∷ ys) zero x order at = refl
    not_before (y ∷ ys) (suc i) x order at =
        ap (λ b. b || has k x (take i ys)) (apart_by k l x y ys (same_entry k x y) refl order.0 (has_at ys i x at)) ∙ not_before ys i x order.1 at

    -- the next note isn't restored yet
    pub not_done : (notes : List (Note B)) (restored : ℕ) (n : Note B) (done : List (Entry B)) → InOrder k (entries_of notes) → slice_get notes restored ≡ Some n
        → AreDone k notes restored done → has k n.entry done ≡ false
    not_done notes restored n done order at are = are n.entry ∙ not_before (entries_of notes) restored n.entry order (entry_at notes restored n at)

    -- a write of an entry that is noted changes its note's leaf
    pub written_again : (notes : List (Note B)) (place : ℕ) (n m : Note B) → InOrder k (entries_of notes) → slice_get notes place ≡ Some n → m.entry ≡ n.entry
        → noting k m notes ≡ moved place n m.leaf notes
    written_again notes place n m order at same =
        let here : get_or notes place n ≡ n = get_or_from_slice_get notes place n n at in
        noting_at k l m notes place n order (slice_get_within notes place n at)
        (ap (λ (x : Note B). entry_cmp k x.entry m.entry) here ∙ ap (λ (x : Entry B). entry_cmp k x m.entry) (sym same) ∙ entry_itself k l m.entry)
        ∙ ap (λ (x : Note B). slice_set notes place (record x { leaf = m.leaf })) here
