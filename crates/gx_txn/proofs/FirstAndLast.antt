-- Over the writes of a transaction the first mark and the last leaf are kept.
use Rattle.std.proofs.Common.{◌≡◌, Bool, true, false, cond, ◌||◌, List, [], ◌∷◌, Option, None, Some, refl, ap, sym, ◌∙◌, subst}
use Rattle.std.specs.Prelude.{if◌then◌else◌}
use Rattle.std.specs.Ordering.{is_eq, match_ordering}
use Rattle.std.specs.declared.cmp.Ordering.{Ordering}
use Rattle.std.specs.declared.cmp.Ordering.TheVariants.{Less, Equal, Greater}
use Rattle.gx_machine.specs.declared.entry.Entry.{Entry}
use Rattle.gx_machine.specs.Keys.{Keys, IsLawful, entry_cmp, same_entry}
use Rattle.gx_machine.specs.Sets.{has, Before, InOrder}
use Rattle.gx_machine.proofs.SetLaws.{entry_exact, same_is, has-including, in_order_including, before_through}
use Rattle.gx_machine.proofs.SessionMoves.{same_itself}
use Rattle.gx_txn.specs.declared.note.Note.{Note}
use Rattle.gx_txn.specs.Notes.{entries_of, noting, notes_of, of_entry, with_first_mark, written}
use Rattle.gx_txn.proofs.Noted.{entries_of-noting}

module _ {B : Type 0} (k : Keys B) (l : IsLawful k) where
  -- the note of an entry once a write of another or of the same is noted
  abbrev noted_then : Entry B → Note B → Bool → Option (Note B) → Option (Note B)
  noted_then e n same before = if same then Some (with_first_mark n before) else before

  first_of : (e : Entry B) (x : Note B) (xs : List (Note B)) (s : Bool) → same_entry k e x.entry ≡ s
      → of_entry k e (x ∷ xs) ≡ cond s (Some x) (of_entry k e xs)
  first_of e x xs s h = ap (λ (b : Bool). cond b (Some x) (of_entry k e xs)) h

  differs : (e x : Entry B) → entry_cmp k e x ≡ Less → same_entry k e x ≡ false
  differs e x h = ap is_eq h

  -- what comes before all notes has none
  none_before : (e : Entry B) (xs : List (Note B)) → Before k e (entries_of xs) → of_entry k e xs ≡ None
  none_before e [] b = refl
  none_before e (x ∷ xs) b = first_of e x xs false (differs e x.entry b.0) ∙ none_before e xs b.1

  in_front : (e : Entry B) (n : Note B) (xs : List (Note B)) (t : Bool) → same_entry k e n.entry ≡ t → Before k n.entry (entries_of xs)
      → cond t (Some n) (of_entry k e xs) ≡ noted_then e n t (of_entry k e xs)
  in_front e n xs true h b =
      let none : of_entry k e xs ≡ None = none_before e xs (subst (λ (y : Entry B). Before k y (entries_of xs)) (sym (same_is k l e n.entry h)) b) in
      ap (λ (o : Option (Note B)). Some (with_first_mark n o)) (sym none)
  in_front e n xs false h b = refl

  at_it : (e : Entry B) (n x : Note B) (xs : List (Note B)) (t : Bool) → n.entry ≡ x.entry
      → cond t (Some (record x { leaf = n.leaf })) (of_entry k e xs) ≡ noted_then e n t (cond t (Some x) (of_entry k e xs))
  at_it e n x xs true same = ap (λ (y : Entry B). Some (record { entry = y; before = x.before; leaf = n.leaf })) (sym same)
  at_it e n x xs false same = refl

  past_it : (e : Entry B) (n x : Note B) (rest old : Option (Note B)) (s t : Bool) → same_entry k e x.entry ≡ s → same_entry k e n.entry ≡ t
      → entry_cmp k n.entry x.entry ≡ Greater → rest ≡ noted_then e n t old
      → cond s (Some x) rest ≡ noted_then e n t (cond s (Some x) old)
  past_it e n x rest old true true g h cmp is =
      let both : n.entry ≡ x.entry = sym (same_is k l e n.entry h) ∙ same_is k l e x.entry g in
      let same : same_entry k n.entry x.entry ≡ true = ap (same_entry k n.entry) (sym both) ∙ same_itself k l n.entry in
      let other : same_entry k n.entry x.entry ≡ false = ap is_eq cmp in
      cc
  past_it e n x rest old true false g h cmp is = refl
  past_it e n x rest old false t g h cmp is = is

  of_match : (e : Entry B) (n x : Note B) (xs : List (Note B)) (o : Ordering) → entry_cmp k n.entry x.entry ≡ o
      → Before k x.entry (entries_of xs) → of_entry k e (noting k n xs) ≡ noted_then e n (same_entry k e n.entry) (of_entry k e xs)
      → of_entry k e (match_ordering o (n ∷ x ∷ xs) (record x { leaf = n.leaf } ∷ xs) (x ∷ noting k n xs))
      ≡ noted_then e n (same_entry k e n.entry) (of_entry k e (x ∷ xs))
  of_match e n x xs Less h b rest =
      in_front e n (x ∷ xs) (same_entry k e n.entry) refl (h, before_through k l n.entry x.entry (entries_of xs) h b)
  of_match e n x xs Equal h b rest =
      let same : n.entry ≡ x.entry = entry_exact k l n.entry x.entry h in
      ap (λ (y : Entry B). cond (same_entry k e y) (Some (record x { leaf = n.leaf })) (of_entry k e xs)) (sym same)
      ∙ at_it e n x xs (same_entry k e n.entry) same
      ∙ ap (λ (y : Entry B). noted_then e n (same_entry k e n.entry) (cond (same_entry k e y) (Some x) (of_entry k e xs))) same
  of_match e n x xs Greater h b rest =
      past_it e n x (of_entry k e (noting k n xs)) (of_entry k e xs) (same_entry k e x.entry) (same_entry k e n.entry) refl refl h rest

  pub of_entry-noting : (e : Entry B) (n : Note B) (notes : List (Note B)) → InOrder k (entries_of notes)
      → of_entry k e (noting k n notes) ≡ (if same_entry k e n.entry then Some (with_first_mark n (of_entry k e notes)) else of_entry k e notes)
  of_entry-noting e n [] o = refl
  of_entry-noting e n (x ∷ xs) o = of_match e n x xs (entry_cmp k n.entry x.entry) refl o.0 (of_entry-noting e n xs o.1)

  pub notes_in_order : (writes : List (Note B)) → InOrder k (entries_of (notes_of k writes))
  notes_in_order [] = tt
  notes_in_order (w ∷ earlier) =
      subst (λ (es : List (Entry B)). InOrder k es) (sym (entries_of-noting k w (notes_of k earlier)))
      (in_order_including k l w.entry (entries_of (notes_of k earlier)) (notes_in_order earlier))

  pub stands : (e : Entry B) (writes : List (Note B)) → of_entry k e (notes_of k writes) ≡ written k e writes
  stands e [] = refl
  stands e (w ∷ earlier) =
      of_entry-noting e w (notes_of k earlier) (notes_in_order earlier)
      ∙ ap (λ (o : Option (Note B)). if same_entry k e w.entry then Some (with_first_mark w o) else o) (stands e earlier)

  pub noted_are_written : (e : Entry B) (writes : List (Note B)) → has k e (entries_of (notes_of k writes)) ≡ has k e (entries_of writes)
  noted_are_written e [] = refl
  noted_are_written e (w ∷ earlier) =
      ap (has k e) (entries_of-noting k w (notes_of k earlier)) ∙ has-including k l e w.entry (entries_of (notes_of k earlier))
      ∙ ap (λ (b : Bool). same_entry k e w.entry || b) (noted_are_written e earlier)
