-- A slot as a session: what it has added and taken away, and what it sees.
use Rattle.std.proofs.Common.{◌≡◌, Bool, true, false, not, cond, ◌&&◌, ◌||◌, List, [], ◌∷◌, refl, ap, sym, ◌∙◌}
use Rattle.std.specs.Prelude.{if◌then◌else◌, is_some}
use Rattle.std.specs.List.{filter}
use Rattle.std.specs.Ordering.{is_eq, ordering_reverse}
use Rattle.std.specs.declared.cmp.Ordering.{Ordering}
use Rattle.std.specs.declared.cmp.Ordering.TheVariants.{Less, Equal, Greater}
use Rattle.gx_machine.specs.declared.entry.Entry.{Entry}
use Rattle.gx_machine.specs.Keys.{Keys, IsLawful, entry_cmp, same_entry}
use Rattle.gx_machine.specs.Sets.{has, including, excluding, InOrder, IsSetOf}
use Rattle.gx_machine.specs.Sessions.{Open, Changes, locks_of, view}
use Rattle.gx_machine.proofs.SetLaws.{entry_total, has-filter, has-including, in_order_including, in_order_filter}
use Rattle.gx_machine.proofs.SessionMoves.{same_itself}
use Rattle.gx_machine.proofs.SetsByTests.{same_members_are_one_list, set_that_is_gathered, set_that_is_viewed}
use Rattle.gx_events.specs.Slots.{Note, Slot, Free, Working, Undoing, Waiting, locks_held, notes_kept, entries_of, noted, WithNote}
use Rattle.gx_events.specs.Engines.{gathered, changes_of, session_of}
use Rattle.gx_events.specs.Happenings.{marked}
use Rattle.gx_events.proofs.Options.{or_left, or_right, inserted_added, inserted_taken, deleted_added, deleted_taken}
use Rattle.gx_events.proofs.Noted.{noted_has, has_with_note}

reversed_eq : (o : Ordering) → is_eq (ordering_reverse o) ≡ is_eq o
reversed_eq Less = refl
reversed_eq Equal = refl
reversed_eq Greater = refl

module _ {B : Type 0} (k : Keys B) (l : IsLawful k) where
  pub same_turned : (a b : Entry B) → same_entry k a b ≡ same_entry k b a
  same_turned a b = ap is_eq ((entry_total k l).antisymm a b) ∙ reversed_eq (entry_cmp k b a)

  -- what is gathered of those that pass
  pub has_gathered : (p : Entry B → Bool) (es : List (Entry B)) (x : Entry B) → has k x (gathered k (filter p es)) ≡ (p x && has k x es)
  has_gathered p es x = (set_that_is_gathered k l (filter p es)).members x ∙ has-filter k l p x es

  pub gathered_in_order : (es : List (Entry B)) → InOrder k (gathered k es)
  gathered_in_order es = (set_that_is_gathered k l es).in_order

  filters_agree : (p q : Entry B → Bool) (xs : List (Entry B)) → ((e : Entry B) → has k e xs ≡ true → p e ≡ q e) → filter p xs ≡ filter q xs
  filters_agree p q [] agree = refl
  filters_agree p q (x ∷ xs) agree =
      let first : p x ≡ q x = agree x (or_left (same_entry k x x) (has k x xs) (same_itself k l x)) in
      let rest : filter p xs ≡ filter q xs = filters_agree p q xs (λ e h. agree e (or_right (same_entry k e x) (has k e xs) h)) in
      λ i. cond (first i) (x ∷ rest i) (rest i)

  changes_agree : (old new : Entry B → Bool) (notes : List (Note B)) → ((e : Entry B) → has k e (entries_of notes) ≡ true → new e ≡ old e)
      → changes_of k new notes ≡ changes_of k old notes
  changes_agree old new notes agree =
      let added : gathered k (filter new (entries_of notes)) ≡ gathered k (filter old (entries_of notes)) =
      ap (gathered k) (filters_agree new old (entries_of notes) agree) in
      let taken : gathered k (filter (λ e. not (new e)) (entries_of notes)) ≡ gathered k (filter (λ e. not (old e)) (entries_of notes)) =
      ap (gathered k) (filters_agree (λ e. not (new e)) (λ e. not (old e)) (entries_of notes) (λ e h. ap not (agree e h))) in
      λ i. record { added = added i; taken = taken i }

  -- a slot is seen as before if what it noted is as live as before
  pub seen_alike : (old new : Entry B → Bool) (x : Slot B) → ((e : Entry B) → has k e (entries_of (notes_kept x)) ≡ true → new e ≡ old e)
      → session_of k new x ≡ session_of k old x
  seen_alike old new Free agree = refl
  seen_alike old new (Working locks notes call) agree = ap (λ (c : Changes B). Open locks c call) (changes_agree old new notes agree)
  seen_alike old new (Undoing locks notes) agree = refl
  seen_alike old new (Waiting number) agree = refl

  pub same_locks : (live : Entry B → Bool) (x : Slot B) → locks_of (session_of k live x) ≡ locks_held x
  same_locks live Free = refl
  same_locks live (Working locks notes call) = refl
  same_locks live (Undoing locks notes) = refl
  same_locks live (Waiting number) = refl

  module _ (e : Entry B) (live : Entry B → Bool) (old new : List (Note B)) where
    -- what is added and taken away once an entry is written
    had : (now : Bool) (p : Bool → Bool) → WithNote k e (not now) old new → (x : Entry B)
        → (p (marked k e now live x) && has k x (entries_of new)) ≡ (p (marked k e now live x) && (has k x (entries_of old) || same_entry k x e))
    had now p with_note x = ap (λ b. p (marked k e now live x) && b) (has_with_note k e (not now) old new with_note x)

    abbrev added : List (Entry B)
    added = (changes_of k live old).added

    abbrev taken : List (Entry B)
    taken = (changes_of k live old).taken

    has_added : (x : Entry B) → has k x added ≡ (live x && has k x (entries_of old))
    has_added x = has_gathered live (entries_of old) x

    has_taken : (x : Entry B) → has k x taken ≡ (not (live x) && has k x (entries_of old))
    has_taken x = has_gathered (λ z. not (live z)) (entries_of old) x

    has_one_more : (x : Entry B) (set : List (Entry B)) (b : Bool) → has k x set ≡ b → has k x (including k e set) ≡ (same_entry k x e || b)
    has_one_more x set b h = has-including k l x e set ∙ ap (λ t. same_entry k x e || t) h

    has_one_less : (x : Entry B) (set : List (Entry B)) (b : Bool) → has k x set ≡ b → has k x (excluding k e set) ≡ (not (same_entry k x e) && b)
    has_one_less x set b h =
        has-filter k l (λ z. not (same_entry k e z)) x set ∙ ap (λ t. not t && has k x set) (same_turned e x) ∙ ap (λ t. not (same_entry k x e) && t) h

    abbrev then_added : Bool → List (Entry B)
    then_added now = (changes_of k (marked k e now live) new).added

    abbrev then_taken : Bool → List (Entry B)
    then_taken now = (changes_of k (marked k e now live) new).taken

    has_then_added : (now : Bool) → WithNote k e (not now) old new → (x : Entry B)
        → has k x (then_added now) ≡ ((if same_entry k x e then now else live x) && (has k x (entries_of old) || same_entry k x e))
    has_then_added now with_note x = has_gathered (marked k e now live) (entries_of new) x ∙ had now (λ b. b) with_note x

    has_then_taken : (now : Bool) → WithNote k e (not now) old new → (x : Entry B)
        → has k x (then_taken now) ≡ (not (if same_entry k x e then now else live x) && (has k x (entries_of old) || same_entry k x e))
    has_then_taken now with_note x = has_gathered (λ z. not (marked k e now live z)) (entries_of new) x ∙ had now not with_note x

    in_order_less : (set : List (Entry B)) → InOrder k set → InOrder k (excluding k e set)
    in_order_less set o = in_order_filter k l (λ z. not (same_entry k e z)) set o

    pub inserted_changes : WithNote k e false old new
        → changes_of k (marked k e true live) new ≡ record { added = including k e added; taken = excluding k e taken }
    inserted_changes with_note =
        let more : then_added true ≡ including k e added = same_members_are_one_list k l (then_added true) (including k e added)
        (gathered_in_order (filter (marked k e true live) (entries_of new))) (in_order_including k l e added (gathered_in_order (filter live (entries_of old))))
        (λ x. has_then_added true with_note x ∙ inserted_added (same_entry k x e) (live x) (has k x (entries_of old))
        ∙ sym (has_one_more x added (live x && has k x (entries_of old)) (has_added x))) in
        let less : then_taken true ≡ excluding k e taken = same_members_are_one_list k l (then_taken true) (excluding k e taken)
        (gathered_in_order (filter (λ z. not (marked k e true live z)) (entries_of new))) (in_order_less taken (gathered_in_order (filter (λ z. not (live z)) (entries_of old))))
        (λ x. has_then_taken true with_note x ∙ inserted_taken (same_entry k x e) (live x) (has k x (entries_of old))
        ∙ sym (has_one_less x taken (not (live x) && has k x (entries_of old)) (has_taken x))) in
        λ i. record { added = more i; taken = less i }

    pub deleted_changes : WithNote k e true old new
        → changes_of k (marked k e false live) new ≡ record { added = excluding k e added; taken = including k e taken }
    deleted_changes with_note =
        let less : then_added false ≡ excluding k e added = same_members_are_one_list k l (then_added false) (excluding k e added)
        (gathered_in_order (filter (marked k e false live) (entries_of new))) (in_order_less added (gathered_in_order (filter live (entries_of old))))
        (λ x. has_then_added false with_note x ∙ deleted_added (same_entry k x e) (live x) (has k x (entries_of old))
        ∙ sym (has_one_less x added (live x && has k x (entries_of old)) (has_added x))) in
        let more : then_taken false ≡ including k e taken = same_members_are_one_list k l (then_taken false) (including k e taken)
        (gathered_in_order (filter (λ z. not (marked k e false live z)) (entries_of new))) (in_order_including k l e taken (gathered_in_order (filter (λ z. not (live z)) (entries_of old))))
        (λ x. has_then_taken false with_note x ∙ deleted_taken (same_entry k x e) (live x) (has k x (entries_of old))
        ∙ sym (has_one_more x taken (not (live x) && has k x (entries_of old)) (has_taken x))) in
        λ i. record { added = less i; taken = more i }

  -- what a transaction sees, by its notes
  pub viewed_members : (test : Entry B → Bool) (latest : List (Entry B)) (live : Entry B → Bool) (notes : List (Note B)) → IsSetOf k test latest → (x : Entry B)
      → has k x (view k latest (changes_of k live notes))
      ≡ ((live x && is_some (noted k x notes)) || (not (not (live x) && is_some (noted k x notes)) && test x))
  viewed_members test latest live notes is x =
      let more : has k x (changes_of k live notes).added ≡ (live x && is_some (noted k x notes)) =
      has_gathered live (entries_of notes) x ∙ ap (λ b. live x && b) (sym (noted_has k x notes)) in
      let less : has k x (changes_of k live notes).taken ≡ (not (live x) && is_some (noted k x notes)) =
      has_gathered (λ z. not (live z)) (entries_of notes) x ∙ ap (λ b. not (live x) && b) (sym (noted_has k x notes)) in
      let joined : (has k x (changes_of k live notes).added || (not (has k x (changes_of k live notes).taken) && test x))
      ≡ ((live x && is_some (noted k x notes)) || (not (not (live x) && is_some (noted k x notes)) && test x)) =
      λ i. more i || (not (less i) && test x) in
      (set_that_is_viewed k l test latest (changes_of k live notes) is).members x ∙ joined
