-- A claim and a note keep what is held in its shape, and there is room for each.
use Rattle.std.proofs.Common.{◌≡◌, ℕ, ◌+◌, ◌<◌, ◌≤◌, true, List, [], ◌∷◌, length, get_or, ap, sym, ◌∙◌, subst, arith, insert}
use Rattle.std.specs.Prelude.{slice_set}
use Rattle.std.specs.declared.cmp.Ordering.{Ordering}
use Rattle.std.specs.declared.cmp.Ordering.TheVariants.{Less, Equal, Greater}
use Rattle.std.specs.Ordering.{match_ordering}
use Rattle.std.proofs.lemmas.List.{length-map}
use Rattle.std.proofs.lemmas.List.Edits.{length-insert}
use Rattle.gx_machine.specs.declared.limits.TheConstants.{MAX_CLAIMS}
use Rattle.gx_machine.specs.declared.entry.Entry.{Entry}
use Rattle.gx_machine.specs.declared.query.Query.{Query}
use Rattle.gx_machine.specs.Keys.{Keys, IsLawful, entry_cmp}
use Rattle.gx_machine.specs.Sets.{has, including, InOrder}
use Rattle.gx_machine.specs.Invariants.{Covered}
use Rattle.gx_machine.proofs.SetLaws.{in_order_including}
use Rattle.gx_machine.proofs.SessionMoves.{included_covers, covered_including}
use Rattle.gx_machine.proofs.Covers.{length-covered}
use Rattle.gx_txn.specs.declared.note.Note.{Note}
use Rattle.gx_txn.specs.Notes.{entries_of, noting}
use Rattle.gx_txn.specs.Tables.{Held, IsKept, with_locks, with_notes}
use Rattle.gx_txn.proofs.Noted.{entries_of-noting}

module _ {B : Type 0} (k : Keys B) (l : IsLawful k) where
  length_match : (e x : Entry B) (xs : List (Entry B)) (o : Ordering) → length (including k e xs) ≤ length xs + 1
      → length (match_ordering o (e ∷ x ∷ xs) (x ∷ xs) (x ∷ including k e xs)) ≤ length (x ∷ xs) + 1
  length_match e x xs Less h = omega arith
  length_match e x xs Equal h = omega arith
  length_match e x xs Greater h = omega arith

  length-including : (e : Entry B) (xs : List (Entry B)) → length (including k e xs) ≤ length xs + 1
  length-including e [] = omega arith
  length-including e (x ∷ xs) = length_match e x xs (entry_cmp k e x) (length-including e xs)

  -- one more claim, if there is a place for it
  pub kept_with_claim : (e : Entry B) (h : Held B) → IsKept k h → length h.locks.claims < MAX_CLAIMS
      → IsKept k (with_locks (record h.locks { claims = including k e h.locks.claims }) h)
  kept_with_claim e h kept room = record {
    claims_in_order = in_order_including k l e h.locks.claims kept.claims_in_order;
    notes_in_order = kept.notes_in_order;
    noted_is_claimed = λ x there. included_covers k l e h.locks.claims x (kept.noted_is_claimed x there);
    few = omega (arith, length-including e h.locks.claims);
  }

  -- one more write of a claimed entry
  pub kept_with_note : (n : Note B) (h : Held B) → IsKept k h → has k n.entry h.locks.claims ≡ true
      → IsKept k (with_notes (noting k n h.notes) h)
  kept_with_note n h kept claimed = record {
    claims_in_order = kept.claims_in_order;
    notes_in_order = subst (λ (es : List (Entry B)). InOrder k es) (sym (entries_of-noting k n h.notes))
        (in_order_including k l n.entry (entries_of h.notes) kept.notes_in_order);
    noted_is_claimed = subst (λ (es : List (Entry B)). Covered k es h.locks.claims) (sym (entries_of-noting k n h.notes))
        (covered_including k l n.entry (entries_of h.notes) h.locks.claims claimed kept.noted_is_claimed);
    few = kept.few;
  }

  -- there are never more notes than claims
  pub few_notes : (h : Held B) → IsKept k h → length h.notes ≤ length h.locks.claims
  few_notes h kept =
      omega (arith, length-covered k l (entries_of h.notes) h.locks.claims kept.notes_in_order kept.noted_is_claimed, length-map h.notes (λ (n : Note B). n.entry))

  -- so there is room for the note of a claimed entry that isn't noted
  pub note_fits : (n : Note B) (h : Held B) (i : ℕ) → IsKept k h → has k n.entry h.locks.claims ≡ true → i ≤ length h.notes
      → noting k n h.notes ≡ insert h.notes i n → length h.notes < MAX_CLAIMS
  note_fits n h i kept claimed within put =
      let new = kept_with_note n h kept claimed in
      omega (arith, few_notes (with_notes (noting k n h.notes) h) new, ap (λ (ns : List (Note B)). length ns) put, length-insert h.notes i n within, kept.few)

  module _ (claims : List (Entry B)) (predicates : List (Query B)) (notes : List (Note B)) (h : Held B)
      (is : ◌≡◌ {A = Held B} (record { locks = record { claims = claims; predicates = predicates }; notes = notes }) h)
      (kept : IsKept k (record { locks = record { claims = claims; predicates = predicates }; notes = notes })) where
    old : Held B
    old = record { locks = record { claims = claims; predicates = predicates }; notes = notes }

    -- the claims with an entry put where a search found its place
    pub claim_put : (e : Entry B) (new : List (Entry B)) (i spent : ℕ) → length h.locks.claims ≤ spent → spent < MAX_CLAIMS
        → including k e claims ≡ insert claims i e → new ≡ insert claims i e
        → IsKept k (record { locks = record { claims = new; predicates = predicates }; notes = notes })
    unfolding old
    claim_put e new i spent few room place put =
        let counted : length claims ≡ length h.locks.claims = ap (λ (x : Held B). length x.locks.claims) is in
        subst (λ (es : List (Entry B)). IsKept k (record { locks = record { claims = es; predicates = predicates }; notes = notes })) (place ∙ sym put)
        (kept_with_claim e old kept (omega arith))

    claimed_old : (e : Entry B) → has k e h.locks.claims ≡ true → has k e claims ≡ true
    claimed_old e claimed = ap (λ (x : Held B). has k e x.locks.claims) is ∙ claimed

    -- the notes with a write noted where a search found its place, or changed there
    pub note_put : (n : Note B) (new : List (Note B)) → has k n.entry h.locks.claims ≡ true → noting k n notes ≡ new
        → IsKept k (record { locks = record { claims = claims; predicates = predicates }; notes = new })
    unfolding old
    note_put n new claimed new_is =
        subst (λ (ns : List (Note B)). IsKept k (record { locks = record { claims = claims; predicates = predicates }; notes = ns })) new_is
        (kept_with_note n old kept (claimed_old n.entry claimed))

    -- there is room if the place is a gap
    pub room_for_note : (n : Note B) (searched : List (Note B)) (i : ℕ) → has k n.entry h.locks.claims ≡ true → searched ≡ notes
        → i ≤ length searched → noting k n searched ≡ insert searched i n → length notes < MAX_CLAIMS
    unfolding old
    room_for_note n searched i claimed same within place =
        note_fits n old i kept (claimed_old n.entry claimed) (subst (λ (ns : List (Note B)). i ≤ length ns) same within)
        (subst (λ (ns : List (Note B)). noting k n ns ≡ insert ns i n) same place)

-- what a search found of the searched list holds of the same list
pub found_in : {B : Type 0} (k : Keys B) (n : Note B) (searched notes new : List (Note B)) (i : ℕ) → searched ≡ notes
    → noting k n searched ≡ insert searched i n → new ≡ insert notes i n → noting k n notes ≡ new
found_in k n searched notes new i same place put =
    ap (noting k n) (sym same) ∙ place ∙ ap (λ (ns : List (Note _)). insert ns i n) same ∙ sym put

pub changed_in : {B : Type 0} (k : Keys B) (n x : Note B) (searched notes : List (Note B)) (i : ℕ) → searched ≡ notes → x ≡ get_or notes i x
    → noting k n searched ≡ slice_set searched i (record (get_or searched i x) { leaf = n.leaf })
    → noting k n notes ≡ slice_set notes i (record x { leaf = n.leaf })
changed_in k n x searched notes i same at place =
    ap (noting k n) (sym same) ∙ place ∙ ap (λ (ns : List (Note _)). slice_set ns i (record (get_or ns i x) { leaf = n.leaf })) same
    ∙ ap (λ (y : Note _). slice_set notes i (record y { leaf = n.leaf })) (sym at)
