-- Notes in order, and a note by halves.
use Rattle.std.proofs.Common.{◌≡◌, ◌≢◌, ℕ, zero, suc, ◌+◌, ◌-◌, ◌<◌, ◌≤◌, ◌==◌, true, false, ◌⊎◌, inl, inr, List, [], ◌∷◌, length, get_or, set, Some, refl, ap, sym, ◌∙◌, subst, arith}
use Rattle.std.specs.Prelude.{slice_get}
use Rattle.std.specs.Cmp.{IsTotalOrder}
use Rattle.std.specs.Ordering.{is_eq, ordering_reverse}
use Rattle.std.specs.declared.cmp.Ordering.{Ordering}
use Rattle.std.specs.declared.cmp.Ordering.TheVariants.{Less, Equal, Greater}
use Rattle.std.proofs.lemmas.Bool.{cases_eq, cases_lt, ne_eqb, eq-eqb}
use Rattle.std.proofs.lemmas.Cmp.{alike_right}
use Rattle.std.proofs.lemmas.List.{get_or-set_same, get_or-set_other}
use Rattle.std.proofs.lemmas.Option.{slice_get_within, slice_get_read}
use Rattle.gx_node.specs.Lists.{Each}
use Rattle.gx_legality.specs.declared.notes.NotedPair.{NotedPair}
use Rattle.gx_legality.specs.declared.notes.NoteStage.{NoteStage}
use Rattle.gx_legality.specs.declared.notes.NoteStage.TheVariants.{Ahead, Reached, Found}
use Rattle.gx_legality.specs.Gathered.{Ascends}
use Rattle.gx_legality.specs.Placing.{Moves, is_noted, meets, noted, stage_at}
use Rattle.gx_legality.proofs.Counted.{each_later}

module _ {E : Type 0} where
  each_noted : (P : E → Type 0) (notes : List (NotedPair E)) (k : ℕ) (m : NotedPair E) → Each P (noted notes) → slice_get notes k ≡ Some m → P m.entry
  each_noted P [] k m each at = absurd (cc)
  each_noted P (n ∷ notes) zero m each at = let same : n ≡ m = cc in subst (λ (n : NotedPair E). P n.entry) same each.0
  each_noted P (n ∷ notes) (suc k) m each at = each_noted P notes k m each.1 at

  pub one_note : (notes : List (NotedPair E)) (k : ℕ) (n m : NotedPair E) → slice_get notes k ≡ Some n → slice_get notes k ≡ Some m → n ≡ m
  one_note notes k n m at here = cc

  -- what is read at a place is there
  pub note_at : (notes : List (NotedPair E)) (k : ℕ) (n : NotedPair E) → k < length notes → n ≡ get_or notes k n → slice_get notes k ≡ Some n
  note_at notes k n low is = slice_get_read notes (length notes) k n refl low is

module _ {E : Type 0} (cmp : E → E → Ordering) (o : IsTotalOrder cmp) where
  pub noted_less : (notes : List (NotedPair E)) (j k : ℕ) (n m : NotedPair E) → Ascends cmp (noted notes) → j < k
      → slice_get notes j ≡ Some n → slice_get notes k ≡ Some m → cmp n.entry m.entry ≡ Less
  noted_less [] j k n m up low at next = absurd (cc)
  noted_less (x ∷ notes) j zero n m up low at next = absurd (omega arith)
  noted_less (x ∷ notes) zero (suc k) n m up low at next =
      let same : x ≡ n = cc in
      subst (λ (n : NotedPair E). cmp n.entry m.entry ≡ Less) same (each_noted (λ y. cmp x.entry y ≡ Less) notes k m up.0 next)
  noted_less (x ∷ notes) (suc j) (suc k) n m up low at next = noted_less notes j k n m up.1 (omega arith) at next

  pub noted_rises : (notes : List (NotedPair E))
      → ((j k : ℕ) (n m : NotedPair E) → suc j ≡ k → slice_get notes j ≡ Some n → slice_get notes k ≡ Some m → cmp n.entry m.entry ≡ Less) → Ascends cmp (noted notes)
  noted_rises [] up = tt
  noted_rises (x ∷ []) up = (tt, tt)
  noted_rises (x ∷ y ∷ ys) up =
      let first : cmp x.entry y.entry ≡ Less = up 0 1 x y refl refl refl in
      let rest : Ascends cmp (noted (y ∷ ys)) = noted_rises (y ∷ ys) (λ j k n m next at here. up (suc j) (suc k) n m (ap suc next) at here) in
      ((first, each_later cmp o x.entry y.entry (noted ys) first rest.0), rest)

  -- one neighbour more
  pub rises_more : (notes : List (NotedPair E)) (at : ℕ) (x y : NotedPair E) → slice_get notes (at - 1) ≡ Some x → slice_get notes at ≡ Some y
      → cmp x.entry y.entry ≡ Less
      → ((j k : ℕ) (n m : NotedPair E) → suc j ≡ k → k < at → slice_get notes j ≡ Some n → slice_get notes k ≡ Some m → cmp n.entry m.entry ≡ Less)
      → (j k : ℕ) (n m : NotedPair E) → suc j ≡ k → k < at + 1 → slice_get notes j ≡ Some n → slice_get notes k ≡ Some m → cmp n.entry m.entry ≡ Less
  rises_more notes at x y first second less before j k n m next low here there = elim (cases_eq k at) [
    | inl same ↦
        let one : j ≡ at - 1 = omega (arith, next, same) in
        let left : x ≡ n = one_note notes (at - 1) x n first (subst (λ i. slice_get notes i ≡ Some n) one here) in
        let right : y ≡ m = one_note notes at y m second (subst (λ i. slice_get notes i ≡ Some m) same there) in
        subst (λ (n : NotedPair E). cmp n.entry m.entry ≡ Less) left (subst (λ (m : NotedPair E). cmp x.entry m.entry ≡ Less) right less)
    | inr ne ↦ before j k n m next (omega (arith, ne, low)) here there
  ]

  -- all neighbours were seen
  pub all_rise : (notes : List (NotedPair E)) (at : ℕ) → length notes ≤ at
      → ((j k : ℕ) (n m : NotedPair E) → suc j ≡ k → k < at → slice_get notes j ≡ Some n → slice_get notes k ≡ Some m → cmp n.entry m.entry ≡ Less)
      → Ascends cmp (noted notes)
  all_rise notes at all rise =
      noted_rises notes (λ j k n m next here there. rise j k n m next (let low = slice_get_within notes k m there in omega (arith, low, all)) here there)

  later : (a b : E) → cmp a b ≡ Less → cmp b a ≡ Greater
  later a b is = o.antisymm b a ∙ ap ordering_reverse is

  earlier : (a b : E) → cmp a b ≡ Greater → cmp b a ≡ Less
  earlier a b is = o.antisymm b a ∙ ap ordering_reverse is

  -- what comes before the middle, if the middle comes before the entry
  pub before_middle : (notes : List (NotedPair E)) (e : E) (at i : ℕ) (n m : NotedPair E) → Ascends cmp (noted notes) → slice_get notes at ≡ Some n
      → cmp n.entry e ≡ Less → i < at + 1 → slice_get notes i ≡ Some m → cmp m.entry e ≡ Less
  before_middle notes e at i n m up there less low here = elim (cases_eq i at) [
    | inl same ↦
        let one : n ≡ m = one_note notes at n m there (subst (λ k. slice_get notes k ≡ Some m) same here) in
        subst (λ (n : NotedPair E). cmp n.entry e ≡ Less) one less
    | inr ne ↦ o.trans m.entry n.entry e (noted_less notes i at m n up (omega (arith, ne, low)) here there) less
  ]

  -- and what comes after it, if it comes after the entry
  pub after_middle : (notes : List (NotedPair E)) (e : E) (at i : ℕ) (n m : NotedPair E) → Ascends cmp (noted notes) → slice_get notes at ≡ Some n
      → cmp n.entry e ≡ Greater → at ≤ i → slice_get notes i ≡ Some m → cmp m.entry e ≡ Greater
  after_middle notes e at i n m up there greater high here = elim (cases_eq i at) [
    | inl same ↦
        let one : n ≡ m = one_note notes at n m there (subst (λ k. slice_get notes k ≡ Some m) same here) in
        subst (λ (n : NotedPair E). cmp n.entry e ≡ Greater) one greater
    | inr ne ↦ later e m.entry (o.trans e n.entry m.entry (earlier n.entry e greater) (noted_less notes at i n m up (omega (arith, ne, high)) there here))
  ]

  is_none : (x e : E) (r : Ordering) → cmp x e ≡ r → is_eq r ≡ false → is_eq (cmp e x) ≡ false
  is_none x e r is none = ap is_eq (o.antisymm e x ∙ ap ordering_reverse is) ∙ by_case r none
    where
      by_case : (r : Ordering) → is_eq r ≡ false → is_eq (ordering_reverse r) ≡ false
      by_case Less none = refl
      by_case Equal none = none
      by_case Greater none = refl

  -- no note is left between what comes before the entry and what comes after it
  pub none_noted : (notes : List (NotedPair E)) (e : E) (low high : ℕ) → high ≤ low
      → ((i : ℕ) (m : NotedPair E) → i < low → slice_get notes i ≡ Some m → cmp m.entry e ≡ Less)
      → ((i : ℕ) (m : NotedPair E) → high ≤ i → slice_get notes i ≡ Some m → cmp m.entry e ≡ Greater)
      → (i : ℕ) (m : NotedPair E) → slice_get notes i ≡ Some m → is_noted cmp m e ≡ false
  none_noted notes e low high met before after i m here = elim (cases_lt i low) [
    | inl less ↦ is_none m.entry e Less (before i m less here) refl
    | inr more ↦ is_none m.entry e Greater (after i m (omega (arith, more, met)) here) refl
  ]

  -- a note that is the entry's is the only one
  pub only_noted : (notes : List (NotedPair E)) (e : E) (at : ℕ) (n : NotedPair E) → Ascends cmp (noted notes) → slice_get notes at ≡ Some n
      → cmp n.entry e ≡ Equal → (i : ℕ) (m : NotedPair E) → slice_get notes i ≡ Some m → is_noted cmp m e ≡ (i == at)
  only_noted notes e at n up there same i m here = elim (cases_eq i at) [
    | inl is ↦
        let one : n ≡ m = one_note notes at n m there (subst (λ k. slice_get notes k ≡ Some m) is here) in
        let equal : cmp m.entry e ≡ Equal = subst (λ (n : NotedPair E). cmp n.entry e ≡ Equal) one same in
        ap is_eq (o.antisymm e m.entry ∙ ap ordering_reverse equal) ∙ sym (eq-eqb i at is)
    | inr ne ↦ is_none m.entry e (cmp m.entry e) refl (by_side (sides i at ne)) ∙ sym (ne_eqb i at ne)
  ]
    where
      sides : (i at : ℕ) → i ≢ at → (i < at) ⊎ (at < i)
      sides i at ne = elim (cases_lt i at) [ inl less ↦ inl less | inr more ↦ inr (omega (arith, ne, more)) ]

      by_side : (i < at) ⊎ (at < i) → is_eq (cmp m.entry e) ≡ false
      by_side (inl low) =
          let less : cmp m.entry n.entry ≡ Less = noted_less notes i at m n up low here there in
          ap is_eq (sym (alike_right o n.entry e m.entry same) ∙ less)
      by_side (inr high) =
          let less : cmp n.entry m.entry ≡ Less = noted_less notes at i n m up high there here in
          ap is_eq (later e m.entry (sym (o.congr n.entry e m.entry same) ∙ less))

  -- nothing changes if no note is the entry's
  pub meets_none : (notes : List (NotedPair E)) (stages : List NoteStage) (e : E)
      → ((i : ℕ) (n : NotedPair E) → slice_get notes i ≡ Some n → is_noted cmp n e ≡ false) → Moves (λ n s. meets (is_noted cmp n e) s) notes stages stages
  meets_none notes stages e none i n here = sym (ap (λ b. meets b (stage_at stages i)) (none i n here) ∙ not_met (stage_at stages i))
    where
      not_met : (s : NoteStage) → meets false s ≡ s
      not_met Ahead = refl
      not_met Reached = refl
      not_met Found = refl

  -- and one stage if one is
  pub meets_one : (notes : List (NotedPair E)) (stages : List NoteStage) (e : E) (at : ℕ) (s was : NoteStage) → at < length stages → was ≡ stage_at stages at
      → s ≡ meets true was
      → ((i : ℕ) (n : NotedPair E) → slice_get notes i ≡ Some n → is_noted cmp n e ≡ (i == at)) → Moves (λ n s. meets (is_noted cmp n e) s) notes stages (set stages at s)
  meets_one notes stages e at s was low old is one i n here = elim (cases_eq i at) [
    | inl same ↦
        let first : stage_at (set stages at s) i ≡ s = ap (λ k. stage_at (set stages at s) k) same ∙ get_or-set_same stages at s Ahead low in
        let yes : is_noted cmp n e ≡ true = one i n here ∙ eq-eqb i at same in
        first ∙ is ∙ ap (meets true) (old ∙ ap (stage_at stages) (sym same)) ∙ ap (λ b. meets b (stage_at stages i)) (sym yes)
    | inr ne ↦
        let first : stage_at (set stages at s) i ≡ stage_at stages i = get_or-set_other stages at i s Ahead ne in
        let no : is_noted cmp n e ≡ false = one i n here ∙ ne_eqb i at ne in
        first ∙ sym (not_met (stage_at stages i)) ∙ ap (λ b. meets b (stage_at stages i)) (sym no)
  ]
    where
      not_met : (s : NoteStage) → meets false s ≡ s
      not_met Ahead = refl
      not_met Reached = refl
      not_met Found = refl
