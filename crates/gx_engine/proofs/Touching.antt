-- What a transaction has touched, with one touch more.
use Rattle.std.proofs.Common.{◌≡◌, ◌≢◌, ◌∙◌, sym, ap, refl, ℕ, Bool, true, false, cond, List, [], ◌∷◌, map}
use Rattle.std.specs.Prelude.{◌==◌, filter}
use Rattle.std.specs.declared.cmp.Ordering.{Ordering}
use Rattle.std.specs.declared.cmp.Ordering.TheVariants.{Less, Equal, Greater}
use Rattle.std.specs.Cmp.{nat_cmp_total}
use Rattle.std.specs.Ordering.{match_ordering, ordering_then}
use Rattle.std.proofs.lemmas.Bool.{eq-eqb, ne_eqb}
use Rattle.std.proofs.lemmas.Cmp.{tied_itself}
use Rattle.gx_machine.specs.declared.entry.Entry.{Entry}
use Rattle.gx_machine.specs.Keys.{Keys, entry_cmp}
use Rattle.gx_recovery.specs.Known.{Known, IsLawful}
use Rattle.gx_recovery.specs.Records.{Touch}
use Rattle.gx_recovery.specs.Analysis.{touch_cmp, touching}
use Rattle.gx_recovery.proofs.Touches.{Before, InOrder, before_through, touch_exact}
use Rattle.gx_txn.specs.declared.note.Note.{Note}
use Rattle.gx_txn.specs.Notes.{noting}
use Rattle.gx_engine.specs.Noted.{touch_by, touched_by}

module _ {E P : Type 0} (k : Known E P) (l : IsLawful k) where
  -- a touch that comes before each of a list comes before each of its parts, and goes in front
  before_some : (test : Touch E → Bool) (x : Touch E) (ys : List (Touch E)) → Before k x ys → Before k x (filter test ys)
  before_some test x [] before = tt
  before_some test x (y ∷ ys) before =
      elim (test y) as (λ b. Before k x (cond b (y ∷ filter test ys) (filter test ys)))
      [ true ↦ (before.0, before_some test x ys before.1) | false ↦ before_some test x ys before.1 ]

  in_front : (x : Touch E) (ys : List (Touch E)) → Before k x ys → touching k x ys ≡ x ∷ ys
  in_front x [] before = refl
  in_front x (y ∷ ys) before = ap (λ o. match_ordering o (x ∷ y ∷ ys) (record y { leaf = x.leaf } ∷ ys) (y ∷ touching k x ys)) before.0

  module _ (t : ℕ) where
    abbrev its : List (Touch E) → List (Touch E)
    its xs = touched_by t xs

    abbrev first_if : Bool → Touch E → List (Touch E) → List (Touch E)
    first_if b y rest = cond b (y ∷ rest) rest

    other_by : (x y : Touch E) (ys : List (Touch E)) (o : Ordering) → x.transaction ≢ t → touch_cmp k x y ≡ o → its (touching k x ys) ≡ its ys
        → its (match_ordering o (x ∷ y ∷ ys) (record y { leaf = x.leaf } ∷ ys) (y ∷ touching k x ys)) ≡ its (y ∷ ys)
    other_by x y ys Less ne is rest = ap (λ b. first_if b x (its (y ∷ ys))) (ne_eqb x.transaction t ne)
    other_by x y ys Equal ne is rest =
        let other : (y.transaction == t) ≡ false = ne_eqb y.transaction t (λ same. ne ((touch_exact k l x y is).0 ∙ same)) in
        ap (λ b. first_if b (record y { leaf = x.leaf }) (its ys)) other ∙ sym (ap (λ b. first_if b y (its ys)) other)
    other_by x y ys Greater ne is rest = ap (λ (zs : List (Touch E)). first_if (y.transaction == t) y zs) rest

    -- a touch of another transaction
    pub touching_other : (x : Touch E) (xs : List (Touch E)) → x.transaction ≢ t → its (touching k x xs) ≡ its xs
    touching_other x [] ne = ap (λ b. first_if b x []) (ne_eqb x.transaction t ne)
    touching_other x (y ∷ ys) ne = other_by x y ys (touch_cmp k x y) ne refl (touching_other x ys ne)

    at_by : (x y : Touch E) (zs : List (Touch E)) (o : Ordering) → touch_cmp k x y ≡ o
        → touching k x (y ∷ zs) ≡ match_ordering o (x ∷ y ∷ zs) (record y { leaf = x.leaf } ∷ zs) (y ∷ touching k x zs)
    at_by x y zs o is = ap (λ p. match_ordering p (x ∷ y ∷ zs) (record y { leaf = x.leaf } ∷ zs) (y ∷ touching k x zs)) is

    own_by : (x y : Touch E) (ys : List (Touch E)) (o : Ordering) → x.transaction ≡ t → touch_cmp k x y ≡ o → Before k y ys
        → its (touching k x ys) ≡ touching k x (its ys)
        → its (match_ordering o (x ∷ y ∷ ys) (record y { leaf = x.leaf } ∷ ys) (y ∷ touching k x ys)) ≡ touching k x (its (y ∷ ys))
    own_by x y ys Less own is before rest =
        let all : Before k x (y ∷ ys) = (is, before_through k l x y ys is before) in
        ap (λ b. first_if b x (its (y ∷ ys))) (eq-eqb x.transaction t own)
        ∙ sym (in_front x (its (y ∷ ys)) (before_some (λ z. z.transaction == t) x (y ∷ ys) all))
    own_by x y ys Equal own is before rest =
        let here : (y.transaction == t) ≡ true = eq-eqb y.transaction t (sym (touch_exact k l x y is).0 ∙ own) in
        ap (λ b. first_if b (record y { leaf = x.leaf }) (its ys)) here
        ∙ sym (ap (λ b. touching k x (first_if b y (its ys))) here ∙ at_by x y (its ys) Equal is)
    own_by x y ys Greater own is before rest =
        ap (λ (zs : List (Touch E)). first_if (y.transaction == t) y zs) rest
        ∙ elim (y.transaction == t) as (λ b. first_if b y (touching k x (its ys)) ≡ touching k x (first_if b y (its ys))) [ true ↦ sym (at_by x y (its ys) Greater is) | false ↦ refl ]

    -- a transaction's own touch
    pub touching_own : (x : Touch E) (xs : List (Touch E)) → x.transaction ≡ t → InOrder k xs → its (touching k x xs) ≡ touching k x (its xs)
    touching_own x [] own order = ap (λ b. first_if b x []) (eq-eqb x.transaction t own)
    touching_own x (y ∷ ys) own order = own_by x y ys (touch_cmp k x y) own refl order.0 (touching_own x ys own order.1)

-- a transaction's touch more is a note more
module _ {B P : Type 0} (keys : Keys B) (k : Known (Entry B) P) (cmp : k.cmp ≡ entry_cmp keys) (t : ℕ) where
  same_cmp : (m n : Note B) → touch_cmp k (touch_by t m) (touch_by t n) ≡ entry_cmp keys m.entry n.entry
  same_cmp m n =
      ap (λ o. ordering_then o (k.cmp m.entry n.entry)) (tied_itself nat_cmp_total t)
      ∙ ap (λ (f : Entry B → Entry B → Ordering). f m.entry n.entry) cmp

  noted_by : (m n : Note B) (ns : List (Note B)) (o : Ordering) → touching k (touch_by t m) (map (touch_by t) ns) ≡ map (touch_by t) (noting keys m ns)
      → match_ordering o (touch_by t m ∷ touch_by t n ∷ map (touch_by t) ns) (record (touch_by t n) { leaf = m.leaf } ∷ map (touch_by t) ns)
      (touch_by t n ∷ touching k (touch_by t m) (map (touch_by t) ns))
      ≡ map (touch_by t) (match_ordering o (m ∷ n ∷ ns) (record n { leaf = m.leaf } ∷ ns) (n ∷ noting keys m ns))
  noted_by m n ns Less rest = refl
  noted_by m n ns Equal rest = refl
  noted_by m n ns Greater rest = ap (λ (xs : List (Touch (Entry B))). touch_by t n ∷ xs) rest

  pub touching_notes : (m : Note B) (notes : List (Note B)) → touching k (touch_by t m) (map (touch_by t) notes) ≡ map (touch_by t) (noting keys m notes)
  touching_notes m [] = refl
  touching_notes m (n ∷ ns) =
      ap (λ o. match_ordering o (touch_by t m ∷ touch_by t n ∷ map (touch_by t) ns) (record (touch_by t n) { leaf = m.leaf } ∷ map (touch_by t) ns)
      (touch_by t n ∷ touching k (touch_by t m) (map (touch_by t) ns))) (same_cmp m n)
      ∙ noted_by m n ns (entry_cmp keys m.entry n.entry) (touching_notes m ns)
