-- Sets as lists in order: what including, excluding and filters do to membership, order and answers.
use Rattle.std.proofs.Common.{◌≡◌, ℕ, Bool, true, false, not, cond, ◌&&◌, ◌||◌, List, [], ◌∷◌, refl, ap, sym, ◌∙◌}
use Rattle.std.specs.List.{filter}
use Rattle.std.specs.declared.cmp.Ordering.{Ordering}
use Rattle.std.specs.declared.cmp.Ordering.TheVariants.{Less, Equal, Greater}
use Rattle.std.specs.Ordering.{match_ordering, ordering_reverse, is_eq, nat_cmp}
use Rattle.std.specs.Cmp.{IsTotalOrder, nat_cmp_total, tied_itself}
use Rattle.std.proofs.Math.Bool.{and-false}
use Rattle.std.proofs.lemmas.Cmp.{then_total, on_total}
use Rattle.std.proofs.lemmas.Map.Lookups.{exact_pairs, exact_unsigned}
use Rattle.gx_machine.specs.declared.entry.Entry.{Entry}
use Rattle.gx_machine.specs.Keys.{Keys, IsLawful, entry_cmp, same_entry}
use Rattle.gx_machine.specs.Sets.{has, including, including_all, excluding_all, Before, InOrder}

module _ {B : Type 0} (k : Keys B) (l : IsLawful k) where
  pub entry_total : IsTotalOrder (entry_cmp k)
  entry_total = then_total (on_total (λ (e : Entry B). e.row) nat_cmp_total) (on_total (λ (e : Entry B). e.key) l.total)

  pub entry_exact : (a b : Entry B) → entry_cmp k a b ≡ Equal → a ≡ b
  entry_exact a b e =
      ap (λ (p : ℕ × B). record { row = p.0; key = p.1 }) (exact_pairs nat_cmp k.cmp exact_unsigned l.exact (a.row, a.key) (b.row, b.key) e)

  pub entry_itself : (a : Entry B) → entry_cmp k a a ≡ Equal
  entry_itself a = tied_itself entry_total a

  pub entry_turned : (a b : Entry B) → entry_cmp k a b ≡ Greater → entry_cmp k b a ≡ Less
  entry_turned a b e = entry_total.antisymm b a ∙ ap ordering_reverse e

  -- one step of including, by how the entry compares with the first
  pub including_by : (o : Ordering) (e x : Entry B) (xs : List (Entry B)) → entry_cmp k e x ≡ o
      → including k e (x ∷ xs) ≡ match_ordering o (e ∷ x ∷ xs) (x ∷ xs) (x ∷ including k e xs)
  including_by o e x xs h = ap (λ r. match_ordering r (e ∷ x ∷ xs) (x ∷ xs) (x ∷ including k e xs)) h

  pub before_through : (e x : Entry B) (xs : List (Entry B)) → entry_cmp k e x ≡ Less → Before k x xs → Before k e xs
  before_through e x [] h b = tt
  before_through e x (y ∷ ys) h b = (entry_total.trans e x y h b.0, before_through e x ys h b.1)

  -- what comes before all is put in front
  pub including_before : (e : Entry B) (set : List (Entry B)) → Before k e set → including k e set ≡ e ∷ set
  including_before e [] b = refl
  including_before e (x ∷ xs) b = including_by Less e x xs b.0

  pub before_filter : (p : Entry B → Bool) (e : Entry B) (xs : List (Entry B)) → Before k e xs → Before k e (filter p xs)
  before_filter p e [] b = tt
  before_filter p e (x ∷ xs) b =
      elim (p x) as (λ t. Before k e (cond t (x ∷ filter p xs) (filter p xs)))
      [ true ↦ (b.0, before_filter p e xs b.1) | false ↦ before_filter p e xs b.1 ]

  pub in_order_filter : (p : Entry B → Bool) (xs : List (Entry B)) → InOrder k xs → InOrder k (filter p xs)
  in_order_filter p [] o = tt
  in_order_filter p (x ∷ xs) o =
      elim (p x) as (λ t. InOrder k (cond t (x ∷ filter p xs) (filter p xs)))
      [ true ↦ (before_filter p x xs o.0, in_order_filter p xs o.1) | false ↦ in_order_filter p xs o.1 ]

  before_match : (e x : Entry B) (y : Entry B) (ys : List (Entry B)) (o : Ordering) → entry_cmp k x e ≡ Less → (entry_cmp k x y ≡ Less) × Before k x ys
      → Before k x (including k e ys) → Before k x (match_ordering o (e ∷ y ∷ ys) (y ∷ ys) (y ∷ including k e ys))
  before_match e x y ys Less h b rest = (h, b)
  before_match e x y ys Equal h b rest = b
  before_match e x y ys Greater h b rest = (b.0, rest)

  pub before_including : (e x : Entry B) (xs : List (Entry B)) → entry_cmp k x e ≡ Less → Before k x xs → Before k x (including k e xs)
  before_including e x [] h b = (h, tt)
  before_including e x (y ∷ ys) h b = before_match e x y ys (entry_cmp k e y) h b (before_including e x ys h b.1)

  in_order_match : (e x : Entry B) (xs : List (Entry B)) (o : Ordering) → entry_cmp k e x ≡ o → Before k x xs × InOrder k xs
      → InOrder k (including k e xs) → InOrder k (match_ordering o (e ∷ x ∷ xs) (x ∷ xs) (x ∷ including k e xs))
  in_order_match e x xs Less h o rest = ((h, before_through e x xs h o.0), o)
  in_order_match e x xs Equal h o rest = o
  in_order_match e x xs Greater h o rest = (before_including e x xs (entry_turned e x h) o.0, rest)

  pub in_order_including : (e : Entry B) (xs : List (Entry B)) → InOrder k xs → InOrder k (including k e xs)
  in_order_including e [] o = (tt, tt)
  in_order_including e (x ∷ xs) o = in_order_match e x xs (entry_cmp k e x) refl o (in_order_including e xs o.1)

  pub in_order_including_all : (plus set : List (Entry B)) → InOrder k set → InOrder k (including_all k plus set)
  in_order_including_all [] set o = o
  in_order_including_all (e ∷ plus) set o = in_order_including_all plus (including k e set) (in_order_including e set o)

  filter_tied : (p : Entry B → Bool) (e x : Entry B) (xs : List (Entry B)) (s t : Bool) → p e ≡ s → p x ≡ t → entry_cmp k e x ≡ Equal
      → cond t (x ∷ filter p xs) (filter p xs) ≡ cond s (including k e (cond t (x ∷ filter p xs) (filter p xs))) (cond t (x ∷ filter p xs) (filter p xs))
  filter_tied p e x xs true true a b h = sym (including_by Equal e x (filter p xs) h)
  filter_tied p e x xs true false a b h = let same : e ≡ x = entry_exact e x h in let agree : p e ≡ p x = ap p same in cc
  filter_tied p e x xs false t a b h = refl

  filter_passed : (p : Entry B → Bool) (e x : Entry B) (xs : List (Entry B)) (s t : Bool) → entry_cmp k e x ≡ Greater
      → filter p (including k e xs) ≡ cond s (including k e (filter p xs)) (filter p xs)
      → cond t (x ∷ filter p (including k e xs)) (filter p (including k e xs)) ≡ cond s (including k e (cond t (x ∷ filter p xs) (filter p xs))) (cond t (x ∷ filter p xs) (filter p xs))
  filter_passed p e x xs true true h rest = ap (λ (ys : List (Entry B)). x ∷ ys) rest ∙ sym (including_by Greater e x (filter p xs) h)
  filter_passed p e x xs false true h rest = ap (λ (ys : List (Entry B)). x ∷ ys) rest
  filter_passed p e x xs true false h rest = rest
  filter_passed p e x xs false false h rest = rest

  filter_match : (p : Entry B → Bool) (e x : Entry B) (xs : List (Entry B)) (o : Ordering) → entry_cmp k e x ≡ o → Before k x xs × InOrder k xs
      → filter p (including k e xs) ≡ cond (p e) (including k e (filter p xs)) (filter p xs)
      → filter p (match_ordering o (e ∷ x ∷ xs) (x ∷ xs) (x ∷ including k e xs)) ≡ cond (p e) (including k e (filter p (x ∷ xs))) (filter p (x ∷ xs))
  filter_match p e x xs Less h o rest =
      let first : including k e (filter p (x ∷ xs)) ≡ e ∷ filter p (x ∷ xs) = including_before e (filter p (x ∷ xs)) (before_filter p e (x ∷ xs) (h, before_through e x xs h o.0)) in
      ap (λ (s : List (Entry B)). cond (p e) s (filter p (x ∷ xs))) (sym first)
  filter_match p e x xs Equal h o rest = filter_tied p e x xs (p e) (p x) refl refl h
  filter_match p e x xs Greater h o rest = filter_passed p e x xs (p e) (p x) h rest

  -- what a filter keeps of a set with one more entry
  pub filter_including : (p : Entry B → Bool) (e : Entry B) (xs : List (Entry B)) → InOrder k xs
      → filter p (including k e xs) ≡ cond (p e) (including k e (filter p xs)) (filter p xs)
  filter_including p e [] o = refl
  filter_including p e (x ∷ xs) o = filter_match p e x xs (entry_cmp k e x) refl o (filter_including p e xs o.1)

  filter_one_more : (p : Entry B → Bool) (e : Entry B) (plus set : List (Entry B)) (t : Bool)
      → including_all k (filter p plus) (cond t (including k e (filter p set)) (filter p set)) ≡ including_all k (cond t (e ∷ filter p plus) (filter p plus)) (filter p set)
  filter_one_more p e plus set true = refl
  filter_one_more p e plus set false = refl

  pub filter_including_all : (p : Entry B → Bool) (plus set : List (Entry B)) → InOrder k set
      → filter p (including_all k plus set) ≡ including_all k (filter p plus) (filter p set)
  filter_including_all p [] set o = refl
  filter_including_all p (e ∷ plus) set o =
      filter_including_all p plus (including k e set) (in_order_including e set o)
      ∙ ap (including_all k (filter p plus)) (filter_including p e set o)
      ∙ filter_one_more p e plus set (p e)

  or_swap : (a b c : Bool) → (a || (b || c)) ≡ (b || (a || c))
  or_swap true true c = refl
  or_swap true false c = refl
  or_swap false b c = refl

  or_group : (a b c : Bool) → (a || (b || c)) ≡ ((a || b) || c)
  or_group true b c = refl
  or_group false b c = refl

  or_again : (a b : Bool) → (a || b) ≡ (a || (a || b))
  or_again true b = refl
  or_again false b = refl

  has_match : (e x y : Entry B) (ys : List (Entry B)) (o : Ordering) → entry_cmp k x y ≡ o → has k e (including k x ys) ≡ (same_entry k e x || has k e ys)
      → has k e (match_ordering o (x ∷ y ∷ ys) (y ∷ ys) (y ∷ including k x ys)) ≡ (same_entry k e x || (same_entry k e y || has k e ys))
  has_match e x y ys Less h rest = refl
  has_match e x y ys Equal h rest =
      or_again (same_entry k e y) (has k e ys) ∙ ap (λ (z : Entry B). same_entry k e z || (same_entry k e y || has k e ys)) (sym (entry_exact x y h))
  has_match e x y ys Greater h rest =
      ap (λ (b : Bool). same_entry k e y || b) rest ∙ or_swap (same_entry k e y) (same_entry k e x) (has k e ys)

  -- what a set has once an entry is included
  pub has-including : (e x : Entry B) (set : List (Entry B)) → has k e (including k x set) ≡ (same_entry k e x || has k e set)
  has-including e x [] = refl
  has-including e x (y ∷ ys) = has_match e x y ys (entry_cmp k x y) refl (has-including e x ys)

  pub has-including_all : (e : Entry B) (plus set : List (Entry B)) → has k e (including_all k plus set) ≡ (has k e plus || has k e set)
  has-including_all e [] set = refl
  has-including_all e (x ∷ plus) set =
      has-including_all e plus (including k x set) ∙ ap (λ (b : Bool). has k e plus || b) (has-including e x set)
      ∙ or_swap (has k e plus) (same_entry k e x) (has k e set) ∙ or_group (same_entry k e x) (has k e plus) (has k e set)

  equal_if : (o : Ordering) → is_eq o ≡ true → o ≡ Equal
  equal_if Less h = cc
  equal_if Equal h = refl
  equal_if Greater h = cc

  -- what tests as the same is the same
  pub same_is : (a b : Entry B) → same_entry k a b ≡ true → a ≡ b
  same_is a b h = entry_exact a b (equal_if (entry_cmp k a b) h)

  has_filter_match : (p : Entry B → Bool) (e x : Entry B) (xs : List (Entry B)) (s t : Bool) → p x ≡ t → same_entry k e x ≡ s
      → has k e (filter p xs) ≡ (p e && has k e xs) → has k e (cond t (x ∷ filter p xs) (filter p xs)) ≡ (p e && (s || has k e xs))
  has_filter_match p e x xs true true u v rest =
      ap (λ (b : Bool). b || has k e (filter p xs)) v ∙ sym (ap (λ (b : Bool). b && true) (ap p (same_is e x v) ∙ u))
  has_filter_match p e x xs true false u v rest =
      let fails : p e ≡ false = ap p (same_is e x v) ∙ u in
      rest ∙ ap (λ (b : Bool). b && has k e xs) fails ∙ sym (ap (λ (b : Bool). b && true) fails)
  has_filter_match p e x xs false true u v rest = ap (λ (b : Bool). b || has k e (filter p xs)) v ∙ rest
  has_filter_match p e x xs false false u v rest = rest

  pub has-filter : (p : Entry B → Bool) (e : Entry B) (xs : List (Entry B)) → has k e (filter p xs) ≡ (p e && has k e xs)
  has-filter p e [] = sym (and-false (p e))
  has-filter p e (x ∷ xs) = has_filter_match p e x xs (same_entry k e x) (p x) refl refl (has-filter p e xs)

  -- the view of a transaction has what it added, and what was committed and it didn't take away
  pub has-view : (e : Entry B) (latest plus minus : List (Entry B))
      → has k e (including_all k plus (excluding_all k minus latest)) ≡ (has k e plus || (not (has k e minus) && has k e latest))
  has-view e latest plus minus =
      has-including_all e plus (excluding_all k minus latest) ∙ ap (λ (b : Bool). has k e plus || b) (has-filter (λ x. not (has k x minus)) e latest)
