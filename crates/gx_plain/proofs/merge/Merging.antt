-- Sets merged in one pass: entries are put in from the greatest down, and what follows each moves up.
use Rattle.std.proofs.Common.{◌≡◌, ℕ, zero, suc, ◌+◌, ◌-◌, ◌<◌, ◌≤◌, Bool, true, false, ◌||◌, List, [], ◌∷◌, ◌++◌, length, take, drop, refl, ap, sym, subst, ◌∙◌, arith, set, get_or, true≢false}
use Rattle.std.specs.Prelude.{Some, None, slice_get, unwrap_or, is_none}
use Rattle.std.specs.List.{list_any}
use Rattle.std.proofs.lemmas.Option.{get_or_from_slice_get}
use Rattle.std.proofs.lemmas.List.{take-append-le, take-append-drop, take-take, drop-take, take-set-le, drop-set, length-take-le, length-drop, take_more, append_assoc}
use Rattle.std.proofs.lemmas.List.Edits.{length-paste}
use Rattle.std.proofs.Math.Seq.{paste, drop-append_seam}
use Rattle.std.specs.declared.cmp.Ordering.{Ordering}
use Rattle.std.specs.declared.cmp.Ordering.TheVariants.{Less, Equal, Greater}
use Rattle.std.specs.Ordering.{ordering_reverse}
use Rattle.gx_machine.specs.declared.entry.Entry.{Entry}
use Rattle.gx_machine.specs.Keys.{Keys, IsLawful, entry_cmp, same_entry}
use Rattle.gx_machine.specs.Sets.{has, including, including_all, Before, InOrder}
use Rattle.gx_machine.specs.Orders.{Below}
use Rattle.gx_machine.proofs.SetLaws.{entry_total, including_by, including_before}

some_same : {A : Type 0} {x y : A} → Some x ≡ Some y → x ≡ y
some_same {A} {x} e = ap (λ o. unwrap_or o x) e

some_not_none : {A : Type 0} {y : A} → None ≡ Some y → ⊥
some_not_none e = true≢false (ap is_none e)

-- a place that has an entry is in the list
place_within : {A : Type 0} (xs : List A) (i : ℕ) (x : A) → slice_get xs i ≡ Some x → i < length xs
place_within [] i x at = absurd (some_not_none at)
place_within (y ∷ ys) zero x at = omega arith
place_within (y ∷ ys) (suc i) x at = let less : i < length ys = place_within ys i x at in omega arith

module _ {B : Type 0} (k : Keys B) (l : IsLawful k) where
  -- an entry that comes before all of a tail is put in the part in front of it
  behind_by : (a z : Entry B) (zs ys : List (Entry B)) (o : Ordering) → entry_cmp k a z ≡ o → including k a (zs ++ ys) ≡ including k a zs ++ ys
      → including k a (z ∷ (zs ++ ys)) ≡ including k a (z ∷ zs) ++ ys
  behind_by a z zs ys Less h rest = including_by k l Less a z (zs ++ ys) h ∙ sym (ap (λ s. s ++ ys) (including_by k l Less a z zs h))
  behind_by a z zs ys Equal h rest = including_by k l Equal a z (zs ++ ys) h ∙ sym (ap (λ s. s ++ ys) (including_by k l Equal a z zs h))
  behind_by a z zs ys Greater h rest =
      including_by k l Greater a z (zs ++ ys) h ∙ ap (λ s. z ∷ s) rest ∙ sym (ap (λ s. s ++ ys) (including_by k l Greater a z zs h))

  behind : (a : Entry B) (zs ys : List (Entry B)) → Before k a ys → including k a (zs ++ ys) ≡ including k a zs ++ ys
  behind a [] ys b = including_before k l a ys b
  behind a (z ∷ zs) ys b = behind_by a z zs ys (entry_cmp k a z) refl (behind a zs ys b)

  before_all_through : (a e : Entry B) (ys : List (Entry B)) → entry_cmp k a e ≡ Less → Before k e ys → Before k a ys
  before_all_through a e [] h b = tt
  before_all_through a e (y ∷ ys) h b = ((entry_total k l).trans a e y h b.0, before_all_through a e ys h b.1)

  -- entries that come before all of a tail are put in the part in front of it
  pub all_behind : (e : Entry B) (more zs ys : List (Entry B)) → Below k e more → Before k e ys → including_all k more (zs ++ ys) ≡ including_all k more zs ++ ys
  all_behind e [] zs ys b c = refl
  all_behind e (a ∷ more) zs ys b c =
      ap (including_all k more) (behind a zs ys (before_all_through a e ys b.0 c)) ∙ all_behind e more (including k a zs) ys b.1 c

  -- the greatest of these entries is put in last
  pub last_in : (more : List (Entry B)) (e : Entry B) (set : List (Entry B)) → including_all k (more ++ e ∷ []) set ≡ including k e (including_all k more set)
  last_in [] e set = refl
  last_in (a ∷ more) e set = last_in more e (including k a set)

  -- an entry that comes after all of a front and before all of a tail goes between them
  goes_between : (e : Entry B) (ws ys : List (Entry B)) → Below k e ws → Before k e ys → including k e (ws ++ ys) ≡ ws ++ e ∷ ys
  goes_between e [] ys b c = including_before k l e ys c
  goes_between e (w ∷ ws) ys b c =
      including_by k l Greater e w (ws ++ ys) ((entry_total k l).antisymm e w ∙ ap ordering_reverse b.0) ∙ ap (λ s. w ∷ s) (goes_between e ws ys b.1 c)

  below_by : (e a x : Entry B) (xs : List (Entry B)) (o : Ordering) → entry_cmp k a x ≡ o → entry_cmp k a e ≡ Less → Below k e (x ∷ xs)
      → Below k e (including k a xs) → Below k e (including k a (x ∷ xs))
  below_by e a x xs Less h c b rest = subst (Below k e) (sym (including_by k l Less a x xs h)) (c, b)
  below_by e a x xs Equal h c b rest = subst (Below k e) (sym (including_by k l Equal a x xs h)) b
  below_by e a x xs Greater h c b rest = subst (Below k e) (sym (including_by k l Greater a x xs h)) (b.0, rest)

  below_including : (e a : Entry B) (xs : List (Entry B)) → entry_cmp k a e ≡ Less → Below k e xs → Below k e (including k a xs)
  below_including e a [] c b = (c, tt)
  below_including e a (x ∷ xs) c b = below_by e a x xs (entry_cmp k a x) refl c b (below_including e a xs c b.1)

  below_all : (e : Entry B) (more xs : List (Entry B)) → Below k e more → Below k e xs → Below k e (including_all k more xs)
  below_all e [] xs b c = c
  below_all e (a ∷ more) xs b c = below_all e more (including k a xs) b.1 (below_including e a xs b.0 c)

  -- one entry, the greatest of those left, is put between what comes before it and what comes after
  pub one_merged : (more : List (Entry B)) (e : Entry B) (front tail : List (Entry B)) → Below k e more → Below k e front → Before k e tail
      → including_all k (more ++ e ∷ []) (front ++ tail) ≡ including_all k more front ++ e ∷ tail
  one_merged more e front tail b c d =
      last_in more e (front ++ tail) ∙ ap (including k e) (all_behind e more front tail b d)
      ∙ goes_between e (including_all k more front) tail (below_all e more front b c) d

  before_here : (x : Entry B) (front : List (Entry B)) (e : Entry B) (tail : List (Entry B)) → Before k x (front ++ e ∷ tail) → entry_cmp k x e ≡ Less
  before_here x [] e tail b = b.0
  before_here x (y ∷ front) e tail b = before_here x front e tail b.1

  -- in a list in order, the items in front of an entry come before it
  pub below_in_order : (front : List (Entry B)) (e : Entry B) (tail : List (Entry B)) → InOrder k (front ++ e ∷ tail) → Below k e front
  below_in_order [] e tail o = tt
  below_in_order (x ∷ front) e tail o = (before_here x front e tail o.0, below_in_order front e tail o.1)

  -- one turn of a merge: of the entries up to j the last is put in, at its place in the front that isn't moved yet
  pub merged_turn : (more first old new all : List (Entry B)) (j end at : ℕ) (e : Entry B) → InOrder k more → j < length more → get_or more j e ≡ e
      → take end old ≡ take end first → at ≤ end → Below k e (take at (take end old)) → Before k e (drop at (take end old))
      → drop (at + j) new ≡ e ∷ (drop at (take end old) ++ drop (end + j + 1) old)
      → all ≡ including_all k (take (j + 1) more) (take end first) ++ drop (end + (j + 1)) old
      → all ≡ including_all k (take j more) (take at first) ++ drop (at + j) new
  merged_turn more first old new all j end at e o lt is same le below before tail whole =
      let front : take (j + 1) more ≡ take j more ++ e ∷ [] = take_more more j e lt ∙ ap (λ x. take j more ++ x ∷ []) is in
      let apart : more ≡ take j more ++ e ∷ drop (j + 1) more =
      sym (take-append-drop (j + 1) more) ∙ ap (λ s. s ++ drop (j + 1) more) front ∙ append_assoc (take j more) (e ∷ []) (drop (j + 1) more) in
      let P : List (Entry B) → Type 0 = λ s. InOrder k s in
      let earlier : Below k e (take j more) = below_in_order (take j more) e (drop (j + 1) more) (subst P apart o) in
      let put : including_all k (take j more ++ e ∷ []) (take end old) ≡ including_all k (take j more) (take at (take end old)) ++ e ∷ drop at (take end old) =
      ap (including_all k (take j more ++ e ∷ [])) (sym (take-append-drop at (take end old))) ∙ one_merged (take j more) e (take at (take end old)) (drop at (take end old)) earlier below before in
      let shorter : take at (take end old) ≡ take at first = ap (take at) same ∙ take-take at end first le in
      let ends : drop (end + (j + 1)) old ≡ drop (end + j + 1) old = ap (λ n. drop n old) (omega arith) in
      whole ∙ ap (λ s. including_all k s (take end first) ++ drop (end + (j + 1)) old) front
      ∙ ap (λ s. including_all k (take j more ++ e ∷ []) s ++ drop (end + (j + 1)) old) (sym same)
      ∙ ap (λ s. s ++ drop (end + (j + 1)) old) put
      ∙ append_assoc (including_all k (take j more) (take at (take end old))) (e ∷ drop at (take end old)) (drop (end + (j + 1)) old)
      ∙ ap (λ s. including_all k (take j more) (take at (take end old)) ++ (e ∷ (drop at (take end old) ++ s))) ends
      ∙ ap (λ s. including_all k (take j more) s ++ (e ∷ (drop at (take end old) ++ drop (end + j + 1) old))) shorter
      ∙ ap (λ s. including_all k (take j more) (take at first) ++ s) (sym tail)

  before_take : (x : Entry B) (n : ℕ) (xs : List (Entry B)) → Before k x xs → Before k x (take n xs)
  before_take x zero xs b = tt
  before_take x (suc n) [] b = tt
  before_take x (suc n) (y ∷ ys) b = (b.0, before_take x n ys b.1)

  in_order_take : (n : ℕ) (xs : List (Entry B)) → InOrder k xs → InOrder k (take n xs)
  in_order_take zero xs o = tt
  in_order_take (suc n) [] o = tt
  in_order_take (suc n) (x ∷ xs) o = (before_take x n xs o.0, in_order_take n xs o.1)

  or_both : (a b : Bool) → (a || b) ≡ false → (a ≡ false) × (b ≡ false)
  or_both true b h = absurd (true≢false h)
  or_both false b h = (refl, h)

  lacks_take : (e : Entry B) (n : ℕ) (xs : List (Entry B)) → has k e xs ≡ false → has k e (take n xs) ≡ false
  lacks_take e zero xs h = refl
  lacks_take e (suc n) [] h = refl
  lacks_take e (suc n) (x ∷ xs) h =
      let both = or_both (same_entry k e x) (has k e xs) h in
      ap (λ b. b || has k e (take n xs)) both.0 ∙ lacks_take e n xs both.1

  -- none of these is in the set, so this one isn't
  lacks_here : (set : List (Entry B)) (more : List (Entry B)) (j : ℕ) (e : Entry B) → list_any (λ x. has k x set) more ≡ false → slice_get more j ≡ Some e → has k e set ≡ false
  lacks_here set [] j e none at = absurd (some_not_none at)
  lacks_here set (x ∷ more) zero e none at = let same : x ≡ e = some_same at in ap (λ z. has k z set) (sym same) ∙ (or_both (has k x set) (list_any (λ z. has k z set) more) none).0
  lacks_here set (x ∷ more) (suc j) e none at = lacks_here set more j e (or_both (has k x set) (list_any (λ z. has k z set) more) none).1 at

  -- the front that isn't moved yet is the front of the first set
  same_front : (first old : List (Entry B)) (count end : ℕ) → end ≤ count → take end old ≡ take end first → take end old ≡ take end (take count first)
  same_front first old count end le same = same ∙ sym (take-take end count first le)

  pub front_in_order : (first old : List (Entry B)) (count end : ℕ) → end ≤ count → take end old ≡ take end first → InOrder k (take count first) → InOrder k (take end old)
  front_in_order first old count end le same o =
      let P : List (Entry B) → Type 0 = λ s. InOrder k s in
      subst P (sym (same_front first old count end le same)) (in_order_take end (take count first) o)

  pub front_lacks : (first old more : List (Entry B)) (count end j : ℕ) (e : Entry B) → end ≤ count → take end old ≡ take end first
      → list_any (λ x. has k x (take count first)) more ≡ false → slice_get more j ≡ Some e → has k e (take end old) ≡ false
  front_lacks first old more count end j e le same none at =
      ap (has k e) (same_front first old count end le same) ∙ lacks_take e end (take count first) (lacks_here (take count first) more j e none at)

  -- the same of a turn whose entry is given by its place
  pub last_put : (more old new : List (Entry B)) (j end at : ℕ) (e : Entry B) → InOrder k more → slice_get more j ≡ Some e
      → at ≤ end → Below k e (take at (take end old)) → Before k e (drop at (take end old))
      → drop (at + j) new ≡ e ∷ (drop at (take end old) ++ drop (end + j + 1) old)
      → including_all k (take j more) (take at old) ++ drop (at + j) new ≡ including_all k (take (j + 1) more) (take end old) ++ drop (end + j + 1) old
  last_put more old new j end at e o is le below before tail =
      sym (merged_turn more old old new (including_all k (take (j + 1) more) (take end old) ++ drop (end + j + 1) old) j end at e o
      (place_within more j e is) (get_or_from_slice_get more j e e is) refl le below before tail
      (ap (λ n. including_all k (take (j + 1) more) (take end old) ++ drop n old) (omega arith)))

  -- and what a loop of such turns keeps
  pub turned : (more first old new : List (Entry B)) (all : List (Entry B)) (j end at : ℕ) → at ≤ end → take end old ≡ take end first → take at new ≡ take at old
      → including_all k (take j more) (take at old) ++ drop (at + j) new ≡ including_all k (take (j + 1) more) (take end old) ++ drop (end + j + 1) old
      → all ≡ including_all k (take (j + 1) more) (take end first) ++ drop (end + (j + 1)) old
      → (take at new ≡ take at first) × (all ≡ including_all k (take j more) (take at first) ++ drop (at + j) new)
  turned more first old new all j end at le same front put whole =
      let shorter : take at old ≡ take at first = sym (take-take at end old le) ∙ ap (take at) same ∙ take-take at end first le in (
        front ∙ shorter,
        whole ∙ ap (λ s. including_all k (take (j + 1) more) s ++ drop (end + (j + 1)) old) (sym same)
            ∙ ap (λ n. including_all k (take (j + 1) more) (take end old) ++ drop n old) (omega arith)
            ∙ sym put ∙ ap (λ s. including_all k (take j more) s ++ drop (at + j) new) shorter,
      )

-- An entry is put at a place, and those from there up to an end move up after it.
module _ {A : Type 0} (xs : List A) (at end left : ℕ) (e : A) (le : at ≤ end) (lt : end + left < length xs) where
  place_is : length (take (at + left + 1) xs) ≡ at + left + 1
  place_is = length-take-le (at + left + 1) xs (omega arith)

  moved_split : paste xs (at + left + 1) (drop at xs) (end - at)
      ≡ take (at + left + 1) xs ++ (take (end - at) (drop at xs) ++ drop ((at + left + 1) + (end - at)) xs)
  moved_split = append_assoc (take (at + left + 1) xs) (take (end - at) (drop at xs)) (drop ((at + left + 1) + (end - at)) xs)

  pub moved_front : take at (set (paste xs (at + left + 1) (drop at xs) (end - at)) (at + left) e) ≡ take at xs
  moved_front =
      take-set-le at (paste xs (at + left + 1) (drop at xs) (end - at)) (at + left) e (omega arith)
      ∙ ap (take at) moved_split
      ∙ take-append-le at (take (at + left + 1) xs) (take (end - at) (drop at xs) ++ drop ((at + left + 1) + (end - at)) xs) (omega (arith, place_is))
      ∙ take-take at (at + left + 1) xs (omega arith)

  behind_split : drop (at + left + 1) (paste xs (at + left + 1) (drop at xs) (end - at)) ≡ drop at (take end xs) ++ drop (end + left + 1) xs
  behind_split =
      ap (drop (at + left + 1)) moved_split
      ∙ ap (λ n. drop n (take (at + left + 1) xs ++ (take (end - at) (drop at xs) ++ drop ((at + left + 1) + (end - at)) xs))) (sym place_is)
      ∙ drop-append_seam (take (at + left + 1) xs) (take (end - at) (drop at xs) ++ drop ((at + left + 1) + (end - at)) xs)
      ∙ ap (λ s. s ++ drop ((at + left + 1) + (end - at)) xs) (sym (drop-take at (end - at) xs) ∙ ap (λ n. drop at (take n xs)) (omega arith))
      ∙ ap (λ n. drop at (take end xs) ++ drop n xs) (omega arith)

  pub moved_tail : drop (at + left) (set (paste xs (at + left + 1) (drop at xs) (end - at)) (at + left) e)
      ≡ e ∷ (drop at (take end xs) ++ drop (end + left + 1) xs)
  moved_tail =
      drop-set (paste xs (at + left + 1) (drop at xs) (end - at)) (at + left) e
      (omega (arith, length-paste xs (at + left + 1) (drop at xs) (end - at) (omega arith) (omega (arith, length-drop at xs))))
      ∙ ap (λ s. e ∷ s) behind_split
