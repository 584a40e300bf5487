-- The slots of a directory, one after another and each by its place.
use Rattle.std.proofs.Common.{◌≡◌, ℕ, zero, suc, ◌+◌, ◌-◌, ◌*◌, ◌<◌, ◌≤◌, Bool, true, false, ◌&&◌, cond, List, [], ◌∷◌, ◌++◌, Option, Some, None, length, take, drop, get_or, refl, sym, ap, ◌∙◌, arith, eqb, leb, lit<, eq-eqb}
use Rattle.std.proofs.lemmas.Bool.{le-leb, leb-true, eqb-true}
use Rattle.std.proofs.lemmas.List.{drop-drop}
use Rattle.std.specs.Prelude.{slice_range}
use Rattle.gx_page.specs.Bytes.{zeros, all_zero, number_16, number_16_at}
use Rattle.gx_page.specs.Contents.{Contents}
use Rattle.gx_page.specs.Format.{image_of, heap, total, Fits, IsWellFormed}
use Rattle.gx_page.specs.Reading.{entries}
use Rattle.gx_page.specs.Faults.{in_order, last_place, lowest, is_free_zero}
use Rattle.gx_page.proofs.Images.{slots, entries-directory}

pub number_here : (bytes : List ℕ) (at : ℕ) → number_16_at bytes at ≡ number_16 (take 2 (drop at bytes))
number_here bytes at = let two : at + 2 - at ≡ 2 = omega arith in ap (λ (n : ℕ). number_16 (take n (drop at bytes))) two

-- the first of the slots from a place on
pub entry_here : (bytes : List ℕ) (n j : ℕ) → j < n
    → entries (n - j) (drop (32 + 4 * j) bytes) ≡ (number_16_at bytes (32 + 4 * j), number_16_at bytes (32 + 4 * j + 2)) ∷ entries (n - (j + 1)) (drop (32 + 4 * (j + 1)) bytes)
entry_here bytes n j h =
    let at = 32 + 4 * j in let k = n - (j + 1) in
    let more : n - j ≡ suc k = omega arith in let on : at + 4 ≡ 32 + 4 * (j + 1) = omega arith in
    ap (λ (m : ℕ). entries m (drop at bytes)) more ∙
    ap (λ (m : ℕ). (m, number_16 (take 2 (drop 2 (drop at bytes)))) ∷ entries k (drop 4 (drop at bytes))) (sym (number_here bytes at)) ∙
    ap (λ (m : ℕ). (number_16_at bytes at, m) ∷ entries k (drop 4 (drop at bytes))) (ap (λ (xs : List ℕ). number_16 (take 2 xs)) (drop-drop 2 at bytes) ∙ sym (number_here bytes (at + 2))) ∙
    ap (λ (xs : List ℕ). (number_16_at bytes at, number_16_at bytes (at + 2)) ∷ entries k xs) (drop-drop 4 at bytes ∙ ap (λ (m : ℕ). drop m bytes) on)

-- ---- the lowest place, slot by slot

lowest_first : (end o l : ℕ) (es : List (ℕ × ℕ)) → 1 ≤ l → o + l ≡ end → lowest end ((o, l) ∷ es) ≡ lowest o es
unfolding lowest
lowest_first end o l es h e = rw (le-leb 1 l h, eq-eqb (o + l) end e)

lowest_bad : (end o l : ℕ) (es : List (ℕ × ℕ)) → (1 ≤ l → o + l ≡ end → ⊥) → lowest end ((o, l) ∷ es) ≡ None
unfolding lowest
lowest_bad end o l es bad = by_test (leb 1 l) (eqb (o + l) end) (λ a b. bad (leb-true 1 l a) (eqb-true (o + l) end b))
  where
    by_test : (a b : Bool) → (a ≡ true → b ≡ true → ⊥) → ◌≡◌ {A = Option ℕ} (cond (a && b && in_order o es) (Some (last_place o es)) None) None
    by_test true true f = absurd (f refl refl)
    by_test true false f = refl
    by_test false b f = refl

pub lowest_none : (end : ℕ) → lowest end [] ≡ Some end
unfolding lowest
lowest_none end = refl

-- the slot at j, with its place and its size as the code has read them: it is in order, and the rest goes on below it
pub lowest_goes : (bytes : List ℕ) (n j end place size : ℕ) (wanted : Option ℕ) → j < n → place ≡ number_16_at bytes (32 + 4 * j) → size ≡ number_16_at bytes (32 + 4 * j + 2) → (size ≡ 0 → ⊥) → place + size ≡ end
    → lowest end (entries (n - j) (drop (32 + 4 * j) bytes)) ≡ wanted → lowest place (entries (n - (j + 1)) (drop (32 + 4 * (j + 1)) bytes)) ≡ wanted
lowest_goes bytes n j end place size wanted h p s some ends inv =
    let es = entries (n - (j + 1)) (drop (32 + 4 * (j + 1)) bytes) in
    sym (lowest_first end place size es (omega arith) ends) ∙ ap (λ (m : ℕ). lowest end ((m, size) ∷ es)) p ∙ ap (λ (m : ℕ). lowest end ((number_16_at bytes (32 + 4 * j), m) ∷ es)) s ∙
    ap (λ (xs : List (ℕ × ℕ)). lowest end xs) (sym (entry_here bytes n j h)) ∙ inv

-- or it isn't, and there is no lowest place
pub lowest_ends : (bytes : List ℕ) (n j end place size : ℕ) (wanted : Option ℕ) → j < n → place ≡ number_16_at bytes (32 + 4 * j) → size ≡ number_16_at bytes (32 + 4 * j + 2) → ((size ≡ 0 → ⊥) → place + size ≡ end → ⊥)
    → lowest end (entries (n - j) (drop (32 + 4 * j) bytes)) ≡ wanted → None ≡ wanted
lowest_ends bytes n j end place size wanted h p s bad inv =
    let es = entries (n - (j + 1)) (drop (32 + 4 * (j + 1)) bytes) in
    sym (lowest_bad end place size es (λ some ends. bad (λ none. absurd (omega arith)) ends)) ∙ ap (λ (m : ℕ). lowest end ((m, size) ∷ es)) p ∙ ap (λ (m : ℕ). lowest end ((number_16_at bytes (32 + 4 * j), m) ∷ es)) s ∙
    ap (λ (xs : List (ℕ × ℕ)). lowest end xs) (sym (entry_here bytes n j h)) ∙ inv

-- ---- a slot by its number

abbrev nowhere : ℕ × ℕ
nowhere = (0, 0)

get_or-slots : (items : List (List ℕ)) (end j : ℕ) → j < length items → get_or (slots end items) j nowhere ≡ (end - total (take (suc j) items), length (get_or items j []))
get_or-slots [] end j h = absurd (omega arith)
get_or-slots (x ∷ items) end zero h = ap (λ (m : ℕ). (m, length x)) (omega arith)
get_or-slots (x ∷ items) end (suc j) h = get_or-slots items (end - length x) j (omega arith) ∙ ap (λ (m : ℕ). (m, length (get_or items j []))) (omega arith)

get_or-entries : (n : ℕ) (bytes : List ℕ) (at j : ℕ) → j < n → get_or (entries n (drop at bytes)) j nowhere ≡ (number_16_at bytes (at + 4 * j), number_16_at bytes (at + 4 * j + 2))
get_or-entries zero bytes at j h = absurd (omega arith)
get_or-entries (suc n) bytes at zero h =
    let here : at + 4 * 0 ≡ at = omega arith in
    ap (λ (m : ℕ). (m, number_16 (take 2 (drop 2 (drop at bytes))))) (sym (number_here bytes at)) ∙
    ap (λ (m : ℕ). (number_16_at bytes at, m)) (ap (λ (xs : List ℕ). number_16 (take 2 xs)) (drop-drop 2 at bytes) ∙ sym (number_here bytes (at + 2))) ∙
    ap (λ (m : ℕ). (number_16_at bytes m, number_16_at bytes (m + 2))) (sym here)
get_or-entries (suc n) bytes at (suc j) h =
    let there : at + 4 + 4 * j ≡ at + 4 * suc j = omega arith in
    ap (λ (xs : List ℕ). get_or (entries n xs) j nowhere) (drop-drop 4 at bytes) ∙ get_or-entries n bytes (at + 4) j (omega arith) ∙
    ap (λ (m : ℕ). (number_16_at bytes m, number_16_at bytes (m + 2))) there

-- what the image says of each slot
pub record Slot (v : Contents) (bytes : List ℕ) (j : ℕ) : Type 0 where
  pub place : number_16_at bytes (32 + 4 * j) ≡ 4096 - total (take (suc j) v.items)
  pub size : number_16_at bytes (32 + 4 * j + 2) ≡ length (get_or v.items j [])
  pub within : total (take (suc j) v.items) ≤ total v.items

pub total-take-le : (items : List (List ℕ)) (n : ℕ) → total (take n items) ≤ total items
total-take-le items zero = omega arith
total-take-le [] (suc n) = omega arith
total-take-le (x ∷ items) (suc n) = omega (arith, total-take-le items n)

image_entries : (v : Contents) → IsWellFormed v → entries (length v.items) (drop 32 (image_of v)) ≡ slots 4096 v.items
unfolding image_of
image_entries v w = let fits : Fits v.items = w.fits in
    entries-directory 4096 v.items (zeros (4064 - (4 * length v.items + total v.items)) ++ heap v.items) (omega arith) (lit< tt)

pub slot_of : (v : Contents) → IsWellFormed v → (bytes : List ℕ) → bytes ≡ image_of v → (j : ℕ) → j < length v.items → Slot v bytes j
slot_of v w bytes e j h =
    let same : (number_16_at bytes (32 + 4 * j), number_16_at bytes (32 + 4 * j + 2)) ≡ (4096 - total (take (suc j) v.items), length (get_or v.items j [])) =
    sym (get_or-entries (length v.items) bytes 32 j h) ∙ ap (λ (xs : List ℕ). get_or (entries (length v.items) (drop 32 xs)) j nowhere) e ∙ ap (λ (es : List (ℕ × ℕ)). get_or es j nowhere) (image_entries v w) ∙ get_or-slots v.items 4096 j h in
    record { place = ap (λ (p : ℕ × ℕ). p.0) same; size = ap (λ (p : ℕ × ℕ). p.1) same; within = total-take-le v.items (suc j) }

-- the bytes between the directory and the heap, by numbers that are the count and the heap's start
pub free_part : (bytes : List ℕ) (count start : ℕ) → count ≡ number_16_at bytes 2 → start ≡ number_16_at bytes 4 → all_zero (slice_range bytes (32 + 4 * count) start) ≡ is_free_zero bytes
unfolding is_free_zero
free_part bytes count start is_count is_start =
    ap (λ (n : ℕ). all_zero (slice_range bytes (32 + 4 * n) start)) is_count ∙ ap (λ (n : ℕ). all_zero (slice_range bytes (32 + 4 * number_16_at bytes 2) n)) is_start
