-- A sector's bytes before the calls of a record, found from the front.
use Rattle.std.proofs.Common.{◌≡◌, ◌∙◌, sym, ap, refl, inl, inr, ℕ, ◌+◌, ◌*◌, ◌-◌, ◌<◌, ◌≤◌, List, [], ◌∷◌, ◌++◌, length, take, drop, get_or, true, false, Bool, Some, None, ◌&&◌, if◌then◌else◌, add-one, arith, nat_le}
use Rattle.std.proofs.lemmas.Bool.{false≢true, leb-true, cases_lt}
use Rattle.std.proofs.lemmas.List.{drop_at, take-take, drop_all, drop_more, drop-drop, drop-take, take-append-le, drop-append-le, length-take-le, length-drop}
use Rattle.gx_disk.specs.declared.memory.PastCall.{PastCall}
use Rattle.gx_disk.specs.declared.memory.PastCall.TheVariants.{Write, Sync}
use Rattle.gx_disk.specs.Sectors.{put, sector_of, IsWithin, IsOutside}
use Rattle.gx_disk.specs.Memory.{is_within, pending_next, pending_after, size_kept, total_kept, place_kept, bytes_back, bytes_before, fit_all}
use Rattle.gx_disk.specs.Crash.{pending_below}
use Rattle.gx_disk.proofs.Spans.{length-put, put_back, put_outside}
use Rattle.gx_disk.proofs.Calls.{first_of_both, second_of_both, within_true, within_false}

-- one call more of a slice of them
pub pending_step : (calls : List PastCall) (i : ℕ) (d : PastCall) (was now all : Bool) (s : ℕ) → now ≡ pending_next (get_or calls i d) was s → i < length calls
    → pending_after (drop i calls) was s ≡ all → pending_after (drop (i + 1) calls) now s ≡ all
unfolding pending_after
pending_step calls i d was now all s next lt so_far = rw next (sym (ap (λ cs. pending_after cs was s) (drop_more calls i d lt)) ∙ so_far)

-- all of them
pub pending_all : (calls : List PastCall) (i : ℕ) (now all : Bool) (s : ℕ) → length calls ≤ i → pending_after (drop i calls) now s ≡ all → now ≡ all
unfolding pending_after
pending_all calls i now all s le so_far = sym (ap (λ cs. pending_after cs now s) (drop_all i calls le)) ∙ so_far

-- how many bytes there were before calls that fit
pub length-bytes_before : (sectors : ℕ) (calls : List PastCall) (kept now : List ℕ) → fit_all sectors calls ≡ true → total_kept calls ≤ length kept → length now ≡ 512 * sectors → length (bytes_before calls kept now) ≡ 512 * sectors
unfolding bytes_before bytes_back fit_all total_kept size_kept
length-bytes_before sectors [] kept now fit enough size = size
length-bytes_before sectors (Sync ∷ calls) kept now fit enough size = length-bytes_before sectors calls kept now fit (omega arith) size
length-bytes_before sectors (Write first n m ∷ calls) kept now fit enough size =
    let here = nat_le (first + n) sectors && nat_le m n in
    let fits = first_of_both here (fit_all sectors calls) fit in
    let a = leb-true (first + n) sectors (first_of_both (nat_le (first + n) sectors) (nat_le m n) fits) in
    let b = leb-true m n (second_of_both (nat_le (first + n) sectors) (nat_le m n) fits) in
    let rest = length-bytes_before sectors calls (drop (512 * m) kept) now (second_of_both here (fit_all sectors calls) fit) (omega (arith, length-drop (512 * m) kept)) size in
    let few = length-take-le (512 * m) kept (omega arith) in
    length-put (512 * first) (take (512 * m) kept) (bytes_before calls (drop (512 * m) kept) now) (omega arith) ∙ rest

-- a sector that was written is read back
pub put_sector : (first m s : ℕ) (new xs : List ℕ) → length new ≡ 512 * m → 512 * first ≤ length xs → first ≤ s → s < first + m → sector_of (put (512 * first) new xs) s ≡ take 512 (drop (512 * (s - first)) new)
unfolding sector_of put
put_sector first m s new xs size fits from below =
    let rest : List ℕ = drop (length new) (drop (512 * first) xs) in
    let k : ℕ = 512 * (s - first) in
    let place : 512 * s ≡ 512 * first + k = omega arith in
    let there : drop (512 * s) (take (512 * first) xs ++ (new ++ rest)) ≡ drop k new ++ rest =
    ap (λ j. drop j (take (512 * first) xs ++ (new ++ rest))) place ∙ sym (drop-drop k (512 * first) (take (512 * first) xs ++ (new ++ rest)))
    ∙ ap (drop k) (drop_at (take (512 * first) xs) (new ++ rest) (512 * first) (length-take-le (512 * first) xs fits)) ∙ drop-append-le k new rest (omega arith) in
    ap (take 512) there ∙ take-append-le 512 (drop k new) rest (omega (arith, length-drop k new))

-- a part of a front is a part of the whole
part_of_front : (k n : ℕ) (xs : List ℕ) → k + 512 ≤ n → take 512 (drop k (take n xs)) ≡ take 512 (drop k xs)
part_of_front k n xs le =
    let parts : n ≡ k + (n - k) = omega arith in
    ap (λ j. take 512 (drop k (take j xs))) parts ∙ ap (take 512) (drop-take k (n - k) xs) ∙ take-take 512 (n - k) (drop k xs) (omega arith)

-- a sector that the test doesn't find within lies outside
outside_of : (first n s : ℕ) → is_within first n s ≡ false → IsOutside first n s
outside_of first n s none = elim (cases_lt s first) [
  | inl below ↦ inl below
  | inr from ↦ elim (cases_lt s (first + n)) [ inl in_it ↦ absurd (false≢true (sym none ∙ within_true first n s (record { from = from; below = in_it }))) | inr above ↦ inr above ]
]

within_of : (first n s : ℕ) → is_within first n s ≡ true → IsWithin first n s
within_of first n s is = elim (cases_lt s first) [
  | inl below ↦ absurd (false≢true (sym (within_false first n s (inl below)) ∙ is))
  | inr from ↦ elim (cases_lt s (first + n)) [ inl in_it ↦ record { from = from; below = in_it } | inr above ↦ absurd (false≢true (sym (within_false first n s (inr above)) ∙ is)) ]
]

none_chosen : (b : Bool) (x : ℕ) → (if b then Some x else None) ≡ None → b ≡ false
none_chosen true x e = cc
none_chosen false x e = refl

some_chosen : (b : Bool) (x y : ℕ) → (if b then Some x else None) ≡ Some y → (b ≡ true) × (x ≡ y)
some_chosen true x y e = (refl, cc)
some_chosen false x y e = cc

-- what one call says of a sector
module _ (sectors : ℕ) (calls : List PastCall) (rest now : List ℕ) (s : ℕ) (size : length now ≡ 512 * sectors) where
  pub not_there : (call : PastCall) → place_kept call s ≡ None → fit_all sectors (call ∷ calls) ≡ true → total_kept (call ∷ calls) ≡ length rest
      → sector_of (bytes_before (call ∷ calls) rest now) s ≡ sector_of (bytes_before calls (drop (size_kept call) rest) now) s
  unfolding bytes_before bytes_back total_kept size_kept fit_all place_kept
  not_there Sync none fit total = refl
  not_there (Write first n m) none fit total =
      let out = outside_of first m s (none_chosen (is_within first m s) (512 * (s - first)) none) in
      let here = nat_le (first + n) sectors && nat_le m n in
      let fits = first_of_both here (fit_all sectors calls) fit in
      let a = leb-true (first + n) sectors (first_of_both (nat_le (first + n) sectors) (nat_le m n) fits) in
      let b = leb-true m n (second_of_both (nat_le (first + n) sectors) (nat_le m n) fits) in
      let few = length-take-le (512 * m) rest (omega arith) in
      let long = length-bytes_before sectors calls (drop (512 * m) rest) now (second_of_both here (fit_all sectors calls) fit) (omega (arith, length-drop (512 * m) rest)) size in
      put_outside first m s (take (512 * m) rest) (bytes_before calls (drop (512 * m) rest) now) few (omega arith) out

  pub is_there : (call : PastCall) (at : ℕ) → place_kept call s ≡ Some at → fit_all sectors (call ∷ calls) ≡ true → total_kept (call ∷ calls) ≡ length rest
      → sector_of (bytes_before (call ∷ calls) rest now) s ≡ take 512 (drop at rest)
  unfolding bytes_before bytes_back total_kept size_kept fit_all place_kept
  is_there Sync at some fit total = cc
  is_there (Write first n m) at some fit total =
      let chosen = some_chosen (is_within first m s) (512 * (s - first)) at some in
      let in_it = within_of first m s chosen.0 in
      let here = nat_le (first + n) sectors && nat_le m n in
      let fits = first_of_both here (fit_all sectors calls) fit in
      let a = leb-true (first + n) sectors (first_of_both (nat_le (first + n) sectors) (nat_le m n) fits) in
      let few = length-take-le (512 * m) rest (omega arith) in
      let long = length-bytes_before sectors calls (drop (512 * m) rest) now (second_of_both here (fit_all sectors calls) fit) (omega (arith, length-drop (512 * m) rest)) size in
      put_sector first m s (take (512 * m) rest) (bytes_before calls (drop (512 * m) rest) now) few (omega (arith, in_it.from)) in_it.from in_it.below
      ∙ part_of_front (512 * (s - first)) (512 * m) rest (omega (arith, in_it.from, in_it.below)) ∙ ap (λ k. take 512 (drop k rest)) chosen.1

-- where one call has a sector lies in what it kept
pub place_within : (call : PastCall) (s at : ℕ) → place_kept call s ≡ Some at → at + 512 ≤ size_kept call
unfolding size_kept place_kept
place_within Sync s at some = cc
place_within (Write first n m) s at some =
    let chosen = some_chosen (is_within first m s) (512 * (s - first)) at some in
    let in_it = within_of first m s chosen.0 in
    omega (arith, chosen.1, in_it.from, in_it.below)

-- the calls after one fit if all do
fit_behind : (sectors : ℕ) (call : PastCall) (calls : List PastCall) → fit_all sectors (call ∷ calls) ≡ true → fit_all sectors calls ≡ true
unfolding fit_all
fit_behind sectors Sync calls fit = fit
fit_behind sectors (Write first n m) calls fit = second_of_both (nat_le (first + n) sectors && nat_le m n) (fit_all sectors calls) fit

-- the next call of a walk from the front, which hasn't found the sector yet
module _ (sectors : ℕ) (calls : List PastCall) (i : ℕ) (d : PastCall) (kept rest : List ℕ) (s : ℕ) (lt : i < length calls) (fits : fit_all sectors (drop i calls) ≡ true) (sized : total_kept (drop i calls) ≡ length rest)
    (same : (now : List ℕ) → length now ≡ 512 * sectors → sector_of (bytes_before (drop i calls) rest now) s ≡ sector_of (bytes_before calls kept now) s) where
  next_fits : fit_all sectors (get_or calls i d ∷ drop (i + 1) calls) ≡ true
  next_fits = sym (ap (fit_all sectors) (drop_more calls i d lt)) ∙ fits

  next_sized : total_kept (get_or calls i d ∷ drop (i + 1) calls) ≡ length rest
  next_sized = sym (ap total_kept (drop_more calls i d lt)) ∙ sized

  next_same : (now : List ℕ) → length now ≡ 512 * sectors → sector_of (bytes_before calls kept now) s ≡ sector_of (bytes_before (get_or calls i d ∷ drop (i + 1) calls) rest now) s
  next_same now size = sym (same now size) ∙ ap (λ cs. sector_of (bytes_before cs rest now) s) (drop_more calls i d lt)

  pub front_room : size_kept (get_or calls i d) ≤ length rest
  unfolding total_kept
  front_room = let total = next_sized in omega arith

  pub front_found : (at : ℕ) → Some at ≡ place_kept (get_or calls i d) s → (now : List ℕ) → length now ≡ 512 * sectors → sector_of (bytes_before calls kept now) s ≡ take 512 (drop at rest)
  front_found at found now size = next_same now size ∙ is_there sectors (drop (i + 1) calls) rest now s size (get_or calls i d) at (sym found) next_fits next_sized

  pub front_within : (at : ℕ) → Some at ≡ place_kept (get_or calls i d) s → at + 512 ≤ length rest
  front_within at found = omega (arith, place_within (get_or calls i d) s at (sym found), front_room)

  pub front_fits : fit_all sectors (drop (i + 1) calls) ≡ true
  front_fits = fit_behind sectors (get_or calls i d) (drop (i + 1) calls) next_fits

  pub front_sized : total_kept (drop (i + 1) calls) ≡ length (drop (size_kept (get_or calls i d)) rest)
  unfolding total_kept
  front_sized = let total = next_sized in omega (arith, length-drop (size_kept (get_or calls i d)) rest)

  pub front_same : None ≡ place_kept (get_or calls i d) s → (now : List ℕ) → length now ≡ 512 * sectors
      → sector_of (bytes_before (drop (i + 1) calls) (drop (size_kept (get_or calls i d)) rest) now) s ≡ sector_of (bytes_before calls kept now) s
  front_same none now size = sym (next_same now size ∙ not_there sectors (drop (i + 1) calls) rest now s size (get_or calls i d) (sym none) next_fits next_sized)

-- a walk that has found nothing
pub walk_over : (calls : List PastCall) (i : ℕ) (rest now : List ℕ) → length calls ≤ i → bytes_before (drop i calls) rest now ≡ now
unfolding bytes_before
walk_over calls i rest now le = ap (λ cs. bytes_before cs rest now) (drop_all i calls le)

-- a sector's bytes written over the old ones
pub record SectorPut (s : ℕ) (new old bytes : List ℕ) : Type 0 where
  pub size : length bytes ≡ length old
  pub there : sector_of bytes s ≡ new
  pub others : (r : ℕ) → IsOutside s 1 r → sector_of bytes r ≡ sector_of old r

pub sector_put : (s : ℕ) (new old : List ℕ) → length new ≡ 512 → 512 * s + 512 ≤ length old → SectorPut s new old (put (512 * s) new old)
unfolding sector_of
sector_put s new old size fits = record {
  size = length-put (512 * s) new old (omega arith);
  there = ap (λ k. take k (drop (512 * s) (put (512 * s) new old))) (sym size) ∙ put_back (512 * s) new old (omega arith);
  others = λ r out. put_outside s 1 r new old size (omega arith) out;
}

-- no sector is below the first, and one more below the next if it is pending
pub pending_below_none : (pending : ℕ → Bool) → 0 ≡ pending_below pending 0
unfolding pending_below
pending_below_none pending = refl

pub pending_below_next : (pending : ℕ → Bool) (s : ℕ) → pending_below pending (s + 1) ≡ pending_below pending s + (if pending s then 1 else 0)
unfolding pending_below
pending_below_next pending s = rw add-one refl
