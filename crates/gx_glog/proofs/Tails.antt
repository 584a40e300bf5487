-- From its tail on each place reads zero: what keeps that, and that a body written up to there reads as all of it.
use Rattle.std.proofs.Common.{◌≡◌, ◌≢◌, ◌∙◌, sym, ap, refl, subst, ◌⊎◌, inl, inr, ⊎_elim, ℕ, suc, ◌+◌, ◌-◌, ◌*◌, ◌<◌, ◌≤◌, max, List, [], ◌∷◌, ◌++◌, length, take, drop, get_or, replicate, slice_set, Bool, false, arith}
use Rattle.std.proofs.Math.Nat.{le-max_left, le-max_right}
use Rattle.std.proofs.lemmas.Bool.{cases_lt}
use Rattle.std.proofs.lemmas.List.{drop-drop, drop-replicate, drop-take, get_or-drop, get_or-replicate, get_or_past, get_or-set_other, get_or-set_same, length-drop, length-replicate, length-set, length-take-le, take-replicate, take-take, take_all}
use Rattle.gx_disk.specs.Device.{Device, IsWritten, Touches}
use Rattle.gx_disk.specs.Sectors.{span_of, sector_of, put, IsOutside, IsWithin}
use Rattle.gx_disk.proofs.Spans.{put_back, put_behind, spans_same, take_two}
use Rattle.gx_disk.specs.declared.layout.TheConstants.{PAGES_AT}
use Rattle.gx_glog.specs.declared.extent.TheConstants.{BODIES_A, BODIES_B, BODY_ROOM, BODY_SECTORS, BODY_SIZE, PLACES}
use Rattle.gx_glog.specs.declared.extent.Extent.{Extent}
use Rattle.gx_glog.specs.declared.extent.Extent.TheVariants.{A, B}
use Rattle.gx_glog.specs.Bodies.{IsBody, IsZero}
use Rattle.gx_glog.specs.Layout.{gates_of, bodies_of, body_of}
use Rattle.gx_glog.specs.Standing.{IsKept}
use Rattle.gx_glog.specs.Tails.{AreTails, HasTail, HaveTails, IsZeroed, place_of, sectors_of, tail_of, unknown_tails, widened}
use Rattle.gx_glog.proofs.Gates.{placed}

-- ---- tails as numbers

place_below : (extent : Extent) (k : ℕ) → k < PLACES → place_of extent k < 2 * PLACES
place_below A k below = omega arith
place_below B k below = omega arith

same_or_not : (i j : ℕ) → (i ≡ j) ⊎ (j ≢ i)
same_or_not i j =
    ⊎_elim (λ (less : i < j). inr (λ same. absurd (omega arith)))
    (λ (from : j ≤ i). ⊎_elim (λ (more : j < i). inr (λ same. absurd (omega arith))) (λ (to : i ≤ j). inl (omega arith)) (cases_lt j i)) (cases_lt i j)

replicated_within : (n v i : ℕ) → get_or (replicate n v) i 0 ≤ v
replicated_within n v i =
    let size : length (replicate n v) ≡ n = length-replicate n v in
    ⊎_elim (λ (less : i < n). omega (arith, get_or-replicate n i v 0 less)) (λ (from : n ≤ i). omega (arith, get_or_past (replicate n v) i 0 (omega (arith, from, size)))) (cases_lt i n)

pub replicated_are : AreTails (replicate (2 * PLACES) BODY_SECTORS)
replicated_are = record { whole = length-replicate {A = ℕ} (2 * PLACES) BODY_SECTORS; within = replicated_within (2 * PLACES) BODY_SECTORS }

pub are_unknown : AreTails unknown_tails
unfolding unknown_tails
are_unknown = replicated_are

-- ---- tails that begin elsewhere

module _ (tails : List ℕ) (are : AreTails tails) (extent : Extent) (k v : ℕ) (below : k < PLACES) where
  pub set_there : tail_of (slice_set tails (place_of extent k) v) extent k ≡ v
  set_there = get_or-set_same tails (place_of extent k) v 0 (omega (arith, place_below extent k below, are.whole))

  set_within : v ≤ BODY_SECTORS → (i : ℕ) → place_of extent k ≡ i ⊎ (i ≢ place_of extent k) → get_or (slice_set tails (place_of extent k) v) i 0 ≤ BODY_SECTORS
  set_within bound i (inl same) = let is = set_there in let there : get_or (slice_set tails (place_of extent k) v) i 0 ≡ v = ap (λ j. get_or (slice_set tails (place_of extent k) v) j 0) (sym same) ∙ is in omega (arith, there)
  set_within bound i (inr other) = let is = get_or-set_other tails (place_of extent k) i v 0 other in omega (arith, is, are.within i)

  pub are_set : v ≤ BODY_SECTORS → AreTails (slice_set tails (place_of extent k) v)
  are_set bound = record {
    whole = length-set tails (place_of extent k) v ∙ are.whole;
    within = λ i. set_within bound i (same_or_not (place_of extent k) i);
  }

same_place : (extent other : Extent) (k j : ℕ) → k < PLACES → j < PLACES → place_of extent k ≡ place_of other j → (extent ≡ other) × (k ≡ j)
same_place A A k j below less is = (refl, is)
same_place A B k j below less is = absurd (omega arith)
same_place B A k j below less is = absurd (omega arith)
same_place B B k j below less is = (refl, omega arith)

tail_later : (tail later : ℕ) (extent : Extent) (k : ℕ) (seen : List ℕ) (pending : ℕ → Bool) → tail ≤ later → HasTail tail extent k seen pending → HasTail later extent k seen pending
tail_later tail later extent k seen pending le has s from to = has s (omega (arith, from)) to

module _ (tails : List ℕ) (are : AreTails tails) (extent : Extent) (k v : ℕ) (below : k < PLACES) (seen : List ℕ) (pending : ℕ → Bool) (have : HaveTails tails seen pending) where
  set_has : HasTail v extent k seen pending → (other : Extent) (j : ℕ) → j < PLACES → (place_of extent k ≡ place_of other j) ⊎ (place_of other j ≢ place_of extent k)
      → HasTail (tail_of (slice_set tails (place_of extent k) v) other j) other j seen pending
  set_has has other j less (inl same) =
      let is = same_place extent other k j below less same in
      let T : Extent → ℕ → Type 0 = λ e i. HasTail (tail_of (slice_set tails (place_of extent k) v) e i) e i seen pending in
      let V : ℕ → Type 0 = λ tail. HasTail tail extent k seen pending in
      let here : T extent k = subst V (sym (set_there tails are extent k v below)) has in
      let X : Extent → Type 0 = λ e. T e k in
      let K : ℕ → Type 0 = λ i. T other i in
      subst K is.1 (subst X is.0 here)
  set_has has other j less (inr differs) =
      let V : ℕ → Type 0 = λ tail. HasTail tail other j seen pending in
      subst V (sym (get_or-set_other tails (place_of extent k) (place_of other j) v 0 differs)) (have other j less)

  -- one place's tail begins elsewhere
  pub have_set : HasTail v extent k seen pending → HaveTails (slice_set tails (place_of extent k) v) seen pending
  have_set has other j less = set_has has other j less (same_or_not (place_of extent k) (place_of other j))

-- a tail that begins farther on, or where it did
module _ (tails : List ℕ) (are : AreTails tails) (extent : Extent) (k sectors : ℕ) (below : k < PLACES) where
  pub are_widened : sectors ≤ BODY_SECTORS → AreTails (widened extent k sectors tails)
  are_widened bound = are_set tails are extent k (max (tail_of tails extent k) sectors) below (omega (arith, are.within (place_of extent k)))

  pub widened_covers : sectors ≤ tail_of (widened extent k sectors tails) extent k
  widened_covers =
      let is = set_there tails are extent k (max (tail_of tails extent k) sectors) below in
      omega (arith, is, le-max_right (tail_of tails extent k) sectors)

  pub have_widened : (seen : List ℕ) (pending : ℕ → Bool) → HaveTails tails seen pending → HaveTails (widened extent k sectors tails) seen pending
  have_widened seen pending have =
      have_set tails are extent k (max (tail_of tails extent k) sectors) below seen pending have
      (tail_later (tail_of tails extent k) (max (tail_of tails extent k) sectors) extent k seen pending (le-max_left (tail_of tails extent k) sectors) (have extent k below))

-- if no place is known to have a tail, nothing is said of one
none_within : (extent : Extent) (k s : ℕ) → k < PLACES → bodies_of extent + BODY_SECTORS * k + tail_of unknown_tails extent k ≤ s → s < bodies_of extent + BODY_SECTORS * (k + 1) → ⊥
unfolding unknown_tails
none_within extent k s below from to =
    let all : ℕ = BODY_SECTORS in
    let is : get_or (replicate (2 * PLACES) all) (place_of extent k) 0 ≡ all = get_or-replicate (2 * PLACES) (place_of extent k) all 0 (place_below extent k below) in
    omega (arith, from, to, is)

pub unknown_have : (seen : List ℕ) (pending : ℕ → Bool) → HaveTails unknown_tails seen pending
unknown_have seen pending extent k below s from to = absurd (none_within extent k s below from to)

-- ---- what keeps them

-- each sector of bodies is kept
abbrev pub KeptBodies : List ℕ → List ℕ → (ℕ → Bool) → (ℕ → Bool) → Type 0
KeptBodies seen seen' pending pending' = (extent : Extent) (s : ℕ) → IsWithin (bodies_of extent) (PLACES * BODY_SECTORS) s → IsKept seen seen' pending pending' s

zeroed_kept : (seen seen' : List ℕ) (pending pending' : ℕ → Bool) (s : ℕ) → IsKept seen seen' pending pending' s → IsZeroed seen pending s → IsZeroed seen' pending' s
zeroed_kept seen seen' pending pending' s kept was = record { reads = kept.bytes ∙ was.reads; settled = kept.settled was.settled }

pub tails_kept : (seen seen' : List ℕ) (pending pending' : ℕ → Bool) (tails : List ℕ) → KeptBodies seen seen' pending pending' → HaveTails tails seen pending → HaveTails tails seen' pending'
tails_kept seen seen' pending pending' tails kept have extent k below s from to =
    zeroed_kept seen seen' pending pending' s (kept extent s (record { from = omega (arith, from); below = omega (arith, to, below) })) (have extent k below s from to)

-- no gate of an extent is a sector of a body
pub gates_apart : (extent other : Extent) (k n s : ℕ) → k + n ≤ PLACES → IsWithin (bodies_of other) (PLACES * BODY_SECTORS) s → IsOutside (gates_of extent + k) n s
gates_apart A A k n s few within = inr (omega (arith, within.from))
gates_apart A B k n s few within = inr (omega (arith, within.from))
gates_apart B A k n s few within = inl (omega (arith, within.below))
gates_apart B B k n s few within = inr (omega (arith, within.from))

pub all_gates_apart : (extent other : Extent) (s : ℕ) → IsWithin (bodies_of other) (PLACES * BODY_SECTORS) s → IsOutside (gates_of extent) PLACES s
all_gates_apart A A s within = inr (omega (arith, within.from))
all_gates_apart A B s within = inr (omega (arith, within.from))
all_gates_apart B A s within = inl (omega (arith, within.below))
all_gates_apart B B s within = inr (omega (arith, within.from))

-- of places of one extent
by_order : (first k j n tail s : ℕ) → n ≤ BODY_SECTORS → (k ≡ j → n ≡ tail) → first + BODY_SECTORS * j + tail ≤ s → s < first + BODY_SECTORS * (j + 1) → IsOutside (first + BODY_SECTORS * k) n s
by_order first k j n tail s few same from to =
    ⊎_elim (λ (before : j < k). inl (omega (arith, to, before)))
    (λ (at : k ≤ j). ⊎_elim (λ (behind : k < j). inr (omega (arith, from, behind)))
    (λ (here : j ≤ k). inr (let is : k ≡ j = omega arith in omega (arith, from, same is, is))) (cases_lt k j))
    (cases_lt j k)

-- a sector after a place's tail isn't one of those that are written up to a place's tail
behind_tail : (extent other : Extent) (k j n tail s : ℕ) → k < PLACES → j < PLACES → n ≤ BODY_SECTORS → (place_of extent k ≡ place_of other j → n ≡ tail) → bodies_of other + BODY_SECTORS * j + tail ≤ s → s < bodies_of other + BODY_SECTORS * (j + 1)
    → IsOutside (bodies_of extent + BODY_SECTORS * k) n s
behind_tail A A k j n tail s below less few same from to = by_order BODIES_A k j n tail s few same from to
behind_tail A B k j n tail s below less few same from to = inr (omega (arith, from))
behind_tail B A k j n tail s below less few same from to = inl (omega (arith, to))
behind_tail B B k j n tail s below less few same from to = by_order BODIES_B k j n tail s few (λ is. same (ap (λ i. PLACES + i) is)) from to

outside_fewer : (first n m s : ℕ) → n ≤ m → IsOutside first m s → IsOutside first n s
outside_fewer first n m s few (inl before) = inl before
outside_fewer first n m s few (inr behind) = inr (omega arith)

-- a call that touches some sectors of a span touches no other than that span's
pub touched_more : (first n m : ℕ) (old new : Device) → n ≤ m → Touches first n old new → Touches first m old new
touched_more first n m old new few touches = record {
  size = touches.size;
  bytes = λ s out. touches.bytes s (outside_fewer first n m s few out);
  settled = λ s out. touches.settled s (outside_fewer first n m s few out);
}

-- a write of a place's sectors before its tail leaves all tails
pub tails_written : (tails : List ℕ) (extent : Extent) (k : ℕ) (old new : Device) → AreTails tails → k < PLACES → Touches (bodies_of extent + BODY_SECTORS * k) (tail_of tails extent k) old new
    → HaveTails tails old.seen old.pending → HaveTails tails new.seen new.pending
tails_written tails extent k old new are below touches have other j less s from to =
    let out = behind_tail extent other k j (tail_of tails extent k) (tail_of tails other j) s below less (are.within (place_of extent k)) (λ is. ap (λ i. get_or tails i 0) is) from to in
    zeroed_kept old.seen new.seen old.pending new.pending s (record { bytes = touches.bytes s out; settled = touches.settled s out }) (have other j less s from to)

-- ---- a body, and its zeros

zeros_are : (xs : List ℕ) → IsZero xs → xs ≡ replicate (length xs) 0
zeros_are [] zeros = refl
zeros_are (x ∷ xs) zeros =
    let here : x ≡ 0 = zeros 0 in
    let rest : xs ≡ replicate (length xs) 0 = zeros_are xs (λ k. zeros (suc k)) in
    rw here (ap (λ (ys : List ℕ). 0 ∷ ys) rest)

-- so many bytes of a list that is zero from a place on
zero_part : (at from n : ℕ) (xs : List ℕ) → IsZero (drop at xs) → at ≤ from → from + n ≤ length xs → take n (drop from xs) ≡ replicate n 0
zero_part at from n xs zeros later fits =
    let long : length (drop from xs) ≡ length xs - from = length-drop from xs in
    let same : (k : ℕ) → at + (from - at + k) ≡ from + k = λ k. omega (arith, later) in
    let zero_from : IsZero (drop from xs) = λ k. get_or-drop from xs k 0 ∙ ap (λ j. get_or xs j 0) (sym (same k)) ∙ sym (get_or-drop at xs (from - at + k) 0) ∙ zeros (from - at + k) in
    ap (take n) (zeros_are (drop from xs) zero_from) ∙ take-replicate n (length (drop from xs)) 0 (omega (arith, long, fits))

-- so many sectors that read zero
zero_span : (first n : ℕ) (seen : List ℕ) → ((s : ℕ) → first ≤ s → s < first + n → sector_of seen s ≡ replicate 512 0) → span_of seen first (512 * n) ≡ replicate (512 * n) 0
unfolding span_of sector_of
zero_span first n seen zeros =
    let all : List ℕ = replicate (512 * (first + n)) 0 in
    let one : (s : ℕ) → s < first + n → sector_of all s ≡ replicate 512 0 =
    λ s less. ap (take 512) (drop-replicate (512 * s) (512 * (first + n)) 0) ∙ take-replicate 512 (512 * (first + n) - 512 * s) 0 (omega (arith, less)) in
    spans_same n first seen all (λ s within. zeros s within.from within.below ∙ sym (one s within.below))
    ∙ ap (take (512 * n)) (drop-replicate (512 * first) (512 * (first + n)) 0)
    ∙ take-replicate (512 * n) (512 * (first + n) - 512 * first) 0 (omega arith)

-- The first so many sectors of a body, all that its records take, over sectors of which the later ones read zero: what is read then is the body.
module _ (first n : ℕ) (flight bytes seen : List ℕ) (few : n ≤ BODY_SECTORS) (covers : sectors_of flight ≤ n) (is : IsBody flight bytes) (fits : 512 * first + BODY_SIZE ≤ length seen)
    (zeros : (s : ℕ) → first + n ≤ s → s < first + BODY_SECTORS → sector_of seen s ≡ replicate 512 0) where
  abbrev front : List ℕ
  front = take (512 * n) bytes

  abbrev rest : ℕ
  rest = 512 * (BODY_SECTORS - n)

  front_size : length front ≡ 512 * n
  front_size = length-take-le (512 * n) bytes (omega (arith, is.whole, few))

  whole_body : bytes ≡ front ++ replicate rest 0
  whole_body =
      let size : 512 * n + rest ≡ BODY_SIZE = omega (arith, few) in
      let tail : take rest (drop (512 * n) bytes) ≡ replicate rest 0 = zero_part (4 + length flight) (512 * n) rest bytes is.zeros (omega (arith, covers)) (omega (arith, is.whole, size)) in
      sym (take_all (512 * n + rest) bytes (omega (arith, is.whole, size))) ∙ take_two (512 * n) rest bytes ∙ ap (λ (ys : List ℕ). front ++ ys) tail

  pub whole_read : span_of (put (512 * first) front seen) first BODY_SIZE ≡ bytes
  unfolding span_of
  whole_read =
      let at : ℕ = 512 * first in
      let new : List ℕ = drop at (put at front seen) in
      let size : BODY_SIZE ≡ 512 * n + rest = omega (arith, few) in
      let long : length front ≡ 512 * n = front_size in
      let head : take (512 * n) new ≡ front = ap (λ m. take m new) (sym long) ∙ put_back at front seen (omega (arith, long, fits, few)) in
      let order : at + 512 * n ≡ 512 * (first + n) = omega arith in
      let behind : drop (512 * n) new ≡ drop (512 * (first + n)) seen =
      drop-drop (512 * n) at (put at front seen) ∙ ap (λ m. drop m (put at front seen)) order ∙ put_behind at front seen (512 * (first + n)) (omega (arith, long)) (omega (arith, fits)) in
      let tail : take rest (drop (512 * n) new) ≡ replicate rest 0 = ap (take rest) behind ∙ zero_span (first + n) (BODY_SECTORS - n) seen (λ s from to. zeros s from (omega (arith, to, few))) in
      ap (λ m. take m new) size ∙ take_two (512 * n) rest new ∙ rw (head, tail) refl ∙ sym whole_body

-- what was written of a body up to its place's tail reads as all of it
pub body_whole : (tails : List ℕ) (extent : Extent) (k : ℕ) (flight bytes : List ℕ) (before now : Device) → AreTails tails → k < PLACES → sectors_of flight ≤ tail_of tails extent k → IsBody flight bytes
    → 512 * PAGES_AT ≤ length before.seen → HaveTails tails before.seen before.pending
    → IsWritten (bodies_of extent + BODY_SECTORS * k) (tail_of tails extent k) (take (512 * tail_of tails extent k) bytes) before now → IsBody flight (body_of now.seen extent k)
unfolding body_of span_of
body_whole tails extent k flight bytes before now are below covers is size have written =
    let at = placed extent in
    let first = bodies_of extent + BODY_SECTORS * k in
    let n = tail_of tails extent k in
    let reads : span_of (put (512 * first) (take (512 * n) bytes) before.seen) first BODY_SIZE ≡ bytes =
    whole_read first n flight bytes before.seen (are.within (place_of extent k)) covers is (omega (arith, at.to, size, below)) (λ s from to. (have extent k below s from (omega (arith, to))).reads) in
    let P : List ℕ → Type 0 = λ body. IsBody flight body in
    subst P (sym (ap (λ seen. span_of seen first BODY_SIZE) written.seen ∙ reads)) is

-- a settled body's place reads zero after its records
pub body_tail : (extent : Extent) (k : ℕ) (flight seen : List ℕ) (pending : ℕ → Bool) → length flight ≤ BODY_ROOM → IsBody flight (body_of seen extent k) → ((s : ℕ) → pending s ≡ false)
    → HasTail (sectors_of flight) extent k seen pending
unfolding body_of span_of sector_of
body_tail extent k flight seen pending fits is settled s from to =
    let first = bodies_of extent + BODY_SECTORS * k in
    let j : ℕ = s - first in
    let body : List ℕ = take BODY_SIZE (drop (512 * first) seen) in
    let split : BODY_SIZE ≡ 512 * j + (BODY_SIZE - 512 * j) = omega (arith, from, to) in
    let order : 512 * first + 512 * j ≡ 512 * s = omega (arith, from) in
    let part : take 512 (drop (512 * j) body) ≡ sector_of seen s =
    ap (λ m. take 512 (drop (512 * j) (take m (drop (512 * first) seen)))) split
    ∙ ap (take 512) (drop-take (512 * j) (BODY_SIZE - 512 * j) (drop (512 * first) seen))
    ∙ take-take 512 (BODY_SIZE - 512 * j) (drop (512 * j) (drop (512 * first) seen)) (omega (arith, from, to))
    ∙ ap (take 512) (drop-drop (512 * j) (512 * first) seen ∙ ap (λ m. drop m seen) order) in
    record {
      reads = sym part ∙ zero_part (4 + length flight) (512 * j) 512 body is.zeros (omega (arith, from)) (omega (arith, is.whole, to));
      settled = settled s;
    }
