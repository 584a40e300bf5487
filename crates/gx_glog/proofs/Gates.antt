-- What gates, bodies and the selector read as: it hangs on their own sectors alone.
use Rattle.std.proofs.Common.{◌≡◌, ◌∙◌, ap, refl, ◌⊎◌, inl, inr, ℕ, zero, suc, ◌+◌, ◌*◌, ◌<◌, ◌≤◌, ◌==◌, List, [], ◌∷◌, ◌++◌, true, false, if◌then◌else◌, arith}
use Rattle.std.specs.Prelude.{slice_index}
use Rattle.gx_disk.specs.declared.layout.TheConstants.{PAGES_AT}
use Rattle.gx_disk.specs.Sectors.{span_of, sector_of, IsWithin, IsOutside}
use Rattle.gx_disk.proofs.Spans.{spans_same}
use Rattle.gx_glog.specs.declared.extent.TheConstants.{BODY_SECTORS, EXTENT_SECTORS, PLACES}
use Rattle.gx_glog.specs.declared.extent.Extent.{Extent}
use Rattle.gx_glog.specs.declared.extent.Extent.TheVariants.{A, B}
use Rattle.gx_glog.specs.Layout.{gates_of, bodies_of, other_of, selected_of, is_open, body_of, records_in, open_run}
use Rattle.gx_glog.specs.Cuts.{bodies_in, open_bodies}

-- an extent's gates lie before its bodies, after the selector and before the pages
pub record IsPlaced (extent : Extent) : Type 0 where
  pub bodies : bodies_of extent ≡ gates_of extent + PLACES
  pub from : 8 ≤ gates_of extent
  pub to : bodies_of extent + PLACES * BODY_SECTORS ≤ PAGES_AT

pub placed : (extent : Extent) → IsPlaced extent
placed A = record { bodies = refl; from = omega arith; to = omega arith }
placed B = record { bodies = refl; from = omega arith; to = omega arith }

-- an image selects the one extent or the other
pub either_extent : (extent selected : Extent) → (selected ≡ extent) ⊎ (selected ≡ other_of extent)
either_extent A A = inl refl
either_extent A B = inr refl
either_extent B A = inr refl
either_extent B B = inl refl

-- a span within one extent leaves the sectors of the other
pub other_outside : (extent : Extent) (first n s : ℕ) → gates_of (other_of extent) ≤ first → first + n ≤ gates_of (other_of extent) + EXTENT_SECTORS → IsWithin (gates_of extent) EXTENT_SECTORS s → IsOutside first n s
other_outside A first n s from to within = inl (omega (arith, within.below))
other_outside B first n s from to within = inr (omega (arith, within.from))

pub gate_same : (extent : Extent) (k : ℕ) (xs ys : List ℕ) → sector_of xs (gates_of extent + k) ≡ sector_of ys (gates_of extent + k) → is_open xs extent k ≡ is_open ys extent k
unfolding is_open span_of sector_of
gate_same extent k xs ys same = ap (λ (sector : List ℕ). slice_index sector 0 == 0xA7) same

pub selector_same : (xs ys : List ℕ) → sector_of xs 2 ≡ sector_of ys 2 → selected_of xs ≡ selected_of ys
unfolding selected_of span_of sector_of
selector_same xs ys same = ap (λ (sector : List ℕ). if slice_index sector 0 == 0x5A then B else A) same

pub body_same : (extent : Extent) (k : ℕ) (xs ys : List ℕ) → ((s : ℕ) → IsWithin (bodies_of extent + BODY_SECTORS * k) BODY_SECTORS s → sector_of xs s ≡ sector_of ys s) → body_of xs extent k ≡ body_of ys extent k
unfolding body_of
body_same extent k xs ys same = spans_same BODY_SECTORS (bodies_of extent + BODY_SECTORS * k) xs ys same

-- bodies are the same if their sectors are
pub bodies_same : (extent : Extent) (n : ℕ) (xs ys : List ℕ) → ((k : ℕ) → k < n → body_of xs extent k ≡ body_of ys extent k) → bodies_in xs extent n ≡ bodies_in ys extent n
unfolding bodies_in
bodies_same extent zero xs ys same = refl
bodies_same extent (suc n) xs ys same =
    let before : bodies_in xs extent n ≡ bodies_in ys extent n = bodies_same extent n xs ys (λ k less. same k (omega arith)) in
    let last : body_of xs extent n ≡ body_of ys extent n = same n (omega arith) in
    rw (before, last) refl

-- one body more follows
pub bodies_more : (extent : Extent) (n : ℕ) (xs : List ℕ) → bodies_in xs extent (n + 1) ≡ bodies_in xs extent n ++ (records_in (body_of xs extent n) ∷ [])
unfolding bodies_in
bodies_more extent n xs = let more : n + 1 ≡ suc n = omega arith in rw more refl

-- a run of n open gates ends at a closed one, or at the last place
pub run_is : (extent : Extent) (places k n : ℕ) (bytes : List ℕ) → n ≤ places → ((j : ℕ) → k ≤ j → j < k + n → is_open bytes extent j ≡ true) → (n < places → is_open bytes extent (k + n) ≡ false)
    → open_run bytes extent k places ≡ n
unfolding open_run
run_is extent zero k zero bytes few opened closed = refl
run_is extent zero k (suc n) bytes few opened closed = absurd (omega arith)
run_is extent (suc places) k zero bytes few opened closed =
    let here : k ≡ k + 0 = omega arith in
    let shut : is_open bytes extent k ≡ false = ap (λ j. is_open bytes extent j) here ∙ closed (omega arith) in
    rw shut refl
run_is extent (suc places) k (suc n) bytes few opened closed =
    let open_here : is_open bytes extent k ≡ true = opened k (omega arith) (omega arith) in
    let there : k + 1 + n ≡ k + suc n = omega arith in
    let rest : open_run bytes extent (k + 1) places ≡ n =
    run_is extent places (k + 1) n bytes (omega arith) (λ j from below. opened j (omega arith) (omega arith)) (λ less. ap (λ j. is_open bytes extent j) there ∙ closed (omega arith)) in
    rw open_here (ap suc rest)

-- the bodies of an image with n open gates in a row
pub bodies_are : (extent : Extent) (n : ℕ) (image : List ℕ) → selected_of image ≡ extent → n ≤ PLACES → ((k : ℕ) → k < n → is_open image extent k ≡ true) → (n < PLACES → is_open image extent n ≡ false)
    → open_bodies image ≡ bodies_in image extent n
unfolding open_bodies
bodies_are extent n image selects few opened closed =
    let there : 0 + n ≡ n = omega arith in
    let run : open_run image extent 0 PLACES ≡ n = run_is extent PLACES 0 n image few (λ j from below. opened j (omega arith)) (λ less. ap (λ j. is_open image extent j) there ∙ closed less) in
    rw selects (ap (λ m. bodies_in image extent m) run)
