-- What is read after a run of what one of its writes wrote.
use Rattle.std.proofs.Common.{◌≡◌, ◌∙◌, sym, ap, refl, subst, inl, ℕ, ◌+◌, ◌-◌, ◌*◌, ◌≤◌, ◌<◌, List, [], ◌∷◌, ◌++◌, length, take, drop, replicate, true, Ok, arith}
use Rattle.std.proofs.lemmas.Bool.Decides.{nat_tests}
use Rattle.std.proofs.lemmas.List.{take-take, drop-drop, drop-take, take_all, take-replicate, drop-replicate}
use Rattle.gx_disk.specs.Device.{Device, IsSettled}
use Rattle.gx_disk.specs.Sectors.{sector_of, span_of, put}
use Rattle.gx_disk.proofs.Spans.{AreApart, touched_span, put_back}
use Rattle.gx_format.specs.Calls.{Call, Write, Sync, HasRun}
use Rattle.gx_format.proofs.Keeping.{spares_one, spares, left_true, right_true, call_honest, call_touches, first_written, how_many_written}

-- a part of what is read from a place on
part : (i m n : ℕ) (xs : List ℕ) → i + m ≤ n → take m (drop i (take n xs)) ≡ take m (drop i xs)
part i m n xs fits =
    let long : n ≡ i + (n - i) = omega arith in
    ap (λ k. take m (drop i (take k xs))) long ∙ ap (take m) (drop-take i (n - i) xs) ∙ take-take m (n - i) (drop i xs) (omega arith)

-- sectors within a span
pub span_part : (xs : List ℕ) (f k m n : ℕ) → k + m ≤ n → span_of xs (f + k) (512 * m) ≡ take (512 * m) (drop (512 * k) (span_of xs f (512 * n)))
unfolding span_of
span_part xs f k m n fits =
    let place : 512 * (f + k) ≡ 512 * f + 512 * k = omega arith in
    ap (λ j. take (512 * m) (drop j xs)) place ∙ ap (take (512 * m)) (sym (drop-drop (512 * k) (512 * f) xs)) ∙ sym (part (512 * k) (512 * m) (512 * n) (drop (512 * f) xs) (omega arith))

-- each sector of a span of zeros is zeros
pub zero_sector : (xs : List ℕ) (f n s : ℕ) → span_of xs f (512 * n) ≡ replicate (512 * n) 0 → f ≤ s → s < f + n → sector_of xs s ≡ replicate 512 0
unfolding span_of sector_of
zero_sector xs f n s zeros from below =
    let k : ℕ = s - f in
    let place : f + k ≡ s = omega arith in
    ap (λ j. take 512 (drop (512 * j) xs)) (sym place) ∙ span_part xs f k 1 n (omega arith) ∙ ap (λ ys. take 512 (drop (512 * k) ys)) zeros
    ∙ ap (take 512) (drop-replicate (512 * k) (512 * n) 0) ∙ take-replicate 512 (512 * n - 512 * k) 0 (omega arith)

-- a call that spares a span leaves it
spared : (f m : ℕ) (call : Call) → spares_one f m call ≡ true → AreApart (first_written call) (how_many_written call) f m
spared f m (Write first n bytes) is = grind (arith, nat_tests)
spared f m Sync is = inl (omega arith)

-- what was written is read
written_back : (f n : ℕ) (bytes xs ys : List ℕ) → length bytes ≡ 512 * n → ys ≡ put (512 * f) bytes xs → 512 * f + length bytes ≤ length xs → span_of ys f (512 * n) ≡ bytes
unfolding span_of
written_back f n bytes xs ys size is fits = ap (λ zs. take (512 * n) (drop (512 * f) zs)) is ∙ ap (λ j. take j (drop (512 * f) (put (512 * f) bytes xs))) (sym size) ∙ put_back (512 * f) bytes xs fits

module _ {D : Type 0} (state : D → Device) (whole : (d : D) → (state d).honest ≡ true → length (state d).seen ≡ 512 * (state d).sectors) where
  -- a run is one of its first calls and one of the others
  pub run_split : (xs ys : List Call) (a c : D) → HasRun state (xs ++ ys) a c → (b : D) × (HasRun state xs a b × HasRun state ys b c)
  run_split [] ys a c run = (a, (refl, run))
  run_split (x ∷ xs) ys a c run = (let rest = run_split xs ys run.0 c run.1.1 in (rest.0, ((run.0, (run.1.0, rest.1.0)), rest.1.1)))

  pub run_honest : (calls : List Call) (a b : D) → HasRun state calls a b → ((state b).honest ≡ (state a).honest) × ((state b).sectors ≡ (state a).sectors)
  run_honest [] a b same = (ap (λ d. (state d).honest) same, ap (λ d. (state d).sectors) same)
  run_honest (call ∷ calls) a b run =
      let first = call_honest call (state a) (state run.0) (Ok tt) run.1.0 in
      let rest = run_honest calls run.0 b run.1.1 in
      (rest.0 ∙ first.0, rest.1 ∙ first.1)

  pub run_spares : (f m : ℕ) (calls : List Call) (a b : D) → spares f m calls ≡ true → (state a).honest ≡ true → HasRun state calls a b
      → span_of (state b).seen f (512 * m) ≡ span_of (state a).seen f (512 * m)
  run_spares f m [] a b is honest same = ap (λ d. span_of (state d).seen f (512 * m)) same
  run_spares f m (call ∷ calls) a b is honest run =
      let apart = spared f m call (left_true (spares_one f m call) (spares f m calls) is) in
      let touches = call_touches call (state a) (state run.0) (Ok tt) honest run.1.0 in
      let still = (call_honest call (state a) (state run.0) (Ok tt) run.1.0).0 ∙ honest in
      run_spares f m calls run.0 b (right_true (spares_one f m call) (spares f m calls) is) still run.1.1
      ∙ touched_span (first_written call) (how_many_written call) f m (state a) (state run.0) touches apart

  -- what a write wrote is read after later calls that spare it
  pub wrote : (before after : List Call) (f n : ℕ) (bytes : List ℕ) (a b : D) → HasRun state (before ++ Write f n bytes ∷ after) a b → (state a).honest ≡ true → f + n ≤ (state a).sectors
      → (k m : ℕ) → k + m ≤ n → spares (f + k) m after ≡ true → span_of (state b).seen (f + k) (512 * m) ≡ take (512 * m) (drop (512 * k) bytes)
  wrote before after f n bytes a b run honest inside k m fits spare =
      let parts = run_split before (Write f n bytes ∷ after) a b run in
      let at = parts.0 in
      let earlier = run_honest before a at parts.1.0 in
      let here = parts.1.1 in
      let makes = here.1.0 in
      let there : (state at).honest ≡ true = earlier.0 ∙ honest in
      let w = makes.1.1 there in
      let room : 512 * f + length bytes ≤ length (state at).seen = omega (arith, whole at there, earlier.1, makes.0, inside) in
      let read : span_of (state here.0).seen f (512 * n) ≡ bytes = written_back f n bytes (state at).seen (state here.0).seen makes.0 w.written.seen room in
      run_spares (f + k) m after here.0 b spare (makes.1.0.honest ∙ there) here.1.1 ∙ span_part (state here.0).seen f k m n fits ∙ ap (λ ys. take (512 * m) (drop (512 * k) ys)) read

  write_size : (before after : List Call) (f n : ℕ) (bytes : List ℕ) (a b : D) → HasRun state (before ++ Write f n bytes ∷ after) a b → length bytes ≡ 512 * n
  write_size before after f n bytes a b run = (run_split before (Write f n bytes ∷ after) a b run).1.1.1.0.0

  -- the whole of it
  pub wrote_all : (before after : List Call) (f n : ℕ) (bytes : List ℕ) (a b : D) → HasRun state (before ++ Write f n bytes ∷ after) a b → (state a).honest ≡ true → f + n ≤ (state a).sectors
      → spares f n after ≡ true → span_of (state b).seen f (512 * n) ≡ bytes
  wrote_all before after f n bytes a b run honest inside spare =
      let size = write_size before after f n bytes a b run in
      let zero_more : f + 0 ≡ f = omega arith in
      ap (λ g. span_of (state b).seen g (512 * n)) (sym zero_more)
      ∙ wrote before after f n bytes a b run honest inside 0 n (omega arith) (rw zero_more spare) ∙ take_all (512 * n) bytes (omega (arith, size))

  -- a run that ends with a sync leaves all settled
  pub synced : (before : List Call) (a b : D) → HasRun state (before ++ Sync ∷ []) a b → (state a).honest ≡ true → IsSettled (state b)
  synced before a b run honest =
      let parts = run_split before (Sync ∷ []) a b run in
      let there : (state parts.0).honest ≡ true = (run_honest before a parts.0 parts.1.0).0 ∙ honest in
      let settled = (parts.1.1.1.0.1 there).settled in
      subst (λ d. IsSettled (state d)) (sym parts.1.1.1.1) settled
