-- The calls of a migration, one after another.
use Rattle.std.proofs.Common.{◌≡◌, ◌∙◌, sym, ap, refl, subst, inl, inr, ⊎_elim, ℕ, zero, suc, ◌+◌, ◌-◌, ◌*◌, ◌<◌, ◌≤◌, ◌⊎◌, Bool, true, false, ◌&&◌, ◌||◌, nat_le, List, [], ◌∷◌, ◌++◌, length, take, drop, replicate, append_assoc, Result, arith}
use Rattle.std.proofs.lemmas.Bool.{cases_lt, le-leb}
use Rattle.gx_disk.specs.declared.layout.TheConstants.{MIN_SECTORS, PAGES_AT, PAGE_SECTORS}
use Rattle.gx_disk.specs.Device.{Device}
use Rattle.gx_disk.specs.Sectors.{span_of}
use Rattle.gx_format.specs.Calls.{Call, Write, Sync, HasRun, HasFailed, Runs}
use Rattle.gx_format.specs.Formatting.{sectors_of}
use Rattle.gx_format.proofs.Keeping.{all_are, spares, spares_one}
use Rattle.gx_format.proofs.Running.{failed_early, failed_late, run_joined}
use Rattle.gx_format.proofs.laws.Wrote.{run_honest, run_spares, run_split, wrote_all}
use Rattle.gx_glog.specs.declared.extent.TheConstants.{BODIES_A, BODY_SECTORS, GATES_A, GATES_B, PLACES}
use Rattle.gx_glog.specs.declared.parameters.Parameters.{Parameters}
use Rattle.gx_glog.specs.declared.extent.Extent.TheVariants.{A}
use Rattle.gx_glog.specs.First.{closed_gates_bytes, open_gate_bytes, selector_bytes}
use Rattle.gx_glog.specs.Parameters.{parameters_bytes}
use Rattle.gx_geom.specs.declared.refusal.Refusal.{Refusal}
use Rattle.gx_page.specs.declared.block.TheConstants.{PAGE_SIZE}
use Rattle.gx_recovery.proofs.Logs.{and_all}
use Rattle.gx_pool.specs.Area.{bytes_of, first_of}
use Rattle.gx_migrate.specs.Migrating.{log_writes, page_write, page_writes}

-- a page's bytes, as a slice
pub page_slice : (bytes : List ℕ) (n at first page : ℕ) → n ≡ PAGE_SIZE → at ≡ 512 * first → first ≡ first_of page → take n (drop at bytes) ≡ bytes_of bytes page
unfolding span_of
page_slice bytes n at first page size place is = rw (size, place, is) refl

-- each call of two lists passes a test if each of both does
pub all_joined : (test : Call → Bool) (xs ys : List Call) → all_are test xs ≡ true → all_are test ys ≡ true → all_are test (xs ++ ys) ≡ true
all_joined test [] ys first then = then
all_joined test (x ∷ xs) ys first then = and_both (test x) (all_are test xs) (all_are test (xs ++ ys)) first (λ rest. all_joined test xs ys rest then)
  where
    and_both : (a b c : Bool) → (a && b) ≡ true → (b ≡ true → c ≡ true) → (a && c) ≡ true
    and_both true b c is on = on is
    and_both false b c is on = absurd (grind arith)

-- a page's write leaves sector 0
page_spares : (bytes : List ℕ) (page : ℕ) → spares_one 0 1 (page_write bytes page) ≡ true
page_spares bytes page = ap (λ (b : Bool). b || nat_le (first_of page + PAGE_SECTORS) 0) (le-leb (0 + 1) (first_of page) (omega arith))

pub pages_spare : (bytes : List ℕ) (n : ℕ) → all_are (spares_one 0 1) (page_writes bytes n) ≡ true
pages_spare bytes zero = refl
pages_spare bytes (suc n) =
    all_joined (spares_one 0 1) (page_writes bytes n) (page_write bytes (suc n) ∷ []) (pages_spare bytes n) (ap (λ (b : Bool). b && true) (page_spares bytes (suc n)))

pub log_spares : (parameters : Parameters) (body : List ℕ) → all_are (spares_one 0 1) (log_writes parameters body) ≡ true
log_spares parameters body = refl

or_second : (a b : Bool) → b ≡ true → (a || b) ≡ true
or_second true b is = refl
or_second false b is = is

-- a write in front of a span leaves it
before_spares : (first n c m : ℕ) (bytes : List ℕ) → c + m ≤ first → spares_one first n (Write c m bytes) ≡ true
before_spares first n c m bytes low = or_second (nat_le (first + n) c) (nat_le (c + m) first) (le-leb (c + m) first low)

-- the log's writes leave the pages
pub log_leaves : (parameters : Parameters) (body : List ℕ) (first n : ℕ) → PAGES_AT ≤ first → spares first n (log_writes parameters body) ≡ true
log_leaves parameters body first n from =
    and_all _ _ (before_spares first n 1 1 (parameters_bytes parameters ++ replicate 504 0) (omega (arith, from)))
    (and_all _ _ (before_spares first n 2 1 (selector_bytes A) (omega (arith, from)))
    (and_all _ _ (before_spares first n GATES_A PLACES closed_gates_bytes (omega (arith, from)))
    (and_all _ _ (before_spares first n GATES_B PLACES closed_gates_bytes (omega (arith, from)))
    (and_all _ _ (before_spares first n BODIES_A BODY_SECTORS body (omega (arith, from)))
    (and_all _ _ (before_spares first n GATES_A 1 open_gate_bytes (omega (arith, from))) refl)))))

-- a page's write leaves an earlier one
later_spares : (bytes : List ℕ) (p page : ℕ) → 1 ≤ p → p < page → spares (first_of p) PAGE_SECTORS (page_write bytes page ∷ []) ≡ true
later_spares bytes p page low less =
    ap (λ (b : Bool). (b || nat_le (first_of page + PAGE_SECTORS) (first_of p)) && true) (le-leb (first_of p + PAGE_SECTORS) (first_of page) (omega (arith, low, less)))

module _ {D : Type 0} (state : D → Device) where
  -- a run of a page's write after those of the pages before
  pub pages_run : (bytes : List ℕ) (n : ℕ) (a b c : D) → HasRun state (page_writes bytes n) a b → HasRun state (page_write bytes (n + 1) ∷ []) b c → HasRun state (page_writes bytes (n + 1)) a c
  pages_run bytes n a b c before next =
      let more : n + 1 ≡ suc n = omega arith in
      subst (λ m. HasRun state (page_writes bytes m) a c) (sym more)
      (run_joined state (page_writes bytes n) (page_write bytes (suc n) ∷ []) a b c before (subst (λ m. HasRun state (page_write bytes m ∷ []) b c) more next))

  -- a page's write that failed after them
  pub page_failed : (bytes : List ℕ) (n : ℕ) (a b c : D) → HasRun state (page_writes bytes n) a b → HasFailed state (page_write bytes (n + 1) ∷ []) b c → HasFailed state (page_writes bytes (n + 1)) a c
  page_failed bytes n a b c before fails =
      let more : n + 1 ≡ suc n = omega arith in
      subst (λ m. HasFailed state (page_writes bytes m) a c) (sym more)
      (failed_late state (page_writes bytes n) (page_write bytes (suc n) ∷ []) a b c before (subst (λ m. HasFailed state (page_write bytes m ∷ []) b c) more fails))

  -- a write of a page's bytes to its place
  pub page_run : (bytes part : List ℕ) (first page : ℕ) (a b : D) (result : Result (Unit {0}) Refusal) → ((n : ℕ) → length part ≡ 512 * n → Runs state (Write first n part ∷ []) a b result)
      → first ≡ first_of page → part ≡ bytes_of bytes page → length part ≡ PAGE_SIZE → Runs state (page_write bytes page ∷ []) a b result
  page_run bytes part first page a b result runs here is size =
      subst (λ (f : ℕ). Runs state (Write f PAGE_SECTORS (bytes_of bytes page) ∷ []) a b result) here
      (subst (λ (ys : List ℕ). Runs state (Write first PAGE_SECTORS ys ∷ []) a b result) is (runs PAGE_SECTORS size))

  -- a run that failed at a page, of more pages
  pub pages_failed : (bytes : List ℕ) (m n : ℕ) (a b : D) → m ≤ n → HasFailed state (page_writes bytes m) a b → HasFailed state (page_writes bytes n) a b
  pages_failed bytes m zero a b few failed = (let none : m ≡ zero = omega (arith, few) in subst (λ (i : ℕ). HasFailed state (page_writes bytes i) a b) none failed)
  pages_failed bytes m (suc n) a b few failed =
      ⊎_elim
      (λ (less : m < suc n). failed_early state (page_writes bytes n) (page_write bytes (suc n) ∷ []) a b (pages_failed bytes m n a b (omega (arith, less)) failed))
      (λ (not : suc n ≤ m). (let same : m ≡ suc n = omega (arith, few, not) in subst (λ (i : ℕ). HasFailed state (page_writes bytes i) a b) same failed))
      (cases_lt m (suc n))

module _ {D : Type 0} (state : D → Device) (whole : (d : D) → (state d).honest ≡ true → length (state d).seen ≡ 512 * (state d).sectors) where
  -- each page is read where it was written
  pub pages_read : (bytes : List ℕ) (n p : ℕ) (a b : D) → (state a).honest ≡ true → sectors_of n ≤ (state a).sectors → 1 ≤ p → p ≤ n → HasRun state (page_writes bytes n) a b
      → bytes_of (state b).seen p ≡ bytes_of bytes p
  pages_read bytes zero p a b honest room low high run = absurd (omega (arith, low, high))
  pages_read bytes (suc n) p a b honest room low high run =
      let parts = run_split state whole (page_writes bytes n) (page_write bytes (suc n) ∷ []) a b run in
      let middle = parts.0 in
      let on = run_honest state whole (page_writes bytes n) a middle parts.1.0 in
      let still : (state middle).honest ≡ true = on.0 ∙ honest in
      ⊎_elim
      (λ (less : p < suc n).
      run_spares state whole (first_of p) PAGE_SECTORS (page_write bytes (suc n) ∷ []) middle b (later_spares bytes p (suc n) low less) still parts.1.1
      ∙ pages_read bytes n p a middle honest (omega (arith, room)) low (omega (arith, less)) parts.1.0)
      (λ (not : suc n ≤ p).
      (let same : p ≡ suc n = omega (arith, high, not) in
      let inside : first_of (suc n) + PAGE_SECTORS ≤ (state middle).sectors = omega (arith, on.1, room) in
      subst (λ q. bytes_of (state b).seen q ≡ bytes_of bytes q) (sym same)
      (wrote_all state whole [] [] (first_of (suc n)) PAGE_SECTORS (bytes_of bytes (suc n)) middle b parts.1.1 still inside refl)))
      (cases_lt p (suc n))
