-- How runs of calls join, and what each leaves of the device.
use Rattle.std.proofs.Common.{◌≡◌, refl, subst, ◌⊎◌, inl, inr, ⊎_elim, ℕ, List, [], ◌∷◌, ◌++◌, Result, Ok, Err}
use Rattle.gx_geom.specs.declared.refusal.Refusal.{Refusal}
use Rattle.gx_disk.specs.Device.{Device}
use Rattle.gx_format.specs.Calls.{Call, Write, HasRun, HasFailed, Runs}

module _ {D : Type 0} (state : D → Device) where
  -- two runs are one
  pub run_joined : (xs ys : List Call) (a b c : D) → HasRun state xs a b → HasRun state ys b c → HasRun state (xs ++ ys) a c
  run_joined [] ys a b c same more = subst (λ d. HasRun state ys d c) same more
  run_joined (x ∷ xs) ys a b c run more = (run.0, (run.1.0, run_joined xs ys run.0 b c run.1.1 more))

  -- a run that failed is one of more calls
  pub failed_early : (xs ys : List Call) (a b : D) → HasFailed state xs a b → HasFailed state (xs ++ ys) a b
  failed_early [] ys a b none = absurd none
  failed_early (x ∷ xs) ys a b (inl fails) = inl fails
  failed_early (x ∷ xs) ys a b (inr later) = inr (later.0, (later.1.0, failed_early xs ys later.0 b later.1.1))

  pub failed_late : (xs ys : List Call) (a b c : D) → HasRun state xs a b → HasFailed state ys b c → HasFailed state (xs ++ ys) a c
  failed_late [] ys a b c same fails = subst (λ d. HasFailed state ys d c) same fails
  failed_late (x ∷ xs) ys a b c run fails = inr (run.0, (run.1.0, failed_late xs ys run.0 b c run.1.1 fails))

  -- some calls succeeded, and others went on
  pub goes_on : (xs ys : List Call) (a b c : D) (result : Result (Unit {0}) Refusal) → HasRun state xs a b → Runs state ys b c result → Runs state (xs ++ ys) a c result
  goes_on xs ys a b c (Ok x) run more = run_joined xs ys a b c run more
  goes_on xs ys a b c (Err why) run fails = (fails.0, failed_late xs ys a b c run fails.1)

  -- some calls failed, and no others were made
  pub ends_there : (xs ys : List Call) (a b : D) (why : Refusal) → Runs state xs a b (Err why) → Runs state (xs ++ ys) a b (Err why)
  ends_there xs ys a b why fails = (fails.0, failed_early xs ys a b fails.1)

  -- of calls of which one failed, that one is of the first or of the others
  pub failed_split : (xs ys : List Call) (a c : D) → HasFailed state (xs ++ ys) a c → HasFailed state xs a c ⊎ ((b : D) × (HasRun state xs a b × HasFailed state ys b c))
  failed_split [] ys a c fails = inr (a, (refl, fails))
  failed_split (x ∷ xs) ys a c (inl fails) = inl (inl fails)
  failed_split (x ∷ xs) ys a c (inr later) =
      ⊎_elim (λ first. inl (inr (later.0, (later.1.0, first)))) (λ other. inr (other.0, ((later.0, (later.1.0, other.1.0)), other.1.1))) (failed_split xs ys later.0 c later.1.1)

  -- the same run, with the bytes in another form
  pub of_bytes : (first n : ℕ) (bytes other : List ℕ) (calls : List Call) (a b : D) (result : Result (Unit {0}) Refusal) → bytes ≡ other
      → Runs state (Write first n bytes ∷ calls) a b result → Runs state (Write first n other ∷ calls) a b result
  of_bytes first n bytes other calls a b result is = subst (λ (xs : List ℕ). Runs state (Write first n xs ∷ calls) a b result) is
