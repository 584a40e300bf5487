-- What the calls of a run keep, whether they succeed or fail.
use Rattle.std.proofs.Common.{◌≡◌, ◌∙◌, sym, refl, subst, inl, inr, ℕ, ◌+◌, List, [], ◌∷◌, Bool, true, false, ◌&&◌, ◌||◌, nat_le, Result, Ok, Err, arith}
use Rattle.gx_geom.specs.declared.refusal.Refusal.{Refusal}
use Rattle.gx_geom.specs.declared.refusal.Refusal.TheVariants as refusal
use Rattle.gx_disk.specs.Device.{Device, MayLeave, Elapses, Touches}
use Rattle.gx_disk.specs.Moments.{Leaves}
use Rattle.gx_disk.proofs.Leaving.{nothing_leaves, leaves_joined, call_leaves, rested_touches}
use Rattle.gx_format.specs.Calls.{Call, Write, Sync, Makes, HasRun, HasFailed, Runs}

-- a call writes none of the m sectors from f on
abbrev pub spares_one : ℕ → ℕ → Call → Bool
spares_one f m (Write first n bytes) = nat_le (f + m) first || nat_le (first + n) f
spares_one f m Sync = true

-- none of these calls does
abbrev pub spares : ℕ → ℕ → List Call → Bool
spares f m [] = true
spares f m (call ∷ calls) = spares_one f m call && spares f m calls

-- a call writes sector 0 at most
abbrev pub is_first : Call → Bool
is_first (Write first n bytes) = nat_le (first + n) 1
is_first Sync = true

-- each call passes the test
abbrev pub all_are : (Call → Bool) → List Call → Bool
all_are test [] = true
all_are test (call ∷ calls) = test call && all_are test calls

pub left_true : (a b : Bool) → (a && b) ≡ true → a ≡ true
left_true true b is = refl
left_true false b is = is

pub right_true : (a b : Bool) → (a && b) ≡ true → b ≡ true
right_true true b is = is
right_true false b is = absurd (grind arith)

-- a call of an honest device keeps it honest and as large
pub call_honest : (call : Call) (d e : Device) (result : Result (Unit {0}) Refusal) → Makes call d e result → (e.honest ≡ d.honest) × (e.sectors ≡ d.sectors)
call_honest (Write first n bytes) d e result makes = (makes.1.0.honest, makes.1.0.sectors)
call_honest Sync d e result makes = (makes.0.honest, makes.0.sectors)

pub call_time : (call : Call) (d e : Device) (result : Result (Unit {0}) Refusal) → d.honest ≡ true → Makes call d e result → Elapses d e
call_time (Write first n bytes) d e result honest makes = (makes.1.1 honest).time
call_time Sync d e result honest makes = (makes.1 honest).time

-- the sectors that a call writes are the only ones that it touches
abbrev pub first_written : Call → ℕ
first_written (Write first n bytes) = first
first_written Sync = 0

abbrev pub how_many_written : Call → ℕ
how_many_written (Write first n bytes) = n
how_many_written Sync = 0

pub call_touches : (call : Call) (d e : Device) (result : Result (Unit {0}) Refusal) → d.honest ≡ true → Makes call d e result → Touches (first_written call) (how_many_written call) d e
call_touches (Write first n bytes) d e result honest makes = (makes.1.1 honest).touches
call_touches Sync d e result honest makes = rested_touches 0 d e (makes.1 honest).rests

-- What each call that passes a test keeps a run of them keeps, and each image within has what follows from it.
module _ {D : Type 0} (state : D → Device) (test : Call → Bool) (I : Device → Type 0) (P : List ℕ → Type 0)
    (kept : (call : Call) (d e : Device) (result : Result (Unit {0}) Refusal) → test call ≡ true → d.honest ≡ true → I d → Makes call d e result → I e)
    (shows : (d : Device) → I d → (image : List ℕ) → MayLeave d image → P image) where
  pub run_keeps : (calls : List Call) (a b : D) → all_are test calls ≡ true → (state a).honest ≡ true → I (state a) → HasRun state calls a b
      → (Leaves P (state a) (state b)) × (I (state b) × ((state b).honest ≡ true))
  run_keeps [] a b passes honest i same = subst (λ d. (Leaves P (state a) (state d)) × (I (state d) × ((state d).honest ≡ true))) (sym same) (nothing_leaves P (state a), (i, honest))
  run_keeps (call ∷ calls) a b passes honest i run =
      let next = kept call (state a) (state run.0) (Ok tt) (left_true (test call) (all_are test calls) passes) honest i run.1.0 in
      let still = (call_honest call (state a) (state run.0) (Ok tt) run.1.0).0 ∙ honest in
      let rest = run_keeps calls run.0 b (right_true (test call) (all_are test calls) passes) still next run.1.1 in (
        leaves_joined P (state a) (state run.0) (state b) (call_leaves P (state a) (state run.0) (call_time call (state a) (state run.0) (Ok tt) honest run.1.0) (shows (state run.0) next)) rest.0,
        rest.1,
      )

  pub failure_keeps : (calls : List Call) (a b : D) → all_are test calls ≡ true → (state a).honest ≡ true → I (state a) → HasFailed state calls a b
      → (Leaves P (state a) (state b)) × I (state b)
  failure_keeps [] a b passes honest i none = absurd none
  failure_keeps (call ∷ calls) a b passes honest i (inl fails) =
      let next = kept call (state a) (state b) (Err refusal.Device) (left_true (test call) (all_are test calls) passes) honest i fails in
      (call_leaves P (state a) (state b) (call_time call (state a) (state b) (Err refusal.Device) honest fails) (shows (state b) next), next)
  failure_keeps (call ∷ calls) a b passes honest i (inr later) =
      let next = kept call (state a) (state later.0) (Ok tt) (left_true (test call) (all_are test calls) passes) honest i later.1.0 in
      let still = (call_honest call (state a) (state later.0) (Ok tt) later.1.0).0 ∙ honest in
      let rest = failure_keeps calls later.0 b (right_true (test call) (all_are test calls) passes) still next later.1.1 in (
        leaves_joined P (state a) (state later.0) (state b) (call_leaves P (state a) (state later.0) (call_time call (state a) (state later.0) (Ok tt) honest later.1.0) (shows (state later.0) next)) rest.0,
        rest.1,
      )

  -- and likewise by its result
  pub keeps : (calls : List Call) (a b : D) (result : Result (Unit {0}) Refusal) → all_are test calls ≡ true → (state a).honest ≡ true → I (state a) → Runs state calls a b result
      → (Leaves P (state a) (state b)) × I (state b)
  keeps calls a b (Ok x) passes honest i run = (let all = run_keeps calls a b passes honest i run in (all.0, all.1.0))
  keeps calls a b (Err why) passes honest i fails = failure_keeps calls a b passes honest i fails.1
