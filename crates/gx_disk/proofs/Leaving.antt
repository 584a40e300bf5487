-- How runs of calls join, and what a crash in one may leave.
use Rattle.std.proofs.Common.{refl, inl, inr, ⊎_elim, ℕ, List, arith}
use Rattle.gx_disk.specs.Device.{Device, MayLeave, Elapses, Rests, Touches}
use Rattle.gx_disk.specs.Moments.{Leaves}

-- no call is a run
pub nothing_leaves : (P : List ℕ → Type 0) (d : Device) → Leaves P d d
nothing_leaves P d = record { later = omega arith; only = λ t image le left. inl left; keeps = λ t image le left. left }

-- a run and then another are one
pub leaves_joined : (P : List ℕ → Type 0) (a b c : Device) → Leaves P a b → Leaves P b c → Leaves P a c
leaves_joined P a b c first next = record {
  later = omega (arith, first.later, next.later);
  only = λ t image le left. ⊎_elim (first.only t image le) inr (next.only t image (omega (arith, le, first.later)) left);
  keeps = λ t image le left. next.keeps t image (omega (arith, le, first.later)) (first.keeps t image le left);
}

-- what has P may be said to have less
pub leaves_weaker : (P Q : List ℕ → Type 0) (a b : Device) → ((image : List ℕ) → P image → Q image) → Leaves P a b → Leaves Q a b
leaves_weaker P Q a b less run = record {
  later = run.later;
  only = λ t image le left. ⊎_elim inl (λ p. inr (less image p)) (run.only t image le left);
  keeps = run.keeps;
}

-- one call is a run, if each image after it has P
pub call_leaves : (P : List ℕ → Type 0) (old new : Device) → Elapses old new → ((image : List ℕ) → MayLeave new image → P image) → Leaves P old new
call_leaves P old new time now = record {
  later = time.later;
  only = λ t image le left. ⊎_elim inl (λ may. inr (now image may)) (time.only t image le left);
  keeps = time.keeps;
}

-- each image since the start of a run has P, if those of the start did
pub each_has : (P : List ℕ → Type 0) (old new : Device) → Leaves P old new → ((image : List ℕ) → old.left_since old.moment image → P image)
    → (image : List ℕ) → new.left_since old.moment image → P image
each_has P old new run start image left = ⊎_elim (start image) (λ p. p) (run.only old.moment image (omega arith) left)

-- an image after a call that touched nothing was one before
pub rested_image : (old new : Device) → Rests old new → (image : List ℕ) → MayLeave new image → MayLeave old image
rested_image old new rests image may = record {
  size = rw (← rests.seen) may.size;
  settled = λ s was. rw (← rests.seen) (may.settled s (rests.settled s was));
}

-- a call that touched nothing touches no sector
pub rested_touches : (first : ℕ) (old new : Device) → Rests old new → Touches first 0 old new
rested_touches first old new rests = record {
  size = rw rests.seen refl;
  bytes = λ s out. rw rests.seen refl;
  settled = λ s out was. rests.settled s was;
}
