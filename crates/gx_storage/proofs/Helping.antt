-- What helps if frames are wanted, and whether a turn may go on.
use Rattle.std.proofs.Common.{◌≡◌, ◌∙◌, sym, ap, refl, ℕ, ◌<◌, ◌≤◌, Bool, true, false, Option, None, Some, arith}
use Rattle.std.specs.Prelude.{nat_eq}
use Rattle.std.specs.Bool.{OnFalse}
use Rattle.gx_pool.specs.State.{State, NoneDirty, clean_count}
use Rattle.gx_storage.specs.State.{Volume}
use Rattle.gx_storage.specs.Flushing.{HelpsFrames, IsLeastWritable, ReadyToTurn, frame_by}

pub enough_clean : (s : State) (wanted n : ℕ) → n ≡ clean_count s → wanted ≤ n → HelpsFrames s wanted None
enough_clean s wanted n is enough = record { enough = λ same. refl; few = λ less. absurd (omega (arith, is, enough, less)) }

pub few_clean : (s : State) (wanted n : ℕ) (least : Option ℕ) → n ≡ clean_count s → n < wanted → IsLeastWritable s least → HelpsFrames s wanted (Some (frame_by least))
few_clean s wanted n least is less found = record { enough = λ enough. absurd (omega (arith, is, enough, less)); few = λ same. (least, found, refl) }

on_false : (b : Bool) {X : Type 0} → (b ≡ false → X) → OnFalse b X
on_false true x = tt
on_false false x = x refl

-- if a page is dirty no turn may go on
pub not_clean : {D : Type 0} (v : Volume D) (n : ℕ) → (NoneDirty v.shelf.frames → n ≡ 0) → OnFalse (nat_eq n 0) (ReadyToTurn v → ⊥)
not_clean v n zero = on_false (nat_eq n 0) (λ no ready. absurd (let never : true ≡ false = sym (ap (λ m. nat_eq m 0) (zero ready.clean)) ∙ no in cc))
