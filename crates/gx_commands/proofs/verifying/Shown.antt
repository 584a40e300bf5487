-- What is reported of a device that isn't verified.
use Rattle.std.proofs.Common.{◌≡◌, inl, inr, ℕ, Bool, Option, None, Some, List, Result, ⊎_elim, ◌⊎◌, sym, ◌∙◌, subst}
use Rattle.std.specs.Prelude.{IfSome}
use Rattle.gx_class.specs.Traits.{traits_of}
use Rattle.gx_class.specs.declared.class.KeyClass.{Ghosts}
use Rattle.gx_commands.specs.Streams.{Outputs}
use Rattle.gx_disk.specs.Device.{Device}
use Rattle.gx_disk.specs.declared.memory.MemDisk.{MemDisk}
use Rattle.gx_geom.specs.declared.refusal.Refusal.{Refusal}
use Rattle.gx_geom.specs.declared.refusal.Refusal.TheVariants as refusal
use Rattle.gx_machine.specs.Keys.{Members}
use Rattle.gx_node.specs.Reading.{format_of}
use Rattle.gx_opening.specs.Shown.{Finds, FindsDamage, HoldsDamaged, HoldsLog, IsLack, Shows}
use Rattle.gx_opening.specs.declared.damage.Damage.{Damage}
use Rattle.gx_opening.proofs.Telling.{finds_so}
use Rattle.gx_restart.specs.Copied.{memory_state}
use Rattle.gx_restart.specs.Verified.{HandsOut, IsDamagedCopy}
use Rattle.gx_restart.specs.declared.verification.NotVerified.{NotVerified}
use Rattle.gx_commands.specs.Verifying.{CopyFinds, IsShownOf, TellsUnverified}

-- what is said of what was found otherwise, if that follows
pub so_told : (was now : Result (Option Damage) Refusal → Type 0) (why : Refusal) → (why ≡ refusal.Damaged → (found : Result (Option Damage) Refusal) → was found → now found) → (old new : Outputs) (status : ℕ)
    → TellsUnverified was why old new status → TellsUnverified now why old new status
so_told was now why follows old new status (inl (is, tells)) =
    inl (
      is,
      record {
        status_is = tells.status_is;
        told = tells.told;
        heard = record { found = tells.heard.found; is_true = follows is tells.heard.found tells.heard.is_true; heard = tells.heard.heard };
      },
    )
so_told was now why follows old new status (inr other) = inr other

module _ {C B : Type 0} (shape : Members B) (is_key : B → Bool) (said : List ℕ → B) (class : Ghosts C B) (number : ℕ) where
  -- what was found in a copy
  pub found_in : (same : Type 0) (copy : Option MemDisk) (c : MemDisk) → copy ≡ Some c → (found : Result (Option Damage) Refusal)
      → (HoldsDamaged shape is_key said (format_of class) number (memory_state c) → FindsDamage shape is_key said (format_of class) MemDisk number same (memory_state c) found)
      → CopyFinds shape (traits_of is_key said class) number copy found
  found_in same copy c is found finds = λ m there damaged.
      (let one : c ≡ m = (let both : Some c ≡ Some m = sym is ∙ there in cc) in
      let Damaged : Device → Type 0 = HoldsDamaged shape is_key said (format_of class) number in
      subst (λ (x : MemDisk). Finds ⊥ (Shows shape is_key said (format_of class) MemDisk number (memory_state x)) IsLack found) one
      (finds_so ⊥ ⊥ (Shows shape is_key said (format_of class) MemDisk number (memory_state c)) (Shows shape is_key said (format_of class) MemDisk number (memory_state c))
      (λ why. (why ≡ refusal.Device) ⊎ ((why ≡ refusal.Memory) × (same ⊎ HoldsLog shape is_key said (format_of class) number (memory_state c)))) IsLack found (λ no. no) (λ damage shows. shows)
      (λ why. ⊎_elim (λ device. inl device) (λ memory. inr memory.0)) (finds (subst (λ (x : MemDisk). Damaged (memory_state x)) (sym one) damaged))))

  some_left : (d : Device) (copy : Option MemDisk) (c : MemDisk) → copy ≡ Some c → IfSome copy (λ m. IsDamagedCopy shape is_key said (format_of class) d (memory_state m))
      → IsDamagedCopy shape is_key said (format_of class) d (memory_state c)
  some_left d None c is left = cc
  some_left d (Some m) c is left = subst (λ (o : Option MemDisk). IfSome o (λ x. IsDamagedCopy shape is_key said (format_of class) d (memory_state x))) is left

  -- is in a device that reads as the one that was verified, but for pages that its log gives
  pub shown_of : (d : Device) (n : NotVerified) → n.why ≡ refusal.Damaged → IfSome n.copy (λ m. IsDamagedCopy shape is_key said (format_of class) d (memory_state m))
      → HandsOut shape is_key said (format_of class) number n → (found : Result (Option Damage) Refusal) → CopyFinds shape (traits_of is_key said class) number n.copy found
      → Finds ⊥ (IsShownOf shape (traits_of is_key said class) number d) IsLack found
  shown_of d n is left hands found finds =
      let there = hands is in
      let c = there.0 in
      let this = some_left d n.copy c there.1.0 left in
      finds_so ⊥ ⊥ (Shows shape is_key said (format_of class) MemDisk number (memory_state c)) (IsShownOf shape (traits_of is_key said class) number d) IsLack IsLack found (λ no. no)
      (λ damage shows. record { copy = c; left = this; shows = shows }) (λ why lack. lack) (finds c there.1.0 there.1.1)
