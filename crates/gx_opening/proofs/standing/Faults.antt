-- How many calls have failed, of one call after another.
use Rattle.std.proofs.Common.{◌≡◌, ◌∙◌, ℕ, Result, Ok, Err, arith}
use Rattle.gx_geom.specs.declared.refusal.Refusal.{Refusal}
use Rattle.gx_geom.specs.declared.refusal.Refusal.TheVariants as refusal
use Rattle.gx_found_log.specs.Found.{FaultsTold}
use Rattle.gx_opening.specs.Formatted.{FaultsAre}
use Rattle.gx_opening.specs.Standing.{told_with}

module _ {T : Type 0} where
  pub found_told : (before now : ℕ) (result : Result T Refusal) → FaultsTold before now result → FaultsAre before now result
  found_told before now (Ok x) same = same
  found_told before now (Err refusal.Device) is = is
  found_told before now (Err refusal.Damaged) same = omega (arith, same)
  found_told before now (Err refusal.Memory) same = omega (arith, same)
  found_told before now (Err other) is = absurd is

  -- if none failed before
  pub told_later : (before middle now : ℕ) (result : Result T Refusal) → middle ≡ before → FaultsAre middle now result → FaultsAre before now result
  told_later before middle now (Ok x) same told = told ∙ same
  told_later before middle now (Err why) same told = omega (arith, same, told)

  pub with_faults : (before now : ℕ) (sound : Result (Unit {0}) Refusal) (x : T) → FaultsAre before now sound → FaultsAre before now (told_with sound x)
  with_faults before now (Ok done) x told = told
  with_faults before now (Err why) x told = told
