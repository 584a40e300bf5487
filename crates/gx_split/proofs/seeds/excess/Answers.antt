use Rattle.std.proofs.Common.{◌≡◌, ℕ, ◌<◌, ◌^◌, ℤ, pos, ◌-ℤ◌, to_z, of_z, ap, ◌∙◌, arith, rules, FitsSigned}
use Rattle.std.specs.Int.{w128}
use Rattle.std.proofs.lemmas.Int.{to_z-of_z, to_z_pos}
use Rattle.gx_split.proofs.seeds.excess.Goals as goal

abbrev kept : ℤ → ℤ
kept z = to_z w128 (of_z w128 z)

-- small numbers are subtracted exactly
differences : (u f s : ℕ) → u < 2 ^ 126 → f < 2 ^ 126 → s < 2 ^ 126
    → kept (kept (to_z w128 u -ℤ to_z w128 f) -ℤ to_z w128 s) ≡ (pos u -ℤ pos f) -ℤ pos s
differences u f s a b c =
    let once : FitsSigned w128 (pos u -ℤ pos f) = search rules in
    let twice : FitsSigned w128 ((pos u -ℤ pos f) -ℤ pos s) = search rules in
    ap (λ z. kept (kept (z -ℤ to_z w128 f) -ℤ to_z w128 s)) (to_z_pos w128 u (omega arith))
    ∙ ap (λ z. kept (kept (pos u -ℤ z) -ℤ to_z w128 s)) (to_z_pos w128 f (omega arith))
    ∙ ap (λ z. kept (kept (pos u -ℤ pos f) -ℤ z)) (to_z_pos w128 s (omega arith))
    ∙ ap (λ z. kept (z -ℤ pos s)) (to_z-of_z w128 (pos u -ℤ pos f) once) ∙ to_z-of_z w128 ((pos u -ℤ pos f) -ℤ pos s) twice

pub returns : goal.returns
returns c = differences c.args.union c.args.first c.args.second c.requires.union c.requires.first c.requires.second
