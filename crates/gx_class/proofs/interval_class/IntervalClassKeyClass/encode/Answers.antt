use Rattle.std.proofs.Common.{◌≡◌, ℤ, ◌++◌, to_z, of_z, ap, ◌∙◌, FitsSigned}
use Rattle.std.specs.Int.{w64, to_be_bytes}
use Rattle.std.proofs.lemmas.Int.{to_z-of_z}
use Rattle.gx_class.specs.Intervals.{long_bytes}
use Rattle.gx_class.proofs.interval_class.IntervalClassKeyClass.encode.Goals as goal

-- a number that was passed has its own bytes
same_bytes : (z k : ℤ) → FitsSigned w64 k → z ≡ k → to_be_bytes w64 (of_z w64 (to_z w64 (of_z w64 z))) ≡ long_bytes k
unfolding long_bytes
same_bytes z k fits e = ap (λ y. to_be_bytes w64 (of_z w64 (to_z w64 (of_z w64 y)))) e ∙ ap (λ y. to_be_bytes w64 (of_z w64 y)) (to_z-of_z w64 k fits)

pub returns : goal.returns
returns c =
    let is = c.lo.ensures.in_order in
    let key = c.args.key in
    ap (λ l. l ++ c.copy_from_slice-2.new.self) (c.copy_from_slice.ensures.after ∙ c.to_be_bytes.ensures ∙ same_bytes c.lo.result key.lo is.lo_fits c.lo.ensures.value)
    ∙ ap (λ l. long_bytes key.lo ++ l) (c.copy_from_slice-2.ensures.after ∙ c.to_be_bytes-2.ensures ∙ same_bytes c.hi.result key.hi is.hi_fits c.hi.ensures.value)
