use Rattle.std.proofs.Common.{◌≡◌, ℕ, zero, suc, ◌≤◌, Bool, false, eqb, ◌&&◌, get_or, sym, ap, ◌∙◌, arith, inl, inr}
use Rattle.std.specs.Int.Bits.{bit_or, or_zero_l}
use Rattle.std.proofs.lemmas.Bool.Decides.{eqb_tells}
use Rattle.std.proofs.lemmas.Nat.{le_or_l}
use Rattle.std.proofs.lemmas.List.{take_all}
use Rattle.std.proofs.lemmas.List.Folds.{list_all_more}
use Rattle.gx_page.specs.Bytes.{all_zero}
use Rattle.gx_page.proofs.check.all_zero.Goals as goal

some : (n : ℕ) → 1 ≤ n → eqb n 0 ≡ false
some n h = elim (eqb_tells n 0) [ inl is ↦ absurd (omega (arith, is.1)) | inr is ↦ is.0 ]

-- two numbers have no bit if each has none
or_none : (a b : ℕ) → eqb (bit_or a b) 0 ≡ (eqb a 0 && eqb b 0)
or_none zero b = ap (λ (n : ℕ). eqb n 0) (or_zero_l b)
or_none (suc a) b =
    some (bit_or (suc a) b) (omega (arith, le_or_l (suc a) b)) ∙ sym (ap (λ (t : Bool). t && eqb b 0) (some (suc a) (omega arith)))

pub loop-byte-preserved : goal.loop-byte-preserved
loop-byte-preserved c =
    let bytes = c.args.bytes.now in
    let byte = get_or bytes c.loop-byte.byte-index 0 in
    or_none c.loop-byte.bits byte ∙ ap (λ (b : Bool). b && eqb byte 0) c.loop-byte.invariant ∙ sym (list_all_more (λ x. eqb x 0) bytes c.loop-byte.byte-index 0 c.loop-byte-test.true)

pub returns : goal.returns
returns c = c.loop-byte.invariant ∙ ap all_zero (take_all c.loop-byte.byte-index c.args.bytes.now c.loop-byte-test.false)
