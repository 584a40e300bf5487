use Rattle.std.proofs.Common.{◌≡◌, ℕ, ℤ, ◌+◌, List, ◌++◌, [], to_z, of_z, take, drop, refl, ap, ◌∙◌, FitsSigned, arith}
use Rattle.std.specs.Int.{w32}
use Rattle.std.proofs.lemmas.Int.{to_z-of_z}
use Rattle.std.proofs.lemmas.List.{append-nil, drop_all}
use Rattle.gx_class.specs.Boxes.{number_bytes}
use Rattle.gx_class.specs.BoxKeyLaws.{length-number_bytes}
use Rattle.gx_class.specs.SolidKeys.{three_bytes}
use Rattle.gx_class.specs.SolidKeyLaws.{length-three_bytes, put_three}
use Rattle.gx_class.proofs.box3_class.Box3ClassKeyClass.encode.Goals as goal

-- a number that was passed has its own bytes
same_bytes : (z k : ℤ) → FitsSigned w32 k → z ≡ k → number_bytes (to_z w32 (of_z w32 z)) ≡ number_bytes k
same_bytes z k fits e = ap (λ y. number_bytes (to_z w32 (of_z w32 y))) e ∙ ap number_bytes (to_z-of_z w32 k fits)

abbrev placed : ℕ → List ℕ → List ℕ → List ℕ
placed at now bytes = take at now ++ (bytes ++ drop (at + 4) now)

pub returns : goal.returns
returns c =
    let is = c.x1.ensures.in_order in
    let key = c.args.key in
    let out = c.args.out.now in
    let low = three_bytes key.x1 key.y1 key.z1 in
    let high = three_bytes key.x2 key.y2 key.z2 in
    let half : c.write_number-3.new.out ≡ ([] ++ low) ++ drop 12 out =
    put_three out out c.write_number.new.out c.write_number-2.new.out c.write_number-3.new.out [] (number_bytes key.x1) (number_bytes key.y1) (number_bytes key.z1) 0
    refl (length-number_bytes key.x1) (length-number_bytes key.y1) (length-number_bytes key.z1) refl
    (c.write_number.ensures ∙ ap (placed 0 out) (same_bytes c.x1.result key.x1 is.x1_fits c.x1.ensures.value))
    (c.write_number-2.ensures ∙ ap (placed 4 c.write_number.new.out) (same_bytes c.y1.result key.y1 is.y1_fits c.y1.ensures.value))
    (c.write_number-3.ensures ∙ ap (placed 8 c.write_number-2.new.out) (same_bytes c.z1.result key.z1 is.z1_fits c.z1.ensures.value)) in
    let whole : c.write_number-6.new.out ≡ (low ++ high) ++ drop 24 out =
    put_three out c.write_number-3.new.out c.write_number-4.new.out c.write_number-5.new.out c.write_number-6.new.out low
    (number_bytes key.x2) (number_bytes key.y2) (number_bytes key.z2) 12
    (length-three_bytes key.x1 key.y1 key.z1) (length-number_bytes key.x2) (length-number_bytes key.y2) (length-number_bytes key.z2) half
    (c.write_number-4.ensures ∙ ap (placed 12 c.write_number-3.new.out) (same_bytes c.x2.result key.x2 is.x2_fits c.x2.ensures.value))
    (c.write_number-5.ensures ∙ ap (placed 16 c.write_number-4.new.out) (same_bytes c.y2.result key.y2 is.y2_fits c.y2.ensures.value))
    (c.write_number-6.ensures ∙ ap (placed 20 c.write_number-5.new.out) (same_bytes c.z2.result key.z2 is.z2_fits c.z2.ensures.value)) in
    whole ∙ ap (λ l. (low ++ high) ++ l) (drop_all 24 out (omega (arith, c.requires))) ∙ append-nil (low ++ high)
