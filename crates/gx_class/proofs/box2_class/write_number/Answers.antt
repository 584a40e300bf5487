use Rattle.std.proofs.Common.{◌≡◌, ◌+◌, ◌-◌, ◌++◌, take, arith, of_z, ap, ◌∙◌}
use Rattle.std.specs.Int.{w32, to_be_bytes}
use Rattle.std.proofs.lemmas.Int.{to_z-of_z}
use Rattle.std.proofs.lemmas.List.{drop-drop}
use borrow.Rule.Slice.PartMut.{put_mid, post_of}
use Rattle.gx_class.specs.Boxes.{number_bytes}
use Rattle.gx_class.proofs.box2_class.write_number.Goals as goal

pub returns : goal.returns
unfolding number_bytes
returns c =
    let four : c.args.at + 4 - c.args.at ≡ 4 = omega arith in
    ap (λ k. put_mid c.args.at k c.args.out.now c.copy_from_slice.new.self) four
    ∙ ap (λ l. take c.args.at c.args.out.now ++ (l ++ post_of c.args.at 4 c.args.out.now)) (c.copy_from_slice.ensures.after ∙ c.to_be_bytes.ensures ∙ ap (λ z. to_be_bytes w32 (of_z w32 z)) (to_z-of_z w32 c.args.number c.ranges.number))
    ∙ ap (λ l. take c.args.at c.args.out.now ++ (number_bytes c.args.number ++ l)) (drop-drop 4 c.args.at c.args.out.now)
