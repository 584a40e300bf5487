-- Both moves copy as many bytes as lie between the two places.
use Rattle.std.proofs.Common.{◌≡◌, ℕ, ◌+◌, ◌-◌, ap, ◌∙◌, arith}
use Rattle.std.specs.List.{copy_within}
use Rattle.gx_page.proofs.block.Block.copy_within.Goals as goal

pub overflow_sub-to : goal.overflow_sub-to
overflow_sub-to c = c.requires.source.0

pub move_down-requires : goal.move_down-requires
move_down-requires c = (c.if-dest-from.true, omega arith)

pub overflow_sub-to-else-dest-from : goal.overflow_sub-to-else-dest-from
overflow_sub-to-else-dest-from c = c.requires.source.0

pub move_up-requires : goal.move_up-requires
move_up-requires c = (omega arith, omega arith)

pub returns-then-dest-from : goal.returns-then-dest-from
returns-then-dest-from c =
    let back : c.args.from + (c.args.to - c.args.from) ≡ c.args.to = omega arith in
    c.move_down.ensures.0 ∙ ap (λ (end : ℕ). copy_within c.args.self.now.bytes c.args.from end c.args.dest) back

pub returns-else-dest-from : goal.returns-else-dest-from
returns-else-dest-from c =
    let back : c.args.from + (c.args.to - c.args.from) ≡ c.args.to = omega arith in
    c.move_up.ensures.0 ∙ ap (λ (end : ℕ). copy_within c.args.self.now.bytes c.args.from end c.args.dest) back
