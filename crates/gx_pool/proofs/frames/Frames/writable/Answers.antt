use Rattle.std.proofs.Common.{◌∙◌, sym, ap}
use Rattle.gx_pool.specs.Marks.{is_gated}
use Rattle.gx_pool.proofs.Places.{placed_gated}
use Rattle.gx_pool.proofs.frames.Frames.writable.Goals as goal

pub returns-then-is_gated-clause-some : goal.returns-then-is_gated-clause-some
returns-then-is_gated-clause-some c =
    let at = sym c.place.ensures.place ∙ c.in-Some.is in (
      placed_gated c.args.self.now c.args.page c.in-Some.i at ∙ ap (λ m. is_gated c.args.self.now.gated m.stamp) (sym c.mark.ensures)
          ∙ ap (λ v. is_gated v.gated c.mark.result.stamp) (sym c.self.view_is) ∙ sym c.is_gated.ensures ∙ c.if-is_gated.true,
      at,
      c.in-Some.ensures.inside,
    )
