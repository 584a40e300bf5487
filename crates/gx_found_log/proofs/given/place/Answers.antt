use Rattle.std.proofs.Common.{◌∙◌, sym}
use Rattle.gx_found_log.proofs.given.Placing.{stands_at, image_at}
use Rattle.gx_found_log.proofs.given.place.Goals as goal

pub returns-then-page-clause-place : goal.returns-then-page-clause-place
returns-then-page-clause-place c = (
  c.loop-i-test.true,
  λ image. stands_at c.args.page image c.index-pages-i.result c.args.pages.now c.loop-i.i c.loop-i-test.true c.index-pages-i.is (sym c.page.ensures ∙ c.if-page.true) (c.loop-i.invariant.0 image),
)

pub returns-then-page-clause-image : goal.returns-then-page-clause-image
returns-then-page-clause-image c = λ x at.
    image_at c.args.page c.index-pages-i.result x c.args.pages.now c.loop-i.i c.loop-i-test.true c.index-pages-i.is (sym c.page.ensures ∙ c.if-page.true) at c.loop-i.invariant.1
