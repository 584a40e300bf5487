use Rattle.std.proofs.Common.{◌∙◌, sym}
use Rattle.gx_found_log.proofs.given.Placing.{image_at, placed_once, stands_at}
use Rattle.gx_found_log.proofs.given.place_by.Goals as goal

pub returns-then-page-clause-place : goal.returns-then-page-clause-place
returns-then-page-clause-place c =
    let x = c.index-pages-hint.result in
    let same = sym c.page.ensures ∙ c.if-page.true in
    let once = placed_once c.args.page x c.args.pages.now c.args.hint c.requires c.if-hint-pages.true c.index-pages-hint.is same in (
      c.if-hint-pages.true,
      λ image. stands_at c.args.page image x c.args.pages.now c.args.hint c.if-hint-pages.true c.index-pages-hint.is same (once.0 image),
    )

pub returns-then-page-clause-image : goal.returns-then-page-clause-image
returns-then-page-clause-image c = λ y at.
    let x = c.index-pages-hint.result in
    let same = sym c.page.ensures ∙ c.if-page.true in
    let once = placed_once c.args.page x c.args.pages.now c.args.hint c.requires c.if-hint-pages.true c.index-pages-hint.is same in
    image_at c.args.page x y c.args.pages.now c.args.hint c.if-hint-pages.true c.index-pages-hint.is same at once.1
