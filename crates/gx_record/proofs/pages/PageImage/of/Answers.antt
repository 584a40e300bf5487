use Rattle.std.proofs.Common.{arith, sym}
use Rattle.gx_record.proofs.Whole.{image_of_page}
use Rattle.gx_record.proofs.pages.PageImage.of.Goals as goal

pub returns-clause-page : goal.returns-clause-page
returns-clause-page c = record {
  fits = omega (arith, c.number.type_inv);
  image = image_of_page c.args.page.now c.number.result c.image.result.now c.image.ensures.well_formed (sym c.number.ensures) (sym c.image.ensures.image);
}
