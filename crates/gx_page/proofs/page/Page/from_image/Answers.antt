-- The bytes are an image, and are written over the whole block.
use Rattle.std.proofs.Common.{◌≡◌, None, ap, subst, sym, ◌∙◌}
use Rattle.gx_page.specs.Faults.{fault_of}
use Rattle.gx_page.specs.Reading.{read_of, IsImage}
use Rattle.gx_page.proofs.Faultless.{is_image, faultless_is_image}
use Rattle.gx_page.proofs.Parts.{image_size}
use Rattle.gx_page.proofs.Steps.{whole_written}
use Rattle.gx_page.proofs.page.Page.from_image.Goals as goal

pub returns-in-Some-clause-faultless : goal.returns-in-Some-clause-faultless
returns-in-Some-clause-faultless c = faultless_is_image c.args.bytes.now (λ k. (c.type_inv.bytes k).fits)

pub returns-in_default-fresh-clause-faultless : goal.returns-in_default-fresh-clause-faultless
returns-in_default-fresh-clause-faultless c = faultless_is_image c.args.bytes.now (λ k. (c.type_inv.bytes k).fits)

pub invariant_of-result : goal.invariant_of-result
invariant_of-result c =
    let image : IsImage c.args.bytes.now = is_image c.args.bytes.now (λ k. (c.type_inv.bytes k).fits) (sym c.first_fault.ensures.fault ∙ c.in_default.is) in
    subst IsImage (sym (c.write_many.ensures.0 ∙ whole_written _ c.args.bytes.now c.write_many.ensures.1 (image_size c.args.bytes.now image))) image

pub returns-clause-page : goal.returns-clause-page
returns-clause-page c =
    let none : fault_of c.args.bytes.now ≡ None = sym c.first_fault.ensures.fault ∙ c.in_default.is in
    let image : IsImage c.args.bytes.now = is_image c.args.bytes.now (λ k. (c.type_inv.bytes k).fits) none in
    (none, image, ap read_of (c.write_many.ensures.0 ∙ whole_written _ c.args.bytes.now c.write_many.ensures.1 (image_size c.args.bytes.now image)))

pub returns-clause-faultless : goal.returns-clause-faultless
returns-clause-faultless c = faultless_is_image c.args.bytes.now (λ k. (c.type_inv.bytes k).fits)
