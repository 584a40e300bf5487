-- Bytes without a fault are an image, and an image has none.
use Rattle.std.proofs.Common.{◌≡◌, None, length, subst, sym, ◌∙◌, arith}
use Rattle.std.specs.Prelude.{IfNone}
use Rattle.gx_page.specs.Faults.{fault_of}
use Rattle.gx_page.proofs.Parts.{number_in}
use Rattle.gx_page.proofs.Faultless.{is_image, faultless_is_image}
use Rattle.gx_page.proofs.page.Page.check.Goals as goal

pub u32_at-requires : goal.u32_at-requires
u32_at-requires c =
    let size : length c.args.bytes.now ≡ 4096 = subst (λ fault. IfNone fault (length c.args.bytes.now ≡ 4096)) c.in-None.is c.first_fault.ensures.size in omega arith

pub returns-in-Some-clause-fault : goal.returns-in-Some-clause-fault
returns-in-Some-clause-fault c = sym c.first_fault.ensures.fault ∙ c.in-Some.is

pub returns-in-Some-clause-faultless : goal.returns-in-Some-clause-faultless
returns-in-Some-clause-faultless c = faultless_is_image c.args.bytes.now (λ k. (c.type_inv.bytes k).fits)

pub returns-in-None-clause-page : goal.returns-in-None-clause-page
returns-in-None-clause-page c =
    let none : fault_of c.args.bytes.now ≡ None = sym c.first_fault.ensures.fault ∙ c.in-None.is in
    (none, is_image c.args.bytes.now (λ k. (c.type_inv.bytes k).fits) none, c.u32_at.ensures ∙ number_in c.args.bytes.now)

pub returns-in-None-clause-faultless : goal.returns-in-None-clause-faultless
returns-in-None-clause-faultless c = faultless_is_image c.args.bytes.now (λ k. (c.type_inv.bytes k).fits)
