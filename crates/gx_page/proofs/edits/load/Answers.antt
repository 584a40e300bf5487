-- The bytes are written over the whole block, or nothing is written.
use Rattle.std.proofs.Common.{◌≡◌, length, refl, sym, subst, ◌∙◌}
use Rattle.std.specs.Prelude.{IfNone}
use Rattle.gx_page.proofs.Steps.{whole_written}
use Rattle.gx_page.proofs.edits.load.Goals as goal

pub returns-in-Some-clause-fault : goal.returns-in-Some-clause-fault
returns-in-Some-clause-fault c = (sym c.first_fault.ensures.fault ∙ c.in-Some.is, refl)

pub returns-clause-loaded : goal.returns-clause-loaded
returns-clause-loaded c =
    let size : length c.args.bytes.now ≡ 4096 = subst (λ fault. IfNone fault (length c.args.bytes.now ≡ 4096)) c.in_default.is c.first_fault.ensures.size in
    (sym c.first_fault.ensures.fault ∙ c.in_default.is, c.write_many.ensures.0 ∙ whole_written _ c.args.bytes.now c.write_many.ensures.1 size)
