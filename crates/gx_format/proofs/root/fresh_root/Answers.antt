use Rattle.std.proofs.Common.{◌∙◌, ap, refl, subst, arith}
use Rattle.gx_page.specs.Contents.{Contents}
use Rattle.gx_page.specs.Format.{IsWellFormed}
use Rattle.gx_format.proofs.root.Roots.{root_is}
use Rattle.gx_format.proofs.root.fresh_root.Goals as goal

pub append-requires-clause-inner : goal.append-requires-clause-inner
append-requires-clause-inner g c = rw c.in-Ok.ensures.page (c.blanks.ensures.1 1 1 2 (omega arith))

pub returns-clause-page : goal.returns-clause-page
returns-clause-page g c =
    let k = g.K.KeyClass in
    root_is k.is_key k.spelling k.KEY k.reading k.start_key c.append.new.page c.inners.ensures.hold c.image.ensures.well_formed c.append.ensures.inner
    (c.append.ensures.node ∙ rw (c.in-Ok.ensures.page, c.start.ensures) refl) (c.append.ensures.number ∙ ap (λ (page : Contents). page.number) c.in-Ok.ensures.page)

pub returns-clause-well_formed : goal.returns-clause-well_formed
returns-clause-well_formed g c =
    let k = g.K.KeyClass in
    let is =
    root_is k.is_key k.spelling k.KEY k.reading k.start_key c.append.new.page c.inners.ensures.hold c.image.ensures.well_formed c.append.ensures.inner
    (c.append.ensures.node ∙ rw (c.in-Ok.ensures.page, c.start.ensures) refl) (c.append.ensures.number ∙ ap (λ (page : Contents). page.number) c.in-Ok.ensures.page) in
    subst IsWellFormed is c.image.ensures.well_formed
