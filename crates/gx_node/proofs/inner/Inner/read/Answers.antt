use Rattle.std.proofs.Common.{◌∙◌, sym, subst}
use Rattle.gx_node.specs.Entries.{HoldsChildren}
use Rattle.gx_node.specs.Reading.{format_of}
use Rattle.gx_node.proofs.Parts.{IsLawful}
use Rattle.gx_node.proofs.OnPages.{inner_found}
use Rattle.gx_node.proofs.inner.Inner.read.Goals as goal

pub returns-then-are_children-clause-held : goal.returns-then-are_children-clause-held
returns-then-are_children-clause-held g c =
    let k = g.K.KeyClass in
    let f = format_of k in
    let laws : IsLawful k.is_key k.spelling f = record { back = g.met.K.KeyClass.reading_back; only = g.met.K.KeyClass.reading_only; size = g.met.K.KeyClass.spelling_length } in
    subst (λ n. HoldsChildren k.is_key k.spelling c.args.used c.args.page.now n.children) (sym c.of.ensures)
    (inner_found k.is_key k.spelling f laws c.args.page.now c.args.used c.are_children.result c.are_children.ensures.well_formed (λ e. c.if-level-ne0.true (c.level.ensures ∙ e))
    c.are_children.ensures.test c.if-are_children.true)
