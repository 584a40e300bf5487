use Rattle.std.proofs.Common.{◌∙◌, sym}
use Rattle.gx_node.specs.Reading.{format_of}
use Rattle.gx_node.proofs.Parts.{IsLawful}
use Rattle.gx_node.proofs.OnPages.{node_exact, node_of_leaf, node_of_inner}
use Rattle.gx_node.proofs.check.is_node.Goals as goal

pub returns-then-level-eq0-clause-exact : goal.returns-then-level-eq0-clause-exact
returns-then-level-eq0-clause-exact g c =
    let k = g.K.KeyClass in
    let f = format_of k in
    let laws : IsLawful k.is_key k.spelling f = record { back = g.met.K.KeyClass.reading_back; only = g.met.K.KeyClass.reading_only; size = g.met.K.KeyClass.spelling_length } in
    node_exact k.is_key k.spelling f laws c.args.page.now c.args.used c.are_pairs.result c.ranges.used.fits c.are_pairs.ensures.well_formed
    (node_of_leaf f c.args.used c.args.page.now c.are_pairs.result (sym c.level.ensures ∙ c.if-level-eq0.true) c.are_pairs.ensures.test)

pub returns-else-level-eq0-clause-exact : goal.returns-else-level-eq0-clause-exact
returns-else-level-eq0-clause-exact g c =
    let k = g.K.KeyClass in
    let f = format_of k in
    let laws : IsLawful k.is_key k.spelling f = record { back = g.met.K.KeyClass.reading_back; only = g.met.K.KeyClass.reading_only; size = g.met.K.KeyClass.spelling_length } in
    node_exact k.is_key k.spelling f laws c.args.page.now c.args.used c.are_children.result c.ranges.used.fits c.are_children.ensures.well_formed
    (node_of_inner f c.args.used c.args.page.now c.are_children.result (λ e. c.if-level-eq0.false (c.level.ensures ∙ e)) c.are_children.ensures.test)
