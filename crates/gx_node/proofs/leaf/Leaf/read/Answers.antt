use Rattle.std.proofs.Common.{◌∙◌, sym, subst}
use Rattle.gx_node.specs.Entries.{HoldsPairs}
use Rattle.gx_node.specs.Reading.{format_of}
use Rattle.gx_node.proofs.Parts.{IsLawful}
use Rattle.gx_node.proofs.OnPages.{leaf_found}
use Rattle.gx_node.proofs.leaf.Leaf.read.Goals as goal

pub returns-then-are_pairs-clause-held : goal.returns-then-are_pairs-clause-held
returns-then-are_pairs-clause-held g c =
    let k = g.K.KeyClass in
    let f = format_of k in
    let laws : IsLawful k.is_key k.spelling f = record { back = g.met.K.KeyClass.reading_back; only = g.met.K.KeyClass.reading_only; size = g.met.K.KeyClass.spelling_length } in
    subst (λ n. HoldsPairs k.is_key k.spelling c.args.page.now n.pairs) (sym c.of.ensures)
    (leaf_found k.is_key k.spelling f laws c.args.page.now c.are_pairs.result c.are_pairs.ensures.well_formed (sym c.level.ensures ∙ c.if-level-eq0.true)
    c.are_pairs.ensures.test c.if-are_pairs.true)
