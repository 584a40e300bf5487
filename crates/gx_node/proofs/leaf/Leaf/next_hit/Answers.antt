use Rattle.std.proofs.Common.{◌∙◌, ap, sym, subst, map}
use Rattle.std.proofs.lemmas.Simd.{map-map}
use Rattle.gx_node.specs.Hits.{IsNextHit}
use Rattle.gx_node.specs.Reading.{format_of, pair_of}
use Rattle.gx_node.proofs.leaf.Leaf.next_hit.Goals as goal

pub returns : goal.returns
returns g c =
    let f = format_of g.K.KeyClass in
    subst (λ hits. IsNextHit hits c.args.from c.next_passing.result)
    (sym (ap (λ n. map (λ pair. g.K.Probing.passes c.args.probe.now pair.key) n.pairs) (sym c.self.view_is)
    ∙ map-map (λ pair. g.K.Probing.passes c.args.probe.now pair.key) (pair_of f) c.self.inside.page.now.items))
    c.next_passing.ensures
