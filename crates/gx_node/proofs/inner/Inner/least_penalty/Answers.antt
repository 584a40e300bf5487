use Rattle.std.proofs.Common.{◌≡◌, ◌∙◌, ap, sym, subst, map, length}
use Rattle.std.specs.List.{IsFirstBest}
use Rattle.std.proofs.lemmas.List.{length-map}
use Rattle.std.proofs.lemmas.Simd.{map-map}
use Rattle.gx_node.specs.Hits.{costs_less}
use Rattle.gx_node.specs.Reading.{format_of, child_of}
use Rattle.gx_node.proofs.inner.Inner.least_penalty.Goals as goal

pub returns : goal.returns
returns g c =
    let f = format_of g.K.KeyClass in
    let items = c.self.inside.page.now.items in
    let many : length items ≡ length c.args.self.now.children = sym (length-map items (child_of f)) ∙ ap (λ n. length n.children) c.self.view_is in
    subst (λ n. IsFirstBest costs_less (map (λ child. g.K.KeyClass.cost child.key c.args.key.now) c.args.self.now.children) n c.least_penalty.result) many
    (subst (λ costs. IsFirstBest costs_less costs (length items) c.least_penalty.result)
    (sym (ap (λ n. map (λ child. g.K.KeyClass.cost child.key c.args.key.now) n.children) (sym c.self.view_is)
    ∙ map-map (λ child. g.K.KeyClass.cost child.key c.args.key.now) (child_of f) items))
    c.least_penalty.ensures)
