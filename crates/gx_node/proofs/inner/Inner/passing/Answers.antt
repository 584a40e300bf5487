use Rattle.std.proofs.Common.{◌≡◌, ◌∙◌, ◌-◌, List, ℕ, ap, sym, map, length, min}
use Rattle.std.proofs.lemmas.List.{length-map}
use Rattle.std.proofs.lemmas.Simd.{map-map}
use Rattle.gx_node.specs.declared.passing.TheConstants.{BLOCK}
use Rattle.gx_node.specs.Hits.{hits_among}
use Rattle.gx_node.specs.Reading.{format_of, key_of, child_of}
use Rattle.gx_node.proofs.inner.Inner.passing.Goals as goal

pub returns : goal.returns
returns g c =
    let f = format_of g.K.KeyClass in
    let items = c.self.inside.page.now.items in
    let seen = map (λ (item : List ℕ). g.K.Probing.passes c.args.probe.now (key_of f item)) items in
    let many : length items ≡ length c.args.self.now.children = sym (length-map items (child_of f)) ∙ ap (λ n. length n.children) c.self.view_is in
    c.passing.ensures ∙ ap (λ n. hits_among seen c.args.from (min BLOCK (n - c.args.from))) many
    ∙ ap (λ hits. hits_among hits c.args.from (min BLOCK (length c.args.self.now.children - c.args.from)))
    (sym (ap (λ n. map (λ child. g.K.Probing.passes c.args.probe.now child.key) n.children) (sym c.self.view_is)
    ∙ map-map (λ child. g.K.Probing.passes c.args.probe.now child.key) (child_of f) items))
