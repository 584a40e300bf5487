use Rattle.std.proofs.Common.{Bool, map, not, eq-eqb, ap, sym, ◌∙◌, arith}
use Rattle.std.specs.Prelude.{if◌then◌else◌}
use Rattle.std.proofs.lemmas.Bool.{ne_eqb}
use Rattle.std.proofs.lemmas.List.{length-map}
use Rattle.gx_node.specs.Reading.{format_of, inner_of, leaf_of, pair_of}
use Rattle.gx_node.specs.Trees.{Node}
use Rattle.gx_restart.specs.Sizes.{live_on}
use Rattle.gx_restart.proofs.verification.entries.Counting.{few_pass}
use Rattle.gx_restart.proofs.verification.entries.count_page.Goals as goal

pub returns-then-level-eq0-clause-live : goal.returns-then-level-eq0-clause-live
returns-then-level-eq0-clause-live g c =
    let f = format_of g.K.KeyClass in
    let page = c.args.page.now in
    c.count_pairs.ensures ∙ ap (λ (n : Node _). live_on n) c.of.ensures
    ∙ sym (ap (λ (t : Bool). live_on (if t then leaf_of f page else inner_of f page)) (eq-eqb page.level 0 (sym c.level.ensures ∙ c.if-level-eq0.true)))

pub returns-then-level-eq0-clause-few : goal.returns-then-level-eq0-clause-few
returns-then-level-eq0-clause-few g c =
    let f = format_of g.K.KeyClass in
    let page = c.args.page.now in
    let same = c.count_pairs.ensures ∙ ap (λ (n : Node _). live_on n) c.of.ensures in
    let few = few_pass (λ x. not x.marked) (map (pair_of f) page.items) in
    let long = length-map page.items (pair_of f) in
    let count = c.count-count.ensures.count in
    let bound = c.count-count.ensures.bound in
    omega (arith, same, few, long, count, bound)

pub returns-else-level-eq0-clause-live : goal.returns-else-level-eq0-clause-live
returns-else-level-eq0-clause-live g c =
    let f = format_of g.K.KeyClass in
    let page = c.args.page.now in
    sym (ap (λ (t : Bool). live_on (if t then leaf_of f page else inner_of f page)) (ne_eqb page.level 0 (λ bottom. c.if-level-eq0.false (c.level.ensures ∙ bottom))))
