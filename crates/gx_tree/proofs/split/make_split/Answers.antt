use Rattle.std.proofs.lemmas.Grind.{common_steps}
use Rattle.std.proofs.Common.{◌≡◌, ◌+◌, ◌∙◌, suc, sym, ap, subst, length, arith, List, Bool}
use Rattle.std.specs.Ordering.{is_eq}
use Rattle.gx_node.specs.Trees.{Node, Rules}
use Rattle.gx_tree.specs.Splitting.{NamesOnce, DidSplit, split_store}
use Rattle.gx_node.specs.Store.{Store}
use Rattle.gx_tree.specs.declared.split.Split.{Split}
use Rattle.gx_tree.proofs.Splits.{made, parent_before, did_split}
use Rattle.gx_tree.proofs.split.make_split.Goals as goal

pub name_halves-requires-clause-names : goal.name_halves-requires-clause-names
name_halves-requires-clause-names g c =
    let s = g.P.Pages.store c.args.pages.now in
    let one = g.P.Pages.store c.take_side-sibling.new.pages in
    let two = g.P.Pages.store c.keep_side.new.pages in
    subst (λ (n : Node g.row.K-Key.Denot). NamesOnce n.children c.args.page c.args.slot)
    (sym (parent_before s one two c.args.page c.args.parent _ _ c.requires.used.0 c.requires.used.1 c.requires.used.2 c.take_side-sibling.ensures.taken c.keep_side.ensures.kept))
    c.requires.can.names

pub returns-clause-split : goal.returns-clause-split
returns-clause-split g c =
    let r : Rules g.row.K-Key.Denot = record { covers = λ a b. g.K.Key.Shape.inside b a; same = λ a b. is_eq (g.K.Key.Ord.cmp a b); most = c.args._most } in
    let s = g.P.Pages.store c.args.pages.now in
    let one = g.P.Pages.store c.take_side-sibling.new.pages in
    let two = g.P.Pages.store c.keep_side.new.pages in
    let three = g.P.Pages.store c.name_halves.new.pages in
    let here = c.requires.used.0 in
    let above = c.requires.used.1 in
    let apart = c.requires.used.2 in
    let sides = c.sides-sides.result.now in
    let left = c.left-left.result in
    let right = c.right-right.result in
    let page = c.args.page in
    let parent = c.args.parent in
    let number : c.counter.result + 1 ≡ suc s.counter =
    omega (arith, c.counter.ensures, ap (λ (t : Store g.row.K-Key.Denot). t.counter) c.take_side-sibling.ensures.taken) in
    let is : g.P.Pages.store c.count_split.new.self ≡ split_store s page parent sides left right =
    c.count_split.ensures.counted
    ∙ made s one two three page parent sides _ left right (c.counter.result + 1) c.take_side-sibling.result
    c.turn.ensures (ap length c.sides-sides.ensures ∙ c.requires.can.halves.as_many)
    here above apart number c.take_side-sibling.ensures.page c.take_side-sibling.ensures.taken c.keep_side.ensures.kept c.name_halves.ensures.named in
    let all = is
    ∙ ap (λ (ss : List Bool). split_store s page parent ss left right) c.sides-sides.ensures
    ∙ ap (λ (k : g.row.K-Key.Denot). split_store s page parent c.args.halves.now.sides k right) c.left-left.ensures
    ∙ ap (λ (k : g.row.K-Key.Denot). split_store s page parent c.args.halves.now.sides c.args.halves.now.left k) c.right-right.ensures in
    let result = ap (λ n. record { sibling = n; slot = c.args.slot; left = left; right = right }) c.take_side-sibling.ensures.page
    ∙ ap (λ (k : g.row.K-Key.Denot). record { sibling = suc (length s.nodes); slot = c.args.slot; left = k; right = right }) c.left-left.ensures
    ∙ ap (λ (k : g.row.K-Key.Denot). record { sibling = suc (length s.nodes); slot = c.args.slot; left = c.args.halves.now.left; right = k }) c.right-right.ensures in
    subst (λ (did : Split g.row.K-Key.Denot). DidSplit r g.K.KeyClass.sides_of s (g.P.Pages.store c.count_split.new.self) page parent did) (sym result)
    (did_split r g.K.KeyClass.sides_of s (g.P.Pages.store c.count_split.new.self) page parent c.args.slot c.args.halves.now.sides c.args.halves.now.left c.args.halves.now.right
    here above apart c.requires.can all)

pub keep_side-requires-clause-sides : goal.keep_side-requires-clause-sides
keep_side-requires-clause-sides g c = grind (arith, common_steps)

pub name_halves-requires-clause-inner : goal.name_halves-requires-clause-inner
name_halves-requires-clause-inner g c = grind (arith, common_steps)

pub name_halves-requires-clause-few : goal.name_halves-requires-clause-few
name_halves-requires-clause-few g c = grind (arith, common_steps)
