use Rattle.std.proofs.Common.{◌≡◌, ◌∙◌, ℕ, suc, sym, ap, subst, length, length-append, List, [], ◌∷◌, Bool, arith}
use Rattle.std.proofs.lemmas.List.{length-map}
use Rattle.std.specs.Ordering.{is_eq}
use Rattle.gx_node.specs.Trees.{Node, Rules, size}
use Rattle.gx_tree.specs.Splitting.{DidSplitRoot}
use Rattle.gx_node.specs.Store.{Store, node_at, with_page}
use Rattle.gx_tree.specs.declared.split_root.RootSplit.{RootSplit}
use Rattle.gx_tree.proofs.split_root.RootSplits.{made_root, root_store, did_split_root}
use Rattle.gx_tree.proofs.Splits.{at_untaken}
use Rattle.gx_tree.proofs.split_root.make_root_split.Goals as goal

-- a page that is taken after one that was taken
second_place : {B : Type 0} (s one : Store B) (n : Node B) (page : ℕ) → one ≡ with_page s n → page ≡ suc (length one.nodes) → page ≡ suc (suc (length s.nodes))
second_place s one n page taken is =
    let long : length (with_page s n).nodes ≡ suc (length s.nodes) = omega (arith, length-append s.nodes (n ∷ [])) in
    is ∙ ap (λ (t : Store _). suc (length t.nodes)) taken ∙ ap suc long

pub take_side-second-requires-clause-sides : goal.take_side-second-requires-clause-sides
take_side-second-requires-clause-sides g c =
    let s = g.P.Pages.store c.args.pages.now in
    let here = c.requires.used in
    let many = ap length c.turn.ensures ∙ length-map _ _ ∙ ap length c.sides-sides.ensures ∙ c.requires.can.halves.as_many in
    let root = ap (λ (t : Store g.row.K-Key.Denot). node_at t.nodes 1) c.take_side-first.ensures.taken ∙ at_untaken s 1 _ (λ e. omega (arith, here.1, e)) in
    many ∙ ap (λ (n : Node g.row.K-Key.Denot). size n) (sym root)

pub returns-clause-places : goal.returns-clause-places
returns-clause-places g c =
    (c.take_side-first.ensures.page, second_place _ _ _ c.take_side-second.result c.take_side-first.ensures.taken c.take_side-second.ensures.page)

pub returns-clause-since : goal.returns-clause-since
returns-clause-since g c was q top left right h =
    let first = c.take_side-first.ensures.page in
    let second = second_place _ _ _ c.take_side-second.result c.take_side-first.ensures.taken c.take_side-second.ensures.page in
    let one = c.take_side-first.ensures.since was q (λ e. left (e ∙ first)) h in
    let two = c.take_side-second.ensures.since was q (λ e. right (e ∙ second)) one in
    let three = c.change.ensures.since was q (λ e. left (e ∙ first)) two in
    let four = c.change-2.ensures.since was q (λ e. right (e ∙ second)) three in
    c.change-3.ensures.since was q top four

pub returns-clause-split : goal.returns-clause-split
returns-clause-split g c =
    let r : Rules g.row.K-Key.Denot = record { covers = λ a b. g.K.Key.Shape.inside b a; same = λ a b. is_eq (g.K.Key.Ord.cmp a b); most = c.args._most } in
    let s = g.P.Pages.store c.args.pages.now in
    let one = g.P.Pages.store c.take_side-first.new.pages in
    let two = g.P.Pages.store c.take_side-second.new.pages in
    let three = g.P.Pages.store c.change.new.self in
    let four = g.P.Pages.store c.change-2.new.self in
    let five = g.P.Pages.store c.change-3.new.self in
    let sides = c.sides-sides.result.now in
    let left = c.left-left.result in
    let right = c.right-right.result in
    let first = c.take_side-first.result in
    let second = c.take_side-second.result in
    let here = c.requires.used in
    let both = made_root s one two three four five sides _ left right first second here c.turn.ensures (ap length c.sides-sides.ensures ∙ c.requires.can.halves.as_many)
    c.take_side-first.ensures.page c.take_side-second.ensures.page c.take_side-first.ensures.taken c.take_side-second.ensures.taken
    c.change.ensures.others c.change.ensures.edited c.change-2.ensures.others c.change-2.ensures.edited c.change-3.ensures.others c.change-3.ensures.edited in
    let is : five ≡ root_store s c.args.halves.now.sides c.args.halves.now.left c.args.halves.now.right = both.1
    ∙ ap (λ (ss : List Bool). root_store s ss left right) c.sides-sides.ensures
    ∙ ap (λ (k : g.row.K-Key.Denot). root_store s c.args.halves.now.sides k right) c.left-left.ensures
    ∙ ap (λ (k : g.row.K-Key.Denot). root_store s c.args.halves.now.sides c.args.halves.now.left k) c.right-right.ensures in
    let result = ap (λ n. record { first = n; second = second; left = left; right = right }) c.take_side-first.ensures.page
    ∙ ap (λ n. record { first = suc (length s.nodes); second = n; left = left; right = right }) both.0
    ∙ ap (λ (k : g.row.K-Key.Denot). record { first = suc (length s.nodes); second = suc (suc (length s.nodes)); left = k; right = right }) c.left-left.ensures
    ∙ ap (λ (k : g.row.K-Key.Denot). record { first = suc (length s.nodes); second = suc (suc (length s.nodes)); left = c.args.halves.now.left; right = k }) c.right-right.ensures in
    subst (λ (did : RootSplit g.row.K-Key.Denot). DidSplitRoot r g.K.KeyClass.sides_of s five did) (sym result)
    (did_split_root r g.K.KeyClass.sides_of s five c.args.halves.now.sides c.args.halves.now.left c.args.halves.now.right here c.requires.can is)
