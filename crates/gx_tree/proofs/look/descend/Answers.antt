use Rattle.std.proofs.Common.{◌∙◌, ◌≡◌, ◌≤◌, ◌*◌, ◌+◌, ◌++◌, append-nil, append_assoc, ap, sym, filter, map, take, length, arith}
use Rattle.std.proofs.lemmas.List.{map-append, take_all}
use Rattle.gx_node.specs.Trees.{Child}
use Rattle.gx_node.specs.Hits.{passing_of}
use Rattle.gx_tree.specs.Looking.{below, item_of}
use Rattle.gx_node.proofs.Blocks.{block_more}
use Rattle.gx_tree.proofs.look.descend.Goals as goal

pub loop-block-init : goal.loop-block-init
loop-block-init g c = sym (append-nil c.args.stack.now.items)

pub descend_block-requires : goal.descend_block-requires
descend_block-requires g c = let many = c.div_ceil-block-end.ensures in let all = c.len.ensures in omega arith

pub loop-block-preserved : goal.loop-block-preserved
loop-block-preserved g c =
    let children = c.args.inner.now.children in
    let p = λ (x : Child g.row.K-Key.Denot). g.K.Probing.passes c.args.wanted.now.bounds x.key in
    let f = item_of c.args.counter in
    let from = c.loop-block.block * 64 in
    let next : (c.loop-block.block + 1) * 64 ≡ from + 64 = omega arith in
    let many = c.div_ceil-block-end.ensures in
    let all = c.len.ensures in
    let within : from ≤ length children = omega arith in
    let before = filter p (take from children) in
    let block = passing_of p children from in
    c.in_ok-descend_block.ensures ∙ ap (λ l. l ++ map f block) c.loop-block.invariant
    ∙ append_assoc c.args.stack.now.items (map f before) (map f block)
    ∙ ap (λ l. c.args.stack.now.items ++ l)
    (sym (map-append f before block) ∙ ap (map f) (sym (block_more p children from within)) ∙ ap (λ k. map f (filter p (take k children))) (sym next))

pub returns : goal.returns
returns g c =
    let many = c.div_ceil-block-end.ensures in
    let all = c.len.ensures in
    c.loop-block.invariant
    ∙ ap (λ l. c.args.stack.now.items ++ below c.args.counter (g.K.Probing.passes c.args.wanted.now.bounds) l) (take_all (c.loop-block.block * 64) c.args.inner.now.children (omega arith))
