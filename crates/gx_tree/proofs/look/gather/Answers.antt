use Rattle.std.proofs.Common.{◌∙◌, ◌≡◌, ◌≤◌, ◌*◌, ◌+◌, ◌++◌, append-nil, append_assoc, ap, sym, filter, map, take, length, arith}
use Rattle.std.proofs.lemmas.List.{map-append, take_all}
use Rattle.std.proofs.lemmas.List.Elements.{filter-append}
use Rattle.gx_node.specs.Trees.{Pair}
use Rattle.gx_tree.specs.Found.{found_at}
use Rattle.gx_node.specs.Hits.{passing_of}
use Rattle.gx_tree.specs.Wants.{has_row, wants}
use Rattle.gx_node.proofs.Blocks.{block_more, filter_both}
use Rattle.gx_tree.proofs.look.gather.Goals as goal

pub loop-block-init : goal.loop-block-init
loop-block-init g c = sym (append-nil c.args.found.now.items)

pub gather_block-requires : goal.gather_block-requires
gather_block-requires g c = let many = c.div_ceil-block-end.ensures in let all = c.len.ensures in omega arith

pub loop-block-preserved : goal.loop-block-preserved
loop-block-preserved g c =
    let pairs = c.args.leaf.now.pairs in
    let p = λ (x : Pair g.row.K-Key.Denot). g.K.Probing.passes c.args.wanted.now.keys x.key in
    let q = has_row c.args.wanted.now.row in
    let f = found_at c.args.page in
    let from = c.loop-block.block * 64 in
    let next : (c.loop-block.block + 1) * 64 ≡ from + 64 = omega arith in
    let many = c.div_ceil-block-end.ensures in
    let all = c.len.ensures in
    let within : from ≤ length pairs = omega arith in
    let before = filter p (take from pairs) in
    let block = passing_of p pairs from in
    c.in_ok-gather_block.ensures ∙ ap (λ l. l ++ map f (filter q block)) c.loop-block.invariant
    ∙ ap (λ l. (c.args.found.now.items ++ map f l) ++ map f (filter q block)) (filter_both q p (take from pairs))
    ∙ append_assoc c.args.found.now.items (map f (filter q before)) (map f (filter q block))
    ∙ ap (λ l. c.args.found.now.items ++ l)
    (sym (map-append f (filter q before) (filter q block)) ∙ ap (map f) (sym (filter-append q before block))
    ∙ ap (λ l. map f (filter q l)) (sym (block_more p pairs from within))
    ∙ ap (map f) (sym (filter_both q p (take (from + 64) pairs))) ∙ ap (λ k. map f (filter (wants g.K.Probing.passes c.args.wanted.now.keys c.args.wanted.now.row) (take k pairs))) (sym next))

pub returns : goal.returns
returns g c =
    let many = c.div_ceil-block-end.ensures in
    let all = c.len.ensures in
    let w = wants g.K.Probing.passes c.args.wanted.now.keys c.args.wanted.now.row in
    c.loop-block.invariant
    ∙ ap (λ l. c.args.found.now.items ++ map (found_at c.args.page) (filter w l)) (take_all (c.loop-block.block * 64) c.args.leaf.now.pairs (omega arith))
