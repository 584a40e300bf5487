use Rattle.std.proofs.lemmas.Grind.{common_steps}
use Rattle.std.proofs.Common.{◌≡◌, ◌∙◌, sym, subst, map, refl, rules, None, arith}
use Rattle.gx_node.specs.Trees.{Pair}
use Rattle.gx_node.specs.Hits.{IsNextHit}
use Rattle.gx_node.specs.Seen.{pair_seen}
use Rattle.gx_node.proofs.Live.{past_goes_on, past_finds, past_ends}
use Rattle.gx_tree.specs.Wants.{has_row, wants}
use Rattle.gx_tree.proofs.seek.next_wanted.Goals as goal

pub returns-in_err-hit : goal.returns-in_err-hit
returns-in_err-hit g c =
    let q = has_row c.args.wanted.now.row in
    let p = λ (x : Pair g.row.K-Key.Denot). g.K.Probing.passes c.args.wanted.now.keys x.key in
    let w = wants g.K.Probing.passes c.args.wanted.now.keys c.args.wanted.now.row in
    let pairs = c.args.leaf.now.pairs in
    let none : c.from_residual.result ≡ None = search rules in
    subst (λ r. IsNextHit (map w pairs) c.args.from r) (sym none)
    (past_ends q p pairs c.args.from c.scan.slot c.scan.invariant (subst (λ r. IsNextHit (map p pairs) c.scan.slot r) c.in_err-hit.was c.next_hit.ensures))

pub returns-then-takes : goal.returns-then-takes
returns-then-takes g c =
    let q = has_row c.args.wanted.now.row in
    let p = λ (x : Pair g.row.K-Key.Denot). g.K.Probing.passes c.args.wanted.now.keys x.key in
    let pairs = c.args.leaf.now.pairs in
    let next = subst (λ r. IsNextHit (map p pairs) c.scan.slot r) c.in_ok-hit.was c.next_hit.ensures in
    let x = pair_seen c.entry-entry.result in
    past_finds q p pairs c.args.from c.scan.slot c.in_ok-hit.hit x c.scan.invariant next c.entry-entry.ensures (c.takes.ensures x refl refl ∙ c.if-takes.true)

pub scan-preserved : goal.scan-preserved
scan-preserved g c =
    let q = has_row c.args.wanted.now.row in
    let p = λ (x : Pair g.row.K-Key.Denot). g.K.Probing.passes c.args.wanted.now.keys x.key in
    let pairs = c.args.leaf.now.pairs in
    let next = subst (λ r. IsNextHit (map p pairs) c.scan.slot r) c.in_ok-hit.was c.next_hit.ensures in
    let x = pair_seen c.entry-entry.result in
    past_goes_on q p pairs c.args.from c.scan.slot c.in_ok-hit.hit x c.scan.invariant next c.entry-entry.ensures (c.takes.ensures x refl refl ∙ c.if-takes.false)

pub entry-entry-requires : goal.entry-entry-requires
entry-entry-requires g c = grind (arith, common_steps)

pub overflow_add-slot : goal.overflow_add-slot
overflow_add-slot g c = grind (arith, common_steps)

pub returns : goal.returns
returns g c = grind (arith, common_steps)
