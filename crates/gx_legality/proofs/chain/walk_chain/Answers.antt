use Rattle.std.proofs.Common.{◌≡◌, ◌≢◌, ◌-◌, ◌+◌, suc, length, arith, rules, sym, subst}
use Rattle.gx_legality.proofs.Walks.{Walks, walk_goes, walk_ends, walk_stops, walk_is_long, linked_leaf}
use Rattle.gx_legality.proofs.chain.walk_chain.Goals as goal

pub returns-then-page-eq0-clause-walked : goal.returns-then-page-eq0-clause-walked
returns-then-page-eq0-clause-walked g c =
    λ t are. walk_ends t c.loop-step.passed (length c.args.links.now - c.loop-step._step) c.loop-step.page c.if-page-eq0.true (c.loop-step.invariant.1 t are)

pub returns-in_default-clause-refused : goal.returns-in_default-clause-refused
returns-in_default-clause-refused g c = λ t are.
    let links = c.args.links.now in
    let page = c.loop-step.page in
    let some : page ≢ 0 = c.if-page-eq0.false in
    walk_stops t links c.loop-step.passed (length links - c.loop-step._step) page are (c.loop-step.invariant.1 t are) some (c.in_default.ensures)

pub loop-step-preserved : goal.loop-step-preserved
loop-step-preserved g c =
    let links = c.args.links.now in
    let page = c.loop-step.page in
    let more = c.pass.new.passed in
    let long = length links - c.loop-step._step in
    let left = length links - (c.loop-step._step + 1) in
    let on : long ≡ suc left = omega arith in
    let link = c.in-Some.ensures in (
      search rules,
      λ t are. (
          let leaf = linked_leaf t links page c.in-Some.right are link.0 in
          subst (λ p. Walks t more left p) (sym leaf.2)
          (walk_goes t c.loop-step.passed more long left page on (c.loop-step.invariant.1 t are) leaf.0 leaf.1 link.1)
          ),
    )

pub returns-then-page-eq0-2-clause-walked : goal.returns-then-page-eq0-2-clause-walked
returns-then-page-eq0-2-clause-walked g c =
    λ t are. walk_ends t c.loop-step.passed (length c.args.links.now - c.loop-step._step) c.loop-step.page c.if-page-eq0-2.true (c.loop-step.invariant.1 t are)

pub returns-else-page-eq0-2-clause-refused : goal.returns-else-page-eq0-2-clause-refused
returns-else-page-eq0-2-clause-refused g c = λ t are.
    let left = length c.args.links.now - c.loop-step._step in
    let none : left ≡ 0 = omega arith in
    walk_is_long t c.loop-step.passed left c.loop-step.page none (c.loop-step.invariant.1 t are) c.if-page-eq0-2.false
