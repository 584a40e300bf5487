use Rattle.std.proofs.Common.{arith, ◌≡◌, ◌<◌, refl, length}
use Rattle.std.proofs.lemmas.Bool.Decides.{nat_tests}
use Rattle.gx_shared.proofs.Sharing.{taken_first, none_shared}
use Rattle.gx_shared.proofs.shared.gathered.Goals as goal

pub loop-rest-init : goal.loop-rest-init
loop-rest-init g c = (refl, refl)

pub loop-rest-preserved : goal.loop-rest-preserved
loop-rest-preserved g c =
    let inv = c.loop-rest.invariant in
    let some : 0 < length c.loop-rest.rest.items = grind (arith, nat_tests, c.loop-rest-test.true, c.is_empty.ensures) in
    let t = taken_first c.loop-rest.rest.items c.remove-session.new.self.items c.remove-session.result some c.remove-session.ensures.value c.remove-session.ensures.items in
    (omega (arith, inv.0, t.0, c.into_share.ensures.parts, c.merge.ensures.parts), omega (arith, inv.1, t.1, c.into_share.ensures.amount, c.merge.ensures.amount))

pub returns-clause-parts : goal.returns-clause-parts
returns-clause-parts g c =
    let inv = c.loop-rest.invariant in
    let none : length c.loop-rest.rest.items ≡ 0 = grind (arith, nat_tests, c.loop-rest-test.false, c.is_empty.ensures) in
    omega (arith, inv.0, none)

pub returns-clause-amount : goal.returns-clause-amount
returns-clause-amount g c =
    let inv = c.loop-rest.invariant in
    let none : length c.loop-rest.rest.items ≡ 0 = grind (arith, nat_tests, c.loop-rest-test.false, c.is_empty.ensures) in
    omega (arith, inv.1, none_shared c.loop-rest.rest.items none)
