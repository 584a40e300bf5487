use Rattle.std.proofs.Common.{arith, ◌≡◌, length}
use Rattle.std.proofs.lemmas.Bool.Decides.{nat_tests}
use Rattle.gx_shared.proofs.Sharing.{none_shared}
use Rattle.gx_shared.proofs.shared.Shared.close.Goals as goal

pub returns-then-is_empty-clause-least : goal.returns-then-is_empty-clause-least
returns-then-is_empty-clause-least g c =
    let none : length c.args.sessions.items ≡ 0 = grind (arith, nat_tests, c.if-is_empty.true, c.is_empty.ensures) in
    omega (arith, none_shared c.args.sessions.items none)
