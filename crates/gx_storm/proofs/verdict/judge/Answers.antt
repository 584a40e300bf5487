use Rattle.std.proofs.Common.{arith, ◌≤◌, List, length, subst}
use Rattle.std.proofs.lemmas.Bool.Decides.{nat_tests}
use Rattle.gx_machine.specs.declared.item.Item.{Item}
use Rattle.gx_machine.specs.Keys.{keys}
use Rattle.gx_shared.specs.declared.record.TheConstants.{RECORD}
use Rattle.gx_storm.proofs.verdict.Judging.{replayed, stopped}
use Rattle.gx_storm.proofs.verdict.judge.Goals as goal

pub returns-in-Ok-replay : goal.returns-in-Ok-replay
returns-in-Ok-replay g c =
    let short : length c.calls.result.now ≤ RECORD = grind (arith, nat_tests, c.if-calls-gt-RECORD.false) in
    replayed (keys g.B.Ord.cmp g.B.Shape.overlap g.B.Shape.inside) c.args.calls c.args.book.now.1 c.calls-2.result.now c.args.all.now c.in-Ok.index c.calls-2.ensures c.in-Ok.ensures
    (subst (λ (xs : List (Item g.row.B.Denot)). length xs ≤ RECORD) c.calls.ensures short) c.replay.new.index.machine c.agreed.result c.in-Ok-replay.ensures c.agreed.ensures

pub returns-in-Err-At : goal.returns-in-Err-At
returns-in-Err-At g c =
    let short : length c.calls.result.now ≤ RECORD = grind (arith, nat_tests, c.if-calls-gt-RECORD.false) in
    stopped (keys g.B.Ord.cmp g.B.Shape.overlap g.B.Shape.inside) c.args.calls c.args.book.now.1 c.calls-2.result.now c.args.all.now c.in-Ok.index c.calls-2.ensures c.in-Ok.ensures
    (subst (λ (xs : List (Item g.row.B.Denot)). length xs ≤ RECORD) c.calls.ensures short) c.in-Err-At.place c.in-Err-At.field-0 c.in-Err-At.field-0-is c.in-Err-At.ensures
