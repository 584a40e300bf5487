use Rattle.gx_machine.specs.Keys.{keys}
use Rattle.gx_machine.specs.declared.call.Call.TheVariants.{Insert}
use Rattle.gx_txn.specs.Tables.{locks_for}
use Rattle.gx_phases.proofs.Losing.{held_note}
use Rattle.gx_phases.proofs.steps.hold.Goals as goal

pub returns : goal.returns
returns g c =
    let k = keys g.B.Ord.cmp g.B.Shape.overlap g.B.Shape.inside in
    held_note k c.args.session c.args.note c.args.table.now (locks_for k (Insert c.args.note.entry) c.args.session c.args.table.now) c.in_ok-claim.field-0
    c.claim.new.self c.note.new.self c.requires.session c.requires.eight c.in_ok-claim.ensures.takes c.note.ensures
