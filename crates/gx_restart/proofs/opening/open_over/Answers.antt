use Rattle.std.proofs.lemmas.Result.{err_from_is_err_and}
use Rattle.gx_node.specs.Reading.{format_of}
use Rattle.gx_restart.proofs.Ends.{began_with, device_later, later, told_later}
use Rattle.gx_restart.proofs.opening.open_over.Goals as goal

pub returns-clause-keeps : goal.returns-clause-keeps
returns-clause-keeps g c = λ a honest st.
    (let begun = c.in_ok-engine.ensures.begun a honest st in
    let p = c.args.standing.now.parameters in
    later (record { partial_cmp = g.K.Key.PartialOrd.partial_cmp; eq = g.K.Key.PartialEq.eq; cmp = g.K.Key.Ord.cmp; overlap = g.K.Key.Shape.overlap; inside = g.K.Key.Shape.inside }) g.K.ReadKeys.is_proper g.K.ReadKeys.said (format_of g.K.KeyClass) g.D.SectorDisk.state p _ _ _ begun.leaves c.finished.result
    (c.finished.ensures.keeps p _ st.formatted.allowed.range.least_entries begun.holds))

pub returns-in_err-engine-clause-keeps : goal.returns-in_err-engine-clause-keeps
returns-in_err-engine-clause-keeps g c = λ a honest st.
    let p = err_from_is_err_and c.from_residual.result c.from_residual.ensures.1 in
    rw (p.1, p.2) (c.in_err-engine.ensures.begun a honest st)

pub returns-clause-began : goal.returns-clause-began
returns-clause-began g c = began_with _ c.args.frames c.in_ok-engine.engine c.finished.result c.in_ok-engine.ensures.count c.finished.ensures.goes

pub returns-clause-faults : goal.returns-clause-faults
returns-clause-faults g c = told_later g.D.SectorDisk.state _ _ c.in_ok-engine.ensures.faults c.finished.result c.finished.ensures.faults

pub returns-clause-device : goal.returns-clause-device
returns-clause-device g c =
    device_later g.D.SectorDisk.state (λ engine. g.D.SectorDisk.state engine.volume.shelf.disk) (g.D.SectorDisk.state c.args.disk) (g.D.SectorDisk.state c.in_ok-engine.engine.volume.shelf.disk) c.in_ok-engine.ensures.device c.finished.result c.finished.ensures.device
