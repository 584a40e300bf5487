use Rattle.std.proofs.Common.{◌∙◌, Result, subst}
use Rattle.std.specs.Prelude.{IfErr}
use Rattle.gx_opening.specs.Shown.{LeavesDamaged}
use Rattle.gx_geom.specs.declared.refusal.Refusal.{Refusal}
use Rattle.gx_machine.specs.Keys.{Members}
use Rattle.gx_node.specs.Reading.{format_of}
use Rattle.gx_opening.specs.Formatted.{FaultsAre}
use Rattle.gx_opening.specs.Standing.{FindsInOrder, limits_of}
use Rattle.gx_opening.specs.declared.standing.Standing.{Standing}
use Rattle.gx_restart.proofs.Ends.{came_opened, came_refused, came_safe, came_undamaged, enough_of, stands_of, told_later}
use Rattle.gx_restart.proofs.opening.Ordered.{found_in_order, not_found}
use Rattle.gx_restart.proofs.opening.open_with.Goals as goal

pub returns-in-Ok-clause-safe : goal.returns-in-Ok-clause-safe
returns-in-Ok-clause-safe g c = λ honest.
    (let shape : Members g.row.K-Key.Denot = (record { partial_cmp = g.K.Key.PartialOrd.partial_cmp; eq = g.K.Key.PartialEq.eq; cmp = g.K.Key.Ord.cmp; overlap = g.K.Key.Shape.overlap; inside = g.K.Key.Shape.inside }) in
    let proper = g.K.ReadKeys.is_proper in
    let said = g.K.ReadKeys.said in
    let class = g.K.KeyClass in
    let state = g.D.SectorDisk.state in
    let a = c.args.disk in
    let m = c.find-disk.result.0 in
    let s = c.in-Ok.standing in
    let enough = enough_of shape proper said (format_of class) _ (state a) (state m) c.find-disk.result.1 s c.in-Ok.is c.find-disk.ensures.allowed in
    let st = stands_of shape proper said (format_of class) _ (state a) (state m) c.find-disk.result.1 s c.in-Ok.is _ (c.find-disk.ensures.tested honest enough) in
    let came = c.open_over.ensures.keeps a (c.find-disk.ensures.device.1 ∙ honest) st in
    came_safe shape proper said class state _ a m s st (c.find-disk.ensures.safe honest) c.open_over.result came)

pub returns-in-Ok-clause-opened : goal.returns-in-Ok-clause-opened
returns-in-Ok-clause-opened g c = λ honest enough.
    (let shape : Members g.row.K-Key.Denot = (record { partial_cmp = g.K.Key.PartialOrd.partial_cmp; eq = g.K.Key.PartialEq.eq; cmp = g.K.Key.Ord.cmp; overlap = g.K.Key.Shape.overlap; inside = g.K.Key.Shape.inside }) in
    let proper = g.K.ReadKeys.is_proper in
    let said = g.K.ReadKeys.said in
    let class = g.K.KeyClass in
    let state = g.D.SectorDisk.state in
    let a = c.args.disk in
    let m = c.find-disk.result.0 in
    let s = c.in-Ok.standing in
    let st = stands_of shape proper said (format_of class) _ (state a) (state m) c.find-disk.result.1 s c.in-Ok.is _ (c.find-disk.ensures.tested honest enough) in
    let came = c.open_over.ensures.keeps a (c.find-disk.ensures.device.1 ∙ honest) st in
    came_opened shape proper said class state _ a m s st (c.a_class_is_lawful.ensures (limits_of s.parameters) st.formatted.allowed.range.least_entries) c.open_over.result
    c.open_over.ensures.idle came)

pub returns-in-Ok-clause-refused : goal.returns-in-Ok-clause-refused
returns-in-Ok-clause-refused g c = λ honest enough.
    (let shape : Members g.row.K-Key.Denot = (record { partial_cmp = g.K.Key.PartialOrd.partial_cmp; eq = g.K.Key.PartialEq.eq; cmp = g.K.Key.Ord.cmp; overlap = g.K.Key.Shape.overlap; inside = g.K.Key.Shape.inside }) in
    let proper = g.K.ReadKeys.is_proper in
    let said = g.K.ReadKeys.said in
    let class = g.K.KeyClass in
    let state = g.D.SectorDisk.state in
    let a = c.args.disk in
    let m = c.find-disk.result.0 in
    let s = c.in-Ok.standing in
    let st = stands_of shape proper said (format_of class) _ (state a) (state m) c.find-disk.result.1 s c.in-Ok.is _ (c.find-disk.ensures.tested honest enough) in
    let came = c.open_over.ensures.keeps a (c.find-disk.ensures.device.1 ∙ honest) st in
    came_refused shape proper said class state _ a m s st c.open_over.result came)

pub returns-in-Ok-clause-damaged : goal.returns-in-Ok-clause-damaged
returns-in-Ok-clause-damaged g c = λ honest.
    (let shape : Members g.row.K-Key.Denot = (record { partial_cmp = g.K.Key.PartialOrd.partial_cmp; eq = g.K.Key.PartialEq.eq; cmp = g.K.Key.Ord.cmp; overlap = g.K.Key.Shape.overlap; inside = g.K.Key.Shape.inside }) in
    let proper = g.K.ReadKeys.is_proper in
    let said = g.K.ReadKeys.said in
    let class = g.K.KeyClass in
    let state = g.D.SectorDisk.state in
    let a = c.args.disk in
    let m = c.find-disk.result.0 in
    let s = c.in-Ok.standing in
    let enough = enough_of shape proper said (format_of class) _ (state a) (state m) c.find-disk.result.1 s c.in-Ok.is c.find-disk.ensures.allowed in
    let st = stands_of shape proper said (format_of class) _ (state a) (state m) c.find-disk.result.1 s c.in-Ok.is _ (c.find-disk.ensures.tested honest enough) in
    let came = c.open_over.ensures.keeps a (c.find-disk.ensures.device.1 ∙ honest) st in
    came_undamaged shape proper said class state _ a m s st c.open_over.result came)

pub returns-in-Err-clause-damaged : goal.returns-in-Err-clause-damaged
returns-in-Err-clause-damaged g c = λ honest.
    (let shape : Members g.row.K-Key.Denot = (record { partial_cmp = g.K.Key.PartialOrd.partial_cmp; eq = g.K.Key.PartialEq.eq; cmp = g.K.Key.Ord.cmp; overlap = g.K.Key.Shape.overlap; inside = g.K.Key.Shape.inside }) in
    let state = g.D.SectorDisk.state in
    subst (λ (x : Result (Standing g.row.K-Key.Denot) Refusal). IfErr x (LeavesDamaged shape g.K.ReadKeys.is_proper g.K.ReadKeys.said (format_of g.K.KeyClass) g.K.KeyClass.CLASS (state c.find-disk.result.0))) c.in-Err.is
    (c.find-disk.ensures.damaged honest))

pub returns-in-Ok-clause-faults : goal.returns-in-Ok-clause-faults
returns-in-Ok-clause-faults g c =
    let same = subst (λ (x : Result (Standing g.row.K-Key.Denot) Refusal). FaultsAre (g.D.SectorDisk.state c.args.disk).faults (g.D.SectorDisk.state c.find-disk.result.0).faults x) c.in-Ok.is c.find-disk.ensures.faults in
    told_later g.D.SectorDisk.state _ _ same c.open_over.result c.open_over.ensures.faults

pub returns-in-Err-clause-faults : goal.returns-in-Err-clause-faults
returns-in-Err-clause-faults g c =
    subst (λ (x : Result (Standing g.row.K-Key.Denot) Refusal). FaultsAre (g.D.SectorDisk.state c.args.disk).faults (g.D.SectorDisk.state c.find-disk.result.0).faults x) c.in-Err.is c.find-disk.ensures.faults

pub returns-in-Ok-clause-order : goal.returns-in-Ok-clause-order
returns-in-Ok-clause-order g c = λ honest.
    (let shape : Members g.row.K-Key.Denot = (record { partial_cmp = g.K.Key.PartialOrd.partial_cmp; eq = g.K.Key.PartialEq.eq; cmp = g.K.Key.Ord.cmp; overlap = g.K.Key.Shape.overlap; inside = g.K.Key.Shape.inside }) in
    let proper = g.K.ReadKeys.is_proper in
    let said = g.K.ReadKeys.said in
    let class = g.K.KeyClass in
    let state = g.D.SectorDisk.state in
    let a = c.args.disk in
    let m = c.find-disk.result.0 in
    let s = c.in-Ok.standing in
    let enough = enough_of shape proper said (format_of class) _ (state a) (state m) c.find-disk.result.1 s c.in-Ok.is c.find-disk.ensures.allowed in
    let st = stands_of shape proper said (format_of class) _ (state a) (state m) c.find-disk.result.1 s c.in-Ok.is _ (c.find-disk.ensures.tested honest enough) in
    let came = c.open_over.ensures.keeps a (c.find-disk.ensures.device.1 ∙ honest) st in
    let first = subst (λ (x : Result (Standing g.row.K-Key.Denot) Refusal). FindsInOrder shape proper said (format_of class) state (state a) (state m) x) c.in-Ok.is (c.find-disk.ensures.order honest) in
    found_in_order shape proper said class state _ a m s st first c.open_over.result came)

pub returns-in-Err-clause-order : goal.returns-in-Err-clause-order
returns-in-Err-clause-order g c = λ honest.
    (let shape : Members g.row.K-Key.Denot = (record { partial_cmp = g.K.Key.PartialOrd.partial_cmp; eq = g.K.Key.PartialEq.eq; cmp = g.K.Key.Ord.cmp; overlap = g.K.Key.Shape.overlap; inside = g.K.Key.Shape.inside }) in
    let proper = g.K.ReadKeys.is_proper in
    let said = g.K.ReadKeys.said in
    let class = g.K.KeyClass in
    let state = g.D.SectorDisk.state in
    let a = state c.args.disk in
    let m = state c.find-disk.result.0 in
    let finds = subst (λ (x : Result (Standing g.row.K-Key.Denot) Refusal). FindsInOrder shape proper said (format_of class) state a m x) c.in-Err.is (c.find-disk.ensures.order honest) in
    not_found shape proper said class state a m c.in-Err.why finds)

pub returns-in-Ok-clause-began : goal.returns-in-Ok-clause-began
returns-in-Ok-clause-began g c = c.open_over.ensures.began
