use Rattle.std.proofs.Common.{◌≤◌, ◌∙◌, inl, inr, refl, Result, Err}
use Rattle.std.proofs.lemmas.Result.{err_from_is_err_and}
use Rattle.gx_geom.specs.declared.refusal.Refusal.{Refusal}
use Rattle.gx_disk.specs.declared.layout.TheConstants.{LEAST_SECTORS}
use Rattle.gx_found_log.specs.declared.found.FoundLog.{FoundLog}
use Rattle.gx_machine.specs.declared.entry.Entry.{Entry}
use Rattle.gx_machine.specs.Keys.{Members}
use Rattle.gx_node.specs.Reading.{format_of}
use Rattle.gx_opening.specs.Standing.{limits_of}
use Rattle.gx_opening.proofs.standing.Faults.{found_told, told_later}
use Rattle.gx_opening.proofs.standing.Ordering.{laid_in_order, synced_so, unlaid_in_order, unwritten_so}
use Rattle.gx_opening.proofs.Stood.{formatted_so, laid_so, never_damaged, one_cause, stood_safe, told_cause, unlaid_left, unlaid_so}
use Rattle.gx_opening.proofs.standing.stand.Goals as goal

pub returns-clause-safe : goal.returns-clause-safe
returns-clause-safe g c = λ honest.
    (let shape : Members g.row.K-Key.Denot = record { partial_cmp = g.K.Key.PartialOrd.partial_cmp; eq = g.K.Key.PartialEq.eq; cmp = g.K.Key.Ord.cmp; overlap = g.K.Key.Shape.overlap; inside = g.K.Key.Shape.inside } in
    let proper = g.K.ReadKeys.is_proper in
    let said = g.K.ReadKeys.said in
    let f = format_of g.K.KeyClass in
    let state = g.D.SectorDisk.state in
    let a = state c.args.disk.now in
    let b = state c.formatted_behind.new.disk in
    let e = state c.lay_log.new.disk in
    let p = c.in_ok-parameters.parameters in
    let settles = c.in_ok-parameters.ensures.settles honest in
    let allowed = c.in_ok-parameters.ensures.allowed in
    let enough : LEAST_SECTORS ≤ a.sectors = c.requires in
    let formatted = formatted_so shape proper said f _ a b p enough settles in
    let lays = c.in_ok-log.ensures.lays (limits_of p) refl refl (c.what_stands_is_legal.ensures.lawful (limits_of p)) (c.in_ok-parameters.ensures.counted.honest ∙ honest) settles.settled in
    stood_safe shape proper said f 0 a b e p formatted.says settles.only lays.leaves)

pub returns-clause-stood : goal.returns-clause-stood
returns-clause-stood g c = λ honest.
    (let shape : Members g.row.K-Key.Denot = record { partial_cmp = g.K.Key.PartialOrd.partial_cmp; eq = g.K.Key.PartialEq.eq; cmp = g.K.Key.Ord.cmp; overlap = g.K.Key.Shape.overlap; inside = g.K.Key.Shape.inside } in
    let proper = g.K.ReadKeys.is_proper in
    let said = g.K.ReadKeys.said in
    let f = format_of g.K.KeyClass in
    let state = g.D.SectorDisk.state in
    let a = state c.args.disk.now in
    let b = state c.formatted_behind.new.disk in
    let e = state c.lay_log.new.disk in
    let p = c.in_ok-parameters.parameters in
    let settles = c.in_ok-parameters.ensures.settles honest in
    let allowed = c.in_ok-parameters.ensures.allowed in
    let enough : LEAST_SECTORS ≤ a.sectors = c.requires in
    let formatted = formatted_so shape proper said f _ a b p enough settles in
    let lays = c.in_ok-log.ensures.lays (limits_of p) refl refl (c.what_stands_is_legal.ensures.lawful (limits_of p)) (c.in_ok-parameters.ensures.counted.honest ∙ honest) settles.settled in
    (formatted, laid_so shape proper said f 0 a b e p formatted.says settles.only c.in_ok-log.log lays))

pub returns-in_err-log-clause-safe : goal.returns-in_err-log-clause-safe
returns-in_err-log-clause-safe g c = λ honest.
    (let shape : Members g.row.K-Key.Denot = record { partial_cmp = g.K.Key.PartialOrd.partial_cmp; eq = g.K.Key.PartialEq.eq; cmp = g.K.Key.Ord.cmp; overlap = g.K.Key.Shape.overlap; inside = g.K.Key.Shape.inside } in
    let proper = g.K.ReadKeys.is_proper in
    let said = g.K.ReadKeys.said in
    let f = format_of g.K.KeyClass in
    let state = g.D.SectorDisk.state in
    let a = state c.args.disk.now in
    let b = state c.formatted_behind.new.disk in
    let e = state c.lay_log.new.disk in
    let p = c.in_ok-parameters.parameters in
    let settles = c.in_ok-parameters.ensures.settles honest in
    let allowed = c.in_ok-parameters.ensures.allowed in
    let enough : LEAST_SECTORS ≤ a.sectors = c.requires in
    let formatted = formatted_so shape proper said f _ a b p enough settles in
    let lays = c.in_err-log.ensures.lays (limits_of p) refl refl (c.what_stands_is_legal.ensures.lawful (limits_of p)) (c.in_ok-parameters.ensures.counted.honest ∙ honest) settles.settled in
    stood_safe shape proper said f 0 a b e p formatted.says settles.only lays.leaves)

pub returns-in_err-log-clause-stood : goal.returns-in_err-log-clause-stood
returns-in_err-log-clause-stood g c = λ honest.
    let p = err_from_is_err_and c.from_residual-in_err-log.result c.from_residual-in_err-log.ensures.1 in
    rw (p.1, p.2) ((let shape : Members g.row.K-Key.Denot = record { partial_cmp = g.K.Key.PartialOrd.partial_cmp; eq = g.K.Key.PartialEq.eq; cmp = g.K.Key.Ord.cmp; overlap = g.K.Key.Shape.overlap; inside = g.K.Key.Shape.inside } in
    let proper = g.K.ReadKeys.is_proper in
    let said = g.K.ReadKeys.said in
    let f = format_of g.K.KeyClass in
    let state = g.D.SectorDisk.state in
    let a = state c.args.disk.now in
    let b = state c.formatted_behind.new.disk in
    let e = state c.lay_log.new.disk in
    let p = c.in_ok-parameters.parameters in
    let settles = c.in_ok-parameters.ensures.settles honest in
    let allowed = c.in_ok-parameters.ensures.allowed in
    let enough : LEAST_SECTORS ≤ a.sectors = c.requires in
    let formatted = formatted_so shape proper said f _ a b p enough settles in
    let lays = c.in_err-log.ensures.lays (limits_of p) refl refl (c.what_stands_is_legal.ensures.lawful (limits_of p)) (c.in_ok-parameters.ensures.counted.honest ∙ honest) settles.settled in
    inr (unlaid_so shape proper said f _ a b e p formatted.says settles.only c.in_err-log.field-0.0 c.in_err-log.ensures.memory formatted c.in_err-log.ensures.faults lays)))

pub returns-in_err-parameters-clause-damaged : goal.returns-in_err-parameters-clause-damaged
returns-in_err-parameters-clause-damaged g c = λ honest.
    let q = err_from_is_err_and c.from_residual.result c.from_residual.ensures.1 in
    rw (q.1, q.2) ((let a = g.D.SectorDisk.state c.args.disk.now in
    let enough : LEAST_SECTORS ≤ a.sectors = c.requires in
    λ is. absurd (never_damaged _ a.sectors a.seen c.in_err-parameters.field-0.0 ((c.in_err-parameters.ensures.settles honest).told enough) is)))

pub returns-in_err-log-clause-damaged : goal.returns-in_err-log-clause-damaged
returns-in_err-log-clause-damaged g c = λ honest.
    let q = err_from_is_err_and c.from_residual-in_err-log.result c.from_residual-in_err-log.ensures.1 in
    rw (q.1, q.2) ((let shape : Members g.row.K-Key.Denot = record { partial_cmp = g.K.Key.PartialOrd.partial_cmp; eq = g.K.Key.PartialEq.eq; cmp = g.K.Key.Ord.cmp; overlap = g.K.Key.Shape.overlap; inside = g.K.Key.Shape.inside } in
    let proper = g.K.ReadKeys.is_proper in
    let said = g.K.ReadKeys.said in
    let f = format_of g.K.KeyClass in
    let state = g.D.SectorDisk.state in
    let a = state c.args.disk.now in
    let b = state c.formatted_behind.new.disk in
    let e = state c.lay_log.new.disk in
    let p = c.in_ok-parameters.parameters in
    let settles = c.in_ok-parameters.ensures.settles honest in
    let enough : LEAST_SECTORS ≤ a.sectors = c.requires in
    let formatted = formatted_so shape proper said f _ a b p enough settles in
    let lays = c.in_err-log.ensures.lays (limits_of p) refl refl (c.what_stands_is_legal.ensures.lawful (limits_of p)) (c.in_ok-parameters.ensures.counted.honest ∙ honest) settles.settled in
    unlaid_left shape proper said f _ a b e p formatted.says settles.only c.in_err-log.field-0.0 (c.in_err-log.ensures.device.0 ∙ c.in_ok-parameters.ensures.counted.sectors) formatted lays))

pub returns-clause-faults : goal.returns-clause-faults
returns-clause-faults g c =
    c.in_ok-log.ensures.faults ∙ c.in_ok-parameters.ensures.counted.faults

pub returns-in_err-log-clause-faults : goal.returns-in_err-log-clause-faults
returns-in_err-log-clause-faults g c =
    let p = err_from_is_err_and c.from_residual-in_err-log.result c.from_residual-in_err-log.ensures.1 in
    let state = g.D.SectorDisk.state in
    let before = (state c.args.disk.now).faults in
    let middle = (state c.formatted_behind.new.disk).faults in
    let after = (state c.lay_log.new.disk).faults in
    let why : Result (FoundLog (Entry g.row.K-Key.Denot)) Refusal = Err c.in_err-log.field-0.0 in
    rw (p.1, p.2) (told_later {T = FoundLog (Entry g.row.K-Key.Denot)} before middle after why c.in_ok-parameters.ensures.counted.faults
    (found_told {T = FoundLog (Entry g.row.K-Key.Denot)} middle after why c.in_err-log.ensures.faults))

pub returns-in_err-parameters-clause-faults : goal.returns-in_err-parameters-clause-faults
returns-in_err-parameters-clause-faults g c =
    let p = err_from_is_err_and c.from_residual.result c.from_residual.ensures.1 in
    rw (p.1, p.2) c.in_err-parameters.ensures.counted.faults

pub returns-clause-order : goal.returns-clause-order
returns-clause-order g c = λ honest.
    (let shape : Members g.row.K-Key.Denot = record { partial_cmp = g.K.Key.PartialOrd.partial_cmp; eq = g.K.Key.PartialEq.eq; cmp = g.K.Key.Ord.cmp; overlap = g.K.Key.Shape.overlap; inside = g.K.Key.Shape.inside } in
    let proper = g.K.ReadKeys.is_proper in
    let said = g.K.ReadKeys.said in
    let f = format_of g.K.KeyClass in
    let state = g.D.SectorDisk.state in
    let a = state c.args.disk.now in
    let b = state c.formatted_behind.new.disk in
    let p = c.in_ok-parameters.parameters in
    let settles = c.in_ok-parameters.ensures.settles honest in
    let allowed = c.in_ok-parameters.ensures.allowed in
    let enough : LEAST_SECTORS ≤ a.sectors = c.requires in
    let lays = c.in_ok-log.ensures.lays (limits_of p) refl refl (c.what_stands_is_legal.ensures.lawful (limits_of p)) (c.in_ok-parameters.ensures.counted.honest ∙ honest) settles.settled in
    laid_in_order shape proper said f state a (state c.lay_log.new.disk) c.formatted_behind.new.disk p (formatted_so shape proper said f _ a b p enough settles).says
    (synced_so _ a b p c.in_ok-parameters.ensures.counted c.in_ok-parameters.ensures.synced settles) c.in_ok-log.log lays)

pub returns-in_err-log-clause-order : goal.returns-in_err-log-clause-order
returns-in_err-log-clause-order g c = λ honest.
    let p = err_from_is_err_and c.from_residual-in_err-log.result c.from_residual-in_err-log.ensures.1 in
    rw (p.1, p.2) ((let shape : Members g.row.K-Key.Denot = record { partial_cmp = g.K.Key.PartialOrd.partial_cmp; eq = g.K.Key.PartialEq.eq; cmp = g.K.Key.Ord.cmp; overlap = g.K.Key.Shape.overlap; inside = g.K.Key.Shape.inside } in
    let proper = g.K.ReadKeys.is_proper in
    let said = g.K.ReadKeys.said in
    let f = format_of g.K.KeyClass in
    let state = g.D.SectorDisk.state in
    let a = state c.args.disk.now in
    let b = state c.formatted_behind.new.disk in
    let e = state c.lay_log.new.disk in
    let p = c.in_ok-parameters.parameters in
    let settles = c.in_ok-parameters.ensures.settles honest in
    let allowed = c.in_ok-parameters.ensures.allowed in
    let enough : LEAST_SECTORS ≤ a.sectors = c.requires in
    let lays = c.in_err-log.ensures.lays (limits_of p) refl refl (c.what_stands_is_legal.ensures.lawful (limits_of p)) (c.in_ok-parameters.ensures.counted.honest ∙ honest) settles.settled in
    let why = c.in_err-log.field-0.0 in
    unlaid_in_order shape proper said f state a e c.formatted_behind.new.disk p (formatted_so shape proper said f _ a b p enough settles).says
    (synced_so _ a b p c.in_ok-parameters.ensures.counted c.in_ok-parameters.ensures.synced settles) why (one_cause why (told_cause (FoundLog (Entry g.row.K-Key.Denot)) b.faults e.faults why c.in_err-log.ensures.memory c.in_err-log.ensures.faults)) lays))

pub returns-in_err-parameters-clause-order : goal.returns-in_err-parameters-clause-order
returns-in_err-parameters-clause-order g c = λ honest.
    let p = err_from_is_err_and c.from_residual.result c.from_residual.ensures.1 in
    rw (p.1, p.2) ((let a = g.D.SectorDisk.state c.args.disk.now in
    let b = g.D.SectorDisk.state c.formatted_behind.new.disk in
    let unwritten = unwritten_so _ a b c.in_err-parameters.field-0.0 c.in_err-parameters.ensures.counted (c.in_err-parameters.ensures.settles honest) in
    (inl unwritten, λ unfit. unwritten)))
