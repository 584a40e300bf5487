use Rattle.std.proofs.Common.{◌∙◌}
use Rattle.gx_machine.specs.Keys.{Members}
use Rattle.gx_node.specs.Reading.{format_of}
use Rattle.gx_opening.specs.Standing.{known_for, limits_of, reading}
use Rattle.gx_opening.proofs.standing.Faults.{told_later}
use Rattle.gx_opening.proofs.standing.Ordering.{tested_in_order}
use Rattle.gx_opening.proofs.Stood.{cut_off_others, may_start, read_safe, tested_so, unsound_left}
use Rattle.gx_opening.proofs.standing.find_in.Goals as goal

pub returns-in-Ok-clause-safe : goal.returns-in-Ok-clause-safe
returns-in-Ok-clause-safe g c = λ honest p says.
    (let shape : Members g.row.K-Key.Denot = record { partial_cmp = g.K.Key.PartialOrd.partial_cmp; eq = g.K.Key.PartialEq.eq; cmp = g.K.Key.Ord.cmp; overlap = g.K.Key.Shape.overlap; inside = g.K.Key.Shape.inside } in
    let proper = g.K.ReadKeys.is_proper in
    let said = g.K.ReadKeys.said in
    let f = format_of g.K.KeyClass in
    let state = g.D.SectorDisk.state in
    let other = c.stand.ensures.device.1 ∙ honest in
    read_safe (known_for shape proper said f p) (reading shape proper said f) state g.met.D.SectorDisk.counts_now g.met.D.SectorDisk.only_now c.args.disk c.stand.new.disk c.tested.result.0 honest other
    (c.stand.ensures.safe honest p says) c.tested.ensures.read)

pub returns-in-Ok-clause-tested : goal.returns-in-Ok-clause-tested
returns-in-Ok-clause-tested g c = λ honest.
    (let shape : Members g.row.K-Key.Denot = record { partial_cmp = g.K.Key.PartialOrd.partial_cmp; eq = g.K.Key.PartialEq.eq; cmp = g.K.Key.Ord.cmp; overlap = g.K.Key.Shape.overlap; inside = g.K.Key.Shape.inside } in
    let proper = g.K.ReadKeys.is_proper in
    let said = g.K.ReadKeys.said in
    let f = format_of g.K.KeyClass in
    let state = g.D.SectorDisk.state in
    let other = c.stand.ensures.device.1 ∙ honest in
    let s = c.in-Ok.standing in
    let a = state c.args.disk in
    let b = state c.stand.new.disk in
    let e = state c.tested.result.0 in
    let stood = c.in-Ok.ensures.stood honest in
    let others = cut_off_others shape proper said f 0 a b e s (c.what_stands_is_legal.ensures.lawful (limits_of s.parameters)) stood.1 in
    tested_so shape proper said f _ a b e s stood.0 stood.1 (c.tested.ensures.read.rests other) (c.tested.ensures.read.pending other) _ c.tested.result.1 c.tested.ensures.ok c.tested.ensures.cause c.tested.ensures.memory
    (c.tested.ensures.tested other others))

pub returns-in-Ok-clause-damaged : goal.returns-in-Ok-clause-damaged
returns-in-Ok-clause-damaged g c = λ honest.
    (let shape : Members g.row.K-Key.Denot = record { partial_cmp = g.K.Key.PartialOrd.partial_cmp; eq = g.K.Key.PartialEq.eq; cmp = g.K.Key.Ord.cmp; overlap = g.K.Key.Shape.overlap; inside = g.K.Key.Shape.inside } in
    let proper = g.K.ReadKeys.is_proper in
    let said = g.K.ReadKeys.said in
    let f = format_of g.K.KeyClass in
    let state = g.D.SectorDisk.state in
    let other = c.stand.ensures.device.1 ∙ honest in
    let s = c.in-Ok.standing in
    let a = state c.args.disk in
    let b = state c.stand.new.disk in
    let e = state c.tested.result.0 in
    let stood = c.in-Ok.ensures.stood honest in
    let others = cut_off_others shape proper said f 0 a b e s (c.what_stands_is_legal.ensures.lawful (limits_of s.parameters)) stood.1 in
    unsound_left shape proper said f _ a b e s stood.0 stood.1 (c.tested.ensures.read.rests other) (c.tested.ensures.read.pending other) (c.tested.ensures.read.sectors ∙ c.stand.ensures.device.0) c.tested.result.1
    (c.tested.ensures.tested other others))

pub returns-in-Ok-clause-starts : goal.returns-in-Ok-clause-starts
returns-in-Ok-clause-starts g c = may_start c.tested.result.1 c.in-Ok.standing c.tested.ensures.ok c.in-Ok.ensures.bodies c.tested.ensures.fits

pub returns-in-Ok-clause-faults : goal.returns-in-Ok-clause-faults
returns-in-Ok-clause-faults g c = told_later _ _ _ _ c.in-Ok.ensures.faults c.tested.ensures.faults

pub returns-in-Ok-clause-order : goal.returns-in-Ok-clause-order
returns-in-Ok-clause-order g c = λ honest.
    (let shape : Members g.row.K-Key.Denot = record { partial_cmp = g.K.Key.PartialOrd.partial_cmp; eq = g.K.Key.PartialEq.eq; cmp = g.K.Key.Ord.cmp; overlap = g.K.Key.Shape.overlap; inside = g.K.Key.Shape.inside } in
    tested_in_order shape g.K.ReadKeys.is_proper g.K.ReadKeys.said (format_of g.K.KeyClass) g.D.SectorDisk.state g.met.D.SectorDisk.counts_now g.met.D.SectorDisk.only_now
    (g.D.SectorDisk.state c.args.disk) c.stand.new.disk c.tested.result.0 honest (c.stand.ensures.device.1 ∙ honest) c.tested.ensures.read (c.in-Ok.ensures.order honest) c.tested.result.1
    c.tested.ensures.cause)
