use Rattle.std.proofs.Common.{◌∙◌}
use Rattle.gx_machine.specs.Keys.{Members}
use Rattle.gx_node.specs.Reading.{format_of}
use Rattle.gx_opening.proofs.Resting.{rests_joined}
use Rattle.gx_opening.proofs.Telling.{damage_found, device_told, has_least}
use Rattle.gx_opening.proofs.damage.device.examine.Goals as goal

pub returns-in-Ok-formatted_for-clause-rests : goal.returns-in-Ok-formatted_for-clause-rests
returns-in-Ok-formatted_for-clause-rests g c = λ honest.
    (let state = g.D.SectorDisk.state in
    rests_joined (state c.args.disk) (state c.formatted_for.new.disk) (state c.in_index.result.0) (c.in-Ok-formatted_for.ensures.settles honest).only
    (c.in_index.ensures.rests (c.in-Ok-formatted_for.ensures.counted.honest ∙ honest)))

pub returns-in-Ok-formatted_for-clause-examined : goal.returns-in-Ok-formatted_for-clause-examined
returns-in-Ok-formatted_for-clause-examined g c = λ honest enough.
    (let shape : Members g.row.K-Key.Denot = record { partial_cmp = g.K.Key.PartialOrd.partial_cmp; eq = g.K.Key.PartialEq.eq; cmp = g.K.Key.Ord.cmp; overlap = g.K.Key.Shape.overlap; inside = g.K.Key.Shape.inside } in
    let state = g.D.SectorDisk.state in
    let settles = c.in-Ok-formatted_for.ensures.settles honest in
    let told = settles.told enough in
    device_told shape g.K.ReadKeys.is_proper g.K.ReadKeys.said (format_of g.K.KeyClass) g.row.D.Denot c.in-Ok-formatted_for.parameters _ _ (state c.args.disk) c.in_index.result.1 (state c.formatted_for.new.disk).seen
    settles.only.rests.seen (record { magic = told.0; says = told.1.0; allowed = told.1.1.0; large = told.1.1.1 }) (c.in_index.ensures.examined (c.in-Ok-formatted_for.ensures.counted.honest ∙ honest)))

pub returns-in-Ok-formatted_for-clause-damaged : goal.returns-in-Ok-formatted_for-clause-damaged
returns-in-Ok-formatted_for-clause-damaged g c = λ honest damaged.
    (let shape : Members g.row.K-Key.Denot = record { partial_cmp = g.K.Key.PartialOrd.partial_cmp; eq = g.K.Key.PartialEq.eq; cmp = g.K.Key.Ord.cmp; overlap = g.K.Key.Shape.overlap; inside = g.K.Key.Shape.inside } in
    let proper = g.K.ReadKeys.is_proper in
    let said = g.K.ReadKeys.said in
    let f = format_of g.K.KeyClass in
    let d = g.D.SectorDisk.state c.args.disk in
    damage_found shape proper said f _ d damaged g.row.D.Denot _ c.in_index.result.1 (returns-in-Ok-formatted_for-clause-examined g c honest (has_least shape proper said f _ d damaged)))
