use Rattle.std.proofs.Common.{◌∙◌, arith, inl}
use Rattle.std.proofs.lemmas.Result.{err_from_is_err_and}
use Rattle.gx_disk.proofs.Looking.{looks_joined}
use Rattle.gx_machine.specs.Keys.{Members}
use Rattle.gx_node.specs.Reading.{format_of}
use Rattle.gx_opening.specs.Standing.{IsFormatted}
use Rattle.gx_restart.specs.Copied.{memory_state}
use Rattle.gx_restart.proofs.Copied.{copy_made, copy_refused, counted_joined, large_enough}
use Rattle.gx_restart.proofs.verification.copy.copied.Goals as goal

pub copy_first-requires-clause-least : goal.copy_first-requires-clause-least
copy_first-requires-clause-least g c =
    let size = c.sectors_for.ensures in let least = c.in_ok-parameters.ensures.allowed.0.range.least_pages in omega (arith, size, least)

pub copy_first-requires-clause-inside : goal.copy_first-requires-clause-inside
copy_first-requires-clause-inside g c =
    let size = c.sectors_for.ensures in let large = c.in_ok-parameters.ensures.allowed.1 in let same = c.in_ok-parameters.ensures.counted.sectors in omega (arith, size, large, same)

pub copy_first-requires-clause-few : goal.copy_first-requires-clause-few
copy_first-requires-clause-few g c =
    let size = c.sectors_for.ensures in let most = c.in_ok-parameters.ensures.allowed.0.range.most_pages in omega (arith, size, most)

pub returns-clause-counted : goal.returns-clause-counted
returns-clause-counted g c = counted_joined _ _ _ c.in_ok-parameters.parameters c.copy_first.result c.in_ok-parameters.ensures.counted c.copy_first.ensures.counted

pub returns-clause-looks : goal.returns-clause-looks
returns-clause-looks g c = λ honest. looks_joined _ _ _ (c.in_ok-parameters.ensures.looks honest) (c.copy_first.ensures.looks (c.in_ok-parameters.ensures.counted.honest ∙ honest))

pub returns-clause-large : goal.returns-clause-large
returns-clause-large g c =
    let size = c.sectors_for.ensures in let least = c.in_ok-parameters.ensures.allowed.0.range.least_pages in
    large_enough memory_state c.sectors_for.result (omega (arith, size, least)) c.copy_first.result c.copy_first.ensures.size

pub returns-clause-copy : goal.returns-clause-copy
returns-clause-copy g c = λ honest.
    (let shape : Members g.row.K-Key.Denot = record { partial_cmp = g.K.Key.PartialOrd.partial_cmp; eq = g.K.Key.PartialEq.eq; cmp = g.K.Key.Ord.cmp; overlap = g.K.Key.Shape.overlap; inside = g.K.Key.Shape.inside } in
    let state = g.D.SectorDisk.state in
    let p = c.in_ok-parameters.parameters in
    let told = c.in_ok-parameters.ensures.told honest in
    let formatted : IsFormatted shape g.K.ReadKeys.is_proper g.K.ReadKeys.said (format_of g.K.KeyClass) _ (state c.args.disk.now) p = record { magic = told.0; says = told.1.0; allowed = told.1.1.0; large = told.1.1.1 } in
    copy_made shape g.K.ReadKeys.is_proper g.K.ReadKeys.said (format_of g.K.KeyClass) _ memory_state (state c.args.disk.now) (state c.read_parameters.new.disk) p formatted
    (c.in_ok-parameters.ensures.looks honest).rests.seen c.copy_first.result
    (rw c.sectors_for.ensures at c.copy_first.ensures.front (c.in_ok-parameters.ensures.counted.honest ∙ honest)))

pub returns-clause-refused : goal.returns-clause-refused
returns-clause-refused g c = λ honest.
    (let shape : Members g.row.K-Key.Denot = record { partial_cmp = g.K.Key.PartialOrd.partial_cmp; eq = g.K.Key.PartialEq.eq; cmp = g.K.Key.Ord.cmp; overlap = g.K.Key.Shape.overlap; inside = g.K.Key.Shape.inside } in
    let state = g.D.SectorDisk.state in
    let p = c.in_ok-parameters.parameters in
    let told = c.in_ok-parameters.ensures.told honest in
    let formatted : IsFormatted shape g.K.ReadKeys.is_proper g.K.ReadKeys.said (format_of g.K.KeyClass) _ (state c.args.disk.now) p = record { magic = told.0; says = told.1.0; allowed = told.1.1.0; large = told.1.1.1 } in
    copy_refused shape g.K.ReadKeys.is_proper g.K.ReadKeys.said (format_of g.K.KeyClass) _ memory_state (state c.args.disk.now) (state c.read_parameters.new.disk) p formatted
    (c.in_ok-parameters.ensures.looks honest).rests.seen c.copy_first.result c.copy_first.ensures.refused)

pub returns-in_err-parameters-clause-refused : goal.returns-in_err-parameters-clause-refused
returns-in_err-parameters-clause-refused g c = λ honest.
    let p = err_from_is_err_and c.from_residual.result c.from_residual.ensures.1 in
    rw (p.1, p.2) (inl (c.in_err-parameters.ensures.told honest))
