use Rattle.std.proofs.Common.{◌∙◌, refl, sym}
use Rattle.gx_found_log.specs.declared.found.FoundLog.{FoundLog}
use Rattle.gx_machine.specs.Keys.{Members}
use Rattle.gx_machine.specs.declared.entry.Entry.{Entry}
use Rattle.gx_node.specs.Reading.{format_of}
use Rattle.gx_opening.specs.Standing.{limits_of}
use Rattle.gx_opening.proofs.Resting.{looks_rest, read_rests, rests_joined}
use Rattle.gx_opening.proofs.Telling.{found_of_others, index_told, log_failed, log_told}
use Rattle.gx_opening.proofs.damage.device.in_index.Goals as goal

pub returns-in-Ok-clause-rests : goal.returns-in-Ok-clause-rests
returns-in-Ok-clause-rests g c = λ honest.
    (let state = g.D.SectorDisk.state in
    let start = state c.args.disk in
    let mid = state c.examine_class_log.new.disk in
    rests_joined start mid (state c.in_pages.result.0) (looks_rest start mid (c.in-Ok.ensures.looks honest))
    (read_rests mid (state c.in_pages.result.0) (c.in-Ok.ensures.reads.honest ∙ honest) c.in_pages.ensures.read))

pub returns-in-Ok-clause-examined : goal.returns-in-Ok-clause-examined
returns-in-Ok-clause-examined g c = λ honest.
    (let shape : Members g.row.K-Key.Denot = record { partial_cmp = g.K.Key.PartialOrd.partial_cmp; eq = g.K.Key.PartialEq.eq; cmp = g.K.Key.Ord.cmp; overlap = g.K.Key.Shape.overlap; inside = g.K.Key.Shape.inside } in
    let proper = g.K.ReadKeys.is_proper in
    let said = g.K.ReadKeys.said in
    let f = format_of g.K.KeyClass in
    let state = g.D.SectorDisk.state in
    let p = c.args.parameters in
    let seen = (state c.args.disk).seen in
    let found = c.in-Ok.found in
    let is = c.in-Ok.ensures.log honest (limits_of p) refl refl in
    index_told shape proper said f g.row.D.Denot p c.in_pages.result.1 (state c.examine_class_log.new.disk).seen seen found (c.in-Ok.ensures.looks honest).rests.seen is
    (c.in_pages.ensures.finds (limits_of p) refl refl (c.in-Ok.ensures.reads.honest ∙ honest)
    (found_of_others shape proper said f g.row.D.Denot p (c.what_stands_is_legal.ensures.lawful (limits_of p)) seen found is)))

pub returns-in-Err-clause-rests : goal.returns-in-Err-clause-rests
returns-in-Err-clause-rests g c = λ honest. looks_rest (g.D.SectorDisk.state c.args.disk) (g.D.SectorDisk.state c.examine_class_log.new.disk) (c.in-Err.ensures.looks honest)

pub returns-in-Err-clause-failed : goal.returns-in-Err-clause-failed
returns-in-Err-clause-failed g c = λ is. log_failed (FoundLog (Entry g.row.K-Key.Denot)) _ _ c.in-Err.fault c.in-Err.ensures.reads.faults (sym c.in_log.ensures ∙ is)

pub returns-in-Err-clause-examined : goal.returns-in-Err-clause-examined
returns-in-Err-clause-examined g c = λ honest.
    (let shape : Members g.row.K-Key.Denot = record { partial_cmp = g.K.Key.PartialOrd.partial_cmp; eq = g.K.Key.PartialEq.eq; cmp = g.K.Key.Ord.cmp; overlap = g.K.Key.Shape.overlap; inside = g.K.Key.Shape.inside } in
    rw c.in_log.ensures
    (log_told shape g.K.ReadKeys.is_proper g.K.ReadKeys.said (format_of g.K.KeyClass) g.row.D.Denot c.args.parameters c.in-Err.fault (g.D.SectorDisk.state c.args.disk).seen
    c.in-Err.ensures.memory (c.in-Err.ensures.shows honest (limits_of c.args.parameters) refl refl)))
