use Rattle.std.proofs.Common.{arith, inr}
use Rattle.std.proofs.lemmas.Result.{err_from_is_err_and}
use Rattle.gx_durable.specs.Classes.{reading_by}
use Rattle.gx_machine.specs.Keys.{Members}
use Rattle.gx_node.specs.Reading.{format_of}
use Rattle.gx_opening.specs.Standing.{limits_of}
use Rattle.gx_recovery.specs.Renewal.{head_of}
use Rattle.gx_migrate.specs.Migrating.{IsBodyOf, migrating}
use Rattle.gx_migrate.proofs.laying.Counted.{runs_faults, runs_not_laid, runs_same}
use Rattle.gx_migrate.proofs.laying.Moving.{none_migrates, nothing_in_phases, on_ok, ran_over, run_migrates_at}
use Rattle.gx_migrate.proofs.laying.lay.Goals as goal

pub returns-in_err-head-clause-migrates : goal.returns-in_err-head-clause-migrates
returns-in_err-head-clause-migrates g c =
    let p = err_from_is_err_and c.from_residual.result c.from_residual.ensures.1 in
    rw (p.1, p.2) (none_migrates (reading_by g.K.ReadKeys.said g.K.KeyClass) g.D.SectorDisk.state c.args.standing.now.parameters c.args.standing.now.log.analysis.told c.args.bytes.now c.args.disk.now _ c.in_err-head.ensures.refusal)

pub returns-in_err-head-clause-moments : goal.returns-in_err-head-clause-moments
returns-in_err-head-clause-moments g c = λ d e honest stands seen. nothing_in_phases g.D.SectorDisk.state _ c.args.disk.now

pub returns-clause-migrates : goal.returns-clause-migrates
returns-clause-migrates g c =
    let r = reading_by g.K.ReadKeys.said g.K.KeyClass in
    let told = c.args.standing.now.log.analysis.told in
    let is : IsBodyOf r (head_of told) c.body.result.now = record { head = c.in_ok-head.head; some = c.in_ok-head.ensures.some; few = c.in_ok-head.ensures.few; are = c.in_ok-head.ensures.records; is = c.body.ensures } in
    run_migrates_at r g.D.SectorDisk.state c.args.standing.now.parameters told c.args.bytes.now c.body.result.now c.used.result c.args.disk.now c.lay_all.new.disk c.lay_all.result c.used.ensures is c.lay_all.ensures

pub returns-in_err-head-clause-refusal : goal.returns-in_err-head-clause-refusal
returns-in_err-head-clause-refusal g c =
    let p = err_from_is_err_and c.from_residual.result c.from_residual.ensures.1 in
    rw (p.1, p.2) (inr c.in_err-head.ensures.refusal)

pub returns-clause-refusal : goal.returns-clause-refusal
returns-clause-refusal g c =
    runs_not_laid g.D.SectorDisk.state c.args.standing.now.log.analysis.told (migrating c.args.standing.now.parameters c.args.bytes.now c.used.result c.body.result.now) c.args.disk.now c.lay_all.new.disk
    c.lay_all.result c.lay_all.ensures

pub returns-clause-device : goal.returns-clause-device
returns-clause-device g c =
    runs_same g.D.SectorDisk.state (migrating c.args.standing.now.parameters c.args.bytes.now c.used.result c.body.result.now) c.args.disk.now c.lay_all.new.disk c.lay_all.result c.lay_all.ensures

pub returns-clause-faults : goal.returns-clause-faults
returns-clause-faults g c =
    runs_faults g.D.SectorDisk.state (migrating c.args.standing.now.parameters c.args.bytes.now c.used.result c.body.result.now) c.args.disk.now c.lay_all.new.disk c.lay_all.result c.lay_all.ensures

pub returns-clause-moments : goal.returns-clause-moments
returns-clause-moments g c = λ d e honest stands seen.
    (let shape : Members g.row.K-Key.Denot = record { partial_cmp = g.K.Key.PartialOrd.partial_cmp; eq = g.K.Key.PartialEq.eq; cmp = g.K.Key.Ord.cmp; overlap = g.K.Key.Shape.overlap; inside = g.K.Key.Shape.inside } in
    let r = reading_by g.K.ReadKeys.said g.K.KeyClass in
    let s = c.args.standing.now in
    let p = s.parameters in
    let is : IsBodyOf r (head_of s.log.analysis.told) c.body.result.now = record { head = c.in_ok-head.head; some = c.in_ok-head.ensures.some; few = c.in_ok-head.ensures.few; are = c.in_ok-head.ensures.records; is = c.body.ensures } in
    let good = c.what_is_found_stands.ensures.good p (g.O.SectorDisk.state d).seen e s.log stands.laid stands.sound in
    (ran_over shape g.K.ReadKeys.is_proper g.K.ReadKeys.said (format_of g.K.KeyClass) g.K.KeyClass.CLASS (g.O.SectorDisk.state d) (g.O.SectorDisk.state e) s
    (c.what_stands_is_legal.ensures.lawful (limits_of p)) (c.what_stands_is_legal.ensures.used (limits_of p)) stands good g.D.SectorDisk.state g.met.D.SectorDisk.whole c.args.disk.now c.lay_all.new.disk honest
    (let least = c.requires.least in let inside = c.requires.inside in omega (arith, least, inside)) (let fits = c.requires.starts.fits in let inside = c.requires.inside in omega (arith, fits, inside))
    c.used.result c.args.bytes.now c.body.result.now c.lay_all.result c.used.ensures seen is c.lay_all.ensures).0)

pub returns-clause-moved : goal.returns-clause-moved
returns-clause-moved g c = λ d e honest stands seen.
    (let shape : Members g.row.K-Key.Denot = record { partial_cmp = g.K.Key.PartialOrd.partial_cmp; eq = g.K.Key.PartialEq.eq; cmp = g.K.Key.Ord.cmp; overlap = g.K.Key.Shape.overlap; inside = g.K.Key.Shape.inside } in
    let r = reading_by g.K.ReadKeys.said g.K.KeyClass in
    let s = c.args.standing.now in
    let p = s.parameters in
    let is : IsBodyOf r (head_of s.log.analysis.told) c.body.result.now = record { head = c.in_ok-head.head; some = c.in_ok-head.ensures.some; few = c.in_ok-head.ensures.few; are = c.in_ok-head.ensures.records; is = c.body.ensures } in
    let good = c.what_is_found_stands.ensures.good p (g.O.SectorDisk.state d).seen e s.log stands.laid stands.sound in
    on_ok c.lay_all.result _
    (ran_over shape g.K.ReadKeys.is_proper g.K.ReadKeys.said (format_of g.K.KeyClass) g.K.KeyClass.CLASS (g.O.SectorDisk.state d) (g.O.SectorDisk.state e) s
    (c.what_stands_is_legal.ensures.lawful (limits_of p)) (c.what_stands_is_legal.ensures.used (limits_of p)) stands good g.D.SectorDisk.state g.met.D.SectorDisk.whole c.args.disk.now c.lay_all.new.disk honest
    (let least = c.requires.least in let inside = c.requires.inside in omega (arith, least, inside)) (let fits = c.requires.starts.fits in let inside = c.requires.inside in omega (arith, fits, inside))
    c.used.result c.args.bytes.now c.body.result.now c.lay_all.result c.used.ensures seen is c.lay_all.ensures).1)
