use Rattle.std.proofs.Common.{◌∙◌, ap, refl, [], ◌∷◌, ◌-◌}
use Rattle.gx_machine.specs.declared.call.Call.TheVariants.{Insert}
use Rattle.gx_machine.specs.Keys.{keys}
use Rattle.gx_node.specs.Reading.{format_of, is_node}
use Rattle.gx_events.specs.Happenings.{Works}
use Rattle.gx_phases.specs.States.{phase_at}
use Rattle.gx_engine.specs.declared.work.Work.TheVariants.{Looks}
use Rattle.gx_engine.specs.Looks.{LooksFor}
use Rattle.gx_engine.specs.States.{Parts}
use Rattle.gx_engine.specs.Writes.{AsksRoom, LacksPages, MakesRoom}
use Rattle.gx_engine.proofs.Calling.{then_read}
use Rattle.gx_engine.proofs.Further.{reached_more}
use Rattle.gx_engine.proofs.RoomMade.{look_made, stays_used}
use Rattle.gx_engine.proofs.writes.looks.Moves.{descends_comes, write_so}
use Rattle.gx_engine.proofs.Failing.{then_told}
use Rattle.gx_engine.proofs.engine.Engine.insert_look.Goals as goal

pub write_look-requires-clause-looks : goal.write_look-requires-clause-looks
write_look-requires-clause-looks g c = (Insert c.args.entry, c.requires.looks.0, record { writes = refl; at = c.requires.looks.1; looking = c.requires.looks.2 })

pub begin_descent-requires-clause-works : goal.begin_descent-requires-clause-works
begin_descent-requires-clause-works g c =
    let looks : LooksFor c.args.entry (Insert c.args.entry) c.requires.looks.0 (phase_at (c.args.session - 1) c.args.self.now.sessions.phases) = record { writes = refl; at = c.requires.looks.1; looking = c.requires.looks.2 } in
    let ends = c.in-Ok.ensures.ends (Insert c.args.entry) c.requires.looks.0 looks in
    ap (λ (x : Parts g.row.K-Key.Denot g.row.D.Denot). x.sessions.failed) ends.only ∙ c.requires.works

pub returns-in-Ok-clause-comes : goal.returns-in-Ok-clause-comes
returns-in-Ok-clause-comes g c =
    let k = keys g.K.Key.Ord.cmp g.K.Key.Shape.overlap g.K.Key.Shape.inside in
    let d = g.D.SectorDisk.state c.args.self.now.volume.shelf.disk in
    let e = g.D.SectorDisk.state c.begin_descent.new.self.volume.shelf.disk in
    let looks : LooksFor c.args.entry (Insert c.args.entry) c.requires.looks.0 (phase_at (c.args.session - 1) c.args.self.now.sessions.phases) = record { writes = refl; at = c.requires.looks.1; looking = c.requires.looks.2 } in
    let ends = c.in-Ok.ensures.ends (Insert c.args.entry) c.requires.looks.0 looks in
    let descends = c.begin_descent.ensures.descends c.args.entry ends.look ends.at in
    rw (c.begin_descent.ensures.outcome)
    (descends_comes (AsksRoom k (format_of g.K.KeyClass) g.K.KeyClass.KEY d c.args.session (Insert c.args.entry) c.args.self.now) (LacksPages k (format_of g.K.KeyClass) d c.args.session (Insert c.args.entry) c.args.self.now)
    (MakesRoom k (format_of g.K.KeyClass) d c.args.session (Insert c.args.entry) c.args.self.now) k (is_node (format_of g.K.KeyClass)) d e c.args.session (Insert c.args.entry) (Looks ends.look) descends.0 c.args.self.now c.write_look.new.self c.begin_descent.new.self ends.only descends.1
    (look_made k (format_of g.K.KeyClass) d c.args.session (Insert c.args.entry) c.args.self.now e c.begin_descent.new.self
    (λ steady. ap (λ (x : Parts g.row.K-Key.Denot g.row.D.Denot). x.volume.shelf.used) descends.1 ∙ stays_used (format_of g.K.KeyClass) d.seen (g.D.SectorDisk.state c.write_look.new.self.volume.shelf.disk).seen c.args.self.now.volume.shelf c.write_look.new.self.volume.shelf _ c.in-Ok.ensures.stays)
    (record { work = c.requires.looks.0; at = c.requires.looks.1; looks = c.requires.looks.2 }))).0

pub returns-in-Ok-clause-reads : goal.returns-in-Ok-clause-reads
returns-in-Ok-clause-reads g c =
    let k = keys g.K.Key.Ord.cmp g.K.Key.Shape.overlap g.K.Key.Shape.inside in
    let d = g.D.SectorDisk.state c.args.self.now.volume.shelf.disk in
    let looks : LooksFor c.args.entry (Insert c.args.entry) c.requires.looks.0 (phase_at (c.args.session - 1) c.args.self.now.sessions.phases) = record { writes = refl; at = c.requires.looks.1; looking = c.requires.looks.2 } in
    let ends = c.in-Ok.ensures.ends (Insert c.args.entry) c.requires.looks.0 looks in
    let descends = c.begin_descent.ensures.descends c.args.entry ends.look ends.at in
    (descends_comes (AsksRoom k (format_of g.K.KeyClass) g.K.KeyClass.KEY d c.args.session (Insert c.args.entry) c.args.self.now) (LacksPages k (format_of g.K.KeyClass) d c.args.session (Insert c.args.entry) c.args.self.now)
    (λ x y. Unit {0}) k (is_node (format_of g.K.KeyClass)) d d c.args.session (Insert c.args.entry) (Looks ends.look) descends.0 c.args.self.now c.write_look.new.self c.begin_descent.new.self ends.only descends.1 tt).1

pub returns-in-Ok-clause-moves : goal.returns-in-Ok-clause-moves
returns-in-Ok-clause-moves g c l =
    let looks : LooksFor c.args.entry (Insert c.args.entry) c.requires.looks.0 (phase_at (c.args.session - 1) c.args.self.now.sessions.phases) = record { writes = refl; at = c.requires.looks.1; looking = c.requires.looks.2 } in
    let ends = c.in-Ok.ensures.ends (Insert c.args.entry) c.requires.looks.0 looks in
    let on = reached_more _ (c.a_class_is_lawful.ensures l) _ _ _ g.D.SectorDisk.state _ c.args.session c.args.self.now c.write_look.new.self c.begin_descent.new.self
    (c.in-Ok.ensures.reaches (Insert c.args.entry) c.requires.looks.0 looks l) (c.begin_descent.ensures.moves c.args.entry ends.look ends.at ends.done l) in
    rw (c.begin_descent.ensures.outcome) (λ bodies i h. (Works ∷ [], refl, on bodies i h))

pub returns-in-Ok-clause-device : goal.returns-in-Ok-clause-device
returns-in-Ok-clause-device g c =
    then_read g.D.SectorDisk.state c.args.self.now c.write_look.new.self c.begin_descent.new.self c.write_look.ensures.device c.begin_descent.ensures.device

pub returns-in-Err-clause-comes : goal.returns-in-Err-clause-comes
returns-in-Err-clause-comes g c =
    let looks : LooksFor c.args.entry (Insert c.args.entry) c.requires.looks.0 (phase_at (c.args.session - 1) c.args.self.now.sessions.phases) = record { writes = refl; at = c.requires.looks.1; looking = c.requires.looks.2 } in
    c.in-Err.ensures.comes (Insert c.args.entry) c.requires.looks.0 looks

pub returns-in-Err-clause-moves : goal.returns-in-Err-clause-moves
returns-in-Err-clause-moves g c l =
    let looks : LooksFor c.args.entry (Insert c.args.entry) c.requires.looks.0 (phase_at (c.args.session - 1) c.args.self.now.sessions.phases) = record { writes = refl; at = c.requires.looks.1; looking = c.requires.looks.2 } in
    write_so _ _ _ _ _ _ c.args.session (Insert c.args.entry) c.args.self.now c.write_look.new.self c.in-Err.outcome (c.in-Err.ensures.moves (Insert c.args.entry) c.requires.looks.0 looks l)

pub returns-in-Ok-clause-told : goal.returns-in-Ok-clause-told
returns-in-Ok-clause-told g c = then_told g.D.SectorDisk.state c.args.self.now c.write_look.new.self c.begin_descent.new.self c.begin_descent.result c.in-Ok.ensures.told c.begin_descent.ensures.told
