use Rattle.std.proofs.Common.{◌∙◌, ap, refl, ◌-◌}
use Rattle.gx_geom.specs.declared.refusal.Refusal.TheVariants.{Absent}
use Rattle.gx_machine.specs.declared.call.Call.TheVariants.{Delete}
use Rattle.gx_machine.specs.declared.reply.Reply.TheVariants.{Refused}
use Rattle.gx_events.specs.Happenings.{FindsAbsent}
use Rattle.gx_phases.specs.declared.phase.Phase.{Phase}
use Rattle.gx_phases.specs.Moves.{is_open}
use Rattle.gx_phases.specs.States.{phase_at}
use Rattle.gx_engine.specs.declared.work.Work.{Work}
use Rattle.gx_engine.specs.declared.work.Work.TheVariants.{Looks}
use Rattle.gx_engine.specs.Looks.{LooksFor}
use Rattle.gx_engine.specs.States.{Parts}
use Rattle.gx_engine.proofs.Further.{reached_reply}
use Rattle.gx_engine.proofs.AtWork.{answered_so, reads_of}
use Rattle.gx_engine.proofs.writes.looks.Moves.{write_so}
use Rattle.gx_engine.proofs.engine.Engine.delete_look.Goals as goal

pub write_look-requires-clause-looks : goal.write_look-requires-clause-looks
write_look-requires-clause-looks g c = (Delete c.args.entry, c.requires.looks.0, record { writes = refl; at = c.requires.looks.1; looking = c.requires.looks.2 })

pub find_absent-requires-clause-works : goal.find_absent-requires-clause-works
find_absent-requires-clause-works g c =
    let looks : LooksFor c.args.entry (Delete c.args.entry) c.requires.looks.0 (phase_at (c.args.session - 1) c.args.self.now.sessions.phases) = record { writes = refl; at = c.requires.looks.1; looking = c.requires.looks.2 } in
    let ends = c.in-Ok.ensures.ends (Delete c.args.entry) c.requires.looks.0 looks in
    ap (λ (x : Parts g.row.K-Key.Denot g.row.D.Denot). x.sessions.failed) ends.only ∙ c.requires.works

pub find_absent-requires-clause-open : goal.find_absent-requires-clause-open
find_absent-requires-clause-open g c =
    let looks : LooksFor c.args.entry (Delete c.args.entry) c.requires.looks.0 (phase_at (c.args.session - 1) c.args.self.now.sessions.phases) = record { writes = refl; at = c.requires.looks.1; looking = c.requires.looks.2 } in
    let ends = c.in-Ok.ensures.ends (Delete c.args.entry) c.requires.looks.0 looks in
    ap (λ (p : Phase g.row.K-Key.Denot (Work g.row.K-Key.Denot)). is_open p) ends.at

pub returns-in-Ok-clause-comes : goal.returns-in-Ok-clause-comes
returns-in-Ok-clause-comes g c =
    let looks : LooksFor c.args.entry (Delete c.args.entry) c.requires.looks.0 (phase_at (c.args.session - 1) c.args.self.now.sessions.phases) = record { writes = refl; at = c.requires.looks.1; looking = c.requires.looks.2 } in
    let ends = c.in-Ok.ensures.ends (Delete c.args.entry) c.requires.looks.0 looks in
    rw (c.find_absent.ensures.outcome)
    (c.args.entry, refl, answered_so c.args.session (Delete c.args.entry) (Looks ends.look) c.args.self.now c.write_look.new.self c.find_absent.new.self ends.only c.find_absent.ensures.closed)

pub returns-in-Ok-clause-reads : goal.returns-in-Ok-clause-reads
returns-in-Ok-clause-reads g c =
    let looks : LooksFor c.args.entry (Delete c.args.entry) c.requires.looks.0 (phase_at (c.args.session - 1) c.args.self.now.sessions.phases) = record { writes = refl; at = c.requires.looks.1; looking = c.requires.looks.2 } in
    let ends = c.in-Ok.ensures.ends (Delete c.args.entry) c.requires.looks.0 looks in
    reads_of c.args.self.now c.find_absent.new.self _
    (answered_so c.args.session (Delete c.args.entry) (Looks ends.look) c.args.self.now c.write_look.new.self c.find_absent.new.self ends.only c.find_absent.ensures.closed) refl

pub returns-in-Ok-clause-moves : goal.returns-in-Ok-clause-moves
returns-in-Ok-clause-moves g c l =
    let looks : LooksFor c.args.entry (Delete c.args.entry) c.requires.looks.0 (phase_at (c.args.session - 1) c.args.self.now.sessions.phases) = record { writes = refl; at = c.requires.looks.1; looking = c.requires.looks.2 } in
    let ends = c.in-Ok.ensures.ends (Delete c.args.entry) c.requires.looks.0 looks in
    rw (c.find_absent.ensures.outcome)
    (reached_reply _ (c.a_class_is_lawful.ensures l) _ _ _ g.D.SectorDisk.state _ c.args.session c.args.self.now c.write_look.new.self c.find_absent.new.self
    (c.in-Ok.ensures.reaches (Delete c.args.entry) c.requires.looks.0 looks l) (Refused Absent) (FindsAbsent c.args.session c.args.entry) (c.find_absent.ensures.moves c.args.entry ends.look ends.at ends.done l))

pub returns-in-Err-clause-comes : goal.returns-in-Err-clause-comes
returns-in-Err-clause-comes g c =
    let looks : LooksFor c.args.entry (Delete c.args.entry) c.requires.looks.0 (phase_at (c.args.session - 1) c.args.self.now.sessions.phases) = record { writes = refl; at = c.requires.looks.1; looking = c.requires.looks.2 } in
    c.in-Err.ensures.comes (Delete c.args.entry) c.requires.looks.0 looks

pub returns-in-Err-clause-moves : goal.returns-in-Err-clause-moves
returns-in-Err-clause-moves g c l =
    let looks : LooksFor c.args.entry (Delete c.args.entry) c.requires.looks.0 (phase_at (c.args.session - 1) c.args.self.now.sessions.phases) = record { writes = refl; at = c.requires.looks.1; looking = c.requires.looks.2 } in
    write_so _ _ _ _ _ _ c.args.session (Delete c.args.entry) c.args.self.now c.write_look.new.self c.in-Err.outcome (c.in-Err.ensures.moves (Delete c.args.entry) c.requires.looks.0 looks l)
