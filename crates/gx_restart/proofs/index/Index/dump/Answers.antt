use Rattle.std.proofs.Common.{subst, Err}
use Rattle.gx_machine.specs.Keys.{Members}
use Rattle.gx_node.specs.Reading.{format_of, is_node}
use Rattle.gx_durable.specs.Classes.{class_of, reading_of}
use Rattle.gx_script.specs.Corners.{grammar}
use Rattle.gx_restart.specs.declared.text.stop.Stop.{Stop}
use Rattle.gx_restart.specs.Reading.{IsNotGivenUp}
use Rattle.gx_restart.proofs.Reading.{nothing_read}
use Rattle.gx_restart.proofs.Telling.{none_told}
use Rattle.gx_restart.proofs.index.Index.dump.Goals as goal

pub returns-then-self-clause-cut : goal.returns-then-self-clause-cut
returns-then-self-clause-cut g c = λ l bodies i h. none_told (grammar g.B.Corners.COUNT g.B.Corners.corners g.B.Corners.fit g.B.Corners.made) (g.W.Write.contents c.args.writer.now.inner) c.args.self.now.engine.sessions.latest _

pub returns-then-self-clause-runs : goal.returns-then-self-clause-runs
returns-then-self-clause-runs g c = λ l bodies i h.
    (let boxes : Members g.row.B.Denot = record { partial_cmp = g.B.PartialOrd.partial_cmp; eq = g.B.PartialEq.eq; cmp = g.B.Ord.cmp; overlap = g.B.Shape.overlap; inside = g.B.Shape.inside } in
    (nothing_read (class_of boxes g.K.ReadKeys.is_proper l) (reading_of g.K.ReadKeys.said (format_of g.K.KeyClass)) (format_of g.K.KeyClass) (is_node (format_of g.K.KeyClass)) g.D.SectorDisk.state c.args.self.now.engine
    bodies i h).ran)

pub returns-in-Ok-clause-text : goal.returns-in-Ok-clause-text
returns-in-Ok-clause-text g c = rw (← c.self.view_is) c.in-Ok.ensures.text

pub returns-in-Ok-clause-reads : goal.returns-in-Ok-clause-reads
returns-in-Ok-clause-reads g c = rw (← c.self.view_is) c.in-Ok.ensures.reads

pub returns-in-Err-Write-clause-cut : goal.returns-in-Err-Write-clause-cut
returns-in-Err-Write-clause-cut g c = rw (← c.self.view_is) c.in-Err-Write.ensures.cut

pub returns-in-Err-Refused-clause-cut : goal.returns-in-Err-Refused-clause-cut
returns-in-Err-Refused-clause-cut g c = rw (← c.self.view_is) c.in-Err-Refused.ensures.cut

pub returns-in-Err-GivenUp-clause-cut : goal.returns-in-Err-GivenUp-clause-cut
returns-in-Err-GivenUp-clause-cut g c = rw (← c.self.view_is) c.in-Err-GivenUp.ensures.cut

pub returns-in-Err-GivenUp-clause-ends : goal.returns-in-Err-GivenUp-clause-ends
returns-in-Err-GivenUp-clause-ends g c = rw (← c.self.view_is) (λ l bodies i h.
    (let no : ⊥ = subst (λ (e : Stop). IsNotGivenUp (Err e)) c.in-Err-GivenUp.field-0-is (c.in-Err-GivenUp.ensures.ends l bodies i h) in absurd no))
