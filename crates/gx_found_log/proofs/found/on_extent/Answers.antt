use Rattle.std.proofs.Common.{◌∙◌, ℕ, List, subst}
use Rattle.std.specs.Prelude.{Ok}
use Rattle.gx_found_log.specs.Found.{PlaceRead}
use Rattle.gx_recovery.specs.declared.rule.LogRule.TheVariants.{FirstGate}
use Rattle.gx_found_log.specs.Faults.{refusal_of, refusing}
use Rattle.gx_found_log.proofs.found.Extents.{extent_ended, extent_refused}
use Rattle.gx_found_log.proofs.found.Shown.{refused_ok, refused_err, gate_shown, place_shows}
use Rattle.gx_found_log.proofs.found.on_extent.Goals as goal

pub returns-in-Ok-false-clause-extent : goal.returns-in-Ok-false-clause-extent
returns-in-Ok-false-clause-extent g c = λ honest d ordered.
    extent_ended (g.M.Meaning.known d) g.M.Spelled.reading (g.met.M.Readable.lawful d) (g.D.SectorDisk.state c.args.disk.now).seen (g.D.SectorDisk.state c.loop-i.disk).seen c.args.extent c.loop-i.i
    c.args.gathered.now c.loop-i.gathered c.on_place.new.gathered (refusing c.some_bodies.result) (c.loop-i.invariant.looks honest).rests.seen c.loop-i-test.true
    (refused_ok c.some_bodies.result c.loop-i.i c.some_bodies.ensures.ok) (refused_err c.some_bodies.result (record { extent = c.args.extent; body = 0; at = 0; rule = FirstGate }) c.loop-i.i c.some_bodies.ensures.err)
    c.in-Ok-false.field-0 c.in-Ok-false.field-0-test (c.in-Ok-false.ensures.place (c.loop-i.invariant.reads.honest ∙ honest) d ordered) (c.loop-i.invariant.on honest d ordered)

pub returns-in-Err-clause-extent : goal.returns-in-Err-clause-extent
returns-in-Err-clause-extent g c = λ honest d ordered.
    extent_refused (g.M.Meaning.known d) g.M.Spelled.reading (g.met.M.Readable.lawful d) (g.D.SectorDisk.state c.args.disk.now).seen (g.D.SectorDisk.state c.loop-i.disk).seen c.args.extent c.loop-i.i
    c.args.gathered.now c.loop-i.gathered c.on_place.new.gathered (refusal_of c.in-Err.fault) (c.loop-i.invariant.looks honest).rests.seen c.loop-i-test.true
    (c.in-Err.ensures.place (c.loop-i.invariant.reads.honest ∙ honest) d ordered) (c.loop-i.invariant.on honest d ordered)

pub returns-in-Ok-false-clause-shows : goal.returns-in-Ok-false-clause-shows
returns-in-Ok-false-clause-shows g c = λ honest d ordered start.
    gate_shown (g.M.Meaning.known d) g.M.Spelled.reading (g.met.M.Readable.lawful d) (g.D.SectorDisk.state c.args.disk.now).seen c.args.extent c.loop-i.i c.loop-i.gathered c.on_place.new.gathered
    c.some_bodies.result c.some_bodies.ensures.err c.in-Ok-false.field-0 c.in-Ok-false.field-0-test
    (subst (λ (s : List ℕ). PlaceRead (g.M.Meaning.known d) g.M.Spelled.reading s c.args.extent c.loop-i.i c.loop-i.gathered (Ok c.in-Ok-false.field-0) c.on_place.new.gathered)
    (c.loop-i.invariant.looks honest).rests.seen (c.in-Ok-false.ensures.place (c.loop-i.invariant.reads.honest ∙ honest) d ordered))

pub returns-in-Err-clause-shows : goal.returns-in-Err-clause-shows
returns-in-Err-clause-shows g c = λ honest d ordered start.
    place_shows (g.M.Meaning.known d) g.M.Spelled.reading (g.met.M.Readable.lawful d) (g.D.SectorDisk.state c.args.disk.now).seen (g.D.SectorDisk.state c.loop-i.disk).seen c.args.extent c.loop-i.i
    c.loop-i.gathered c.in-Err.fault (c.loop-i.invariant.looks honest).rests.seen (c.in-Err.ensures.shows (c.loop-i.invariant.reads.honest ∙ honest) d ordered)
    (c.loop-i.invariant.on honest d ordered start)
