use Rattle.std.proofs.Common.{refl}
use Rattle.gx_geom.specs.declared.refusal.Refusal.TheVariants.{Damaged}
use Rattle.gx_found_log.specs.Faults.{refusal_of}
use Rattle.gx_found_log.proofs.found.Shown.{two_ways, reads_alone, place_unread, missized_shown, misfit_shown}
use Rattle.gx_found_log.proofs.found.Extents.{is_some_read, place_read, place_refused}
use Rattle.gx_found_log.proofs.found.on_place.Goals as goal

pub returns-in-Ok-clause-place : goal.returns-in-Ok-clause-place
returns-in-Ok-clause-place g c = λ honest d ordered.
    (let read = is_some_read (g.D.SectorDisk.state c.args.disk.now).seen c.args.extent c.args.i c.read_extent.new.body c.in-Ok-Some.field-0 c.in-Ok-Some.size c.in-Ok-Some.field-0-is
    (c.in-Ok-Some.ensures.body honest) in
    place_read (g.M.Meaning.known d) g.M.Spelled.reading (g.met.M.Readable.lawful d) (g.D.SectorDisk.state c.args.disk.now).seen c.args.extent c.args.i c.args.gathered.now c.on_body.new.gathered
    c.records.result.now c.read_extent.new.body c.in-Ok-Some.size c.part_at.result c.part_at.ensures c.records.ensures.bytes read.0 read.1 read.2 read.3 (c.in-Ok.ensures.told d ordered))

pub returns-in-Err-on_body-clause-place : goal.returns-in-Err-on_body-clause-place
returns-in-Err-on_body-clause-place g c = λ honest d ordered.
    (let read = is_some_read (g.D.SectorDisk.state c.args.disk.now).seen c.args.extent c.args.i c.read_extent.new.body c.in-Ok-Some.field-0 c.in-Ok-Some.size c.in-Ok-Some.field-0-is
    (c.in-Ok-Some.ensures.body honest) in
    place_refused (g.M.Meaning.known d) g.M.Spelled.reading (g.met.M.Readable.lawful d) (g.D.SectorDisk.state c.args.disk.now).seen c.args.extent c.args.i c.args.gathered.now c.on_body.new.gathered
    c.records.result.now c.read_extent.new.body c.in-Ok-Some.size c.part_at.result Damaged c.part_at.ensures c.records.ensures.bytes read.0 read.1 read.2 read.3
    refl (c.in-Err-on_body.ensures.told d ordered))

pub returns-in-Err-on_body-clause-shows : goal.returns-in-Err-on_body-clause-shows
returns-in-Err-on_body-clause-shows g c = λ honest d ordered.
    (let read = is_some_read (g.D.SectorDisk.state c.args.disk.now).seen c.args.extent c.args.i c.read_extent.new.body c.in-Ok-Some.field-0 c.in-Ok-Some.size c.in-Ok-Some.field-0-is
    (c.in-Ok-Some.ensures.body honest) in
    misfit_shown (g.M.Meaning.known d) g.M.Spelled.reading (g.met.M.Readable.lawful d) (g.D.SectorDisk.state c.args.disk.now).seen c.args.extent c.args.i c.args.gathered.now
    c.records.result.now c.read_extent.new.body c.in-Ok-Some.size c.part_at.result c.in-Err-on_body.misfit.at c.in-Err-on_body.misfit.rule c.part_at.ensures c.records.ensures.bytes
    read.0 read.1 read.2 read.3 (c.in-Err-on_body.ensures.broken d ordered))

pub body_fault-requires : goal.body_fault-requires
body_fault-requires g c = two_ways (g.D.SectorDisk.state c.args.disk.now) (g.D.SectorDisk.state c.read_extent.new.disk) c.in-Err.refusal c.in-Err.ensures.counts

pub returns-in-Err-clause-reads : goal.returns-in-Err-clause-reads
returns-in-Err-clause-reads g c =
    reads_alone (g.D.SectorDisk.state c.args.disk.now) (g.D.SectorDisk.state c.read_extent.new.disk) c.in-Err.refusal (refusal_of c.body_fault.result) c.body_fault.ensures.refusal c.in-Err.ensures.counts

pub returns-in-Err-clause-place : goal.returns-in-Err-clause-place
returns-in-Err-clause-place g c = λ honest d ordered.
    place_unread (g.M.Meaning.known d) g.M.Spelled.reading (g.met.M.Readable.lawful d) (g.D.SectorDisk.state c.args.disk.now).seen c.args.extent c.args.i c.read_extent.new.body
    c.args.gathered.now c.args.gathered.now c.in-Err.refusal (refusal_of c.body_fault.result) c.body_fault.ensures.refusal (c.in-Err.ensures.body honest)

pub returns-in-Err-clause-shows : goal.returns-in-Err-clause-shows
returns-in-Err-clause-shows g c = λ honest d ordered.
    missized_shown (g.M.Meaning.known d) g.M.Spelled.reading (g.met.M.Readable.lawful d) (g.D.SectorDisk.state c.args.disk.now).seen c.args.extent c.args.i c.read_extent.new.body
    c.args.gathered.now c.in-Err.refusal c.body_fault.result
    (two_ways (g.D.SectorDisk.state c.args.disk.now) (g.D.SectorDisk.state c.read_extent.new.disk) c.in-Err.refusal c.in-Err.ensures.counts)
    c.body_fault.ensures.damage c.body_fault.ensures.device (c.in-Err.ensures.body honest)
