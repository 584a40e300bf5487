use Rattle.std.proofs.Common.{refl, rules}
use Rattle.gx_machine.specs.Keys.{Members}
use Rattle.gx_node.specs.Reading.{format_of}
use Rattle.gx_migrate.proofs.migration.MigrationEnds.{found_err, found_ok}
use Rattle.gx_migrate.proofs.migration.find_older.Goals as goal

pub returns-in-Ok-clause-found : goal.returns-in-Ok-clause-found
returns-in-Ok-clause-found g c = λ honest.
    (let shape : Members g.row.K-Key.Denot = record { partial_cmp = g.K.Key.PartialOrd.partial_cmp; eq = g.K.Key.PartialEq.eq; cmp = g.K.Key.Ord.cmp; overlap = g.K.Key.Shape.overlap; inside = g.K.Key.Shape.inside } in
    found_ok shape g.K.ReadKeys.is_proper g.K.ReadKeys.said (format_of g.K.KeyClass) g.K.KeyClass.CLASS c.args.pages (g.D.SectorDisk.state c.args.old.now).seen c.from_bytes.result c.find-memory.result.0 c.find-memory.result.1
    c.requires.least (rw c.from_bytes.ensures.bytes c.in_ok-bytes.ensures.size) (rw c.from_bytes.ensures.bytes (c.in_ok-bytes.ensures.renumbered honest)) (λ large. c.find-memory.ensures.tested refl large)
    c.in-Ok.standing (search rules))

pub returns-in-Err-clause-found : goal.returns-in-Err-clause-found
returns-in-Err-clause-found g c = λ honest.
    (let shape : Members g.row.K-Key.Denot = record { partial_cmp = g.K.Key.PartialOrd.partial_cmp; eq = g.K.Key.PartialEq.eq; cmp = g.K.Key.Ord.cmp; overlap = g.K.Key.Shape.overlap; inside = g.K.Key.Shape.inside } in
    found_err shape g.K.ReadKeys.is_proper g.K.ReadKeys.said (format_of g.K.KeyClass) g.K.KeyClass.CLASS c.args.pages (g.D.SectorDisk.state c.args.old.now).seen c.from_bytes.result c.find-memory.result.0 c.find-memory.result.1
    c.requires.least (rw c.from_bytes.ensures.bytes c.in_ok-bytes.ensures.size) (rw c.from_bytes.ensures.bytes (c.in_ok-bytes.ensures.renumbered honest)) (λ large. c.find-memory.ensures.tested refl large)
    c.in-Err.why c.told_of_memory.result (search rules) c.told_of_memory.ensures)
