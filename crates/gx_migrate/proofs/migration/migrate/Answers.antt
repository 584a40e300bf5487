use Rattle.std.proofs.Common.{◌≡◌, ◌≤◌, ◌∙◌, sym, inl, inr, Ok, Err, arith, rules}
use Rattle.gx_disk.proofs.Looking.{looks_joined}
use Rattle.gx_format.specs.Formatting.{sectors_of}
use Rattle.gx_machine.specs.Keys.{Members}
use Rattle.gx_node.specs.Reading.{format_of}
use Rattle.gx_opening.specs.Standing.{limits_of}
use Rattle.gx_migrate.proofs.migration.MigrationEnds.{found_of, is_migrated, is_unmigrated, large_enough, moves_in_phases}
use Rattle.gx_migrate.proofs.migration.migrate.Goals as goal

pub returns-in-Err-find_older-clause-refused : goal.returns-in-Err-find_older-clause-refused
returns-in-Err-find_older-clause-refused g c = λ honest few many large.
    (let shape : Members g.row.K-Key.Denot = record { partial_cmp = g.K.Key.PartialOrd.partial_cmp; eq = g.K.Key.PartialEq.eq; cmp = g.K.Key.Ord.cmp; overlap = g.K.Key.Shape.overlap; inside = g.K.Key.Shape.inside } in
    let d = g.D.SectorDisk.state c.args.old.now in
    let p = c.in-Ok.parameters in
    let seen = (c.in-Ok.ensures.looks honest).rests.seen in
    let room : sectors_of p.pages ≤ (g.E.SectorDisk.state c.args.new.now).sectors = search rules in
    inr
    (inr (
      p,
      (
        c.in-Ok.ensures.older honest large,
        (
          room,
          found_of shape g.K.ReadKeys.is_proper g.K.ReadKeys.said (format_of g.K.KeyClass) g.K.KeyClass.CLASS p.pages _ d.seen (Err c.in-Err-find_older.why) seen
              (c.in-Err-find_older.ensures.found (c.in-Ok.ensures.only.honest ∙ honest)),
        ),
      ),
    )))

pub returns-in-Ok-lay-clause-looks : goal.returns-in-Ok-lay-clause-looks
returns-in-Ok-lay-clause-looks g c = λ honest. looks_joined _ _ _ (c.in-Ok.ensures.looks honest) (c.in-Ok-find_older.ensures.looks (c.in-Ok.ensures.only.honest ∙ honest))

pub returns-in-Ok-lay-clause-moments : goal.returns-in-Ok-lay-clause-moments
returns-in-Ok-lay-clause-moments g c = λ q honest other tells.
    (let shape : Members g.row.K-Key.Denot = record { partial_cmp = g.K.Key.PartialOrd.partial_cmp; eq = g.K.Key.PartialEq.eq; cmp = g.K.Key.Ord.cmp; overlap = g.K.Key.Shape.overlap; inside = g.K.Key.Shape.inside } in
    let d = g.D.SectorDisk.state c.args.old.now in
    let p = c.in-Ok.parameters in
    let memory = c.in-Ok-find_older.found.0 in
    let s = c.in-Ok-find_older.found.1 in
    let seen = (c.in-Ok.ensures.looks honest).rests.seen in
    let older = c.in-Ok.ensures.older honest (large_enough p c.in-Ok.ensures.allowed) in
    let found =
    found_of shape g.K.ReadKeys.is_proper g.K.ReadKeys.said (format_of g.K.KeyClass) g.K.KeyClass.CLASS p.pages _ d.seen (Ok (memory, s)) seen (c.in-Ok-find_older.ensures.found (c.in-Ok.ensures.only.honest ∙ honest)) in
    moves_in_phases shape g.K.ReadKeys.is_proper g.K.ReadKeys.said (format_of g.K.KeyClass) g.K.KeyClass.CLASS d p memory s (g.met.D.SectorDisk.whole c.args.old.now honest) older found
    g.E.SectorDisk.state q c.args.new.now c.lay.new.disk tells (c.in-Ok-lay.ensures.moments found.0 memory other found.1.1 (sym c.bytes.ensures)))

pub returns-in-Ok-lay-clause-migrated : goal.returns-in-Ok-lay-clause-migrated
returns-in-Ok-lay-clause-migrated g c = λ honest other.
    (let shape : Members g.row.K-Key.Denot = record { partial_cmp = g.K.Key.PartialOrd.partial_cmp; eq = g.K.Key.PartialEq.eq; cmp = g.K.Key.Ord.cmp; overlap = g.K.Key.Shape.overlap; inside = g.K.Key.Shape.inside } in
    let d = g.D.SectorDisk.state c.args.old.now in
    let p = c.in-Ok.parameters in
    let memory = c.in-Ok-find_older.found.0 in
    let s = c.in-Ok-find_older.found.1 in
    let seen = (c.in-Ok.ensures.looks honest).rests.seen in
    let older = c.in-Ok.ensures.older honest (large_enough p c.in-Ok.ensures.allowed) in
    let found =
    found_of shape g.K.ReadKeys.is_proper g.K.ReadKeys.said (format_of g.K.KeyClass) g.K.KeyClass.CLASS p.pages _ d.seen (Ok (memory, s)) seen (c.in-Ok-find_older.ensures.found (c.in-Ok.ensures.only.honest ∙ honest)) in
    let room : sectors_of p.pages ≤ (g.E.SectorDisk.state c.args.new.now).sectors = search rules in
    let same = c.in-Ok-lay.ensures.device.0 in
    let enough : sectors_of p.pages ≤ (g.E.SectorDisk.state c.lay.new.disk).sectors = omega (arith, room, same) in
    is_migrated shape g.K.ReadKeys.is_proper g.K.ReadKeys.said (format_of g.K.KeyClass) g.K.KeyClass.CLASS d p memory s (g.met.D.SectorDisk.whole c.args.old.now honest) older found
    (g.E.SectorDisk.state c.lay.new.disk) c.number.result c.used.result enough c.number.ensures c.used.ensures (c.in-Ok-lay.ensures.moved found.0 memory other found.1.1 (sym c.bytes.ensures)))

pub returns-clause-looks : goal.returns-clause-looks
returns-clause-looks g c = λ honest. looks_joined _ _ _ (c.in-Ok.ensures.looks honest) (c.in-Ok-find_older.ensures.looks (c.in-Ok.ensures.only.honest ∙ honest))

pub returns-clause-moments : goal.returns-clause-moments
returns-clause-moments g c = λ q honest other tells.
    (let shape : Members g.row.K-Key.Denot = record { partial_cmp = g.K.Key.PartialOrd.partial_cmp; eq = g.K.Key.PartialEq.eq; cmp = g.K.Key.Ord.cmp; overlap = g.K.Key.Shape.overlap; inside = g.K.Key.Shape.inside } in
    let d = g.D.SectorDisk.state c.args.old.now in
    let p = c.in-Ok.parameters in
    let memory = c.in-Ok-find_older.found.0 in
    let s = c.in-Ok-find_older.found.1 in
    let seen = (c.in-Ok.ensures.looks honest).rests.seen in
    let older = c.in-Ok.ensures.older honest (large_enough p c.in-Ok.ensures.allowed) in
    let found =
    found_of shape g.K.ReadKeys.is_proper g.K.ReadKeys.said (format_of g.K.KeyClass) g.K.KeyClass.CLASS p.pages _ d.seen (Ok (memory, s)) seen (c.in-Ok-find_older.ensures.found (c.in-Ok.ensures.only.honest ∙ honest)) in
    moves_in_phases shape g.K.ReadKeys.is_proper g.K.ReadKeys.said (format_of g.K.KeyClass) g.K.KeyClass.CLASS d p memory s (g.met.D.SectorDisk.whole c.args.old.now honest) older found
    g.E.SectorDisk.state q c.args.new.now c.lay.new.disk tells (c.in-Err-lay.ensures.moments found.0 memory other found.1.1 (sym c.bytes.ensures)))

pub returns-clause-refused : goal.returns-clause-refused
returns-clause-refused g c = λ honest few many large.
    (let shape : Members g.row.K-Key.Denot = record { partial_cmp = g.K.Key.PartialOrd.partial_cmp; eq = g.K.Key.PartialEq.eq; cmp = g.K.Key.Ord.cmp; overlap = g.K.Key.Shape.overlap; inside = g.K.Key.Shape.inside } in
    let d = g.D.SectorDisk.state c.args.old.now in
    let p = c.in-Ok.parameters in
    let memory = c.in-Ok-find_older.found.0 in
    let s = c.in-Ok-find_older.found.1 in
    let seen = (c.in-Ok.ensures.looks honest).rests.seen in
    let older = c.in-Ok.ensures.older honest (large_enough p c.in-Ok.ensures.allowed) in
    let found =
    found_of shape g.K.ReadKeys.is_proper g.K.ReadKeys.said (format_of g.K.KeyClass) g.K.KeyClass.CLASS p.pages _ d.seen (Ok (memory, s)) seen (c.in-Ok-find_older.ensures.found (c.in-Ok.ensures.only.honest ∙ honest)) in
    let room : sectors_of p.pages ≤ (g.E.SectorDisk.state c.args.new.now).sectors = search rules in
    is_unmigrated shape g.K.ReadKeys.is_proper g.K.ReadKeys.said (format_of g.K.KeyClass) g.K.KeyClass.CLASS d p memory s (g.met.D.SectorDisk.whole c.args.old.now honest) older found
    (g.E.SectorDisk.state c.args.new.now).sectors c.in-Err-lay.why room (c.what_stands_is_legal.ensures.lawful (limits_of s.parameters)) c.in-Err-lay.ensures.refusal)
