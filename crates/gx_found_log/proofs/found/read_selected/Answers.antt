use Rattle.std.proofs.Common.{◌∙◌}
use Rattle.gx_disk.proofs.Looking.{looks_joined}
use Rattle.gx_found_log.specs.Faults.{refusal_of}
use Rattle.gx_found_log.proofs.found.Extents.{found_whole, not_found}
use Rattle.gx_found_log.proofs.found.Shown.{log_shows}
use Rattle.gx_found_log.proofs.found.read_selected.Goals as goal

pub returns-in-Ok-on_extent-clause-log : goal.returns-in-Ok-on_extent-clause-log
returns-in-Ok-on_extent-clause-log g c = λ honest d ordered pages.
    found_whole (g.M.Meaning.known d) g.M.Spelled.reading (g.met.M.Readable.lawful d) (g.D.SectorDisk.state c.args.disk.now).seen (g.D.SectorDisk.state c.selected.new.disk).seen c.in-Ok.extent
    c.in-Ok-on_extent.bodies c.args.gathered c.on_extent.new.gathered (c.selected.ensures.looks honest).rests.seen (c.in-Ok.ensures.extent honest) c.requires.unread pages
    (c.in-Ok-on_extent.ensures.extent (c.selected.ensures.counts.honest ∙ honest) d ordered)

pub returns-in-Err-on_extent-clause-looks : goal.returns-in-Err-on_extent-clause-looks
returns-in-Err-on_extent-clause-looks g c = λ honest.
    looks_joined (g.D.SectorDisk.state c.args.disk.now) (g.D.SectorDisk.state c.selected.new.disk) (g.D.SectorDisk.state c.on_extent.new.disk)
    (c.selected.ensures.looks honest) (c.on_extent.ensures.looks (c.selected.ensures.counts.honest ∙ honest))

pub returns-in-Err-on_extent-clause-log : goal.returns-in-Err-on_extent-clause-log
returns-in-Err-on_extent-clause-log g c = λ honest d ordered pages.
    not_found (g.M.Meaning.known d) g.M.Spelled.reading (g.met.M.Readable.lawful d) (g.D.SectorDisk.state c.args.disk.now).seen (g.D.SectorDisk.state c.selected.new.disk).seen c.in-Ok.extent
    c.args.gathered c.on_extent.new.gathered (refusal_of c.in-Err-on_extent.fault) (c.selected.ensures.looks honest).rests.seen (c.in-Ok.ensures.extent honest) c.requires.unread pages
    (c.in-Err-on_extent.ensures.extent (c.selected.ensures.counts.honest ∙ honest) d ordered)

pub returns-in-Err-on_extent-clause-shows : goal.returns-in-Err-on_extent-clause-shows
returns-in-Err-on_extent-clause-shows g c = λ honest d ordered pages.
    log_shows (g.M.Meaning.known d) g.M.Spelled.reading (g.met.M.Readable.lawful d) (g.D.SectorDisk.state c.args.disk.now).seen (g.D.SectorDisk.state c.selected.new.disk).seen c.in-Ok.extent
    c.args.gathered c.in-Err-on_extent.fault (c.selected.ensures.looks honest).rests.seen (c.in-Ok.ensures.extent honest) c.requires.unread pages
    (c.in-Err-on_extent.ensures.shows (c.selected.ensures.counts.honest ∙ honest) d ordered)
