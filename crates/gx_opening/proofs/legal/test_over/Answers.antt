use Rattle.std.proofs.Common.{sym, subst}
use Rattle.gx_node.specs.Reading.{format_of, is_node}
use Rattle.gx_pool.specs.Bringing.{OnlyRead}
use Rattle.gx_opening.specs.Formatted.{FaultsAre}
use Rattle.gx_opening.proofs.Sounding.{since_all}
use Rattle.gx_opening.proofs.legal.test_over.Goals as goal

pub returns-clause-read : goal.returns-clause-read
returns-clause-read g c =
    let state = g.D.SectorDisk.state in
    let start = c.args.store in
    let new = c.test_store-tested.new.store in
    subst (λ (d : g.row.D.Denot). OnlyRead (state start.disk) (state d)) (sym c.into_disk.ensures)
    (since_all (format_of g.K.KeyClass) (is_node (format_of g.K.KeyClass)) state start new c.test_store-tested.ensures.reads (λ page. c.going_on.ensures.begins start page) 1).goes_on.device

pub returns-clause-faults : goal.returns-clause-faults
returns-clause-faults g c =
    let state = g.D.SectorDisk.state in
    let start = c.args.store in
    subst (λ (d : g.row.D.Denot). FaultsAre (state start.disk).faults (state d).faults c.test_store-tested.result) (sym c.into_disk.ensures) c.test_store-tested.ensures.faults
