use Rattle.std.proofs.Common.{sym, ap, ◌∙◌}
use Rattle.gx_node.specs.Reading.{format_of}
use Rattle.gx_store.specs.Standing.{standing_node}
use Rattle.gx_store.specs.State.{Shelf}
use Rattle.gx_store.proofs.Listed.{nodes_long}
use Rattle.gx_store.proofs.pages.PageStorePages.used.Goals as goal

pub returns : goal.returns
returns g c =
    let v = c.args.self.now in
    ap (λ (s : Shelf g.row.D.Denot). s.used) c.self.view_is ∙ sym (nodes_long (standing_node (format_of g.K.KeyClass) v.frames (g.D.SectorDisk.state v.disk).seen) v.used)
