use Rattle.std.proofs.Common.{◌∙◌, ap}
use Rattle.gx_node.specs.Reading.{format_of}
use Rattle.gx_store.specs.Standing.{standing_node}
use Rattle.gx_store.proofs.Listed.{nodes_long}
use Rattle.gx_storage.specs.State.{Volume}
use Rattle.gx_storage.proofs.storage.Storage.used.Goals as goal

pub returns : goal.returns
returns g c =
    let shelf = c.self.inside.store in
    c.used.ensures ∙ nodes_long (standing_node (format_of g.K.KeyClass) shelf.frames (g.D.SectorDisk.state shelf.disk).seen) shelf.used ∙ ap (λ (v : Volume g.row.D.Denot). v.shelf.used) c.self.view_is
