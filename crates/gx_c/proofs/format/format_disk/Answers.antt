use Rattle.gx_c.proofs.format.format_disk.Goals as goal

pub returns : goal.returns
returns g c =
    let did = c.format.ensures in
    record { result = c.format.result; formats = did.formats; moments = did.moments; fresh = did.fresh; root_is = did.root; status_is = c.resulted.ensures }
