use Rattle.std.proofs.Common.{map, ap, ◌∙◌, to_z, of_z}
use Rattle.std.specs.Int.{w32}
use Rattle.gx_class.specs.Boxes.{corners_of}
use Rattle.gx_class.specs.Probes.{are_between}
use Rattle.gx_class.proofs.Order.{corners_fit, passed_on}
use Rattle.gx_class.proofs.box_probe.BoxProbe.passes.Goals as goal

pub returns : goal.returns
returns c =
    let bytes = c.args.bytes.now in
    c.are_between.ensures ∙ ap (are_between c.args.self.now.low c.args.self.now.high)
    (ap (λ l. map (to_z w32) (map (of_z w32) l)) c.corners_in.ensures ∙ passed_on (corners_of bytes) (corners_fit bytes (λ i. (c.type_inv.bytes i).fits)))
