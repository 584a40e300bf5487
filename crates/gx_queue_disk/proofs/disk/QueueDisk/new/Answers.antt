use Rattle.std.proofs.Common.{◌≡◌, ◌∙◌, ◌*◌, ◌/◌, refl, ap, length, arith}
use Rattle.std.proofs.lemmas.List.{length-take-le}
use Rattle.gx_queue_disk.specs.Calls.{bytes_after}
use Rattle.gx_queue_disk.proofs.disk.QueueDisk.new.Goals as goal

pub invariant_of-result : goal.invariant_of-result
unfolding bytes_after
invariant_of-result c =
    let n = c.len-sectors.result in
    let cut : length c.cut.new.self ≡ 512 * (n / 512) = ap length c.cut.ensures ∙ length-take-le (512 * (n / 512)) c.args.image (omega (arith, c.len-sectors.ensures)) in
    record {
      addressable = omega (arith, c.len-sectors.auto);
      whole = cut;
      led = rw (c.of-past.ensures, c.new.ensures) refl;
    }
