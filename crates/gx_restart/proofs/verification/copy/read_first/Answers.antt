use Rattle.std.proofs.Common.{◌≡◌, ◌∙◌, ◌%◌, ap, arith, length, rules, subst, sym}
use Rattle.std.proofs.Math.Nat.{mul-mod_right}
use Rattle.gx_disk.specs.Sectors.{span_of}
use Rattle.gx_restart.proofs.verification.copy.read_first.Goals as goal

pub read-requires : goal.read-requires
read-requires g c =
    let size = c.requires.size in
    let least = c.requires.least in
    let inside = c.requires.inside in
    record {
      some = omega (arith, size, least);
      whole = subst (λ n. n % 512 ≡ 0) (sym size) (mul-mod_right 512 c.args.sectors);
      inside = omega (arith, size, inside);
    }

pub returns-clause-bytes : goal.returns-clause-bytes
returns-clause-bytes g c = λ honest.
    (let same : length c.read.new.buffer ≡ length c.args.bytes.now = search rules in
    (c.in_ok-read.ensures.reads honest).read ∙ ap (λ n. span_of (g.D.SectorDisk.state c.args.disk.now).seen 0 n) (same ∙ c.requires.size))
