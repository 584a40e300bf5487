use Rattle.std.proofs.Common.{arith}
use Rattle.gx_script.proofs.corners.CornerLemmas.{short_stored, solid_is_made}
use Rattle.gx_script.proofs.corners.Box3Corners.make.Goals as goal

pub returns : goal.returns
returns c =
    let zs = c.args.numbers.now in
    let few = c.requires.as_many in
    solid_is_made zs c.new.result _ _ _ _ _ _
    (short_stored zs 0 c.short_at-x1.result c.requires.fits (omega (arith, few)) c.short_at-x1.ensures)
    (short_stored zs 1 c.short_at-y1.result c.requires.fits (omega (arith, few)) c.short_at-y1.ensures)
    (short_stored zs 2 c.short_at-z1.result c.requires.fits (omega (arith, few)) c.short_at-z1.ensures)
    (short_stored zs 3 c.short_at-x2.result c.requires.fits (omega (arith, few)) c.short_at-x2.ensures)
    (short_stored zs 4 c.short_at-y2.result c.requires.fits (omega (arith, few)) c.short_at-y2.ensures)
    (short_stored zs 5 c.short_at-z2.result c.requires.fits (omega (arith, few)) c.short_at-z2.ensures)
    c.new.ensures.ok c.new.ensures.corners c.new.ensures.refused
