use Rattle.std.proofs.Common.{◌≤◌, arith}
use Rattle.gx_disk.specs.declared.layout.TheConstants.{LEAST_SECTORS}
use Rattle.gx_lives.proofs.commands.OverDevices.{given}
use Rattle.gx_lives.proofs.commands.commands_are_lives.Goals as goal

pub returns : goal.returns
returns g c = λ p allowed m disk after command bears is.
    let large = bears.large in
    let pages = allowed.range.least_pages in
    let room : LEAST_SECTORS ≤ (g.D.SectorDisk.state disk).sectors = omega (arith, large, pages) in
    given _ _ g.K.ReadKeys.is_proper g.K.ReadKeys.said g.K.KeyClass _ disk bears.honest room (λ left why refused. c.an_opening_finds_no_damage.ensures p allowed m disk left why bears refused) command after is
