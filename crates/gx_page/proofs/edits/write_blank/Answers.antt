-- The three writes over zeros make the image.
use Rattle.gx_page.proofs.Steps.{blank_goes}
use Rattle.gx_page.proofs.edits.write_blank.Goals as goal

pub returns : goal.returns
returns c =
    let goes = blank_goes c.args.block.now.bytes c.set_u16.new.self.bytes c.set_u16-2.new.self.bytes c.set_u32.new.self.bytes c.args.level c.args.number
    c.requires c.ranges.level.fits c.ranges.number.fits c.set_u16.ensures c.set_u16-2.ensures c.set_u32.ensures in
    record { image = goes.0; page = goes.1 }
