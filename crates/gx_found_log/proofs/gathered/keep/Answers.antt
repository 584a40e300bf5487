use Rattle.std.proofs.Common.{length, ap, arith}
use Rattle.gx_record.specs.Seen.{rec_of}
use Rattle.gx_found_log.specs.Given.{images_of}
use Rattle.gx_found_log.proofs.Giving.{images_are}
use Rattle.gx_found_log.proofs.Keeping.{no_more}
use Rattle.gx_found_log.proofs.gathered.keep.Goals as goal

pub keep_images-requires-clause-images : goal.keep_images-requires-clause-images
keep_images-requires-clause-images g c = images_are g.M.Spelled.reading.key (rec_of c.args.logged.now) c.requires.is_record

pub returns-in-None-clause-given : goal.returns-in-None-clause-given
returns-in-None-clause-given g c =
    let few = no_more (images_of (rec_of c.args.logged.now)) c.args.gathered.now.given in let kept = ap length c.keep_images.ensures in omega (arith, few, kept)
