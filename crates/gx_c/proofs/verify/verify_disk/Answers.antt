use Rattle.std.proofs.Common.{Ok, Err, refl}
use Rattle.gx_c.proofs.verify.verify_disk.Goals as goal

pub returns-in-Ok-clause-verifies : goal.returns-in-Ok-clause-verifies
returns-in-Ok-clause-verifies g c =
    record { result = Ok c.in-Ok.report; frames_are = c.in-Ok.ensures.frames; small = c.in-Ok.ensures.small; counted = c.in-Ok.ensures.counted; looks = c.in-Ok.ensures.looks; verified = c.in-Ok.ensures.verified; refused = c.in-Ok.ensures.refused; sent_is = refl; status_is = refl }

pub returns-in-Err-clause-verifies : goal.returns-in-Err-clause-verifies
returns-in-Err-clause-verifies g c =
    record { result = Err c.in-Err.why; frames_are = c.in-Err.ensures.frames; small = c.in-Err.ensures.small; counted = c.in-Err.ensures.counted; looks = c.in-Err.ensures.looks; verified = c.in-Err.ensures.verified; refused = c.in-Err.ensures.refused; sent_is = refl; status_is = c.refused.ensures }
