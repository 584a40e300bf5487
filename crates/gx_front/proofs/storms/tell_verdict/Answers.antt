use Rattle.std.proofs.Common.{◌∙◌, refl}
use Rattle.gx_front.proofs.storms.tell_verdict.Goals as goal

pub returns-in-Sound : goal.returns-in-Sound
returns-in-Sound g c = rw c.in-Sound.is (let told = c.tell_sound.ensures in rw c.from.ensures at told)

pub returns-in-Mismatch : goal.returns-in-Mismatch
returns-in-Mismatch g c =
    let line = c.as_bytes.ensures.value ∙ (c.as_str.ensures.value ∙ c.line_of_place.ensures) in
    rw c.in-Mismatch.is (record {
      status_is = refl;
      told = (let told = c.print.ensures in rw line at told);
      heard = c.tell_person.ensures;
    })
