use Rattle.std.proofs.Common.{ℕ, List, subst, ◌∙◌}
use Rattle.gx_commands.specs.Streams.{TellsPerson, stream_of}
use Rattle.gx_commands.specs.Lines.{damage_sentence}
use Rattle.gx_commands.proofs.opening.tell_found.Goals as goal

pub returns-in-Some : goal.returns-in-Some
returns-in-Some g c =
    let words = c.as_str.ensures.value ∙ c.sentence_of.ensures in
    let tells : TellsPerson (damage_sentence c.in-Some.damage) (stream_of g.E.Write.contents c.args.faults.now) (stream_of g.E.Write.contents c.tell_person.new.faults) =
    subst (λ (s : List ℕ). TellsPerson s (stream_of g.E.Write.contents c.args.faults.now) (stream_of g.E.Write.contents c.tell_person.new.faults)) words
    c.tell_person.ensures in
    rw c.in-Ok.is (rw c.in-Some.is tells)
