use Rattle.gx_plain.proofs.Decided.{plain_text}
use Rattle.gx_plain.proofs.laws.texts_are_decided_by_calls.Goals as goal

pub returns : goal.returns
returns g c = λ grammar k number lines old new text plain rests script. plain_text grammar k number lines old new text plain rests script
