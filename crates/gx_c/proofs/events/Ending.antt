-- An outcome with another status than 0.
use Rattle.std.proofs.Common.{◌≡◌, refl}
use Rattle.gx_machine.specs.declared.reply.Reply.TheVariants as reply
use Rattle.gx_events.specs.declared.outcome.Outcome.{Outcome}
use Rattle.gx_events.specs.declared.outcome.Outcome.TheVariants.{Replied, Refused}
use Rattle.gx_c.specs.Stepping.{ended, sent_outcome, stepped}

-- C gets that the call has ended, without a number
pub ended_by : {B : Type 0} (given : Outcome B) → (stepped given ≡ 0 → ⊥) → sent_outcome given ≡ ended
ended_by (Replied (reply.Refused why)) fails = refl
ended_by (Replied other) fails = absurd (fails refl)
ended_by (Refused why) fails = refl
ended_by other fails = absurd (fails refl)
