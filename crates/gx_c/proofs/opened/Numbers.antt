-- The number that a commit writes.
use Rattle.std.proofs.Common.{◌≡◌, ℕ, refl}
use Rattle.gx_machine.specs.declared.reply.Reply.{Reply}
use Rattle.gx_machine.specs.declared.reply.Reply.TheVariants.{Committed}
use Rattle.gx_c.specs.Statuses.{number_in, replied}

-- a reply with another status than 0 has none
pub number_kept : {B : Type 0} (reply : Reply B) (had : ℕ) → (replied reply ≡ 0 → ⊥) → number_in reply had ≡ had
number_kept (Committed number) had fails = absurd (fails refl)
number_kept other had fails = refl
