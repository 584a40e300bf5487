use Rattle.std.proofs.Common.{inl, inr, refl}
use Rattle.gx_commands.proofs.verifying.refuse_verified.Goals as goal

pub returns-in-Damaged : goal.returns-in-Damaged
returns-in-Damaged g c =
    inl (
      c.in-Damaged.is,
      record {
        status_is = refl;
        told = rw c.in-Damaged.is at c.print_refusal.ensures;
        heard = record { found = c.damage_in.result; is_true = c.damage_in.ensures; heard = c.tell_found.ensures };
      },
    )

pub returns-in_default : goal.returns-in_default
returns-in_default g c = inr (c.in_default.not-Damaged, c.refuse.ensures)
