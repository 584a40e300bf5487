use Rattle.std.proofs.Common.{refl, subst}
use Rattle.gx_geom.specs.declared.refusal.Refusal.{Refusal}
use Rattle.gx_commands.specs.Lines.{refusal_line}
use Rattle.gx_commands.specs.Streams.{Prints, stream_of}
use Rattle.gx_commands.proofs.Refusing.{told_refused}
use Rattle.gx_commands.proofs.opening.refuse_opening.Goals as goal

pub returns-in-Damaged : goal.returns-in-Damaged
returns-in-Damaged g c =
    let contents = g.W.Write.contents in
    rw c.in-Damaged.is (record {
      found = c.examine-disk.result.1;
      is_true = c.examine-disk.ensures.examined;
      finds = c.examine-disk.ensures.damaged;
      failed = c.examine-disk.ensures.failed;
      status_is = refl;
      told = subst (λ (why : Refusal). Prints (refusal_line why) (stream_of contents c.args.writer.now) (stream_of contents c.print_refusal.new.writer)) c.in-Damaged.is c.print_refusal.ensures;
      heard = c.tell_found.ensures;
      rests = c.examine-disk.ensures.rests;
    })

pub returns-in_default : goal.returns-in_default
returns-in_default g c = told_refused _ g.K.ReadKeys.is_proper g.K.ReadKeys.said g.K.KeyClass _ _ c.args.refused.why c.args.refused.disk _ _ _ c.in_default.not-Damaged c.refuse.ensures
