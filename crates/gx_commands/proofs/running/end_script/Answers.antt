use Rattle.std.proofs.Common.{refl}
use Rattle.gx_commands.proofs.Over.{left_of}
use Rattle.gx_commands.proofs.running.end_script.Goals as goal

pub returns-then-met : goal.returns-then-met
returns-then-met g c =
    let left = left_of c.args.watched.index c.into_engine.result c.into_disk.result c.into_engine.ensures c.into_disk.ensures in
    rw c.if-met.true (refl, (refl, (c.tell_person.ensures, left)))
