use Rattle.std.proofs.Common.{arith}
use Rattle.std.proofs.lemmas.Result.{on_ok_weaker}
use Rattle.gx_disk.proofs.memory.MemDisk.reserve.Goals as goal

pub returns-clause-room : goal.returns-clause-room
returns-clause-room c = on_ok_weaker c.reserve-2.result (λ more. record { calls_fit = c.in_ok-reserve.ensures.ok; bytes_fit = omega (arith, more, c.in-Some.ensures) }) c.reserve-2.ensures.ok
