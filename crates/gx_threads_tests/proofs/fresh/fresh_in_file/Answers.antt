use Rattle.gx_shared.proofs.Sharing.{fresh_may_be_shared}
use Rattle.gx_threads_tests.proofs.fresh.fresh_in_file.Goals as goal

pub returns-in-Ok : goal.returns-in-Ok
returns-in-Ok g c = λ granted. fresh_may_be_shared _ _ (c.in-Ok.ensures.seen (granted c.in_ok-disk.disk))
