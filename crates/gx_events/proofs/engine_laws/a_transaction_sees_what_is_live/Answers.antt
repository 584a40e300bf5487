use Rattle.gx_events.proofs.Locking.{none_of_others}
use Rattle.gx_events.proofs.Standing.{working_there, none_by_locks}
use Rattle.gx_events.proofs.Follow.{sees_live}
use Rattle.gx_events.proofs.engine_laws.a_transaction_sees_what_is_live.Goals as goal

pub returns-clause-unnoted : goal.returns-clause-unnoted
returns-clause-unnoted g c = λ k l engine m s locks notes call sound seen at e none.
    sees_live k l engine m sound seen s locks notes call at e
    (none_of_others k l engine sound s (working_there k l engine sound s locks notes call at) e none)

pub returns-clause-barred : goal.returns-clause-barred
returns-clause-barred g c = λ k l engine m s locks notes call sound seen at e barred.
    sees_live k l engine m sound seen s locks notes call at e (none_by_locks k l engine sound s locks notes call at e barred)
