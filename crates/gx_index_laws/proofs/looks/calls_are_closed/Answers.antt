use Rattle.std.proofs.Common.{refl}
use Rattle.gx_events.specs.Happenings.{Closes}
use Rattle.gx_index_laws.proofs.Answering.{closed}
use Rattle.gx_index_laws.proofs.looks.calls_are_closed.Goals as goal

pub returns : goal.returns
returns g c = λ k l old w works s locks notes call why at may. closed k l old w (Closes s call why) s locks notes call works at (λ is. (may, is)) refl
