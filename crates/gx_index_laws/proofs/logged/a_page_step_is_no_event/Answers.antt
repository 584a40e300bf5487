use Rattle.gx_index_laws.proofs.Paging.{paged, adjusted}
use Rattle.gx_index_laws.proofs.logged.a_page_step_is_no_event.Goals as goal

pub returns-clause-whole : goal.returns-clause-whole
returns-clause-whole g c = λ k l old w images counter used step is_page spares on_device fitting is_step. paged k l old w images counter used step is_page spares on_device fitting is_step

pub returns-clause-small : goal.returns-clause-small
returns-clause-small g c = λ k l old w page change step is_page spares fitting is_step. adjusted k l old w page change step is_page spares fitting is_step
