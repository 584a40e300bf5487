use Rattle.gx_index_laws.proofs.Logging.{begins, writes_pages, synced}
use Rattle.gx_index_laws.proofs.logged.the_log_goes_on.Goals as goal

pub returns-clause-begins : goal.returns-clause-begins
returns-clause-begins g c = λ k l old w none. begins k l old w none

pub returns-clause-pages : goal.returns-clause-pages
returns-clause-pages g c = λ k l old w area agrees. writes_pages k l old w area agrees

pub returns-clause-synced : goal.returns-clause-synced
returns-clause-synced g c = λ k l old w works. synced k l old w works
