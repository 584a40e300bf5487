use Rattle.gx_durable.proofs.Used.{known_lawful, reads_used}
use Rattle.gx_durable.proofs.class_laws.what_stands_is_legal.Goals as goal

pub returns-clause-lawful : goal.returns-clause-lawful
returns-clause-lawful g c = λ l. known_lawful _ (record { total = g.met.K.Key.Ord.total; exact = g.met.K.Key.Shape.same })

pub returns-clause-used : goal.returns-clause-used
returns-clause-used g c = λ l. reads_used _

pub returns-clause-legal : goal.returns-clause-legal
returns-clause-legal g c = λ l. c.a_crash_leaves_a_kept_set.ensures.legal l (known_lawful _ (record { total = g.met.K.Key.Ord.total; exact = g.met.K.Key.Shape.same })) (reads_used _)
