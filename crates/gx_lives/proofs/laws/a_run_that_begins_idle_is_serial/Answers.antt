use Rattle.gx_lives.proofs.laws.Serially.{finds_exactly}
use Rattle.gx_lives.proofs.laws.a_run_that_begins_idle_is_serial.Goals as goal

pub returns-clause-serial : goal.returns-clause-serial
returns-clause-serial g c = λ start new steps idle kept run.
    let lawful = c.keys_are_lawful.ensures in
    record {
      alike = λ s call changes reply then_changes sealing is.
          c.every_run_is_serial.ensures _ lawful start idle kept s call changes reply then_changes sealing is.sealed;
      alone = λ s begun made sealing sealed inner is.
          c.committed_transactions_run_alone.ensures _ lawful start idle kept s begun made sealing sealed inner is.committed;
    }

pub returns-clause-finds : goal.returns-clause-finds
returns-clause-finds g c = λ start new steps kept run.
    let lawful = c.keys_are_lawful.ensures in
    finds_exactly _ (λ old after made was ran. c.kept_sets_stay_in_order.ensures.run _ lawful old after made was ran)
    (λ old after s entries was step. c.found_is_what_the_view_has.ensures.found _ lawful old after s entries was step)
    start new steps kept run
