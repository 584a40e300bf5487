use Rattle.gx_engine_events.proofs.books.Acknowledged.{all_covered}
use Rattle.gx_engine_events.proofs.books.outlives_a_crash.Goals as goal

pub returns : goal.returns
returns g c = λ granted.
    let is = c.stands.ensures granted in
    record {
      start = is.start;
      at = is.at;
      machine = is.machine;
      seen = is.seen;
      replays = is.replays;
      sets = c.a_crash_leaves_a_set_of_the_machine.ensures _ is.machine is.seen;
      covers = all_covered _ is.start _ is.machine is.replays;
    }
