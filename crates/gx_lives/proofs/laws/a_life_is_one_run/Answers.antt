use Rattle.gx_machine.specs.Keys.{Members, keys_of}
use Rattle.gx_lives.specs.Lives.{Lies}
use Rattle.gx_lives.proofs.laws.OneRun.{lies_so}
use Rattle.gx_lives.proofs.laws.Told.{covered}
use Rattle.gx_lives.proofs.laws.a_life_is_one_run.Goals as goal

pub returns : goal.returns
returns g c = λ p allowed start idle kept disk bears turns now lives.
    let shape : Members g.row.K-Key.Denot = record { partial_cmp = g.K.Key.PartialOrd.partial_cmp; eq = g.K.Key.PartialEq.eq; cmp = g.K.Key.Ord.cmp; overlap = g.K.Key.Shape.overlap; inside = g.K.Key.Shape.inside } in
    let all = c.every_life_is_the_machines.ensures p allowed turns start (Lies disk) now lives bears in
    let run = c.every_life_is_a_run.ensures (keys_of shape) turns start all.0 all.1 in
    record {
      steps = run.0;
      told = run.1;
      machine = all.0;
      runs = run.2;
      serial = c.a_run_that_begins_idle_is_serial.ensures.serial start all.0 run.0 idle kept run.2;
      finds = c.a_run_that_begins_idle_is_serial.ensures.finds start all.0 run.0 kept run.2;
      covers = λ number is. covered (keys_of shape) (c.acknowledged_commits_survive.ensures (keys_of shape)) turns start all.0 all.1 number is;
      bears = all.2;
      left = c.a_crash_leaves_a_set_of_the_machine.ensures p allowed all.0 now all.2;
      opens = λ old after why is refused. c.an_opening_finds_no_damage.ensures p allowed all.0 old after why
          (lies_so shape g.K.ReadKeys.is_proper g.K.ReadKeys.said g.K.KeyClass g.D.SectorDisk.state p all.0 now old is all.2) refused;
    }
