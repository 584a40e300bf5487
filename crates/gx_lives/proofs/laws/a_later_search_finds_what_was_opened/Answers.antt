use Rattle.std.proofs.Common.{refl, List, [], ◌∷◌}
use Rattle.gx_machine.specs.Invariants.{KeptInOrder}
use Rattle.gx_machine.specs.Keys.{Keys, Members, keys_of}
use Rattle.gx_machine.specs.Machine.{Machine, fresh_machine}
use Rattle.gx_machine.specs.Runs.{IsRun, Step}
use Rattle.gx_opening.specs.Formatted.{IsAllowed}
use Rattle.gx_lives.specs.Lives.{Lies, Works}
use Rattle.gx_lives.specs.Lives as life
use Rattle.gx_lives.proofs.laws.Later.{finds_opened, one_opening}
use Rattle.gx_lives.proofs.laws.a_later_search_finds_what_was_opened.Goals as goal

pub returns : goal.returns
returns g c = λ p of_class disk new turns closed engine lives goes.
    let shape : Members g.row.K-Key.Denot = record { partial_cmp = g.K.Key.PartialOrd.partial_cmp; eq = g.K.Key.PartialEq.eq; cmp = g.K.Key.Ord.cmp; overlap = g.K.Key.Shape.overlap; inside = g.K.Key.Shape.inside } in
    let k : Keys g.row.K-Key.Denot = keys_of shape in
    let allowed : IsAllowed g.K.KeyClass.CLASS p = record { range = new.formats.0; class_is = of_class } in
    let lawful = c.keys_are_lawful.ensures in
    let in_order : (old after : Machine g.row.K-Key.Denot) (steps : List (Step g.row.K-Key.Denot)) → KeptInOrder k old → IsRun k old steps after → KeptInOrder k after =
    c.kept_sets_stay_in_order.ensures.run k lawful in
    let run = c.an_index_lives_as_one_run.ensures p of_class disk new turns (Lies closed) lives in
    let kept : KeptInOrder k run.machine = in_order fresh_machine run.machine run.steps (c.kept_sets_stay_in_order.ensures.fresh k) run.runs in
    let opens = c.every_life_is_the_machines.ensures p allowed (life.Opens ∷ []) run.machine (Lies closed) (Works engine) (Works engine, goes, refl) run.bears in
    let opening = one_opening k run.machine opens.0 opens.1 in
    record {
      run = run;
      number = opening.number;
      at_least = opening.at_least;
      at_most = opening.at_most;
      finds = λ later now on s query entries searched.
          let all = c.every_life_is_the_machines.ensures p allowed later opens.0 (Works engine) now on opens.2 in
          finds_opened k (c.calls_change_no_set.ensures k) (c.only_open_commits_are_sealed.ensures k) in_order (c.found_is_what_the_view_has.ensures.found k lawful)
          run.machine opens.0 opening kept later all.0 all.1 s query entries searched;
    }
