use Rattle.std.proofs.Common.{◌≡◌, subst, sym, true, false, rules}
use Rattle.gx_node.specs.Store.{node_at}
use Rattle.gx_tree.specs.Sweeping.{PlansSweep, takes_none}
use Rattle.gx_tree.specs.Writing.{Swept}
use Rattle.gx_tree.proofs.Swept.{is_unswept, is_swept}
use Rattle.gx_tree.proofs.sweep.sweep_step.Goals as goal

pub returns-then-is_empty-clause-tells : goal.returns-then-is_empty-clause-tells
returns-then-is_empty-clause-tells g c =
    let old = g.P.Pages.store c.args.pages.now in
    let read = g.P.Pages.store c.plan_sweep.new.pages in
    let plan = c.in_ok-sweep.sweep in
    let here = c.in_ok-sweep.ensures.page in
    let none : takes_none plan ≡ true = search rules in
    record {
      swept = λ steady test agrees. subst (λ a. Swept test old read a false) here
          (is_unswept plan test old read (c.in_ok-sweep.ensures.same steady)
          (subst (λ a. PlansSweep test (node_at read.nodes a) plan) (sym here) (c.in_ok-sweep.ensures.plans test agrees)) none);
      refused = search rules;
      damaged = search rules;
    }

pub returns-clause-tells : goal.returns-clause-tells
returns-clause-tells g c =
    let old = g.P.Pages.store c.args.pages.now in
    let read = g.P.Pages.store c.plan_sweep.new.pages in
    let new = g.P.Pages.store c.make_sweep.new.pages in
    let plan = c.in_ok-sweep.sweep in
    let here = c.in_ok-sweep.ensures.page in
    let some : takes_none plan ≡ false = search rules in
    record {
      swept = λ steady test agrees. subst (λ a. Swept test old new a true) here
          (is_swept plan test old read new (c.in_ok-sweep.ensures.same steady)
          (subst (λ a. PlansSweep test (node_at read.nodes a) plan) (sym here) (c.in_ok-sweep.ensures.plans test agrees)) c.in_ok-make_sweep.ensures.takes some);
      refused = search rules;
      damaged = search rules;
    }
