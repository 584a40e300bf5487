use Rattle.std.proofs.lemmas.Grind.{common_steps}
use Rattle.std.proofs.Common.{subst, rules, arith}
use Rattle.gx_tree.specs.Seeking.{Seeks}
use Rattle.gx_node.specs.Store.{node_at}
use Rattle.gx_tree.specs.Wants.{wants}
use Rattle.gx_tree.specs.declared.seek.Sought.{Sought}
use Rattle.gx_tree.proofs.LeafSteps.{mark_fits, mark_is_set}
use Rattle.gx_node.proofs.Listed.{same_store}
use Rattle.gx_tree.proofs.leaf_steps.set_mark_step.Goals as goal

pub change-requires-clause-fits : goal.change-requires-clause-fits
change-requires-clause-fits g c =
    let wanted = wants g.K.Probing.passes c.args.wanted.now.keys c.args.wanted.now.row in
    let read = g.P.Pages.store c.seek_step.new.pages in
    let ready = g.P.Pages.store c.prepare_page.new.pages in
    mark_fits wanted read ready c.args.page c.in-Here.slot c.in-Here.before c.prepare_page.ensures.same
    (subst (λ (s : Sought). Seeks wanted (node_at read.nodes c.args.page) s) c.in-Here.is c.in_ok-slot.ensures.tells.sought)

pub returns-in_ok-prepare_page-in-Here-clause-tells : goal.returns-in_ok-prepare_page-in-Here-clause-tells
returns-in_ok-prepare_page-in-Here-clause-tells g c =
    let old = g.P.Pages.store c.args.pages.now in
    let read = g.P.Pages.store c.seek_step.new.pages in
    let ready = g.P.Pages.store c.prepare_page.new.pages in
    let new = g.P.Pages.store c.change.new.self in
    let wanted = wants g.K.Probing.passes c.args.wanted.now.keys c.args.wanted.now.row in
    record {
      marked = λ steady. mark_is_set wanted old read ready new c.args.page c.in-Here.slot c.in-Here.before c.args.marked
          (same_store (g.P.Pages.steady c.args.pages.now) old read c.seek_step.ensures.tells.stays steady) c.prepare_page.ensures.same c.in_ok-slot.ensures.held.1
          (subst (λ (s : Sought). Seeks wanted (node_at read.nodes c.args.page) s) c.in-Here.is c.in_ok-slot.ensures.tells.sought)
          c.change.ensures.edited c.change.ensures.others;
      refused = search rules;
      damaged = search rules;
    }

pub returns-in-Right-clause-tells : goal.returns-in-Right-clause-tells
returns-in-Right-clause-tells g c = record { marked = search rules; refused = search rules; damaged = search rules }

pub prepare_page-requires : goal.prepare_page-requires
prepare_page-requires g c = grind (arith, common_steps)
