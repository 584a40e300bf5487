use Rattle.std.proofs.lemmas.Grind.{common_steps}
use Rattle.std.proofs.Common.{◌≡◌, ◌==◌, ◌∙◌, ◌∷◌, [], ◌<◌, ◌&&◌, not, length, sym, ap, subst, refl, rules, Err, arith}
use Rattle.std.specs.Ordering.{is_eq}
use Rattle.gx_machine.specs.Keys.{keys, key_matches}
use Rattle.gx_node.specs.Lists.{how_many, one_if}
use Rattle.gx_node.specs.Trees.{Rules, IsLawful, Used}
use Rattle.gx_node.specs.Reach.{TraversalItem}
use Rattle.gx_node.specs.Looks.{IsLook, LeadsTo, from_root}
use Rattle.gx_node.proofs.OwnLook.{look_begins}
use Rattle.gx_node.specs.declared.fault.LookFault.TheVariants.{Step}
use Rattle.gx_node.specs.declared.fault.StepFault.TheVariants.{Damaged}
use Rattle.gx_tree.specs.Found.{pairs_found}
use Rattle.gx_tree.specs.Looking.{LookStep}
use Rattle.gx_node.specs.Store.{tree_of}
use Rattle.gx_tree.specs.Wants.{wants}
use Rattle.gx_memory_tree.proofs.searches.Asked.{reads_begin, reads_more, reads_fail}
use Rattle.gx_node.proofs.Listed.{same_store}
use Rattle.gx_tree.proofs.Searched.{all_found, leads_to, same_err}
use Rattle.gx_tree.proofs.Turned.{goes_on, falls, next_is_used, last_of, reads_less, lies_ahead}
use Rattle.gx_memory_tree.proofs.searches.search.Goals as goal

pub pages-init : goal.pages-init
pages-init g c =
    let t = tree_of (g.P.Pages.store c.args.pages.now) in
    let r : Rules g.row.K-Key.Denot = record { covers = λ a b. g.K.Key.Shape.inside b a; same = λ a b. is_eq (g.K.Key.Ord.cmp a b); most = c.requires.most.0 } in
    let w = wants g.K.Probing.passes c.matching-wanted.result.keys c.matching-wanted.result.row in
    let root : c.new-root.result ≡ from_root t = c.new-root.ensures ∙ ap (λ s. record { page = 1; seen = s }) c.counter.ensures in
    let stack = c.in_ok-look.ensures.0 ∙ ap (λ (i : TraversalItem). i ∷ []) root in
    let look = subst (λ is. IsLook t w is (pairs_found c.in_ok-look.look.found.items)) (sym stack)
    (subst (λ fs. IsLook t w (from_root t ∷ []) (pairs_found fs)) (sym c.in_ok-look.ensures.1) (look_begins r t c.requires.most.2 w)) in
    record {
      same = refl;
      steady = c.requires.steady;
      goes_on = λ was q h. h;
      later = λ later fault h. h;
      reads = reads_begin g.P.Pages.asked t w c.args.pages.now c.in_ok-look.look.stack.items (pairs_found c.in_ok-look.look.found.items) look;
      look = look;
    }

pub pages-smaller : goal.pages-smaller
pages-smaller g c =
    let t = tree_of (g.P.Pages.store c.args.pages.now) in
    let r : Rules g.row.K-Key.Denot = record { covers = λ a b. g.K.Key.Shape.inside b a; same = λ a b. is_eq (g.K.Key.Ord.cmp a b); most = c.requires.most.0 } in
    let w = wants g.K.Probing.passes c.matching-wanted.result.keys c.matching-wanted.result.row in
    let leads = g.K.Probing.passes c.matching-wanted.result.bounds in
    let inv = c.pages.invariant in
    let done = c.in_ok-look_step.ensures in
    let some : 0 < length c.pages.look.stack.items = search rules in
    let same = same_store (g.P.Pages.steady c.pages.pages) (g.P.Pages.store c.pages.pages) (g.P.Pages.store c.look_step.new.pages) done.tells.stays inv.steady ∙ inv.same in
    let step = subst (λ s. LookStep (tree_of s) w leads c.pages.look.stack.items c.look_step.new.look.stack.items c.pages.look.found.items c.look_step.new.look.found.items) same done.tells.step in
    falls r t c.requires.most.2 w leads c.pages.look.stack.items c.look_step.new.look.stack.items c.pages.look.found.items c.look_step.new.look.found.items some inv.look step

pub pages-preserved : goal.pages-preserved
pages-preserved g c =
    let t = tree_of (g.P.Pages.store c.args.pages.now) in
    let r : Rules g.row.K-Key.Denot = record { covers = λ a b. g.K.Key.Shape.inside b a; same = λ a b. is_eq (g.K.Key.Ord.cmp a b); most = c.requires.most.0 } in
    let w = wants g.K.Probing.passes c.matching-wanted.result.keys c.matching-wanted.result.row in
    let leads = g.K.Probing.passes c.matching-wanted.result.bounds in
    let inv = c.pages.invariant in
    let done = c.in_ok-look_step.ensures in
    let some : 0 < length c.pages.look.stack.items = search rules in
    let same = same_store (g.P.Pages.steady c.pages.pages) (g.P.Pages.store c.pages.pages) (g.P.Pages.store c.look_step.new.pages) done.tells.stays inv.steady ∙ inv.same in
    let step = subst (λ s. LookStep (tree_of s) w leads c.pages.look.stack.items c.look_step.new.look.stack.items c.pages.look.found.items c.look_step.new.look.found.items) same done.tells.step in
    let k = keys g.K.Key.Ord.cmp g.K.Key.Shape.overlap g.K.Key.Shape.inside in
    let lead : LeadsTo r t w leads = leads_to r t g.K.KeyClass.is_key c.requires.keys w (λ x. key_matches k c.args.query.now x.key) leads
    (g.K.KeyClass.may_match c.args.query.now) (λ x. not x.marked) c.matching-wanted.ensures.pairs c.matching-wanted.ensures.bounds
    (λ x b isx isb m covers. g.met.K.KeyClass.match_is_consistent c.args.query.now x.key b isx isb m covers) in
    let law : IsLawful r = c.keys_are_lawful.ensures c.requires.most.0 c.requires.most.1 in
    let last = last_of c.pages.look.stack.items some in
    record {
      same = same;
      steady = done.steady inv.steady;
      goes_on = λ was q h. done.since was q (inv.goes_on was q h);
      later = λ later fault h. inv.later later fault (done.later later fault h);
      reads = reads_more g.P.Pages.asked t c.args.pages.now c.pages.pages c.look_step.new.pages c.pages.look.stack.items last.1.page inv.reads c.look_step.new.look.stack.items
          (done.asked last.0 last.1 last.2)
          (λ q. reads_less r t c.requires.most.2 w leads (λ p. one_if (p == q)) c.pages.look.stack.items c.look_step.new.look.stack.items c.pages.look.found.items c.look_step.new.look.found.items
          inv.look step last.0 last.1 last.2);
      look = goes_on r t c.requires.most.2 w leads law lead c.pages.look.stack.items c.look_step.new.look.stack.items c.pages.look.found.items c.look_step.new.look.found.items some inv.look step;
    }

pub returns-in_err-look_step-clause-damaged : goal.returns-in_err-look_step-clause-damaged
returns-in_err-look_step-clause-damaged g c = λ e.
    let t = tree_of (g.P.Pages.store c.args.pages.now) in
    let w = wants g.K.Probing.passes c.matching-wanted.result.keys c.matching-wanted.result.row in
    let inv = c.pages.invariant in
    let some : 0 < length c.pages.look.stack.items = search rules in
    let same = same_store (g.P.Pages.steady c.pages.pages) (g.P.Pages.store c.pages.pages) (g.P.Pages.store c.look_step.new.pages) c.look_step.ensures.tells.stays inv.steady ∙ inv.same in
    let out : c.from_residual-in_err-look_step.result ≡ Err c.in_err-look_step.field-0.0 = search rules in
    let failed = same_err c.from_residual-in_err-look_step.result c.look_step.result c.in_err-look_step.field-0.0 (Step Damaged) out c.in_err-look_step.was e in
    next_is_used t w c.pages.look.stack.items (pairs_found c.pages.look.found.items) inv.look some
    (λ rest item h u. c.look_step.ensures.tells.damaged failed rest item h (subst (λ s. Used (tree_of s) item.page) (sym same) u))

pub returns-clause-all : goal.returns-clause-all
returns-clause-all g c = λ test.
    let t = tree_of (g.P.Pages.store c.args.pages.now) in
    let r : Rules g.row.K-Key.Denot = record { covers = λ a b. g.K.Key.Shape.inside b a; same = λ a b. is_eq (g.K.Key.Ord.cmp a b); most = c.requires.most.0 } in
    let w = wants g.K.Probing.passes c.matching-wanted.result.keys c.matching-wanted.result.row in
    let k = keys g.K.Key.Ord.cmp g.K.Key.Shape.overlap g.K.Key.Shape.inside in
    let none : length c.pages.look.stack.items ≡ 0 = search rules in
    ap (λ found. how_many test (pairs_found found.items)) c.into_found.ensures
    ∙ all_found r t g.K.KeyClass.is_key c.requires.keys c.requires.most.2 w (λ x. not x.marked && key_matches k c.args.query.now x.key) c.matching-wanted.ensures.pairs
    c.pages.look.stack.items (pairs_found c.pages.look.found.items) none c.pages.invariant.look test

pub returns-in_err-look_step-clause-asked : goal.returns-in_err-look_step-clause-asked
returns-in_err-look_step-clause-asked g c =
    let t = tree_of (g.P.Pages.store c.args.pages.now) in
    let r : Rules g.row.K-Key.Denot = record { covers = λ a b. g.K.Key.Shape.inside b a; same = λ a b. is_eq (g.K.Key.Ord.cmp a b); most = c.requires.most.0 } in
    let w = wants g.K.Probing.passes c.matching-wanted.result.keys c.matching-wanted.result.row in
    let leads = g.K.Probing.passes c.matching-wanted.result.bounds in
    let inv = c.pages.invariant in
    let some : 0 < length c.pages.look.stack.items = search rules in
    let last = last_of c.pages.look.stack.items some in
    reads_fail g.P.Pages.asked t c.args.pages.now c.pages.pages c.look_step.new.pages c.pages.look.stack.items last.1.page inv.reads
    (c.in_err-look_step.ensures.tried last.0 last.1 last.2)
    (λ q. lies_ahead r t c.requires.most.2 w leads (λ p. one_if (p == q)) c.pages.look.stack.items (pairs_found c.pages.look.found.items) inv.look last.0 last.1 last.2)

pub returns-in_err-look_step-clause-since : goal.returns-in_err-look_step-clause-since
returns-in_err-look_step-clause-since g c = grind (arith, common_steps)

pub returns-in_err-look_step-clause-why : goal.returns-in_err-look_step-clause-why
returns-in_err-look_step-clause-why g c = grind (arith, common_steps)

pub returns-clause-asked : goal.returns-clause-asked
returns-clause-asked g c = grind (arith, common_steps)
