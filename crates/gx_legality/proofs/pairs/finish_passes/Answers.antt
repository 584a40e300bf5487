use Rattle.std.proofs.Common.{◌≤◌, ◌*◌, ◌+◌, Option, None, sym, length, refl, arith, subst, ◌∙◌}
use Rattle.std.specs.Cmp.{IsTotalOrder}
use Rattle.std.proofs.lemmas.Cmp.{then_total, on_total, nat_cmp_total}
use Rattle.std.proofs.lemmas.Result.{err_from_is_err_and}
use Rattle.gx_machine.specs.Keys.{entry_cmp}
use Rattle.gx_machine.specs.declared.entry.Entry.{Entry}
use Rattle.gx_node.specs.Trees.{leaves}
use Rattle.gx_node.specs.Store.{tree_of}
use Rattle.gx_legality.specs.Entries.{entries_on}
use Rattle.gx_legality.specs.Gathered.{Tested, gathered_above}
use Rattle.gx_legality.proofs.Children.{reads_none, reads_same, reads_more}
use Rattle.gx_legality.proofs.Once.{tested_none, tested_again, tested_from, tested_all, twice_pair, pair_found, once_pair, pass_goes, below_all, few_entries}
use Rattle.gx_legality.proofs.pairs.finish_passes.Goals as goal

pub loop-pass-init : goal.loop-pass-init
loop-pass-init g c =
    let order = entry_cmp (record { cmp = g.K.Key.Ord.cmp; overlaps = g.K.Key.Shape.overlap; within = g.K.Key.Shape.inside }) in
    let total : IsTotalOrder order = then_total (on_total (λ (e : Entry g.row.K-Key.Denot). e.row) nat_cmp_total) (on_total (λ (e : Entry g.row.K-Key.Denot). e.key) g.met.K.Key.Ord.total) in
    let old = g.P.Pages.store c.args.pages.now in
    let all = entries_on (tree_of old) (leaves (tree_of old)) in
    record {
      reads = reads_none c.args.pages.now;
      later = λ later fault why. why;
      told = refl;
      gathers = λ steady linked was. was;
      tested = λ steady linked was. subst (λ (above : Option (Entry g.row.K-Key.Denot)). Tested order (gathered_above 0 above) all 0) (sym c.requires.first)
          (tested_none order total (gathered_above 0 None) all refl);
    }

pub returns-in-Twice-clause-found : goal.returns-in-Twice-clause-found
returns-in-Twice-clause-found g c = λ steady linked rooms was.
    let old = g.P.Pages.store c.args.pages.now in
    let all = entries_on (tree_of old) (leaves (tree_of old)) in
    twice_pair g.K.Key.Ord.cmp g.K.Key.Shape.overlap g.K.Key.Shape.inside c.args.most (tree_of old) 2 refl (c.in-Twice.ensures all (c.loop-pass.invariant.gathers steady linked was))

pub returns-in-Done-clause-single : goal.returns-in-Done-clause-single
returns-in-Done-clause-single g c = λ steady linked rooms was.
    let order = entry_cmp (record { cmp = g.K.Key.Ord.cmp; overlaps = g.K.Key.Shape.overlap; within = g.K.Key.Shape.inside }) in
    let total : IsTotalOrder order = then_total (on_total (λ (e : Entry g.row.K-Key.Denot). e.row) nat_cmp_total) (on_total (λ (e : Entry g.row.K-Key.Denot). e.key) g.met.K.Key.Ord.total) in
    let kept = c.loop-pass.invariant in
    let old = g.P.Pages.store c.args.pages.now in
    let all = entries_on (tree_of old) (leaves (tree_of old)) in
    once_pair g.K.Key.Ord.cmp g.K.Key.Shape.overlap g.K.Key.Shape.inside c.args.most (tree_of old)
    (tested_all order total (gathered_above 0 c.loop-pass.gather.above) all c.loop-pass._pass (kept.tested steady linked was)
    (c.in-Done.ensures all (kept.gathers steady linked was)))

pub returns-in_err-take_leaves-in-Again-clause-found : goal.returns-in_err-take_leaves-in-Again-clause-found
returns-in_err-take_leaves-in-Again-clause-found g c = λ steady linked rooms was.
    let order = entry_cmp (record { cmp = g.K.Key.Ord.cmp; overlaps = g.K.Key.Shape.overlap; within = g.K.Key.Shape.inside }) in
    let total : IsTotalOrder order = then_total (on_total (λ (e : Entry g.row.K-Key.Denot). e.row) nat_cmp_total) (on_total (λ (e : Entry g.row.K-Key.Denot). e.key) g.met.K.Key.Ord.total) in
    let p = err_from_is_err_and c.from_residual.result c.from_residual.ensures.1 in
    let kept = c.loop-pass.invariant in
    let old = g.P.Pages.store c.args.pages.now in
    let all = entries_on (tree_of old) (leaves (tree_of old)) in
    let again = c.in-Again.ensures all (kept.gathers steady linked was) in
    let begun = pass_goes order total old (g.P.Pages.store c.loop-pass.pages) c.finish.new.self (c.loop-pass._pass + 1)
    (reads_same c.args.pages.now c.loop-pass.pages kept.reads steady)
    (tested_again order total c.loop-pass.gather c.finish.new.self all c.loop-pass._pass (kept.tested steady linked was) again) linked in
    rw (p.1, p.2) (pair_found g.K.Key.Ord.cmp g.K.Key.Shape.overlap g.K.Key.Shape.inside c.args.most (tree_of old) c.in_err-take_leaves-in-Again.field-0.0
    (c.in_err-take_leaves-in-Again.ensures.gathers (kept.reads.still steady) begun.0 all begun.1))

pub loop-pass-preserved : goal.loop-pass-preserved
loop-pass-preserved g c =
    let order = entry_cmp (record { cmp = g.K.Key.Ord.cmp; overlaps = g.K.Key.Shape.overlap; within = g.K.Key.Shape.inside }) in
    let total : IsTotalOrder order = then_total (on_total (λ (e : Entry g.row.K-Key.Denot). e.row) nat_cmp_total) (on_total (λ (e : Entry g.row.K-Key.Denot). e.key) g.met.K.Key.Ord.total) in
    let kept = c.loop-pass.invariant in
    let next = c.in_ok-take_leaves-in-Again.ensures in
    let old = g.P.Pages.store c.args.pages.now in
    let all = entries_on (tree_of old) (leaves (tree_of old)) in
    record {
      reads = reads_more c.args.pages.now c.loop-pass.pages c.take_leaves.new.pages kept.reads next.reads;
      later = λ later fault why. kept.later later fault (next.later later fault why);
      told = next.told ∙ kept.told;
      gathers = λ steady linked was. (
          let again = c.in-Again.ensures all (kept.gathers steady linked was) in
          let begun = pass_goes order total old (g.P.Pages.store c.loop-pass.pages) c.finish.new.self (c.loop-pass._pass + 1)
          (reads_same c.args.pages.now c.loop-pass.pages kept.reads steady)
          (tested_again order total c.loop-pass.gather c.finish.new.self all c.loop-pass._pass (kept.tested steady linked was) again) linked in
          next.gathers (kept.reads.still steady) begun.0 all begun.1
          );
      tested = λ steady linked was. (
          let tested = tested_again order total c.loop-pass.gather c.finish.new.self all c.loop-pass._pass (kept.tested steady linked was)
          (c.in-Again.ensures all (kept.gathers steady linked was)) in
          subst (λ (above : Option (Entry g.row.K-Key.Denot)). Tested order (gathered_above 0 above) all (c.loop-pass._pass + 1)) (sym next.above) (tested_from order c.finish.new.self all (c.loop-pass._pass + 1) tested)
          );
    }

pub returns-clause-found : goal.returns-clause-found
returns-clause-found g c = λ steady linked rooms was.
    let order = entry_cmp (record { cmp = g.K.Key.Ord.cmp; overlaps = g.K.Key.Shape.overlap; within = g.K.Key.Shape.inside }) in
    let total : IsTotalOrder order = then_total (on_total (λ (e : Entry g.row.K-Key.Denot). e.row) nat_cmp_total) (on_total (λ (e : Entry g.row.K-Key.Denot). e.key) g.met.K.Key.Ord.total) in
    let old = g.P.Pages.store c.args.pages.now in
    let all = entries_on (tree_of old) (leaves (tree_of old)) in
    let many = (c.loop-pass.invariant.tested steady linked was).many in
    let few = below_all order total c.loop-pass.gather.above all in
    let long : length all ≤ length old.nodes * c.args.most = few_entries (tree_of old) c.args.most linked rooms in
    omega (arith, many, few, long)
