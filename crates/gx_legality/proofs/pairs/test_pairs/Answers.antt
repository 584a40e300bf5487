use Rattle.std.proofs.Common.{◌≤◌, ℕ, OnOk, IfErr}
use Rattle.std.specs.Cmp.{IsTotalOrder}
use Rattle.std.proofs.lemmas.Cmp.{then_total, on_total, nat_cmp_total}
use Rattle.std.proofs.lemmas.Result.{err_from_is_err_and}
use Rattle.gx_machine.specs.Keys.{Members, entry_cmp}
use Rattle.gx_machine.specs.declared.entry.Entry.{Entry}
use Rattle.gx_node.specs.Trees.{Rules, leaves, standing, is_entry}
use Rattle.gx_node.specs.Keyed.{rules_of}
use Rattle.gx_node.specs.Store.{tree_of}
use Rattle.gx_legality.specs.Breaks.{Breaks}
use Rattle.gx_legality.specs.Entries.{entries_on}
use Rattle.gx_legality.specs.Owner.{IsFound}
use Rattle.gx_legality.proofs.Children.{reads_same}
use Rattle.gx_legality.proofs.Joined.{on_ok, pairs_before}
use Rattle.gx_legality.proofs.Once.{pair_found, pass_begins, tested_none}
use Rattle.gx_legality.proofs.pairs.test_pairs.Goals as goal

pub returns-in_err-take_leaves-clause-found : goal.returns-in_err-take_leaves-clause-found
returns-in_err-take_leaves-clause-found g c = λ steady linked rooms.
    let order = entry_cmp (record { cmp = g.K.Key.Ord.cmp; overlaps = g.K.Key.Shape.overlap; within = g.K.Key.Shape.inside }) in
    let total : IsTotalOrder order = then_total (on_total (λ (e : Entry g.row.K-Key.Denot). e.row) nat_cmp_total) (on_total (λ (e : Entry g.row.K-Key.Denot). e.key) g.met.K.Key.Ord.total) in
    let old = g.P.Pages.store c.args.pages.now in
    let all = entries_on (tree_of old) (leaves (tree_of old)) in
    let begun = pass_begins order total c.args.gather.now all 0 (tested_none order total c.args.gather.now all c.requires.fresh) in
    let p = err_from_is_err_and c.from_residual.result c.from_residual.ensures.1 in
    rw (p.1, p.2) (pair_found g.K.Key.Ord.cmp g.K.Key.Shape.overlap g.K.Key.Shape.inside c.args.most (tree_of old) c.in_err-take_leaves.field-0.0
    (c.in_err-take_leaves.ensures.gathers steady linked all begun))

pub returns-clause-single : goal.returns-clause-single
returns-clause-single g c = λ steady linked rooms.
    let order = entry_cmp (record { cmp = g.K.Key.Ord.cmp; overlaps = g.K.Key.Shape.overlap; within = g.K.Key.Shape.inside }) in
    let total : IsTotalOrder order = then_total (on_total (λ (e : Entry g.row.K-Key.Denot). e.row) nat_cmp_total) (on_total (λ (e : Entry g.row.K-Key.Denot). e.key) g.met.K.Key.Ord.total) in
    let old = g.P.Pages.store c.args.pages.now in
    let all = entries_on (tree_of old) (leaves (tree_of old)) in
    let begun = pass_begins order total c.args.gather.now all 0 (tested_none order total c.args.gather.now all c.requires.fresh) in
    let same = reads_same c.args.pages.now c.take_leaves.new.pages c.in_ok-take_leaves.ensures.reads steady in
    let gathered = c.in_ok-take_leaves.ensures.gathers steady linked all begun in
    let shape : Members g.row.K-Key.Denot = record { partial_cmp = g.K.Key.PartialOrd.partial_cmp; eq = g.K.Key.PartialEq.eq; cmp = g.K.Key.Ord.cmp; overlap = g.K.Key.Shape.overlap; inside = g.K.Key.Shape.inside } in
    pairs_before (rules_of shape c.args.most) old (g.P.Pages.store c.take_leaves.new.pages) c.take_leaves.new.gather order same
    (λ (r : Rules g.row.K-Key.Denot) t. OnOk c.finish_passes.result ((row : ℕ) (key : g.row.K-Key.Denot) → standing (is_entry r row key) t ≤ 1))
    (c.finish_passes.ensures.single (c.in_ok-take_leaves.ensures.reads.still steady)) linked rooms gathered

pub returns-clause-found : goal.returns-clause-found
returns-clause-found g c = λ steady linked rooms.
    let order = entry_cmp (record { cmp = g.K.Key.Ord.cmp; overlaps = g.K.Key.Shape.overlap; within = g.K.Key.Shape.inside }) in
    let total : IsTotalOrder order = then_total (on_total (λ (e : Entry g.row.K-Key.Denot). e.row) nat_cmp_total) (on_total (λ (e : Entry g.row.K-Key.Denot). e.key) g.met.K.Key.Ord.total) in
    let old = g.P.Pages.store c.args.pages.now in
    let all = entries_on (tree_of old) (leaves (tree_of old)) in
    let begun = pass_begins order total c.args.gather.now all 0 (tested_none order total c.args.gather.now all c.requires.fresh) in
    let same = reads_same c.args.pages.now c.take_leaves.new.pages c.in_ok-take_leaves.ensures.reads steady in
    let gathered = c.in_ok-take_leaves.ensures.gathers steady linked all begun in
    let shape : Members g.row.K-Key.Denot = record { partial_cmp = g.K.Key.PartialOrd.partial_cmp; eq = g.K.Key.PartialEq.eq; cmp = g.K.Key.Ord.cmp; overlap = g.K.Key.Shape.overlap; inside = g.K.Key.Shape.inside } in
    pairs_before (rules_of shape c.args.most) old (g.P.Pages.store c.take_leaves.new.pages) c.take_leaves.new.gather order same
    (λ (r : Rules g.row.K-Key.Denot) t. IfErr c.finish_passes.result (IsFound (Breaks r t)))
    (c.finish_passes.ensures.found (c.in_ok-take_leaves.ensures.reads.still steady)) linked rooms gathered

pub returns-clause-moves : goal.returns-clause-moves
returns-clause-moves g c = λ steady linked. on_ok c.finish_passes.result (c.in_ok-take_leaves.ensures.moves steady linked)
