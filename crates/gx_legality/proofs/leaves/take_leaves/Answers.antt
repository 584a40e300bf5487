use Rattle.std.proofs.Common.{◌≡◌, ◌≢◌, ◌∙◌, ◌-◌, ◌+◌, ◌++◌, suc, length, map, ap, arith, rules, subst, sym}
use Rattle.std.proofs.lemmas.Result.{err_from_is_err_and}
use Rattle.gx_machine.specs.Keys.{entry_cmp}
use Rattle.gx_node.specs.Edits.{entry_of}
use Rattle.gx_node.specs.Legal.{Linked}
use Rattle.gx_node.specs.Trees.{Used, walk}
use Rattle.gx_node.specs.Store.{Store, node_at, tree_of}
use Rattle.gx_legality.specs.Entries.{entries_on}
use Rattle.gx_legality.specs.Gathered.{Gathers}
use Rattle.gx_legality.specs.Placing.{come_to, is_noted, met, passed, stage_at}
use Rattle.gx_legality.proofs.Children.{reads_same, reads_more}
use Rattle.gx_legality.proofs.Sought.{passed_page, passed_end, passed_done, chain_on}
use Rattle.gx_legality.proofs.leaves.Taken.{chain_goes, chain_ends, chain_is_done}
use Rattle.gx_legality.proofs.leaves.take_leaves.Goals as goal

pub returns-then-page-eq0-clause-gathers : goal.returns-then-page-eq0-clause-gathers
returns-then-page-eq0-clause-gathers g c = λ steady linked all was.
    let order = entry_cmp (record { cmp = g.K.Key.Ord.cmp; overlaps = g.K.Key.Shape.overlap; within = g.K.Key.Shape.inside }) in
    let old = g.P.Pages.store c.args.pages.now in
    chain_ends order (tree_of old) c.loop-step.gather all (length old.nodes - c.loop-step._step) c.loop-step.page c.if-page-eq0.true
    (c.loop-step.invariant.gathers steady linked all was)

pub returns-then-page-eq0-clause-moves : goal.returns-then-page-eq0-clause-moves
returns-then-page-eq0-clause-moves g c = λ steady linked i n here.
    let order = entry_cmp (record { cmp = g.K.Key.Ord.cmp; overlaps = g.K.Key.Shape.overlap; within = g.K.Key.Shape.inside }) in
    let old = g.P.Pages.store c.args.pages.now in
    sym (c.loop-step.invariant.moves steady linked i n here
    ∙ passed_end (tree_of old) (is_noted order n) n.leaf (length old.nodes - c.loop-step._step) c.loop-step.page (stage_at c.loop-step.stages i) c.if-page-eq0.true)

pub returns-in_err-right-clause-gathers : goal.returns-in_err-right-clause-gathers
returns-in_err-right-clause-gathers g c = λ steady linked all was.
    let order = entry_cmp (record { cmp = g.K.Key.Ord.cmp; overlaps = g.K.Key.Shape.overlap; within = g.K.Key.Shape.inside }) in
    let p = err_from_is_err_and c.from_residual.result c.from_residual.ensures.1 in
    let kept = c.loop-step.invariant in
    let old = g.P.Pages.store c.args.pages.now in
    let page = c.loop-step.page in
    let left = length old.nodes - suc c.loop-step._step in
    let on : length old.nodes - c.loop-step._step ≡ suc left = omega arith in
    let some : page ≢ 0 = c.if-page-eq0.false in
    let same = reads_same c.args.pages.now c.loop-step.pages kept.reads steady in
    let here = chain_goes order (tree_of old) c.loop-step.gather all (length old.nodes - c.loop-step._step) left page on some (kept.linked steady linked) (kept.gathers steady linked all was) in
    let rest = entries_on (tree_of old) (walk (tree_of old) left (node_at old.nodes page).right) in
    rw (p.1, p.2) (c.in_err-right.ensures.gathers (kept.reads.still steady)
    (subst (λ (s : Store g.row.K-Key.Denot). Used (tree_of s) page) (sym same) here.0) all rest
    (subst (λ (s : Store g.row.K-Key.Denot). Gathers order c.loop-step.gather all (map entry_of (node_at s.nodes page).pairs ++ rest)) (sym same) here.2))

pub loop-step-preserved : goal.loop-step-preserved
loop-step-preserved g c =
    let order = entry_cmp (record { cmp = g.K.Key.Ord.cmp; overlaps = g.K.Key.Shape.overlap; within = g.K.Key.Shape.inside }) in
    let kept = c.loop-step.invariant in
    let next = c.in_ok-right.ensures in
    let old = g.P.Pages.store c.args.pages.now in
    let t = tree_of old in
    let page = c.loop-step.page in
    let long = length old.nodes - c.loop-step._step in
    let left = length old.nodes - (c.loop-step._step + 1) in
    let on : long ≡ suc left = omega arith in
    let some : page ≢ 0 = c.if-page-eq0.false in
    record {
      reads = reads_more c.args.pages.now c.loop-step.pages c.take_leaf.new.pages kept.reads next.reads;
      later = λ later fault why. kept.later later fault (next.later later fault why);
      told = next.told ∙ kept.told;
      above = next.above ∙ kept.above;
      long = search rules;
      linked = λ steady linked. (
          let same = reads_same c.args.pages.now c.loop-step.pages kept.reads steady in
          let right : c.in_ok-right.right ≡ (node_at old.nodes page).right = next.right (kept.reads.still steady) ∙ ap (λ (s : Store g.row.K-Key.Denot). (node_at s.nodes page).right) same in
          subst (λ p. Linked t p (walk t left p)) (sym right) (chain_on t long left page on some (kept.linked steady linked)).1
          );
      gathers = λ steady linked all was. (
          let same = reads_same c.args.pages.now c.loop-step.pages kept.reads steady in
          let right : c.in_ok-right.right ≡ (node_at old.nodes page).right = next.right (kept.reads.still steady) ∙ ap (λ (s : Store g.row.K-Key.Denot). (node_at s.nodes page).right) same in
          let here = chain_goes order t c.loop-step.gather all long left page on some (kept.linked steady linked) (kept.gathers steady linked all was) in
          let rest = entries_on t (walk t left (node_at old.nodes page).right) in
          subst (λ p. Gathers order c.take_leaf.new.gather all (entries_on t (walk t left p))) (sym right) (next.gathers (kept.reads.still steady)
          (subst (λ (s : Store g.row.K-Key.Denot). Used (tree_of s) page) (sym same) here.0) all rest
          (subst (λ (s : Store g.row.K-Key.Denot). Gathers order c.loop-step.gather all (map entry_of (node_at s.nodes page).pairs ++ rest)) (sym same) here.2))
          );
      moves = λ steady linked i n at. (
          let same = reads_same c.args.pages.now c.loop-step.pages kept.reads steady in
          let right : c.in_ok-right.right ≡ (node_at old.nodes page).right = next.right (kept.reads.still steady) ∙ ap (λ (s : Store g.row.K-Key.Denot). (node_at s.nodes page).right) same in
          kept.moves steady linked i n at
          ∙ passed_page t (is_noted order n) n.leaf long left page (stage_at c.loop-step.stages i) on some
          ∙ ap (passed t (is_noted order n) n.leaf (walk t left (node_at old.nodes page).right))
          (sym (next.moves (kept.reads.still steady) i n at
          ∙ ap (λ (s : Store g.row.K-Key.Denot). met (is_noted order n) (map entry_of (node_at s.nodes page).pairs) (come_to page n.leaf (stage_at c.loop-step.stages i))) same))
          ∙ ap (λ p. passed t (is_noted order n) n.leaf (walk t left p) (stage_at c.take_leaf.new.stages i)) (sym right)
          );
    }

pub returns-clause-gathers : goal.returns-clause-gathers
returns-clause-gathers g c = λ steady linked all was.
    let order = entry_cmp (record { cmp = g.K.Key.Ord.cmp; overlaps = g.K.Key.Shape.overlap; within = g.K.Key.Shape.inside }) in
    let old = g.P.Pages.store c.args.pages.now in
    let none : length old.nodes - c.loop-step._step ≡ 0 = omega arith in
    chain_is_done order (tree_of old) c.loop-step.gather all (length old.nodes - c.loop-step._step) c.loop-step.page none
    (c.loop-step.invariant.gathers steady linked all was)

pub returns-clause-moves : goal.returns-clause-moves
returns-clause-moves g c = λ steady linked i n here.
    let order = entry_cmp (record { cmp = g.K.Key.Ord.cmp; overlaps = g.K.Key.Shape.overlap; within = g.K.Key.Shape.inside }) in
    let old = g.P.Pages.store c.args.pages.now in
    let none : length old.nodes - c.loop-step._step ≡ 0 = omega arith in
    sym (c.loop-step.invariant.moves steady linked i n here
    ∙ passed_done (tree_of old) (is_noted order n) n.leaf (length old.nodes - c.loop-step._step) c.loop-step.page (stage_at c.loop-step.stages i) none)
