use Rattle.std.proofs.Common.{◌≡◌, ◌<◌, ◌+◌, suc, ◌∙◌, length, arith, rules}
use Rattle.std.proofs.lemmas.Result.{err_from_is_err_and}
use Rattle.gx_legality.proofs.Children.{held_next, reads_same, reads_more}
use Rattle.gx_legality.proofs.Numbered.{found_at, fits_next, named_next, linked_next, unlinked_more}
use Rattle.gx_legality.proofs.nodes.test_nodes.Goals as goal

pub returns-in_err-test_page-clause-found : goal.returns-in_err-test_page-clause-found
returns-in_err-test_page-clause-found g c = λ steady.
    let p = err_from_is_err_and c.from_residual.result c.from_residual.ensures.1 in
    let kept = c.loop-before.invariant in
    let old = g.P.Pages.store c.args.pages.now in
    let low : c.loop-before.before < length old.nodes = omega arith in
    let long : length c.loop-before.marks ≡ suc (length old.nodes) = kept.marks ∙ c.requires.marks in
    rw (p.1, p.2) (found_at _ old (g.P.Pages.store c.loop-before.pages) c.loop-before.marks c.loop-before.before c.in_err-test_page.field-0.0
    (reads_same c.args.pages.now c.loop-before.pages kept.reads steady) low long
    (λ q within. kept.named steady q (omega (arith, within, kept.marks))) (c.in_err-test_page.ensures.found (kept.reads.still steady)))

pub loop-before-preserved : goal.loop-before-preserved
loop-before-preserved g c =
    let kept = c.loop-before.invariant in
    let next = c.in_ok-test_page.ensures in
    let old = g.P.Pages.store c.args.pages.now in
    let now = g.P.Pages.store c.loop-before.pages in
    let before = c.loop-before.before in
    let low : before + 1 < length c.loop-before.links = omega (arith, kept.links, c.requires.links) in
    let reads = reads_more c.args.pages.now c.loop-before.pages c.test_page.new.pages kept.reads next.reads in
    record {
      reads = reads;
      held = held_next c.args.pages.now c.test_page.new.pages before reads kept.held next.held;
      later = λ later fault why. kept.later later fault (next.later later fault why);
      told = next.told ∙ kept.told;
      marks = search rules;
      links = search rules;
      unlinked = λ steady. unlinked_more c.loop-before.links c.test_page.new.links before _ (next.linked (kept.reads.still steady)) (kept.unlinked steady);
      fits = λ steady. fits_next _ old now before (reads_same c.args.pages.now c.loop-before.pages kept.reads steady) (kept.fits steady) (next.fits (kept.reads.still steady));
      named = λ steady. named_next old now c.args.marks.now c.loop-before.marks c.test_page.new.marks before
          (reads_same c.args.pages.now c.loop-before.pages kept.reads steady) kept.marks (kept.named steady) (next.marked (kept.reads.still steady));
      linked = λ steady. linked_next old now c.loop-before.links c.test_page.new.links before
          (reads_same c.args.pages.now c.loop-before.pages kept.reads steady) low (next.linked (kept.reads.still steady)) (kept.linked steady);
    }
