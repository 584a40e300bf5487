use Rattle.std.proofs.Common.{◌≡◌, ◌+◌, suc, Bool, true, false, ◌==◌, ◌&&◌, sym, ap, ◌∙◌, drop, get_or, arith}
use Rattle.std.proofs.lemmas.Bool.{and_left, ne_eqb, eq-eqb}
use Rattle.std.proofs.Math.ListN.{drop_of_length-le}
use Rattle.gx_page.specs.Contents.{Contents}
use Rattle.gx_node.specs.Store.{numbered}
use Rattle.gx_node.proofs.Listed.{numbered_next}
use Rattle.gx_memory_tree.proofs.memory.are_numbered.Goals as goal

pub returns-then-number-at : goal.returns-then-number-at
returns-then-number-at c =
    let pages = c.args.pages.now in
    let at = c.loop-at.at in
    let page = c.index-pages-at.result in
    let read : (get_or pages at page).number ≡ c.number.result = ap (λ (p : Contents). p.number) (sym c.index-pages-at.is) ∙ sym c.number.ensures in
    let one : suc at ≡ at + 1 = omega arith in
    let other : ((get_or pages at page).number == suc at) ≡ false = ne_eqb (get_or pages at page).number (suc at) (λ e. c.if-number-at.true (sym read ∙ e ∙ one)) in
    sym (c.loop-at.invariant ∙ numbered_next (suc at) pages at page c.loop-at-test.true
    ∙ and_left ((get_or pages at page).number == suc at) (numbered (suc (suc at)) (drop (at + 1) pages)) other)

pub loop-at-preserved : goal.loop-at-preserved
loop-at-preserved c =
    let pages = c.args.pages.now in
    let at = c.loop-at.at in
    let page = c.index-pages-at.result in
    let read : (get_or pages at page).number ≡ c.number.result = ap (λ (p : Contents). p.number) (sym c.index-pages-at.is) ∙ sym c.number.ensures in
    let one : at + 1 ≡ suc at = omega arith in
    let same : ((get_or pages at page).number == suc at) ≡ true = eq-eqb (get_or pages at page).number (suc at) (read ∙ c.if-number-at.false ∙ one) in
    c.loop-at.invariant ∙ numbered_next (suc at) pages at page c.loop-at-test.true
    ∙ ap (λ (b : Bool). b && numbered (suc (suc at)) (drop (at + 1) pages)) same
    ∙ ap (λ n. numbered (suc n) (drop (at + 1) pages)) (sym one)

pub returns : goal.returns
unfolding numbered
returns c =
    let pages = c.args.pages.now in
    let at = c.loop-at.at in
    let end = c.loop-at-test.false in
    sym (c.loop-at.invariant ∙ ap (numbered (suc at)) (drop_of_length-le pages (omega (arith, end))))
