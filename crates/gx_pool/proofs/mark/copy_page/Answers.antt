use Rattle.std.proofs.Common.{◌≡◌, ◌∙◌, sym, ap, ℕ, ◌+◌, ◌-◌, ◌<◌, List, ◌++◌, length, get_or, set, arith, length-append}
use Rattle.std.proofs.lemmas.List.{get_or_append_left, get_or-append_right, get_or_default, set-append_left, set-append_right}
use Rattle.gx_page.specs.Contents.{Contents}
use Rattle.gx_page.specs.Edits.{blank}
use Rattle.gx_pool.specs.Edits.{numbered}
use Rattle.gx_pool.proofs.mark.copy_page.Goals as goal

-- a copy at the front of the second part
copied_behind : (pages front back : List Contents) (from to number : ℕ) (d w : Contents) → pages ≡ front ++ back → length front ≡ to → from < to → w ≡ numbered (get_or front from d) number
    → front ++ set back 0 w ≡ set pages to (numbered (get_or pages from (blank 0 0)) number)
copied_behind pages front back from to number d w parts size before is =
    let there : get_or front from d ≡ get_or (front ++ back) from (blank 0 0) = get_or_default front from d (blank 0 0) (omega (arith, size, before)) ∙ sym (get_or_append_left front back (blank 0 0) from (omega (arith, size, before))) in
    let none : to - to ≡ 0 = omega arith in
    let put : set (front ++ back) to w ≡ front ++ set back 0 w = set-append_right front back to to w size (omega arith) ∙ ap (λ k. front ++ set back k w) none in
    rw parts (sym put ∙ ap (λ p. set (front ++ back) to p) (is ∙ ap (λ p. numbered p number) there))

-- a copy in the first part
copied_before : (pages front back : List Contents) (from to number : ℕ) (d w : Contents) → pages ≡ front ++ back → length front ≡ from → from < length pages → to < from → w ≡ numbered (get_or back 0 d) number
    → set front to w ++ back ≡ set pages to (numbered (get_or pages from (blank 0 0)) number)
copied_before pages front back from to number d w parts size inside before is =
    let all : length pages ≡ length front + length back = ap length parts ∙ length-append front back in
    let none : from - from ≡ 0 = omega arith in
    let there : get_or back 0 d ≡ get_or (front ++ back) from (blank 0 0) =
    get_or_default back 0 d (blank 0 0) (omega (arith, all, size, inside)) ∙ sym (get_or-append_right front back from from (blank 0 0) size (omega arith) ∙ ap (λ k. get_or back k (blank 0 0)) none) in
    rw parts (sym (set-append_left front back to w (omega (arith, size, before))) ∙ ap (λ p. set (front ++ back) to p) (is ∙ ap (λ p. numbered p number) there))

pub returns-then-from-to : goal.returns-then-from-to
returns-then-from-to c =
    let parts = c.split_at_mut-front.ensures in
    copied_behind c.args.pages.now c.split_at_mut-front.result.0.now c.split_at_mut-front.result.1.now c.args.from c.args.to c.args.number c.index-front-from.result c.copy_as.new.page parts.value parts.front_len
    c.if-from-to.true c.copy_as.ensures

pub returns-else-from-to : goal.returns-else-from-to
returns-else-from-to c =
    let parts = c.split_at_mut-front-else-from-to.ensures in
    copied_before c.args.pages.now c.split_at_mut-front-else-from-to.result.0.now c.split_at_mut-front-else-from-to.result.1.now c.args.from c.args.to c.args.number c.index-back-0-else-from-to.result
    c.copy_as-else-from-to.new.page parts.value parts.front_len c.requires.inside.0 (omega (arith, c.if-from-to.false, c.requires.apart)) c.copy_as-else-from-to.ensures
