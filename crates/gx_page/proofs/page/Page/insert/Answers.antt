-- If the heap starts too low for the item and its slot, the longer list doesn't fit.
use Rattle.std.proofs.Common.{◌≡◌, ℕ, ◌+◌, ◌*◌, ◌<◌, ◌≤◌, length, ap, subst, sym, ◌∙◌, arith}
use Rattle.std.proofs.lemmas.Bool.{false≢true}
use Rattle.std.specs.List.{insert}
use Rattle.gx_page.specs.Contents.{Contents}
use Rattle.gx_page.specs.Format.{Fits, total}
use Rattle.gx_page.specs.Reading.{read_of}
use Rattle.gx_page.proofs.Steps.{no_room}
use Rattle.gx_page.proofs.page.Page.insert.Goals as goal

pub returns-then-start-end-clause-fits : goal.returns-then-start-end-clause-fits
returns-then-start-end-clause-fits c =
    let items = (read_of c.self.inside.block.bytes).items in let slot = c.args.slot in let x = c.args.bytes.now in
    let there : slot ≤ length items = subst (λ (page : Contents). slot ≤ length page.items) (sym c.self.view_is) c.requires.slot in
    let start : c.from-start.result + total items ≡ 4096 = ap (λ (n : ℕ). n + total items) c.from-start.ensures ∙ c.start_of.ensures in
    let low : c.from-start.result < 32 + 4 * c.from.result + 4 + length x = omega arith in (
      λ yes. absurd (false≢true yes),
      λ fits. absurd (no_room items slot x c.from.result c.from-start.result there (c.from.ensures ∙ c.count_of.ensures.count) start low
          (subst (λ (page : Contents). Fits (insert page.items slot x)) (sym c.self.view_is) fits)),
    )
