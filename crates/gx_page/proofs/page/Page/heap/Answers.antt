-- The block from the heap's start on is lent.
use Rattle.std.proofs.Common.{◌≡◌, ℕ, ◌+◌, length, ap, ◌∙◌}
use Rattle.gx_page.specs.Contents.{Contents}
use Rattle.gx_page.specs.Format.{heap, total}
use Rattle.gx_page.specs.Reading.{read_of}
use Rattle.gx_page.proofs.Scans.{heap_read}
use Rattle.gx_page.proofs.page.Page.heap.Goals as goal

pub returns : goal.returns
returns c =
    let bytes = c.self.inside.block.bytes in let start = c.from-start.result in
    let place : start + total (read_of bytes).items ≡ 4096 = ap (λ (n : ℕ). n + total (read_of bytes).items) c.from-start.ensures ∙ c.start_of.ensures in
    let read = heap_read bytes start c.self.invariant place in
    record {
      heap = c.slice.ensures.0 ∙ read.0 ∙ ap (λ (page : Contents). heap page.items) c.self.view_is;
      size = ap length c.slice.ensures.0 ∙ read.1 ∙ ap (λ (page : Contents). total page.items) c.self.view_is;
    }
