-- The header has the count.
use Rattle.std.proofs.Common.{◌≡◌, ℕ, ◌≤◌, length, ap, subst, sym, ◌∙◌}
use Rattle.gx_page.specs.Contents.{Contents}
use Rattle.gx_page.specs.Format.{IsWellFormed}
use Rattle.gx_page.specs.Reading.{read_of}
use Rattle.gx_page.proofs.Parts.{image_bound}
use Rattle.gx_page.proofs.page.Page.count.Goals as goal

pub returns : goal.returns
returns c =
    let bytes = c.self.inside.block.bytes in
    let count : c.from.result ≡ length (read_of bytes).items = c.from.ensures ∙ c.count_of.ensures.count in
    record {
      count = count ∙ ap (λ (page : Contents). length page.items) c.self.view_is;
      bound = subst (λ (n : ℕ). n ≤ 812) (sym count) (image_bound bytes c.self.invariant);
      well_formed = subst IsWellFormed c.self.view_is c.self.invariant.well_formed;
    }
