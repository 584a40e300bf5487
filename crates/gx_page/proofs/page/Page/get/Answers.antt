-- The bytes between an item's place and its end are lent.
use Rattle.std.proofs.Common.{◌≡◌, ℕ, ◌+◌, ◌<◌, ◌≤◌, List, [], length, take, get_or, ap, subst, sym, ◌∙◌}
use Rattle.std.specs.Prelude.{slice_range}
use Rattle.gx_page.specs.Contents.{Contents}
use Rattle.gx_page.specs.Format.{total}
use Rattle.gx_page.specs.Reading.{read_of}
use Rattle.gx_page.proofs.Steps.{item_read, item_some}
use Rattle.gx_page.proofs.page.Page.get.Goals as goal

pub returns : goal.returns
returns c =
    let bytes = c.self.inside.block.bytes in let slot = c.args.slot in let from = c.from-from.result in
    let items = (read_of bytes).items in let item = get_or items slot [] in
    let there : slot < length items = subst (λ (page : Contents). slot < length page.items) (sym c.self.view_is) c.requires in
    let place : from + (total (take slot items) + length item) ≡ 4096 = ap (λ (n : ℕ). n + (total (take slot items) + length item)) c.from-from.ensures ∙ c.place_of.ensures in
    let size : c.from-size.result ≡ length item = c.from-size.ensures ∙ c.size_of.ensures.size in
    let lent : c.slice.result.now ≡ item = c.slice.ensures.0 ∙ ap (λ (n : ℕ). slice_range bytes from (from + n)) size ∙ item_read bytes from slot c.self.invariant there place in
    record {
      item = lent ∙ ap (λ (page : Contents). get_or page.items slot []) c.self.view_is;
      some = subst (λ (xs : List ℕ). (1 ≤ length xs) × (length xs ≤ 4060)) (sym lent) (item_some bytes slot c.self.invariant there);
    }
