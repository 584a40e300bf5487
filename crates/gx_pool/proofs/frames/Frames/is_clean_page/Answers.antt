use Rattle.std.proofs.Common.{arith}
use Rattle.gx_pool.specs.State.{State}
use Rattle.gx_pool.proofs.Numbers.{beyond_table}
use Rattle.gx_pool.proofs.frames.Frames.is_clean_page.Goals as goal

pub returns-then-page-count : goal.returns-then-page-count
returns-then-page-count c =
    let s : State = record { pages = c.self.inside.pages.items; marks = c.self.inside.marks.items; places = c.self.inside.places.items; held = c.self.inside.held.items; gated = c.self.inside.gated } in
    rw (← c.self.view_is) (beyond_table s c.args.page (omega (arith, c.if-page-count.true)))
