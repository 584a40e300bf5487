use Rattle.std.proofs.Common.{◌≡◌, ◌++◌, take, drop}
use Rattle.gx_page.specs.Edits.{with_items}
use Rattle.gx_node.specs.Lists.{staying}
use Rattle.gx_node.proofs.items.keep_staying.Given as goal

abbrev pub invariant-loop-slot : goal.invariant-loop-slot
invariant-loop-slot l = record {
  rest : l.page.items ≡ take l.slot l.fn.page.items ++ staying (drop l.slot l.sides) (drop l.slot l.fn.page.items);
  header : l.page ≡ with_items l.fn.page l.page.items;
}
