-- The first test that fails says which fault it is.
use Rattle.std.proofs.Common.{sym, ◌∙◌}
use Rattle.gx_page.proofs.check.Firsts.{first_size, first_reserved}
use Rattle.gx_page.proofs.check.first_fault.Goals as goal

pub returns-then-bytes-ne-PAGE_SIZE : goal.returns-then-bytes-ne-PAGE_SIZE
returns-then-bytes-ne-PAGE_SIZE c = record { fault = first_size c.args.bytes.now c.if-bytes-ne-PAGE_SIZE.true; size = tt }

pub returns-then-not-is_reserved_zero : goal.returns-then-not-is_reserved_zero
returns-then-not-is_reserved_zero c =
    record { fault = first_reserved c.args.bytes.now c.if-bytes-ne-PAGE_SIZE.false (sym c.is_reserved_zero.ensures ∙ c.if-not-is_reserved_zero.true); size = tt }
