-- How a block lends its bytes to be changed.
use Rattle.std.specs.Prelude.{ℕ, List}
use Rattle.std.specs.Borrow.{Lends, MutBor, Fml}
use Rattle.gx_page.specs.Ownership.{the_bytes}
use Rattle.gx_page.specs.declared.block.Block.{Block}
use Rattle.gx_page.specs.contracts.block.Block.{the_row}

-- the block with other bytes at the same place
abbrev pub with_bytes : Block → List ℕ → Block
with_bytes b bytes = record b { bytes = bytes }

-- the block ends with the last bytes behind r
abbrev pub LendsBytes : MutBor Block → MutBor (List ℕ) → Fml
LendsBytes b r = Lends the_row the_bytes b r (with_bytes b.now)
