-- A page that can be written as a node.
use Rattle.std.specs.Prelude.{ℕ, ◌≡◌, true}
use Rattle.gx_page.specs.Contents.{Contents}
use Rattle.gx_node.specs.Reading.{Format, is_node}

-- it is a node, whatever the greatest page is that its entries may name
pub record IsNode {B : Type 0} (f : Format B) (page : Contents) : Type 0 where
  pub greatest : ℕ
  pub passes : is_node f greatest page ≡ true
