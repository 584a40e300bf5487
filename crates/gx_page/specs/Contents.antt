-- What a page holds.
use Rattle.std.specs.Prelude.{ℕ, List}

pub record Contents : Type 0 where
  -- 0 for a leaf
  pub level : ℕ
  -- the sequence number of the page's last split
  pub nsn : ℕ
  -- the number of the page to the right, 0 for none
  pub right : ℕ
  -- the page's own number
  pub number : ℕ
  -- the byte strings, by slot
  pub items : List (List ℕ)
