-- Lists compared from the front.

-- each follows of the other
pub record Alike (P Q : Type 0) : Type 0 where
  pub there : P → Q
  pub back : Q → P
