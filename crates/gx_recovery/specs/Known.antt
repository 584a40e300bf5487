-- What is known of entries and pages, and nothing else: the laws hold whatever they are.
use Rattle.std.specs.Prelude.{◌≡◌, ℕ, Bool, List}
use Rattle.std.specs.Cmp.{IsTotalOrder}
use Rattle.std.specs.declared.cmp.Ordering.{Ordering}
use Rattle.std.specs.declared.cmp.Ordering.TheVariants.{Equal}
use Rattle.std.specs.Ordering.{is_eq}

-- pages by their numbers, the counter of splits, and the greatest page number in use
pub record Tree (P : Type 0) : Type 0 where
  pub page : ℕ → P
  pub counter : ℕ
  pub used : ℕ

-- What is known of an index only as it runs: how many entries a node may have, how many pages the device has, and what is read
-- of the device's first two sectors.
pub record Limits : Type 0 where
  pub most : ℕ
  pub pages : ℕ
  pub head : List ℕ

-- The order of entries; which are live in the pages; whether the tree of the pages is sound; whether an entry is on a
-- leaf or to the right of it; whether an entry's key is one of the class; a page content's own number; how many entries
-- a node may have; how many pages the device has; what is read of its first two sectors.
pub record Known (E P : Type 0) : Type 1 where
  pub cmp : E → E → Ordering
  pub live : Tree P → E → Bool
  pub sound : Tree P → Type 0
  pub placed : Tree P → E → ℕ → Type 0
  pub is_entry : E → Bool
  pub own : P → ℕ
  pub most : ℕ
  pub pages : ℕ
  pub head : List ℕ

-- the order is total, and only an entry and itself compare as equal
pub record IsLawful {E P : Type 0} (k : Known E P) : Type 0 where
  pub total : IsTotalOrder k.cmp
  pub exact : (a b : E) → k.cmp a b ≡ Equal → a ≡ b

-- two are the same entry
abbrev pub same : {E P : Type 0} → Known E P → E → E → Bool
same k a b = is_eq (k.cmp a b)
