-- The child that a key goes to.
use Rattle.std.specs.Prelude.{ℕ, ◌<◌, List, length, map, slice_index_or}
use Rattle.std.specs.List.{IsFirstBest}
use Rattle.gx_geom.specs.Rectangles.{Rectangle}
use Rattle.gx_class.specs.Boxes.{cost}
use Rattle.gx_node.specs.Hits.{costs_less}
use Rattle.gx_node.specs.Trees.{Child}
use Rattle.gx_bench.specs.Sent.{key_of}
use Rattle.gx_bench.specs.declared.sent.SentBox.{SentBox}

-- the slot of the bound that grows least by the key, and of those the smallest, the first of several
abbrev pub IsChosen : List (Child Rectangle) → Rectangle → ℕ → Type 0
IsChosen children key slot = IsFirstBest costs_less (map (λ child. cost child.key key) children) (length children) slot

-- each of the first so many boxes has its slot
pub record AreChosen (children : List (Child Rectangle)) (keys : List SentBox) (slots : List ℕ) (count : ℕ) : Type 0 where
  pub each : (k : ℕ) (d : SentBox) → k < count → IsChosen children (key_of (slice_index_or keys k d)) (slice_index_or slots k 0)
