-- How many pairs of an engine's tree aren't marked.
use Rattle.std.specs.Prelude.{◌≡◌, ℕ}
use Rattle.gx_class.specs.Traits.{Traits, own}
use Rattle.gx_disk.specs.Device.{Device}
use Rattle.gx_machine.specs.Keys.{Members}
use Rattle.gx_node.specs.Reading.{format_of, is_node}
use Rattle.gx_node.specs.Trees.{Tree}
use Rattle.gx_recovery.specs.Known.{Limits}
use Rattle.gx_durable.specs.Classes.{class_of, reading_of}
use Rattle.gx_engine.specs.States.{Parts}
use Rattle.gx_restart.specs.Reading.{OfItsTree}
use Rattle.gx_restart.specs.Sizes.{live_on, live_up_to}

module _ {B D : Type 0} (shape : Members B) (traits : Traits B)
    (state : D → Device) where
  -- this holds of the tree of every index that the engine may hold
  abbrev pub OfEachTree : Parts B D → (Tree B → Type 0) → Type 0
  OfEachTree e P = (l : Limits) → OfItsTree (class_of shape traits.is_proper l) (reading_of traits.said (format_of (own traits)))
      (format_of (own traits)) (is_node (format_of (own traits))) state e P

  -- so many are on a page; on the pages from 1 to one; on all
  abbrev pub HasLiveOn : Parts B D → ℕ → ℕ → Type 0
  HasLiveOn e page n = OfEachTree e (λ t. n ≡ live_on (t.node page))

  abbrev pub HasLiveUpTo : Parts B D → ℕ → ℕ → Type 0
  HasLiveUpTo e last n = OfEachTree e (λ t. n ≡ live_up_to t.node last)

  abbrev pub HasLive : Parts B D → ℕ → Type 0
  HasLive e n = OfEachTree e (λ t. n ≡ live_up_to t.node t.used)
