-- A page that is lent.
use Rattle.std.specs.Prelude.{ℕ, ◌≡◌, Bool, true, false, Result, Err}
use Rattle.gx_geom.specs.declared.refusal.Refusal.TheVariants.{Failed}
use Rattle.gx_disk.specs.Device.{Device}
use Rattle.gx_page.specs.Contents.{Contents}
use Rattle.gx_node.specs.Reading.{Format}
use Rattle.gx_node.specs.Store.{node_of}
use Rattle.gx_events.specs.declared.outcome.Outcome.{Outcome}
use Rattle.gx_events.specs.declared.outcome.Outcome.TheVariants.{Refused}
use Rattle.gx_store.specs.Standing.{standing}
use Rattle.gx_engine.specs.States.{Parts}
use Rattle.gx_engine.specs.Sweeping.{BringComes, node_shown}

-- the contents are the page's present ones, under its own number, of a node that passes its test
pub record StandsAs {B D : Type 0} (f : Format B) (passes : ℕ → Contents → Bool) (d : Device) (page : ℕ) (e : Parts B D) (contents : Contents) : Type 0 where
  pub stands : contents ≡ standing e.volume.shelf.frames d.seen page
  pub node : node_of f contents ≡ node_shown f d page e
  pub number : contents.number ≡ page
  pub node_passes : passes e.volume.shelf.pages contents ≡ true

-- the outcome of a page that is brought to be lent, by whether a fault has ended the engine
abbrev pub BringPageComes : {A B D : Type 0} → (ℕ → Contents → Bool) → Device → Device → Parts B D → Parts B D → Bool → Result A (Outcome B) → Type 0
BringPageComes passes d e old new true result = (result ≡ Err (Refused Failed)) × (new ≡ old)
BringPageComes passes d e old new false result = BringComes passes d e old new result
