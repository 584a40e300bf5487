-- In which order an opening's calls are made, and what it writes if it is refused.
use Rattle.std.specs.Prelude.{◌≡◌, true, Result, MatchResult}
use Rattle.gx_class.specs.Traits.{Traits, own}
use Rattle.gx_geom.specs.declared.refusal.Refusal.{Refusal}
use Rattle.gx_disk.specs.Device.{Device}
use Rattle.gx_engine.specs.declared.start.NotOpened.{NotOpened}
use Rattle.gx_engine.specs.States.{Parts}
use Rattle.gx_machine.specs.Keys.{Members}
use Rattle.gx_node.specs.Reading.{format_of}
use Rattle.gx_opening.specs.Standing.{LaysSafely}
use Rattle.gx_opening.specs.Writing.{IsInOrder, IsUnfit, IsUnwritten, SyncsFirst}
use Rattle.gx_restart.specs.Beginning.{HasFailed}
use Rattle.gx_restart.specs.Keeping.{OpensSafely}

module _ {B D : Type 0} (shape : Members B) (traits : Traits B) (state : D → Device) where
  -- What was written if it was refused. A sync comes before any write; a device that isn't one of the class isn't
  -- written; and if no call failed and no memory was refused, as for a damaged device, only pages that the log gives
  -- are written, and no other sector.
  pub record RefusedInOrder (why : Refusal) (d e : Device) : Type 0 where
    pub first : IsInOrder state (OpensSafely shape traits.is_proper traits.said (format_of (own traits))) d e
    pub unfit : IsUnfit why → IsUnwritten d e
    pub laid : (HasFailed why → ⊥) → IsInOrder state (LaysSafely shape traits.is_proper traits.said (format_of (own traits))) d e

  -- a sync comes before the first write, and what is done from there on is safe
  abbrev pub OpensInOrder : D → Result (Parts B D) (NotOpened D) → Type 0
  OpensInOrder d result = (state d).honest ≡ true
      → MatchResult result (λ engine. SyncsFirst state (OpensSafely shape traits.is_proper traits.said (format_of (own traits))) (state d) (state engine.volume.shelf.disk)) (λ n. RefusedInOrder n.why (state d) (state n.disk))
