-- Sectors that calls on a synced device don't write.
use Rattle.std.proofs.Common.{◌≡◌, ◌∙◌, ℕ, List, length, refl, ap}
use Rattle.gx_disk.specs.Device.{Device, Elapses, IsSettled, MayLeave, Rests}
use Rattle.gx_disk.specs.Looks.{Looks}
use Rattle.gx_disk.specs.Sectors.{sector_of}
use Rattle.gx_disk.proofs.Leaving.{call_leaves, leaves_joined, leaves_weaker, rested_image}
use Rattle.gx_found_log.specs.Laid.{HasAsRead, Spares}

module _ (Spared : ℕ → Type 0) where
  -- what a device that reads the same may leave if all is settled
  image_spared : (a b : Device) → b.seen ≡ a.seen → IsSettled b → (image : List ℕ) → MayLeave b image → HasAsRead Spared a.seen image
  image_spared a b same settled image may = record {
    size = may.size ∙ ap length same;
    same = λ s spared. may.settled s (settled s) ∙ ap (λ (seen : List ℕ). sector_of seen s) same;
  }

  -- reads write nothing
  pub look_spares : (a b : Device) → Looks a b → IsSettled a → Spares Spared a b
  look_spares a b looks settled = record {
    now = record { size = ap length looks.rests.seen; same = λ s spared. ap (λ (seen : List ℕ). sector_of seen s) looks.rests.seen };
    settled = λ s spared. looks.rests.settled s (settled s);
    leaves = leaves_weaker (MayLeave a) (HasAsRead Spared a.seen) a b (image_spared a a refl settled) looks.leaves;
  }

  as_read_since : (a b image : List ℕ) → b ≡ a → HasAsRead Spared b image → HasAsRead Spared a image
  as_read_since a b image same has = record { size = has.size ∙ ap length same; same = λ s spared. has.same s spared ∙ ap (λ (seen : List ℕ). sector_of seen s) same }

  -- reads, and then calls that spare them
  pub look_spared : (a b c : Device) → Looks a b → IsSettled a → Spares Spared b c → Spares Spared a c
  look_spared a b c looks settled spares = record {
    now = as_read_since a.seen b.seen c.seen looks.rests.seen spares.now;
    settled = spares.settled;
    leaves = leaves_joined (HasAsRead Spared a.seen) a b c (look_spares a b looks settled).leaves
        (leaves_weaker (HasAsRead Spared b.seen) (HasAsRead Spared a.seen) b c (λ image has. as_read_since a.seen b.seen image looks.rests.seen has) spares.leaves);
  }

  -- calls that spare them, and then one that only reads
  left_spared : (a b c : Device) → Spares Spared a b → Rests b c → (image : List ℕ) → MayLeave c image → HasAsRead Spared a.seen image
  left_spared a b c spares rests image may =
      let was = rested_image b c rests image may in
      record { size = was.size ∙ spares.now.size; same = λ s spared. was.settled s (spares.settled s spared) ∙ spares.now.same s spared }

  pub spared_read : (a b c : Device) → Spares Spared a b → Rests b c → Elapses b c → Spares Spared a c
  spared_read a b c spares rests time = record {
    now = record {
      size = ap length rests.seen ∙ spares.now.size;
      same = λ s spared. ap (λ (seen : List ℕ). sector_of seen s) rests.seen ∙ spares.now.same s spared;
    };
    settled = λ s spared. rests.settled s (spares.settled s spared);
    leaves = leaves_joined (HasAsRead Spared a.seen) a b c spares.leaves (call_leaves (HasAsRead Spared a.seen) b c time (left_spared a b c spares rests));
  }

-- fewer sectors are spared too
pub spares_fewer : (Spared Fewer : ℕ → Type 0) (a b : Device) → ((s : ℕ) → Fewer s → Spared s) → Spares Spared a b → Spares Fewer a b
spares_fewer Spared Fewer a b less spares = record {
  now = record { size = spares.now.size; same = λ s fewer. spares.now.same s (less s fewer) };
  settled = λ s fewer. spares.settled s (less s fewer);
  leaves = leaves_weaker (HasAsRead Spared a.seen) (HasAsRead Fewer a.seen) a b
      (λ image has. record { size = has.size; same = λ s fewer. has.same s (less s fewer) }) spares.leaves;
}
