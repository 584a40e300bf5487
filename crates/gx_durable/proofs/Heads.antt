-- What a device says of itself, behind calls that touch neither of its first two sectors.
use Rattle.std.proofs.Common.{◌≡◌, ◌∙◌, ap, inl, ℕ, ◌≤◌, ◌++◌, Bool, List, take, arith}
use Rattle.gx_disk.specs.Device.{Device, IsImage, Rests, Touches}
use Rattle.gx_disk.specs.Sectors.{sector_of}
use Rattle.gx_durable.specs.Head.{HasHead, head_in}

-- bytes whose first two sectors are the same say the same
pub same_head : (xs ys : List ℕ) → sector_of xs 0 ≡ sector_of ys 0 → sector_of xs 1 ≡ sector_of ys 1 → head_in xs ≡ head_in ys
same_head xs ys first second =
    ap (λ (bytes : List ℕ). take 8 bytes ++ take 8 (sector_of xs 1)) first ∙ ap (λ (bytes : List ℕ). take 8 (sector_of ys 0) ++ take 8 bytes) second

module _ (head : List ℕ) where
  pub touched_head : (first n : ℕ) (old new : Device) → 2 ≤ first → Touches first n old new → HasHead head old.seen old.pending → HasHead head new.seen new.pending
  touched_head first n old new behind touches has = record {
    reads = same_head new.seen old.seen (touches.bytes 0 (inl (omega (arith, behind)))) (touches.bytes 1 (inl (omega (arith, behind)))) ∙ has.reads;
    magic = touches.settled 0 (inl (omega (arith, behind))) has.magic;
    parameters = touches.settled 1 (inl (omega (arith, behind))) has.parameters;
  }

  pub rested_head : (old new : Device) → Rests old new → HasHead head old.seen old.pending → HasHead head new.seen new.pending
  rested_head old new rests has = record {
    reads = ap head_in rests.seen ∙ has.reads;
    magic = rests.settled 0 has.magic;
    parameters = rests.settled 1 has.parameters;
  }

  -- an image of it says so too
  pub image_head : (seen : List ℕ) (pending : ℕ → Bool) (image : List ℕ) → IsImage seen pending image → HasHead head seen pending → head_in image ≡ head
  image_head seen pending image may has = same_head image seen (may.settled 0 has.magic) (may.settled 1 has.parameters) ∙ has.reads
