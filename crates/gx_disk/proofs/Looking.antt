-- A read looks, and looks in a row are one.
use Rattle.std.proofs.Common.{◌∙◌, ℕ, List, Result}
use Rattle.gx_disk.specs.Device.{Device, MayLeave, Reads}
use Rattle.gx_disk.specs.Looks.{Looks}
use Rattle.gx_disk.proofs.Leaving.{leaves_joined, leaves_weaker, call_leaves, rested_image}

pub read_looks : {T E : Type 0} (first : ℕ) (bytes : List ℕ) (old new : Device) (r : Result T E) → Reads first bytes old new r → Looks old new
read_looks first bytes old new r reads = record {
  rests = reads.rests;
  pending = reads.pending;
  leaves = call_leaves (MayLeave old) old new reads.time (rested_image old new reads.rests);
}

pub looks_joined : (a b c : Device) → Looks a b → Looks b c → Looks a c
looks_joined a b c first next = record {
  rests = record { seen = next.rests.seen ∙ first.rests.seen; settled = λ s was. next.rests.settled s (first.rests.settled s was) };
  pending = λ s. next.pending s ∙ first.pending s;
  leaves = leaves_joined (MayLeave a) a b c first.leaves (leaves_weaker (MayLeave b) (MayLeave a) b c (rested_image a b first.rests) next.leaves);
}
