-- Calls in a row.
use Rattle.std.proofs.Common.{◌≡◌, ℕ, true, List}
use Rattle.gx_disk.specs.Device.{Device, MayLeave}
use Rattle.gx_disk.proofs.Leaving.{leaves_joined, leaves_weaker, each_has}
use Rattle.gx_recovery.specs.Known.{Known}
use Rattle.gx_durable.specs.Spelled.{Reading}
use Rattle.gx_durable.specs.Standing.{Stands}
use Rattle.gx_durable.specs.Joining.{CallsJoin, EachMomentStands}
use Rattle.gx_durable.proofs.Crashes.{crash_leaves, stands_before}
use Rattle.gx_durable.proofs.Moving.{goes_joined}

module _ {E P : Type 0} (k : Known E P) (r : Reading E P) where
  pub calls_join : (d e f : Device) → CallsJoin k r d e f
  calls_join d e f s t u first next = record {
    goes = goes_joined k s t u first.goes next.goes;
    leaves = leaves_joined (Stands k r s) d e f first.leaves
        (leaves_weaker (Stands k r t) (Stands k r s) e f (λ image stands. stands_before k r s t image first.goes stands) next.leaves);
  }

  -- where since this moment there is no other
  pub each_moment : (d e : Device) → ((image : List ℕ) → d.honest ≡ true → d.left_since d.moment image → MayLeave d image) → EachMomentStands k r d e
  each_moment d e only log bodies s t image l honest up safely left =
      each_has (Stands k r s) d e safely.leaves
      (λ i was. crash_leaves k r l log d.sectors d.seen d.pending bodies s i up (only i honest was)) image left
