-- What is read, and what a settling leaves, writes nothing.
use Rattle.std.proofs.Common.{◌≡◌, true, ◌∙◌}
use Rattle.gx_disk.specs.Device.{Device, MayLeave}
use Rattle.gx_disk.specs.Looks.{Looks}
use Rattle.gx_disk.proofs.Leaving.{call_leaves, leaves_joined, leaves_weaker, rested_image}
use Rattle.gx_opening.specs.Formatted.{OnlyRests}
use Rattle.gx_pool.specs.Bringing.{OnlyRead}

module _ (a b : Device) where
  -- pages that are brought
  pub read_rests : a.honest ≡ true → OnlyRead a b → OnlyRests a b
  read_rests honest read =
      let rests = read.rests honest in
      record { rests = rests; leaves = call_leaves (MayLeave a) a b (read.time honest) (rested_image a b rests) }

  -- a log that is read
  pub looks_rest : Looks a b → OnlyRests a b
  looks_rest looks = record { rests = looks.rests; leaves = looks.leaves }

  -- and one after the other
  pub rests_joined : (c : Device) → OnlyRests a b → OnlyRests b c → OnlyRests a c
  rests_joined c first next = record {
    rests = record { seen = next.rests.seen ∙ first.rests.seen; settled = λ s was. next.rests.settled s (first.rests.settled s was) };
    leaves = leaves_joined (MayLeave a) a b c first.leaves (leaves_weaker (MayLeave b) (MayLeave a) b c (rested_image a b first.rests) next.leaves);
  }
