use Rattle.std.proofs.Common.{◌≡◌, ◌≤◌, ◌*◌, ◌+◌, drop}
use Rattle.gx_txn.specs.Tables.{claims_in}
use Rattle.gx_txn.proofs.table.claims_held.Given as goal

-- the claims so far and those of the rest are all claims; each session has its places at most
abbrev pub invariant-loop-slot : goal.invariant-loop-slot
invariant-loop-slot g l = record {
  all : l.held + claims_in (drop l.slot-index l.slots) ≡ claims_in l.slots;
  few : l.held ≤ 512 * l.slot-index;
}
