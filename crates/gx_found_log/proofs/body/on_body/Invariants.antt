use Rattle.std.proofs.Common.{◌≡◌, ◌+◌, ◌*◌, ◌≤◌, length}
use Rattle.gx_record.specs.declared.sizes.TheConstants.{END_RECORD}
use Rattle.gx_recovery.specs.Known.{Limits}
use Rattle.gx_found_log.specs.declared.given.TheConstants.{LEAST_SHARE}
use Rattle.gx_found_log.specs.Told.{ReadsOn}
use Rattle.gx_found_log.specs.Broken.{BrokenOn}
use Rattle.gx_found_log.proofs.body.on_body.Given as goal

-- what was closed, and what is given, has its bytes behind it; and the outcome of the rest is the outcome of all
abbrev pub invariant-loop-rest : goal.invariant-loop-rest
invariant-loop-rest g l = record {
  closed : END_RECORD * length l.gathered.analysis.closed + length l.rest ≤ END_RECORD * length l.fn.gathered.analysis.closed + length l.bytes;
  given : LEAST_SHARE * length l.gathered.given + length l.rest ≤ LEAST_SHARE * length l.fn.gathered.given + length l.bytes;
  on : (d : Limits) → (g.M.Meaning.known d).cmp ≡ g.M.Entry.Ord.cmp → ReadsOn l.fn.part l.now_at (g.M.Meaning.known d) g.M.Spelled.reading l.bytes l.rest l.fn.gathered l.gathered;
  place : l.at + length l.rest ≡ length l.bytes;
  broken : (d : Limits) → (g.M.Meaning.known d).cmp ≡ g.M.Entry.Ord.cmp
      → BrokenOn l.fn.part l.now_at (g.M.Meaning.known d) g.M.Spelled.reading l.bytes l.rest l.at l.fn.gathered l.gathered;
}

abbrev pub decreases-loop-rest : goal.decreases-loop-rest
decreases-loop-rest g l = length l.rest
