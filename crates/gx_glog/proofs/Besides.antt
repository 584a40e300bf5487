-- What lies beside the log's sectors, and that a record has a byte.
use Rattle.std.proofs.Common.{inl, inr, ℕ, ◌≤◌, length, arith}
use Rattle.gx_record.specs.Format.{spelling}
use Rattle.gx_record.specs.Rec.{Rec, Pages, Write, Commit, End, Counters, Note, Bit, Add, Widen, Sweep}
use Rattle.gx_disk.specs.declared.layout.TheConstants.{PAGES_AT}
use Rattle.gx_disk.specs.Sectors.{IsOutside}
use Rattle.gx_glog.specs.Standing.{IsOfLog}

-- a page comes after the log's sectors
pub page_is_apart : (first n s : ℕ) → PAGES_AT ≤ first → IsOfLog s → IsOutside first n s
page_is_apart first n s from (inl selector) = inl (omega arith)
page_is_apart first n s from (inr log) = inl (omega (arith, log.1))

-- a record's spelling has a byte
pub spelled_some : (r : Rec) → 1 ≤ length (spelling r)
spelled_some (Pages counter used pages) = omega arith
spelled_some (Write tx row key before after leaf image) = omega arith
spelled_some (Commit tx n) = omega arith
spelled_some (End tx) = omega arith
spelled_some (Counters n counter used next) = omega arith
spelled_some (Note tx row key before leaf) = omega arith
spelled_some (Bit tx row key before after leaf) = omega arith
spelled_some (Add tx row key leaf) = omega arith
spelled_some (Widen page slot key) = omega arith
spelled_some (Sweep page slots) = omega arith
