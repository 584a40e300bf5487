-- Why a call ahead of the pages changes nothing of them.
use Rattle.std.proofs.Common.{sym, ap, subst, inl, inr, ℕ, List, length, arith}
use Rattle.gx_disk.specs.declared.layout.TheConstants.{PAGE_SECTORS}
use Rattle.gx_disk.specs.Device.{Device}
use Rattle.gx_disk.specs.Sectors.{sector_of}
use Rattle.gx_disk.proofs.Spans.{touched_span}
use Rattle.gx_page.specs.Reading.{read_of}
use Rattle.gx_pool.specs.Area.{IsPage, IsPassing, first_of}
use Rattle.gx_pool.specs.Bringing.{HasImage}
use Rattle.gx_pool.specs.Laws.{shown_of}
use Rattle.gx_pool.specs.State.{kept}
use Rattle.gx_pool.specs.Elsewhere.{RestLeavesPages, ElsewhereReadsTheSame, ElsewhereKeepsBacked, ElsewhereShowsTheSame, ElsewhereKeepsSettled, ElsewhereKeepsReadable}

pub rest_leaves : (d e : Device) → RestLeavesPages d e
rest_leaves d e rests = record {
  first = 0;
  count = 0;
  ahead = omega arith;
  touches = record { size = ap length rests.seen; bytes = λ s out. ap (λ seen. sector_of seen s) rests.seen; settled = λ s out was. rests.settled s was };
}

pub elsewhere_reads : (d e : Device) → ElsewhereReadsTheSame d e
elsewhere_reads d e page leaves = let ahead = leaves.ahead in touched_span leaves.first leaves.count (first_of page) PAGE_SECTORS d e leaves.touches (inl (omega (arith, ahead)))

pub elsewhere_backed : (d e : Device) → ElsewhereKeepsBacked d e
elsewhere_backed d e s leaves backed = λ page k is clean. subst {A = List ℕ} (λ bytes. HasImage bytes k.page) (sym (elsewhere_reads d e page leaves)) (backed page k is clean)

pub elsewhere_shown : (d e : Device) → ElsewhereShowsTheSame d e
elsewhere_shown d e s page leaves = ap {A = List ℕ} (λ bytes. shown_of (kept s page) (read_of bytes)) (elsewhere_reads d e page leaves)

pub elsewhere_settled : (d e : Device) → ElsewhereKeepsSettled d e
elsewhere_settled d e named leaves same settled = λ page s there unnamed within.
    let ahead = leaves.ahead in
    leaves.touches.settled s (inr (omega (arith, ahead, within.from))) (settled page s (subst {A = ℕ} (λ n. IsPage n page) same there) unnamed within)

pub elsewhere_readable : (d e : Device) → ElsewhereKeepsReadable d e
elsewhere_readable d e passes used s leaves readable = λ page from is absent. subst {A = List ℕ} (λ bytes. IsPassing passes page bytes) (sym (elsewhere_reads d e page leaves)) (readable page from is absent)
