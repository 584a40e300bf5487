-- A sector as a span.
use Rattle.std.proofs.Common.{◌≡◌, ℕ, ◌*◌, List, take, drop, ap}
use Rattle.gx_disk.specs.Sectors.{sector_of, span_of}

pub sector_read : (bytes : List ℕ) (s n : ℕ) → n ≡ 512 → span_of bytes s n ≡ sector_of bytes s
unfolding span_of sector_of
sector_read bytes s n is = ap (λ m. take m (drop (512 * s) bytes)) is
