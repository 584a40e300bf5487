-- Calls of a device that change no page of it.
use Rattle.std.specs.Prelude.{◌≡◌, ℕ, ◌+◌, ◌≤◌, Bool}
use Rattle.gx_disk.specs.declared.layout.TheConstants.{PAGES_AT}
use Rattle.gx_disk.specs.Device.{Device, Rests, Touches}
use Rattle.gx_page.specs.Contents.{Contents}
use Rattle.gx_pool.specs.Area.{bytes_of}
use Rattle.gx_pool.specs.Gated.{IsAreaSettled}
use Rattle.gx_pool.specs.Laws.{IsBacked, shown}
use Rattle.gx_pool.specs.Readable.{IsReadable}
use Rattle.gx_pool.specs.State.{State}

-- Only sectors ahead of page 1 may read otherwise, or be pending if they were settled.
pub record LeavesPages (d e : Device) : Type 0 where
  pub first : ℕ
  pub count : ℕ
  pub ahead : first + count ≤ PAGES_AT
  pub touches : Touches first count d e

-- a call after which nothing reads otherwise is one, as a read and a sync are
abbrev pub RestLeavesPages : Device → Device → Type 0
RestLeavesPages d e = Rests d e → LeavesPages d e

abbrev pub ElsewhereReadsTheSame : Device → Device → Type 0
ElsewhereReadsTheSame d e = (page : ℕ) → LeavesPages d e → bytes_of e.seen page ≡ bytes_of d.seen page

abbrev pub ElsewhereKeepsBacked : Device → Device → Type 0
ElsewhereKeepsBacked d e = (s : State) → LeavesPages d e → IsBacked s d.seen → IsBacked s e.seen

abbrev pub ElsewhereShowsTheSame : Device → Device → Type 0
ElsewhereShowsTheSame d e = (s : State) (page : ℕ) → LeavesPages d e → shown s e.seen page ≡ shown s d.seen page

abbrev pub ElsewhereKeepsSettled : Device → Device → Type 0
ElsewhereKeepsSettled d e = (named : ℕ → Bool) → LeavesPages d e → e.sectors ≡ d.sectors → IsAreaSettled named d → IsAreaSettled named e

abbrev pub ElsewhereKeepsReadable : Device → Device → Type 0
ElsewhereKeepsReadable d e = (passes : Contents → Bool) (used : ℕ → Bool) (s : State) → LeavesPages d e → IsReadable passes used s d.seen → IsReadable passes used s e.seen
