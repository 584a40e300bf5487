-- What a store can change.
use Rattle.std.specs.Prelude.{ℕ, ◌-◌, min, cond, nat_lt, Result, Ok, Err}
use Rattle.gx_pool.specs.State.{clean_count}
use Rattle.gx_store.specs.declared.fault.StoreFault.{StoreFault}
use Rattle.gx_store.specs.declared.fault.StoreFault.TheVariants.{NoRoom, TooFewFrames}
use Rattle.gx_store.specs.State.{Shelf}

-- how many pages can be taken: as many as there are clean frames and free pages, where the event's record has room
abbrev pub ready_pages : {D : Type 0} → Shelf D → ℕ
ready_pages s = cond s.has_room (min (clean_count s.frames) (s.pages - s.used)) 0

-- what an event learns that takes so many pages: that its record has no room, or how many frames it wants, where fewer
-- are clean
abbrev pub prepared : {D : Type 0} → Shelf D → ℕ → Result (Unit {0}) StoreFault
prepared s taken = cond s.has_room (cond (nat_lt (clean_count s.frames) taken) (Err (TooFewFrames taken)) (Ok tt)) (Err NoRoom)
