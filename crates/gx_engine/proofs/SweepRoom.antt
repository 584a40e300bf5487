-- The room for which a sweep asks.
use Rattle.std.proofs.Common.{◌≡◌, ◌∙◌, ap, refl, inl, inr, ℕ, ◌≤◌, Bool, true, false, List, length, arith}
use Rattle.gx_machine.specs.declared.entry.Entry.{Entry}
use Rattle.gx_machine.specs.Keys.{Keys}
use Rattle.gx_disk.specs.Device.{Device}
use Rattle.gx_page.specs.Contents.{Contents}
use Rattle.gx_node.specs.Reading.{Format}
use Rattle.gx_node.specs.Store.{Store, tree_of}
use Rattle.gx_record.specs.declared.sizes.TheConstants.{MOST_SLOTS, SPLIT_RECORD}
use Rattle.gx_store.specs.declared.fault.StoreFault.{StoreFault}
use Rattle.gx_store.specs.declared.fault.StoreFault.TheVariants as store
use Rattle.gx_store.specs.Faults as faults
use Rattle.gx_store.specs.Standing.{store_of}
use Rattle.gx_store.specs.State.{IsSteady, Shelf}
use Rattle.gx_storage.specs.Changes.{begun}
use Rattle.gx_storage.specs.Imaged.{is_imaged}
use Rattle.gx_storage.specs.Small.{sweep_room}
use Rattle.gx_storage.specs.State.{Volume}
use Rattle.gx_storage.specs.Sweeping.{swept_slots}
use Rattle.gx_engine.specs.Slots.{AreTaken, is_held, slots_room}
use Rattle.gx_engine.specs.States.{Parts}
use Rattle.gx_engine.specs.Writes.{AsksHere}

-- A refusal that isn't for lack of room doesn't say how much was asked for: that is then what a sweep takes.
pub lacks_taken : {B D : Type 0} (passes : ℕ → Contents → Bool) (d e : Device) (f : Format B) (claimed : Entry B → Bool) (v : Volume D) (page : ℕ) (t : Shelf D) (n : StoreFault) (slots : List ℕ)
    → (n ≡ store.NoRoom → AreTaken claimed f d v page slots) → faults.IsWhy passes d e (begun v (slots_room v page slots)) t n
    → (these : List ℕ) × AreTaken claimed f d v page these × faults.IsWhy passes d e (begun v (slots_room v page these)) t n
lacks_taken passes d e f claimed v page t store.NoRoom slots taken why = (slots, taken refl, why)
lacks_taken passes d e f claimed v page t (store.TooFewFrames wanted) slots taken why = (swept_slots claimed ((tree_of (store_of f d.seen v.shelf)).node page), (λ steady. refl), why)
lacks_taken passes d e f claimed v page t store.Device slots taken why = (swept_slots claimed ((tree_of (store_of f d.seen v.shelf)).node page), (λ steady. refl), why)
lacks_taken passes d e f claimed v page t store.Damaged slots taken why = (swept_slots claimed ((tree_of (store_of f d.seen v.shelf)).node page), (λ steady. refl), why)

-- no sweep's record is longer than a split's
short : (small : Bool) (count : ℕ) → count ≤ MOST_SLOTS → sweep_room small count ≤ SPLIT_RECORD
short true count few = omega (arith, few)
short false count few = omega arith

-- A sweep that was refused asked for the room of what it removes; or its refusal isn't for lack of room, and so counts
-- as one of a split too.
pub sweep_asks : {B D : Type 0} (passes : ℕ → Contents → Bool) (d e : Device) (f : Format B) (k : Keys B) (old : Parts B D) (page : ℕ) (t : Shelf D) (n : StoreFault) (slots : List ℕ)
    → (n ≡ store.NoRoom → AreTaken (is_held k old) f d old.volume page slots) → length slots ≤ MOST_SLOTS → faults.IsWhy passes d e (begun old.volume (slots_room old.volume page slots)) t n
    → (size : ℕ) × AsksHere k f d old page size × (size ≤ SPLIT_RECORD) × faults.IsWhy passes d e (begun old.volume size) t n
sweep_asks passes d e f k old page t store.NoRoom slots taken few why =
    (slots_room old.volume page slots, inl (record { slots = slots; taken = taken refl; is = refl }), short (is_imaged old.volume.imaged page) (length slots) few, why)
sweep_asks passes d e f k old page t (store.TooFewFrames wanted) slots taken few why = (SPLIT_RECORD, inr refl, omega arith, why)
sweep_asks passes d e f k old page t store.Device slots taken few why = (SPLIT_RECORD, inr refl, omega arith, why)
sweep_asks passes d e f k old page t store.Damaged slots taken few why = (SPLIT_RECORD, inr refl, omega arith, why)

-- After pages were read a node asks for what it asked for before.
pub asks_again : {B D : Type 0} (k : Keys B) (f : Format B) (d m : Device) (old mid : Parts B D) → mid ≡ record old { volume = mid.volume } → mid.volume.imaged ≡ old.volume.imaged
    → (IsSteady d old.volume.shelf.frames → IsSteady m mid.volume.shelf.frames)
    → (IsSteady d old.volume.shelf.frames → store_of f m.seen mid.volume.shelf ≡ store_of f d.seen old.volume.shelf) → (page size : ℕ) → AsksHere k f m mid page size → AsksHere k f d old page size
asks_again {B} {D} k f d m old mid only imaged steady same page size (inl room) = inl (record {
  slots = room.slots;
  taken = λ was.
      room.taken (steady was)
      ∙ ap (λ (x : Parts B D). swept_slots (is_held k x) ((tree_of (store_of f m.seen mid.volume.shelf)).node page)) only
      ∙ ap (λ (s : Store B). swept_slots (is_held k old) ((tree_of s).node page)) (same was);
  is = room.is ∙ ap (λ (bits : List Bool). sweep_room (is_imaged bits page) (length room.slots)) imaged;
})
asks_again k f d m old mid only imaged steady same page size (inr is) = inr is
