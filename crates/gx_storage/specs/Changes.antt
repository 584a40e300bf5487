-- A change of pages with its record, as a volume's calls leave it.
use Rattle.std.specs.Prelude.{◌≡◌, ℕ, ◌+◌, Bool, true, false, List, length, nat_le, nat_lt, ◌&&◌}
use Rattle.gx_machine.specs.declared.entry.Entry.{Entry}
use Rattle.gx_disk.specs.Device.{Device}
use Rattle.gx_page.specs.Contents.{Contents}
use Rattle.gx_record.specs.Rec.{Rec}
use Rattle.gx_node.specs.Reading.{Format}
use Rattle.gx_recovery.specs.Known.{Known, Limits}
use Rattle.gx_recovery.specs.Records.{speaks_of}
use Rattle.gx_index_laws.specs.Classes.{Page}
use Rattle.gx_glog.specs.State.{Log}
use Rattle.gx_glog.specs.declared.extent.TheConstants.{BODY_ROOM, PLACES}
use Rattle.gx_durable.specs.Spelled.{Reading, record_read}
use Rattle.gx_store.specs.Since.{GoesOn, IsAsItWas, IsSince}
use Rattle.gx_store.specs.State.{Shelf}
use Rattle.gx_tree.specs.declared.descent.Descended.{Descended}
use Rattle.gx_tree.specs.declared.seek.Sought.{Sought}
use Rattle.gx_tree.specs.declared.seek.Sought.TheVariants.{Here, Right}
use Rattle.gx_storage.specs.Changing.{IfWidened}
use Rattle.gx_storage.specs.Imaged.{imaged_with, is_imaged}
pub use Rattle.gx_storage.specs.Whole.{image_at, page_given, write_of}
use Rattle.gx_storage.specs.Keeps.{KeepsTheSame, KeepsWith, Logs}
use Rattle.gx_storage.specs.Small.{mark_room, mark_said, widen_room, widen_said}
use Rattle.gx_storage.specs.State.{Volume}

-- whether a log has room for a record of so many bytes, while no turn is under way: a place is left for its batch, and the record
-- fits the batch that fills
abbrev pub has_room : Log → ℕ → Bool
has_room log size = nat_lt log.used PLACES && nat_le (length log.filling + size) BODY_ROOM

-- pages as an event begins whose record has so many bytes; and those of a volume
abbrev pub begun_at : {D : Type 0} → Log → ℕ → Shelf D → Shelf D
begun_at log size s = record s { batch = log.used; has_room = has_room log size }

abbrev pub begun : {D : Type 0} → Volume D → ℕ → Shelf D
begun v size = record v.shelf { batch = v.log.used; has_room = has_room v.log size }

module _ {B : Type 0} (known : Limits → Known (Entry B) (Page B)) (r : Reading (Entry B) (Page B)) where
  module _ (f : Format B) (passes : ℕ → Contents → Bool) where
    -- A change that is logged by a record of so many bytes: the log is longer by just that record. Each page that the
    -- record doesn't name is unchanged; the volume keeps the state with it; and the pages of which it has an image get
    -- their bits.
    pub record IsLogged {D : Type 0} (size : ℕ) (d e : Device) (v w : Volume D) (x : Rec) : Type 0 where
      pub logs : Logs x v.log w.log
      pub keeps : (l : Limits) → KeepsWith (known l) r f passes d e v w x
      pub goes_on : GoesOn passes d e (begun v size) w.shelf
      pub others : (q : ℕ) → speaks_of q (record_read r x) ≡ false → IsAsItWas d e v.shelf.frames w.shelf.frames q
      pub most : w.most ≡ v.most
      pub imaged : w.imaged ≡ imaged_with x v.imaged

    -- Nothing is logged: each page is unchanged, and the volume keeps the same state.
    pub record IsUnlogged {D : Type 0} (old : Shelf D) (d e : Device) (v w : Volume D) : Type 0 where
      pub log : w.log ≡ v.log
      pub keeps : (l : Limits) → KeepsTheSame (known l) r f passes d e v w
      pub since : (q : ℕ) → IsSince passes d e old w.shelf q
      pub most : w.most ≡ v.most
      pub imaged : w.imaged ≡ v.imaged

    -- A bound was widened at a page, and is logged by the page's bit, with its slot and its new key; or it was not, and nothing is logged.
    abbrev pub DescentIsLogged : {D : Type 0} → (B → List ℕ) → ℕ → ℕ → Device → Device → Volume D → Volume D → Descended B → Type 0
    DescentIsLogged spelling key page d e v w did =
        IfWidened (λ slot bound. IsLogged (widen_room (is_imaged v.imaged page) key) d e v w (widen_said spelling (is_imaged v.imaged page) page slot bound e.seen w.shelf))
        (IsUnlogged (begun v (widen_room (is_imaged v.imaged page) key)) d e v w) did

    -- The mark of a pair was set, and is logged with the mark that was found, by its leaf's bit; or the pair isn't in the leaf, and nothing
    -- is logged.
    abbrev pub MarkIsLogged : {D : Type 0} → (B → List ℕ) → ℕ → ℕ → Entry B → ℕ → Bool → Device → Device → Volume D → Volume D → Sought → Type 0
    MarkIsLogged spelling key transaction entry page marked d e v w (Here slot before) =
        IsLogged (mark_room (is_imaged v.imaged page) key) d e v w
        (mark_said spelling (is_imaged v.imaged page) transaction entry.row entry.key before marked page e.seen w.shelf)
    MarkIsLogged spelling key transaction entry page marked d e v w (Right next) = IsUnlogged (begun v (mark_room (is_imaged v.imaged page) key)) d e v w

    -- Something was changed, and is logged; or nothing was, and nothing is.
    abbrev pub IsLoggedIf : {D : Type 0} → ℕ → Device → Device → Volume D → Volume D → Rec → Bool → Type 0
    IsLoggedIf size d e v w x true = IsLogged size d e v w x
    IsLoggedIf size d e v w x false = IsUnlogged (begun v size) d e v w

-- If a store has only gone on, with each page unchanged and as many taken and counted, its volume keeps the same state.
abbrev pub ReadsKeep : {B D : Type 0} → Known (Entry B) (Page B) → Reading (Entry B) (Page B) → Format B → (ℕ → Contents → Bool) → Device → Device → Volume D → Shelf D → Type 0
ReadsKeep k r f passes d e v t = ((q : ℕ) → IsSince passes d e v.shelf t q) → t.used ≡ v.shelf.used → t.counter ≡ v.shelf.counter
    → KeepsTheSame k r f passes d e v (record v { shelf = t })
