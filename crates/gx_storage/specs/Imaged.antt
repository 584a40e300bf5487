-- The bits of a log's pages: a page's is set if an image of it was appended for the extent that is selected.
use Rattle.std.specs.Prelude.{◌≡◌, ℕ, zero, suc, Bool, true, false, List, [], ◌∷◌, length, replicate, slice_index_or, slice_set, Result, Ok, Err}
use Rattle.gx_geom.specs.declared.refusal.Refusal.{Refusal}
use Rattle.gx_glog.specs.declared.stage.Turn.{Turn}
use Rattle.gx_glog.specs.declared.stage.Turn.TheVariants.{Closed, Body, BodySync, Gate, GateSync, Selector, Done}
use Rattle.gx_record.specs.Rec.{Rec, Pages, Write, Commit, End, Counters, Note, Bit, Add, Widen, Sweep}
use Rattle.gx_recovery.specs.Logged.{Logged, all_records}
use Rattle.gx_durable.specs.Area.{is_given}

-- whether a page's bit is set, that of page 1 being the first
abbrev pub is_imaged : List Bool → ℕ → Bool
is_imaged imaged zero = false
is_imaged imaged (suc p) = slice_index_or imaged p false

-- with the bit of this page
abbrev pub with_imaged : ℕ → List Bool → List Bool
with_imaged zero imaged = imaged
with_imaged (suc p) imaged = slice_set imaged p true

-- with those of these pages
abbrev pub all_imaged : List (ℕ × List ℕ) → List Bool → List Bool
all_imaged [] imaged = imaged
all_imaged (p ∷ pages) imaged = all_imaged pages (with_imaged p.0 imaged)

-- as a record leaves them that is appended: with those of the pages of which it has an image
abbrev pub imaged_with : Rec → List Bool → List Bool
imaged_with (Pages counter used pages) imaged = all_imaged pages imaged
imaged_with (Write tx row key before after leaf image) imaged = with_imaged leaf imaged
imaged_with (Commit tx n) imaged = imaged
imaged_with (End tx) imaged = imaged
imaged_with (Counters n counter used next) imaged = imaged
imaged_with (Note tx row key before leaf) imaged = imaged
imaged_with (Bit tx row key before after leaf) imaged = imaged
imaged_with (Add tx row key leaf) imaged = imaged
imaged_with (Widen page slot key) imaged = imaged
imaged_with (Sweep page slots) imaged = imaged

-- as a turn's call leaves them: with its last one an extent is selected that has no image
abbrev pub imaged_turned : Turn → List Bool → List Bool
imaged_turned Done imaged = replicate (length imaged) false
imaged_turned Closed imaged = imaged
imaged_turned Body imaged = imaged
imaged_turned BodySync imaged = imaged
imaged_turned Gate imaged = imaged
imaged_turned GateSync imaged = imaged
imaged_turned Selector imaged = imaged

abbrev pub imaged_after : Result Turn Refusal → List Bool → List Bool
imaged_after (Ok call) imaged = imaged_turned call imaged
imaged_after (Err refusal) imaged = imaged

-- the log gives the whole of each page whose bit is set. The converse isn't so at an opening, which sets none
abbrev pub AllImaged : {E P : Type 0} → List Bool → Logged E P → Type 0
AllImaged imaged s = (page : ℕ) → is_imaged imaged page ≡ true → is_given (all_records s) page ≡ true
