-- The records of the code as records without references.
use Rattle.std.specs.Prelude.{ℕ, Bool, true, false, List, [], ◌∷◌, Option, Some, None}
use Rattle.gx_record.specs.Rec.{Rec}
use Rattle.gx_record.specs.Rec as rec
use Rattle.gx_record.specs.Slots.{slots_in}
use Rattle.gx_record.specs.declared.mark.Mark.{Mark}
use Rattle.gx_record.specs.declared.mark.Mark.TheVariants.{Live, Marked}
use Rattle.gx_record.specs.declared.pages.PageImage.{PageImage}
use Rattle.gx_record.specs.declared.pages.PageImages.{PageImages}
use Rattle.gx_record.specs.declared.pages.PageImages.TheVariants.{One, Two, Three}
use Rattle.gx_record.specs.declared.record.Record.{Record}
use Rattle.gx_record.specs.declared.record.Record.TheVariants as variants
use Rattle.gx_record.specs.declared.slots.Slots.{Slots}

abbrev pub is_marked : Mark → Bool
is_marked Live = false
is_marked Marked = true

-- a page's number and image
abbrev pub numbered : PageImage → ℕ × List ℕ
numbered p = (p.page, p.image.now)

abbrev pub images : PageImages → List (ℕ × List ℕ)
images (One first) = numbered first ∷ []
images (Two first second) = numbered first ∷ numbered second ∷ []
images (Three first second third) = numbered first ∷ numbered second ∷ numbered third ∷ []

abbrev pub slots : Slots → List ℕ
slots s = slots_in s.bytes.now

abbrev pub rec_of : Record → Rec
rec_of (variants.Pages counter used pages) = rec.Pages counter used (images pages)
rec_of (variants.Write tx row key before after leaf image) = rec.Write tx row key.now (is_marked before) (is_marked after) leaf image.now
rec_of (variants.Commit tx n) = rec.Commit tx n
rec_of (variants.End tx) = rec.End tx
rec_of (variants.Counters n counter used next) = rec.Counters n counter used next
rec_of (variants.Note tx row key before leaf) = rec.Note tx row key.now (is_marked before) leaf
rec_of (variants.Bit tx row key before after leaf) = rec.Bit tx row key.now (is_marked before) (is_marked after) leaf
rec_of (variants.Add tx row key leaf) = rec.Add tx row key.now leaf
rec_of (variants.Widen page slot key) = rec.Widen page slot key.now
rec_of (variants.Sweep page these) = rec.Sweep page (slots these)

-- an answer of `decode`
abbrev pub seen : Option (Record × ℕ) → Option (Rec × ℕ)
seen None = None
seen (Some answer) = Some (rec_of answer.0, answer.1)
