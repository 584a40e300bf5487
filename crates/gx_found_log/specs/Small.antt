-- Small records: the page that one changes, and how.
use Rattle.std.specs.Prelude.{◌≡◌, ℕ, Bool, true, false, List, Option, None, Some, Result, Ok, Err}
use Rattle.gx_record.specs.Rec.{Rec}
use Rattle.gx_record.specs.Rec as rec
use Rattle.gx_record.specs.Seen.{slots as slots_in}
use Rattle.gx_recovery.specs.Known.{Known}
use Rattle.gx_recovery.specs.Records.{Change, Record, Whole, Small, Pages, Adjust, Write, Commit, End, Counters, Note}
use Rattle.gx_recovery.specs.Given.{given, change_fits}
use Rattle.gx_durable.specs.Small.{PageChange, SetMark, AddPair, SetKey, RemoveSlots}
use Rattle.gx_durable.specs.Spelled.{Reading}
use Rattle.gx_recovery.specs.declared.rule.LogRule.{LogRule}
use Rattle.gx_recovery.specs.declared.rule.LogRule.TheVariants.{NoImage, Unfit}
use Rattle.gx_found_log.specs.declared.small.Small as small
use Rattle.gx_found_log.specs.declared.small.Small.TheVariants as variants
use Rattle.gx_found_log.specs.Given.{Imaged, with_image}

-- a change of the code as one without references
abbrev pub said : small.Small → PageChange
said (variants.SetMark row key marked) = SetMark row key.now marked
said (variants.AddPair row key) = AddPair row key.now
said (variants.SetKey slot key) = SetKey slot key.now
said (variants.RemoveSlots slots) = RemoveSlots (slots_in slots)

-- the page that a small record changes, and how; none of other records
abbrev pub small_of : Rec → Option (ℕ × PageChange)
small_of (rec.Pages counter used pages) = None
small_of (rec.Write tx row key before after leaf image) = None
small_of (rec.Commit tx n) = None
small_of (rec.End tx) = None
small_of (rec.Counters n counter used next) = None
small_of (rec.Note tx row key before leaf) = None
small_of (rec.Bit tx row key before after leaf) = Some (leaf, SetMark row key after)
small_of (rec.Add tx row key leaf) = Some (leaf, AddPair row key)
small_of (rec.Widen page slot key) = Some (page, SetKey slot key)
small_of (rec.Sweep page slots) = Some (page, RemoveSlots slots)

-- whether a record's small change, if it has one, fits what the log gives of its page
abbrev pub page_fits : {E P : Type 0} → Known E P → List (Record E P) → Record E P → Bool
page_fits k log (Pages images counter used) = true
page_fits k log (Adjust page change) = change_fits k change (given page log)
page_fits k log (Write transaction entry before after leaf (Whole content)) = true
page_fits k log (Write transaction entry before after leaf (Small change)) = change_fits k change (given leaf log)
page_fits k log (Commit transaction number) = true
page_fits k log (End transaction) = true
page_fits k log (Counters number counter used next) = true
page_fits k log (Note transaction entry before leaf) = true

-- A change of a page of which this image is kept, where a node may have so many entries: it is made, and the image that is kept then
-- is read as what the change makes; or it doesn't fit. Of a page of which no image is kept there is nothing to change.
abbrev pub Changes : {E P : Type 0} → Reading E P → (most : ℕ) → Change P → ℕ → Option (List ℕ) → List Imaged → Result (Unit {0}) LogRule → List Imaged → Type 0
Changes r most change page None old (Ok done) new = ⊥
Changes r most change page None old (Err rule) new = rule ≡ NoImage
Changes r most change page (Some image) old (Ok done) new =
    (change.fits most (r.content image) ≡ true) × ((made : List ℕ) × ((r.content made ≡ change.made (r.content image)) × (new ≡ with_image (page, made) old)))
Changes r most change page (Some image) old (Err rule) new = (change.fits most (r.content image) ≡ false) × (rule ≡ Unfit)
