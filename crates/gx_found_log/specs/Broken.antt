-- Which rule is broken by a record, and where in a body.
use Rattle.std.specs.Prelude.{◌≡◌, ℕ, ◌+◌, ◌<◌, ◌⊎◌, Bool, true, false, Option, None, Some, List, [], ◌∷◌, ◌++◌, length}
use Rattle.gx_record.specs.Rec.{Rec}
use Rattle.gx_record.specs.Rec as rec
use Rattle.gx_record.specs.Format.{BeginsWith}
use Rattle.gx_recovery.specs.Known.{Known}
use Rattle.std.specs.declared.cmp.Ordering.{Ordering}
use Rattle.gx_recovery.specs.Records.{Record, Change, Touch}
use Rattle.gx_durable.specs.Small.{PageChange}
use Rattle.gx_durable.specs.Spelled.{Reading, AreRecords}
use Rattle.gx_recovery.specs.Kept.{Kept}
use Rattle.gx_recovery.specs.Broken.{breaks_counters, breaks_touch, breaks_write, breaks_pages, breaks_end, breaks_commit}
use Rattle.gx_recovery.specs.declared.rule.LogRule.{LogRule}
use Rattle.gx_recovery.specs.declared.rule.LogRule.TheVariants.{Spelling, NoCounters, Misplaced, NoKey, NoImage, Unfit}
use Rattle.gx_found_log.specs.declared.gathered.Gathered.{Gathered}
use Rattle.gx_found_log.specs.declared.part.Part.{Part}
use Rattle.gx_found_log.specs.declared.part.Part.TheVariants.{Start, Head, Later}
use Rattle.gx_found_log.specs.Parts.{part_behind, IsBegun}
use Rattle.gx_found_log.specs.Given.{image_in}
use Rattle.gx_found_log.specs.Small.{small_of}
use Rattle.gx_found_log.specs.Told.{page_numbers, touched, IsGathered}

abbrev pub is_counters : Rec → Bool
is_counters (rec.Pages counter used pages) = false
is_counters (rec.Write tx row key before after leaf image) = false
is_counters (rec.Commit tx n) = false
is_counters (rec.End tx) = false
is_counters (rec.Counters n counter used next) = true
is_counters (rec.Note tx row key before leaf) = false
is_counters (rec.Bit tx row key before after leaf) = false
is_counters (rec.Add tx row key leaf) = false
is_counters (rec.Widen page slot key) = false
is_counters (rec.Sweep page slots) = false

abbrev pub is_noting : Rec → Bool
is_noting (rec.Pages counter used pages) = false
is_noting (rec.Write tx row key before after leaf image) = false
is_noting (rec.Commit tx n) = false
is_noting (rec.End tx) = false
is_noting (rec.Counters n counter used next) = false
is_noting (rec.Note tx row key before leaf) = true
is_noting (rec.Bit tx row key before after leaf) = false
is_noting (rec.Add tx row key leaf) = false
is_noting (rec.Widen page slot key) = false
is_noting (rec.Sweep page slots) = false

-- records of a later body
abbrev pub is_later : Rec → Bool
is_later (rec.Pages counter used pages) = true
is_later (rec.Write tx row key before after leaf image) = true
is_later (rec.Commit tx n) = true
is_later (rec.End tx) = true
is_later (rec.Counters n counter used next) = false
is_later (rec.Note tx row key before leaf) = false
is_later (rec.Bit tx row key before after leaf) = true
is_later (rec.Add tx row key leaf) = true
is_later (rec.Widen page slot key) = true
is_later (rec.Sweep page slots) = true

-- whether a record of this kind may be in this part of a log
abbrev pub may_stand : Part → Rec → Bool
may_stand Start x = is_counters x
may_stand Head x = is_noting x
may_stand Later x = is_later x

-- whether the bytes of its key, if it has one, are a key of the class
abbrev pub is_of_class : {E P : Type 0} → Known E P → Reading E P → Rec → Bool
is_of_class k r (rec.Pages counter used pages) = true
is_of_class k r (rec.Write tx row key before after leaf image) = k.is_entry (r.entry row key)
is_of_class k r (rec.Commit tx n) = true
is_of_class k r (rec.End tx) = true
is_of_class k r (rec.Counters n counter used next) = true
is_of_class k r (rec.Note tx row key before leaf) = k.is_entry (r.entry row key)
is_of_class k r (rec.Bit tx row key before after leaf) = k.is_entry (r.entry row key)
is_of_class k r (rec.Add tx row key leaf) = k.is_entry (r.entry row key)
is_of_class k r (rec.Widen page slot key) = true
is_of_class k r (rec.Sweep page slots) = true

-- whether what it says breaks the rule, by what is kept of the log before it
abbrev pub breaks_next : {E P : Type 0} → Known E P → Reading E P → Rec → Kept E → LogRule → Bool
breaks_next k r (rec.Pages counter used pages) s rule = breaks_pages counter used (page_numbers pages) s rule
breaks_next k r (rec.Write tx row key before after leaf image) s rule =
    breaks_write k.cmp (record { transaction = tx; entry = r.entry row key; before = before; leaf = leaf }) s rule
breaks_next k r (rec.Commit tx n) s rule = breaks_commit tx n s rule
breaks_next k r (rec.End tx) s rule = breaks_end tx s rule
breaks_next k r (rec.Counters n counter used next) s rule = breaks_counters used s rule
breaks_next k r (rec.Note tx row key before leaf) s rule =
    breaks_touch k.cmp (record { transaction = tx; entry = r.entry row key; before = before; leaf = leaf }) s rule
breaks_next k r (rec.Bit tx row key before after leaf) s rule = breaks_write k.cmp (touched tx (r.entry row key) before leaf) s rule
breaks_next k r (rec.Add tx row key leaf) s rule = breaks_write k.cmp (touched tx (r.entry row key) true leaf) s rule
breaks_next k r (rec.Widen page slot key) s rule = false
breaks_next k r (rec.Sweep page slots) s rule = false

-- a write that may not come, or of what is no entry of the class, breaks this rule
abbrev pub BreaksWrite : {E P : Type 0} → (E → E → Ordering) → Known E P → Touch E → Kept E → LogRule → Type 0
BreaksWrite cmp k t s rule = ((rule ≡ NoKey) × (k.is_entry t.entry ≡ false)) ⊎ (breaks_write cmp t s rule ≡ true)

-- A record breaks this rule: it is of a kind that may not be there, or its key is none of the class, or what it says
-- may not come next.
abbrev pub RecordBreaks : {E P : Type 0} → Part → Known E P → Reading E P → Rec → Kept E → LogRule → Type 0
RecordBreaks part k r x s rule =
    ((rule ≡ Misplaced) × (may_stand part x ≡ false)) ⊎ (((rule ≡ NoKey) × (is_of_class k r x ≡ false)) ⊎ (breaks_next k r x s rule ≡ true))

-- The small change that a record has breaks this rule: no image of its page is kept, or it doesn't fit the page.
abbrev pub ChangeBreaks : {E P : Type 0} → Reading E P → (most : ℕ) → Change P → Option (List ℕ) → LogRule → Type 0
ChangeBreaks r most change None rule = rule ≡ NoImage
ChangeBreaks r most change (Some image) rule = (rule ≡ Unfit) × (change.fits most (r.content image) ≡ false)

abbrev pub PageBreaks : {E P : Type 0} → Reading E P → Option (ℕ × PageChange) → Gathered E → LogRule → Type 0
PageBreaks r None s rule = ⊥
PageBreaks r (Some small) s rule = ChangeBreaks r s.scratch.0 (r.change small.1) (image_in small.0 s.given) rule

-- A record breaks this rule by itself, or by what it says of its page.
abbrev pub RecordIsBroken : {E P : Type 0} → Part → Known E P → Reading E P → Rec → Gathered E → LogRule → Type 0
RecordIsBroken part k r x s rule = RecordBreaks part k r x s.analysis rule ⊎ PageBreaks r (small_of x) s rule

-- the record at the front of these bytes breaks the rule
pub record RecordAt {E P : Type 0} (part : Part) (k : Known E P) (r : Reading E P) (rest : List ℕ) (s : Gathered E) (rule : LogRule) : Type 0 where
  pub one : Rec
  pub size : ℕ
  pub begins : BeginsWith r.key rest one size
  pub breaks : RecordIsBroken part k r one s rule

-- The front of these bytes breaks the rule: it is no record, or the bytes end where the counters have to be, or the
-- record breaks it.
abbrev pub FrontBreaks : {E P : Type 0} → Part → Known E P → Reading E P → List ℕ → Gathered E → LogRule → Type 0
FrontBreaks part k r rest s rule =
    ((rule ≡ Spelling) × (0 < length rest) × ((x : Rec) (n : ℕ) → BeginsWith r.key rest x n → ⊥))
    ⊎ (((rule ≡ NoCounters) × (part ≡ Start) × (rest ≡ [])) ⊎ RecordAt part k r rest s rule)

-- the part of the log of the record behind these
abbrev pub part_after : {E P : Type 0} → Part → List (Record E P) → Part
part_after part [] = part
part_after part (x ∷ records) = part_after (part_behind part) records

-- Of these bytes so many are whole records that may come next, and what follows them breaks the rule.
pub record IsBrokenAt {E P : Type 0} (part : Part) (k : Known E P) (r : Reading E P) (log : List (Record E P)) (bytes : List ℕ) (at : ℕ) (rule : LogRule) : Type 0 where
  pub front : List ℕ
  pub rest : List ℕ
  pub cut : bytes ≡ front ++ rest
  pub place : at ≡ length front
  pub before : List (Record E P)
  pub are : AreRecords r front before
  pub begun : IsBegun (part_after part before) k (log ++ before)
  pub so_far : Gathered E
  pub gathered : IsGathered k r (log ++ before) so_far
  pub breaks : FrontBreaks (part_after part before) k r rest so_far rule

-- so of each log that is gathered, where these are the bytes of the rest of a body
abbrev pub BytesBroken : {E P : Type 0} → Part → Known E P → Reading E P → List ℕ → Gathered E → ℕ → LogRule → Type 0
BytesBroken {E} {P} part k r bytes old at rule = (log : List (Record E P)) → IsBegun part k log → IsGathered k r log old → IsBrokenAt part k r log bytes at rule

-- What is broken in these bytes, read from here on at this part, is broken so many bytes further on in all of them.
abbrev pub BrokenOn : {E P : Type 0} → (part now_at : Part) → Known E P → Reading E P → (bytes rest : List ℕ) (gone : ℕ) (old now : Gathered E) → Type 0
BrokenOn part now_at k r bytes rest gone old now = (at : ℕ) (rule : LogRule) → BytesBroken now_at k r rest now at rule → BytesBroken part k r bytes old (gone + at) rule
