-- A record, by its bytes, that an analysis takes; and the bytes of a body.
use Rattle.std.specs.Prelude.{◌≡◌, ℕ, Bool, true, false, Option, None, Some, List, [], ◌∷◌, ◌++◌, map, drop, Result, Ok, Err}
use Rattle.gx_geom.specs.declared.refusal.Refusal.{Refusal}
use Rattle.gx_geom.specs.declared.refusal.Refusal.TheVariants.{Damaged}
use Rattle.gx_record.specs.Rec.{Rec}
use Rattle.gx_record.specs.Rec as rec
use Rattle.gx_recovery.specs.Known.{Known}
use Rattle.std.specs.declared.cmp.Ordering.{Ordering}
use Rattle.gx_recovery.specs.Records.{Record, Touch}
use Rattle.gx_durable.specs.Small.{PageChange}
use Rattle.gx_durable.specs.Spelled.{Reading, record_read, AreRecords}
use Rattle.gx_recovery.specs.Kept.{Kept, may_write, with_touch, Takes}
use Rattle.gx_recovery.specs.Broken.{refused}
use Rattle.gx_recovery.specs.declared.rule.LogRule.{LogRule}
use Rattle.gx_recovery.specs.Telling.{IsKept}
use Rattle.gx_found_log.specs.declared.gathered.Gathered.{Gathered}
use Rattle.gx_found_log.specs.declared.part.Part.{Part}
use Rattle.gx_found_log.specs.Given.{Imaged, IsGiven, image_in, images_of, with_all}
use Rattle.gx_found_log.specs.Small.{page_fits, Changes}
use Rattle.gx_found_log.specs.Parts.{part_behind, IsBegun, may_go_on}

-- the numbers of pages, each beside its image
abbrev pub page_numbers : List (ℕ × List ℕ) → List ℕ
page_numbers pages = map (λ p. p.0) pages

-- how many transactions a record closes
abbrev pub closings : Rec → ℕ
closings (rec.Pages counter used pages) = 0
closings (rec.Write tx row key before after leaf image) = 0
closings (rec.Commit tx n) = 1
closings (rec.End tx) = 1
closings (rec.Counters n counter used next) = 0
closings (rec.Note tx row key before leaf) = 0
closings (rec.Bit tx row key before after leaf) = 0
closings (rec.Add tx row key leaf) = 0
closings (rec.Widen page slot key) = 0
closings (rec.Sweep page slots) = 0

-- that a transaction touched an entry of a leaf
abbrev pub touched : {E : Type 0} → ℕ → E → Bool → ℕ → Touch E
touched tx entry before leaf = record { transaction = tx; entry = entry; before = before; leaf = leaf }

-- a write of an entry of the class, taken
abbrev pub TakesWrite : {E : Type 0} → (E → E → Ordering) → Touch E → Kept E → Result (Unit {0}) LogRule → Kept E → Type 0
TakesWrite cmp t old result new = Takes (may_write cmp t old) (with_touch cmp t old) old (refused result) new

-- A record may come next, if what it says of its page fits, and what it says is kept; or it is damage, and may not
-- come.
abbrev pub Told : {E P : Type 0} → Part → Known E P → List (Record E P) → Record E P → Result (Unit {0}) Refusal → Kept E → Type 0
Told part k log r (Ok done) new = (may_go_on part k log (r ∷ []) ≡ page_fits k log r) × IsKept k (log ++ r ∷ []) new
Told part k log r (Err refusal) new = (may_go_on part k log (r ∷ []) ≡ false) × (refusal ≡ Damaged)

-- so of each log that is kept, and of the record that the bytes say
abbrev pub RecordTold : {E P : Type 0} → Part → Known E P → Reading E P → Rec → Kept E → Result (Unit {0}) Refusal → Kept E → Type 0
RecordTold {E} {P} part k r x old result new = (log : List (Record E P)) → IsBegun part k log → IsKept k log old → Told part k log (record_read r x) result new

-- What is gathered of a log: what its records say, and of each page what it gives; and how many entries a node may
-- have.
pub record IsGathered {E P : Type 0} (k : Known E P) (r : Reading E P) (log : List (Record E P)) (s : Gathered E) : Type 0 where
  pub kept : IsKept k log s.analysis
  pub given : IsGiven r s.given log
  pub most : s.scratch.0 ≡ k.most

-- what a record says of pages is kept: its images; or the small change that it has is made
abbrev pub KeepsSaid : {E P : Type 0} → Reading E P → Rec → Option (ℕ × PageChange) → (most : ℕ) → List Imaged → Result (Unit {0}) LogRule → List Imaged → Type 0
KeepsSaid r x None most old (Ok done) new = new ≡ with_all (images_of x) old
KeepsSaid r x None most old (Err rule) new = ⊥
KeepsSaid r x (Some small) most old result new = Changes r most (r.change small.1) small.0 (image_in small.0 old) old result new

-- A record may come next and is gathered; or it is damage, and may not come.
abbrev pub OneGathered : {E P : Type 0} → Part → Known E P → Reading E P → List (Record E P) → Record E P → Result (Unit {0}) Refusal → Gathered E → Type 0
OneGathered part k r log x (Ok done) new = (may_go_on part k log (x ∷ []) ≡ true) × IsGathered k r (log ++ x ∷ []) new
OneGathered part k r log x (Err refusal) new = (may_go_on part k log (x ∷ []) ≡ false) × (refusal ≡ Damaged)

-- so of each log that is gathered, and of the record that the bytes say
abbrev pub RecordGathered : {E P : Type 0} → Part → Known E P → Reading E P → Rec → Gathered E → Result (Unit {0}) Refusal → Gathered E → Type 0
RecordGathered {E} {P} part k r x old result new =
    (log : List (Record E P)) → IsBegun part k log → IsGathered k r log old → OneGathered part k r log (record_read r x) result new

-- The bytes of a body are records that may come next, and all of them are gathered.
pub record IsRead {E P : Type 0} (part : Part) (k : Known E P) (r : Reading E P) (log : List (Record E P)) (bytes : List ℕ) (new : Gathered E) : Type 0 where
  pub records : List (Record E P)
  pub are : AreRecords r bytes records
  pub may : may_go_on part k log records ≡ true
  pub gathered : IsGathered k r (log ++ records) new

-- It is damage: no records that the bytes are may come next.
pub record IsRefused {E P : Type 0} (part : Part) (k : Known E P) (r : Reading E P) (log : List (Record E P)) (bytes : List ℕ) (refusal : Refusal) : Type 0 where
  pub damaged : refusal ≡ Damaged
  pub none : (records : List (Record E P)) → AreRecords r bytes records → may_go_on part k log records ≡ false

abbrev pub BodyTold : {E P : Type 0} → Part → Known E P → Reading E P → List (Record E P) → List ℕ → Result (Unit {0}) Refusal → Gathered E → Type 0
BodyTold part k r log bytes (Ok done) new = IsRead part k r log bytes new
BodyTold part k r log bytes (Err refusal) new = IsRefused part k r log bytes refusal

-- so of each log that is gathered, where these are the bytes of the rest of a body
abbrev pub BytesTold : {E P : Type 0} → Part → Known E P → Reading E P → List ℕ → Gathered E → Result (Unit {0}) Refusal → Gathered E → Type 0
BytesTold {E} {P} part k r bytes old result new = (log : List (Record E P)) → IsBegun part k log → IsGathered k r log old → BodyTold part k r log bytes result new

-- The outcome of reading these bytes from here on, at this part, is that of reading all of them from the start.
abbrev pub ReadsOn : {E P : Type 0} → (part now_at : Part) → Known E P → Reading E P → (bytes rest : List ℕ) (old now : Gathered E) → Type 0
ReadsOn {E} {P} part now_at k r bytes rest old now =
    (result : Result (Unit {0}) Refusal) (new : Gathered E) → BytesTold now_at k r rest now result new → BytesTold part k r bytes old result new

-- the first record of these bytes, taken, and how many bytes it has; or the damage that all of them are
abbrev pub FirstTold : {E P : Type 0} → Part → Known E P → Reading E P → List ℕ → Gathered E → Result ℕ Refusal → Gathered E → Type 0
FirstTold part k r bytes old (Ok n) new = ReadsOn part (part_behind part) k r bytes (drop n bytes) old new
FirstTold part k r bytes old (Err refusal) new = BytesTold part k r bytes old (Err refusal) new
