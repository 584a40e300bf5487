-- Records that are put after those of a log's first body.
use Rattle.std.specs.Prelude.{◌≡◌, ℕ, ◌+◌, ◌<◌, ◌≤◌, List, [], ◌∷◌, ◌++◌, length, Result, Ok, Err}
use Rattle.gx_class.specs.declared.class.TheConstants.{MAX_KEY}
use Rattle.gx_durable.specs.Spelled.{Reading, AreRecords, record_read}
use Rattle.gx_geom.specs.declared.refusal.Refusal.{Refusal}
use Rattle.gx_geom.specs.declared.refusal.Refusal.TheVariants.{Damaged}
use Rattle.gx_glog.specs.declared.extent.TheConstants.{BODY_ROOM}
use Rattle.gx_record.specs.Format.{HasKey, spelling}
use Rattle.gx_record.specs.Rec.{Rec}
use Rattle.gx_record.specs.declared.sizes.TheConstants.{NOTE_BESIDE_KEY}
use Rattle.gx_recovery.specs.Records.{Record}

-- how many bytes the note of an entry has at most
abbrev pub note_record : ℕ
note_record = NOTE_BESIDE_KEY + MAX_KEY

-- This record came after those of a body; or there was no room for it, and nothing changed.
abbrev pub PutsRecord : {E P : Type 0} → Reading E P → Rec → List ℕ → List ℕ → Result (Unit {0}) Refusal → Type 0
PutsRecord {E} {P} r x old new (Ok done) =
    (length old + length (spelling x) ≤ BODY_ROOM) × ((length new ≡ length old + length (spelling x))
    × ((xs : List (Record E P)) → HasKey r.key x → AreRecords r old xs → AreRecords r new (xs ++ record_read r x ∷ [])))
PutsRecord r x old new (Err why) = (why ≡ Damaged) × (BODY_ROOM < length old + length (spelling x))

-- These records came after those of a body, in so many bytes at most.
pub record Puts {E P : Type 0} (r : Reading E P) (records : List (Record E P)) (size : ℕ) (old new : List ℕ) : Type 0 where
  pub longer : length old ≤ length new
  pub few : length new ≤ length old + size
  pub fits : length old ≤ BODY_ROOM → length new ≤ BODY_ROOM
  pub has : (xs : List (Record E P)) → AreRecords r old xs → AreRecords r new (xs ++ records)

-- these records came, or there was no room for so many bytes
abbrev pub PutsAll : {E P : Type 0} → Reading E P → List (Record E P) → ℕ → List ℕ → List ℕ → Result (Unit {0}) Refusal → Type 0
PutsAll r records size old new (Ok done) = Puts r records size old new
PutsAll r records size old new (Err why) = (why ≡ Damaged) × (BODY_ROOM < length old + size)
