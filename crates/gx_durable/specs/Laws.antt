-- The laws of bytes and records.
use Rattle.std.specs.Prelude.{◌≡◌, ℕ, Bool, List, [], ◌∷◌, ◌++◌}
use Rattle.gx_disk.specs.Device.{IsImage}
use Rattle.gx_record.specs.Rec.{Rec}
use Rattle.gx_record.specs.Format.{spelling, IsRecord}
use Rattle.gx_glog.specs.State.{Log}
use Rattle.gx_glog.specs.Cuts.{joined}
use Rattle.gx_recovery.specs.Known.{Known, IsLawful}
use Rattle.gx_recovery.specs.Records.{Record}
use Rattle.gx_recovery.specs.Damage.{records_of}
use Rattle.gx_recovery.specs.Logged.{Logged}
use Rattle.gx_durable.specs.Spelled.{Reading, record_read, AreRecords}
use Rattle.gx_durable.specs.Bodies.{AreBodies}
use Rattle.gx_durable.specs.Standing.{Up, Stands}
use Rattle.gx_durable.specs.Steps.{GoesOn}

module _ {E P : Type 0} (r : Reading E P) where
  -- bytes are records in one way only
  abbrev pub OneWay : Type 0
  OneWay = (bytes : List ℕ) (xs ys : List (Record E P)) → AreRecords r bytes xs → AreRecords r bytes ys → xs ≡ ys

  -- parts join
  abbrev pub PartsJoin : Type 0
  PartsJoin = (first next : List ℕ) (xs ys : List (Record E P)) → AreRecords r first xs → AreRecords r next ys → AreRecords r (first ++ next) (xs ++ ys)

  -- a spelling behind them adds its record
  abbrev pub SpellingAdds : Type 0
  SpellingAdds = (bytes : List ℕ) (xs : List (Record E P)) (x : Rec) → AreRecords r bytes xs → IsRecord r.key x
      → AreRecords r (bytes ++ spelling x) (xs ++ record_read r x ∷ [])

  -- no bytes are no records, and no other bytes are
  abbrev pub NoneAreNone : Type 0
  NoneAreNone = AreRecords r [] []

  abbrev pub OnlyNoneAreNone : Type 0
  OnlyNoneAreNone = (bytes : List ℕ) → AreRecords r bytes [] → bytes ≡ []

  -- the same of bodies
  abbrev pub BodiesOneWay : Type 0
  BodiesOneWay = (bodies : List (List ℕ)) (xs ys : List (List (Record E P))) → AreBodies r bodies xs → AreBodies r bodies ys → xs ≡ ys

  abbrev pub BodyAdds : Type 0
  BodyAdds = (bodies : List (List ℕ)) (body : List ℕ) (told : List (List (Record E P))) (records : List (Record E P)) → AreBodies r bodies told → AreRecords r body records
      → AreBodies r (bodies ++ body ∷ []) (told ++ records ∷ [])

  -- the records of bodies in a row are those of the bodies
  abbrev pub BodiesJoin : Type 0
  BodiesJoin = (bodies : List (List ℕ)) (told : List (List (Record E P))) → AreBodies r bodies told → AreRecords r (joined bodies) (records_of told)

-- What a crash may leave of a device that a log is up on stands for a kept set: its bodies are undamaged, and the number of its
-- last commit lies between the durable one and the latest.
abbrev pub ACrashLeavesAKeptSet : {E P : Type 0} → Known E P → Reading E P → Type 0
ACrashLeavesAKeptSet {E} {P} k r = IsLawful k → (log : Log) (sectors : ℕ) (seen : List ℕ) (pending : ℕ → Bool) (bodies : List (List (Record E P))) (s : Logged E P) (image : List ℕ)
    → Up k r log sectors seen pending bodies s → IsImage seen pending image → Stands k r s image

-- Standing for a kept set carries over to an earlier state: one whose durable number is no greater and whose sets are the same.
abbrev pub StandsOfBefore : {E P : Type 0} → Known E P → Reading E P → Type 0
StandsOfBefore {E} {P} k r = (old new : Logged E P) (image : List ℕ) → GoesOn k old new → Stands k r new image → Stands k r old image
