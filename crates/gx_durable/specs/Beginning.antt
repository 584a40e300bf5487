-- A log that begins: on a device that it was laid down on, and the room that a head has.
use Rattle.std.specs.Prelude.{ℕ, ◌≤◌, Bool, false, List, [], ◌∷◌, length}
use Rattle.gx_glog.specs.declared.extent.TheConstants.{BODY_ROOM}
use Rattle.gx_glog.specs.declared.extent.Extent.TheVariants.{A}
use Rattle.gx_glog.specs.State.{Log, starting}
use Rattle.gx_glog.specs.First.{HasFirstLog, IsFirstSettled}
use Rattle.gx_recovery.specs.Known.{Known}
use Rattle.gx_recovery.specs.Records.{Record, Counters}
use Rattle.gx_recovery.specs.Analysis.{analysis}
use Rattle.gx_recovery.specs.Redo.{tree_of}
use Rattle.gx_recovery.specs.Renewal.{renewed, found}
use Rattle.gx_recovery.specs.declared.TheConstants.{TOUCHED}
use Rattle.gx_durable.specs.Spelled.{Reading, AreRecords}
use Rattle.gx_durable.specs.Area.{area_of, HasPages, IsSettledBut}
use Rattle.gx_durable.specs.Fitting.{PagesFit}
use Rattle.gx_durable.specs.Head.{HasHead}
use Rattle.gx_durable.specs.Standing.{Up}

-- a log that starts behind the one batch of a new device, and the one record of that
abbrev pub first_glog : Log
first_glog = starting A 1

abbrev pub first_records : (E P : Type 0) → List (Record E P)
first_records E P = Counters 0 0 2 1 ∷ []

-- Of a freshly formatted device, with everything durable, that says what is known of it, whose two pages are a sound
-- tree and can be read: the log that starts there is up.
abbrev pub FirstIsUp : {E P : Type 0} → Known E P → Reading E P → Type 0
FirstIsUp {E} {P} k r = (sectors : ℕ) (seen : List ℕ) (pending : ℕ → Bool) → HasHead k.head seen pending → HasFirstLog seen → IsFirstSettled pending → 2 ≤ k.pages → HasPages k.pages sectors
    → IsSettledBut (λ p. false) sectors pending → k.sound (tree_of k (area_of r k.pages seen) (first_records E P)) → PagesFit r (tree_of k (area_of r k.pages seen) (first_records E P))
    → Up k r first_glog sectors seen pending (first_records E P ∷ []) (found (area_of r k.pages seen) (first_records E P))

-- A renewed log fits one body, with a note for each entry that open transactions may have touched, where keys have up to 41 bytes.
abbrev pub HeadsFit : {E P : Type 0} → Known E P → Reading E P → Type 0
HeadsFit {E} {P} k r = (bytes : List ℕ) (next : ℕ) (log : List (Record E P)) → r.key ≤ 41 → length (analysis k log).touched ≤ TOUCHED → AreRecords r bytes (renewed k next log)
    → length bytes ≤ BODY_ROOM
