-- The laws of a log on a device.
use Rattle.std.specs.Prelude.{◌≡◌, ℕ, ◌+◌, ◌<◌, ◌≤◌, Bool, List, [], ◌∷◌, ◌++◌, length}
use Rattle.gx_disk.specs.Device.{IsImage}
use Rattle.gx_glog.specs.declared.extent.TheConstants.{BODY_ROOM, PLACES}
use Rattle.gx_glog.specs.declared.extent.Extent.{Extent}
use Rattle.gx_glog.specs.declared.extent.Extent.TheVariants.{A}
use Rattle.gx_glog.specs.declared.stage.Stage.TheVariants.{Idle}
use Rattle.gx_glog.specs.declared.stage.Turn.TheVariants.{Closed}
use Rattle.gx_glog.specs.Cuts.{open_bodies, joined, gated_bodies, ShowsBodiesIn}
use Rattle.gx_glog.specs.First.{first_record, HasFirstLog, IsFirstSettled}
use Rattle.gx_glog.specs.Layout.{selected_of, log_of}
use Rattle.gx_glog.specs.State.{Log, starting}
use Rattle.gx_glog.specs.Standing.{IsSelected, HasBatches, On, HasRun, MayTurn, gated_of, Shows, ShowsIn, LeavesLog}

-- each image's log is what is gated, with what is in flight or without, without as long as its gate isn't written; or, from a turn's write
-- of the selector on, what is gated or the head
abbrev pub ImagesHaveTheLog : Type 0
ImagesHaveTheLog = (log : Log) (seen : List ℕ) (pending : ℕ → Bool) (image : List ℕ) → On log seen pending → IsImage seen pending image → ShowsIn log.turn log.stage (gated_of log seen) log.flight image

-- The same body by body: an image has the gated bodies, with the one in flight or without; or, from a turn's write of the selector on, the
-- gated bodies or the head's alone.
abbrev pub ImagesHaveTheBodies : Type 0
ImagesHaveTheBodies = (log : Log) (seen : List ℕ) (pending : ℕ → Bool) (image : List ℕ) → On log seen pending → IsImage seen pending image → ShowsBodiesIn log.turn log.stage (gated_bodies log seen) log.flight image

-- the log of an image is its bodies in a row
abbrev pub LogIsItsBodies : Type 0
LogIsItsBodies = (image : List ℕ) → joined (open_bodies image) ≡ log_of image

-- an image that selects the log's extent has what is gated, whatever of a turn was done
abbrev pub SelectorDecides : Type 0
SelectorDecides = (log : Log) (seen : List ℕ) (pending : ℕ → Bool) (image : List ℕ) → On log seen pending → IsImage seen pending image → selected_of image ≡ log.extent
    → Shows log.stage (gated_of log seen) log.flight image

-- a log with nothing logged is on a device that has its batches
abbrev pub StartIsOn : Type 0
StartIsOn = (extent : Extent) (used : ℕ) (seen : List ℕ) (pending : ℕ → Bool) → used ≤ PLACES → IsSelected extent seen pending → HasBatches extent used used seen pending
    → On (starting extent used) seen pending

-- the first log of a device that it was laid down on
abbrev pub FirstLogIs : Type 0
FirstLogIs = (seen : List ℕ) → HasFirstLog seen → log_of seen ≡ first_record

abbrev pub FirstLogHasOneBody : Type 0
FirstLogHasOneBody = (seen : List ℕ) → HasFirstLog seen → open_bodies seen ≡ first_record ∷ []

-- a log with one place taken is on that device, and each image has the first log
abbrev pub FirstLogIsOn : Type 0
FirstLogIsOn = (seen : List ℕ) (pending : ℕ → Bool) → HasFirstLog seen → IsFirstSettled pending
    → On (starting A 1) seen pending

abbrev pub ImagesHaveTheFirstLog : Type 0
ImagesHaveTheFirstLog = (seen : List ℕ) (pending : ℕ → Bool) (image : List ℕ) → HasFirstLog seen → IsFirstSettled pending → IsImage seen pending image → HasFirstLog image

-- a record more that fills changes nothing of it, if no turn is under way
abbrev pub AppendStaysOn : Type 0
AppendStaysOn = (log : Log) (bytes seen : List ℕ) (pending : ℕ → Bool) → log.turn ≡ Closed → log.used < PLACES → length log.filling + length bytes ≤ BODY_ROOM → On log seen pending
    → On (record log { filling = log.filling ++ bytes }) seen pending

-- nor does one more of the head
abbrev pub PutFirstStaysOn : Type 0
PutFirstStaysOn = (log : Log) (bytes seen : List ℕ) (pending : ℕ → Bool) → log.stage ≡ Idle → log.turn ≡ Closed → length log.flight + length bytes ≤ BODY_ROOM → On log seen pending
    → On (record log { flight = log.flight ++ bytes }) seen pending

-- nor does a call that leaves the log's sectors
abbrev pub ElsewhereStaysOn : Type 0
ElsewhereStaysOn = (log : Log) (seen seen' : List ℕ) (pending pending' : ℕ → Bool) → LeavesLog seen seen' pending pending' → On log seen pending → On log seen' pending'

abbrev pub ElsewhereKeepsBatches : Type 0
ElsewhereKeepsBatches = (log : Log) (seen seen' : List ℕ) (pending pending' : ℕ → Bool) → LeavesLog seen seen' pending pending' → On log seen pending → gated_of log seen' ≡ gated_of log seen

-- a log with nothing logged may turn on a device that has its batches and closes the next gate
abbrev pub StartMayTurn : Type 0
StartMayTurn = (extent : Extent) (used : ℕ) (seen : List ℕ) (pending : ℕ → Bool) → used ≤ PLACES → IsSelected extent seen pending → HasRun extent used seen pending
    → MayTurn (starting extent used) seen pending

-- a log that is on a device, with nothing in flight, may turn there
abbrev pub OnMayTurn : Type 0
OnMayTurn = (log : Log) (seen : List ℕ) (pending : ℕ → Bool) → log.stage ≡ Idle → On log seen pending → MayTurn log seen pending

-- each image's log is what is gated, or from the selector's write on that or the head
abbrev pub ImagesOfTurn : Type 0
ImagesOfTurn = (log : Log) (seen : List ℕ) (pending : ℕ → Bool) (image : List ℕ) → MayTurn log seen pending → IsImage seen pending image → ShowsIn log.turn log.stage (gated_of log seen) log.flight image

-- a call that leaves the log's sectors changes nothing of it
abbrev pub ElsewhereMayTurn : Type 0
ElsewhereMayTurn = (log : Log) (seen seen' : List ℕ) (pending pending' : ℕ → Bool) → LeavesLog seen seen' pending pending' → MayTurn log seen pending → MayTurn log seen' pending'

abbrev pub ElsewhereKeepsRun : Type 0
ElsewhereKeepsRun = (log : Log) (seen seen' : List ℕ) (pending pending' : ℕ → Bool) → LeavesLog seen seen' pending pending' → MayTurn log seen pending → gated_of log seen' ≡ gated_of log seen

-- of each of them the bodies are the same
abbrev pub ElsewhereKeepsBodies : Type 0
ElsewhereKeepsBodies = (log : Log) (seen seen' : List ℕ) (pending pending' : ℕ → Bool) → LeavesLog seen seen' pending pending' → On log seen pending → gated_bodies log seen' ≡ gated_bodies log seen

abbrev pub ElsewhereKeepsRunsBodies : Type 0
ElsewhereKeepsRunsBodies = (log : Log) (seen seen' : List ℕ) (pending pending' : ℕ → Bool) → LeavesLog seen seen' pending pending' → MayTurn log seen pending → gated_bodies log seen' ≡ gated_bodies log seen

abbrev pub BodiesOfTurn : Type 0
BodiesOfTurn = (log : Log) (seen : List ℕ) (pending : ℕ → Bool) (image : List ℕ) → MayTurn log seen pending → IsImage seen pending image → ShowsBodiesIn log.turn log.stage (gated_bodies log seen) log.flight image
