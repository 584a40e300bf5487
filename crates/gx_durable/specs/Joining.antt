-- Several calls in a row, and what a crash at any moment within them leaves.
use Rattle.std.specs.Prelude.{◌≡◌, ℕ, true, List}
use Rattle.gx_disk.specs.Device.{Device}
use Rattle.gx_glog.specs.State.{Log}
use Rattle.gx_recovery.specs.Known.{Known, IsLawful}
use Rattle.gx_recovery.specs.Records.{Record}
use Rattle.gx_recovery.specs.Logged.{Logged}
use Rattle.gx_durable.specs.Spelled.{Reading}
use Rattle.gx_durable.specs.Standing.{Up, Stands}
use Rattle.gx_durable.specs.Calls.{GoesSafely}

-- a call and then another are one
abbrev pub CallsJoin : {E P : Type 0} → Known E P → Reading E P → Device → Device → Device → Type 0
CallsJoin {E} {P} k r d e f = (s t u : Logged E P) → GoesSafely k r d e s t → GoesSafely k r e f t u → GoesSafely k r d f s u

-- Whatever a crash may have left at a moment from before the calls on stands for a kept set of the state before them.
abbrev pub EachMomentStands : {E P : Type 0} → Known E P → Reading E P → Device → Device → Type 0
EachMomentStands {E} {P} k r d e = (log : Log) (bodies : List (List (Record E P))) (s t : Logged E P) (image : List ℕ) → IsLawful k → d.honest ≡ true
    → Up k r log d.sectors d.seen d.pending bodies s → GoesSafely k r d e s t → e.left_since d.moment image → Stands k r s image
