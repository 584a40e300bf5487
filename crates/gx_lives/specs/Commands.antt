-- Commands over a device, as lives of its index.
use Rattle.std.specs.Prelude.{ℕ, ◌≡◌, ◌≤◌, ◌⊎◌, Bool, true, false, List, [], ◌∷◌, ◌++◌, Result}
use Rattle.std.specs.Io.KnownBytes.{Appends, Consumes, IsAtEnd}
use Rattle.gx_class.specs.Traits.{Traits}
use Rattle.gx_commands.specs.Dumping.{DumpsOver}
use Rattle.gx_commands.specs.Endings.{RunsOver, TellsSettled}
use Rattle.gx_commands.specs.Streams.{Outputs, Stream}
use Rattle.gx_commands.specs.Verifying.{VerifiesOver}
use Rattle.gx_disk.specs.Device.{Device}
use Rattle.gx_events.specs.declared.event.Event.{Event}
use Rattle.gx_events.specs.declared.outcome.Outcome.{Outcome}
use Rattle.gx_geom.specs.declared.refusal.Refusal.{Refusal}
use Rattle.gx_machine.specs.Keys.{Members}
use Rattle.gx_restart.specs.Beginning.{HasFailed}
use Rattle.gx_script.specs.Corners.{Grammar}
use Rattle.gx_script.specs.declared.line.Line.{Line}
use Rattle.gx_script.specs.Scripts.{asked}
use Rattle.gx_lives.specs.Calling.{AreLines, AreReads, DidSome, IsSettled, turns_of}
use Rattle.gx_lives.specs.Lives.{Lies, Lives, Turn}
use Rattle.gx_lives.specs.Lives as life

-- The opening was refused, and nothing follows: with frames in range, because a call of the device failed or memory was
-- refused.
pub record IsTurnedAway {B : Type 0} (frames : ℕ) (turns : List (Turn B)) (status : ℕ) : Type 0 where
  pub why : Refusal
  pub cause : 16 ≤ frames → frames ≤ 4096 → HasFailed why
  pub status_is : status ≡ 1
  pub is : turns ≡ life.Refuses why ∷ []

-- A device was opened; these lines were done, and gave this text; their index then did what is given here, by whether
-- it had given up; and then the engine ended, and left its device. No other event comes in between.
pub record RunsLines {B : Type 0} (grammar : Grammar B) (lines : List (Line B)) (text : List ℕ) (Follows : Bool → List (Event B × Outcome B) → Type 0) (turns : List (Turn B)) : Type 0 where
  pub called : List (Event B × Outcome B)
  pub ended : Bool
  pub are : AreLines grammar 1 lines text false called ended
  pub later : List (Event B × Outcome B)
  pub follows : Follows ended later
  pub is : turns ≡ life.Opens ∷ (turns_of (called ++ later) ++ life.GivesUp ∷ [])

-- no event follows, and the status is 1
abbrev pub IsCutOff : {B : Type 0} → ℕ → Bool → List (Event B × Outcome B) → Type 0
IsCutOff status ended steps = (steps ≡ []) × (status ≡ 1)

-- what follows a script's end: a settling's events, whose result is reported; or none, if a reply reported a fault
abbrev pub FollowsBy : {B : Type 0} → Bool → Outputs → Outputs → ℕ → Bool → List (Event B × Outcome B) → Type 0
FollowsBy true from to status ended steps = IsCutOff status ended steps
FollowsBy false from to status ended steps = (result : Result (Unit {0}) Refusal) × IsSettled ended result steps × TellsSettled result from to status

-- The script was read to its end: all its lines were done, and their text was written before what follows it.
pub record RunsAll {B : Type 0} (grammar : Grammar B) (had left : Stream) (from to : Outputs) (status : ℕ) (turns : List (Turn B)) : Type 0 where
  pub input : List ℕ
  pub text : List ℕ
  pub met : Bool
  pub between : Outputs
  pub read : Consumes had.bytes left.bytes input
  pub at_end : IsAtEnd left.bytes
  pub wrote : Appends from.replies.bytes between.replies.bytes text
  pub runs : RunsLines grammar (asked grammar input) text (FollowsBy met between to status) turns

-- Its reader or its writer failed: some of its lines were done, and no event followed.
pub record RunsSome {B : Type 0} (grammar : Grammar B) (had left : Stream) (from to : Outputs) (status : ℕ) (turns : List (Turn B)) : Type 0 where
  pub lines : List (Line B)
  pub text : List ℕ
  pub did : DidSome grammar had.bytes left.bytes from.replies.bytes to.replies.bytes lines text
  pub runs : RunsLines grammar lines text (IsCutOff status) turns

-- a run of a script; nothing of it was read if the opening was refused
abbrev pub AreOfRun : {B : Type 0} → Grammar B → ℕ → Stream → Stream → Outputs → Outputs → ℕ → List (Turn B) → Type 0
AreOfRun grammar frames had left from to status turns =
    ((left ≡ had) × IsTurnedAway frames turns status) ⊎ (RunsAll grammar had left from to status turns ⊎ RunsSome grammar had left from to status turns)

-- a dump: a device was opened, pages were read, and the engine was given up
abbrev pub AreOfDump : {B : Type 0} → ℕ → ℕ → List (Turn B) → Type 0
AreOfDump {B} frames status turns =
    IsTurnedAway frames turns status ⊎ ((reads : List (Turn B)) × AreReads reads × (turns ≡ life.Opens ∷ (reads ++ life.GivesUp ∷ [])))

-- A command over a device, with what it was given and its outcome.
pub data Command : Type 0 where
  Runs : (frames : ℕ) (had left : Stream) (from to : Outputs) (status : ℕ) → Command
  Dumps : (frames : ℕ) (from to : Outputs) (status : ℕ) → Command
  Verifies : (frames : ℕ) (from to : Outputs) (status : ℕ) → Command

-- its turns
abbrev pub AreOf : {B : Type 0} → Grammar B → Command → List (Turn B) → Type 0
AreOf grammar (Runs frames had left from to status) turns = AreOfRun grammar frames had left from to status turns
AreOf grammar (Dumps frames from to status) turns = AreOfDump frames status turns
AreOf grammar (Verifies frames from to status) turns = turns ≡ life.Reads ∷ []

-- those of commands, one after another
abbrev pub AreOfAll : {B : Type 0} → Grammar B → List Command → List (Turn B) → Type 0
AreOfAll grammar [] turns = turns ≡ []
AreOfAll {B} grammar (command ∷ commands) turns =
    (first : List (Turn B)) × (rest : List (Turn B)) × AreOf grammar command first × AreOfAll grammar commands rest × (turns ≡ first ++ rest)

module _ {B D : Type 0} (grammar : Grammar B) (shape : Members B) (traits : Traits B) (state : D → Device) where
  -- a command was given over a device, by the contract of its call, and left this one
  abbrev pub IsGiven : D → Command → D → Type 0
  IsGiven disk (Runs frames had left from to status) after = RunsOver grammar shape traits state traits.CLASS frames disk after had left from to status
  IsGiven disk (Dumps frames from to status) after = DumpsOver grammar shape traits state traits.CLASS frames disk after from to status
  IsGiven disk (Verifies frames from to status) after = VerifiesOver shape traits state traits.CLASS frames disk after from to status

  -- one after another, each over the device that the one before it left
  abbrev pub AreGiven : D → List Command → D → Type 0
  AreGiven disk [] after = after ≡ disk
  AreGiven disk (command ∷ commands) after = (middle : D) × IsGiven disk command middle × AreGiven middle commands after

module _ {B D : Type 0} (shape : Members B) (traits : Traits B) (state : D → Device) where
  -- A device lived on by turns of which this holds.
  pub record LivesSo (AreSo : List (Turn B) → Type 0) (disk after : D) : Type 0 where
    pub turns : List (Turn B)
    pub so : AreSo turns
    pub lives : Lives shape traits state (Lies disk) turns (Lies after)
