-- How a command over a device ends: its status, what it has read, what it has written, and what became of the device.
use Rattle.std.specs.Prelude.{ℕ, ◌≡◌, ◌⊎◌, Bool, true, false, Result, Ok, Err, OnOk}
use Rattle.std.specs.Io.KnownBytes.{Appends}
use Rattle.gx_geom.specs.declared.refusal.Refusal.{Refusal}
use Rattle.gx_machine.specs.declared.call.Call.{Call}
use Rattle.gx_machine.specs.declared.reply.Reply.{Reply}
use Rattle.gx_machine.specs.Keys.{Members}
use Rattle.gx_script.specs.declared.fault.ScriptFault.{ScriptFault}
use Rattle.gx_script.specs.declared.fault.ScriptFault.TheVariants.{Write}
use Rattle.gx_script.specs.Corners.{Grammar}
use Rattle.gx_script.specs.Scripts.{IsDone, IsStopped}
use Rattle.gx_script.specs.Writes.{IsCut}
use Rattle.gx_class.specs.Traits.{Traits, own}
use Rattle.gx_disk.specs.Device.{Device, IsSettled}
use Rattle.gx_disk.specs.Moments.{Leaves}
use Rattle.gx_page.specs.Contents.{Contents}
use Rattle.gx_page.specs.Format.{IsWellFormed}
use Rattle.gx_node.specs.Reading.{format_of, is_node}
use Rattle.gx_glog.specs.declared.parameters.Parameters.{Parameters}
use Rattle.gx_format.specs.Fresh.{IsFresh}
use Rattle.gx_format.specs.Formatting.{Formats, IsOldOrFresh}
use Rattle.gx_recovery.specs.Known.{Limits}
use Rattle.gx_durable.specs.Classes.{class_of, reading_of}
use Rattle.gx_engine.specs.declared.start.NotOpened.{NotOpened}
use Rattle.gx_engine.specs.States.{Parts}
use Rattle.gx_engine.specs.Made.{Makes}
use Rattle.gx_engine.specs.Resting.{IsAtRest, KeepsSessions}
use Rattle.gx_restart.specs.Alone.{RunsOn}
use Rattle.gx_restart.specs.Called.{CallsIndex}
use Rattle.gx_restart.specs.Settled.{Settles}
use Rattle.gx_restart.specs.States.{State}
use Rattle.gx_commands.specs.declared.watched.Watched.{Watched}
use Rattle.gx_commands.specs.Scripts.{TellsFault}
use Rattle.gx_commands.specs.Streams.{HasEnded, IsFaultOf, Outputs, Stream, TakesNoMore, TellsPerson, kind_of}
use Rattle.gx_commands.specs.Lines.{fault_sentence, formatted_line}
use Rattle.gx_commands.specs.Openings.{Opens}
use Rattle.gx_commands.specs.Refusing.{Refuses, TellsOpening}
use Rattle.gx_commands.specs.Watching.{Watches}

-- A format is reported: its line was written; or a beginning of it, if the writer takes no more, which is reported to
-- the user.
abbrev pub TellsFormatted : ℕ → ℕ → Outputs → Outputs → ℕ → Type 0
TellsFormatted pages most old new status =
    ((status ≡ 0) × (Appends old.replies.bytes new.replies.bytes (formatted_line pages most) × (new.person ≡ old.person)))
    ⊎ ((status ≡ 1) × (IsCut old.replies.bytes new.replies.bytes (formatted_line pages most)
    × (TakesNoMore new.replies × TellsFault Write new.replies.kind old.person new.person)))

-- its refusal is reported
abbrev pub TellsFormat : ℕ → ℕ → Result (Unit {0}) Refusal → Outputs → Outputs → ℕ → Type 0
TellsFormat pages most (Ok done) old new status = TellsFormatted pages most old new status
TellsFormat pages most (Err why) old new status = Refuses why old new status

-- A device was formatted, with this result, which is reported. At each moment of it a crash leaves an image of before but for its first
-- sector, or no index, or the fresh one; at Ok the device reads as the fresh one, and all of it is settled.
pub record FormatsOver {D : Type 0} (state : D → Device) (parameters : Parameters) (root : Contents) (old new : D) (from to : Outputs) (status : ℕ) : Type 0 where
  pub result : Result (Unit {0}) Refusal
  pub formats : Formats state parameters root old new result
  pub moments : (state old).honest ≡ true → Leaves (IsOldOrFresh (state old) parameters root) (state old) (state new)
  pub fresh : (state old).honest ≡ true → OnOk result (IsFresh parameters root (state new).seen × IsSettled (state new))
  pub well_formed : OnOk result (IsWellFormed root)
  pub told : TellsFormat parameters.pages parameters.most result from to status

-- a settling's refusal is reported; if it ended well, nothing is written
abbrev pub TellsSettled : Result (Unit {0}) Refusal → Outputs → Outputs → ℕ → Type 0
TellsSettled (Ok done) old new status = (status ≡ 0) × (new ≡ old)
TellsSettled (Err why) old new status = Refuses why old new status

-- the device of an index
abbrev pub device_of : {B D : Type 0} → State B D → D
device_of index = index.engine.volume.shelf.disk

module _ {B D : Type 0} (shape : Members B) (traits : Traits B) (state : D → Device) where
  -- An index was settled, with this result, which is reported, and its device is returned. If it ended well, no
  -- checkpoint runs, and no batch is in flight or fills.
  pub record EndsSettling (old : State B D) (after : D) (from to : Outputs) (status : ℕ) : Type 0 where
    pub result : Result (Unit {0}) Refusal
    pub new : State B D
    pub settles : Settles (Makes shape traits state) old result new
    pub runs : (l : Limits) → RunsOn (class_of shape traits.is_proper l) (reading_of traits.said (format_of (own traits))) (format_of (own traits)) (is_node (format_of (own traits))) state old.engine new.engine
    pub rests : OnOk result (IsAtRest new.engine)
    pub keeps : KeepsSessions old.engine new.engine
    pub told : TellsSettled result from to status
    pub left : after ≡ device_of new

  -- What follows a script's end: if a reply reported a fault, that is reported to the user, and nothing more is done;
  -- else the index is settled.
  abbrev pub EndsBy : Bool → State B D → D → Outputs → Outputs → ℕ → Type 0
  EndsBy true index after from to status =
      (status ≡ 1) × ((to.replies ≡ from.replies) × (TellsPerson fault_sentence from.person to.person × (after ≡ device_of index)))
  EndsBy false index after from to status = EndsSettling index after from to status

  -- each call is the index's, and its reply is watched
  abbrev pub AnswersWatched : Watched (State B D) → ℕ → Call B → Reply B → Watched (State B D) → Type 0
  AnswersWatched = Watches (CallsIndex (Makes shape traits state))

  -- an index over an engine, none of whose replies was seen yet
  abbrev pub watched_over : Parts B D → Watched (State B D)
  watched_over engine = record { index = record { engine = engine; ended = false }; met = false }

  -- The opening was refused, which is reported. Nothing was read.
  pub record WasRefused (number frames : ℕ) (disk after : D) (had left : Stream) (from to : Outputs) (status : ℕ) : Type 0 where
    pub refused : NotOpened D
    pub opening : Opens shape traits state number frames disk (Err refused)
    pub unread : left ≡ had
    pub told : TellsOpening shape traits state number refused.why refused.disk after from to status

module _ {B D : Type 0} (grammar : Grammar B) (shape : Members B) (traits : Traits B) (state : D → Device) where
  -- The script was read to its end, and what followed depends on whether a reply reported a fault. The writer held the
  -- script's text by then, and nothing had been written for the user. The script's calls and what follows them made all
  -- calls of the device.
  pub record HasRun (old : Watched (State B D)) (after : D) (had left : Stream) (from to : Outputs) (status : ℕ) : Type 0 where
    pub new : Watched (State B D)
    pub between : Outputs
    pub done : IsDone grammar (AnswersWatched shape traits state) had.bytes left.bytes from.replies.bytes between.replies.bytes old new
    pub ended : HasEnded left
    pub quiet : between.person ≡ from.person
    pub ends : EndsBy shape traits state new.met new.index after between to status

  -- The script was stopped by a fault of its reader or its writer, which is reported to the user. The script's calls
  -- made all calls of the device.
  pub record WasStopped (old : Watched (State B D)) (after : D) (had left : Stream) (from to : Outputs) (status : ℕ) : Type 0 where
    pub new : Watched (State B D)
    pub fault : ScriptFault
    pub status_is : status ≡ 1
    pub stopped : IsStopped grammar (AnswersWatched shape traits state) had.bytes left.bytes from.replies.bytes to.replies.bytes old new fault
    pub faulty : IsFaultOf left to.replies fault
    pub heard : TellsFault fault (kind_of left to.replies fault) from.person to.person
    pub left_is : after ≡ device_of new.index

  -- a script was run on a watched index
  abbrev pub RunsScript : Watched (State B D) → D → Stream → Stream → Outputs → Outputs → ℕ → Type 0
  RunsScript old after had left from to status = HasRun old after had left from to status ⊎ WasStopped old after had left from to status

  -- An engine was opened, and the script run on it.
  pub record WasOpened (number frames : ℕ) (disk after : D) (had left : Stream) (from to : Outputs) (status : ℕ) : Type 0 where
    pub engine : Parts B D
    pub opening : Opens shape traits state number frames disk (Ok engine)
    pub script : RunsScript (watched_over shape traits state engine) after had left from to status

  -- A script was run over a device that was opened with so many frames, for a class of keys of this number; or the
  -- opening was refused. The device that is left is returned.
  abbrev pub RunsOver : ℕ → ℕ → D → D → Stream → Stream → Outputs → Outputs → ℕ → Type 0
  RunsOver number frames disk after had left from to status =
      WasRefused shape traits state number frames disk after had left from to status ⊎ WasOpened number frames disk after had left from to status
