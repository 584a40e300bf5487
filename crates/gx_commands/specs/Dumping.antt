-- How a dump over a device ends: its status, and what it has written.
use Rattle.std.specs.Prelude.{ℕ, ◌≡◌, ◌⊎◌, false, Result, Ok, Err, IfErr, OnOk}
use Rattle.std.specs.Io.KnownBytes.{Appends}
use Rattle.gx_machine.specs.Keys.{Members}
use Rattle.gx_script.specs.Corners.{Grammar}
use Rattle.gx_script.specs.declared.fault.ScriptFault.TheVariants.{Write}
use Rattle.gx_script.specs.Writes.{IsCut}
use Rattle.gx_class.specs.Traits.{Traits, own}
use Rattle.gx_disk.specs.Device.{Device}
use Rattle.gx_node.specs.Trees.{Tree}
use Rattle.gx_node.specs.Reading.{format_of, is_node}
use Rattle.gx_glog.specs.declared.parameters.Parameters.{Parameters}
use Rattle.gx_recovery.specs.Analysis.{number_of}
use Rattle.gx_recovery.specs.Damage.{records_of}
use Rattle.gx_recovery.specs.Known.{Limits}
use Rattle.gx_index_laws.specs.States as index
use Rattle.gx_index_laws.specs.States.{tree_now}
use Rattle.gx_index_laws.specs.Whole.{IsWhole}
use Rattle.gx_durable.specs.Classes.{class_of, reading_of}
use Rattle.gx_engine.specs.declared.start.NotOpened.{NotOpened}
use Rattle.gx_engine.specs.States.{Parts}
use Rattle.gx_opening.specs.Standing.{IsFormatted, known_for, limits_of}
use Rattle.gx_restart.specs.Beginning.{HasFoundSet, IsGoodLog}
use Rattle.gx_engine.specs.Resting.{KeepsSessions}
use Rattle.gx_restart.specs.Bringing.{Brings, Helps}
use Rattle.gx_restart.specs.Reading.{OfItsTree, Reads}
use Rattle.gx_restart.specs.Text.{dump_text}
use Rattle.gx_restart.specs.Alone.{RunsOn}
use Rattle.gx_restart.specs.Dumped.{Dumps}
use Rattle.gx_restart.specs.States.{State}
use Rattle.gx_restart.specs.declared.fault.DumpFault.{DumpFault}
use Rattle.gx_restart.specs.declared.fault.DumpFault.TheVariants as fault
use Rattle.gx_commands.specs.Scripts.{TellsFault}
use Rattle.gx_commands.specs.Streams.{Outputs, TakesNoMore}
use Rattle.gx_commands.specs.Endings.{device_of}
use Rattle.gx_commands.specs.Openings.{Opens}
use Rattle.gx_commands.specs.Refusing.{Refuses, TellsOpening}

-- A dump's refusal is written after the text so far; if the writer failed, that is reported to the user; if the dump
-- ended well, nothing more is written.
abbrev pub TellsDump : Result (Unit {0}) DumpFault → Outputs → Outputs → ℕ → Type 0
TellsDump (Ok done) old new status = (status ≡ 0) × (new ≡ old)
TellsDump (Err fault.Write) old new status =
    (status ≡ 1) × ((new.replies ≡ old.replies) × (TakesNoMore old.replies × TellsFault Write old.replies.kind old.person new.person))
TellsDump (Err (fault.Refused why)) old new status = Refuses why old new status

module _ {B D : Type 0} (shape : Members B) (traits : Traits B) (state : D → Device) where
  -- this holds of the tree of whatever index an engine held
  abbrev pub OfTree : Parts B D → (Tree B → Type 0) → Type 0
  OfTree engine P = (l : Limits) → OfItsTree (class_of shape traits.is_proper l) (reading_of traits.said (format_of (own traits))) (format_of (own traits)) (is_node (format_of (own traits))) state engine P

  -- an index over an engine
  abbrev pub index_over : Parts B D → State B D
  index_over engine = record { engine = engine; ended = false }

  -- The opening was refused, which is reported.
  pub record IsNotDumped (number frames : ℕ) (disk after : D) (from to : Outputs) (status : ℕ) : Type 0 where
    pub refused : NotOpened D
    pub opening : Opens shape traits state number frames disk (Err refused)
    pub told : TellsOpening shape traits state number refused.why refused.disk after from to status

module _ {B D : Type 0} (grammar : Grammar B) (shape : Members B) (traits : Traits B) (state : D → Device) where
  -- An index was dumped, with this result, which is reported, and its device is returned. The writer held the tree's
  -- text by then; or only a beginning of it, if the dump did not end well.
  pub record DumpsIndex (old : State B D) (after : D) (from to : Outputs) (status : ℕ) : Type 0 where
    pub result : Result (Unit {0}) DumpFault
    pub new : State B D
    pub between : Outputs
    pub dumps : Dumps (Brings shape traits state) (Helps shape traits state) old result new
    pub text : OnOk result (OfTree shape traits state old.engine (λ t. Appends from.replies.bytes between.replies.bytes (dump_text grammar old.engine.sessions.latest t)))
    pub cut : IfErr result (λ why. OfTree shape traits state old.engine (λ t. IsCut from.replies.bytes between.replies.bytes (dump_text grammar old.engine.sessions.latest t)))
    pub reads : OnOk result ((l : Limits) → Reads (class_of shape traits.is_proper l) (reading_of traits.said (format_of (own traits))) (format_of (own traits)) (is_node (format_of (own traits))) state old.engine new.engine)
    pub runs : (l : Limits) → RunsOn (class_of shape traits.is_proper l) (reading_of traits.said (format_of (own traits))) (format_of (own traits)) (is_node (format_of (own traits))) state old.engine new.engine
    pub keeps : KeepsSessions old.engine new.engine
    pub quiet : between.person ≡ from.person
    pub told : TellsDump result between to status
    pub left : after ≡ device_of new

  -- An engine was opened, and the index over it dumped.
  pub record IsDumped (number frames : ℕ) (disk after : D) (from to : Outputs) (status : ℕ) : Type 0 where
    pub engine : Parts B D
    pub opening : Opens shape traits state number frames disk (Ok engine)
    pub dump : DumpsIndex (index_over shape traits state engine) after from to status

  -- The index of a device that was opened with so many frames was dumped, for a class of keys of this number; or the
  -- opening was refused. The device that is left is returned.
  abbrev pub DumpsOver : ℕ → ℕ → D → D → Outputs → Outputs → ℕ → Type 0
  DumpsOver number frames disk after from to status =
      IsNotDumped shape traits state number frames disk after from to status ⊎ IsDumped number frames disk after from to status

  -- A device is formatted for an index of the class, and has a sound log. What was written is the text of the tree of a whole index that
  -- has the one set which this log keeps, with that set's number.
  pub record TellsKept (number : ℕ) (disk : D) (from to : Outputs) : Type 0 where
    pub parameters : Parameters
    pub formatted : IsFormatted shape traits.is_proper traits.said (format_of (own traits)) number (state disk) parameters
    pub found : IsGoodLog shape traits.is_proper traits.said (format_of (own traits)) parameters (state disk).seen
    pub index : index.State B
    pub whole : IsWhole (class_of shape traits.is_proper (limits_of parameters)) index
    pub set : HasFoundSet shape traits.is_proper traits.said (format_of (own traits)) parameters (state disk).seen found.log index
    pub wrote : Appends from.replies.bytes to.replies.bytes
        (dump_text grammar (number_of (known_for shape traits.is_proper traits.said (format_of (own traits)) parameters) (records_of found.log.bodies)) (tree_now (class_of shape traits.is_proper (limits_of parameters)) index))
