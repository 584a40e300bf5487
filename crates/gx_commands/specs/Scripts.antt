-- How a script on a fresh index ends: its status, what it has read, and what it has written.
use Rattle.std.specs.Prelude.{ℕ, ◌≡◌, ◌≢◌, ◌⊎◌, codes, Option, Some, List}
use Rattle.std.specs.declared.io.ErrorKind.{ErrorKind}
use Rattle.std.specs.declared.io.ErrorKind.TheVariants.{BrokenPipe}
use Rattle.gx_machine.specs.Keys.{Keys}
use Rattle.gx_machine.specs.Machine.{fresh_machine}
use Rattle.gx_script.specs.Corners.{Grammar}
use Rattle.gx_script.specs.Scripts.{asked, IsDone, IsStopped}
use Rattle.gx_script.specs.declared.fault.ScriptFault.{ScriptFault}
use Rattle.gx_plain.specs.Index.{Index, fresh_index, CallsIndex}
use Rattle.gx_plain.specs.OneRun.{IsOneRun}
use Rattle.gx_commands.specs.Lines.{stream_sentence}
use Rattle.gx_commands.specs.Streams.{Stream, Outputs, HasEnded, IsFaultOf, Prints, TellsPerson, kind_of}

-- what a refusal of memory prints
abbrev pub memory_line : List ℕ
memory_line = codes "refused 10 memory\n"

-- memory was refused, which is written
pub record TellsMemory (old new : Stream) (status : ℕ) : Type 0 where
  pub status_is : status ≡ 1
  pub told : Prints memory_line old new

-- a fault that comes from an error of this kind is reported to the user; nothing is, if the reader of the replies has
-- closed its end
pub record TellsFault (fault : ScriptFault) (kind : Option ErrorKind) (old new : Stream) : Type 0 where
  pub quiet : kind ≡ Some BrokenPipe → new ≡ old
  pub heard : kind ≢ Some BrokenPipe → TellsPerson (stream_sentence fault kind) old new

-- memory was refused, and nothing was read
pub record LacksMemory (had left : Stream) (old new : Outputs) (status : ℕ) : Type 0 where
  pub unread : left ≡ had
  pub tells : TellsMemory old.replies new.replies status
  pub quiet : new.person ≡ old.person

-- of keys that are written so, and compared so
module _ {B : Type 0} (grammar : Grammar B) (k : Keys B) where
  -- the script ran to its end, on an index that was fresh
  pub record RanScript (had left : Stream) (old new : Outputs) (status : ℕ) : Type 0 where
    pub index : Index B
    pub status_is : status ≡ 0
    pub done : IsDone grammar (CallsIndex k) had.bytes left.bytes old.replies.bytes new.replies.bytes fresh_index index
    -- its calls and their replies are one run of the machine, and this is its text
    pub one_run : IsOneRun grammar k 1 (asked grammar done.input) fresh_machine index.machine done.text
    pub ended : HasEnded left
    pub quiet : new.person ≡ old.person

  -- the script was stopped by a fault of its reader or its writer, which is reported to the user
  pub record StoppedScript (had left : Stream) (old new : Outputs) (status : ℕ) : Type 0 where
    pub index : Index B
    pub fault : ScriptFault
    pub status_is : status ≡ 1
    pub stopped : IsStopped grammar (CallsIndex k) had.bytes left.bytes old.replies.bytes new.replies.bytes fresh_index index fault
    pub faulty : IsFaultOf left new.replies fault
    pub tells : TellsFault fault (kind_of left new.replies fault) old.person new.person

  -- how a script on a fresh index may end
  abbrev pub EndsScript : Stream → Stream → Outputs → Outputs → ℕ → Type 0
  EndsScript had left old new status =
      LacksMemory had left old new status ⊎ (RanScript had left old new status ⊎ StoppedScript had left old new status)
