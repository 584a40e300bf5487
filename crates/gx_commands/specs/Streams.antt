-- What contracts know of a command's streams.
use Rattle.std.specs.Prelude.{ℕ, ◌≡◌, ◌≤◌, ◌⊎◌, Option, Some, List, [], ◌∷◌, ◌++◌, codes}
use Rattle.std.specs.Io.KnownBytes.{Appends}
use Rattle.std.specs.declared.io.ErrorKind.{ErrorKind}
use Rattle.gx_script.specs.declared.noted.Noted.{Noted}
use Rattle.gx_script.specs.declared.noted.Transfer.{Transfer}
use Rattle.gx_script.specs.declared.noted.Transfer.TheVariants.{Nothing, Failed}
use Rattle.gx_script.specs.declared.fault.ScriptFault.{ScriptFault}
use Rattle.gx_script.specs.declared.fault.ScriptFault.TheVariants.{Read, Write}
use Rattle.gx_script.specs.Noting.{most_calls}
use Rattle.gx_script.specs.Writes.{IsCut}

-- A reader or a writer: the bytes that it still has or holds, if they are known; how its last call ended; the kind of
-- the last error that it gave; and how many calls were made.
pub record Stream : Type 0 where
  pub bytes : Option (List ℕ)
  pub last : Option Transfer
  pub kind : Option ErrorKind
  pub calls : ℕ

abbrev pub stream_of : {T : Type 0} → (T → Option (List ℕ)) → Noted T → Stream
stream_of bytes noted = record { bytes = bytes noted.inner; last = noted.last; kind = noted.kind; calls = noted.calls }

-- What a command writes to: one writer for replies and one for the user.
pub record Outputs : Type 0 where
  pub replies : Stream
  pub person : Stream

abbrev pub outputs_of : {W E : Type 0} → (W → Option (List ℕ)) → (E → Option (List ℕ)) → Noted W → Noted E → Outputs
outputs_of held told writer faults = record { replies = stream_of held writer; person = stream_of told faults }

-- a reader is at its end: its last call gave nothing
abbrev pub HasEnded : Stream → Type 0
HasEnded s = s.last ≡ Some Nothing

-- its last call failed, or too many were made
abbrev pub HasFailed : Stream → Type 0
HasFailed s = (s.last ≡ Some Failed) ⊎ (most_calls ≤ s.calls)

-- a writer's last call failed or took nothing, or too many were made
abbrev pub TakesNoMore : Stream → Type 0
TakesNoMore s = (s.last ≡ Some Nothing) ⊎ HasFailed s

-- a script's fault is its reader's or its writer's
abbrev pub IsFaultOf : Stream → Stream → ScriptFault → Type 0
IsFaultOf read written Read = HasFailed read
IsFaultOf read written Write = TakesNoMore written

-- the kind of the error that it comes from, if one was given
abbrev pub kind_of : Stream → Stream → ScriptFault → Option ErrorKind
kind_of read written Read = read.kind
kind_of read written Write = written.kind

-- a text was written; or a front of it, and the writer takes no more
abbrev pub Prints : List ℕ → Stream → Stream → Type 0
Prints text old new = Appends old.bytes new.bytes text ⊎ (IsCut old.bytes new.bytes text × TakesNoMore new)

-- the line that reports this sentence to the user
abbrev pub person_line : List ℕ → List ℕ
person_line sentence = codes "gist: " ++ (sentence ++ (10 ∷ []))

-- this sentence was written for the user
abbrev pub TellsPerson : List ℕ → Stream → Stream → Type 0
TellsPerson sentence old new = Prints (person_line sentence) old new
