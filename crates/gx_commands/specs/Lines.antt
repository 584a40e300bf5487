-- What the commands print for readers of replies and for the user.
use Rattle.std.specs.Prelude.{ℕ, ◌-◌, codes, decimal, length, nat_le, if◌then◌else◌, Option, None, Some, List, [], ◌∷◌, ◌++◌}
use Rattle.std.specs.declared.io.ErrorKind.{ErrorKind}
use Rattle.std.specs.declared.io.ErrorKind.TheVariants as error
use Rattle.gx_disk.specs.declared.device.DiskFault.{DiskFault}
use Rattle.gx_disk.specs.declared.device.DiskFault.TheVariants as disk
use Rattle.gx_geom.specs.declared.refusal.Refusal.{Refusal}
use Rattle.gx_geom.specs.declared.refusal.Refusal.TheVariants.{Memory, Device, Failed, Damaged, NotFormatted, OldVersion, TooSmall, BadParameter}
use Rattle.gx_geom.specs.Refusals.{refusal_number, refusal_text}
use Rattle.gx_opening.specs.Texts.{damage_text}
use Rattle.gx_opening.specs.declared.damage.Damage.{Damage}
use Rattle.gx_restart.specs.declared.verification.Report.{Report}
use Rattle.gx_script.specs.declared.fault.ScriptFault.{ScriptFault}
use Rattle.gx_script.specs.declared.fault.ScriptFault.TheVariants.{Read, Write}

-- a refusal outside of a script: its number and its text
abbrev pub refusal_line : Refusal → List ℕ
refusal_line why = codes "refused " ++ (decimal (refusal_number why) ++ (32 ∷ (refusal_text why ++ (10 ∷ []))))

-- a format: its pages, and how many entries a node has at most
abbrev pub formatted_line : ℕ → ℕ → List ℕ
formatted_line pages most = codes "formatted pages " ++ (decimal pages ++ (codes " fanout " ++ (decimal most ++ (10 ∷ []))))

-- a device that was verified: the number of the last commit, how many entries its set has, and the greatest page in use
abbrev pub verified_line : Report → List ℕ
verified_line r =
    codes "ok commits " ++ (decimal r.commits ++ (codes " entries " ++ (decimal r.entries ++ (codes " used " ++ (decimal r.used ++ (10 ∷ []))))))

-- an index that was migrated: the number of the last commit, and the greatest page in use
abbrev pub migrated_line : ℕ → ℕ → List ℕ
migrated_line commits used = codes "migrated commits " ++ (decimal commits ++ (codes " used " ++ (decimal used ++ (10 ∷ []))))

-- what is reported to the user of a refusal outside of a script
abbrev pub sentence_of : Refusal → List ℕ
sentence_of Memory = codes "there isn't enough memory"
sentence_of Device = codes "a read, a write or a sync of the device failed"
sentence_of Failed = codes "the device had failed before"
sentence_of Damaged = codes "what the device holds is damaged"
sentence_of NotFormatted = codes "the device holds no index; it has to be formatted first"
sentence_of OldVersion = codes "the index is of an older version; gist migrate makes one of this version from it"
sentence_of TooSmall = codes "the file is shorter than any index, or was cut"
sentence_of BadParameter = codes "a number is out of its range, or the index has another kind of keys"
sentence_of other = refusal_text other

-- what is reported to the user of damage: where it is, and which rule is broken there
abbrev pub damage_sentence : Damage → List ℕ
damage_sentence damage = codes "what the device holds is damaged: " ++ damage_text damage

-- what is reported to the user after a script if one of its replies reported a fault
abbrev pub fault_sentence : List ℕ
fault_sentence = codes "the device failed, or what it holds is damaged; what isn't committed is lost"

-- an error of the system of this kind
abbrev pub kind_text : ErrorKind → List ℕ
kind_text error.NotFound = codes "no such file or directory"
kind_text error.PermissionDenied = codes "permission denied"
kind_text error.NotADirectory = codes "not a directory"
kind_text error.IsADirectory = codes "is a directory"
kind_text error.ReadOnlyFilesystem = codes "read-only file system"
kind_text error.FilesystemLoop = codes "too many symbolic links"
kind_text error.InvalidFilename = codes "the name is too long"
kind_text error.InvalidInput = codes "invalid argument"
kind_text error.StorageFull = codes "no space left on device"
kind_text error.QuotaExceeded = codes "disk quota exceeded"
kind_text error.FileTooLarge = codes "file too large"
kind_text error.ResourceBusy = codes "device or resource busy"
kind_text error.ExecutableFileBusy = codes "the program in it is running"
kind_text error.NotSeekable = codes "it has no places to read at"
kind_text error.StaleNetworkFileHandle = codes "stale file handle"
kind_text error.UnexpectedEof = codes "it is shorter than it was"
kind_text error.WouldBlock = codes "the call would wait"
kind_text error.TimedOut = codes "timed out"
kind_text error.ConnectionReset = codes "connection reset"
kind_text error.OutOfMemory = codes "out of memory"
kind_text error.Unsupported = codes "not supported"
kind_text _ = codes "another error of the system"

-- why a file couldn't be opened, or a call of it failed
abbrev pub fault_text : DiskFault → List ℕ
fault_text disk.Memory = codes "out of memory"
fault_text disk.Fuse = codes "the call was made to fail"
fault_text (disk.File kind) = kind_text kind
fault_text disk.InputOutput = codes "input or output error"
fault_text disk.InUse = codes "another process has it in use"
fault_text disk.ReadOnly = codes "it is open for reading alone"

-- that, after the name of the file; without the name if that is too long for a line
abbrev pub named : List ℕ → List ℕ → List ℕ
named file why = if nat_le (length file) (1022 - length why) then file ++ (codes ": " ++ why) else why

-- which stream of a script failed
abbrev pub stream_text : ScriptFault → List ℕ
stream_text Read = codes "the script can't be read"
stream_text Write = codes "a reply can't be written"

-- that, and why, if the stream gave an error
abbrev pub stream_sentence : ScriptFault → Option ErrorKind → List ℕ
stream_sentence fault None = stream_text fault
stream_sentence fault (Some kind) = stream_text fault ++ (codes ": " ++ kind_text kind)
