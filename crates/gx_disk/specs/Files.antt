-- A device in a file: what an error of the system is, how the file is opened, and what a call leaves of that.
use Rattle.std.specs.Prelude.{◌≡◌, pos, Bool, None, Some, Result, MatchResult}
use Rattle.std.specs.IoError.{error_kind, raw_os_error}
use Rattle.std.specs.declared.io.Error.{Error}
use Rattle.gx_disk.specs.declared.device.DiskFault.{DiskFault}
use Rattle.gx_disk.specs.declared.device.DiskFault.TheVariants.{File, InputOutput}
use Rattle.gx_disk.specs.declared.file.FileDisk.{FileDisk}

-- an error of the system is a fault of its kind; but an input or output error, number 5, is a separate fault
pub record IsFaultOf (error : Error) (fault : DiskFault) : Type 0 where
  pub kind : (raw_os_error error ≡ Some (pos 5) → ⊥) → fault ≡ File (error_kind error)
  pub io : raw_os_error error ≡ Some (pos 5) → fault ≡ InputOutput

-- no call was made of it, and so none failed; it was opened for writing too, or for reading alone
pub record IsOpened (writable : Bool) (disk : FileDisk) : Type 0 where
  pub access : disk.writable ≡ writable
  pub faults : disk.faults.count ≡ 0
  pub calls : disk.calls.count ≡ 0
  pub fault : disk.fault ≡ None

-- a call of it leaves how it was opened, and why the last call failed, unless it fails itself
pub record KeepsFault {T : Type 0} (old new : FileDisk) (result : Result T DiskFault) : Type 0 where
  pub access : new.writable ≡ old.writable
  pub fault : MatchResult result (λ _. new.fault ≡ old.fault) (λ fault. new.fault ≡ Some fault)
