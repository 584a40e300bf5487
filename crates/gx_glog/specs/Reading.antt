-- What reading a body returns.
use Rattle.std.specs.Prelude.{◌≡◌, ℕ, ◌+◌, ◌≤◌, List, true, false, Option, Some, None, Result, Ok, Err}
use Rattle.gx_geom.specs.declared.refusal.Refusal.{Refusal}
use Rattle.gx_geom.specs.declared.refusal.Refusal.TheVariants.{Device, Damaged}
use Rattle.gx_disk.specs.Device as disk
use Rattle.gx_glog.specs.declared.extent.TheConstants.{BODY_ROOM}
use Rattle.gx_glog.specs.Layout.{is_open, body_of, size_in}
use Rattle.gx_glog.specs.declared.extent.Extent.{Extent}

-- so many bytes of records fit a body, and there are some
abbrev pub IsSize : ℕ → Type 0
IsSize t = (1 ≤ t) × (t ≤ BODY_ROOM)

-- the gate is closed; or it is open, and the body is read with its size; or its size is out of range
abbrev pub ReadsBody : List ℕ → Extent → ℕ → List ℕ → Result (Option ℕ) Refusal → Type 0
ReadsBody seen extent k body (Ok None) = is_open seen extent k ≡ false
ReadsBody seen extent k body (Ok (Some t)) = (is_open seen extent k ≡ true) × (body ≡ body_of seen extent k) × (t ≡ size_in body) × IsSize t
ReadsBody seen extent k body (Err Damaged) = (is_open seen extent k ≡ true) × (IsSize (size_in (body_of seen extent k)) → ⊥)
ReadsBody seen extent k body (Err refusal) = Unit {0}

-- A reading makes no write and no sync. It is refused by the device's fault, or because of damage.
abbrev pub Refuses : {T : Type 0} → disk.Device → disk.Device → Result T Refusal → Type 0
Refuses old new (Ok x) = new.faults ≡ old.faults
Refuses old new (Err Device) = new.faults ≡ old.faults + 1
Refuses old new (Err Damaged) = new.faults ≡ old.faults
Refuses old new (Err refusal) = ⊥

pub record CountsReads {T : Type 0} (old new : disk.Device) (result : Result T Refusal) : Type 0 where
  pub sectors : new.sectors ≡ old.sectors
  pub honest : new.honest ≡ old.honest
  pub calls : new.calls ≡ old.calls
  pub faults : Refuses old new result
