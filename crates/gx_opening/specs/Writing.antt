-- In which order an opening's calls are made: a sync, and then what is written.
use Rattle.std.specs.Prelude.{◌≡◌, ◌⊎◌, ◌+◌, ◌≤◌}
use Rattle.gx_geom.specs.declared.refusal.Refusal.{Refusal}
use Rattle.gx_geom.specs.declared.refusal.Refusal.TheVariants.{BadParameter, NotFormatted, OldVersion, TooSmall}
use Rattle.gx_disk.specs.Device.{Device, IsSettled}
use Rattle.gx_opening.specs.Formatted.{OnlyRests}

-- Nothing was written: at most one sync was made.
pub record IsUnwritten (d e : Device) : Type 0 where
  pub calls : e.calls ≤ d.calls + 1
  pub only : OnlyRests d e

-- Of writes and syncs one sync was made, which succeeded: all is settled, and nothing reads otherwise.
pub record IsSynced (d e : Device) : Type 0 where
  pub sectors : e.sectors ≡ d.sectors
  pub honest : e.honest ≡ d.honest
  pub calls : e.calls ≡ d.calls + 1
  pub only : OnlyRests d e
  pub settled : IsSettled e

module _ {D : Type 0} (state : D → Device) (goes : Device → Device → Type 0) where
  -- A sync came first; and so it went on from the device that this left.
  pub record SyncsFirst (d e : Device) : Type 0 where
    pub middle : D
    pub synced : IsSynced d (state middle)
    pub later : goes (state middle) e

  -- nothing was written, or a sync came first
  abbrev pub IsInOrder : Device → Device → Type 0
  IsInOrder d e = IsUnwritten d e ⊎ SyncsFirst d e

-- a device isn't one of the class, by what it is formatted for and by how many sectors it has
abbrev pub IsUnfit : Refusal → Type 0
IsUnfit why = (why ≡ OldVersion) ⊎ ((why ≡ NotFormatted) ⊎ ((why ≡ BadParameter) ⊎ (why ≡ TooSmall)))
