-- Of which boxes a device's index is, by the class that was read.
use Rattle.std.proofs.Common.{◌≡◌, ◌≢◌, ℕ, arith, refl, subst}
use Rattle.std.specs.Prelude.{Some, Ok}
use Rattle.gx_disk.specs.Device.{Device}
use Rattle.gx_geom.specs.declared.refusal.Refusal.TheVariants.{BadParameter}
use Rattle.gx_older.specs.Class as older
use Rattle.gx_restart.specs.Class.{ReadsClass}
use Rattle.gx_commands.specs.Devices.{FindsKind, FindsNone, HasKind}
use Rattle.gx_commands.specs.Migrating.{FindsNoneOlder, FindsOlder}
use Rattle.gx_commands.specs.declared.devices.Kind.{Kind}
use Rattle.gx_commands.specs.declared.devices.Kind.TheVariants.{Plane, Space}

module _ {D : Type 0} (state : D → Device) (old new : D) (class : ℕ) (read : ReadsClass state old new (Ok class)) where
  pub found : (kind : Kind) → HasKind class (Some kind) → FindsKind state old new (Ok kind)
  found Plane is = subst (λ (n : ℕ). ReadsClass state old new (Ok n)) is read
  found Space is = subst (λ (n : ℕ). ReadsClass state old new (Ok n)) is read

  pub none_found : (class ≢ 1) × (class ≢ 3) → FindsNone state old new BadParameter
  none_found other = record {
    class = Ok class;
    read = read;
    because = (let known = read.known in omega (arith, known.0, known.1, other.0, other.1), refl);
  }

module _ {D : Type 0} (state : D → Device) (old new : D) (told : ℕ × ℕ) (read : older.ReadsClass state old new (Ok told)) where
  pub older_found : (kind : Kind) → HasKind told.0 (Some kind) → FindsOlder state old new (Ok (kind, told.1))
  older_found Plane is = subst (λ (n : ℕ). older.ReadsClass state old new (Ok (n, told.1))) is read
  older_found Space is = subst (λ (n : ℕ). older.ReadsClass state old new (Ok (n, told.1))) is read

  pub no_older_found : (told.0 ≢ 1) × (told.0 ≢ 3) → FindsNoneOlder state old new BadParameter
  no_older_found other = record {
    told = Ok told;
    read = read;
    because = (let known = read.known in omega (arith, known.first, known.last, other.0, other.1), refl);
  }

-- a class that was read, by the boxes that were found
module _ {D : Type 0} (state : D → Device) (old new : D) (kind : Kind) where
  pub plane_read : kind ≡ Plane → FindsKind state old new (Ok kind) → ReadsClass state old new (Ok 1)
  plane_read is finds = subst (λ (k : Kind). FindsKind state old new (Ok k)) is finds

  pub space_read : kind ≡ Space → FindsKind state old new (Ok kind) → ReadsClass state old new (Ok 3)
  space_read is finds = subst (λ (k : Kind). FindsKind state old new (Ok k)) is finds
