-- The redo of a log that was found.
use Rattle.std.proofs.Common.{◌≡◌, sym, subst, ℕ}
use Rattle.std.specs.Prelude.{Result, Ok, Err, IfErr}
use Rattle.gx_geom.specs.declared.refusal.Refusal.{Refusal}
use Rattle.gx_geom.specs.declared.refusal.Refusal.TheVariants as refusal
use Rattle.gx_disk.specs.Device.{Device, IsSettled}
use Rattle.gx_glog.specs.Cuts.{open_bodies}
use Rattle.gx_recovery.specs.Known.{Known}
use Rattle.gx_recovery.specs.Damage.{records_of}
use Rattle.gx_recovery.proofs.DamageItems.{bodies_log}
use Rattle.gx_durable.specs.Spelled.{Reading}
use Rattle.gx_durable.specs.Area.{HasPages}
use Rattle.gx_found_log.specs.declared.found.FoundLog.{FoundLog}
use Rattle.gx_found_log.specs.Found.{IsFound}
use Rattle.gx_found_log.specs.Redone.{IsFoundOn, FoundIsOnDevice}
use Rattle.gx_found_log.proofs.OnDevice.{all_on_device}

module _ {E P : Type 0} (k : Known E P) (r : Reading E P) where
  -- a log that is found on what is read of a synced device
  pub found_on : (d : Device) (log : FoundLog E) (pages : ℕ) → k.pages ≡ pages → HasPages pages d.sectors → IsSettled d → (is : IsFound k r d.seen log) → IsFoundOn k r d is.log.bodies
  unfolding open_bodies
  found_on d log pages same has settled is = record {
    settled = settled;
    pages = subst (λ n. HasPages n d.sectors) (sym same) has;
    sizes = is.log.sizes;
    told = is.log.told;
    undamaged = is.log.undamaged;
  }

  -- gives pages that the device has
  pub found_on_device : FoundIsOnDevice k r
  found_on_device l seen log is = all_on_device k l (records_of is.log.bodies) (bodies_log k is.log.bodies is.log.undamaged) r log.given is.given

-- a refusal that is the device's isn't damage
pub not_damaged : {T : Type 0} (result : Result T Refusal) → IfErr result (λ why. why ≡ refusal.Device) → result ≡ Err refusal.Damaged → ⊥
not_damaged (Ok x) is damaged = cc
not_damaged (Err why) is damaged = cc
