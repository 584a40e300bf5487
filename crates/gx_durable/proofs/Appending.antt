-- A record that was appended, and the log is still up.
use Rattle.std.proofs.Common.{◌≡◌, sym, ap, subst, ◌<◌, arith}
use Rattle.gx_record.specs.Rec.{Rec}
use Rattle.gx_record.specs.Format.{IsInRange, spelling}
use Rattle.gx_glog.specs.declared.extent.TheConstants.{PLACES}
use Rattle.gx_glog.specs.declared.filling.Appended.{Appended}
use Rattle.gx_glog.specs.declared.filling.Appended.TheVariants.{At, NoRoom}
use Rattle.gx_glog.specs.Appending.{Appends}
use Rattle.gx_glog.specs.State.{Log, turning}
use Rattle.gx_glog.proofs.Besides.{spelled_some}
use Rattle.gx_glog.proofs.Keeping.{append_on}
use Rattle.gx_recovery.specs.Known.{Known}
use Rattle.gx_recovery.specs.Logged.{appended}
use Rattle.gx_recovery.proofs.Lives.{appended_healthy}
use Rattle.gx_durable.specs.Spelled.{Reading, record_read}
use Rattle.gx_durable.specs.Stamps.{Stamped}
use Rattle.gx_durable.specs.Standing.{Up}
use Rattle.gx_durable.specs.Calls.{AppendPlaces, AppendStaysUp, AppendStaysStamped}
use Rattle.gx_durable.proofs.Fitting.{appended_fit}
use Rattle.gx_durable.proofs.Spellings.{spelling_adds}
use Rattle.gx_durable.proofs.Stamping.{longer_placed, same_placed}

module _ {E P : Type 0} (k : Known E P) (r : Reading E P) (x : Rec) (old new : Log) where
  pub append_up : (result : Appended) → IsInRange x → old.used < PLACES → Appends (spelling x) old new result → AppendStaysUp k r x old new result
  append_up (At place) range room appends sectors seen pending bodies s l key may fit up =
      let still = appends.3 in
      let U : Log → Type 0 = λ g. Up k r g sectors seen pending bodies (appended (record_read r x) s) in
      let c = up.carries in
      let rests : turning old.turn ≡ 0 = ap turning still in
      subst U (sym appends.2) (record {
        on = append_on old (spelling x) seen pending still room appends.0 up.on;
        carries = record {
          told = record {
            gated_bodies = c.told.gated_bodies;
            gated = c.told.gated;
            flight = c.told.flight;
            filling = spelling_adds r old.filling s.filling x c.told.filling (record { in_range = range; has_key = key });
          };
          undamaged = c.undamaged;
          healthy = appended_healthy k l s c.healthy (record_read r x) may;
          fit = appended_fit k r (record_read r x) s fit c.fit;
          has_pages = c.has_pages;
          head = c.head;
          area = c.area;
          settled = c.settled;
          turn = λ turns. absurd (omega (arith, rests, turns));
        };
      })
  append_up NoRoom range room appends sectors seen pending bodies s l key may fit up =
      let U : Log → Type 0 = λ g. Up k r g sectors seen pending bodies s in subst U (sym appends.1) up

module _ {E P : Type 0} (r : Reading E P) (x : Rec) (old new : Log) where
  pub append_stamped : (result : Appended) → Appends (spelling x) old new result → AppendStaysStamped r x old new result
  append_stamped (At place) appends frames s stamped =
      let S : Log → Type 0 = λ g. Stamped g frames (appended (record_read r x) s) in
      subst S (sym appends.2) (record { behind = stamped.behind; places = stamped.places; gated = stamped.gated; flight = stamped.flight })
  append_stamped NoRoom appends frames s stamped = let S : Log → Type 0 = λ g. Stamped g frames s in subst S (sym appends.1) stamped

pub append_placed : (x : Rec) (old new : Log) (result : Appended) → Appends (spelling x) old new result → AppendPlaces old new result
append_placed x old new (At place) appends = λ frames last.
    longer_placed old new (spelling x) frames (spelled_some x) (ap (λ (g : Log). g.used) appends.2) (ap (λ (g : Log). g.filling) appends.2) last
append_placed x old new NoRoom appends = λ frames placed. same_placed old new frames (ap (λ (g : Log). g.used) appends.1) (ap (λ (g : Log). g.filling) appends.1) placed
