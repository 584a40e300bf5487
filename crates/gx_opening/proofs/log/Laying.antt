-- The log of a device, found and laid.
use Rattle.std.proofs.Common.{◌≡◌, ◌⊎◌, inl, inr, ℕ, zero, suc, ◌+◌, ◌<◌, ◌≤◌, Bool, true, false, List, [], ◌∷◌, Result, Ok, Err, refl, sym, ap, subst, ◌∙◌, arith}
use Rattle.gx_disk.specs.Device.{Device, IsSettled, MayLeave}
use Rattle.gx_disk.specs.Looks.{Looks}
use Rattle.gx_disk.specs.Moments.{Leaves}
use Rattle.gx_disk.proofs.Leaving.{leaves_joined, leaves_weaker, rested_image}
use Rattle.gx_geom.specs.declared.refusal.Refusal.{Refusal}
use Rattle.gx_geom.specs.declared.refusal.Refusal.TheVariants.{Damaged}
use Rattle.gx_glog.specs.declared.extent.TheConstants.{PLACES}
use Rattle.gx_glog.specs.declared.extent.Extent.{Extent}
use Rattle.gx_glog.specs.Cuts.{bodies_in}
use Rattle.gx_glog.specs.Layout.{is_open, open_run, selected_of}
use Rattle.gx_recovery.specs.Known.{Known, IsLawful}
use Rattle.gx_recovery.specs.Records.{Record}
use Rattle.gx_recovery.specs.Damage.{records_of, is_undamaged}
use Rattle.gx_durable.specs.Spelled.{Reading}
use Rattle.gx_durable.specs.Bodies.{AreBodies}
use Rattle.gx_found_log.specs.declared.found.FoundLog.{FoundLog}
use Rattle.gx_found_log.specs.Found.{AreUndamaged, IsFound, LogRead, opened}
use Rattle.gx_found_log.specs.Laid.{Spares}
use Rattle.gx_found_log.specs.Redone.{HasSamePages, IsUngiven}
use Rattle.gx_found_log.specs.Restart.{RedoesFound}
use Rattle.gx_opening.specs.Laid.{HasFoundLog, IsKeptOrFound, IsSpared, LogLaid, LaysFound, LaysLog}
use Rattle.gx_opening.proofs.Sparing.{look_spares, look_spared, spares_fewer}

-- ---- how many bodies

run_few : (xs : List ℕ) (extent : Extent) (places k : ℕ) (b : Bool) → is_open xs extent k ≡ b → open_run xs extent k places ≤ places
unfolding open_run
run_few xs extent zero k b at = omega arith
run_few xs extent (suc places) k false at = rw at (omega arith)
run_few xs extent (suc places) k true at =
    let rest : open_run xs extent (k + 1) places ≤ places = run_few xs extent places (k + 1) (is_open xs extent (k + 1)) refl in
    rw at (omega (arith, rest))

pub opened_few : (seen : List ℕ) → opened seen ≤ PLACES
opened_few seen = run_few seen (selected_of seen) PLACES 0 (is_open seen (selected_of seen) 0) refl

module _ {E P : Type 0} (k : Known E P) (r : Reading E P) where
  -- no bodies are no log
  none_undamaged : (bodies : List (List (Record E P))) → AreBodies r [] bodies → is_undamaged k bodies ≡ true → ⊥
  none_undamaged [] told undamaged = absurd (grind (arith, undamaged))
  none_undamaged (body ∷ bodies) told undamaged = told

  no_bodies : (seen : List ℕ) (extent : Extent) (n : ℕ) → n ≡ 0 → AreUndamaged k r seen extent n → ⊥
  unfolding bodies_in
  no_bodies seen extent zero is log = none_undamaged log.bodies log.told log.undamaged
  no_bodies seen extent (suc n) is log = absurd (omega (arith, is))

  pub some_bodies : (seen : List ℕ) (found : FoundLog E) → IsFound k r seen found → found.bodies ≡ 0 → ⊥
  some_bodies seen found is none = no_bodies seen (selected_of seen) (opened seen) (sym is.bodies ∙ none) is.log

  pub few_bodies : (seen : List ℕ) (found : FoundLog E) → IsFound k r seen found → found.bodies ≤ PLACES
  few_bodies seen found is = let few = opened_few seen in omega (arith, few, is.bodies)

  -- ---- moments

  pub looks_keep : (a b : Device) → Looks a b → Leaves (IsKeptOrFound k r a) a b
  looks_keep a b looks = leaves_weaker (MayLeave a) (IsKeptOrFound k r a) a b (λ image may. inl may) looks.leaves

  -- what could be left after a look could be left before it
  since_look : (a b : Device) (image : List ℕ) → Looks a b → IsKeptOrFound k r b image → IsKeptOrFound k r a image
  since_look a b image looks (inl may) = inl (rested_image a b looks.rests image may)
  since_look a b image looks (inr found) = inr (subst (λ (s : List ℕ). HasFoundLog k r s image) looks.rests.seen found)

  -- the log is read, and then laid
  pub read_laid : (a b c : Device) (found : FoundLog E) (result : Result (FoundLog E) Refusal) → IsLawful k → a.honest ≡ true → b.honest ≡ a.honest → IsSettled a → Looks a b
      → IsFound k r a.seen found → LaysFound k r found b c result → LaysLog k r a c result
  read_laid a b c found result lawful honest still settled looks is lays =
      let again : IsFound k r b.seen found = subst (λ (s : List ℕ). IsFound k r s found) (sym looks.rests.seen) is in
      let laid : LaysLog k r b c result = lays lawful (still ∙ honest) (λ s. looks.pending s ∙ settled s) again in
      record {
        leaves = leaves_joined (IsKeptOrFound k r a) a b c (looks_keep a b looks)
            (leaves_weaker (IsKeptOrFound k r b) (IsKeptOrFound k r a) b c (λ image. since_look a b image looks) laid.leaves);
        spares = look_spared (IsSpared k r a.seen) a b c looks settled (subst (λ (s : List ℕ). Spares (IsSpared k r s) b c) looks.rests.seen laid.spares);
        log = subst (λ (s : List ℕ). LogLaid k r s c result) looks.rests.seen laid.log;
      }

  -- reading alone, if it is refused
  pub read_refused : (a b : Device) (why : Refusal) → IsSettled a → Looks a b → LogRead {E = E} {P = P} k r a.seen (Err why) → LaysLog k r a b (Err why)
  read_refused a b why settled looks read = record {
    leaves = looks_keep a b looks;
    spares = look_spares (IsSpared k r a.seen) a b looks settled;
    log = λ is. (looks.rests.seen, subst (λ (w : Refusal). LogRead {E = E} {P = P} k r a.seen (Err w)) is read);
  }

  -- nothing was done
  pub none_laid : (a : Device) (found : FoundLog E) → IsFound k r a.seen found → (found.bodies ≡ 0) ⊎ (PLACES < found.bodies) → LaysLog k r a a (Err Damaged)
  none_laid a found is (inl none) = absurd (some_bodies a.seen found is none)
  none_laid a found is (inr many) = absurd (let few = few_bodies a.seen found is in omega (arith, few, many))

  module _ (a b : Device) (found : FoundLog E) (lawful : IsLawful k) (honest : a.honest ≡ true) (settled : IsSettled a) (is : IsFound k r a.seen found) where
    kept_so : (image : List ℕ) → HasSamePages k r a.seen (records_of is.log.bodies) image → IsKeptOrFound k r a image
    kept_so image pages = inr (record { log = is.log; same = pages })

    spared_so : Spares (IsUngiven (records_of is.log.bodies)) a b → Spares (IsSpared k r a.seen) a b
    spared_so spares = spares_fewer (IsUngiven (records_of is.log.bodies)) (IsSpared k r a.seen) a b (λ s spared. spared is.log) spares

    -- it is redone
    pub redone_lays : (done : Unit {0}) → RedoesFound {T = Unit {0}} k r found a b (Ok done) → LaysLog k r a b (Ok found)
    redone_lays done redoes =
        let whole = redoes lawful honest settled is in
        record {
          leaves = leaves_weaker (HasSamePages k r a.seen (records_of is.log.bodies)) (IsKeptOrFound k r a) a b kept_so whole.redone.leaves;
          spares = spared_so whole.redone.spares;
          log = record {
            is = is;
            settled = whole.redone.done.settled;
            area = whole.redone.done.area;
            same = whole.redone.done.same;
            stays = record { glog = whole.redone.done.glog; written = whole.redone.done.written; sizes = λ good j below. whole.redone.done.sizes j below };
          };
        }

    -- or that is refused
    pub redo_refused : (why : Refusal) → RedoesFound {T = Unit {0}} k r found a b (Err why) → LaysLog k r a b (Err why)
    redo_refused why redoes =
        let whole = redoes lawful honest settled is in
        record {
          leaves = leaves_weaker (HasSamePages k r a.seen (records_of is.log.bodies)) (IsKeptOrFound k r a) a b kept_so whole.redone.leaves;
          spares = spared_so whole.redone.spares;
          log = λ damaged. absurd (whole.whole (ap (λ w. Err w) damaged));
        }
