-- An image with the log that was found, and the same pages after it, stands for what that log keeps.
use Rattle.std.proofs.Common.{◌≡◌, inl, ℕ, ◌≤◌, Bool, List, [], ◌∷◌, refl, sym, ap, subst, ◌∙◌, arith}
use Rattle.gx_disk.specs.Device.{Device}
use Rattle.gx_page.specs.Contents.{Contents}
use Rattle.gx_glog.specs.declared.extent.TheConstants.{PLACES}
use Rattle.gx_glog.specs.Cuts.{bodies_in, open_bodies}
use Rattle.gx_glog.specs.Layout.{open_run, selected_of}
use Rattle.gx_pool.specs.Area.{IsPassing, bytes_of}
use Rattle.gx_recovery.specs.Coming.{Placed}
use Rattle.gx_recovery.specs.Analysis.{Analysis}
use Rattle.gx_recovery.specs.Damage.{IsLog, records_of}
use Rattle.gx_recovery.specs.Known.{Known, IsLawful, Tree}
use Rattle.gx_recovery.specs.Logged.{AgreesBeside}
use Rattle.gx_recovery.specs.Records.{Record, Touch}
use Rattle.gx_recovery.specs.Redo.{tree_of}
use Rattle.gx_recovery.specs.Renewal.{found}
use Rattle.gx_recovery.proofs.DamageItems.{bodies_log}
use Rattle.gx_recovery.proofs.Given.{ungiven_is_untouched}
use Rattle.gx_recovery.proofs.Lives.{left_stands}
use Rattle.gx_recovery.proofs.Moves.{found_as_state}
use Rattle.gx_durable.specs.Area.{area_of}
use Rattle.gx_durable.specs.Bodies.{AreBodies}
use Rattle.gx_durable.specs.Fitting.{AreGood}
use Rattle.gx_durable.specs.Head.{head_in}
use Rattle.gx_durable.specs.Legal.{AgreeOnUsed, ReadsUsed}
use Rattle.gx_durable.specs.Spelled.{Reading}
use Rattle.gx_durable.specs.Standing.{Stands}
use Rattle.gx_durable.proofs.Fitting.{gated_fit}
use Rattle.gx_durable.proofs.Legality.{area_page, used_fits}
use Rattle.gx_found_log.specs.declared.found.FoundLog.{FoundLog}
use Rattle.gx_opening.specs.Laid.{HasFoundLog, IsLaid}
use Rattle.gx_opening.specs.Sound.{AreSound, tree_read}

pub bodies_are : (seen : List ℕ) → open_bodies seen ≡ bodies_in seen (selected_of seen) (open_run seen (selected_of seen) 0 PLACES)
unfolding open_bodies
bodies_are seen = refl

module _ {E P : Type 0} (k : Known E P) (l : IsLawful k) (r : Reading E P) (seen image : List ℕ) (has : HasFoundLog k r seen image) where
  abbrev log : List (Record E P)
  log = records_of has.log.bodies

  is_log : IsLog k log
  is_log = bodies_log k has.log.bodies has.log.undamaged

  agrees : AgreesBeside log (area_of r k.pages seen) (area_of r k.pages image)
  agrees p ungiven = sym (ungiven_is_untouched k log p (area_of r k.pages image) is_log ungiven) ∙ has.same.pages p ∙ ungiven_is_untouched k log p (area_of r k.pages seen) is_log ungiven

  told : AreBodies r (open_bodies image) has.log.bodies
  told = subst (λ (b : List (List ℕ)). AreBodies r b has.log.bodies) (sym (has.same.bodies ∙ bodies_are seen)) has.log.told

  pub found_stands : head_in seen ≡ k.head → AreGood k r (area_of r k.pages seen) log → Stands k r (found (area_of r k.pages seen) log) image
  found_stands says good = record {
    head = has.same.head ∙ says;
    bodies = has.log.bodies;
    told = told;
    undamaged = has.log.undamaged;
    sizes = has.same.sizes has.log.sizes;
    stands = left_stands k l (found (area_of r k.pages seen) log) (found_as_state k (area_of r k.pages seen) log is_log good.good) (area_of r k.pages image) log
        (record { area_agrees = agrees; log_read = inl refl });
    fit = gated_fit k r l log (area_of r k.pages seen) (area_of r k.pages image) agrees good.fit;
  }

-- ---- pages that are sound are good for the log that was laid on them

module _ {E P : Type 0} (k : Known E P) (l : IsLawful k) (r : Reading E P) (reads : ReadsUsed k) (passes : Contents → Bool) (seen : List ℕ) (e : Device) (log : FoundLog E) (laid : IsLaid k r seen e log) where
  abbrev records : List (Record E P)
  records = records_of laid.is.log.bodies

  abbrev as_read : Tree P
  as_read = tree_read k r passes log.analysis.told e.seen

  abbrev as_told : Tree P
  as_told = tree_of k (area_of r k.pages seen) records

  agree : AgreeOnUsed as_read as_told
  agree = record {
    counter = ap (λ (a : Analysis E). a.counter) (sym laid.is.kept.told);
    used = ap (λ (a : Analysis E). a.used) (sym laid.is.kept.told);
    pages = λ p low high. sym (laid.area p);
  }

  placed_too : (touched : List (Touch E)) → Placed k as_read touched → Placed k as_told touched
  placed_too [] all = tt
  placed_too (x ∷ touched) all = (reads.placed as_read as_told agree x.entry x.leaf all.0, placed_too touched all.1)

  module _ (fits : (page : ℕ) (bytes : List ℕ) → IsPassing passes page bytes → r.fits page (r.content bytes)) (sound : AreSound k r passes log.analysis.told e.seen) where
    -- a page in use can be read as the log leaves it
    page_fits : (page : ℕ) → 1 ≤ page → page ≤ as_told.used → r.fits page (as_told.page page)
    page_fits page low high =
        let in_use : page ≤ log.analysis.told.used = (let same = agree.used in omega (arith, high, same)) in
        let there : area_of r k.pages e.seen page ≡ r.content (bytes_of e.seen page) = area_page k l r k.pages e.seen page low (let few = sound.fits in omega (arith, in_use, few)) in
        subst (λ (x : P). r.fits page x) (sym there ∙ laid.area page) (fits page (bytes_of e.seen page) (sound.read page low in_use))

    pub sound_good : AreGood k r (area_of r k.pages seen) (records_of laid.is.log.bodies)
    sound_good = record {
      good = record {
        sound = reads.sound as_read as_told agree sound.sound;
        placed = subst (λ (a : Analysis E). Placed k as_told a.touched) laid.is.kept.told (placed_too log.analysis.told.touched sound.placed);
      };
      fit = page_fits;
    }

  -- ---- and pages that are good for it, and can be read, are sound

  back : AgreeOnUsed as_told as_read
  back = record { counter = sym agree.counter; used = sym agree.used; pages = λ p low high. laid.area p }

  placed_back : (touched : List (Touch E)) → Placed k as_told touched → Placed k as_read touched
  placed_back [] all = tt
  placed_back (x ∷ touched) all = (reads.placed as_told as_read back x.entry x.leaf all.0, placed_back touched all.1)

  module _ (passing : (page : ℕ) (bytes : List ℕ) → 1 ≤ page → page ≤ as_told.used → as_told.page page ≡ r.content bytes → r.fits page (r.content bytes) → IsPassing passes page bytes)
      (good : AreGood k r (area_of r k.pages seen) (records_of laid.is.log.bodies)) where
    in_range : as_told.used ≤ k.pages
    in_range = used_fits k l r records (bodies_log k laid.is.log.bodies laid.is.log.undamaged)

    page_passes : (page : ℕ) → 1 ≤ page → page ≤ as_told.used → IsPassing passes page (bytes_of e.seen page)
    page_passes page low high =
        let there : as_told.page page ≡ r.content (bytes_of e.seen page) = sym (laid.area page) ∙ area_page k l r k.pages e.seen page low (let few = in_range in omega (arith, high, few)) in
        passing page (bytes_of e.seen page) low high there (subst (λ (x : P). r.fits page x) there (good.fit page low high))

    pub good_sound : AreSound k r passes log.analysis.told e.seen
    good_sound = record {
      fits = (let few = in_range in let same = agree.used in omega (arith, few, same));
      read = λ page low high. page_passes page low (let same = agree.used in omega (arith, high, same));
      sound = reads.sound as_told as_read back good.good.sound;
      placed = placed_back log.analysis.told.touched (subst (λ (a : Analysis E). Placed k as_told a.touched) (sym laid.is.kept.told) good.good.placed);
    }
