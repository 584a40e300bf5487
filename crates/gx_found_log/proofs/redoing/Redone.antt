-- What a redo leaves: the log, and after it the same pages.
use Rattle.std.proofs.Common.{◌≡◌, ◌≢◌, ◌∙◌, sym, ap, refl, subst, inl, ℕ, zero, suc, ◌+◌, ◌*◌, ◌<◌, ◌≤◌, ◌==◌, Bool, true, false, List, [], ◌∷◌, length, arith, eq-eqb}
use Rattle.std.specs.Prelude.{Option, None, Some, unwrap_or, if◌then◌else◌, Result, Ok, Err, OnOk}
use Rattle.std.specs.Option.{option_map}
use Rattle.std.proofs.Math.Path.{fun_ext}
use Rattle.gx_disk.specs.declared.layout.TheConstants.{PAGES_AT, PAGE_SECTORS}
use Rattle.gx_disk.specs.Device.{Device, IsSettled}
use Rattle.gx_disk.specs.Sectors.{sector_of, IsOutside, IsWithin}
use Rattle.gx_disk.proofs.Leaving.{leaves_weaker}
use Rattle.gx_disk.proofs.Spans.{apart_outside, spans_same}
use Rattle.gx_glog.specs.declared.extent.TheConstants.{PLACES}
use Rattle.gx_glog.specs.declared.extent.Extent.{Extent}
use Rattle.gx_glog.specs.State.{starting}
use Rattle.gx_glog.specs.Layout.{gates_of, selected_of, is_open, body_of, size_in, open_run}
use Rattle.gx_glog.specs.Reading.{IsSize}
use Rattle.gx_glog.specs.Cuts.{bodies_in, open_bodies}
use Rattle.gx_glog.proofs.Gates.{placed, gate_same, selector_same, body_same, bodies_same}
use Rattle.gx_pool.specs.Area.{IsPage, bytes_of, first_of}
use Rattle.gx_recovery.specs.Known.{Known, IsLawful}
use Rattle.gx_recovery.specs.Records.{Record}
use Rattle.gx_recovery.specs.Redo.{redone}
use Rattle.gx_recovery.specs.Given.{given}
use Rattle.gx_recovery.specs.Damage.{IsLog, is_page, records_of}
use Rattle.gx_recovery.specs.Logged.{Logged, AgreesBeside}
use Rattle.gx_recovery.specs.Renewal.{found}
use Rattle.gx_recovery.proofs.DamageItems.{bodies_log}
use Rattle.gx_recovery.proofs.Given.{none_given, redone_by_given, redone_twice}
use Rattle.gx_recovery.proofs.Lives.{left_stands}
use Rattle.gx_recovery.proofs.Moves.{found_as_state}
use Rattle.gx_recovery.proofs.States.{redone_again}
use Rattle.gx_durable.specs.Fitting.{AreGood, HasSizes}
use Rattle.gx_durable.specs.Head.{head_in}
use Rattle.gx_durable.proofs.Fitting.{gated_fit}
use Rattle.gx_durable.proofs.Heads.{same_head}
use Rattle.gx_durable.specs.Spelled.{Reading}
use Rattle.gx_durable.specs.Bodies.{AreBodies}
use Rattle.gx_durable.specs.Area.{area_of, HasPages}
use Rattle.gx_durable.specs.Standing.{Stands}
use Rattle.gx_durable.proofs.Areas.{device_page, page_same}
use Rattle.gx_durable.proofs.Opening.{found_up}
use Rattle.gx_found_log.specs.Given.{Imaged, image_in, IsGiven}
use Rattle.gx_found_log.specs.Laid.{ArePages, HasAsRead, IsBeside, IsImageBeside, AreLaid, Lays, Spares}
use Rattle.gx_found_log.specs.Redone.{IsFoundOn, HasSamePages, IsRedone, IsUngiven, Redone}
use Rattle.gx_found_log.proofs.Laid.{apart_pages}
use Rattle.gx_found_log.proofs.OnDevice.{beyond_ungiven}

-- a page that is kept first, or later
first_kept : (x : Imaged) (xs : List Imaged) → image_in x.0 (x ∷ xs) ≢ None
first_kept x xs none = let no : Some x.1 ≡ None = rw (eq-eqb x.0 x.0 refl) at none in cc

later_kept : (p : ℕ) (x : Imaged) (xs : List Imaged) (b : Bool) → (x.0 == p) ≡ b → image_in p xs ≢ None → image_in p (x ∷ xs) ≢ None
later_kept p x xs true is there none = let no : Some x.1 ≡ None = rw is at none in cc
later_kept p x xs false is there none = there (rw is at none)

-- a sector outside each page that is kept
beside_each : (xs : List Imaged) (s : ℕ) → ((p : ℕ) → image_in p xs ≢ None → IsOutside (first_of p) PAGE_SECTORS s) → IsBeside xs s
beside_each [] s out = tt
beside_each (x ∷ xs) s out = (out x.0 (first_kept x xs), beside_each xs s (λ p there. out p (later_kept p x xs (x.0 == p) refl there)))

-- sectors ahead of page 1 are no page's
ahead : (xs : List Imaged) (s : ℕ) → s < PAGES_AT → IsBeside xs s
ahead [] s less = tt
ahead (x ∷ xs) s less = (inl (omega (arith, less)), ahead xs s less)

-- bytes that are the same there have the same log
abbrev SameAhead : List ℕ → List ℕ → Type 0
SameAhead xs ys = (s : ℕ) → s < PAGES_AT → sector_of xs s ≡ sector_of ys s

run_same : (xs ys : List ℕ) (extent : Extent) (places k : ℕ) → ((j : ℕ) → j < k + places → is_open xs extent j ≡ is_open ys extent j) → open_run xs extent k places ≡ open_run ys extent k places
unfolding open_run
run_same xs ys extent zero k same = refl
run_same xs ys extent (suc places) k same =
    rw (same k (omega arith)) (ap (λ n. if is_open ys extent k then suc n else 0) (run_same xs ys extent places (k + 1) (λ j less. same j (omega (arith, less)))))

run_few : (xs : List ℕ) (extent : Extent) (places k : ℕ) (b : Bool) → is_open xs extent k ≡ b → open_run xs extent k places ≤ places
unfolding open_run
run_few xs extent zero k b is = omega arith
run_few xs extent (suc places) k true is = rw is (let rest = run_few xs extent places (k + 1) (is_open xs extent (k + 1)) refl in omega (arith, rest))
run_few xs extent (suc places) k false is = rw is (omega arith)

module _ (xs ys : List ℕ) (same : SameAhead xs ys) where
  selects_same : selected_of xs ≡ selected_of ys
  selects_same = selector_same xs ys (same 2 (omega arith))

  gates_same : (extent : Extent) (j : ℕ) → j < PLACES → is_open xs extent j ≡ is_open ys extent j
  gates_same extent j less = let at = placed extent in gate_same extent j xs ys (same (gates_of extent + j) (omega (arith, at.to, at.bodies, less)))

  place_same : (extent : Extent) (j : ℕ) → j < PLACES → body_of xs extent j ≡ body_of ys extent j
  place_same extent j less = let at = placed extent in body_same extent j xs ys (λ s within. same s (omega (arith, at.to, less, within.below)))

  opened_same : (extent : Extent) → open_run xs extent 0 PLACES ≡ open_run ys extent 0 PLACES
  opened_same extent = run_same xs ys extent PLACES 0 (λ j less. gates_same extent j (omega (arith, less)))

  log_same : open_bodies xs ≡ open_bodies ys
  unfolding open_bodies
  log_same =
      let x = selected_of ys in
      let few : open_run ys x 0 PLACES ≤ PLACES = run_few ys x PLACES 0 (is_open ys x 0) refl in
      ap (λ (e : Extent). bodies_in xs e (open_run xs e 0 PLACES)) selects_same ∙ ap (λ n. bodies_in xs x n) (opened_same x)
      ∙ bodies_same x (open_run ys x 0 PLACES) xs ys (λ j less. place_same x j (omega (arith, few, less)))

  sizes_same : HasSizes ys → HasSizes xs
  sizes_same sizes j less =
      let x = selected_of ys in
      let few : open_run ys x 0 PLACES ≤ PLACES = run_few ys x PLACES 0 (is_open ys x 0) refl in
      let run : open_run xs (selected_of xs) 0 PLACES ≡ open_run ys x 0 PLACES = ap (λ (e : Extent). open_run xs e 0 PLACES) selects_same ∙ opened_same x in
      let below : j < open_run ys x 0 PLACES = omega (arith, less, run) in
      subst (λ (e : Extent). IsSize (size_in (body_of xs e j))) (sym selects_same)
      (subst (λ (b : List ℕ). IsSize (size_in b)) (sym (place_same x j (omega (arith, few, below)))) (sizes j below))

neither : (b : Bool) (image : List ℕ) (o : Option (List ℕ)) → (if b then Some image else o) ≡ None → (b ≡ false) × (o ≡ None)
neither true image o none = cc
neither false image o none = (refl, none)

-- the sectors of a page of which nothing is kept are beside those that are
beside_all : (xs : List Imaged) (sectors p s : ℕ) → ArePages sectors xs → IsPage sectors p → image_in p xs ≡ None → IsWithin (first_of p) PAGE_SECTORS s → IsBeside xs s
beside_all [] sectors p s are is none within = tt
beside_all (x ∷ xs) sectors p s are is none within =
    let both = neither (x.0 == p) x.1 (image_in p xs) none in
    (apart_outside (first_of x.0) PAGE_SECTORS (first_of p) PAGE_SECTORS s (apart_pages x.0 p both.0 are.0.from is.from) within, beside_all xs sectors p s are.1 is both.1 within)

none_mapped : {A B : Type 0} (f : A → B) (o : Option A) → option_map f o ≡ None → o ≡ None
none_mapped f None is = refl
none_mapped f (Some x) is = cc

mapped_or : {A B : Type 0} (f : A → B) (o : Option A) (a : A) → f (unwrap_or o a) ≡ unwrap_or (option_map f o) (f a)
mapped_or f None a = refl
mapped_or f (Some x) a = refl

module _ {E P : Type 0} (k : Known E P) (r : Reading E P) (kept : List Imaged) (d : Device) (bodies : List (List (Record E P))) (l : IsLawful k)
    (is : IsFoundOn k r d bodies) (gives_so : IsGiven r kept (records_of bodies)) (are : ArePages d.sectors kept) where
  abbrev log : List (Record E P)
  log = records_of bodies

  is_log : IsLog k log
  is_log = bodies_log k bodies is.undamaged

  -- bytes that differ in the pages kept alone
  beside_agrees : (image : List ℕ) → ((s : ℕ) → IsBeside kept s → sector_of image s ≡ sector_of d.seen s) → AgreesBeside log (area_of r k.pages d.seen) (area_of r k.pages image)
  beside_agrees image same p ungiven =
      let none : image_in p kept ≡ None = none_mapped r.content (image_in p kept) (gives_so p ∙ none_given log p ungiven) in
      page_same r k.pages d.sectors is.pages p image d.seen
      (λ there. spans_same 8 (first_of p) image d.seen (λ s within. same s (beside_all kept d.sectors p s are there none within)))

  same_pages : (image : List ℕ) → ((s : ℕ) → IsBeside kept s → sector_of image s ≡ sector_of d.seen s) → HasSamePages k r d.seen log image
  same_pages image same = record {
    head = same_head image d.seen (same 0 (ahead kept 0 (omega arith))) (same 1 (ahead kept 1 (omega arith)));
    bodies = log_same image d.seen (λ s less. same s (ahead kept s less));
    sizes = sizes_same image d.seen (λ s less. same s (ahead kept s less));
    pages = λ p. ap (λ (area : ℕ → P). area p) (redone_again log (area_of r k.pages d.seen) (area_of r k.pages image) (beside_agrees image same));
  }

  image_same : (image : List ℕ) → IsImageBeside kept d image → (s : ℕ) → IsBeside kept s → sector_of image s ≡ sector_of d.seen s
  image_same image beside s out = beside.settled s out (is.settled s)

  image_stands : head_in d.seen ≡ k.head → AreGood k r (area_of r k.pages d.seen) log → (image : List ℕ) → IsImageBeside kept d image → Stands k r (found (area_of r k.pages d.seen) log) image
  image_stands says good image beside =
      let B : List (List ℕ) → Type 0 = λ b. AreBodies r b bodies in
      let s : Logged E P = found (area_of r k.pages d.seen) log in
      let same = image_same image beside in
      record {
        head = (same_pages image same).head ∙ says;
        bodies = bodies;
        told = subst B (sym (same_pages image same).bodies) is.told;
        undamaged = is.undamaged;
        sizes = (same_pages image same).sizes is.sizes;
        stands = left_stands k l s (found_as_state k (area_of r k.pages d.seen) log is_log good.good) (area_of r k.pages image) log
            (record { area_agrees = beside_agrees image same; log_read = inl refl });
        fit = gated_fit k r l log (area_of r k.pages d.seen) (area_of r k.pages image) (beside_agrees image same) good.fit;
      }

  -- a page that is laid
  laid_by : (e : Device) (p : ℕ) (b : Bool) → is_page k.pages p ≡ b → AreLaid kept d.sectors d.seen e.seen
      → (if b then r.content (bytes_of e.seen p) else r.no_page) ≡ unwrap_or (given p log) (if b then r.content (bytes_of d.seen p) else r.no_page)
  laid_by e p true here laid =
      ap (λ (bytes : List ℕ). r.content bytes) (laid p (device_page k.pages d.sectors p is.pages here)) ∙ mapped_or r.content (image_in p kept) (bytes_of d.seen p)
      ∙ ap (λ (o : Option P). unwrap_or o (r.content (bytes_of d.seen p))) (gives_so p)
  laid_by e p false out laid =
      ap (λ (o : Option P). unwrap_or o r.no_page) (sym (beyond_ungiven k l log is_log p out))

  laid_area : (e : Device) → AreLaid kept d.sectors d.seen e.seen → (p : ℕ) → area_of r k.pages e.seen p ≡ redone (area_of r k.pages d.seen) log p
  unfolding area_of
  laid_area e laid p = laid_by e p (is_page k.pages p) refl laid ∙ sym (redone_by_given k log p (area_of r k.pages d.seen) is_log)

  is_redone : (e : Device) → length d.seen ≡ 512 * d.sectors → e.sectors ≡ d.sectors → length e.seen ≡ length d.seen → ((s : ℕ) → IsBeside kept s → sector_of e.seen s ≡ sector_of d.seen s)
      → AreLaid kept d.sectors d.seen e.seen → IsSettled e → IsRedone k r d e bodies
  is_redone e whole sectors size others laid settled =
      let B : List (List ℕ) → Type 0 = λ b. AreBodies r b bodies in
      let H : ℕ → Type 0 = λ n. HasPages k.pages n in
      let ahead_same : SameAhead e.seen d.seen = λ s less. others s (ahead kept s less) in
      let so = same_pages e.seen others in
      let x = selected_of d.seen in
      let selects : selected_of e.seen ≡ x = selects_same e.seen d.seen ahead_same in
      let run : open_run e.seen x 0 PLACES ≡ open_run d.seen x 0 PLACES = opened_same e.seen d.seen ahead_same x in
      let few : open_run d.seen x 0 PLACES ≤ PLACES = run_few d.seen x PLACES 0 (is_open d.seen x 0) refl in
      let area : area_of r k.pages e.seen ≡ redone (area_of r k.pages d.seen) log = fun_ext (laid_area e laid) in
      let sizes : (j : ℕ) → j < open_run e.seen x 0 PLACES → IsSize (size_in (body_of e.seen x j)) =
      λ j less. subst (λ (b : List ℕ). IsSize (size_in b)) (sym (place_same e.seen d.seen ahead_same x j (omega (arith, few, run, less)))) (is.sizes j (omega (arith, run, less))) in
      record {
        settled = settled;
        area = laid_area e laid;
        same = so;
        glog = ap (λ (y : Extent). starting y (open_run e.seen y 0 PLACES)) selects ∙ ap (λ n. starting x n) run;
        written = λ p. ap (λ (a : ℕ → P). a p) (area ∙ sym (redone_twice k log (area_of r k.pages d.seen) is_log) ∙ ap (λ (a : ℕ → P). redone a log) (sym area));
        sizes = subst (λ (y : Extent). (j : ℕ) → j < open_run e.seen y 0 PLACES → IsSize (size_in (body_of e.seen y j))) (sym selects) sizes;
        turn = λ says good.
            found_up k r e.sectors e.seen e.pending bodies settled (omega (arith, size, whole, is.pages.inside)) (subst H (sym sectors) is.pages)
            (subst (λ (y : Extent). (j : ℕ) → j < open_run e.seen y 0 PLACES → IsSize (size_in (body_of e.seen y j))) (sym selects) sizes) (subst B (sym so.bodies) is.told) is.undamaged good (so.head ∙ says);
      }

  done_so : {T R : Type 0} (e : Device) (result : Result T R) → length d.seen ≡ 512 * d.sectors → e.sectors ≡ d.sectors → length e.seen ≡ length d.seen
      → ((s : ℕ) → IsBeside kept s → sector_of e.seen s ≡ sector_of d.seen s) → OnOk result (AreLaid kept d.sectors d.seen e.seen) → OnOk result (IsSettled e)
      → OnOk result (IsRedone k r d e bodies)
  done_so e (Ok x) whole sectors size others laid settled = is_redone e whole sectors size others laid settled
  done_so e (Err x) whole sectors size others laid settled = tt

  -- what is written of the device
  ungiven_beside : (s : ℕ) → IsUngiven log s → IsBeside kept s
  ungiven_beside s out = beside_each kept s (λ p there. out p (λ none. there (none_mapped r.content (image_in p kept) (gives_so p ∙ none))))

  spares_so : {T R : Type 0} (e : Device) (result : Result T R) → Lays kept d e result → Spares (IsUngiven log) d e
  spares_so e result lays = record {
    now = record { size = lays.size; same = λ s out. lays.others s (ungiven_beside s out) };
    settled = λ s out. lays.settled s (ungiven_beside s out) (is.settled s);
    leaves = leaves_weaker (IsImageBeside kept d) (HasAsRead (IsUngiven log) d.seen) d e
        (λ image beside. record { size = beside.size; same = λ s out. beside.settled s (ungiven_beside s out) (is.settled s) }) lays.leaves;
  }

  -- what a redo leaves, from what its calls lay
  pub redone_so : {T R : Type 0} (e : Device) (result : Result T R) → length d.seen ≡ 512 * d.sectors → e.sectors ≡ d.sectors → Lays kept d e result → OnOk result (IsSettled e)
      → Redone k r d e bodies result
  redone_so e result whole sectors lays settled = record {
    leaves = leaves_weaker (IsImageBeside kept d) (HasSamePages k r d.seen log) d e (λ image beside. same_pages image (image_same image beside)) lays.leaves;
    stands = λ says good.
        leaves_weaker (IsImageBeside kept d) (Stands k r (found (area_of r k.pages d.seen) log)) d e (λ image beside. image_stands says good image beside) lays.leaves;
    done = done_so e result whole sectors lays.size lays.others lays.laid settled;
    spares = spares_so e result lays;
  }
