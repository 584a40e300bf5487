-- Whatever a crash leaves stands for a kept set.
use Rattle.std.proofs.Common.{◌≡◌, ◌∙◌, sym, ap, refl, subst, inl, inr, ℕ, Bool, false, List, [], ◌∷◌, ◌++◌, arith}
use Rattle.std.proofs.Math.Path.{fun_ext}
use Rattle.std.proofs.lemmas.List.{append-nil}
use Rattle.gx_disk.specs.Device.{IsImage}
use Rattle.gx_glog.specs.declared.stage.Stage.{Stage}
use Rattle.gx_glog.specs.declared.stage.Stage.TheVariants.{Body, BodySync, Gate, GateSync, Idle}
use Rattle.gx_glog.specs.State.{Log, in_flight}
use Rattle.gx_glog.specs.Cuts.{bodies_in, open_bodies}
use Rattle.gx_glog.proofs.Images.{image_shows_bodies}
use Rattle.gx_recovery.specs.Known.{Known, IsLawful}
use Rattle.gx_recovery.specs.Records.{Record}
use Rattle.gx_recovery.specs.Analysis.{number_of}
use Rattle.gx_recovery.specs.Coming.{MayComeAll}
use Rattle.gx_recovery.specs.Damage.{records_of}
use Rattle.gx_recovery.specs.Logged.{Logged, latest, kept, all_records, AgreesBeside, StandsForKept}
use Rattle.gx_recovery.specs.Redo.{tree_of}
use Rattle.gx_recovery.specs.Renewal.{renewed}
use Rattle.gx_recovery.proofs.States.{coming_first}
use Rattle.gx_recovery.proofs.Lives.{left_stands}
use Rattle.gx_recovery.proofs.Renewals.{same_number}
use Rattle.gx_recovery.proofs.Moves.{checkpoint_healthy, checkpoint_stands}
use Rattle.gx_recovery.proofs.Bodies.{batch_undamaged, renewed_undamaged}
use Rattle.gx_recovery.proofs.DamageItems.{records_append}
use Rattle.gx_durable.specs.Spelled.{Reading, AreRecords}
use Rattle.gx_durable.specs.Bodies.{AreBodies}
use Rattle.gx_durable.specs.Area.{area_of}
use Rattle.gx_durable.specs.Fitting.{HasSizes, PagesFit}
use Rattle.gx_durable.specs.Head.{head_in}
use Rattle.gx_durable.specs.Standing.{batch_of, MayRenew, Carries, Stands}
use Rattle.gx_durable.specs.Laws.{ACrashLeavesAKeptSet, StandsOfBefore}
use Rattle.gx_durable.proofs.Areas.{image_agrees, image_page}
use Rattle.gx_durable.proofs.BodyLists.{body_adds}
use Rattle.gx_durable.proofs.Fitting.{gated_fit, head_fits, over_fit}
use Rattle.gx_durable.proofs.Heads.{image_head}
use Rattle.gx_durable.proofs.Images.{BodiesShown, bodies_shown}
use Rattle.gx_durable.proofs.Sizes.{image_sizes}

-- what is in flight is a batch
pub batch_flies : (stage : Stage) (flight : List ℕ) → in_flight stage ≡ 1 → batch_of stage flight ≡ flight
batch_flies Idle flight is = absurd (omega arith)
batch_flies Body flight is = refl
batch_flies BodySync flight is = refl
batch_flies Gate flight is = refl
batch_flies GateSync flight is = refl

module _ {E P : Type 0} (k : Known E P) (l : IsLawful k) (r : Reading E P) (log : Log) (sectors : ℕ) (seen : List ℕ) (pending : ℕ → Bool)
    (bodies : List (List (Record E P))) (s : Logged E P) (c : Carries k r log sectors seen pending bodies s) (image : List ℕ) (may : IsImage seen pending image) (sizes : HasSizes image) where
  agrees : AgreesBeside s.gated s.area (area_of r k.pages image)
  agrees = image_agrees r k.pages sectors c.has_pages s.gated s.area seen pending image c.area c.settled may

  says : head_in image ≡ k.head
  says = image_head k.head seen pending image may c.head

  -- the pages of an image that has these bodies, by the records that they are
  fit_of : (told : List (List (Record E P))) (records : List (Record E P)) → records_of told ≡ records → PagesFit r (tree_of k (area_of r k.pages image) records)
      → PagesFit r (tree_of k (area_of r k.pages image) (records_of told))
  fit_of told records same fit = subst (λ (x : List (Record E P)). PagesFit r (tree_of k (area_of r k.pages image) x)) (sym same) fit

  gated_stands : open_bodies image ≡ bodies_in seen log.extent log.gated → Stands k r s image
  gated_stands is = record {
    head = says;
    bodies = bodies;
    told = (let B : List (List ℕ) → Type 0 = λ b. AreBodies r b bodies in subst B (sym is) c.told.gated_bodies);
    undamaged = c.undamaged;
    sizes = sizes;
    stands = (let S : List (Record E P) → Type 0 = λ x. StandsForKept k s (area_of r k.pages image) x in
        subst S (sym c.told.gated) (left_stands k l s c.healthy (area_of r k.pages image) s.gated (record { area_agrees = agrees; log_read = inl refl })));
    fit = fit_of bodies s.gated c.told.gated (gated_fit k r l s.gated s.area (area_of r k.pages image) agrees c.fit.gated);
  }

  flown_stands : in_flight log.stage ≡ 1 → open_bodies image ≡ bodies_in seen log.extent log.gated ++ log.flight ∷ [] → Stands k r s image
  flown_stands flying is =
      let flight : AreRecords r log.flight s.flight = (let A : List ℕ → Type 0 = λ bytes. AreRecords r bytes s.flight in subst A (batch_flies log.stage log.flight flying) c.told.flight) in
      let B : List (List ℕ) → Type 0 = λ b. AreBodies r b (bodies ++ s.flight ∷ []) in
      let C : List (Record E P) → Type 0 = λ x. MayComeAll k s.area x s.flight in
      let S : List (Record E P) → Type 0 = λ x. StandsForKept k s (area_of r k.pages image) x in
      let all : records_of (bodies ++ s.flight ∷ []) ≡ s.gated ++ s.flight = records_append k bodies s.flight ∙ ap (λ (x : List (Record E P)). x ++ s.flight) c.told.gated in
      record {
        head = says;
        bodies = bodies ++ s.flight ∷ [];
        told = subst B (sym is) (body_adds r (bodies_in seen log.extent log.gated) log.flight bodies s.flight c.told.gated_bodies flight);
        undamaged = batch_undamaged k l s.area bodies s.flight c.undamaged (subst C (sym c.told.gated) (coming_first k l s.area s.gated s.flight s.filling c.healthy.coming));
        sizes = sizes;
        stands = subst S (sym all) (left_stands k l s c.healthy (area_of r k.pages image) (s.gated ++ s.flight) (record { area_agrees = agrees; log_read = inr refl }));
        fit = fit_of (bodies ++ s.flight ∷ []) (s.gated ++ s.flight) all (over_fit k r l s.gated s.area (area_of r k.pages image) agrees s.flight c.fit.flight);
      }

  -- while a turn is under way, an image has each page
  same_area : MayRenew k r log.flight sectors pending s → area_of r k.pages image ≡ s.area
  same_area t = fun_ext (λ p. image_page r k.pages sectors c.has_pages (λ q. false) seen pending image t.settled may p refl ∙ sym (c.area p))

  all_gated : MayRenew k r log.flight sectors pending s → all_records s ≡ s.gated
  all_gated t = ap (λ (x : List (Record E P)). s.gated ++ (x ++ s.filling)) t.no_flight ∙ ap (λ (x : List (Record E P)). s.gated ++ x) t.no_filling ∙ append-nil s.gated

  head_kept : (t : MayRenew k r log.flight sectors pending s) → StandsForKept k s s.area (renewed k t.next s.gated)
  head_kept t =
      let new = checkpoint_healthy k l s c.healthy t.no_flight t.no_filling t.written t.next in
      let number : number_of k (renewed k t.next s.gated) ≡ number_of k s.gated = same_number k l t.next s.area s.gated c.healthy.gated in
      let last : latest k s ≡ number_of k s.gated = ap (λ (x : List (Record E P)). number_of k x) (all_gated t) in
      let left = left_stands k l s c.healthy s.area s.gated (record { area_agrees = λ p h. refl; log_read = inl refl }) in
      record {
        at_least = omega (arith, number);
        at_most = omega (arith, number, last);
        same_set = λ e.
            checkpoint_stands k l s c.healthy t.no_flight t.no_filling t.written t.next e ∙ left.same_set e ∙ ap (λ n. kept k s n e) (sym number);
        is_log = new.gated;
        good = new.good;
      }

  headed_stands : MayRenew k r log.flight sectors pending s → open_bodies image ≡ log.flight ∷ [] → Stands k r s image
  headed_stands t is =
      let B : List (List ℕ) → Type 0 = λ b. AreBodies r b (renewed k t.next s.gated ∷ []) in
      let S : List (Record E P) → Type 0 = λ x. StandsForKept k s (area_of r k.pages image) x in
      let A : (ℕ → P) → Type 0 = λ area. StandsForKept k s area (renewed k t.next s.gated) in
      record {
        head = says;
        bodies = renewed k t.next s.gated ∷ [];
        told = subst B (sym is) (t.head_is, tt);
        undamaged = renewed_undamaged k l t.next s.area s.gated c.healthy.gated;
        sizes = sizes;
        stands = subst S (sym (append-nil (renewed k t.next s.gated))) (subst A (sym (same_area t)) (head_kept t));
        fit = fit_of (renewed k t.next s.gated ∷ []) (renewed k t.next s.gated) (append-nil (renewed k t.next s.gated))
            (subst (λ (area : ℕ → P). PagesFit r (tree_of k area (renewed k t.next s.gated))) (sym (same_area t))
            (head_fits k r l t.next s t.no_flight t.no_filling t.written c.healthy.gated c.fit));
      }

  pub shown_stands : BodiesShown log seen image → Stands k r s image
  shown_stands shown = elim shown [
    | inl batches ↦ elim batches [
      | inl is ↦ gated_stands is
      | inr flown ↦ flown_stands flown.0 flown.1
    ]
    | inr headed ↦ headed_stands (c.turn headed.0) headed.1
  ]

module _ {E P : Type 0} (k : Known E P) (r : Reading E P) where
  pub crash_leaves : ACrashLeavesAKeptSet k r
  crash_leaves l log sectors seen pending bodies s image up may =
      shown_stands k l r log sectors seen pending bodies s up.carries image may (image_sizes log seen pending image up.on may)
      (bodies_shown log seen image (image_shows_bodies log seen pending image up.on may))

  pub stands_before : StandsOfBefore k r
  stands_before old new image on stands = record {
    head = stands.head;
    bodies = stands.bodies;
    told = stands.told;
    undamaged = stands.undamaged;
    sizes = stands.sizes;
    stands = (let is = stands.stands in record {
      at_least = omega (arith, on.rises, is.at_least);
      at_most = omega (arith, on.same_latest, is.at_most);
      same_set = λ e. is.same_set e ∙ on.same_sets.sets (number_of k (records_of stands.bodies)) e is.at_least (omega (arith, on.same_latest, is.at_most));
      is_log = is.is_log;
      good = is.good;
    });
    fit = stands.fit;
  }
