-- A log that was found goes on from where it ends.
use Rattle.std.proofs.Common.{◌≡◌, ◌∙◌, sym, ap, refl, subst, inl, inr, ℕ, ◌<◌, ◌≤◌, ◌&&◌, List, None, Some, Option, Result, Ok, Err, arith}
use Rattle.std.proofs.Math.Path.{fun_ext}
use Rattle.std.specs.Prelude.{OnOk, nat_le, nat_lt}
use Rattle.std.proofs.lemmas.List.{append-nil}
use Rattle.gx_geom.specs.declared.refusal.Refusal.{Refusal}
use Rattle.gx_disk.specs.declared.layout.TheConstants.{PAGES_AT}
use Rattle.gx_disk.specs.Device.{Device}
use Rattle.gx_disk.specs.Sectors.{sector_of}
use Rattle.gx_disk.proofs.Leaving.{leaves_weaker}
use Rattle.gx_disk.proofs.Spans.{spans_same}
use Rattle.gx_glog.specs.declared.extent.Extent.{Extent}
use Rattle.gx_glog.specs.Later.{KeepsRun, IsClosedBehind}
use Rattle.gx_glog.specs.Layout.{selected_of, body_of, size_in}
use Rattle.gx_glog.specs.Reading.{IsSize}
use Rattle.gx_glog.specs.Standing.{HasBatches}
use Rattle.gx_glog.specs.State.{starting}
use Rattle.gx_glog.proofs.Gates.{placed, body_same}
use Rattle.gx_pool.specs.Area.{bytes_of, first_of}
use Rattle.gx_pool.specs.State.{State, Kept, kept, stamp_of}
use Rattle.gx_recovery.specs.Known.{Known, IsLawful}
use Rattle.gx_recovery.specs.Records.{Record}
use Rattle.gx_recovery.specs.Redo.{redone}
use Rattle.gx_recovery.specs.Damage.{records_of}
use Rattle.gx_recovery.specs.Logged.{AgreesBeside, all_records}
use Rattle.gx_recovery.specs.Renewal.{found}
use Rattle.gx_recovery.proofs.DamageItems.{bodies_log}
use Rattle.gx_recovery.proofs.Lives.{left_stands}
use Rattle.gx_recovery.proofs.Moves.{found_as_state}
use Rattle.gx_durable.specs.Spelled.{Reading}
use Rattle.gx_durable.specs.Bodies.{AreBodies}
use Rattle.gx_durable.specs.Area.{area_of, HasPages}
use Rattle.gx_durable.specs.Fitting.{AreGood, HasSizes}
use Rattle.gx_durable.specs.Head.{head_in}
use Rattle.gx_durable.specs.Standing.{Stands}
use Rattle.gx_durable.specs.Stored.{bytes_by}
use Rattle.gx_durable.specs.Opening.{found_glog}
use Rattle.gx_durable.specs.GoingOn.{opened, found_state, IsFoundGood, FoundIsUp, FoundRuns, SameLogStands, IsClosedFound, ClosingKeepsFound}
use Rattle.gx_durable.proofs.Areas.{by_test}
use Rattle.gx_durable.proofs.Fitting.{gated_fit}
use Rattle.gx_durable.proofs.Heads.{same_head}
use Rattle.gx_durable.proofs.Opening.{found_up}
use Rattle.gx_durable.proofs.Storing.{stored_as}

-- pages read the same where their sectors do
same_pages : {E P : Type 0} (r : Reading E P) (pages : ℕ) (xs ys : List ℕ) → ((s : ℕ) → PAGES_AT ≤ s → sector_of xs s ≡ sector_of ys s) → (p : ℕ) → area_of r pages xs p ≡ area_of r pages ys p
unfolding area_of
same_pages r pages xs ys same p =
    by_test (nat_lt 0 p && nat_le p pages) (r.content (bytes_of xs p)) (r.content (bytes_of ys p)) r.no_page
    (λ is. ap (λ (bytes : List ℕ). r.content bytes) (spans_same 8 (first_of p) xs ys (λ s within. same s (omega (arith, within.from)))))

-- nothing that isn't kept is dirty
none_dirty : (frames : State) (p place : ℕ) → kept frames p ≡ None → stamp_of (kept frames p) ≡ Some place → ⊥
none_dirty frames p place none is = let never : None ≡ Some place = sym (ap stamp_of none) ∙ is in cc

module _ {E P : Type 0} (k : Known E P) (r : Reading E P) where
  pub found_goes : FoundIsUp k r
  found_goes sectors seen pending bodies is closed =
      let up = found_up k r sectors seen pending bodies is.settled is.size is.pages is.sizes is.told is.undamaged is.good is.head in
      record {
        on = record { sound = up.may_turn.sound; batches = closed; flight = tt; turn = up.may_turn.turn; quiet = up.may_turn.quiet; tails = up.may_turn.tails };
        carries = up.carries;
      }

  -- all records of a log that was found
  all_found : (area : ℕ → P) (log : List (Record E P)) → all_records (found area log) ≡ log
  all_found area log = append-nil log

  pub found_runs : (d : Device) → FoundRuns k r d
  found_runs d frames bodies is closed begins =
      let s = found_state k r d.seen bodies in
      record {
        runs = record {
          up = found_goes d.sectors d.seen d.pending bodies is closed;
          stamped = record {
            behind = begins.told;
            places = omega arith;
            gated = λ p place dirty less. absurd (none_dirty frames p place (begins.empty p) dirty);
            flight = λ p place dirty less. absurd (none_dirty frames p place (begins.empty p) dirty);
          };
        };
        said = λ p place dirty. absurd (none_dirty frames p place (begins.empty p) dirty);
        placed = λ p place dirty. absurd (none_dirty frames p place (begins.empty p) dirty);
        stored = λ written p.
            stored_as r k.pages frames d.seen p (ap (λ (o : Option Kept). bytes_by o (bytes_of d.seen p)) (begins.empty p)) ∙ written p
            ∙ ap (λ (x : List (Record E P)). redone s.area x p) (sym (all_found s.area (records_of bodies)));
      }

  pub same_log_stands : SameLogStands k r
  same_log_stands l sectors seen pending bodies image is says same sizes pages =
      let s = found_state k r seen bodies in
      let log = records_of bodies in
      let B : List (List ℕ) → Type 0 = λ b. AreBodies r b bodies in
      let healthy = found_as_state k (area_of r k.pages seen) log (bodies_log k bodies is.undamaged) is.good.good in
      let agrees : AgreesBeside log (area_of r k.pages seen) (area_of r k.pages image) = λ p unnamed. same_pages r k.pages image seen pages p in
      record {
        head = says ∙ is.head;
        bodies = bodies;
        told = subst B (sym same) is.told;
        undamaged = is.undamaged;
        sizes = sizes;
        stands = left_stands k l s healthy (area_of r k.pages image) log (record { area_agrees = agrees; log_read = inl refl });
        fit = gated_fit k r l log (area_of r k.pages seen) (area_of r k.pages image) agrees is.good.fit;
      }

  module _ (d e : Device) (bodies : List (List (Record E P))) (is : IsFoundGood k r d.sectors d.seen d.pending bodies) where
    abbrev x : Extent
    x = selected_of d.seen

    abbrev n : ℕ
    n = opened d.seen

    -- the first two sectors are unchanged
    head_kept : (image : List ℕ) → KeepsRun x n d.seen image → head_in image ≡ head_in d.seen
    head_kept image keeps =
        let at = placed x in
        same_head image d.seen (keeps.others 0 (inl (omega arith))) (keeps.others 1 (inl (let from = at.from in omega (arith, from))))

    pages_kept : (image : List ℕ) → KeepsRun x n d.seen image → (s : ℕ) → PAGES_AT ≤ s → sector_of image s ≡ sector_of d.seen s
    pages_kept image keeps s from = let at = placed x in keeps.others s (inr (omega (arith, at.bodies, at.to, from)))

    -- each body is unchanged
    kept_sizes : (image : List ℕ) → KeepsRun x n d.seen image → HasSizes image
    kept_sizes image keeps j less =
        let at = placed x in
        let within : j < n = (let run = keeps.run in omega (arith, less, run)) in
        let same : body_of image x j ≡ body_of d.seen x j =
        body_same x j image d.seen (λ s inside. keeps.others s (inr (let bodies = at.bodies in let low = inside.from in omega (arith, bodies, low)))) in
        subst (λ (extent : Extent). IsSize (size_in (body_of image extent j))) (sym keeps.selected) (subst (λ (b : List ℕ). IsSize (size_in b)) (sym same) (is.sizes j within))

    kept_stands : IsLawful k → (image : List ℕ) → KeepsRun x n d.seen image → Stands k r (found_state k r d.seen bodies) image
    kept_stands l image keeps = same_log_stands l d.sectors d.seen d.pending bodies image is (head_kept image keeps) keeps.bodies (kept_sizes image keeps) (pages_kept image keeps)

    same_glog : KeepsRun x n d.seen e.seen → found_glog e.seen ≡ found_glog d.seen
    same_glog keeps = ap (λ (extent : Extent). starting extent (opened e.seen)) keeps.selected ∙ ap (λ (gated : ℕ). starting x gated) keeps.run

    closed_found : e.sectors ≡ d.sectors → KeepsRun x n d.seen e.seen → IsClosedBehind x n e → IsClosedFound k r d e bodies
    closed_found sectors keeps behind =
        let log = records_of bodies in
        let C : Extent → Type 0 = λ extent. HasBatches extent n n e.seen e.pending in
        let N : ℕ → Type 0 = λ m. HasBatches (selected_of e.seen) m m e.seen e.pending in
        let S : ℕ → Type 0 = λ m. HasPages k.pages m in
        let B : List (List ℕ) → Type 0 = λ b. AreBodies r b bodies in
        let G : (ℕ → P) → Type 0 = λ area. AreGood k r area log in
        let closed : HasBatches (selected_of e.seen) (opened e.seen) (opened e.seen) e.seen e.pending = subst N (sym keeps.run) (subst C (sym keeps.selected) behind.batches) in
        let area : (p : ℕ) → area_of r k.pages e.seen p ≡ area_of r k.pages d.seen p = same_pages r k.pages e.seen d.seen (pages_kept e.seen keeps) in
        record {
          found = record {
            settled = behind.settled;
            head = head_kept e.seen keeps ∙ is.head;
            size = closed.size;
            pages = subst S (sym sectors) is.pages;
            sizes = closed.sizes;
            told = subst B (sym keeps.bodies) is.told;
            undamaged = is.undamaged;
            good = subst G (sym (fun_ext area)) is.good;
          };
          closed = closed;
          area = area;
          glog = same_glog keeps;
        }

    by_result : (result : Result (Unit {0}) Refusal) → e.sectors ≡ d.sectors → KeepsRun x n d.seen e.seen → OnOk result (IsClosedBehind x n e) → OnOk result (IsClosedFound k r d e bodies)
    by_result (Ok y) sectors keeps behind = closed_found sectors keeps behind
    by_result (Err refusal) sectors keeps behind = tt

  pub closing_keeps : (d e : Device) → ClosingKeepsFound k r d e
  closing_keeps d e l honest sectors bodies result is closes =
      let up = found_up k r d.sectors d.seen d.pending bodies is.settled is.size is.pages is.sizes is.told is.undamaged is.good is.head in
      let c = closes honest is.settled up.may_turn.run up.may_turn.turn in
      record {
        leaves = leaves_weaker (KeepsRun (selected_of d.seen) (opened d.seen) d.seen) (Stands k r (found_state k r d.seen bodies)) d e (kept_stands d e bodies is l) c.moments;
        done = by_result d e bodies is result sectors c.seen c.done;
      }
