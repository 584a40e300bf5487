-- The first log of a device that it was laid down on.
use Rattle.std.proofs.Common.{◌≡◌, ◌∙◌, sym, ap, refl, subst, inl, inr, ℕ, ◌+◌, ◌<◌, ◌≤◌, ◌==◌, List, [], ◌∷◌, Bool, true, false, get_or, if◌then◌else◌, arith}
use Rattle.gx_disk.specs.Sectors.{span_of, sector_of}
use Rattle.gx_disk.specs.Device.{IsImage}
use Rattle.gx_disk.proofs.Spans.{image_span}
use Rattle.gx_record.specs.Bytes.{u64_bytes, u32_bytes}
use Rattle.gx_glog.specs.declared.extent.TheConstants.{BODIES_A, BODY_SECTORS, GATES_A, PLACES}
use Rattle.gx_glog.specs.declared.extent.Extent.TheVariants.{A, B}
use Rattle.gx_glog.specs.Bodies.{HasRecords}
use Rattle.gx_glog.specs.Cuts.{open_bodies, joined}
use Rattle.gx_glog.specs.First.{first_record, first_body_bytes, FirstIsSpelled, HasFirstLog, IsFirstSettled}
use Rattle.gx_glog.specs.Layout.{selected_of, is_open, body_of, size_in, records_in, log_of}
use Rattle.gx_glog.specs.Standing.{IsSelected, HasHead, On}
use Rattle.gx_glog.specs.State.{starting}
use Rattle.gx_glog.proofs.Images.{head_shows_bodies}
use Rattle.gx_glog.proofs.Cuts.{joined_more, joined_log}
use Rattle.gx_glog.proofs.Keeping.{start_on}
use Rattle.gx_glog.proofs.Turning.{head_stands}

-- the record's bytes are its spelling
pub first_spelled : FirstIsSpelled
unfolding u64_bytes u32_bytes
first_spelled = refl

selects_a : (seen : List ℕ) → HasFirstLog seen → selected_of seen ≡ A
unfolding selected_of span_of sector_of
selects_a seen has = ap (λ (sector : List ℕ). if get_or sector 0 0 == 0x5A then B else A) has.selector

first_open : (seen : List ℕ) → HasFirstLog seen → is_open seen A 0 ≡ true
unfolding is_open span_of sector_of
first_open seen has = ap (λ (sector : List ℕ). get_or sector 0 0 == 0xA7) has.opened

later_closed : (seen : List ℕ) (k : ℕ) → HasFirstLog seen → 1 ≤ k → k < PLACES → is_open seen A k ≡ false
unfolding is_open span_of sector_of
later_closed seen k has from below = ap (λ (sector : List ℕ). get_or sector 0 0 == 0xA7) (has.closed (GATES_A + k) (omega arith) (omega arith))

first_has : HasRecords first_record first_body_bytes
unfolding size_in records_in
first_has = record { size = refl; bytes = refl }

body_has : (seen : List ℕ) → HasFirstLog seen → HasRecords first_record (body_of seen A 0)
unfolding body_of
body_has seen has = (let P : List ℕ → Type 0 = HasRecords first_record in subst P (sym has.body) first_has)

module _ (seen : List ℕ) (pending : ℕ → Bool) (has : HasFirstLog seen) (settled : IsFirstSettled pending) where
  selected : IsSelected A seen pending
  selected = record { reads = selects_a seen has; settled = settled 2 (inl refl) }

  head : HasHead A first_record seen pending
  head =
      head_stands A first_record seen pending has.size (omega arith, omega arith) (record {
        records = body_has seen has;
        body = λ s within. settled s (inr (omega (arith, within.from), omega (arith, within.below)));
        closed = λ k from below. record { reads = later_closed seen k has from below; settled = settled (GATES_A + k) (inr (omega arith, omega arith)) };
      })
      (record { reads = first_open seen has; settled = settled (GATES_A + 0) (inr (omega arith, omega arith)) })

  pub first_on : On (starting A 1) seen pending
  first_on = start_on A 1 seen pending (omega arith) selected head.batches

  -- each image holds it too
  pub first_images : (image : List ℕ) → IsImage seen pending image → HasFirstLog image
  first_images image may = record {
    size = omega (arith, may.size, has.size);
    selector = may.settled 2 (settled 2 (inl refl)) ∙ has.selector;
    opened = may.settled GATES_A (settled GATES_A (inr (omega arith, omega arith))) ∙ has.opened;
    closed = λ s from below. may.settled s (settled s (inr (omega arith, omega arith))) ∙ has.closed s from below;
    body = image_span BODY_SECTORS BODIES_A seen pending image may (λ s within. settled s (inr (omega (arith, within.from), omega (arith, within.below)))) ∙ has.body;
  }

-- what reads so has the first log
pub first_bodies : (seen : List ℕ) → HasFirstLog seen → open_bodies seen ≡ first_record ∷ []
first_bodies seen has = head_shows_bodies A first_record seen (λ s. false) seen (head seen (λ s. false) has (λ s of. refl)) (record { size = refl; settled = λ s is. refl }) (selects_a seen has)

pub first_log : (seen : List ℕ) → HasFirstLog seen → log_of seen ≡ first_record
first_log seen has = sym (joined_log seen) ∙ ap joined (first_bodies seen has) ∙ joined_more [] first_record
