-- What closing the gates after a log's run leaves.
use Rattle.std.proofs.Common.{◌≡◌, ◌∙◌, sym, ap, refl, subst, inl, inr, ⊎_elim, ℕ, ◌+◌, ◌-◌, ◌*◌, ◌/◌, ◌<◌, ◌≤◌, ◌==◌, List, length, take, drop, replicate, get_or, true, false, Bool, Result, Ok, Err, arith}
use Rattle.std.specs.Prelude.{OnOk}
use Rattle.std.proofs.lemmas.Bool.{cases_lt, false≢true}
use Rattle.std.proofs.lemmas.List.{take-replicate, length-replicate}
use Rattle.gx_disk.specs.declared.layout.TheConstants.{PAGES_AT}
use Rattle.gx_disk.specs.Device.{Device, MayLeave, IsSettled, Touches, Rests, Writes, Syncs, IsWritten}
use Rattle.gx_disk.specs.Looks.{Looks}
use Rattle.gx_disk.specs.Moments.{Leaves}
use Rattle.gx_disk.specs.Sectors.{span_of, sector_of, IsOutside}
use Rattle.gx_disk.proofs.Leaving.{call_leaves, leaves_joined, leaves_weaker}
use Rattle.gx_glog.specs.declared.turn.TheConstants.{GATES_SIZE}
use Rattle.gx_glog.specs.declared.extent.TheConstants.{PLACES}
use Rattle.gx_glog.specs.declared.extent.Extent.{Extent}
use Rattle.gx_glog.specs.Cuts.{bodies_in, open_bodies}
use Rattle.gx_glog.specs.First.{closed_gates_bytes}
use Rattle.gx_glog.specs.Later.{ReadsClosedFrom, ReadsOpenFrom, ClosesGatesFrom, IsBesideLater, KeepsRun, IsClosedBehind, ClosesLater, CallsForLater}
use Rattle.gx_glog.specs.Layout.{gates_of, selected_of, is_open, body_of, size_in, open_run}
use Rattle.gx_glog.specs.Reading.{IsSize}
use Rattle.gx_glog.specs.Standing.{IsSelected, HasRun}
use Rattle.gx_glog.proofs.Fills.{replicated_zero}
use Rattle.gx_glog.proofs.Gates.{placed, gate_same, selector_same, body_same, bodies_same, run_is, bodies_are}
use Rattle.gx_glog.proofs.Turning.{written_back, first_read}

-- the write of the first sectors of closed gates
closes_gates : {T E : Type 0} (from : ℕ) (extent : Extent) (at size : ℕ) (gates : List ℕ) (old new : Device) (result : Result T E) → gates ≡ closed_gates_bytes → at ≡ gates_of extent + from
    → size ≡ 512 * (PLACES - from) → Writes at (length (take size gates) / 512) (take size gates) old new result → ClosesGatesFrom from extent old new result
closes_gates {T = T} {E = E} from extent at size gates old new result are place whole writes =
    let bytes : take size gates ≡ replicate (512 * (PLACES - from)) 0 = rw (are, whole) (take-replicate (512 * (PLACES - from)) GATES_SIZE 0 (omega arith)) in
    let count : length (take size gates) / 512 ≡ PLACES - from = omega (arith, ap length bytes, length-replicate {A = ℕ} (512 * (PLACES - from)) 0) in
    let A : ℕ → Type 0 = λ first. Writes {T = T} {E = E} first (PLACES - from) (replicate (512 * (PLACES - from)) 0) old new result in
    let B : List ℕ → Type 0 = λ written. Writes {T = T} {E = E} at (PLACES - from) written old new result in
    let C : ℕ → Type 0 = λ n. Writes {T = T} {E = E} at n (take size gates) old new result in
    subst A place (subst B bytes (subst C count writes))

module _ {T E T' E' : Type 0} (from : ℕ) (extent : Extent) (at size : ℕ) (gates : List ℕ) (old new : Device) where
  pub closes_made : (x : T) (y : T') → gates ≡ closed_gates_bytes → at ≡ gates_of extent + from → size ≡ 512 * (PLACES - from)
      → Writes {T = T} {E = E} at (length (take size gates) / 512) (take size gates) old new (Ok x) → ClosesGatesFrom {T = T'} {E = E'} from extent old new (Ok y)
  closes_made x y are place whole writes =
      let closes = closes_gates {T = T} {E = E} from extent at size gates old new (Ok x) are place whole writes in
      record { touches = closes.touches; written = closes.written; torn = closes.torn; pending = closes.pending; time = closes.time }

  pub closes_failed : (x : E) (y : E') → gates ≡ closed_gates_bytes → at ≡ gates_of extent + from → size ≡ 512 * (PLACES - from)
      → Writes {T = T} {E = E} at (length (take size gates) / 512) (take size gates) old new (Err x) → ClosesGatesFrom {T = T'} {E = E'} from extent old new (Err y)
  closes_failed x y are place whole writes =
      let closes = closes_gates {T = T} {E = E} from extent at size gates old new (Err x) are place whole writes in
      record { touches = closes.touches; written = tt; torn = closes.torn; pending = closes.pending; time = closes.time }

-- if the first n gates of an extent that is selected are open and the next one is closed, of which no other sector is
-- known
module _ (extent : Extent) (n : ℕ) (seen : List ℕ) (pending : ℕ → Bool) (few : n ≤ PLACES) (has : HasRun extent n seen pending) (selects : IsSelected extent seen pending) where
  -- bytes with each sector but those of later gates have the same log
  module _ (image : List ℕ) (others : (s : ℕ) → IsBesideLater extent n s → sector_of image s ≡ sector_of seen s) where
    pub beside_selected : selected_of image ≡ extent
    beside_selected = let at = placed extent in selector_same image seen (others 2 (inl (omega (arith, at.from)))) ∙ selects.reads

    beside_gate : (k : ℕ) → k ≤ n → is_open image extent k ≡ is_open seen extent k
    beside_gate k le = gate_same extent k image seen (others (gates_of extent + k) (inl (omega (arith, le))))

    pub beside_opened : (k : ℕ) → k < n → is_open image extent k ≡ true
    beside_opened k less = beside_gate k (omega (arith, less)) ∙ (has.opened k less).reads

    pub beside_ended : n < PLACES → is_open image extent n ≡ false
    beside_ended less = beside_gate n (omega arith) ∙ (has.ends less).reads

    pub beside_body : (k : ℕ) → body_of image extent k ≡ body_of seen extent k
    beside_body k = let at = placed extent in body_same extent k image seen (λ s within. others s (inr (omega (arith, at.bodies, within.from))))

    beside_run : open_run image (selected_of image) 0 PLACES ≡ n
    beside_run =
        let start : 0 + n ≡ n = omega arith in
        ap (λ x. open_run image x 0 PLACES) beside_selected
        ∙ run_is extent PLACES 0 n image few (λ j from below. beside_opened j (omega (arith, below))) (λ less. ap (λ j. is_open image extent j) start ∙ beside_ended less)

    beside_bodies : open_bodies image ≡ bodies_in seen extent n
    beside_bodies = bodies_are extent n image beside_selected few beside_opened beside_ended ∙ bodies_same extent n image seen (λ k less. beside_body k)

  pub keeps_run : (image : List ℕ) → length image ≡ length seen → ((s : ℕ) → IsBesideLater extent n s → sector_of image s ≡ sector_of seen s) → KeepsRun extent n seen image
  keeps_run image size others = record {
    size = size;
    others = others;
    selected = beside_selected image others ∙ sym (beside_selected seen (λ s is. refl));
    run = beside_run image others ∙ sym (beside_run seen (λ s is. refl));
    bodies = beside_bodies image others ∙ sym (beside_bodies seen (λ s is. refl));
  }

-- no sector but later gates differs, or is pending
record Beside (extent : Extent) (n : ℕ) (old new : Device) : Type 0 where
  pub size : length new.seen ≡ length old.seen
  pub others : (s : ℕ) → IsBesideLater extent n s → sector_of new.seen s ≡ sector_of old.seen s
  pub settled : (s : ℕ) → IsBesideLater extent n s → new.pending s ≡ false

looked_beside : (extent : Extent) (n : ℕ) (old new : Device) → IsSettled old → Looks old new → Beside extent n old new
looked_beside extent n old new settled looks = record {
  size = ap length looks.rests.seen;
  others = λ s is. ap (λ (bytes : List ℕ). sector_of bytes s) looks.rests.seen;
  settled = λ s is. looks.pending s ∙ settled s;
}

beside_outside : (extent : Extent) (n s : ℕ) → n + 1 < PLACES → IsBesideLater extent n s → IsOutside (gates_of extent + (n + 1)) (PLACES - (n + 1)) s
beside_outside extent n s less (inl before) = inl (omega (arith, before))
beside_outside extent n s less (inr behind) = inr (omega (arith, behind, less))

wrote_beside : {T E : Type 0} (extent : Extent) (n : ℕ) (old at new : Device) (result : Result T E) → n + 1 < PLACES → Beside extent n old at → ClosesGatesFrom (n + 1) extent at new result → Beside extent n old new
wrote_beside extent n old at new result less was closes = record {
  size = closes.touches.size ∙ was.size;
  others = λ s is. closes.touches.bytes s (beside_outside extent n s less is) ∙ was.others s is;
  settled = λ s is. closes.touches.settled s (beside_outside extent n s less is) (was.settled s is);
}

rested_beside : (extent : Extent) (n : ℕ) (old at new : Device) → Beside extent n old at → Rests at new → Beside extent n old new
rested_beside extent n old at new was rests = record {
  size = ap length rests.seen ∙ was.size;
  others = λ s is. ap (λ (bytes : List ℕ). sector_of bytes s) rests.seen ∙ was.others s is;
  settled = λ s is. rests.settled s (was.settled s is);
}

-- the gates that were written closed read closed
later_closed : (extent : Extent) (n : ℕ) (before now : Device) → n + 1 < PLACES → 512 * PAGES_AT ≤ length before.seen
    → IsWritten (gates_of extent + (n + 1)) (PLACES - (n + 1)) (replicate (512 * (PLACES - (n + 1))) 0) before now → ReadsClosedFrom (n + 1) extent now.seen
unfolding is_open span_of
later_closed extent n before now less size written k from below =
    let at = placed extent in
    let first = gates_of extent + (n + 1) in
    let bytes = replicate {A = ℕ} (512 * (PLACES - (n + 1))) 0 in
    let long : length bytes ≡ 512 * (PLACES - (n + 1)) = length-replicate {A = ℕ} (512 * (PLACES - (n + 1))) 0 in
    let reads = written_back first (PLACES - (n + 1)) bytes before now written (omega (arith, long, at.bodies, at.to, size, less)) in
    let place : gates_of extent + k ≡ first + (k - (n + 1)) = omega (arith, from) in
    ap (λ s. get_or (take 512 (drop (512 * s) now.seen)) 0 0 == 0xA7) place
    ∙ ap (λ byte. byte == 0xA7) (first_read first (k - (n + 1)) (512 * (PLACES - (n + 1))) bytes now.seen long (omega (arith, from, below)) reads ∙ replicated_zero (512 * (PLACES - (n + 1))) (512 * (k - (n + 1))))

module _ (extent : Extent) (n : ℕ) (old : Device) (few : n ≤ PLACES) (settled : IsSettled old) (has : HasRun extent n old.seen old.pending) (selects : IsSelected extent old.seen old.pending) where
  beside_keeps : (new : Device) → Beside extent n old new → KeepsRun extent n old.seen new.seen
  beside_keeps new beside = keeps_run extent n old.seen old.pending few has selects new.seen beside.size beside.others

  beside_images : (new : Device) → Beside extent n old new → (image : List ℕ) → MayLeave new image → KeepsRun extent n old.seen image
  beside_images new beside image may =
      keeps_run extent n old.seen old.pending few has selects image (may.size ∙ beside.size) (λ s is. may.settled s (beside.settled s is) ∙ beside.others s is)

  closed_behind : (new : Device) → Beside extent n old new → IsSettled new → ReadsClosedFrom (n + 1) extent new.seen → IsClosedBehind extent n new
  closed_behind new beside all closed =
      let S : List ℕ → Type 0 = λ body. IsSize (size_in body) in
      let C : ℕ → Type 0 = λ k. is_open new.seen extent k ≡ false in
      record {
        settled = all;
        selected = record { reads = beside_selected extent n old.seen old.pending few has selects new.seen beside.others; settled = all 2 };
        batches = record {
          size = omega (arith, beside.size, has.size);
          opened = λ k less. record { reads = beside_opened extent n old.seen old.pending few has selects new.seen beside.others k less; settled = all _ };
          bodies = λ k less s within. all s;
          sizes = λ k less. subst S (sym (beside_body extent n old.seen old.pending few has selects new.seen beside.others k)) (has.sizes k less);
          closed = λ k from below. record {
            reads = ⊎_elim (λ (later : n < k). closed k (omega (arith, later)) below)
                (λ (here : k ≤ n). (let same : n ≡ k = omega (arith, from, here) in subst C same (beside_ended extent n old.seen old.pending few has selects new.seen beside.others (omega (arith, same, below)))))
                (cases_lt n k);
            settled = all _;
          };
        };
      }

  -- nothing was done but reading
  module _ (read : Device) (looks : Looks old read) where
    looked : Beside extent n old read
    looked = looked_beside extent n old read settled looks

    looked_leaves : Leaves (KeepsRun extent n old.seen) old read
    looked_leaves = leaves_weaker (MayLeave old) (KeepsRun extent n old.seen) old read (beside_images old (record { size = refl; others = λ s is. refl; settled = λ s is. settled s })) looks.leaves

    pub read_fails : {T E : Type 0} (refusal : E) → ClosesLater {T = T} extent n old read (Err refusal)
    read_fails refusal = record { seen = beside_keeps read looked; settled = looked.settled; moments = looked_leaves; done = tt }

    pub read_closed : {T E : Type 0} (x : T) → ReadsClosedFrom (n + 1) extent old.seen → ClosesLater {T = T} {E = E} extent n old read (Ok x)
    read_closed x closed =
        let R : List ℕ → Type 0 = λ bytes. ReadsClosedFrom (n + 1) extent bytes in
        record {
          seen = beside_keeps read looked;
          settled = looked.settled;
          moments = looked_leaves;
          done = closed_behind read looked (λ s. looks.pending s ∙ settled s) (subst R (sym looks.rests.seen) closed);
        }

    -- and then the gates were written
    module _ (less : n + 1 < PLACES) (wrote : Device) where
      wrote_leaves : {T E : Type 0} (result : Result T E) → ClosesGatesFrom (n + 1) extent read wrote result → Leaves (KeepsRun extent n old.seen) old wrote
      wrote_leaves result closes =
          leaves_joined (KeepsRun extent n old.seen) old read wrote looked_leaves
          (call_leaves (KeepsRun extent n old.seen) read wrote closes.time (beside_images wrote (wrote_beside extent n old read wrote result less looked closes)))

      pub write_fails : {T T' E E' : Type 0} (x : E) (refusal : E') → ClosesGatesFrom {T = T} {E = E} (n + 1) extent read wrote (Err x) → ClosesLater {T = T'} {E = E'} extent n old wrote (Err refusal)
      write_fails x refusal closes =
          let beside = wrote_beside extent n old read wrote (Err x) less looked closes in
          record { seen = beside_keeps wrote beside; settled = beside.settled; moments = wrote_leaves (Err x) closes; done = tt }

      -- and then they were synced
      module _ {T E : Type 0} (x : T) (closes : ClosesGatesFrom {T = T} {E = E} (n + 1) extent read wrote (Ok x)) (new : Device) where
        wrote_closed : ReadsClosedFrom (n + 1) extent wrote.seen
        wrote_closed = later_closed extent n read wrote less (omega (arith, ap length looks.rests.seen, has.size)) closes.written

        synced_done : {T' E' : Type 0} (result : Result T' E') → Beside extent n old new → Rests wrote new → OnOk result (IsSettled new) → OnOk result (IsClosedBehind extent n new)
        synced_done (Ok y) beside rests all = (let R : List ℕ → Type 0 = λ bytes. ReadsClosedFrom (n + 1) extent bytes in closed_behind new beside all (subst R (sym rests.seen) wrote_closed))
        synced_done (Err e) beside rests all = tt

        pub synced_closes : {T' E' : Type 0} (result : Result T' E') → Syncs wrote new result → ClosesLater extent n old new result
        synced_closes result syncs =
            let beside = rested_beside extent n old wrote new (wrote_beside extent n old read wrote (Ok x) less looked closes) syncs.rests in
            record {
              seen = beside_keeps new beside;
              settled = beside.settled;
              moments = leaves_joined (KeepsRun extent n old.seen) old wrote new (wrote_leaves (Ok x) closes) (call_leaves (KeepsRun extent n old.seen) wrote new syncs.time (beside_images new beside));
              done = synced_done result beside syncs.rests syncs.settled;
            }

-- which calls it takes
module _ (extent : Extent) (n : ℕ) (old : Device) where
  not_both : (seen : List ℕ) → ReadsOpenFrom (n + 1) extent seen → ReadsClosedFrom (n + 1) extent seen → ⊥
  not_both seen one all = false≢true (sym (all one.place one.later one.below) ∙ one.reads)

  later_outside : (s : ℕ) → n + 1 < PLACES → IsOutside (gates_of extent + (n + 1)) (PLACES - (n + 1)) s → IsOutside (gates_of extent + (n + 1)) (PLACES - (n + 1)) s
  later_outside s less (inl before) = inl before
  later_outside s less (inr behind) = inr (omega (arith, behind, less))

  looked_touches : (read : Device) → Looks old read → Touches (gates_of extent + (n + 1)) (PLACES - (n + 1)) old read
  looked_touches read looks = record {
    size = ap length looks.rests.seen;
    bytes = λ s out. ap (λ (bytes : List ℕ). sector_of bytes s) looks.rests.seen;
    settled = λ s out was. looks.rests.settled s was;
  }

  pub calls_read_fail : {T E : Type 0} (refusal : E) (read : Device) → read.calls ≡ old.calls → Looks old read → CallsForLater {T = T} extent n old read (Err refusal)
  calls_read_fail refusal read calls looks = record { none = λ closed. (calls, looks); two = λ is. tt; touches = looked_touches read looks }

  pub calls_closed : {T E : Type 0} (x : T) (read : Device) → read.calls ≡ old.calls → Looks old read → ReadsClosedFrom (n + 1) extent old.seen → CallsForLater {T = T} {E = E} extent n old read (Ok x)
  calls_closed x read calls looks closed = record { none = λ again. (calls, looks); two = λ is. absurd (not_both old.seen is closed); touches = looked_touches read looks }

  module _ (read wrote : Device) (looks : Looks old read) (is : ReadsOpenFrom (n + 1) extent old.seen) where
    wrote_touches : {T E : Type 0} (result : Result T E) → ClosesGatesFrom (n + 1) extent read wrote result → Touches (gates_of extent + (n + 1)) (PLACES - (n + 1)) old wrote
    wrote_touches result closes =
        let less : n + 1 < PLACES = omega (arith, is.later, is.below) in
        record {
          size = closes.touches.size ∙ ap length looks.rests.seen;
          bytes = λ s out. closes.touches.bytes s (later_outside s less out) ∙ ap (λ (bytes : List ℕ). sector_of bytes s) looks.rests.seen;
          settled = λ s out was. closes.touches.settled s (later_outside s less out) (looks.rests.settled s was);
        }

    pub calls_write_fail : {T T' E E' : Type 0} (x : E) (refusal : E') → ClosesGatesFrom {T = T} {E = E} (n + 1) extent read wrote (Err x) → CallsForLater {T = T'} {E = E'} extent n old wrote (Err refusal)
    calls_write_fail x refusal closes = record { none = λ closed. absurd (not_both old.seen is closed); two = λ again. tt; touches = wrote_touches (Err x) closes }

    both_calls : {T E : Type 0} (result : Result T E) (new : Device) → new.calls ≡ old.calls + 2 → OnOk result (new.calls ≡ old.calls + 2)
    both_calls (Ok x) new calls = calls
    both_calls (Err e) new calls = tt

    pub calls_synced : {T T' E E' : Type 0} (x : T) (new : Device) (result : Result T' E') → ClosesGatesFrom {T = T} {E = E} (n + 1) extent read wrote (Ok x) → Syncs wrote new result
        → new.calls ≡ old.calls + 2 → CallsForLater extent n old new result
    calls_synced x new result closes syncs calls =
        let touches = wrote_touches (Ok x) closes in
        record {
          none = λ closed. absurd (not_both old.seen is closed);
          two = λ again. both_calls result new calls;
          touches = record {
            size = ap length syncs.rests.seen ∙ touches.size;
            bytes = λ s out. ap (λ (bytes : List ℕ). sector_of bytes s) syncs.rests.seen ∙ touches.bytes s out;
            settled = λ s out was. syncs.rests.settled s (touches.settled s out was);
          };
        }
