-- The three phases of a format.
use Rattle.std.proofs.Common.{◌≡◌, ◌∙◌, sym, ap, refl, subst, inl, inr, ⊎_elim, ℕ, ◌+◌, ◌-◌, ◌*◌, ◌≤◌, List, [], ◌∷◌, ◌++◌, length, take, replicate, Bool, true, false, ◌==◌, slice_index, Result, Ok, Err, arith}
use Rattle.std.specs.Result.{is_ok}
use Rattle.std.proofs.lemmas.Bool.{true≢false}
use Rattle.std.proofs.lemmas.Bool.Decides.{nat_tests}
use Rattle.std.proofs.lemmas.List.{take-replicate, drop-replicate}
use Rattle.gx_geom.specs.declared.refusal.Refusal.{Refusal}
use Rattle.gx_disk.specs.declared.layout.TheConstants.{MIN_SECTORS, PAGES_AT, PAGE_SECTORS}
use Rattle.gx_disk.specs.Device.{Device, MayLeave, IsImage, IsSettled}
use Rattle.gx_disk.specs.Moments.{Leaves}
use Rattle.gx_disk.specs.Sectors.{sector_of, span_of, IsOutside}
use Rattle.gx_disk.proofs.Leaving.{leaves_joined, leaves_weaker}
use Rattle.gx_disk.proofs.Spans.{image_span}
use Rattle.gx_page.specs.Contents.{Contents}
use Rattle.gx_page.specs.Edits.{blank}
use Rattle.gx_page.specs.Format.{image_of}
use Rattle.gx_glog.specs.declared.extent.TheConstants.{BODIES_A, BODY_SECTORS, GATES_A, GATES_B, PLACES}
use Rattle.gx_glog.specs.declared.turn.TheConstants.{GATES_SIZE}
use Rattle.gx_glog.specs.First.{open_gate_bytes, closed_gates_bytes, selector_bytes, first_body_bytes}
use Rattle.gx_glog.specs.Parameters.{parameters_bytes}
use Rattle.gx_glog.specs.declared.parameters.Parameters.{Parameters}
use Rattle.gx_glog.specs.declared.extent.Extent.TheVariants.{A}
use Rattle.gx_format.specs.declared.fresh.TheConstants.{PAGE_2}
use Rattle.gx_format.specs.Calls.{Call, Write, Sync, Makes, HasRun, Runs}
use Rattle.gx_format.specs.Fresh.{magic_bytes, old_magic_bytes, IsLaid, IsFresh, IsUnnamed}
use Rattle.gx_format.specs.Formatting.{clearing, laying, naming, formatting, IsOldBeside, IsUnnamedOrFresh, IsOldOrFresh, IsLaidDown, IsCleared}
use Rattle.gx_format.proofs.Keeping.{spares_one, is_first, call_touches, first_written, how_many_written, keeps}
use Rattle.gx_format.proofs.Running.{failed_split}
use Rattle.gx_format.proofs.laws.LaidDown.{AreRead, are_read, are_settled, later_size}
use Rattle.gx_format.proofs.laws.Wrote.{zero_sector, run_split, run_honest, wrote_all, synced}

-- sector s is none that a call touches which writes sector 0 at most
pub beyond_first : (call : Call) (s : ℕ) → is_first call ≡ true → 1 ≤ s → IsOutside (first_written call) (how_many_written call) s
beyond_first (Write first n bytes) s is from = inr (grind (arith, nat_tests))
beyond_first Sync s is from = inr (omega arith)

-- sector 0 is none that a call touches which spares it
spared_first : (call : Call) → spares_one 0 1 call ≡ true → IsOutside (first_written call) (how_many_written call) 0
spared_first (Write first n bytes) is = grind (arith, nat_tests)
spared_first Sync is = inr (omega arith)

-- ---- the magic is taken away

-- beyond sector 0 the device is unchanged
record IsBeside (old d : Device) : Type 0 where
  pub size : length d.seen ≡ length old.seen
  pub same : (s : ℕ) → 1 ≤ s → old.pending s ≡ false → (sector_of d.seen s ≡ sector_of old.seen s) × (d.pending s ≡ false)

beside_kept : (old : Device) (call : Call) (d e : Device) (result : Result (Unit {0}) Refusal) → is_first call ≡ true → d.honest ≡ true → IsBeside old d → Makes call d e result → IsBeside old e
beside_kept old call d e result first honest beside makes =
    let touches = call_touches call d e result honest makes in
    record {
      size = touches.size ∙ beside.size;
      same = λ s from settled.
          let out = beyond_first call s first from in
          let was = beside.same s from settled in
          (touches.bytes s out ∙ was.0, touches.settled s out was.1);
    }

beside_shows : (old d : Device) → IsBeside old d → (image : List ℕ) → MayLeave d image → IsOldBeside old image
beside_shows old d beside image may = record {
  size = may.size ∙ beside.size;
  same = λ s from settled. (let is = beside.same s from settled in may.settled s is.1 ∙ is.0);
}

module _ {D : Type 0} (state : D → Device) (whole : (d : D) → (state d).honest ≡ true → length (state d).seen ≡ 512 * (state d).sectors) where
  cleared : (old new : D) → (state old).honest ≡ true → 1 ≤ (state old).sectors → HasRun state clearing old new → IsCleared (state new)
  unfolding sector_of span_of
  cleared old new honest some run = record {
    zeros = wrote_all state whole [] (Sync ∷ []) 0 1 (replicate 512 0) old new run honest some refl;
    settled = synced state whole (Write 0 1 (replicate 512 0) ∷ []) old new run honest 0;
  }

  pub clearing_leaves : (old new : D) (result : Result (Unit {0}) Refusal) → (state old).honest ≡ true → 1 ≤ (state old).sectors → Runs state clearing old new result
      → Leaves (IsOldBeside (state old)) (state old) (state new) × (result ≡ Ok tt → IsCleared (state new))
  clearing_leaves old new result honest some runs = (
    (keeps state is_first (IsBeside (state old)) (IsOldBeside (state old)) (beside_kept (state old)) (beside_shows (state old)) clearing old new result refl honest
        (record { size = refl; same = λ s from settled. (refl, settled) }) runs).0,
    λ is. cleared old new honest some (subst (λ r. Runs state clearing old new r) is runs),
  )

-- ---- all but the magic is laid down

pub err_ok : (why : Refusal) (r : Result (Unit {0}) Refusal) → r ≡ Err why → r ≡ Ok tt → ⊥
err_ok why r err ok = true≢false (sym (ap is_ok ok) ∙ ap is_ok err)

pub cleared_kept : (call : Call) (d e : Device) (result : Result (Unit {0}) Refusal) → spares_one 0 1 call ≡ true → d.honest ≡ true → IsCleared d → Makes call d e result → IsCleared e
cleared_kept call d e result spares honest was makes =
    let touches = call_touches call d e result honest makes in
    let out = spared_first call spares in
    record { zeros = touches.bytes 0 out ∙ was.zeros; settled = touches.settled 0 out was.settled }

no_letters : (letters image : List ℕ) → slice_index letters 0 ≡ 0x47 → sector_of image 0 ≡ replicate 512 0 → take 8 (sector_of image 0) ≡ letters → ⊥
no_letters letters image is zeros same =
    (let first : 0 ≡ 0x47 = ap (λ (sector : List ℕ). slice_index (take 8 sector) 0) (sym zeros) ∙ ap (λ (bytes : List ℕ). slice_index bytes 0) same ∙ is in omega (arith, first))

no_magic : (image : List ℕ) → sector_of image 0 ≡ replicate 512 0 → IsUnnamed image
no_magic image zeros = (no_letters magic_bytes image refl zeros, no_letters old_magic_bytes image refl zeros)

pub cleared_shows : (d : Device) → IsCleared d → (image : List ℕ) → MayLeave d image → IsUnnamed image
cleared_shows d was image may = no_magic image (may.settled 0 was.settled ∙ was.zeros)

-- the bytes that are read are those of a fresh index
laid_of : (parameters : Parameters) (root : Contents) (seen : List ℕ) → 512 * PAGES_AT ≤ length seen
    → AreRead (parameters_bytes parameters ++ replicate 504 0) (selector_bytes A) closed_gates_bytes (image_of root) (image_of (blank 0 2)) first_body_bytes open_gate_bytes seen
    → IsLaid parameters root seen
unfolding span_of sector_of
laid_of parameters root seen size read = record {
  told = read.told_is;
  log = record {
    size = size;
    selector = read.selector_is;
    opened = read.opened;
    closed = λ s from below. zero_sector seen (GATES_A + 1) (PLACES - 1) s (read.later ∙ ap (take later_size) (drop-replicate 512 GATES_SIZE 0) ∙ take-replicate later_size later_size 0 (omega arith)) from (omega (arith, below));
    body = read.body_is;
  };
  closed = λ s from below. zero_sector seen GATES_B PLACES s read.others from (omega (arith, below));
  page_1 = read.page_1;
  page_2 = read.page_2;
}

-- ---- the magic is written

-- the sectors beyond sector 0 have it, so an image has, if they are settled
laid_image : (parameters : Parameters) (root : Contents) (seen : List ℕ) (pending : ℕ → Bool) (image : List ℕ) → ((s : ℕ) → 1 ≤ s → pending s ≡ false) → IsImage seen pending image
    → IsLaid parameters root seen → IsLaid parameters root image
laid_image parameters root seen pending image settled may laid = record {
  told = may.settled 1 (settled 1 (omega arith)) ∙ laid.told;
  log = record {
    size = omega (arith, may.size, laid.log.size);
    selector = may.settled 2 (settled 2 (omega arith)) ∙ laid.log.selector;
    opened = may.settled GATES_A (settled GATES_A (omega arith)) ∙ laid.log.opened;
    closed = λ s from below. may.settled s (settled s (omega (arith, from))) ∙ laid.log.closed s from below;
    body = image_span BODY_SECTORS BODIES_A seen pending image may (λ s within. settled s (omega (arith, within.from))) ∙ laid.log.body;
  };
  closed = λ s from below. may.settled s (settled s (omega (arith, from))) ∙ laid.closed s from below;
  page_1 = image_span PAGE_SECTORS PAGES_AT seen pending image may (λ s within. settled s (omega (arith, within.from))) ∙ laid.page_1;
  page_2 = image_span PAGE_SECTORS PAGE_2 seen pending image may (λ s within. settled s (omega (arith, within.from))) ∙ laid.page_2;
}

laid_kept : (parameters : Parameters) (root : Contents) (call : Call) (d e : Device) (result : Result (Unit {0}) Refusal) → is_first call ≡ true → d.honest ≡ true
    → IsLaidDown parameters root d → Makes call d e result → IsLaidDown parameters root e
laid_kept parameters root call d e result first honest was makes =
    let touches = call_touches call d e result honest makes in
    let rest : (s : ℕ) → 1 ≤ s → e.pending s ≡ false = λ s from. touches.settled s (beyond_first call s first from) (was.settled s from) in
    record {
      laid = laid_image parameters root d.seen (λ s. s == 0) e.seen (λ s from. grind (arith, nat_tests)) (record { size = touches.size; settled = λ s other. touches.bytes s (beyond_first call s first (grind (arith, nat_tests))) }) was.laid;
      settled = rest;
    }

laid_shows : (parameters : Parameters) (root : Contents) (d : Device) → IsLaidDown parameters root d → (image : List ℕ) → MayLeave d image → IsUnnamedOrFresh parameters root image
laid_shows parameters root d was image may magic = record { magic = magic; laid = laid_image parameters root d.seen d.pending image was.settled may was.laid }

module _ {D : Type 0} (state : D → Device) (whole : (d : D) → (state d).honest ≡ true → length (state d).seen ≡ 512 * (state d).sectors) where
  laid_down : (parameters : Parameters) (root : Contents) (old new : D) → (state old).honest ≡ true → MIN_SECTORS ≤ (state old).sectors → HasRun state (laying parameters root) old new
      → IsLaidDown parameters root (state new)
  laid_down parameters root old new honest room run =
      let on = run_honest state whole (laying parameters root) old new run in
      let read =
      are_read state whole (parameters_bytes parameters ++ replicate 504 0) (selector_bytes A) closed_gates_bytes (image_of root) (image_of (blank 0 2)) first_body_bytes open_gate_bytes old new honest room run in
      record {
        laid = laid_of parameters root (state new).seen (omega (arith, whole new (on.0 ∙ honest), on.1, room)) read;
        settled = λ s from.
            are_settled state whole (parameters_bytes parameters ++ replicate 504 0) (selector_bytes A) closed_gates_bytes (image_of root) (image_of (blank 0 2)) first_body_bytes open_gate_bytes old new honest room run s;
      }

  pub laying_leaves : (parameters : Parameters) (root : Contents) (old new : D) (result : Result (Unit {0}) Refusal) → (state old).honest ≡ true → MIN_SECTORS ≤ (state old).sectors
      → IsCleared (state old) → Runs state (laying parameters root) old new result → Leaves IsUnnamed (state old) (state new) × (result ≡ Ok tt → IsLaidDown parameters root (state new))
  laying_leaves parameters root old new result honest room was runs = (
    (keeps state (spares_one 0 1) IsCleared IsUnnamed cleared_kept cleared_shows (laying parameters root) old new result refl honest was runs).0,
    λ is. laid_down parameters root old new honest room (subst (λ r. Runs state (laying parameters root) old new r) is runs),
  )

  fresh : (parameters : Parameters) (root : Contents) (old new : D) → (state old).honest ≡ true → 1 ≤ (state old).sectors → IsLaidDown parameters root (state new) → HasRun state naming old new → IsFresh parameters root (state new).seen
  unfolding sector_of span_of
  fresh parameters root old new honest some down run = record {
    magic = ap (take 8) (wrote_all state whole [] (Sync ∷ []) 0 1 (magic_bytes ++ replicate 504 0) old new run honest some refl);
    laid = down.laid;
  }

  pub naming_leaves : (parameters : Parameters) (root : Contents) (old new : D) (result : Result (Unit {0}) Refusal) → (state old).honest ≡ true → 1 ≤ (state old).sectors
      → IsLaidDown parameters root (state old) → Runs state naming old new result
      → Leaves (IsUnnamedOrFresh parameters root) (state old) (state new) × (result ≡ Ok tt → IsFresh parameters root (state new).seen × IsSettled (state new))
  naming_leaves parameters root old new result honest some was runs =
      let kept = keeps state is_first (IsLaidDown parameters root) (IsUnnamedOrFresh parameters root) (laid_kept parameters root) (laid_shows parameters root) naming old new result refl honest was runs in (
        kept.0,
        λ is.
            let run : HasRun state naming old new = subst (λ r. Runs state naming old new r) is runs in
            (fresh parameters root old new honest some kept.1 run, synced state whole (Write 0 1 (magic_bytes ++ replicate 504 0) ∷ []) old new run honest),
      )

  -- ---- all of it

  weaker_first : (parameters : Parameters) (root : Contents) (old new : D) → Leaves (IsOldBeside (state old)) (state old) (state new) → Leaves (IsOldOrFresh (state old) parameters root) (state old) (state new)
  weaker_first parameters root old new = leaves_weaker (IsOldBeside (state old)) (IsOldOrFresh (state old) parameters root) (state old) (state new) (λ image is magic. inl is)

  weaker_laid : (parameters : Parameters) (root : Contents) (old a b : D) → Leaves IsUnnamed (state a) (state b) → Leaves (IsOldOrFresh (state old) parameters root) (state a) (state b)
  weaker_laid parameters root old a b = leaves_weaker IsUnnamed (IsOldOrFresh (state old) parameters root) (state a) (state b) (λ image none magic. absurd (none.0 magic))

  weaker_last : (parameters : Parameters) (root : Contents) (old a b : D) → Leaves (IsUnnamedOrFresh parameters root) (state a) (state b) → Leaves (IsOldOrFresh (state old) parameters root) (state a) (state b)
  weaker_last parameters root old a b = leaves_weaker (IsUnnamedOrFresh parameters root) (IsOldOrFresh (state old) parameters root) (state a) (state b) (λ image is magic. inr (is magic))

  -- all is laid down, and then the magic written
  named : (parameters : Parameters) (root : Contents) (old a b new : D) (result : Result (Unit {0}) Refusal) → (state a).honest ≡ true → MIN_SECTORS ≤ (state a).sectors → IsCleared (state a)
      → HasRun state (laying parameters root) a b → Runs state naming b new result
      → Leaves (IsOldOrFresh (state old) parameters root) (state a) (state new) × (result ≡ Ok tt → IsFresh parameters root (state new).seen × IsSettled (state new))
  named parameters root old a b new result honest room was laid runs =
      let on = run_honest state whole (laying parameters root) a b laid in
      let two = laying_leaves parameters root a b (Ok tt) honest room was laid in
      let three = naming_leaves parameters root b new result (on.0 ∙ honest) (omega (arith, on.1, room)) (two.1 refl) runs in (
        leaves_joined (IsOldOrFresh (state old) parameters root) (state a) (state b) (state new) (weaker_laid parameters root old a b two.0) (weaker_last parameters root old b new three.0),
        three.1,
      )

  -- what comes after the first phase
  behind : (parameters : Parameters) (root : Contents) (old a new : D) (result : Result (Unit {0}) Refusal) → (state a).honest ≡ true → MIN_SECTORS ≤ (state a).sectors → IsCleared (state a)
      → Runs state (laying parameters root ++ naming) a new result
      → Leaves (IsOldOrFresh (state old) parameters root) (state a) (state new) × (result ≡ Ok tt → IsFresh parameters root (state new).seen × IsSettled (state new))
  behind parameters root old a new (Ok x) honest room was run =
      (let parts = run_split state whole (laying parameters root) naming a new run in named parameters root old a parts.0 new (Ok x) honest room was parts.1.0 parts.1.1)
  behind parameters root old a new (Err why) honest room was fails =
      ⊎_elim
      (λ early. (weaker_laid parameters root old a new (laying_leaves parameters root a new (Err why) honest room was (fails.0, early)).0, λ is. absurd (err_ok why (Err why) refl is)))
      (λ later. named parameters root old a later.0 new (Err why) honest room was later.1.0 (fails.0, later.1.1))
      (failed_split state (laying parameters root) naming a new fails.1)

  -- the first phase succeeded, and the others went on
  ended : (parameters : Parameters) (root : Contents) (old a new : D) (result : Result (Unit {0}) Refusal) → (state old).honest ≡ true → MIN_SECTORS ≤ (state old).sectors
      → HasRun state clearing old a → Runs state (laying parameters root ++ naming) a new result
      → Leaves (IsOldOrFresh (state old) parameters root) (state old) (state new) × (result ≡ Ok tt → IsFresh parameters root (state new).seen × IsSettled (state new))
  ended parameters root old a new result honest room run runs =
      let on = run_honest state whole clearing old a run in
      let one = clearing_leaves state whole old a (Ok tt) honest (omega (arith, room)) run in
      let rest = behind parameters root old a new result (on.0 ∙ honest) (omega (arith, on.1, room)) (one.1 refl) runs in
      (leaves_joined (IsOldOrFresh (state old) parameters root) (state old) (state a) (state new) (weaker_first parameters root old a one.0) rest.0, rest.1)

  pub formatting_leaves : (parameters : Parameters) (root : Contents) (old new : D) (result : Result (Unit {0}) Refusal) → (state old).honest ≡ true → MIN_SECTORS ≤ (state old).sectors
      → Runs state (formatting parameters root) old new result
      → Leaves (IsOldOrFresh (state old) parameters root) (state old) (state new) × (result ≡ Ok tt → IsFresh parameters root (state new).seen × IsSettled (state new))
  formatting_leaves parameters root old new (Ok x) honest room run =
      let first = run_split state whole clearing (laying parameters root ++ naming) old new run in
      ended parameters root old first.0 new (Ok x) honest room first.1.0 first.1.1
  formatting_leaves parameters root old new (Err why) honest room fails =
      ⊎_elim
      (λ early. (weaker_first parameters root old new (clearing_leaves state whole old new (Err why) honest (omega (arith, room)) (fails.0, early)).0, λ is. absurd (err_ok why (Err why) refl is)))
      (λ later. ended parameters root old later.0 new (Err why) honest room later.1.0 (fails.0, later.1.1))
      (failed_split state clearing (laying parameters root ++ naming) old new fails.1)
