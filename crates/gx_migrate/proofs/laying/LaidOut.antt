-- What is read after all but the magic of a migrated index was written, and what an image then has.
use Rattle.std.proofs.Common.{◌≡◌, ◌∙◌, sym, ap, refl, subst, inl, inr, ℕ, ◌+◌, ◌*◌, ◌<◌, ◌≤◌, ◌==◌, Bool, true, false, List, [], ◌∷◌, ◌++◌, length, take, replicate, get_or, if◌then◌else◌, arith}
use Rattle.gx_disk.specs.declared.layout.TheConstants.{PAGES_AT, PAGE_SECTORS}
use Rattle.gx_disk.specs.Device.{IsImage}
use Rattle.gx_disk.specs.Sectors.{sector_of, span_of, IsWithin}
use Rattle.gx_disk.proofs.Spans.{spans_same}
use Rattle.gx_durable.specs.Fitting.{HasSizes}
use Rattle.gx_durable.proofs.Sizes.{image_sizes}
use Rattle.gx_glog.specs.declared.extent.TheConstants.{BODIES_A, BODY_ROOM, BODY_SECTORS, BODY_SIZE, GATES_A, PLACES}
use Rattle.gx_glog.specs.declared.extent.Extent.TheVariants.{A, B}
use Rattle.gx_glog.specs.declared.parameters.Parameters.{Parameters}
use Rattle.gx_glog.specs.Bodies.{HasRecords, IsBody}
use Rattle.gx_glog.specs.Cuts.{open_bodies}
use Rattle.gx_glog.specs.First.{open_gate_bytes, selector_bytes}
use Rattle.gx_glog.specs.Layout.{body_of, is_open, selected_of}
use Rattle.gx_glog.specs.Parameters.{parameters_bytes}
use Rattle.gx_glog.specs.Standing.{HasHead, IsSelected}
use Rattle.gx_glog.specs.State.{starting}
use Rattle.gx_glog.proofs.Images.{head_shows_bodies}
use Rattle.gx_glog.proofs.Keeping.{start_on}
use Rattle.gx_glog.proofs.Turning.{head_stands}
use Rattle.gx_pool.specs.Area.{bytes_of, first_of}

-- Beyond sector 0 the bytes are a migrated index's: its parameters, a log of one batch, and the pages in use as these bytes have them.
pub record IsLaidOut (parameters : Parameters) (bytes : List ℕ) (used : ℕ) (body seen : List ℕ) : Type 0 where
  pub size : 512 * PAGES_AT ≤ length seen
  pub told : sector_of seen 1 ≡ parameters_bytes parameters ++ replicate 504 0
  pub selector : sector_of seen 2 ≡ selector_bytes A
  pub opened : sector_of seen GATES_A ≡ open_gate_bytes
  pub closed : (s : ℕ) → GATES_A < s → s < BODIES_A → sector_of seen s ≡ replicate 512 0
  pub body_is : span_of seen BODIES_A (512 * BODY_SECTORS) ≡ body
  pub pages : (p : ℕ) → 1 ≤ p → p ≤ used → bytes_of seen p ≡ bytes_of bytes p

-- bytes that are the same beyond sector 0 are so too
pub laid_same : (parameters : Parameters) (bytes : List ℕ) (used : ℕ) (body seen image : List ℕ) → length image ≡ length seen → ((s : ℕ) → 1 ≤ s → sector_of image s ≡ sector_of seen s)
    → IsLaidOut parameters bytes used body seen → IsLaidOut parameters bytes used body image
laid_same parameters bytes used body seen image size same laid = record {
  size = (let long = laid.size in omega (arith, size, long));
  told = same 1 (omega arith) ∙ laid.told;
  selector = same 2 (omega arith) ∙ laid.selector;
  opened = same GATES_A (omega arith) ∙ laid.opened;
  closed = λ s from below. same s (omega (arith, from)) ∙ laid.closed s from below;
  body_is = spans_same BODY_SECTORS BODIES_A image seen (λ s within. same s (let from = within.from in omega (arith, from))) ∙ laid.body_is;
  pages = λ p low high. spans_same PAGE_SECTORS (first_of p) image seen (λ s within. same s (let from = within.from in omega (arith, from))) ∙ laid.pages p low high;
}

selects_a : (seen : List ℕ) → sector_of seen 2 ≡ selector_bytes A → selected_of seen ≡ A
unfolding selected_of span_of sector_of
selects_a seen is = ap (λ (sector : List ℕ). if get_or sector 0 0 == 0x5A then B else A) is

first_open : (seen : List ℕ) → sector_of seen GATES_A ≡ open_gate_bytes → is_open seen A 0 ≡ true
unfolding is_open span_of sector_of
first_open seen is = ap (λ (sector : List ℕ). get_or sector 0 0 == 0xA7) is

later_closed : (seen : List ℕ) (k : ℕ) → sector_of seen (GATES_A + k) ≡ replicate 512 0 → is_open seen A k ≡ false
unfolding is_open span_of sector_of
later_closed seen k is = ap (λ (sector : List ℕ). get_or sector 0 0 == 0xA7) is

body_has : (seen head body : List ℕ) → span_of seen BODIES_A (512 * BODY_SECTORS) ≡ body → HasRecords head body → HasRecords head (body_of seen A 0)
unfolding body_of
body_has seen head body is has = subst (λ (b : List ℕ). HasRecords head b) (sym is) has

module _ (parameters : Parameters) (bytes : List ℕ) (used : ℕ) (head body seen : List ℕ) (some : 1 ≤ length head) (few : length head ≤ BODY_ROOM) (is : IsBody head body)
    (laid : IsLaidOut parameters bytes used body seen) where
  abbrev none : ℕ → Bool
  none s = false

  selected : IsSelected A seen none
  selected = record { reads = selects_a seen laid.selector; settled = refl }

  has_head : HasHead A head seen none
  has_head =
      head_stands A head seen none laid.size (some, few) (record {
        records = body_has seen head body laid.body_is is.has;
        body = λ s within. refl;
        closed = λ k from below. record { reads = later_closed seen k (laid.closed (GATES_A + k) (omega (arith, from)) (omega (arith, below))); settled = refl };
      })
      (record { reads = first_open seen laid.opened; settled = refl })

  itself : IsImage seen none seen
  itself = record { size = refl; settled = λ s is. refl }

  -- its log is that batch alone
  pub laid_bodies : open_bodies seen ≡ head ∷ []
  laid_bodies = head_shows_bodies A head seen none seen has_head itself selected.reads

  -- whose size is in range
  pub laid_sizes : HasSizes seen
  laid_sizes = image_sizes (starting A 1) seen none seen (start_on A 1 seen none (omega arith) selected has_head.batches) itself
