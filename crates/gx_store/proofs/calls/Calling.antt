-- What calls of a log, and a page's write, leave of the pages in frames.
use Rattle.std.proofs.Common.{◌≡◌, ◌∙◌, ◌⊎◌, sym, ap, refl, inl, inr, subst, ℕ, ◌+◌, ◌-◌, ◌*◌, ◌<◌, ◌≤◌, Bool, false, Option, None, Some, Result, Ok, Err}
use Rattle.gx_disk.specs.declared.layout.TheConstants.{PAGES_AT, PAGE_SECTORS}
use Rattle.gx_disk.specs.Device.{Device}
use Rattle.gx_geom.specs.declared.refusal.Refusal.{Refusal}
use Rattle.gx_glog.specs.declared.stage.Stage.{Stage}
use Rattle.gx_glog.specs.declared.stage.Stage.TheVariants.{Body, BodySync, Gate, GateSync, Idle}
use Rattle.gx_glog.specs.declared.stage.Turn.{Turn}
use Rattle.gx_glog.specs.declared.stage.Turn.TheVariants as turn
use Rattle.gx_glog.specs.State.{Log}
use Rattle.gx_page.specs.Contents.{Contents}
use Rattle.gx_pool.specs.Marks.{is_gated}
use Rattle.gx_pool.specs.State.{State, Kept, IsSound, kept, kept_at, place_of, stamp_of}
use Rattle.gx_pool.specs.Laws.{IsPassed}
use Rattle.gx_pool.specs.Writing.{WritesAtMost, contents_of}
use Rattle.gx_durable.specs.Steps.{told, told_frames}
use Rattle.gx_durable.specs.Turns.{told_turn, told_result}
use Rattle.gx_durable.proofs.Stamping.{told_kept}
use Rattle.gx_store.specs.State.{IsInOrder}

module _ (passes : Contents → Bool) (sectors used pages : ℕ) (frames : State) (is : IsInOrder passes sectors frames used pages) where
  -- frames in which a gated batch is noted
  gated_in_order : (n : ℕ) → IsInOrder passes sectors (record frames { gated = n }) used pages
  gated_in_order n = record {
    few = is.few;
    inside = is.inside;
    taken = is.taken;
    passed = λ page k has. is.passed page k (sym (told_kept frames n page) ∙ has);
    none_above = λ page above. told_kept frames n page ∙ is.none_above page above;
  }

  told_in_order : (stage : Stage) (places : ℕ) → IsInOrder passes sectors (told stage places frames) used pages
  told_in_order GateSync places = gated_in_order (places - 1)
  told_in_order Body places = is
  told_in_order BodySync places = is
  told_in_order Gate places = is
  told_in_order Idle places = is

  pub step_in_order : (result : Result Stage Refusal) (new : Log) → IsInOrder passes sectors (told_frames result new frames) used pages
  step_in_order (Ok stage) new = told_in_order stage new.used
  step_in_order (Err refusal) new = is

  turned_in_order : (call : Turn) → IsInOrder passes sectors (told_turn call frames) used pages
  turned_in_order turn.Done = gated_in_order 0
  turned_in_order turn.Closed = is
  turned_in_order turn.Body = is
  turned_in_order turn.BodySync = is
  turned_in_order turn.Gate = is
  turned_in_order turn.GateSync = is
  turned_in_order turn.Selector = is

  pub turn_in_order : (result : Result Turn Refusal) → IsInOrder passes sectors (told_result result frames) used pages
  turn_in_order (Ok call) = turned_in_order call
  turn_in_order (Err refusal) = is

-- no page is kept that isn't taken
there_none : (s : State) (o : Option ℕ) → o ≡ None → kept_at s o ≡ None
there_none s o is = ap (kept_at s) is

zero_none : (s : State) → IsSound s → kept s 0 ≡ None
unfolding kept
zero_none s sound = there_none s (place_of s 0) sound.zero

pub none_there : (passes : Contents → Bool) (sectors used pages : ℕ) (frames : State) (page : ℕ) → IsSound frames → IsInOrder passes sectors frames used pages → (page ≡ 0) ⊎ (used < page) → kept frames page ≡ None
none_there passes sectors used pages frames page sound order (inl none) = let K : ℕ → Type 0 = λ p. kept frames p ≡ None in subst K (sym none) (zero_none frames sound)
none_there passes sectors used pages frames page sound order (inr above) = order.none_above page above

pub none_gated : (frames : State) (page : ℕ) → kept frames page ≡ None → false ≡ is_gated frames.gated (stamp_of (kept frames page))
none_gated frames page none = sym (ap (λ (o : Option Kept). is_gated frames.gated (stamp_of o)) none)

-- nothing kept stays so where contents do
none_still : (o p : Option Kept) → contents_of p ≡ contents_of o → o ≡ None → p ≡ None
none_still None None same is = refl
none_still None (Some k) same is = cc
none_still (Some k) p same is = cc

pub write_in_order : (passes : Contents → Bool) (sectors now used pages page : ℕ) (d e : Device) (old new : State) → now ≡ sectors → IsInOrder passes sectors old used pages → (IsPassed passes old → IsPassed passes new)
    → WritesAtMost d e old new page → IsInOrder passes now new used pages
write_in_order passes sectors now used pages page d e old new same order passing most =
    let S : ℕ → Type 0 = λ n. PAGES_AT + PAGE_SECTORS * pages ≤ n in
    record {
      few = order.few;
      inside = subst S (sym same) order.inside;
      taken = order.taken;
      passed = passing order.passed;
      none_above = λ q above. none_still (kept old q) (kept new q) (most.contents q) (order.none_above q above);
    }
