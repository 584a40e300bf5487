-- What making a page leaves of the frames.
use Rattle.std.proofs.Common.{◌≡◌, ◌≢◌, ◌∙◌, sym, ap, subst, refl, ◌⊎◌, inl, inr, ℕ, ◌<◌, ◌≤◌, ◌+◌, length, count_by, Bool, true, false, Some, None, arith, length-set}
use Rattle.std.proofs.lemmas.List.{set-set}
use Rattle.gx_disk.specs.declared.layout.TheConstants.{MAX_PAGES}
use Rattle.gx_page.specs.Contents.{Contents}
use Rattle.gx_pool.specs.declared.mark.FrameMark.{FrameMark}
use Rattle.gx_pool.specs.Marks.{empty, clean, is_dirty}
use Rattle.gx_pool.specs.State.{State, IsSound, IsSpare, NoCleanLeaf, NoneClean, is_upper_at, mark_at, place_of, frame_at, kept, clean_count}
use Rattle.gx_pool.specs.Edits.{numbered, vacated, with_page, settled}
use Rattle.gx_pool.specs.Bringing.{GoesAlone, Left}
use Rattle.gx_pool.specs.Creating.{Makes, Copies}
use Rattle.gx_pool.proofs.Places.{vacated_sound, with_page_sound, vacated_kept, vacated_gone, loaded_kept, settled_kept, settled_other, settled_sound, kept_page}
use Rattle.gx_pool.proofs.Bringing.{clean_stamp, is_some_page, spare, vacated_free, loaded_page, loaded_absent, first_leaves, settled_goes}
use Rattle.gx_pool.proofs.Counting.{none_counted, one_fewer, false_of}
use Rattle.gx_pool.proofs.Going.{goes_one}
use Rattle.gx_pool.proofs.Numbers.{then_dirty}

-- if none is clean, so many are
pub none_clean_counted : (s : State) → NoneClean s → clean_count s ≡ 0
none_clean_counted s none = none_counted (clean s.held) s.marks empty none

-- a frame is clean, if some are
pub no_frame : (s : State) → 0 < clean_count s → NoneClean s → ⊥
no_frame s positive none = let counted = none_clean_counted s none in omega (arith, counted)

-- the frame's page went, and every other is kept unchanged
gone_or_same : (s : State) (i q : ℕ) → IsSound s → i < length s.marks → clean s.held (mark_at s i) ≡ true → (kept (vacated s i) q ≡ kept s q) ⊎ Left s (vacated s i) q
gone_or_same s i q sound inside is = elim (is_some_page (mark_at s i).page q) [
  | inl here ↦ inr (record { was = spare s i q sound is here; is = vacated_gone s i q here })
  | inr other ↦ inl (vacated_kept s i q sound inside other)
]

-- what is kept otherwise as before is gone or the same as well
carried : (s t u : State) (q : ℕ) → kept u q ≡ kept t q → (kept t q ≡ kept s q) ⊎ Left s t q → (kept u q ≡ kept s q) ⊎ Left s u q
carried s t u q same (inl was) = inl (same ∙ was)
carried s t u q same (inr left) = inr (record { was = left.was; is = same ∙ left.is })

-- a clean frame emptied, given contents, and given to its page
pub made : (s t u : State) (i page batch : ℕ) (w : Contents) → IsSound s → i < length s.marks → clean s.held (mark_at s i) ≡ true → (is_upper_at s i ≡ true → NoCleanLeaf s) → 1 ≤ page → page ≤ MAX_PAGES
    → kept s page ≡ None → t ≡ with_page (vacated s i) i w → u ≡ settled t i page (Some batch) → Makes s u page w batch
made s t u i page batch w sound inside is first positive small absent te ue =
    let v : State = with_page (vacated s i) i w in
    let x : State = settled v i page (Some batch) in
    let whole : IsSound v = with_page_sound (vacated s i) i w (vacated_sound s i sound inside) in
    let there : i < length v.marks = rw (length-set s.marks i empty) inside in
    let mark : FrameMark = record { page = Some page; stamp = Some batch } in
    let alone : GoesAlone s x i = settled_goes s v x i page (Some batch) w sound inside small refl refl in
    rw (ue, te) (record {
      made = settled_kept v i page (Some batch) whole there small ∙ ap (λ c. Some (record { page = c; stamp = Some batch })) (loaded_page s i w sound inside);
      others = λ q ne. carried s (vacated s i) x q
          (settled_other v i page q (Some batch) whole (vacated_free s i inside) ne ∙ loaded_kept (vacated s i) i q w (vacated_sound s i sound inside) (vacated_free s i inside))
          (gone_or_same s i q sound inside is);
      fewer = ap (λ marks. count_by (clean s.held) marks + 1) (set-set s.marks i empty mark) ∙ one_fewer (clean s.held) s.marks i mark empty inside is refl;
      dirty = ap (count_by is_dirty) (set-set s.marks i empty mark) ∙ then_dirty s i mark inside (clean_stamp s i is) refl;
      held = refl;
      gated = refl;
      frames = length-set v.marks i mark ∙ length-set s.marks i empty;
      few = goes_one s x i alone;
      first = first_leaves s x i sound alone first;
      sound = settled_sound v i page (Some batch) whole there (vacated_free s i inside) positive small (loaded_absent s i page w sound inside absent);
    })

-- the frame of a page that doesn't go isn't clean
pub not_clean : (s : State) (page i : ℕ) → IsSound s → place_of s page ≡ Some i → ¬ IsSpare s page → clean s.held (mark_at s i) ≡ false
not_clean s page i sound at stays = false_of (clean s.held (mark_at s i)) (λ is. stays (spare s i page sound is (sound.there page i at).1))

true_false : (b : Bool) → b ≡ true → b ≡ false → ⊥
true_false b is not_so = grind arith

-- a frame that isn't clean isn't one that is
pub other_frame : (s : State) (i j : ℕ) → clean s.held (mark_at s i) ≡ false → clean s.held (mark_at s j) ≡ true → i ≢ j
other_frame s i j isnt is = λ same. true_false (clean s.held (mark_at s j)) is (ap (λ n. clean s.held (mark_at s n)) (sym same) ∙ isnt)

-- a copy of the page in a frame is one of the page
pub copied : (s t : State) (page from i batch : ℕ) → place_of s from ≡ Some i → Makes s t page (numbered (frame_at s i).page page) batch → Copies s t page from batch
copied s t page from i batch at made = λ k is.
    subst {A = Contents} (λ c. Makes s t page (numbered c page) batch) (kept_page s from i k at is) made
