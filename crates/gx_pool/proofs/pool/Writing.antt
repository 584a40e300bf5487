-- What a page's write leaves of frames and device.
use Rattle.std.proofs.Common.{◌≡◌, ◌≢◌, ◌∙◌, sym, ap, refl, subst, inl, inr, ℕ, ◌+◌, ◌/◌, ◌≤◌, List, length, Bool, true, false, Some, None, IsSome, Result, Ok, Err, arith, length-set}
use Rattle.std.proofs.Math.Decide.{ℕ_discrete}
use Rattle.std.proofs.lemmas.Option.{none-some}
use Rattle.gx_disk.specs.declared.layout.TheConstants.{PAGE_SECTORS}
use Rattle.gx_disk.specs.Device.{Device, Counts, Writes}
use Rattle.gx_disk.specs.declared.device.DiskFault.{DiskFault}
use Rattle.gx_geom.specs.declared.refusal.Refusal.{Refusal}
use Rattle.gx_page.specs.declared.block.TheConstants.{PAGE_SIZE}
use Rattle.gx_page.specs.Format.{image_of}
use Rattle.gx_page.specs.Reading.{IsImage, read_of}
use Rattle.gx_pool.specs.Area.{first_of}
use Rattle.gx_pool.specs.Bringing.{HasImage}
use Rattle.gx_pool.specs.State.{State, Kept, IsSound, place_of, mark_at, kept, frame_at, stamp_of, clean_count}
use Rattle.gx_pool.specs.Edits.{stamped}
use Rattle.gx_pool.specs.Writing.{WritesPage, WritesAtMost, contents_of}
use Rattle.gx_pool.specs.Marks.{is_held}
use Rattle.gx_pool.proofs.Places.{kept_page, stamped_kept, stamped_other}
use Rattle.gx_pool.proofs.Numbers.{cleaned_fewer, cleaned_free, cleaned_held}

-- the bytes that are written are the image of the page
page_image : (s : State) (page i : ℕ) (k : Kept) (bytes : List ℕ) → place_of s page ≡ Some i → kept s page ≡ Some k → bytes ≡ image_of (frame_at s i).page → IsImage bytes → read_of bytes ≡ (frame_at s i).page
    → HasImage (image_of k.page) k.page
page_image s page i k bytes at is image whole back =
    let same : bytes ≡ image_of k.page = image ∙ ap image_of (kept_page s page i k at is) in
    subst {A = List ℕ} (λ b. HasImage b k.page) same (record { image = whole; read = back ∙ kept_page s page i k at is })

pub wrote_ok : (d e : Device) (s t : State) (page i : ℕ) (k : Kept) (bytes : List ℕ) → IsSound s → place_of s page ≡ Some i → kept s page ≡ Some k → t ≡ stamped s i None → IsSome (mark_at s i).stamp
    → bytes ≡ image_of (frame_at s i).page → IsImage bytes → read_of bytes ≡ (frame_at s i).page → length bytes ≡ PAGE_SIZE
    → Counts {T = Unit {0}} {E = DiskFault} 1 d e (Ok tt)
    → (d.honest ≡ true → Writes {T = Unit {0}} {E = DiskFault} (first_of page) (length bytes / 512) bytes d e (Ok tt))
    → WritesPage {A = Bool} {E = Refusal} d e s t page k (Ok true)
wrote_ok d e s t page i k bytes sound at is new dirty image whole back size counts writes = record {
  counts = record { sectors = counts.sectors; honest = counts.honest; faults = counts.faults; calls = counts.calls };
  image = page_image s page i k bytes at is image whole back;
  writes = λ honest.
      let w : Writes {T = Unit {0}} {E = DiskFault} (first_of page) PAGE_SECTORS (image_of k.page) d e (Ok tt) =
      rw (← kept_page s page i k at is, ← image) (subst {A = ℕ} (λ n. Writes {T = Unit {0}} {E = DiskFault} (first_of page) (n / 512) bytes d e (Ok tt)) size (writes honest)) in
      record { touches = w.touches; written = w.written; torn = w.torn; pending = w.pending; time = w.time };
  clean = rw new (stamped_kept s i page None sound at ∙ ap (λ c. Some (record { page = c; stamp = None })) (kept_page s page i k at is));
  fewer = rw new (cleaned_fewer s i (sound.there page i at).0 dirty);
  free = λ free. rw new (cleaned_free s i page (sound.there page i at).0 (sound.there page i at).1 dirty free);
  stays_held = λ held. rw new (cleaned_held s i page (sound.there page i at).0 (sound.there page i at).1 dirty held);
  failed = tt;
  others = λ q ne. rw new (stamped_other s i page q None sound at ne);
  held = rw new refl;
  gated = rw new refl;
  frames = rw new (length-set s.marks i _);
}

pub wrote_err : (d e : Device) (s t : State) (page i : ℕ) (k : Kept) (bytes : List ℕ) (why : DiskFault) (refusal : Refusal) → place_of s page ≡ Some i → kept s page ≡ Some k → t ≡ s
    → bytes ≡ image_of (frame_at s i).page → IsImage bytes → read_of bytes ≡ (frame_at s i).page → length bytes ≡ PAGE_SIZE
    → Counts {T = Unit {0}} {E = DiskFault} 1 d e (Err why)
    → (d.honest ≡ true → Writes {T = Unit {0}} {E = DiskFault} (first_of page) (length bytes / 512) bytes d e (Err why))
    → WritesPage {A = Bool} {E = Refusal} d e s t page k (Err refusal)
wrote_err d e s t page i k bytes why refusal at is new image whole back size counts writes = record {
  counts = record { sectors = counts.sectors; honest = counts.honest; faults = counts.faults; calls = counts.calls };
  image = page_image s page i k bytes at is image whole back;
  writes = λ honest.
      let w : Writes {T = Unit {0}} {E = DiskFault} (first_of page) PAGE_SECTORS (image_of k.page) d e (Err why) =
      rw (← kept_page s page i k at is, ← image) (subst {A = ℕ} (λ n. Writes {T = Unit {0}} {E = DiskFault} (first_of page) (n / 512) bytes d e (Err why)) size (writes honest)) in
      record { touches = w.touches; written = w.written; torn = w.torn; pending = w.pending; time = w.time };
  clean = tt;
  fewer = tt;
  free = tt;
  stays_held = tt;
  failed = new;
  others = λ q ne. rw new refl;
  held = rw new refl;
  gated = rw new refl;
  frames = rw new refl;
}

-- ---- at most a page is written

-- the written page has its contents, and is clean
cleaned_contents : (old new : State) (page q : ℕ) (k : Kept) → kept old page ≡ Some k → kept new page ≡ Some (record { page = k.page; stamp = None }) → ((r : ℕ) → r ≢ page → kept new r ≡ kept old r)
    → contents_of (kept new q) ≡ contents_of (kept old q)
cleaned_contents old new page q k is now others = elim (ℕ_discrete q page) [
  | yes e ↦ ap (λ n. contents_of (kept new n)) e ∙ ap contents_of now ∙ sym (ap contents_of is) ∙ ap (λ n. contents_of (kept old n)) (sym e)
  | no ne ↦ ap contents_of (others q ne)
]

cleaned_dirty : (old new : State) (page q n : ℕ) (k : Kept) → kept new page ≡ Some (record { page = k.page; stamp = None }) → ((r : ℕ) → r ≢ page → kept new r ≡ kept old r)
    → stamp_of (kept new q) ≡ Some n → stamp_of (kept old q) ≡ Some n
cleaned_dirty old new page q n k now others is = elim (ℕ_discrete q page) [
  | yes e ↦ absurd (none-some n (sym (ap stamp_of now) ∙ ap (λ r. stamp_of (kept new r)) (sym e) ∙ is))
  | no ne ↦ ap stamp_of (sym (others q ne)) ∙ is
]

no_fewer : (held : Bool) (old new : ℕ) → (held ≡ false → new ≡ old + 1) → (held ≡ true → new ≡ old) → old ≤ new
no_fewer true old new free held = let same = held refl in omega (arith, same)
no_fewer false old new free held = let one = free refl in omega (arith, one)

pub write_at_most : {A E : Type 0} → (d e : Device) (old new : State) (page : ℕ) (k : Kept) (result : Result A E) → kept old page ≡ Some k → WritesPage d e old new page k result → WritesAtMost d e old new page
write_at_most d e old new page k (Ok a) is wrote = record {
  touches = λ honest. (wrote.writes honest).touches;
  time = λ honest. (wrote.writes honest).time;
  calls = inr wrote.counts.calls;
  others = wrote.others;
  contents = λ q. cleaned_contents old new page q k is wrote.clean wrote.others;
  dirty = λ q n. cleaned_dirty old new page q n k wrote.clean wrote.others;
  no_more_dirty = omega (arith, wrote.fewer);
  no_fewer_clean = no_fewer (is_held old.held (Some page)) (clean_count old) (clean_count new) wrote.free wrote.stays_held;
  held = wrote.held;
  gated = wrote.gated;
  frames = wrote.frames;
}
write_at_most d e old new page k (Err why) is wrote = record {
  touches = λ honest. (wrote.writes honest).touches;
  time = λ honest. (wrote.writes honest).time;
  calls = inr wrote.counts.calls;
  others = wrote.others;
  contents = λ q. ap (λ s. contents_of (kept s q)) wrote.failed;
  dirty = λ q n dirty. ap (λ s. stamp_of (kept s q)) (sym wrote.failed) ∙ dirty;
  no_more_dirty = rw wrote.failed (omega arith);
  no_fewer_clean = rw wrote.failed (omega arith);
  held = wrote.held;
  gated = wrote.gated;
  frames = wrote.frames;
}

pub rest_at_most : (d : Device) (s : State) (page : ℕ) → WritesAtMost d d s s page
rest_at_most d s page = record {
  touches = λ honest. record { size = refl; bytes = λ s out. refl; settled = λ s out was. was };
  time = λ honest. record { later = omega arith; only = λ t image le left. inl left; keeps = λ t image le left. left };
  calls = inl refl;
  others = λ q ne. refl;
  contents = λ q. refl;
  dirty = λ q n is. is;
  no_more_dirty = omega arith;
  no_fewer_clean = omega arith;
  held = refl;
  gated = refl;
  frames = refl;
}
