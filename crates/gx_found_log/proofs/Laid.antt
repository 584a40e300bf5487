-- Pages that are laid, one after another.
use Rattle.std.proofs.Common.{◌≡◌, ◌∙◌, sym, ap, refl, subst, ⊎_elim, inl, inr, ℕ, zero, suc, ◌+◌, ◌*◌, ◌<◌, ◌≤◌, ◌==◌, Bool, true, false, List, [], ◌∷◌, length, drop, get_or, drop-cons, add-one, arith, eq-eqb}
use Rattle.std.specs.Prelude.{Option, None, Some, unwrap_or, if◌then◌else◌, Result, Ok, Err, OnOk}
use Rattle.std.proofs.lemmas.Bool.{eqb-true, cases_lt}
use Rattle.gx_page.specs.declared.block.TheConstants.{PAGE_SIZE}
use Rattle.gx_disk.specs.declared.layout.TheConstants.{PAGE_SECTORS}
use Rattle.gx_disk.specs.Device.{Device, MayLeave, Writes, Syncs, Touches, Elapses}
use Rattle.gx_disk.specs.Moments.{Leaves}
use Rattle.gx_disk.specs.Sectors.{span_of, put, IsOutside, sector_of}
use Rattle.gx_disk.proofs.Leaving.{nothing_leaves, leaves_joined, leaves_weaker, call_leaves, rested_image}
use Rattle.gx_disk.proofs.Spans.{AreApart, put_back, touched_span}
use Rattle.gx_pool.specs.Area.{IsPage, bytes_of, first_of}
use Rattle.gx_recovery.specs.Damage.{is_page}
use Rattle.gx_recovery.proofs.Tests.{and_first, and_second}
use Rattle.gx_durable.specs.Area.{HasPages}
use Rattle.gx_durable.proofs.Areas.{device_page}
use Rattle.gx_found_log.specs.Given.{Imaged, image_in, AreOnce, are_on_device}
use Rattle.gx_found_log.specs.Laid.{ArePages, IsImageBeside, Lays, IsBeside, AreLaid}

-- the pages from place i on begin with the one there
pub cut_at : (xs : List Imaged) (i : ℕ) (x : Imaged) → i < length xs → x ≡ get_or xs i x → drop i xs ≡ x ∷ drop (i + 1) xs
cut_at xs i x lt at = drop-cons xs i x lt ∙ ap (λ (y : Imaged). y ∷ drop (suc i) xs) (sym at) ∙ ap (λ j. x ∷ drop j xs) (sym (add-one i))

pub none_left : (xs : List Imaged) (i : ℕ) → length xs ≤ i → drop i xs ≡ []
none_left [] zero least = refl
none_left [] (suc i) least = refl
none_left (x ∷ xs) zero least = absurd (omega arith)
none_left (x ∷ xs) (suc i) least = none_left xs i (omega (arith, least))

-- nothing is laid
pub lays_none : {T E : Type 0} → (d : Device) (result : Result T E) → Lays [] d d result
lays_none d (Ok x) = record { size = refl; others = λ s is. refl; settled = λ s is was. was; laid = λ p is. refl; leaves = nothing_leaves (IsImageBeside [] d) d }
lays_none d (Err x) = record { size = refl; others = λ s is. refl; settled = λ s is was. was; laid = tt; leaves = nothing_leaves (IsImageBeside [] d) d }

-- an image of a device after calls that lay pages is one of before, beside them
later_image : (x : Imaged) (xs : List Imaged) (old mid : Device) (n : ℕ) → n ≡ 8 → Touches (first_of x.0) n old mid → (image : List ℕ) → IsImageBeside xs mid image → IsImageBeside (x ∷ xs) old image
later_image x xs old mid n eight touches image is =
    let out : (s : ℕ) → IsOutside (first_of x.0) PAGE_SECTORS s → IsOutside (first_of x.0) n s = λ s o. subst (λ m. IsOutside (first_of x.0) m s) (sym eight) o in
    record {
      size = is.size ∙ touches.size;
      settled = λ s beside was. is.settled s beside.1 (touches.settled s (out s beside.0) was) ∙ touches.bytes s (out s beside.0);
    }

-- so is an image after one write
one_image : (x : Imaged) (xs : List Imaged) (old mid : Device) (image : List ℕ) → Touches (first_of x.0) PAGE_SECTORS old mid → MayLeave mid image → IsImageBeside (x ∷ xs) old image
one_image x xs old mid image touches may = record {
  size = may.size ∙ touches.size;
  settled = λ s beside was. may.settled s (touches.settled s beside.0 was) ∙ touches.bytes s beside.0;
}

write_leaves : (x : Imaged) (xs : List Imaged) (old mid : Device) → Touches (first_of x.0) PAGE_SECTORS old mid → Elapses old mid → Leaves (IsImageBeside (x ∷ xs) old) old mid
write_leaves x xs old mid touches time = call_leaves (IsImageBeside (x ∷ xs) old) old mid time (λ image may. one_image x xs old mid image touches may)

-- a write that failed is the last call
pub lays_failed : {T E F : Type 0} → (x : Imaged) (xs : List Imaged) (old new : Device) (why : E) (told : F) → Writes {T = T} (first_of x.0) PAGE_SECTORS x.1 old new (Err why)
    → Lays {T = T} (x ∷ xs) old new (Err told)
lays_failed x xs old new why told writes = record {
  size = writes.touches.size;
  others = λ s beside. writes.touches.bytes s beside.0;
  settled = λ s beside was. writes.touches.settled s beside.0 was;
  laid = tt;
  leaves = write_leaves x xs old new writes.touches writes.time;
}

-- pages of other numbers lie apart
pub apart_pages : (q p : ℕ) → (q == p) ≡ false → 1 ≤ q → 1 ≤ p → AreApart (first_of q) PAGE_SECTORS (first_of p) PAGE_SECTORS
apart_pages q p other from there =
    ⊎_elim (λ (less : q < p). inl (omega (arith, less, from))) (λ (more : p ≤ q). ⊎_elim (λ (above : p < q). inr (omega (arith, above, there)))
    (λ (least : q ≤ p). absurd (let same : q ≡ p = omega (arith, more, least) in let test : (q == p) ≡ true = eq-eqb q p same in cc)) (cases_lt p q)) (cases_lt q p)

-- the page that is written, and another
page_written : (x : Imaged) (sectors : ℕ) (old new : List ℕ) → length x.1 ≡ PAGE_SIZE → IsPage sectors x.0 → length old ≡ 512 * sectors → new ≡ put (512 * first_of x.0) x.1 old → bytes_of new x.0 ≡ x.1
unfolding span_of
page_written x sectors old new whole is long written =
    rw (written, ← whole) (put_back (512 * first_of x.0) x.1 old (omega (arith, is.inside, is.from, whole, long)))

page_kept : (x : Imaged) (sectors p : ℕ) (old new : Device) → (x.0 == p) ≡ false → IsPage sectors x.0 → IsPage sectors p → Touches (first_of x.0) PAGE_SECTORS old new → bytes_of new.seen p ≡ bytes_of old.seen p
page_kept x sectors p old new other is there touches =
    touched_span (first_of x.0) PAGE_SECTORS (first_of p) PAGE_SECTORS old new touches (apart_pages x.0 p other is.from there.from)

-- a page that is written, and then the others
laid_first : (x : Imaged) (xs : List Imaged) (sectors : ℕ) (old mid new : Device) (p : ℕ) (b : Bool) → (x.0 == p) ≡ b → image_in x.0 xs ≡ None → length x.1 ≡ PAGE_SIZE → length old.seen ≡ 512 * sectors
    → IsPage sectors x.0 → IsPage sectors p → mid.seen ≡ put (512 * first_of x.0) x.1 old.seen → Touches (first_of x.0) PAGE_SECTORS old mid
    → bytes_of new.seen p ≡ unwrap_or (image_in p xs) (bytes_of mid.seen p) → bytes_of new.seen p ≡ unwrap_or (if b then Some x.1 else image_in p xs) (bytes_of old.seen p)
laid_first x xs sectors old mid new p true same once whole long is there written touches rest =
    let number : x.0 ≡ p = eqb-true x.0 p same in
    let none : image_in p xs ≡ None = ap (λ q. image_in q xs) (sym number) ∙ once in
    rest ∙ ap (λ (o : Option (List ℕ)). unwrap_or o (bytes_of mid.seen p)) none ∙ ap (λ q. bytes_of mid.seen q) (sym number) ∙ page_written x sectors old.seen mid.seen whole is long written
laid_first x xs sectors old mid new p false other once whole long is there written touches rest =
    rest ∙ ap (λ (bytes : List ℕ). unwrap_or (image_in p xs) bytes) (page_kept x sectors p old mid other is there touches)

pub lays_first : {T E F : Type 0} → (x : Imaged) (xs : List Imaged) (old mid new : Device) (done : F) (result : Result T E) → length x.1 ≡ PAGE_SIZE → length old.seen ≡ 512 * old.sectors
    → ArePages old.sectors (x ∷ xs) → AreOnce (x ∷ xs) → mid.sectors ≡ old.sectors → Writes {E = E} (first_of x.0) PAGE_SECTORS x.1 old mid (Ok done) → Lays xs mid new result → Lays (x ∷ xs) old new result
lays_first x xs old mid new done (Ok y) whole long are once same writes rest = record {
  size = rest.size ∙ writes.touches.size;
  others = λ s beside. rest.others s beside.1 ∙ writes.touches.bytes s beside.0;
  settled = λ s beside was. rest.settled s beside.1 (writes.touches.settled s beside.0 was);
  laid = λ p is.
      laid_first x xs old.sectors old mid new p (x.0 == p) refl once.0 whole long are.0 is writes.written.seen writes.touches (rest.laid p (subst (λ n. IsPage n p) (sym same) is));
  leaves = leaves_joined (IsImageBeside (x ∷ xs) old) old mid new (write_leaves x xs old mid writes.touches writes.time)
      (leaves_weaker (IsImageBeside xs mid) (IsImageBeside (x ∷ xs) old) mid new (λ image is. later_image x xs old mid 8 refl writes.touches image is) rest.leaves);
}
lays_first x xs old mid new done (Err y) whole long are once same writes rest = record {
  size = rest.size ∙ writes.touches.size;
  others = λ s beside. rest.others s beside.1 ∙ writes.touches.bytes s beside.0;
  settled = λ s beside was. rest.settled s beside.1 (writes.touches.settled s beside.0 was);
  laid = tt;
  leaves = leaves_joined (IsImageBeside (x ∷ xs) old) old mid new (write_leaves x xs old mid writes.touches writes.time)
      (leaves_weaker (IsImageBeside xs mid) (IsImageBeside (x ∷ xs) old) mid new (λ image is. later_image x xs old mid 8 refl writes.touches image is) rest.leaves);
}

-- a device that has all pages up to a number has each of these
pub pages_lie : (pages sectors : ℕ) → HasPages pages sectors → (xs : List Imaged) → are_on_device pages xs ≡ true → ArePages sectors xs
pages_lie pages sectors has [] all = tt
pages_lie pages sectors has (x ∷ xs) all = (
  device_page pages sectors x.0 has (and_first (is_page pages x.0) (are_on_device pages xs) all),
  pages_lie pages sectors has xs (and_second (is_page pages x.0) (are_on_device pages xs) all),
)

-- an image of a device after calls that lay pages
image_after : (pages : List Imaged) (old new : Device) → length new.seen ≡ length old.seen → ((s : ℕ) → IsBeside pages s → sector_of new.seen s ≡ sector_of old.seen s)
    → ((s : ℕ) → IsBeside pages s → old.pending s ≡ false → new.pending s ≡ false) → (image : List ℕ) → MayLeave new image → IsImageBeside pages old image
image_after pages old new size others settled image may = record {
  size = may.size ∙ size;
  settled = λ s beside was. may.settled s (settled s beside was) ∙ others s beside;
}

synced_laid : {T E : Type 0} → (pages : List Imaged) (old mid new : Device) (result : Result T E) → new.seen ≡ mid.seen → AreLaid pages old.sectors old.seen mid.seen
    → OnOk result (AreLaid pages old.sectors old.seen new.seen)
synced_laid pages old mid new (Ok x) same laid = λ p is. ap (λ (seen : List ℕ). bytes_of seen p) same ∙ laid p is
synced_laid pages old mid new (Err x) same laid = tt

-- a sync behind them
pub lays_synced : {T E U F : Type 0} → (pages : List Imaged) (old mid new : Device) (done : U) (result : Result T E) → Lays {E = F} pages old mid (Ok done) → Syncs mid new result → Lays pages old new result
lays_synced {T} {E} {U} {F} pages old mid new done result lays syncs = record {
  size = ap length syncs.rests.seen ∙ lays.size;
  others = λ s beside. ap (λ (seen : List ℕ). sector_of seen s) syncs.rests.seen ∙ lays.others s beside;
  settled = λ s beside was. syncs.rests.settled s (lays.settled s beside was);
  laid = synced_laid pages old mid new result syncs.rests.seen lays.laid;
  leaves = leaves_joined (IsImageBeside pages old) old mid new lays.leaves
      (call_leaves (IsImageBeside pages old) mid new syncs.time
      (λ image may. image_after pages old mid lays.size lays.others lays.settled image (rested_image mid new syncs.rests image may)));
}
