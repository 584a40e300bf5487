-- What is kept of a log's images is what the log gives.
use Rattle.std.proofs.Common.{◌≡◌, ℕ, ◌+◌, ◌*◌, ◌≤◌, ◌==◌, Bool, true, false, List, [], ◌∷◌, ◌++◌, Option, None, Some, length, refl, ap, sym, ◌∙◌, arith}
use Rattle.std.specs.Prelude.{if◌then◌else◌}
use Rattle.std.specs.Option.{option_map}
use Rattle.gx_glog.specs.declared.extent.TheConstants.{BODY_ROOM}
use Rattle.gx_record.specs.Rec as rec
use Rattle.gx_record.specs.Format.{spelling, ArePages, IsInRange, IsRecord, BeginsWith}
use Rattle.gx_record.proofs.Writes.{spelling_size}
use Rattle.gx_record.proofs.Fields.{found}
use Rattle.gx_recovery.specs.Records.{Record, Change}
use Rattle.gx_recovery.specs.Given.{given_with, images_given, change_given}
use Rattle.gx_recovery.proofs.InUse.{given-snoc}
use Rattle.gx_durable.specs.Spelled.{Reading, record_read, images_read}
use Rattle.gx_found_log.specs.declared.given.TheConstants.{LEAST_SHARE, MOST_IN_BODY, MOST_GIVEN}
use Rattle.gx_found_log.specs.Given.{Imaged, HasImage, image_in, with_image, with_all, images_of, IsGiven}
use Rattle.gx_found_log.specs.Small.{small_of}
use Rattle.gx_found_log.proofs.Keeping.{kept_now, kept_else}
use Rattle.std.specs.List.{AllByRecursion}
use Rattle.std.proofs.lemmas.Bool.{eqb-true}

-- an image more, by whether it is the page's
kept_by : (p : ℕ) (new : Imaged) (xs : List Imaged) (b : Bool) → (new.0 == p) ≡ b → image_in p (with_image new xs) ≡ (if b then Some new.1 else image_in p xs)
kept_by p new xs true is = ap (λ q. image_in q (with_image new xs)) (sym (eqb-true new.0 p is)) ∙ kept_now new xs
kept_by p new xs false is = kept_else p new xs is

module _ {E P : Type 0} (r : Reading E P) where
  -- what is kept of a page, read
  abbrev content : ℕ → List Imaged → Option P
  content p kept = option_map r.content (image_in p kept)

  by_test : (b : Bool) (image : List ℕ) (o : Option (List ℕ)) → option_map r.content (if b then Some image else o) ≡ (if b then Some (r.content image) else option_map r.content o)
  by_test true image o = refl
  by_test false image o = refl

  one_kept : (p : ℕ) (new : Imaged) (kept : List Imaged) → content p (with_image new kept) ≡ (if new.0 == p then Some (r.content new.1) else content p kept)
  one_kept p new kept = ap (option_map r.content) (kept_by p new kept (new.0 == p) refl) ∙ by_test (new.0 == p) new.1 (image_in p kept)

  images_kept : (p : ℕ) (pages kept : List Imaged) → content p (with_all pages kept) ≡ images_given p (images_read r pages) (content p kept)
  images_kept p [] kept = refl
  images_kept p (x ∷ xs) kept = images_kept p xs (with_image x kept) ∙ ap (λ (o : Option P). images_given p (images_read r xs) o) (one_kept p x kept)

  record_kept : (p : ℕ) (x : rec.Rec) (kept : List Imaged) → small_of x ≡ None → content p (with_all (images_of x) kept) ≡ given_with p (record_read r x) (content p kept)
  record_kept p (rec.Pages counter used pages) kept whole = images_kept p pages kept
  record_kept p (rec.Write tx row key before after leaf image) kept whole = one_kept p (leaf, image) kept
  record_kept p (rec.Commit tx n) kept whole = refl
  record_kept p (rec.End tx) kept whole = refl
  record_kept p (rec.Counters n counter used next) kept whole = refl
  record_kept p (rec.Note tx row key before leaf) kept whole = refl
  record_kept p (rec.Bit tx row key before after leaf) kept whole = absurd cc
  record_kept p (rec.Add tx row key leaf) kept whole = absurd cc
  record_kept p (rec.Widen page slot key) kept whole = absurd cc
  record_kept p (rec.Sweep page slots) kept whole = absurd cc

  -- with a record's images is kept what the log gives with that record
  pub gives_more : (log : List (Record E P)) (x : rec.Rec) (kept : List Imaged) → small_of x ≡ None → IsGiven r kept log
      → IsGiven r (with_all (images_of x) kept) (log ++ record_read r x ∷ [])
  gives_more log x kept whole is p =
      record_kept p x kept whole ∙ ap (λ (o : Option P). given_with p (record_read r x) o) (is p) ∙ sym (given-snoc p log (record_read r x))

  by_page : (b : Bool) (change : Change P) (image made : List ℕ) (o : Option (List ℕ)) → (b ≡ true → o ≡ Some image) → r.content made ≡ change.made (r.content image)
      → (if b then Some (r.content made) else option_map r.content o) ≡ (if b then change_given change (option_map r.content o) else option_map r.content o)
  by_page true change image made o there is = ap (λ (z : P). found z) is ∙ ap (λ (z : Option (List ℕ)). change_given change (option_map r.content z)) (sym (there refl))
  by_page false change image made o there is = refl

  -- an image that is changed is kept as what the change makes of it
  pub changed_kept : (p page : ℕ) (change : Change P) (image made : List ℕ) (kept : List Imaged) → image_in page kept ≡ Some image → r.content made ≡ change.made (r.content image)
      → content p (with_image (page, made) kept) ≡ (if page == p then change_given change (content p kept) else content p kept)
  changed_kept p page change image made kept there is =
      one_kept p (page, made) kept
      ∙ by_page (page == p) change image made (image_in p kept) (λ same. ap (λ q. image_in q kept) (sym (eqb-true page p same)) ∙ there) is

pages_are : (least : ℕ) (pages : List Imaged) → ArePages least pages → AllByRecursion HasImage pages
pages_are least [] are = tt
pages_are least (p ∷ pages) are = (are.1.image.image, pages_are (p.0 + 1) pages are.2)

-- each image of a record is a page's, and has a share of the record's bytes
pub images_are : (key : ℕ) (x : rec.Rec) → IsRecord key x → AllByRecursion HasImage (images_of x)
images_are key (rec.Pages counter used pages) is = pages_are 0 pages is.in_range.4
images_are key (rec.Write tx row k before after leaf image) is = (is.in_range.2.image.image, tt)
images_are key (rec.Commit tx n) is = tt
images_are key (rec.End tx) is = tt
images_are key (rec.Counters n counter used next) is = tt
images_are key (rec.Note tx row k before leaf) is = tt
images_are key (rec.Bit tx row k before after leaf) is = tt
images_are key (rec.Add tx row k leaf) is = tt
images_are key (rec.Widen page slot k) is = tt
images_are key (rec.Sweep page slots) is = tt

images_few : (x : rec.Rec) → IsInRange x → LEAST_SHARE * length (images_of x) ≤ length (spelling x)
images_few (rec.Pages counter used pages) is = let size = spelling_size (rec.Pages counter used pages) is in let few = is.3 in omega (arith, size, few)
images_few (rec.Write tx row k before after leaf image) is = let size = spelling_size (rec.Write tx row k before after leaf image) is in omega (arith, size)
images_few (rec.Commit tx n) is = omega arith
images_few (rec.End tx) is = omega arith
images_few (rec.Counters n counter used next) is = omega arith
images_few (rec.Note tx row k before leaf) is = omega arith
images_few (rec.Bit tx row k before after leaf) is = omega arith
images_few (rec.Add tx row k leaf) is = omega arith
images_few (rec.Widen page slot k) is = omega arith
images_few (rec.Sweep page slots) is = omega arith

-- so what a record gives has its bytes behind it
pub given_by : (key : ℕ) (rest : List ℕ) (x : rec.Rec) (n old new : ℕ) → BeginsWith key rest x n → new ≤ old + length (images_of x) → LEAST_SHARE * new ≤ LEAST_SHARE * old + n
given_by key rest x n old new begins count = let few = images_few x begins.is_record.in_range in omega (arith, few, begins.size, count)

-- and there is room for it
pub places_for : (key : ℕ) (rest : List ℕ) (x : rec.Rec) (n given : ℕ) → BeginsWith key rest x n → LEAST_SHARE * (given + MOST_IN_BODY) + length rest ≤ LEAST_SHARE * MOST_GIVEN + BODY_ROOM
    → given + length (images_of x) ≤ MOST_GIVEN
places_for key rest x n given begins room = let few = images_few x begins.is_record.in_range in omega (arith, few, begins.size, begins.within, room)
