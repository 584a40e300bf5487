-- Pages that were changed, with the record that gives them.
use Rattle.std.proofs.Common.{◌≡◌, ◌∙◌, sym, ap, refl, subst, inl, inr, ℕ, ◌^◌, ◌<◌, ◌≤◌, Bool, true, false, ◌||◌, ◌==◌, List, [], ◌∷◌, Option, None, Some, arith}
use Rattle.std.specs.Prelude.{if◌then◌else◌}
use Rattle.std.specs.List.{list_any}
use Rattle.std.proofs.lemmas.Bool.{eqb-true}
use Rattle.gx_machine.specs.declared.entry.Entry.{Entry}
use Rattle.gx_disk.specs.Device.{Device}
use Rattle.gx_page.specs.Contents.{Contents}
use Rattle.gx_page.specs.Format.{image_of, IsWellFormed}
use Rattle.gx_page.specs.Reading.{IsImage, read_of}
use Rattle.gx_pool.specs.State.{State, Kept, kept}
use Rattle.gx_record.specs.Rec.{Pages}
use Rattle.gx_record.specs.Format.{IsInRange}
use Rattle.gx_node.specs.Reading.{Format}
use Rattle.gx_recovery.specs.Known.{Known, IsLawful, Limits}
use Rattle.gx_recovery.specs.Records.{Image, Record}
use Rattle.gx_recovery.specs.Analysis.{Analysis}
use Rattle.gx_recovery.specs.Redo.{with_images, with_page}
use Rattle.gx_recovery.specs.Logged.{Logged, all_records}
use Rattle.gx_recovery.proofs.Folds.{analysis-snoc}
use Rattle.gx_recovery.proofs.Tests.{true_or_false, clash, or_none_first, or_none_second}
use Rattle.gx_index_laws.specs.Classes.{Page}
use Rattle.gx_durable.specs.Spelled.{Reading, images_read, record_read}
use Rattle.gx_durable.specs.Stored.{images_of, stored}
use Rattle.gx_durable.specs.Classes.{reading_of}
use Rattle.gx_store.specs.Since.{GoesOn, IsAsItWas}
use Rattle.gx_store.specs.State.{Shelf}
use Rattle.gx_node.specs.Store.{Store}
use Rattle.gx_tree.specs.Descending.{StepsDown, WayAt, is_widened}
use Rattle.gx_tree.specs.declared.descent.Way.{Way}
use Rattle.gx_tree.specs.declared.descent.Way.TheVariants.{Again, Add, FullLeaf, FullInner, Down, Widen}
use Rattle.gx_tree.specs.declared.descent.Descended.{Descended}
use Rattle.gx_tree.specs.declared.descent.Descended.TheVariants as did
use Rattle.gx_node.specs.Reach.{TraversalItem}
use Rattle.gx_store.specs.Standing.{standing, store_of}
use Rattle.gx_store.proofs.Changing.{there}
use Rattle.gx_store.proofs.Shown.{stands_kept}
use Rattle.gx_storage.specs.Changes.{IsLogged, begun, has_room, page_given}
use Rattle.gx_storage.specs.Changing.{HasToWiden, unwidened}
use Rattle.gx_storage.specs.Giving.{IsGiven}
use Rattle.gx_storage.specs.Journal.{IsLast}
use Rattle.gx_storage.specs.Keeps.{Keeps, StaysWith}
use Rattle.gx_storage.specs.State.{Journal, Volume, journal_of, volume}
use Rattle.gx_storage.proofs.Imaging.{given_last}
use Rattle.gx_storage.proofs.Recording.{AreNodes, stays_with, stored_kept}
use Rattle.gx_storage.proofs.Writing.{Stepped}

-- a page in use has these contents in its frame, which have an image
pub record IsThere (frames : State) (used : ℕ) (change : ℕ × Contents) : Type 0 where
  pub j : Kept
  pub is : kept frames change.0 ≡ Some j
  pub same : j.page ≡ change.1
  pub well : IsWellFormed change.1
  pub low : 1 ≤ change.0
  pub high : change.0 ≤ used

abbrev pub AreThere : State → ℕ → List (ℕ × Contents) → Type 0
AreThere frames used [] = Unit {0}
AreThere frames used (change ∷ changes) = IsThere frames used change × AreThere frames used changes

-- a page that isn't among them
images_beside : {P : Type 0} (images : List (Image P)) (q : ℕ) (area : ℕ → P) → list_any (λ i. i.page == q) images ≡ false → with_images images area q ≡ area q
images_beside [] q area none = refl
images_beside (i ∷ images) q area none =
    images_beside images q (with_page i.page i.content area) (or_none_second (i.page == q) (list_any (λ j. j.page == q) images) none)
    ∙ ap (λ b. if b then i.content else area q) (or_none_first (i.page == q) (list_any (λ j. j.page == q) images) none)

neither : (a b : Bool) → a ≡ false → b ≡ false → (a || b) ≡ false
neither a b one two = rw (one, two) refl

module _ {E P : Type 0} (r : Reading E P) (pages : ℕ) (frames : State) (seen : List ℕ) (used : ℕ) (fits : used ≤ pages) where
  stored_there : (change : ℕ × Contents) (q : ℕ) → IsThere frames used change → (change.0 == q) ≡ true → stored r pages frames seen q ≡ r.content (image_of change.1)
  stored_there change q at this =
      ap (λ p. stored r pages frames seen p) (sym (eqb-true change.0 q this)) ∙ stored_kept r pages frames seen change.0 at.j at.is at.low (omega (arith, at.high, fits))
      ∙ ap (λ (c : Contents). r.content (image_of c)) at.same

  -- each page is stored as their images make it of an area that has each other one so
  images_stored : (changes : List (ℕ × Contents)) (q : ℕ) (area : ℕ → P) → AreThere frames used changes
      → (list_any (λ i. i.page == q) (images_read r (images_of changes)) ≡ false → stored r pages frames seen q ≡ area q) → stored r pages frames seen q ≡ with_images (images_read r (images_of changes)) area q
  images_stored [] q area there other = other refl
  images_stored (change ∷ changes) q area there other =
      images_stored changes q (with_page change.0 (r.content (image_of change.1)) area) there.1
      (λ rest. elim (true_or_false (change.0 == q)) [
        | inl this ↦ stored_there change q there.0 this ∙ sym (ap (λ b. if b then r.content (image_of change.1) else area q) this)
        | inr not_this ↦ other (neither (change.0 == q) (list_any (λ i. i.page == q) (images_read r (images_of changes))) not_this rest)
            ∙ sym (ap (λ b. if b then r.content (image_of change.1) else area q) not_this)
      ])

  formed_there : (changes : List (ℕ × Contents)) (q : ℕ) (i : Kept) → AreThere frames used changes → list_any (λ i. i.page == q) (images_read r (images_of changes)) ≡ true → kept frames q ≡ Some i → IsWellFormed i.page
  formed_there [] q i there given is = absurd (clash false given refl)
  formed_there (change ∷ changes) q i there given is = elim (true_or_false (change.0 == q)) [
    | inl this ↦
        let both : ◌≡◌ {A = Option Kept} (Some there.0.j) (Some i) = sym there.0.is ∙ ap (λ p. kept frames p) (eqb-true change.0 q this) ∙ is in
        let one : there.0.j ≡ i = cc in
        subst {A = Contents} IsWellFormed (sym there.0.same ∙ ap (λ (k : Kept). k.page) one) there.0.well
    | inr other ↦ formed_there changes q i there.1 (sym (ap (λ b. b || list_any (λ i. i.page == q) (images_read r (images_of changes))) other) ∙ given) is
  ]

module _ {B D : Type 0} (k : Known (Entry B) (Page B)) (said : List ℕ → B) (f : Format B) (passes : ℕ → Contents → Bool)
    (d e : Device) (v : Volume D) (batch : ℕ) (room : Bool) (t : Shelf D) (bodies : List (List (Record (Entry B) (Page B)))) (s : Logged (Entry B) (Page B))
    (l : IsLawful k) (keeps : Keeps k (reading_of said f) f passes d v bodies s) (on : GoesOn passes d e (record v.shelf { batch = batch; has_room = room }) t)
    (least : batch ≡ v.log.used) (right : AreNodes f passes t) where
  -- some pages, which a record gives with the present numbers
  pub pages_stay_with : (known : Limits → Known (Entry B) (Page B)) (limits : Limits) → known limits ≡ k → (changes : List (ℕ × Contents)) (j : Journal) (most : ℕ) → AreThere t.frames t.used changes
      → IsLast known (reading_of said f) (Pages t.counter t.used (images_of changes)) (journal_of v) j
      → ((q : ℕ) → list_any (λ i. i.page == q) (images_read (reading_of said f) (images_of changes)) ≡ false → IsAsItWas d e v.shelf.frames t.frames q)
      → StaysWith k (reading_of said f) f passes d e (volume j t most) bodies s (record_read (reading_of said f) (Pages t.counter t.used (images_of changes)))
  pages_stay_with known limits is changes j most there last others =
      let on_device : t.used ≤ k.pages = (let fits = right.taken in omega (arith, fits, keeps.pages, on.pages)) in
      stays_with k said f passes d e v batch room t bodies s l keeps on least right (Pages t.counter t.used (images_of changes)) j.log most j.imaged last.imaged
      (rw (← is) (last.up limits)) last.stamped last.placed tt others
      (λ q this. given_last (all_records s) (record_read (reading_of said f) (Pages t.counter t.used (images_of changes))) q this)
      (λ q given. images_stored (reading_of said f) k.pages t.frames e.seen t.used on_device changes q (stored (reading_of said f) k.pages v.shelf.frames d.seen) there (λ none. absurd (clash _ given none)))
      (λ q other. images_beside (images_read (reading_of said f) (images_of changes)) q (stored (reading_of said f) k.pages v.shelf.frames d.seen) other)
      (λ q j given at. formed_there (reading_of said f) k.pages t.frames e.seen t.used on_device changes q j there given at)
      (ap (λ (a : Analysis (Entry B)). a.used) (analysis-snoc k (all_records s) (record_read (reading_of said f) (Pages t.counter t.used (images_of changes)))))
      (ap (λ (a : Analysis (Entry B)). a.counter) (analysis-snoc k (all_records s) (record_read (reading_of said f) (Pages t.counter t.used (images_of changes)))))

-- ---- one page with its record

module _ {B D : Type 0} (known : Limits → Known (Entry B) (Page B)) (said : List ℕ → B) (f : Format B) (passes : ℕ → Contents → Bool) (state : D → Device) (v : Volume D) (size : ℕ) (t : Shelf D)
    (page : ℕ) (j : Journal) (did : Stepped passes state v size t page) (given : IsGiven (state t.disk).seen t page) (right : AreNodes f passes t) where
  there_now : IsThere t.frames t.used (page, standing t.frames (state t.disk).seen page)
  there_now =
      let held = given.held in
      let one = there (kept t.frames page) held.kept in
      record { j = one.0; is = one.1; same = sym (stands_kept t.frames (state t.disk).seen page one.0 held.stays one.1); well = given.well; low = held.from; high = held.to }

  pub logged_page : IsLast known (reading_of said f) (page_given page (state t.disk).seen t) (journal_of v) j
      → IsLogged known (reading_of said f) f passes size (state v.shelf.disk) (state t.disk) v (volume j t v.most) (page_given page (state t.disk).seen t)
  logged_page last = record {
    logs = last.logs;
    keeps = λ l bodies s lawful keeps.
        pages_stay_with (known l) said f passes (state v.shelf.disk) (state t.disk) v v.log.used (has_room v.log size) t bodies s lawful keeps did.goes_on (omega arith) right
        known l refl ((page, standing t.frames (state t.disk).seen page) ∷ []) j v.most (there_now, tt) last
        (λ q other. did.others q (or_none_first (page == q) false other));
    goes_on = did.goes_on;
    others = λ q other. did.others q (or_none_first (page == q) false other);
    most = refl;
    imaged = last.imaged;
  }

-- what a step of a descent that widened nothing leaves
pub unwidened_stays : {B : Type 0} (cost : B → B → ℕ × ℕ) (joined : B → B → B) (most : ℕ) (old new : Store B) (item : TraversalItem) (coming : B) (d : Descended B) → is_widened d ≡ false
    → StepsDown cost joined most old new item coming d → new ≡ old
unwidened_stays cost joined most old new item coming did.Again narrow is = is.1
unwidened_stays cost joined most old new item coming did.Leaf narrow is = is.1
unwidened_stays cost joined most old new item coming did.FullLeaf narrow is = is.1
unwidened_stays cost joined most old new item coming did.FullInner narrow is = is.1
unwidened_stays cost joined most old new item coming (did.Down next) narrow is = is.2
unwidened_stays cost joined most old new item coming (did.Widened next slot key) narrow is = absurd (grind (arith, narrow))

-- a page in a record is in range
pub page_in_range : (counter used page : ℕ) (image : List ℕ) (c : Contents) → counter < 2 ^ 64 → used < 2 ^ 32 → page < 2 ^ 32 → IsImage image → read_of image ≡ c → c.number ≡ page
    → IsInRange (Pages counter used ((page, image) ∷ []))
page_in_range counter used page image c counter_fits used_fits page_fits is reads number =
    (counter_fits, used_fits, omega arith, omega arith, (omega arith, record { fits = page_fits; image = record { image = is; number = ap (λ (p : Contents). p.number) reads ∙ number } }, tt))

-- a step of a descent since before the event began
pub descended_since : {B D : Type 0} (f : Format B) (state : D → Device) (v : Volume D) (size : ℕ) (u : Shelf D) (cost : B → B → ℕ × ℕ) (joined : B → B → B) (most : ℕ) (new : Store B) (item : TraversalItem) (coming : B) (d : Descended B)
    → u ≡ begun v size → StepsDown cost joined most (store_of f (state u.disk).seen u) new item coming d → StepsDown cost joined most (store_of f (state v.shelf.disk).seen v.shelf) new item coming d
descended_since f state v size u cost joined most new item coming d is down = subst {A = Shelf _} (λ x. StepsDown cost joined most (store_of f (state x.disk).seen x) new item coming d) is down

-- ---- a way that was only read

abbrev widened_in : {B : Type 0} → Option (Descended B) → Bool
widened_in None = false
widened_in (Some d) = is_widened d

never_widened : {B : Type 0} (way : Way B) (seen : ℕ) → widened_in (unwidened way seen) ≡ false
never_widened Again seen = refl
never_widened Add seen = refl
never_widened FullLeaf seen = refl
never_widened FullInner seen = refl
never_widened (Down slot child) seen = refl
never_widened (Widen slot child key) seen = refl

-- what it comes to widened nothing
pub unwidened_narrow : {B : Type 0} (way : Way B) (seen : ℕ) (d : Descended B) → unwidened way seen ≡ Some d → is_widened d ≡ false
unwidened_narrow way seen d is = sym (ap widened_in is) ∙ never_widened way seen

-- and if it comes to nothing, a bound has to be widened
pub has_to_widen : {B : Type 0} (cost : B → B → ℕ × ℕ) (joined : B → B → B) (most : ℕ) (s : Store B) (item : TraversalItem) (coming : B) (way : Way B) (seen : ℕ) → unwidened way seen ≡ None
    → WayAt cost joined most s item coming way → HasToWiden cost joined most s item coming
has_to_widen {B} cost joined most s item coming Again seen is at = absurd (let never : ◌≡◌ {A = Option (Descended B)} (Some did.Again) None = is in cc)
has_to_widen {B} cost joined most s item coming Add seen is at = absurd (let never : ◌≡◌ {A = Option (Descended B)} (Some did.Leaf) None = is in cc)
has_to_widen {B} cost joined most s item coming FullLeaf seen is at = absurd (let never : ◌≡◌ {A = Option (Descended B)} (Some did.FullLeaf) None = is in cc)
has_to_widen {B} cost joined most s item coming FullInner seen is at = absurd (let never : ◌≡◌ {A = Option (Descended B)} (Some did.FullInner) None = is in cc)
has_to_widen {B} cost joined most s item coming (Down slot child) seen is at = absurd (let never : ◌≡◌ {A = Option (Descended B)} (Some (did.Down (record { page = child; seen = seen }))) None = is in cc)
has_to_widen cost joined most s item coming (Widen slot child key) seen is at = (slot, child, key, at)
