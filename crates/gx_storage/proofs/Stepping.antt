-- What a logged change means for an index: a step of the tree that frames and device show is that step of the log's
-- tree.
use Rattle.std.proofs.Common.{◌≡◌, ◌≢◌, ◌∙◌, ap, refl, ℕ, ◌<◌, ◌≤◌, Bool, true, false, ◌||◌, ◌==◌, List, [], ◌∷◌, arith}
use Rattle.std.specs.Prelude.{nat_le, nat_lt}
use Rattle.std.specs.List.{list_all, list_any}
use Rattle.std.proofs.lemmas.Bool.{eq-eqb, le-leb, lt-ltb, leb-true, ltb-true, ne_eqb}
use Rattle.gx_machine.specs.declared.entry.Entry.{Entry}
use Rattle.gx_disk.specs.Device.{Device}
use Rattle.gx_page.specs.Contents.{Contents}
use Rattle.gx_node.specs.Alike.{AgreeOnUsed}
use Rattle.gx_node.specs.Legal.{Legal}
use Rattle.gx_node.specs.Lists.{Each}
use Rattle.gx_node.specs.Steps.{IsStep, Step}
use Rattle.gx_node.specs.Trees.{Tree, Used}
use Rattle.gx_node.proofs.AlikeSteps.{step_too}
use Rattle.gx_node.proofs.AlikeTrees.{agree_back, legal_too}
use Rattle.gx_node.specs.Reading.{Format}
use Rattle.gx_recovery.specs.Analysis.{analysis}
use Rattle.gx_recovery.specs.Damage.{image_fits, is_page}
use Rattle.gx_recovery.specs.Known.{Known}
use Rattle.gx_recovery.specs.Logged.{all_records}
use Rattle.gx_recovery.specs.Records.{Image, Record, speaks_of}
use Rattle.gx_recovery.specs.Redo.{redone}
use Rattle.gx_recovery.proofs.Folds.{redone-snoc}
use Rattle.gx_recovery.proofs.Logs.{and_all}
use Rattle.gx_recovery.proofs.States.{redone_apart}
use Rattle.gx_recovery.proofs.Tests.{and_first, and_second}
use Rattle.gx_index_laws.specs.Classes.{Class, IsLawful, Page, known_of}
use Rattle.gx_index_laws.specs.Happening.{with_record}
use Rattle.gx_index_laws.specs.States.{State, tree_now}
use Rattle.gx_index_laws.specs.Steps.{IsPageStep, SparesClaims}
use Rattle.gx_index_laws.specs.Whole.{IsWhole}
use Rattle.gx_index_laws.proofs.Paging.{paged}
use Rattle.gx_index_laws.proofs.Standing.{is_legal, is_log, known_lawful}
use Rattle.gx_durable.specs.Spelled.{Reading, images_read, record_read}
use Rattle.gx_durable.specs.Stored.{images_of}
use Rattle.gx_durable.proofs.Reading.{one_more}
use Rattle.gx_durable.specs.Classes.{reading_of}
use Rattle.gx_store.specs.Standing.{standing_node}
use Rattle.gx_store.proofs.Listed.{nodes_long}
use Rattle.gx_storage.specs.Giving.{contents_at, pages_given}
use Rattle.gx_storage.specs.Keeps.{Keeps, StaysWith, tree_shown}
use Rattle.gx_storage.specs.Numbers.{HasOwnNumber}
use Rattle.gx_storage.specs.State.{Volume}
use Rattle.gx_storage.proofs.Shown.{keeps_shows, used_fits}
use Rattle.gx_storage.specs.Sweeps.{WorksWith}

-- images that fit are of pages in use
fit_within : {E P : Type 0} (k : Known E P) (used q : ℕ) (images : List (Image P)) → list_all (image_fits k used) images ≡ true → ((0 < q) × (q ≤ used) → ⊥)
    → list_any (λ i. i.page == q) images ≡ false
fit_within k used q [] fits beyond = refl
fit_within k used q (i ∷ images) fits beyond =
    let in_use : is_page used i.page ≡ true = and_first (is_page used i.page) (k.own i.content == i.page) (and_first (image_fits k used i) (list_all (image_fits k used) images) fits) in
    let low : 0 < i.page = ltb-true 0 i.page (and_first (nat_lt 0 i.page) (nat_le i.page used) in_use) in
    let high : i.page ≤ used = leb-true i.page used (and_second (nat_lt 0 i.page) (nat_le i.page used) in_use) in
    let other : i.page ≢ q = λ same. beyond (omega (arith, same, low), omega (arith, same, high)) in
    ap (λ b. b || list_any (λ j. j.page == q) images) (ne_eqb i.page q other)
    ∙ fit_within k used q images (and_second (image_fits k used i) (list_all (image_fits k used) images) fits) beyond

module _ {B D : Type 0} (c : Class B) (law : IsLawful c) (said : List ℕ → B) (f : Format B) (passes : ℕ → Contents → Bool) (d e : Device) (v w : Volume D)
    (bodies : List (List (Record (Entry B) (Page B)))) (old : State B) (whole : IsWhole c old) where
  abbrev pub r : Reading (Entry B) (Page B)
  r = reading_of said f

  -- the tree that is shown before the change, and after it
  abbrev pub shown : Tree B
  shown = tree_shown (known_of c) r f passes d v

  abbrev pub shown_now : Tree B
  shown_now = tree_shown (known_of c) r f passes e w

  -- a page that a record doesn't name is as the log had it
  beside : (x : Record (Entry B) (Page B)) (q : ℕ) → speaks_of q x ≡ false → (tree_now c (with_record x old)).node q ≡ (tree_now c old).node q
  beside x q apart =
      let area = old.log.area in
      let was = all_records old.log in
      ap (λ (log : List (Record (Entry B) (Page B))). (redone area log q).node) (one_more old.log x)
      ∙ ap (λ (pages : ℕ → Page B). (pages q).node) (redone-snoc (known_of c) area was x)
      ∙ ap (λ (page : Page B). page.node) (redone_apart (x ∷ []) q (redone area was) (ap (λ b. b || false) apart))

  module _ (keeps : Keeps (known_of c) r f passes d v bodies old.log) where
    -- what is shown is the log's tree
    pub shows : AgreeOnUsed (tree_now c old) shown
    shows = keeps_shows said f (known_of c) passes d v (known_lawful c law) bodies old.log keeps

    pub shown_legal : Legal c.rules shown
    shown_legal = legal_too c.rules (tree_now c old) shown shows (is_legal c law old whole)

    -- as many pages are in use as the device has, or fewer
    pub used_few : v.shelf.used ≤ c.pages
    used_few =
        let few : (analysis (known_of c) (all_records old.log)).used ≤ c.pages = used_fits (known_of c) (known_lawful c law) (all_records old.log) (is_log c law old whole) in
        omega (arith, few, keeps.used)

    pub stood : shown.used ≡ v.shelf.used
    stood = nodes_long (standing_node f v.shelf.frames d.seen) v.shelf.used

    pub stands : shown_now.used ≡ w.shelf.used
    stands = nodes_long (standing_node f w.shelf.frames e.seen) w.shelf.used

    -- a record names only pages in use
    pub logged_step : (x : Record (Entry B) (Page B)) → StaysWith (known_of c) r f passes d e w bodies old.log x
        → ((q : ℕ) → (Used shown_now q → ⊥) → speaks_of q x ≡ false)
        → (step : Step B) → IsStep c.rules shown step shown_now → IsStep c.rules (tree_now c old) step (tree_now c (with_record x old))
    logged_step x after within step is =
        step_too c.rules law.rules shown shown_now (tree_now c old) (tree_now c (with_record x old)) (agree_back _ _ shows) (agree_back _ _ after.shows)
        (λ q beyond. beside x q (within q beyond)) shown_legal step is

    -- pages that are given
    module _ (pages : List ℕ) (each : Each (λ p. ((0 < p) × (p ≤ w.shelf.used)) × HasOwnNumber e.seen w.shelf p) pages) where
      abbrev pub given : Record (Entry B) (Page B)
      given = record_read r (pages_given pages e.seen w.shelf)

      fitting : (ps : List ℕ) → Each (λ p. ((0 < p) × (p ≤ w.shelf.used)) × HasOwnNumber e.seen w.shelf p) ps
          → list_all (image_fits (known_of c) w.shelf.used) (images_read r (images_of (contents_at e.seen w.shelf ps))) ≡ true
      fitting [] all = refl
      fitting (p ∷ ps) all =
          let in_use : is_page w.shelf.used p ≡ true = and_all (nat_lt 0 p) (nat_le p w.shelf.used) (lt-ltb 0 p all.0.0.0) (le-leb p w.shelf.used all.0.0.1) in
          and_all _ _ (and_all _ _ in_use (eq-eqb _ p all.0.1)) (fitting ps all.1)

      module _ (after : StaysWith (known_of c) r f passes d e w bodies old.log given) where
        pub given_step : (step : Step B) → IsStep c.rules shown step shown_now → IsStep c.rules (tree_now c old) step (tree_now c (with_record given old))
        given_step =
            logged_step given after
            (λ q beyond. fit_within (known_of c) w.shelf.used q (images_read r (images_of (contents_at e.seen w.shelf pages))) (fitting pages each)
            (λ in_use. beyond (in_use.0, (let same = stands in let high = in_use.1 in omega (arith, same, high)))))

        -- their record may come, no session notices, and the volume keeps the index with it
        pub given_works : w.shelf.used ≤ c.pages → (step : Step B) → IsPageStep step → SparesClaims c old.slots step → IsStep c.rules shown step shown_now
            → WorksWith c r f passes e w bodies old given
        given_works few step of_pages spares is =
            let comes = paged c law old whole (images_read r (images_of (contents_at e.seen w.shelf pages))) w.shelf.counter w.shelf.used step of_pages spares few (fitting pages each) (given_step step is) in
            record { comes = comes; keeps = after.keeps comes.may_come }
