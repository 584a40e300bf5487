-- What a log by itself gives of a page is that page, and of what it says anything it gives.
use Rattle.std.proofs.Common.{◌≡◌, ℕ, Bool, true, false, not, ◌&&◌, ◌||◌, inl, inr, List, [], ◌∷◌, ◌++◌, Option, Some, None, refl, ap, sym, ◌∙◌, subst, append_assoc}
use Rattle.std.specs.Prelude.{◌==◌, if◌then◌else◌, is_some, unwrap_or}
use Rattle.std.specs.List.{list_any, list_all}
use Rattle.std.proofs.Math.Bool.{or-false}
use Rattle.std.proofs.lemmas.Bool.{eqb-true}
use Rattle.std.proofs.lemmas.List.{append-nil}
use Rattle.std.proofs.lemmas.List.Folds.{list_any-append}
use Rattle.gx_recovery.specs.Known.{Known}
use Rattle.gx_recovery.specs.Records.{Image, Change, Said, Whole, Small, Record, Pages, Adjust, Write, Commit, End, Counters, Note, Touch, settled, any_number, gives, speaks_of}
use Rattle.gx_recovery.specs.Analysis.{analysis}
use Rattle.gx_recovery.specs.Redo.{with_page, with_images, said_over, redo, redone}
use Rattle.gx_recovery.specs.Given.{images_given, change_given, said_given, given_with, given_on, given, change_fits}
use Rattle.gx_recovery.specs.Damage.{fits, may_follow, follows, follow, is_note, note_fits, is_head, IsLog}
use Rattle.gx_recovery.specs.Renewal.{notes_of, renewed}
use Rattle.gx_recovery.proofs.Tests.{and_first, and_second, either_of, or_second, or_none_first, or_none_second, true_or_false, clash}
use Rattle.gx_recovery.proofs.States.{redone_apart, redone_again}

or_first : (a b : Bool) → a ≡ true → (a || b) ≡ true
or_first true b h = refl
or_first false b h = cc

-- what is given, if anything is, is this content
abbrev Gives : {P : Type 0} → Option P → P → Type 0
Gives {P} o content = (c : P) → o ≡ Some c → content ≡ c

module _ {P : Type 0} where
  gives_if : (test : Bool) (content other : P) (before : Option P) → Gives before other → Gives (if test then Some content else before) (if test then content else other)
  gives_if true content other before g c h = ap (λ o. unwrap_or o content) h
  gives_if false content other before g c h = g c h

  images_gives : (p : ℕ) (images : List (Image P)) (before : Option P) (area : ℕ → P) → Gives before (area p) → Gives (images_given p images before) (with_images images area p)
  images_gives p [] before area g = g
  images_gives p (i ∷ images) before area g =
      images_gives p images (if i.page == p then Some i.content else before) (with_page i.page i.content area) (gives_if (i.page == p) i.content (area p) before g)

  change_gives : (change : Change P) (before : Option P) (old : P) → Gives before old → Gives (change_given change before) (change.made old)
  change_gives change None old g c h = let no : ⊥ = cc in absurd no
  change_gives change (Some x) old g c h = ap (λ y. change.made y) (g x refl) ∙ ap (λ o. unwrap_or o (change.made x)) h

  said_gives : (said : Said P) (before : Option P) (old : P) → Gives before old → Gives (said_given said before) (said_over said old)
  said_gives (Whole content) before old g c h = ap (λ o. unwrap_or o content) h
  said_gives (Small change) before old g c h = change_gives change before old g c h

  one_gives : (page p : ℕ) (test : Bool) (said : Said P) (before : Option P) (area : ℕ → P) → (page == p) ≡ test → Gives before (area p)
      → Gives (if test then said_given said before else before) (if test then said_over said (area page) else area p)
  one_gives page p true said before area is g = said_gives said before (area page) (subst (λ q. Gives before (area q)) (sym (eqb-true page p is)) g)
  one_gives page p false said before area is g = g

  no_images : (p : ℕ) (images : List (Image P)) → list_any (λ i. i.page == p) images ≡ false → images_given p images None ≡ None
  no_images p [] h = refl
  no_images p (i ∷ images) h =
      ap (λ b. images_given p images (if b then Some i.content else None)) (or_none_first (i.page == p) (list_any (λ j. j.page == p) images) h)
      ∙ no_images p images (or_none_second (i.page == p) (list_any (λ j. j.page == p) images) h)

  some_if : (test : Bool) (content : P) (before : Option P) → is_some before ≡ true → is_some (if test then Some content else before) ≡ true
  some_if true content before h = refl
  some_if false content before h = h

  some_images : (p : ℕ) (images : List (Image P)) (before : Option P) → is_some before ≡ true → is_some (images_given p images before) ≡ true
  some_images p [] before h = h
  some_images p (i ∷ images) before h = some_images p images (if i.page == p then Some i.content else before) (some_if (i.page == p) i.content before h)

  given_images : (p : ℕ) (images : List (Image P)) (before : Option P) → list_any (λ i. i.page == p) images ≡ true → is_some (images_given p images before) ≡ true
  given_images p [] before h = cc
  given_images p (i ∷ images) before h =
      elim (true_or_false (i.page == p)) [
        | inl is ↦ some_images p images (if i.page == p then Some i.content else before) (ap (λ b. is_some (if b then Some i.content else before)) is)
        | inr other ↦ given_images p images (if i.page == p then Some i.content else before) (ap (λ b. b || list_any (λ j. j.page == p) images) (sym other) ∙ h)
      ]

  some_change : (change : Change P) (before : Option P) → is_some before ≡ true → is_some (change_given change before) ≡ true
  some_change change None h = h
  some_change change (Some content) h = refl

  some_said : (said : Said P) (before : Option P) → is_some before ≡ true → is_some (said_given said before) ≡ true
  some_said (Whole content) before h = refl
  some_said (Small change) before h = some_change change before h

  some_one : (test : Bool) (said : Said P) (before : Option P) → is_some before ≡ true → is_some (if test then said_given said before else before) ≡ true
  some_one true said before h = some_said said before h
  some_one false said before h = h

  same_change : (test : Bool) (change : Change P) → (if test then change_given change None else None) ≡ None
  same_change true change = refl
  same_change false change = refl

  or_other : (given : Option P) (other : P) (page : P) → Gives given page → (given ≡ None → page ≡ other) → page ≡ unwrap_or given other
  or_other None other page g none = none refl
  or_other (Some content) other page g none = g content refl

module _ {E P : Type 0} where
  record_gives : (r : Record E P) (p : ℕ) (before : Option P) (area : ℕ → P) → Gives before (area p) → Gives (given_with p r before) (redo area r p)
  record_gives (Pages images counter used) p before area g = images_gives p images before area g
  record_gives (Adjust page change) p before area g = one_gives page p (page == p) (Small change) before area refl g
  record_gives (Write transaction entry mark after leaf said) p before area g = one_gives leaf p (leaf == p) said before area refl g
  record_gives (Commit transaction number) p before area g = g
  record_gives (End transaction) p before area g = g
  record_gives (Counters number counter used next) p before area g = g
  record_gives (Note transaction entry mark leaf) p before area g = g

  records_give : (rs : List (Record E P)) (p : ℕ) (before : Option P) (area : ℕ → P) → Gives before (area p) → Gives (given_on p before rs) (redone area rs p)
  records_give [] p before area g = g
  records_give (r ∷ rs) p before area g = records_give rs p (given_with p r before) (redo area r) (record_gives r p before area g)

  -- what a log gives of a page is that page after it
  pub given_is_the_page : (log : List (Record E P)) (p : ℕ) (area : ℕ → P) (content : P) → given p log ≡ Some content → redone area log p ≡ content
  given_is_the_page log p area content h = records_give log p None area (λ c no. let bad : ⊥ = cc in absurd bad) content h

  none_by : (r : Record E P) (p : ℕ) → gives p r ≡ false → given_with p r None ≡ None
  none_by (Pages images counter used) p h = no_images p images h
  none_by (Adjust page change) p h = same_change (page == p) change
  none_by (Write transaction entry mark after leaf (Whole content)) p h = ap (λ b. if b then Some content else None) h
  none_by (Write transaction entry mark after leaf (Small change)) p h = same_change (leaf == p) change
  none_by (Commit transaction number) p h = refl
  none_by (End transaction) p h = refl
  none_by (Counters number counter used next) p h = refl
  none_by (Note transaction entry mark leaf) p h = refl

  -- of a page that no record gives whole nothing is given
  pub none_given : (rs : List (Record E P)) (p : ℕ) → list_any (gives p) rs ≡ false → given p rs ≡ None
  none_given [] p h = refl
  none_given (r ∷ rs) p h =
      ap (λ o. given_on p o rs) (none_by r p (or_none_first (gives p r) (list_any (gives p) rs) h))
      ∙ none_given rs p (or_none_second (gives p r) (list_any (gives p) rs) h)

  some_by : (r : Record E P) (p : ℕ) (before : Option P) → is_some before ≡ true → is_some (given_with p r before) ≡ true
  some_by (Pages images counter used) p before h = some_images p images before h
  some_by (Adjust page change) p before h = some_one (page == p) (Small change) before h
  some_by (Write transaction entry mark after leaf said) p before h = some_one (leaf == p) said before h
  some_by (Commit transaction number) p before h = h
  some_by (End transaction) p before h = h
  some_by (Counters number counter used next) p before h = h
  some_by (Note transaction entry mark leaf) p before h = h

  some_on : (rs : List (Record E P)) (p : ℕ) (before : Option P) → is_some before ≡ true → is_some (given_on p before rs) ≡ true
  some_on [] p before h = h
  some_on (r ∷ rs) p before h = some_on rs p (given_with p r before) (some_by r p before h)

  given_by : (r : Record E P) (p : ℕ) (before : Option P) → gives p r ≡ true → is_some (given_with p r before) ≡ true
  given_by (Pages images counter used) p before h = given_images p images before h
  given_by (Adjust page change) p before h = cc
  given_by (Write transaction entry mark after leaf (Whole content)) p before h = ap (λ b. is_some (if b then Some content else before)) h
  given_by (Write transaction entry mark after leaf (Small change)) p before h = cc
  given_by (Commit transaction number) p before h = cc
  given_by (End transaction) p before h = cc
  given_by (Counters number counter used next) p before h = cc
  given_by (Note transaction entry mark leaf) p before h = cc

  some_given_on : (rs : List (Record E P)) (p : ℕ) (before : Option P) → list_any (gives p) rs ≡ true → is_some (given_on p before rs) ≡ true
  some_given_on [] p before h = cc
  some_given_on (r ∷ rs) p before h =
      elim (either_of (gives p r) (list_any (gives p) rs) h) [
        | inl now ↦ some_on rs p (given_with p r before) (given_by r p before now)
        | inr later ↦ some_given_on rs p (given_with p r before) later
      ]

  -- of a page that some record gives whole something is given
  pub some_given : (log : List (Record E P)) (p : ℕ) → list_any (gives p) log ≡ true → is_some (given p log) ≡ true
  some_given log p h = some_given_on log p None h

  -- and of no other
  given_gives : (log : List (Record E P)) (p : ℕ) → is_some (given p log) ≡ true → list_any (gives p) log ≡ true
  given_gives log p h =
      elim (true_or_false (list_any (gives p) log)) [
        | inl is ↦ is
        | inr none ↦ clash (is_some (given p log)) h (ap is_some (none_given log p none))
      ]

  no_gives : (log : List (Record E P)) (p : ℕ) → given p log ≡ None → list_any (gives p) log ≡ false
  no_gives log p none =
      elim (true_or_false (list_any (gives p) log)) [
        | inl is ↦ clash (is_some (given p log)) (some_given log p is) (ap is_some none)
        | inr other ↦ other
      ]

  notes_give_none : (p : ℕ) (before : Option P) (ns : List (Touch E)) → given_on {E = E} p before (notes_of ns) ≡ before
  notes_give_none p before [] = refl
  notes_give_none p before (n ∷ ns) = notes_give_none p before ns

  -- a head says nothing of any page
  notes_speak_of_none : (p : ℕ) (notes : List (Record E P)) → list_all is_note notes ≡ true → list_any (speaks_of p) notes ≡ false
  notes_speak_of_none p [] h = refl
  notes_speak_of_none p (Note transaction entry mark leaf ∷ ns) h = notes_speak_of_none p ns h
  notes_speak_of_none p (Pages images counter used ∷ ns) h = cc
  notes_speak_of_none p (Adjust page change ∷ ns) h = cc
  notes_speak_of_none p (Write transaction entry mark after leaf said ∷ ns) h = cc
  notes_speak_of_none p (Commit transaction number ∷ ns) h = cc
  notes_speak_of_none p (End transaction ∷ ns) h = cc
  notes_speak_of_none p (Counters number counter used next ∷ ns) h = cc

  notes_give_nothing : (p : ℕ) (notes : List (Record E P)) → list_all is_note notes ≡ true → given p notes ≡ None
  notes_give_nothing p [] h = refl
  notes_give_nothing p (Note transaction entry mark leaf ∷ ns) h = notes_give_nothing p ns h
  notes_give_nothing p (Pages images counter used ∷ ns) h = cc
  notes_give_nothing p (Adjust page change ∷ ns) h = cc
  notes_give_nothing p (Write transaction entry mark after leaf said ∷ ns) h = cc
  notes_give_nothing p (Commit transaction number ∷ ns) h = cc
  notes_give_nothing p (End transaction ∷ ns) h = cc
  notes_give_nothing p (Counters number counter used next ∷ ns) h = cc

module _ {E P : Type 0} (k : Known E P) where
  -- a change fits only if something is given
  fits_given : (change : Change P) (before : Option P) → change_fits k change before ≡ true → is_some before ≡ true
  fits_given change None h = h
  fits_given change (Some content) h = refl

  -- a renewed log gives nothing
  pub renewed_gives_none : (next : ℕ) (log : List (Record E P)) (p : ℕ) → given p (renewed k next log) ≡ None
  renewed_gives_none next log p = notes_give_none p None (analysis k log).touched

  head_speaks_of_none : (p : ℕ) (head : List (Record E P)) → is_head k head ≡ true → list_any (speaks_of p) head ≡ false
  head_speaks_of_none p [] h = cc
  head_speaks_of_none p (Counters number counter used next ∷ notes) h =
      notes_speak_of_none p notes (and_first (list_all is_note notes) (list_all (note_fits used) notes && fits k (analysis k (Counters number counter used next ∷ notes))) h)
  head_speaks_of_none p (Pages images counter used ∷ rs) h = cc
  head_speaks_of_none p (Adjust page change ∷ rs) h = cc
  head_speaks_of_none p (Write transaction entry mark after leaf said ∷ rs) h = cc
  head_speaks_of_none p (Commit transaction number ∷ rs) h = cc
  head_speaks_of_none p (End transaction ∷ rs) h = cc
  head_speaks_of_none p (Note transaction entry mark leaf ∷ rs) h = cc

  -- and so a head gives nothing
  pub head_gives_none : (p : ℕ) (head : List (Record E P)) → is_head k head ≡ true → given p head ≡ None
  head_gives_none p [] h = cc
  head_gives_none p (Counters number counter used next ∷ notes) h =
      notes_give_nothing p notes (and_first (list_all is_note notes) (list_all (note_fits used) notes && fits k (analysis k (Counters number counter used next ∷ notes))) h)
  head_gives_none p (Pages images counter used ∷ rs) h = cc
  head_gives_none p (Adjust page change ∷ rs) h = cc
  head_gives_none p (Write transaction entry mark after leaf said ∷ rs) h = cc
  head_gives_none p (Commit transaction number ∷ rs) h = cc
  head_gives_none p (End transaction ∷ rs) h = cc
  head_gives_none p (Note transaction entry mark leaf ∷ rs) h = cc

  -- of what these records say anything they give
  GivesAll : ℕ → List (Record E P) → Type 0
  GivesAll p log = list_any (speaks_of p) log ≡ true → list_any (gives p) log ≡ true

  earlier : (page p : ℕ) (log : List (Record E P)) (r : Record E P) → (page == p) ≡ true → is_some (given page log) ≡ true → list_any (gives p) (log ++ r ∷ []) ≡ true
  earlier page p log r is some =
      list_any-append (gives p) log (r ∷ [])
      ∙ or_first (list_any (gives p) log) (gives p r || false) (given_gives log p (subst (λ q. is_some (given q log) ≡ true) (eqb-true page p is) some))

  now_given : (p : ℕ) (log : List (Record E P)) (r : Record E P) → gives p r ≡ true → list_any (gives p) (log ++ r ∷ []) ≡ true
  now_given p log r h = list_any-append (gives p) log (r ∷ []) ∙ or_second (list_any (gives p) log) (gives p r || false) (or_first (gives p r) false h)

  spoken_by : (p : ℕ) (log : List (Record E P)) (r : Record E P) → may_follow k log (analysis k log) r ≡ true → speaks_of p r ≡ true
      → list_any (gives p) (log ++ r ∷ []) ≡ true
  spoken_by p log (Pages images counter used) may h = now_given p log (Pages images counter used) h
  spoken_by p log (Adjust page change) may h = earlier page p log (Adjust page change) h (fits_given change (given page log) may)
  spoken_by p log (Write transaction entry mark after leaf (Whole content)) may h = now_given p log (Write transaction entry mark after leaf (Whole content)) h
  spoken_by p log (Write transaction entry mark after leaf (Small change)) may h =
      earlier leaf p log (Write transaction entry mark after leaf (Small change)) h
      (fits_given change (given leaf log) (and_second (not (settled any_number transaction log)) (change_fits k change (given leaf log)) may))
  spoken_by p log (Commit transaction number) may h = cc
  spoken_by p log (End transaction) may h = cc
  spoken_by p log (Counters number counter used next) may h = cc
  spoken_by p log (Note transaction entry mark leaf) may h = cc

  gives_step : (p : ℕ) (log : List (Record E P)) (r : Record E P) → GivesAll p log → follows k log r ≡ true → GivesAll p (log ++ r ∷ [])
  unfolding GivesAll
  gives_step p log r all f h =
      elim (either_of (list_any (speaks_of p) log) (speaks_of p r) (sym (list_any-append (speaks_of p) log (r ∷ []) ∙ ap (λ b. list_any (speaks_of p) log || b) (or-false (speaks_of p r))) ∙ h)) [
        | inl before ↦ list_any-append (gives p) log (r ∷ []) ∙ or_first (list_any (gives p) log) (gives p r || false) (all before)
        | inr now ↦ spoken_by p log r (and_first (may_follow k log (analysis k log) r) (fits k (analysis k (log ++ r ∷ []))) f) now
      ]

  gives_on : (p : ℕ) (log rs : List (Record E P)) → GivesAll p log → follow k log rs ≡ true → GivesAll p (log ++ rs)
  gives_on p log [] all f = subst (GivesAll p) (sym (append-nil log)) all
  gives_on p log (r ∷ rs) all f =
      subst (GivesAll p) (append_assoc log (r ∷ []) rs)
      (gives_on p (log ++ r ∷ []) rs (gives_step p log r all (and_first (follows k log r) (follow k (log ++ r ∷ []) rs) f))
      (and_second (follows k log r) (follow k (log ++ r ∷ []) rs) f))

  head_gives : (p : ℕ) (head : List (Record E P)) → is_head k head ≡ true → GivesAll p head
  unfolding GivesAll
  head_gives p head h spoken = clash (list_any (speaks_of p) head) spoken (head_speaks_of_none p head h)

  log_gives : (p : ℕ) (log : List (Record E P)) → IsLog k log → GivesAll p log
  log_gives p log is = subst (GivesAll p) (sym is.parts) (gives_on p is.head is.later (head_gives p is.head is.begins) is.goes_on)

  -- of what a log says anything it gives the whole
  pub spoken_is_given : (p : ℕ) (log : List (Record E P)) → IsLog k log → list_any (speaks_of p) log ≡ true → list_any (gives p) log ≡ true
  unfolding GivesAll
  spoken_is_given p log is = log_gives p log is

  -- a page of a log that it doesn't give is unchanged
  pub ungiven_is_untouched : (log : List (Record E P)) (p : ℕ) (area : ℕ → P) → IsLog k log → list_any (gives p) log ≡ false → redone area log p ≡ area p
  ungiven_is_untouched log p area is h =
      elim (true_or_false (list_any (speaks_of p) log)) [
        | inl spoken ↦ clash (list_any (gives p) log) (spoken_is_given p log is spoken) h
        | inr silent ↦ redone_apart log p area silent
      ]

  -- the pages after a log are those that it gives, and the others as they were
  pub redone_by_given : (log : List (Record E P)) (p : ℕ) (area : ℕ → P) → IsLog k log → redone area log p ≡ unwrap_or (given p log) (area p)
  redone_by_given log p area is =
      or_other (given p log) (area p) (redone area log p) (λ c h. given_is_the_page log p area c h)
      (λ none. ungiven_is_untouched log p area is (no_gives log p none))

  pub redone_twice : (log : List (Record E P)) (area : ℕ → P) → IsLog k log → redone (redone area log) log ≡ redone area log
  redone_twice log area is = redone_again log area (redone area log) (λ p h. ungiven_is_untouched log p area is h)
