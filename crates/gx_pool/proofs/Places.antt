-- Frames and places name each other after each edit, and what is kept of each page.
use Rattle.std.proofs.Common.{◌≡◌, ◌+◌, ◌≢◌, ◌∙◌, sym, ap, refl, ◌⊎◌, inl, inr, ℕ, ◌<◌, ◌≤◌, List, length, get_or, set, Option, Some, None, IfSome, IfNone, IsSome, Bool, true, false, zero, suc, [], ◌∷◌, ◌++◌, arith, get_or-set_same, get_or-set_other, length-set}
use Rattle.std.specs.Prelude.{is_some}
use Rattle.std.proofs.Math.Decide.{ℕ_discrete}
use Rattle.std.proofs.lemmas.Option.{none-some}
use Rattle.std.proofs.Math.ListN.{get_or-eq_default}
use Rattle.std.proofs.lemmas.Bool.{cases_lt, leb-true}
use Rattle.gx_disk.specs.declared.layout.TheConstants.{MAX_PAGES}
use Rattle.gx_page.specs.Contents.{Contents}
use Rattle.gx_pool.specs.declared.frames.TheConstants.{FRAMES}
use Rattle.gx_pool.specs.declared.mark.FrameMark.{FrameMark}
use Rattle.gx_pool.specs.Marks.{empty, is_gated}
use Rattle.gx_pool.specs.State.{State, Kept, IsSound, IsWritable, stamp_of, mark_at, place_of, kept, kept_at, frame_at}
use Rattle.gx_pool.specs.Edits.{changed, changed_at, later, vacated, with_page, settled, stamped, forgotten}

-- ---- lists

-- what a list has at a place after another was written
pub set_cases : {A : Type 0} → (xs : List A) (i j : ℕ) (x d : A) → i < length xs
    → ((j ≡ i) × (get_or (set xs i x) j d ≡ x)) ⊎ ((j ≢ i) × (get_or (set xs i x) j d ≡ get_or xs j d))
set_cases xs i j x d inside = elim (ℕ_discrete j i) [
  | yes e ↦ inl (e, ap (λ n. get_or (set xs i x) n d) e ∙ get_or-set_same xs i x d inside)
  | no ne ↦ inr (ne, get_or-set_other xs i j x d ne)
]

or_zero : Option ℕ → ℕ
or_zero None = 0
or_zero (Some n) = n

pub some-injective : (i j : ℕ) → ◌≡◌ {A = Option ℕ} (Some i) (Some j) → i ≡ j
unfolding or_zero
some-injective i j e = ap or_zero e

one_of : (i j : ℕ) (o : Option ℕ) → o ≡ Some i → o ≡ Some j → i ≡ j
one_of i j o first next = some-injective i j (sym first ∙ next)

not_both : {A : Type 0} → (x : A) (o : Option A) → o ≡ Some x → o ≡ None → ⊥
not_both x o some none = none-some x (sym none ∙ some)

set_none : (places : List (Option ℕ)) (i : ℕ) → get_or (set places i None) i None ≡ None
set_none places i = elim (cases_lt i (length places)) [
  | inl inside ↦ get_or-set_same places i None None inside
  | inr past ↦ get_or-eq_default (set places i None) None (rw (length-set places i None) past)
]

forgotten_there : (places : List (Option ℕ)) (o : Option ℕ) (page j : ℕ) → get_or (forgotten places o) page None ≡ Some j → (get_or places page None ≡ Some j) × (o ≢ Some page)
forgotten_there places None page j is = (is, λ some. not_both page None some refl)
forgotten_there places (Some q) page j is = elim (ℕ_discrete page q) [
  | yes e ↦ absurd (not_both j (get_or (set places q None) page None) is (ap (λ n. get_or (set places q None) n None) e ∙ set_none places q))
  | no ne ↦ (sym (get_or-set_other places q page None None ne) ∙ is, λ same. ne (sym (some-injective q page same)))
]

forgotten_other : (places : List (Option ℕ)) (o : Option ℕ) (page : ℕ) → o ≢ Some page → get_or (forgotten places o) page None ≡ get_or places page None
forgotten_other places None page ne = refl
forgotten_other places (Some q) page ne = get_or-set_other places q page None None (λ e. ne (ap Some (sym e)))

forgotten_gone : (places : List (Option ℕ)) (o : Option ℕ) (page : ℕ) → o ≡ Some page → get_or (forgotten places o) page None ≡ None
forgotten_gone places o page is = ap (λ k. get_or (forgotten places k) page None) is ∙ set_none places page

forgotten_none : (places : List (Option ℕ)) (o : Option ℕ) (page : ℕ) → get_or places page None ≡ None → get_or (forgotten places o) page None ≡ None
forgotten_none places None page none = none
forgotten_none places (Some q) page none = elim (ℕ_discrete page q) [
  | yes e ↦ ap (λ n. get_or (set places q None) n None) e ∙ set_none places q
  | no ne ↦ get_or-set_other places q page None None ne ∙ none
]

forgotten_length : (places : List (Option ℕ)) (o : Option ℕ) → length (forgotten places o) ≡ length places
forgotten_length places None = refl
forgotten_length places (Some q) = length-set places q None

-- ---- frames and places name each other

pub vacated_sound : (s : State) (i : ℕ) → IsSound s → i < length s.marks → IsSound (vacated s i)
vacated_sound s i sound inside =
    let o : Option ℕ = (mark_at s i).page in
    record {
      sizes = sound.sizes ∙ sym (length-set s.marks i empty);
      few = rw (length-set s.marks i empty) sound.few;
      numbers = forgotten_length s.places o ∙ sound.numbers;
      there = λ page j is.
          let was = forgotten_there s.places o page j is in
          let old = sound.there page j was.0 in
          let ne : j ≢ i = λ e. was.1 (ap (λ n. (mark_at s n).page) (sym e) ∙ old.1) in
          (rw (length-set s.marks i empty) old.0, ap (λ m. m.page) (get_or-set_other s.marks i j empty empty ne) ∙ old.1);
      back = λ j page is. elim (set_cases s.marks i j empty empty inside) [
        | inl here ↦ absurd (not_both page (mark_at (vacated s i) j).page is (ap (λ m. m.page) here.1))
        | inr other ↦
            let was : (mark_at s j).page ≡ Some page = ap (λ m. m.page) (sym other.1) ∙ is in
            let at = sound.back j page was in
            forgotten_other s.places o page (λ same. other.0 (one_of j i (place_of s page) at (sound.back i page same))) ∙ at
      ];
      zero = forgotten_none s.places o 0 sound.zero;
      blank = λ j none. elim (set_cases s.marks i j empty empty inside) [
        | inl here ↦ ap (λ m. m.stamp) here.1
        | inr other ↦ ap (λ m. m.stamp) other.1 ∙ sound.blank j (ap (λ m. m.page) (sym other.1) ∙ none)
      ];
    }

pub with_page_sound : (s : State) (i : ℕ) (page : Contents) → IsSound s → IsSound (with_page s i page)
with_page_sound s i page sound = record {
  sizes = length-set s.pages i page ∙ sound.sizes;
  few = sound.few;
  numbers = sound.numbers;
  there = sound.there;
  back = sound.back;
  zero = sound.zero;
  blank = sound.blank;
}

pub settled_sound : (s : State) (i page : ℕ) (stamp : Option ℕ) → IsSound s → i < length s.marks → (mark_at s i).page ≡ None → 1 ≤ page → page ≤ MAX_PAGES → place_of s page ≡ None
    → IsSound (settled s i page stamp)
settled_sound s i page stamp sound inside free positive small absent =
    let new : FrameMark = record { page = Some page; stamp = stamp } in
    let room : page < length s.places = omega (arith, sound.numbers) in
    record {
      sizes = sound.sizes ∙ sym (length-set s.marks i new);
      few = rw (length-set s.marks i new) sound.few;
      numbers = length-set s.places page (Some i) ∙ sound.numbers;
      there = λ q j is. elim (set_cases s.places page q (Some i) None room) [
        | inl here ↦
            let e : i ≡ j = some-injective i j (sym here.1 ∙ is) in (
              rw (length-set s.marks i new, ← e) inside,
              ap (λ n. (mark_at (settled s i page stamp) n).page) (sym e) ∙ ap (λ m. m.page) (get_or-set_same s.marks i new empty inside) ∙ ap Some (sym here.0),
            )
        | inr other ↦
            let old = sound.there q j (sym other.1 ∙ is) in
            let ne : j ≢ i = λ e. not_both q (mark_at s j).page old.1 (ap (λ n. (mark_at s n).page) e ∙ free) in
            (rw (length-set s.marks i new) old.0, ap (λ m. m.page) (get_or-set_other s.marks i j new empty ne) ∙ old.1)
      ];
      back = λ j q is. elim (set_cases s.marks i j new empty inside) [
        | inl here ↦
            let e : page ≡ q = some-injective page q (sym (ap (λ m. m.page) here.1) ∙ is) in
            ap (λ n. get_or (set s.places page (Some i)) n None) (sym e) ∙ get_or-set_same s.places page (Some i) None room ∙ ap Some (sym here.0)
        | inr other ↦
            let at = sound.back j q (ap (λ m. m.page) (sym other.1) ∙ is) in
            get_or-set_other s.places page q (Some i) None (λ e. not_both j (place_of s q) at (ap (place_of s) e ∙ absent)) ∙ at
      ];
      zero = get_or-set_other s.places page 0 (Some i) None (λ e. omega (arith, e, positive)) ∙ sound.zero;
      blank = λ j none. elim (set_cases s.marks i j new empty inside) [
        | inl here ↦ absurd (not_both page (mark_at (settled s i page stamp) j).page (ap (λ m. m.page) here.1) none)
        | inr other ↦ ap (λ m. m.stamp) other.1 ∙ sound.blank j (ap (λ m. m.page) (sym other.1) ∙ none)
      ];
    }

stamped_page : (s : State) (i j : ℕ) (stamp : Option ℕ) → i < length s.marks → (mark_at (stamped s i stamp) j).page ≡ (mark_at s j).page
stamped_page s i j stamp inside = elim (set_cases s.marks i j (record (mark_at s i) { stamp = stamp }) empty inside) [
  | inl here ↦ ap (λ m. m.page) here.1 ∙ ap (λ n. (mark_at s n).page) (sym here.0)
  | inr other ↦ ap (λ m. m.page) other.1
]

not_none : (o : Option ℕ) → IsSome o → o ≡ None → ⊥
not_none None is none = grind arith
not_none (Some n) is none = none-some n (sym none)

pub stamped_sound : (s : State) (i : ℕ) (stamp : Option ℕ) → IsSound s → i < length s.marks → IsSome (mark_at s i).page → IsSound (stamped s i stamp)
stamped_sound s i stamp sound inside there =
    let new : FrameMark = record (mark_at s i) { stamp = stamp } in
    record {
      sizes = sound.sizes ∙ sym (length-set s.marks i new);
      few = rw (length-set s.marks i new) sound.few;
      numbers = sound.numbers;
      there = λ page j is. let old = sound.there page j is in (rw (length-set s.marks i new) old.0, stamped_page s i j stamp inside ∙ old.1);
      back = λ j page is. sound.back j page (sym (stamped_page s i j stamp inside) ∙ is);
      zero = sound.zero;
      blank = λ j none. elim (set_cases s.marks i j new empty inside) [
        | inl here ↦ absurd (not_none (mark_at s i).page there (sym (ap (λ m. m.page) here.1) ∙ none))
        | inr other ↦ ap (λ m. m.stamp) other.1 ∙ sound.blank j (ap (λ m. m.page) (sym other.1) ∙ none)
      ];
    }

pub held_sound : (s : State) (held : List ℕ) → IsSound s → IsSound (record s { held = held })
held_sound s held sound = record { sizes = sound.sizes; few = sound.few; numbers = sound.numbers; there = sound.there; back = sound.back; zero = sound.zero; blank = sound.blank }

-- a page's frame is one
pub placed_inside : (s : State) (page : ℕ) (o : Option ℕ) → IsSound s → place_of s page ≡ o → IfSome o (λ i. i < length s.marks)
placed_inside s page None sound is = tt
placed_inside s page (Some i) sound is = (sound.there page i is).0

-- a frame's page has a place
pub named_inside : (s : State) (i : ℕ) (o : Option ℕ) → IsSound s → (mark_at s i).page ≡ o → IfSome o (λ page. page < length s.places)
named_inside s i None sound is = tt
named_inside s i (Some page) sound is = elim (cases_lt page (length s.places)) [
  | inl inside ↦ inside
  | inr past ↦ absurd (not_both i (place_of s page) (sound.back i page is) (get_or-eq_default s.places None past))
]

-- ---- what is kept

same_at : (s t : State) (o : Option ℕ) → ((j : ℕ) → o ≡ Some j → frame_at t j ≡ frame_at s j) → kept_at t o ≡ kept_at s o
same_at s t None same = refl
same_at s t (Some j) same = ap Some (same j refl)

-- a page whose place and frame are unchanged is kept unchanged
pub same_kept : (s t : State) (page : ℕ) → place_of t page ≡ place_of s page → ((j : ℕ) → place_of s page ≡ Some j → frame_at t j ≡ frame_at s j) → kept t page ≡ kept s page
unfolding kept
same_kept s t page place same = ap (kept_at t) place ∙ same_at s t (place_of s page) same

pub kept_none : (s : State) (page : ℕ) → place_of s page ≡ None → kept s page ≡ None
unfolding kept
kept_none s page absent = ap (kept_at s) absent

pub kept_some : (s : State) (page i : ℕ) → place_of s page ≡ Some i → kept s page ≡ Some (frame_at s i)
unfolding kept
kept_some s page i at = ap (kept_at s) at

pub some_kept : (s : State) (page i : ℕ) → place_of s page ≡ Some i → IsSome (kept s page)
some_kept s page i at = rw (kept_some s page i at) refl

true_false : (b : Bool) → b ≡ true → b ≡ false → ⊥
true_false b is not_so = grind arith

pub not_kept : (s : State) (page : ℕ) → place_of s page ≡ None → IsSome (kept s page) → ⊥
not_kept s page at there = true_false (is_some (kept s page)) there (ap is_some (kept_none s page at))

-- the contents of a page's frame are the page's
pub frame_page : (s : State) (page i : ℕ) (contents : Contents) → place_of s page ≡ Some i → contents ≡ (frame_at s i).page → IfSome (kept s page) (λ k. contents ≡ k.page)
frame_page s page i contents at is = rw (kept_some s page i at) is

page_or : Option Kept → Kept → Contents
page_or None l = l.page
page_or (Some k) l = k.page

-- and what is kept of a page is in its frame
pub kept_page : (s : State) (page i : ℕ) (k : Kept) → place_of s page ≡ Some i → kept s page ≡ Some k → (frame_at s i).page ≡ k.page
unfolding page_or
kept_page s page i k at is = ap (λ o. page_or o k) (sym (kept_some s page i at) ∙ is)

no_place : (s : State) (o : Option ℕ) → kept_at s o ≡ None → o ≡ None
no_place s None is = refl
no_place s (Some i) is = absurd (none-some (frame_at s i) (sym is))

pub place_none : (s : State) (page : ℕ) → kept s page ≡ None → place_of s page ≡ None
unfolding kept
place_none s page is = no_place s (place_of s page) is

-- a frame emptied takes its own page from what is kept, and no other
pub vacated_kept : (s : State) (i page : ℕ) → IsSound s → i < length s.marks → (mark_at s i).page ≢ Some page → kept (vacated s i) page ≡ kept s page
vacated_kept s i page sound inside other =
    same_kept s (vacated s i) page (forgotten_other s.places (mark_at s i).page page other)
    (λ j at. let old = sound.there page j at in
    let ne : j ≢ i = λ e. other (ap (λ n. (mark_at s n).page) (sym e) ∙ old.1) in
    ap (λ m. record { page = (frame_at s j).page; stamp = m.stamp }) (get_or-set_other s.marks i j empty empty ne))

pub vacated_gone : (s : State) (i page : ℕ) → (mark_at s i).page ≡ Some page → kept (vacated s i) page ≡ None
vacated_gone s i page here = kept_none (vacated s i) page (forgotten_gone s.places (mark_at s i).page page here)

-- other contents in a frame that is empty are no page's
pub loaded_kept : (s : State) (i page : ℕ) (contents : Contents) → IsSound s → (mark_at s i).page ≡ None → kept (with_page s i contents) page ≡ kept s page
loaded_kept s i page contents sound free =
    same_kept s (with_page s i contents) page refl
    (λ j at. let old = sound.there page j at in
    let ne : j ≢ i = λ e. not_both page (mark_at s j).page old.1 (ap (λ n. (mark_at s n).page) e ∙ free) in
    ap (λ p. record { page = p; stamp = (frame_at s j).stamp }) (get_or-set_other s.pages i j contents _ ne))

-- other contents in a page's frame are that page's, and no other's
pub paged_kept : (s : State) (i page : ℕ) (contents : Contents) → IsSound s → place_of s page ≡ Some i → kept (with_page s i contents) page ≡ Some (record { page = contents; stamp = (mark_at s i).stamp })
paged_kept s i page contents sound at =
    let inside : i < length s.pages = rw sound.sizes (sound.there page i at).0 in
    kept_some (with_page s i contents) page i at ∙ ap (λ p. Some (record { page = p; stamp = (mark_at s i).stamp })) (get_or-set_same s.pages i contents _ inside)

pub paged_other : (s : State) (i page other : ℕ) (contents : Contents) → IsSound s → place_of s page ≡ Some i → other ≢ page → kept (with_page s i contents) other ≡ kept s other
paged_other s i page other contents sound at ne =
    same_kept s (with_page s i contents) other refl
    (λ j there. let old = sound.there other j there in
    let apart : j ≢ i = λ e. ne (one_of other page (mark_at s i).page (ap (λ n. (mark_at s n).page) (sym e) ∙ old.1) (sound.there page i at).1) in
    ap (λ p. record { page = p; stamp = (frame_at s j).stamp }) (get_or-set_other s.pages i j contents _ apart))

-- an empty frame given to a page is that page's, and no other's
pub settled_kept : (s : State) (i page : ℕ) (stamp : Option ℕ) → IsSound s → i < length s.marks → page ≤ MAX_PAGES
    → kept (settled s i page stamp) page ≡ Some (record { page = (frame_at s i).page; stamp = stamp })
settled_kept s i page stamp sound inside small =
    let room : page < length s.places = omega (arith, sound.numbers) in
    kept_some (settled s i page stamp) page i (get_or-set_same s.places page (Some i) None room)
    ∙ ap (λ m. Some (record { page = (frame_at s i).page; stamp = m.stamp })) (get_or-set_same s.marks i _ empty inside)

pub settled_other : (s : State) (i page other : ℕ) (stamp : Option ℕ) → IsSound s → (mark_at s i).page ≡ None → other ≢ page
    → kept (settled s i page stamp) other ≡ kept s other
settled_other s i page other stamp sound free ne =
    same_kept s (settled s i page stamp) other (get_or-set_other s.places page other (Some i) None ne)
    (λ j at. let old = sound.there other j at in
    let apart : j ≢ i = λ e. not_both other (mark_at s j).page old.1 (ap (λ n. (mark_at s n).page) e ∙ free) in
    ap (λ m. record { page = (frame_at s j).page; stamp = m.stamp }) (get_or-set_other s.marks i j _ empty apart))

-- a stamp on a page's frame is that page's, and no other's
pub stamped_kept : (s : State) (i page : ℕ) (stamp : Option ℕ) → IsSound s → place_of s page ≡ Some i → kept (stamped s i stamp) page ≡ Some (record { page = (frame_at s i).page; stamp = stamp })
stamped_kept s i page stamp sound at =
    kept_some (stamped s i stamp) page i at ∙ ap (λ m. Some (record { page = (frame_at s i).page; stamp = m.stamp })) (get_or-set_same s.marks i _ empty (sound.there page i at).0)

pub stamped_other : (s : State) (i page other : ℕ) (stamp : Option ℕ) → IsSound s → place_of s page ≡ Some i → other ≢ page → kept (stamped s i stamp) other ≡ kept s other
stamped_other s i page other stamp sound at ne =
    same_kept s (stamped s i stamp) other refl
    (λ j there. let old = sound.there other j there in
    let apart : j ≢ i = λ e. ne (one_of other page (mark_at s i).page (ap (λ n. (mark_at s n).page) (sym e) ∙ old.1) (sound.there page i at).1) in
    ap (λ m. record { page = (frame_at s j).page; stamp = m.stamp }) (get_or-set_other s.marks i j _ empty apart))

-- ---- what may be written

gated_batch : (gated : ℕ) (stamp : Option ℕ) → is_gated gated stamp ≡ true → (batch : ℕ) × (stamp ≡ Some batch) × (batch ≤ gated)
gated_batch gated None is = absurd (grind arith)
gated_batch gated (Some batch) is = (batch, refl, leb-true batch gated is)

placed_writable : (s : State) (page : ℕ) (o : Option ℕ) → IsSound s → place_of s page ≡ o → is_gated s.gated (stamp_of (kept_at s o)) ≡ true
    → (k : ℕ) × (batch : ℕ) × ((mark_at s k).page ≡ Some page) × ((mark_at s k).stamp ≡ Some batch) × (batch ≤ s.gated)
placed_writable s page None sound at is = absurd (grind arith)
placed_writable s page (Some i) sound at is = let gated = gated_batch s.gated (mark_at s i).stamp is in (i, gated.0, (sound.there page i at).1, gated.1, gated.2)

-- a page that may be written has a frame, with the stamp of a gated batch
pub writable_there : (s : State) (page : ℕ) → IsSound s → IsWritable s page → (k : ℕ) × (batch : ℕ) × ((mark_at s k).page ≡ Some page) × ((mark_at s k).stamp ≡ Some batch) × (batch ≤ s.gated)
unfolding kept
writable_there s page sound is = placed_writable s page (place_of s page) sound refl is

-- a page whose changes are gated has some
pub gated_stamp : (gated : ℕ) (stamp : Option ℕ) → is_gated gated stamp ≡ true → IsSome stamp
gated_stamp gated None is = absurd (grind arith)
gated_stamp gated (Some n) is = refl

-- the frame of a page says whether it may be written
pub placed_gated : (s : State) (page i : ℕ) → place_of s page ≡ Some i → is_gated s.gated (stamp_of (kept s page)) ≡ is_gated s.gated (mark_at s i).stamp
placed_gated s page i at = ap (λ k. is_gated s.gated (stamp_of k)) (kept_some s page i at)

pub unplaced_gated : (s : State) (page : ℕ) → place_of s page ≡ None → is_gated s.gated (stamp_of (kept s page)) ≡ false
unplaced_gated s page at = ap (λ k. is_gated s.gated (stamp_of k)) (kept_none s page at)

-- ---- no page

-- one more of what a list has none but
pub one_same : {A : Type 0} → (xs : List A) (d : A) → ((k : ℕ) → get_or xs k d ≡ d) → (k : ℕ) → get_or (xs ++ d ∷ []) k d ≡ d
one_same [] d all zero = refl
one_same [] d all (suc k) = refl
one_same (x ∷ xs) d all zero = all 0
one_same (x ∷ xs) d all (suc k) = one_same xs d (λ j. all (suc j)) k

pub empty_sound : (s : State) → length s.pages ≡ length s.marks → length s.marks ≤ FRAMES → length s.places ≡ MAX_PAGES + 1 → ((k : ℕ) → mark_at s k ≡ empty) → ((k : ℕ) → place_of s k ≡ None) → IsSound s
empty_sound s sizes few numbers marks places = record {
  sizes = sizes;
  few = few;
  numbers = numbers;
  there = λ page i at. absurd (not_both i (place_of s page) at (places page));
  back = λ i page at. absurd (not_both page (mark_at s i).page at (ap (λ m. m.page) (marks i)));
  zero = places 0;
  blank = λ i none. ap (λ m. m.stamp) (marks i);
}

-- a page's frame has a page
pub has_page : (s : State) (page i : ℕ) → IsSound s → place_of s page ≡ Some i → IsSome (mark_at s i).page
has_page s page i sound at = ap is_some (sound.there page i at).1

-- ---- a change

-- a change is of its page and of no other
pub changed_kept : (s : State) (page stamp : ℕ) (contents : Contents) (k : Kept) → IsSound s → kept s page ≡ Some k
    → kept (changed s page stamp contents) page ≡ Some (record { page = contents; stamp = Some (later stamp k.stamp) })
unfolding kept
changed_kept s page stamp contents k sound is = changed_at_kept (place_of s page) refl is
  where
    changed_at_kept : (o : Option ℕ) → place_of s page ≡ o → kept_at s o ≡ Some k → kept (changed_at s o stamp contents) page ≡ Some (record { page = contents; stamp = Some (later stamp k.stamp) })
    changed_at_kept None at is = absurd (none-some k is)
    changed_at_kept (Some i) at is =
        let t : State = stamped s i (Some (later stamp (mark_at s i).stamp)) in
        paged_kept t i page contents (stamped_sound s i _ sound (sound.there page i at).0 (has_page s page i sound at)) at
        ∙ ap (λ m. Some (record { page = contents; stamp = m.stamp })) (get_or-set_same s.marks i _ empty (sound.there page i at).0)
        ∙ ap (λ o. Some (record { page = contents; stamp = Some (later stamp (stamp_of o)) })) is

pub changed_other : (s : State) (page other stamp : ℕ) (contents : Contents) → IsSound s → other ≢ page → kept (changed s page stamp contents) other ≡ kept s other
changed_other s page other stamp contents sound ne = changed_at_other (place_of s page) refl
  where
    changed_at_other : (o : Option ℕ) → place_of s page ≡ o → kept (changed_at s o stamp contents) other ≡ kept s other
    changed_at_other None at = refl
    changed_at_other (Some i) at =
        let t : State = stamped s i (Some (later stamp (mark_at s i).stamp)) in
        paged_other t i page other contents (stamped_sound s i _ sound (sound.there page i at).0 (has_page s page i sound at)) at ne ∙ stamped_other s i page other _ sound at ne

-- a change of a page that isn't kept is none
pub changed_none : (s : State) (page stamp : ℕ) (contents : Contents) → kept s page ≡ None → kept (changed s page stamp contents) page ≡ None
changed_none s page stamp contents absent = ap (λ o. kept (changed_at s o stamp contents) page) (place_none s page absent) ∙ absent

pub changed_sound : (s : State) (page stamp : ℕ) (contents : Contents) → IsSound s → IsSound (changed s page stamp contents)
changed_sound s page stamp contents sound = changed_at_sound (place_of s page) refl
  where
    changed_at_sound : (o : Option ℕ) → place_of s page ≡ o → IsSound (changed_at s o stamp contents)
    changed_at_sound None at = sound
    changed_at_sound (Some i) at =
        with_page_sound (stamped s i (Some (later stamp (mark_at s i).stamp))) i contents (stamped_sound s i _ sound (sound.there page i at).0 (has_page s page i sound at))
