-- What becomes of the pages that are kept, edit by edit, and how bringings join.
use Rattle.std.proofs.Common.{◌≡◌, ◌≢◌, ◌∙◌, sym, ap, subst, refl, ◌⊎◌, inl, inr, ⊎_elim, ℕ, zero, suc, ◌<◌, ◌≤◌, ◌+◌, List, [], ◌∷◌, Ok, Err, Result, below_more, length, get_or, take, count_by, Bool, true, false, not, ◌&&◌, Option, Some, None, IsSome, arith, get_or-set_same, length-set}
use Rattle.std.specs.Prelude.{is_none, is_some, nat_lt, IsErrAnd}
use Rattle.std.proofs.Math.Decide.{ℕ_discrete}
use Rattle.std.proofs.lemmas.Option.{none-some}
use Rattle.std.proofs.lemmas.List.{set-set}
use Rattle.std.proofs.lemmas.Bool.{lt-ltb, ltb-true}
use Rattle.gx_disk.specs.declared.layout.TheConstants.{MAX_PAGES}
use Rattle.gx_disk.specs.Device.{Device, Rests, SamePending, MayLeave}
use Rattle.gx_page.specs.Contents.{Contents}
use Rattle.gx_page.specs.Edits.{blank}
use Rattle.gx_page.specs.Reading.{IsImage, read_of}
use Rattle.gx_pool.specs.Area.{bytes_of, IsPassing}
use Rattle.gx_pool.specs.Marks.{empty, clean, is_dirty, is_held}
use Rattle.gx_pool.specs.State.{State, Kept, NoCleanLeaf, NoSpareLeaf, is_upper_at, IsSound, IsSpare, dirty_count, AllKept, NoneClean, SomeClean, mark_at, place_of, kept, frame_at, holding, stamp_of}
use Rattle.gx_pool.specs.Edits.{vacated, with_page, settled}
use Rattle.gx_pool.specs.Bringing.{AtMostGo, Brings, BringsOne, BringsAll, Answers, AnswersAll, Came, ComeAlone, ComesAlone, GoesAlone, AllOthersStayOrGo, LeavesWentFirst, OthersStayOrGo, HasImage, IsFirstMissing, Left, LeavesGoFirst, OnlyRead, missing_count}
use Rattle.gx_pool.specs.declared.fault.PoolFault.{PoolFault}
use Rattle.gx_pool.specs.declared.fault.PoolFault.TheVariants.{NoCleanFrame, Device as DeviceFault, Damaged}
use Rattle.gx_pool.proofs.Places.{some-injective, vacated_sound, with_page_sound, vacated_kept, vacated_gone, loaded_kept, settled_kept, settled_other, place_none, kept_none, kept_page, kept_some}
use Rattle.gx_pool.proofs.Going.{goes_all, goes_next, none_goes}
use Rattle.gx_pool.proofs.Numbers.{still_clean}

true_false : (b : Bool) → b ≡ true → b ≡ false → ⊥
true_false b is not_so = grind arith

clean_parts : (stamp : Option ℕ) (held : Bool) → (is_none stamp && not held) ≡ true → (stamp ≡ None) × (held ≡ false)
clean_parts None false is = (refl, refl)
clean_parts None true is = grind arith
clean_parts (Some n) held is = grind arith

-- a clean frame has no stamp
pub clean_stamp : (s : State) (i : ℕ) → clean s.held (mark_at s i) ≡ true → (mark_at s i).stamp ≡ None
clean_stamp s i is = (clean_parts (mark_at s i).stamp (is_held s.held (mark_at s i).page) is).0

-- the page of a clean frame is spare
pub spare : (s : State) (i page : ℕ) → IsSound s → clean s.held (mark_at s i) ≡ true → (mark_at s i).page ≡ Some page → IsSpare s page
spare s i page sound is here =
    let parts = clean_parts (mark_at s i).stamp (is_held s.held (mark_at s i).page) is in
    record {
      clean = ap stamp_of (kept_some s page i (sound.back i page here)) ∙ parts.0;
      free = ap (is_held s.held) (sym here) ∙ parts.1;
    }

pub is_some_page : (o : Option ℕ) (page : ℕ) → (o ≡ Some page) ⊎ (o ≢ Some page)
is_some_page None page = inr (λ e. none-some page e)
is_some_page (Some q) page = elim (ℕ_discrete q page) [
  | yes e ↦ inl (ap Some e)
  | no ne ↦ inr (λ e. ne (some-injective q page e))
]

-- a clean frame is emptied
pub vacated_brings : (passes : Contents → Bool) (d : Bool) (seen : List ℕ) (s : State) (i : ℕ) → IsSound s → i < length s.marks → clean s.held (mark_at s i) ≡ true → Brings passes d seen s (vacated s i)
vacated_brings passes d seen s i sound inside is = record {
  fates = λ page. elim (is_some_page (mark_at s i).page page) [
    | inl here ↦ inr (inl (record { was = spare s i page sound is here; is = vacated_gone s i page here }))
    | inr other ↦ inl (vacated_kept s i page sound inside other)
  ];
  dirty = still_clean s i empty inside (clean_stamp s i is) refl;
  held = refl;
  gated = refl;
  frames = length-set s.marks i empty;
}

-- a bringing after which the same is kept in other frames is one
pub brings_same : (passes : Contents → Bool) (d : Bool) (seen : List ℕ) (s t u : State) → Brings passes d seen s t → ((page : ℕ) → kept u page ≡ kept t page)
    → dirty_count u ≡ dirty_count t → u.held ≡ t.held → u.gated ≡ t.gated → length u.marks ≡ length t.marks → Brings passes d seen s u
brings_same passes d seen s t u first same dirty held gated frames = record {
  fates = λ page. ⊎_elim (λ is. inl (same page ∙ is)) (λ rest. inr (⊎_elim
      (λ left. inl (record { was = left.was; is = same page ∙ left.is }))
      (λ came. inr (record { contents = came.contents; was = came.was; is = same page ∙ came.is; number = came.number; passing = came.passing; backed = came.backed }))
      rest)) (first.fates page);
  dirty = dirty ∙ first.dirty;
  held = held ∙ first.held;
  gated = gated ∙ first.gated;
  frames = frames ∙ first.frames;
}

pub vacated_free : (s : State) (i : ℕ) → i < length s.marks → (mark_at (vacated s i) i).page ≡ None
vacated_free s i inside = ap (λ m. m.page) (get_or-set_same s.marks i empty empty inside)

-- a frame that was emptied is clean
vacated_clean : (s : State) (i : ℕ) → i < length s.marks → SomeClean (vacated s i)
vacated_clean s i inside = (i, rw (length-set s.marks i empty) inside, ap (clean s.held) (get_or-set_same s.marks i empty empty inside))

pub not_both_clean : (s : State) → NoneClean s → SomeClean s → ⊥
not_both_clean s none some = true_false (clean s.held (mark_at s some.0)) some.2 (none some.0 some.1)

-- and an image is read into it
pub loaded_brings : (passes : Contents → Bool) (d : Bool) (seen : List ℕ) (s : State) (i : ℕ) (w : Contents) → IsSound s → i < length s.marks → clean s.held (mark_at s i) ≡ true
    → Brings passes d seen s (with_page (vacated s i) i w)
loaded_brings passes d seen s i w sound inside is =
    brings_same passes d seen s (vacated s i) (with_page (vacated s i) i w) (vacated_brings passes d seen s i sound inside is)
    (λ page. loaded_kept (vacated s i) i page w (vacated_sound s i sound inside) (vacated_free s i inside)) refl refl refl refl

-- a page that wasn't kept has no frame then
still_absent : (s : State) (i page : ℕ) → IsSound s → i < length s.marks → kept s page ≡ None → kept (vacated s i) page ≡ None
still_absent s i page sound inside absent = elim (is_some_page (mark_at s i).page page) [
  | inl here ↦ vacated_gone s i page here
  | inr other ↦ vacated_kept s i page sound inside other ∙ absent
]

pub vacated_alone : (s : State) (i page : ℕ) → IsSound s → i < length s.marks → ComesAlone s (vacated s i) page
vacated_alone s i page sound inside = λ q ne absent. still_absent s i q sound inside absent

pub vacated_missing : (s : State) (i page : ℕ) → IsSound s → i < length s.marks → kept s page ≡ None → (kept (vacated s i) page ≡ None) × SomeClean (vacated s i)
vacated_missing s i page sound inside absent = (still_absent s i page sound inside absent, vacated_clean s i inside)

loaded_missing_page : (s : State) (i page : ℕ) (w : Contents) → IsSound s → i < length s.marks → kept s page ≡ None → kept (with_page (vacated s i) i w) page ≡ None
loaded_missing_page s i page w sound inside absent =
    loaded_kept (vacated s i) i page w (vacated_sound s i sound inside) (vacated_free s i inside) ∙ still_absent s i page sound inside absent

pub loaded_alone : (s : State) (i page : ℕ) (w : Contents) → IsSound s → i < length s.marks → ComesAlone s (with_page (vacated s i) i w) page
loaded_alone s i page w sound inside = λ q ne absent. loaded_missing_page s i q w sound inside absent

pub loaded_missing : (s : State) (i page : ℕ) (w : Contents) → IsSound s → i < length s.marks → kept s page ≡ None
    → (kept (with_page (vacated s i) i w) page ≡ None) × SomeClean (with_page (vacated s i) i w)
loaded_missing s i page w sound inside absent = (loaded_missing_page s i page w sound inside absent, vacated_clean s i inside)

pub loaded_absent : (s : State) (i page : ℕ) (w : Contents) → IsSound s → i < length s.marks → kept s page ≡ None → place_of (with_page (vacated s i) i w) page ≡ None
loaded_absent s i page w sound inside absent = place_none (vacated s i) page (still_absent s i page sound inside absent)

pub settled_alone : (s t u : State) (i page : ℕ) (stamp : Option ℕ) (w : Contents) → IsSound s → i < length s.marks → t ≡ with_page (vacated s i) i w → u ≡ settled t i page stamp
    → ComesAlone s u page
settled_alone s t u i page stamp w sound inside te ue = λ q ne absent.
    rw (ue, te) (settled_other (with_page (vacated s i) i w) i page q stamp (with_page_sound (vacated s i) i w (vacated_sound s i sound inside)) (vacated_free s i inside) ne
    ∙ loaded_missing_page s i q w sound inside absent)

-- ---- which page goes

-- no page goes but the frame's
pub vacated_goes : (s : State) (i : ℕ) → IsSound s → i < length s.marks → GoesAlone s (vacated s i) i
vacated_goes s i sound inside = λ q k was gone. elim (is_some_page (mark_at s i).page q) [
  | inl here ↦ here
  | inr other ↦ absurd (none-some k (sym gone ∙ vacated_kept s i q sound inside other ∙ was))
]

pub loaded_goes : (s : State) (i : ℕ) (w : Contents) → IsSound s → i < length s.marks → GoesAlone s (with_page (vacated s i) i w) i
loaded_goes s i w sound inside = λ q k was gone. vacated_goes s i sound inside q k was (sym (loaded_kept (vacated s i) i q w (vacated_sound s i sound inside) (vacated_free s i inside)) ∙ gone)

pub settled_goes : (s t u : State) (i page : ℕ) (stamp : Option ℕ) (w : Contents) → IsSound s → i < length s.marks → page ≤ MAX_PAGES → t ≡ with_page (vacated s i) i w → u ≡ settled t i page stamp → GoesAlone s u i
settled_goes s t u i page stamp w sound inside small te ue =
    let v : State = with_page (vacated s i) i w in
    let whole : IsSound v = with_page_sound (vacated s i) i w (vacated_sound s i sound inside) in
    let there : i < length v.marks = rw (length-set s.marks i empty) inside in
    let same : u ≡ settled v i page stamp = ue ∙ ap (λ x. settled x i page stamp) te in
    λ q k was gone. elim (ℕ_discrete q page) [
      | yes e ↦ absurd (none-some _ (sym gone ∙ ap (kept u) e ∙ ap (λ x. kept x page) same ∙ settled_kept v i page stamp whole there small))
      | no ne ↦ loaded_goes s i w sound inside q k was (sym (settled_other v i page q stamp whole (vacated_free s i inside) ne) ∙ ap (λ x. kept x q) (sym same) ∙ gone)
    ]

page_of : Option Kept → Contents
page_of None = blank 0 0
page_of (Some k) = k.page

upper_here : (s : State) (i q : ℕ) (k : Kept) → IsSound s → (mark_at s i).page ≡ Some q → kept s q ≡ Some k → 0 < k.page.level → is_upper_at s i ≡ true
unfolding page_of
upper_here s i q k sound here was upper =
    let same : (frame_at s i).page ≡ k.page = ap page_of (sym (kept_some s q i (sound.back i q here)) ∙ was) in
    ap (λ o. is_some o && nat_lt 0 (frame_at s i).page.level) here ∙ ap (λ (c : Contents). nat_lt 0 c.level) same ∙ lt-ltb 0 k.page.level upper

both_true : (a b : Bool) → (a && b) ≡ true → b ≡ true
both_true true b is = is
both_true false b is = absurd (grind arith)

-- if each clean frame has a page above the leaves, no leaf may go
spare_upper : (s : State) (page : ℕ) (k : Kept) (o : Option ℕ) → IsSound s → place_of s page ≡ o → kept s page ≡ Some k → IsSpare s page → NoCleanLeaf s → 0 < k.page.level
spare_upper s page k None sound at is may none = absurd (none-some k (sym (kept_none s page at) ∙ is))
spare_upper s page k (Some i) sound at is may none =
    let there = sound.there page i at in
    let stamp : (mark_at s i).stamp ≡ None = ap stamp_of (sym (kept_some s page i at)) ∙ may.clean in
    let free : is_held s.held (mark_at s i).page ≡ false = ap (is_held s.held) there.1 ∙ may.free in
    let clean_is : clean s.held (mark_at s i) ≡ true = ap (λ o. is_none o && not (is_held s.held (mark_at s i).page)) stamp ∙ ap not free in
    let upper : nat_lt 0 (frame_at s i).page.level ≡ true = both_true (is_some (mark_at s i).page) (nat_lt 0 (frame_at s i).page.level) (none i there.0 clean_is) in
    ltb-true 0 k.page.level (ap (λ (c : Contents). nat_lt 0 c.level) (sym (kept_page s page i k at is)) ∙ upper)

no_spare_leaf : (s : State) → IsSound s → NoCleanLeaf s → NoSpareLeaf s
no_spare_leaf s sound none = λ page k is may. spare_upper s page k (place_of s page) sound refl is may none

-- if the frame's page alone goes, and it is above the leaves only if no leaf could, leaves go first
pub first_leaves : (s t : State) (i : ℕ) → IsSound s → GoesAlone s t i → (is_upper_at s i ≡ true → NoCleanLeaf s) → LeavesGoFirst s t
first_leaves s t i sound alone none = λ q k was gone upper. let none_is = none (upper_here s i q k sound (alone q k was gone) was upper) in (none_is, no_spare_leaf s sound none_is)

-- each other page is unchanged, or goes
pub vacated_others : (s : State) (i page : ℕ) → IsSound s → i < length s.marks → OthersStayOrGo s (vacated s i) page
vacated_others s i page sound inside = λ q ne. elim (is_some_page (mark_at s i).page q) [
  | inl here ↦ inr (vacated_gone s i q here)
  | inr other ↦ inl (vacated_kept s i q sound inside other)
]

pub loaded_others : (s : State) (i page : ℕ) (w : Contents) → IsSound s → i < length s.marks → OthersStayOrGo s (with_page (vacated s i) i w) page
loaded_others s i page w sound inside = λ q ne.
    let same = loaded_kept (vacated s i) i q w (vacated_sound s i sound inside) (vacated_free s i inside) in
    ⊎_elim (λ is. inl (same ∙ is)) (λ gone. inr (same ∙ gone)) (vacated_others s i page sound inside q ne)

pub settled_others : (s t u : State) (i page : ℕ) (stamp : Option ℕ) (w : Contents) → IsSound s → i < length s.marks → t ≡ with_page (vacated s i) i w → u ≡ settled t i page stamp → OthersStayOrGo s u page
settled_others s t u i page stamp w sound inside te ue =
    let v : State = with_page (vacated s i) i w in
    let is_settled : u ≡ settled v i page stamp = ue ∙ ap (λ x. settled x i page stamp) te in
    λ q ne.
    let same : kept u q ≡ kept v q = ap (λ x. kept x q) is_settled ∙ settled_other v i page q stamp (with_page_sound (vacated s i) i w (vacated_sound s i sound inside)) (vacated_free s i inside) ne in
    ⊎_elim (λ is. inl (same ∙ is)) (λ gone. inr (same ∙ gone)) (loaded_others s i page w sound inside q ne)

pub loaded_page : (s : State) (i : ℕ) (w : Contents) → IsSound s → i < length s.marks → (frame_at (with_page (vacated s i) i w) i).page ≡ w
loaded_page s i w sound inside = get_or-set_same s.pages i w (blank 0 0) (rw sound.sizes inside)

-- and the frame is the page's
pub admitted_kept : (s : State) (i page : ℕ) (w : Contents) → IsSound s → i < length s.marks → page ≤ MAX_PAGES
    → kept (settled (with_page (vacated s i) i w) i page None) page ≡ Some (record { page = w; stamp = None })
admitted_kept s i page w sound inside small =
    let t : State = with_page (vacated s i) i w in
    let there : i < length t.marks = rw (length-set s.marks i empty) inside in
    settled_kept t i page None (with_page_sound (vacated s i) i w (vacated_sound s i sound inside)) there small
    ∙ ap (λ c. Some (record { page = c; stamp = None })) (loaded_page s i w sound inside)

pub admitted_brings : (passes : Contents → Bool) (d : Bool) (seen : List ℕ) (s : State) (i page : ℕ) (w : Contents) → IsSound s → i < length s.marks → clean s.held (mark_at s i) ≡ true
    → page ≤ MAX_PAGES → kept s page ≡ None → w.number ≡ page → passes w ≡ true → (d ≡ true → HasImage (bytes_of seen page) w)
    → Brings passes d seen s (settled (with_page (vacated s i) i w) i page None)
admitted_brings passes d seen s i page w sound inside is small absent number passing backed =
    let t : State = with_page (vacated s i) i w in
    let first : Brings passes d seen s t = loaded_brings passes d seen s i w sound inside is in
    let whole : IsSound t = with_page_sound (vacated s i) i w (vacated_sound s i sound inside) in
    let free : (mark_at t i).page ≡ None = vacated_free s i inside in
    record {
      fates = λ q. elim (ℕ_discrete q page) [
        | yes e ↦ inr (inr (record {
          contents = w;
          was = inl (ap (kept s) e ∙ absent);
          is = ap (kept (settled t i page None)) e ∙ admitted_kept s i page w sound inside small;
          number = number ∙ sym e;
          passing = passing;
          backed = λ honest. subst {A = ℕ} (λ n. HasImage (bytes_of seen n) w) (sym e) (backed honest);
        }))
        | no ne ↦
            let same : kept (settled t i page None) q ≡ kept t q = settled_other t i page q None whole free ne in
            ⊎_elim (λ is. inl (same ∙ is)) (λ rest. inr (⊎_elim
            (λ left. inl (record { was = left.was; is = same ∙ left.is }))
            (λ came. inr (record { contents = came.contents; was = came.was; is = same ∙ came.is; number = came.number; passing = came.passing; backed = came.backed }))
            rest)) (first.fates q)
      ];
      dirty = ap (count_by is_dirty) (set-set s.marks i empty _) ∙ still_clean s i _ inside (clean_stamp s i is) refl;
      held = refl;
      gated = refl;
      frames = length-set (vacated s i).marks i _ ∙ length-set s.marks i empty;
    }

image_read : (bytes buffer : List ℕ) → bytes ≡ buffer → IsImage buffer → HasImage bytes (read_of buffer)
image_read bytes buffer e image = rw e (record { image = image; read = refl })

-- a frame emptied, an image read into it, and the frame given to its page
pub admitted : (passes : Contents → Bool) (d : Bool) (seen buffer : List ℕ) (s t u : State) (i page : ℕ) → IsSound s → i < length s.marks → clean s.held (mark_at s i) ≡ true
    → page ≤ MAX_PAGES → kept s page ≡ None → t ≡ with_page (vacated s i) i (read_of buffer) → u ≡ settled t i page None
    → (frame_at t i).page.number ≡ page → passes (frame_at t i).page ≡ true → IsImage buffer → (d ≡ true → bytes_of seen page ≡ buffer)
    → Brings passes d seen s u
admitted passes d seen buffer s t u i page sound inside is small absent te ue number passing image read =
    let w : Contents = read_of buffer in
    let there : (frame_at t i).page ≡ w = ap (λ v. (frame_at v i).page) te ∙ loaded_page s i w sound inside in
    rw (ue, te) (admitted_brings passes d seen s i page w sound inside is small absent (ap (λ c. c.number) (sym there) ∙ number) (ap passes (sym there) ∙ passing)
    (λ honest. image_read (bytes_of seen page) buffer (read honest) image))

pub admitted_there : (s t u : State) (w : Contents) (i page : ℕ) → IsSound s → i < length s.marks → page ≤ MAX_PAGES → t ≡ with_page (vacated s i) i w → u ≡ settled t i page None → IsSome (kept u page)
admitted_there s t u w i page sound inside small te ue = rw (ue, te, admitted_kept s i page w sound inside small) refl

-- ---- runs of bringings

pub brings_nothing : (passes : Contents → Bool) (d : Bool) (seen : List ℕ) (s : State) → Brings passes d seen s s
brings_nothing passes d seen s = record { fates = λ page. inl refl; dirty = refl; held = refl; gated = refl; frames = refl }

-- what is spare is so by what is kept and held
spare_same : (s t : State) (page : ℕ) → kept t page ≡ kept s page → t.held ≡ s.held → IsSpare t page → IsSpare s page
spare_same s t page same held is = record {
  clean = ap stamp_of (sym same) ∙ is.clean;
  free = ap (λ pages. is_held pages (Some page)) (sym held) ∙ is.free;
}

Fate : (Contents → Bool) → Bool → List ℕ → State → State → ℕ → Type 0
Fate passes d seen s t page = (kept t page ≡ kept s page) ⊎ (Left s t page ⊎ Came passes d seen s t page)

fates_joined : (passes : Contents → Bool) (d : Bool) (seen : List ℕ) (s t u : State) (page : ℕ) → t.held ≡ s.held → Fate passes d seen s t page → Fate passes d seen t u page → Fate passes d seen s u page
unfolding Fate
fates_joined passes d seen s t u page held (inl same) (inl next) = inl (next ∙ same)
fates_joined passes d seen s t u page held (inl same) (inr (inl left)) = inr (inl (record { was = spare_same s t page same held left.was; is = left.is }))
fates_joined passes d seen s t u page held (inl same) (inr (inr came)) = inr (inr (record {
  contents = came.contents;
  was = ⊎_elim (λ absent. inl (sym same ∙ absent)) (λ is. inr (spare_same s t page same held is)) came.was;
  is = came.is;
  number = came.number;
  passing = came.passing;
  backed = came.backed;
}))
fates_joined passes d seen s t u page held (inr (inl left)) (inl next) = inr (inl (record { was = left.was; is = next ∙ left.is }))
fates_joined passes d seen s t u page held (inr (inl left)) (inr (inl again)) = inr (inl (record { was = left.was; is = again.is }))
fates_joined passes d seen s t u page held (inr (inl left)) (inr (inr came)) = inr (inr (record {
  contents = came.contents;
  was = inr left.was;
  is = came.is;
  number = came.number;
  passing = came.passing;
  backed = came.backed;
}))
fates_joined passes d seen s t u page held (inr (inr came)) (inl next) = inr (inr (record {
  contents = came.contents;
  was = came.was;
  is = next ∙ came.is;
  number = came.number;
  passing = came.passing;
  backed = came.backed;
}))
fates_joined passes d seen s t u page held (inr (inr came)) (inr (inl left)) = ⊎_elim (λ absent. inl (left.is ∙ sym absent)) (λ spare. inr (inl (record { was = spare; is = left.is }))) came.was
fates_joined passes d seen s t u page held (inr (inr came)) (inr (inr again)) = inr (inr (record {
  contents = again.contents;
  was = came.was;
  is = again.is;
  number = again.number;
  passing = again.passing;
  backed = again.backed;
}))

-- one bringing and then another, of a device that reads the same
pub brings_joined : (passes : Contents → Bool) (d e : Bool) (seen next : List ℕ) (s t u : State) → e ≡ d → (d ≡ true → next ≡ seen) → Brings passes d seen s t → Brings passes e next t u → Brings passes d seen s u
unfolding Fate
brings_joined passes d e seen next s t u same reads first then = record {
  fates = λ page.
      let later : Fate passes d seen t u page = ⊎_elim inl (λ rest. inr (⊎_elim inl (λ came. inr (record {
        contents = came.contents;
        was = came.was;
        is = came.is;
        number = came.number;
        passing = came.passing;
        backed = λ honest. subst {A = List ℕ} (λ bytes. HasImage (bytes_of bytes page) came.contents) (reads honest) (came.backed (same ∙ honest));
      })) rest)) (then.fates page) in
      fates_joined passes d seen s t u page first.held (first.fates page) later;
  dirty = then.dirty ∙ first.dirty;
  held = then.held ∙ first.held;
  gated = then.gated ∙ first.gated;
  frames = then.frames ∙ first.frames;
}

pub only_read_nothing : (d : Device) → OnlyRead d d
only_read_nothing d = record {
  sectors = refl;
  honest = refl;
  calls = refl;
  rests = λ honest. record { seen = refl; settled = λ s was. was };
  pending = λ honest s. refl;
  time = λ honest. record { later = omega arith; only = λ t image le left. inl left; keeps = λ t image le left. left };
}

may_leave_same : (d e : Device) → Rests d e → SamePending d e → (image : List ℕ) → MayLeave d image → MayLeave e image
may_leave_same d e rests pending image may = record {
  size = rw rests.seen may.size;
  settled = λ s was. rw rests.seen (may.settled s (sym (pending s) ∙ was));
}

pub only_read_joined : (c d e : Device) → OnlyRead c d → OnlyRead d e → OnlyRead c e
only_read_joined c d e first next = record {
  sectors = next.sectors ∙ first.sectors;
  honest = next.honest ∙ first.honest;
  calls = next.calls ∙ first.calls;
  rests = λ honest. let then : d.honest ≡ true = first.honest ∙ honest in record {
    seen = (next.rests then).seen ∙ (first.rests honest).seen;
    settled = λ s was. (next.rests then).settled s ((first.rests honest).settled s was);
  };
  pending = λ honest s. next.pending (first.honest ∙ honest) s ∙ first.pending honest s;
  time = λ honest.
      let then : d.honest ≡ true = first.honest ∙ honest in
      let one = first.time honest in
      let two = next.time then in
      record {
        later = omega (arith, one.later, two.later);
        only = λ t image le left. ⊎_elim (λ was. ⊎_elim inl (λ may. inr (may_leave_same d e (next.rests then) (next.pending then) image may)) (one.only t image le was)) inr
            (two.only t image (omega (arith, le, one.later)) left);
        keeps = λ t image le left. two.keeps t image (omega (arith, le, one.later)) (one.keeps t image le left);
      };
}

-- a held page that is kept stays
pub held_stays : (passes : Contents → Bool) (d : Bool) (seen : List ℕ) (s t : State) (page : ℕ) → Brings passes d seen s t → is_held s.held (Some page) ≡ true → IsSome (kept s page) → IsSome (kept t page)
held_stays passes d seen s t page first held there = ⊎_elim (λ same. rw same there) (λ rest. ⊎_elim
    (λ left. absurd (true_false (is_held s.held (Some page)) held left.was.free))
    (λ came. rw came.is refl) rest) (first.fates page)

-- a held page that isn't kept wasn't
pub held_absent : (passes : Contents → Bool) (d : Bool) (seen : List ℕ) (s t : State) (page : ℕ) → Brings passes d seen s t → is_held s.held (Some page) ≡ true → kept t page ≡ None → kept s page ≡ None
held_absent passes d seen s t page first held absent = ⊎_elim (λ same. sym same ∙ absent) (λ rest. ⊎_elim
    (λ left. absurd (true_false (is_held s.held (Some page)) held left.was.free))
    (λ came. absurd (none-some _ (sym absent ∙ came.is))) rest) (first.fates page)

-- a page of a list is among those held
among : (page : ℕ) (pages : List ℕ) (k : ℕ) → k < length pages → get_or pages k 0 ≡ page → is_held pages (Some page) ≡ true
among page [] k inside is = absurd (omega arith)
among page (x ∷ pages) zero inside is = grind arith
among page (x ∷ pages) (suc k) inside is = let rest : is_held pages (Some page) ≡ true = among page pages k (omega arith) is in grind arith

-- some of the pages were brought
pub record BringsSome (passes : Contents → Bool) (d e : Device) (s t : State) (pages : List ℕ) (n : ℕ) : Type 0 where
  pub brings : Brings passes d.honest d.seen s t
  pub alone : ComeAlone s t pages
  pub first : LeavesWentFirst s t
  pub others : AllOthersStayOrGo s t pages
  pub few : AtMostGo s t (missing_count s (take n pages))
  pub only_read : OnlyRead d e
  pub faults : e.faults ≡ d.faults
  pub there : (k : ℕ) → k < n → IsSome (kept t (get_or pages k 0))

pub none_brought : (passes : Contents → Bool) (d : Device) (s t : State) (pages : List ℕ) → t ≡ s → BringsSome passes d d s t pages 0
none_brought passes d s t pages e =
    rw e (record { brings = brings_nothing passes d.honest d.seen s; alone = λ q apart absent. absent; first = λ q k was gone. absurd (none-some k (sym gone ∙ was)); others = λ q apart. inl refl; few = none_goes s s _ refl; only_read = only_read_nothing d; faults = refl; there = λ k below. absurd (omega arith) })

other_page : (q page : ℕ) (pages : List ℕ) → is_held pages (Some q) ≡ false → is_held pages (Some page) ≡ true → q ≢ page
other_page q page pages apart held = λ e. true_false (is_held pages (Some page)) held (ap (λ p. is_held pages (Some p)) (sym e) ∙ apart)

-- one page of several more came, and no other
come_alone : (s t u : State) (pages : List ℕ) (page : ℕ) → is_held pages (Some page) ≡ true → ComeAlone s t pages → ComesAlone t u page → ComeAlone s u pages
come_alone s t u pages page held first next = λ q apart absent. next q (other_page q page pages apart held) (first q apart absent)

-- each page but these is kept unchanged or goes, once one more is brought
others_stay : (s t u : State) (pages : List ℕ) (page : ℕ) → is_held pages (Some page) ≡ true → AllOthersStayOrGo s t pages → OthersStayOrGo t u page → AllOthersStayOrGo s u pages
others_stay s t u pages page held first next = λ q apart. ⊎_elim
    (λ is. ⊎_elim (λ same. inl (is ∙ same)) (λ gone. inr (is ∙ gone)) (first q apart))
    inr
    (next q (other_page q page pages apart held))

-- a page that went before another is brought is gone after it
still_gone : (t u : State) (page r : ℕ) → r ≢ page → OthersStayOrGo t u page → kept t r ≡ None → kept u r ≡ None
still_gone t u page r ne next gone = ⊎_elim (λ same. same ∙ gone) (λ is. is) (next r ne)

not_leaf : (level : ℕ) → 0 < level → level ≡ 0 → ⊥
not_leaf level upper leaf = omega (arith, upper, leaf)

-- if one of these pages above the leaves goes as one more is brought, no leaf may, and what might have before is gone
leaf_gone : (s t u : State) (pages : List ℕ) (page r : ℕ) (l : Kept) → s.held ≡ pages → t.held ≡ s.held → is_held pages (Some page) ≡ true → AllOthersStayOrGo s t pages → OthersStayOrGo t u page → NoSpareLeaf t
    → kept s r ≡ Some l → IsSpare s r → l.page.level ≡ 0 → kept u r ≡ None
leaf_gone s t u pages page r l held held_t named first next none is may leaf =
    let apart : is_held pages (Some r) ≡ false = ap (λ h. is_held h (Some r)) (sym held) ∙ may.free in
    ⊎_elim
    (λ same. absurd (not_leaf l.page.level (none r l (same ∙ is) (record { clean = ap stamp_of same ∙ may.clean; free = ap (λ h. is_held h (Some r)) held_t ∙ may.free })) leaf))
    (λ gone. still_gone t u page r (other_page r page pages apart named) next gone)
    (first r apart)

leaves_went : (passes : Contents → Bool) (d : Bool) (seen : List ℕ) (s t u : State) (pages : List ℕ) (page q : ℕ) (k : Kept) (o : Option Kept) (h : Bool) → s.held ≡ pages → is_held pages (Some page) ≡ true → t.held ≡ s.held
    → LeavesWentFirst s t → AllOthersStayOrGo s t pages → Brings passes d seen t u → LeavesGoFirst t u → OthersStayOrGo t u page
    → kept t q ≡ o → is_held pages (Some q) ≡ h → kept s q ≡ Some k → kept u q ≡ None → 0 < k.page.level
    → (r : ℕ) (l : Kept) → kept s r ≡ Some l → IsSpare s r → l.page.level ≡ 0 → kept u r ≡ None
leaves_went passes d seen s t u pages page q k None h held named held_t went first brings goes next at hold was gone upper = λ r l is may leaf.
    still_gone t u page r (other_page r page pages (ap (λ x. is_held x (Some r)) (sym held) ∙ may.free) named) next (went q k was at upper r l is may leaf)
leaves_went passes d seen s t u pages page q k (Some m) true held named held_t went first brings goes next at hold was gone upper =
    let stays : IsSome (kept u q) = held_stays passes d seen t u q brings (ap (λ x. is_held x (Some q)) (held_t ∙ held) ∙ hold) (ap is_some at) in
    absurd (true_false (is_some (kept u q)) stays (ap is_some gone))
leaves_went passes d seen s t u pages page q k (Some m) false held named held_t went first brings goes next at hold was gone upper = λ r l is may leaf. ⊎_elim
    (λ same. leaf_gone s t u pages page r l held held_t named first next (goes q k (same ∙ was) gone upper).1 is may leaf)
    (λ none. absurd (none-some m (sym none ∙ at)))
    (first q hold)

leaves_went_first : (passes : Contents → Bool) (d : Bool) (seen : List ℕ) (s t u : State) (pages : List ℕ) (page : ℕ) → s.held ≡ pages → is_held pages (Some page) ≡ true → t.held ≡ s.held
    → LeavesWentFirst s t → AllOthersStayOrGo s t pages → Brings passes d seen t u → LeavesGoFirst t u → OthersStayOrGo t u page → LeavesWentFirst s u
leaves_went_first passes d seen s t u pages page held named held_t went first brings goes next = λ q k was gone upper.
    leaves_went passes d seen s t u pages page q k (kept t q) (is_held pages (Some q)) held named held_t went first brings goes next refl refl was gone upper

-- those before stay while one more is brought
before_stay : (passes : Contents → Bool) (d : Bool) (seen : List ℕ) (t u : State) (pages : List ℕ) (n : ℕ) → t.held ≡ pages → n < length pages → Brings passes d seen t u
    → ((k : ℕ) → k < n → IsSome (kept t (get_or pages k 0))) → (k : ℕ) → k < n → IsSome (kept u (get_or pages k 0))
before_stay passes d seen t u pages n held inside next there =
    λ k below. held_stays passes d seen t u (get_or pages k 0) next (ap (λ h. is_held h (Some (get_or pages k 0))) held ∙ among (get_or pages k 0) pages k (omega arith) refl) (there k below)

-- and one more
pub one_more : (passes : Contents → Bool) (d e f : Device) (s t u : State) (pages : List ℕ) (n : ℕ) (page : ℕ) → s.held ≡ pages → n < length pages → page ≡ get_or pages n 0
    → BringsSome passes d e s t pages n → BringsOne {A = Unit {0}} passes e f t u page (Ok tt) → BringsSome passes d f s u pages (n + 1)
one_more passes d e f s t u pages n page held inside is some one = record {
  brings = brings_joined passes d.honest e.honest d.seen e.seen s t u some.only_read.honest (λ honest. (some.only_read.rests honest).seen) some.brings one.brings;
  alone = come_alone s t u pages page (among page pages n inside (sym is)) some.alone one.alone;
  first = leaves_went_first passes e.honest e.seen s t u pages page held (among page pages n inside (sym is)) some.brings.held some.first some.others one.brings one.first one.others;
  others = others_stay s t u pages page (among page pages n inside (sym is)) some.others one.others;
  few = goes_next s t u pages n page inside is (held_absent passes d.honest d.seen s t page some.brings (ap (λ h. is_held h (Some page)) held ∙ among page pages n inside (sym is))) some.few one.few;
  only_read = only_read_joined d e f some.only_read one.only_read;
  faults = omega (arith, one.faults, some.faults);
  there = below_more _ n (before_stay passes e.honest e.seen t u pages n (some.brings.held ∙ held) inside one.brings some.there) (rw (← is) one.answer);
}

first_missing : (u : State) (pages : List ℕ) (n page : ℕ) → n < length pages → page ≡ get_or pages n 0 → ((k : ℕ) → k < n → IsSome (kept u (get_or pages k 0))) → kept u page ≡ None
    → IsFirstMissing u pages n
first_missing u pages n page inside is before missing = record { inside = inside; before = before; missing = rw (← is) missing }

answers_all : (passes : Contents → Bool) (d e : Device) (s t u : State) (pages : List ℕ) (n : ℕ) (page : ℕ) (fault : PoolFault) → s.held ≡ pages → n < length pages → page ≡ get_or pages n 0
    → Brings passes d.honest d.seen s t → e.honest ≡ d.honest → (d.honest ≡ true → e.seen ≡ d.seen) → ((k : ℕ) → k < n → IsSome (kept u (get_or pages k 0)))
    → Answers {A = Unit {0}} passes e t u page (Err fault) → AnswersAll {A = Unit {0}} passes d s u pages (Err fault)
answers_all passes d e s t u pages n page NoCleanFrame held inside is first same reads before answer =
    (n, first_missing u pages n page inside is before (ap (λ v. kept v page) answer.same ∙ answer.missing), subst {A = State} NoneClean (sym answer.same) answer.full)
answers_all passes d e s t u pages n page DeviceFault held inside is first same reads before answer =
    (n, first_missing u pages n page inside is before (ap (λ v. kept v page) answer.same ∙ answer.missing), subst {A = State} SomeClean (sym answer.same) answer.room)
answers_all passes d e s t u pages n page Damaged held inside is first same reads before answer = (
  n,
  first_missing u pages n page inside is before answer.absent,
  rw (← is) (
    answer.left,
    held_absent passes d.honest d.seen s t page first (ap (λ h. is_held h (Some page)) held ∙ among page pages n inside (sym is)) answer.missing,
    λ honest. subst {A = List ℕ} (λ seen. ¬ IsPassing passes page (bytes_of seen page)) (reads honest) (answer.damaged (same ∙ honest)),
  ),
)

-- or one of them wasn't
pub one_refused : (passes : Contents → Bool) (d e f : Device) (s t u : State) (pages : List ℕ) (n : ℕ) (page : ℕ) (fault : PoolFault) → s.held ≡ pages → n < length pages → page ≡ get_or pages n 0
    → BringsSome passes d e s t pages n → BringsOne {A = Unit {0}} passes e f t u page (Err fault) → BringsAll {A = Unit {0}} passes d f s u pages (Err fault)
one_refused passes d e f s t u pages n page fault held inside is some one = record {
  brings = brings_joined passes d.honest e.honest d.seen e.seen s t u some.only_read.honest (λ honest. (some.only_read.rests honest).seen) some.brings one.brings;
  alone = come_alone s t u pages page (among page pages n inside (sym is)) some.alone one.alone;
  first = leaves_went_first passes e.honest e.seen s t u pages page held (among page pages n inside (sym is)) some.brings.held some.first some.others one.brings one.first one.others;
  others = others_stay s t u pages page (among page pages n inside (sym is)) some.others one.others;
  few = goes_all s u pages (n + 1) (goes_next s t u pages n page inside is (held_absent passes d.honest d.seen s t page some.brings (ap (λ h. is_held h (Some page)) held ∙ among page pages n inside (sym is))) some.few one.few);
  only_read = only_read_joined d e f some.only_read one.only_read;
  faults = omega (arith, one.faults, some.faults);
  answer = answers_all passes d e s t u pages n page fault held inside is some.brings some.only_read.honest (λ honest. (some.only_read.rests honest).seen)
      (before_stay passes e.honest e.seen t u pages n (some.brings.held ∙ held) inside one.brings some.there) one.answer;
}

pub all_brought : (passes : Contents → Bool) (d e : Device) (s t : State) (pages : List ℕ) (n : ℕ) → length pages ≤ n → BringsSome passes d e s t pages n → BringsAll {A = Unit {0}} passes d e s t pages (Ok tt)
all_brought passes d e s t pages n all some = record {
  brings = some.brings;
  alone = some.alone;
  first = some.first;
  others = some.others;
  few = goes_all s t pages n some.few;
  only_read = some.only_read;
  faults = omega (arith, some.faults);
  answer = λ k below. some.there k (omega arith);
}

-- an answer that is a refusal by that fault
pub refused_as : (passes : Contents → Bool) (d f : Device) (s u : State) (pages : List ℕ) (result : Result (Unit {0}) PoolFault) (fault : PoolFault) (P : PoolFault → Type 0) → IsErrAnd result P
    → ((found : PoolFault) → P found → found ≡ fault) → BringsAll {A = Unit {0}} passes d f s u pages (Err fault) → BringsAll {A = Unit {0}} passes d f s u pages result
refused_as passes d f s u pages (Ok a) fault P is same all = absurd is
refused_as passes d f s u pages (Err found) fault P is same all = rw (same found is) all

-- ---- if nothing is to be read

pub same_held_kept : (s : State) (pages : List ℕ) (page : ℕ) → kept (holding s pages) page ≡ kept s page
unfolding kept
same_held_kept s pages page = refl

-- if all pages are kept, or no frame is clean, the next one is idle too
pub idle_next : (s t : State) (pages : List ℕ) (n page : ℕ) → n < length pages → page ≡ get_or pages n 0 → t ≡ holding s pages → AllKept s pages ⊎ NoneClean (holding s pages)
    → IsSome (kept t page) ⊎ NoneClean t
idle_next s t pages n page inside is same (inl all) = inl (rw (same, same_held_kept s pages page, is) (all n inside))
idle_next s t pages n page inside is same (inr none) = inr (subst {A = State} NoneClean (sym same) none)
