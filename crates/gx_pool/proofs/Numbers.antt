-- How many frames are clean and dirty.
use Rattle.std.proofs.Common.{◌≡◌, ◌∙◌, sym, ap, refl, ◌⊎◌, inl, inr, ℕ, zero, suc, ◌+◌, ◌<◌, ◌≤◌, List, length, get_or, set, take, count_by, Bool, true, false, not, cond, ◌&&◌, ◌||◌, ◌==◌, Option, Some, None, IsSome, arith, add-one}
use Rattle.std.specs.Prelude.{is_none, is_some}
use Rattle.std.proofs.lemmas.Bool.{eqb-true}
use Rattle.std.proofs.Math.ListN.{get_or-eq_default}
use Rattle.std.proofs.Math.Seq.{take-length}
use Rattle.std.proofs.lemmas.List.Folds.{list_any_more}
use Rattle.std.proofs.lemmas.List.Sums.{count_by-le-length}
use Rattle.std.proofs.lemmas.Option.{none-some}
use Rattle.gx_page.specs.Contents.{Contents}
use Rattle.gx_pool.specs.declared.frames.TheConstants.{FRAMES}
use Rattle.gx_pool.specs.declared.mark.FrameMark.{FrameMark}
use Rattle.gx_pool.specs.Marks.{clean, empty, is_dirty, is_held}
use Rattle.gx_pool.specs.State.{State, Kept, IsSound, IsSpare, NoneDirty, mark_at, place_of, kept, stamp_of, clean_count, dirty_count, is_clean_at, is_clean_page, is_counted, held_clean}
use Rattle.gx_pool.specs.Edits.{changed, changed_at, later, stamped}
use Rattle.gx_pool.proofs.Places.{kept_none, kept_some, some-injective}
use Rattle.gx_pool.proofs.Counting.{counted_set, none_counted, one_fewer, one_more, as_many, counted_at, counts_joined, all_counted, one_counted, false_of, no_more_counted}

-- ---- the frames of pages that are held

-- whether a frame has that page
is_page : ℕ → Option ℕ → Bool
is_page page None = false
is_page page (Some q) = page == q

page_is : (page : ℕ) (o : Option ℕ) → is_page page o ≡ true → o ≡ Some page
unfolding is_page
page_is page None is = absurd (grind arith)
page_is page (Some q) is = ap Some (sym (eqb-true page q is))

is_same : (page : ℕ) → (page == page) ≡ true
is_same page = grind arith

-- whether a frame has a clean page among the first so many that are held
first_held : State → ℕ → FrameMark → Bool
first_held s n mark = is_none mark.stamp && is_held (take n s.held) mark.page

-- whether a frame has the next one, clean, if it is none of those
next_held : State → ℕ → FrameMark → Bool
next_held s n mark = not (is_held (take n s.held) (Some (get_or s.held n 0))) && (is_none mark.stamp && is_page (get_or s.held n 0) mark.page)

held_more : (held : List ℕ) (n : ℕ) (o : Option ℕ) → n < length held → is_held (take (suc n) held) o ≡ (is_held (take n held) o || is_page (get_or held n 0) o)
unfolding is_page
held_more held n None inside = refl
held_more held n (Some q) inside = ap (λ m. is_held (take m held) (Some q)) (sym (add-one n)) ∙ list_any_more (λ other. other == q) held n 0 inside

tests_joined : (n h b p : Bool) → (p ≡ true → h ≡ b) → cond (n && h) 1 0 + cond (not b && (n && p)) 1 0 ≡ cond (n && (h || p)) 1 0
tests_joined false h true p same = refl
tests_joined false h false p same = refl
tests_joined true true true p same = refl
tests_joined true true false true same = absurd (grind (arith, same refl))
tests_joined true true false false same = refl
tests_joined true false true true same = absurd (grind (arith, same refl))
tests_joined true false true false same = refl
tests_joined true false false true same = refl
tests_joined true false false false same = refl

-- one more is held
next_counted : (s : State) (n : ℕ) → n < length s.held → count_by (first_held s n) s.marks + count_by (next_held s n) s.marks ≡ count_by (first_held s (suc n)) s.marks
unfolding first_held next_held
next_counted s n inside = counts_joined (first_held s n) (next_held s n) (first_held s (suc n)) s.marks (λ mark.
    tests_joined (is_none mark.stamp) (is_held (take n s.held) mark.page) (is_held (take n s.held) (Some (get_or s.held n 0))) (is_page (get_or s.held n 0) mark.page)
    (λ is. ap (is_held (take n s.held)) (page_is (get_or s.held n 0) mark.page is))
    ∙ ap (λ b. cond (is_none mark.stamp && b) 1 0) (sym (held_more s.held n mark.page inside)))

test_parts : (b n p : Bool) → (not b && (n && p)) ≡ true → p ≡ true
test_parts true n p is = absurd (grind arith)
test_parts false false p is = absurd (grind arith)
test_parts false true p is = is

next_page : (s : State) (n : ℕ) (mark : FrameMark) → next_held s n mark ≡ true → mark.page ≡ Some (get_or s.held n 0)
unfolding next_held
next_page s n mark is = page_is (get_or s.held n 0) mark.page (test_parts (is_held (take n s.held) (Some (get_or s.held n 0))) (is_none mark.stamp) (is_page (get_or s.held n 0) mark.page) is)

tests_none : (b : Bool) → false ≡ (not b && false)
tests_none true = refl
tests_none false = refl

tests_one : (b n : Bool) → (not b && (n && true)) ≡ (not b && n)
tests_one true n = refl
tests_one false true = refl
tests_one false false = refl

-- so many frames have the next one
next_frame : (s : State) (n : ℕ) (o : Option ℕ) → IsSound s → place_of s (get_or s.held n 0) ≡ o
    → count_by (next_held s n) s.marks ≡ cond (not (is_held (take n s.held) (Some (get_or s.held n 0))) && is_clean_at s o) 1 0
unfolding next_held is_page
next_frame s n None sound at =
    none_counted (next_held s n) s.marks empty (λ k below. false_of (next_held s n (mark_at s k)) (λ is. none-some k (sym at ∙ sound.back k (get_or s.held n 0) (next_page s n (mark_at s k) is))))
    ∙ ap (λ b. cond b 1 0) (tests_none (is_held (take n s.held) (Some (get_or s.held n 0))))
next_frame s n (Some i) sound at =
    let page : ℕ = get_or s.held n 0 in
    let held : Bool = is_held (take n s.held) (Some page) in
    let there = sound.there page i at in
    one_counted (next_held s n) s.marks i empty there.0 (λ k below is. some-injective k i (sym (sound.back k page (next_page s n (mark_at s k) is)) ∙ at))
    ∙ ap (λ o. cond (not held && (is_none (mark_at s i).stamp && is_page page o)) 1 0) there.1
    ∙ ap (λ b. cond (not held && (is_none (mark_at s i).stamp && b)) 1 0) (is_same page)
    ∙ ap (λ b. cond b 1 0) (tests_one held (is_none (mark_at s i).stamp))

no_test : (b : Bool) → (b && false) ≡ false
no_test true = refl
no_test false = refl

none_held : (o : Option ℕ) (held : List ℕ) → is_held (take 0 held) o ≡ false
none_held None held = refl
none_held (Some q) held = refl

-- the frames with a clean page among the first so many that are held are those that were counted
held_counted : (s : State) (n : ℕ) → IsSound s → n ≤ length s.held → count_by (first_held s n) s.marks ≡ held_clean s n
unfolding first_held held_clean
held_counted s zero sound few =
    none_counted (first_held s 0) s.marks empty (λ k below. ap (λ b. is_none (mark_at s k).stamp && b) (none_held (mark_at s k).page s.held) ∙ no_test (is_none (mark_at s k).stamp))
held_counted s (suc n) sound few =
    let rest = held_counted s n sound (omega arith) in
    let next = next_counted s n (omega arith) in
    let one = next_frame s n (place_of s (get_or s.held n 0)) sound refl in
    omega (arith, rest, next, one)

pub held_clean_few : (s : State) (n : ℕ) → held_clean s n ≤ n
unfolding held_clean
held_clean_few s zero = omega arith
held_clean_few s (suc n) = let rest = held_clean_few s n in one_at_most (held_clean s n) n (is_counted s n) rest
  where
    one_at_most : (m n : ℕ) (b : Bool) → m ≤ n → m + cond b 1 0 ≤ suc n
    one_at_most m n true le = omega arith
    one_at_most m n false le = omega arith

no_bit : (n m : ℕ) (b : Bool) → b ≡ false → m ≡ n + cond b 1 0 → m ≡ n
no_bit n m true is sum = absurd (grind arith)
no_bit n m false is sum = omega (arith, sum)

one_bit : (n m : ℕ) (b : Bool) → b ≡ true → m ≡ n + cond b 1 0 → m ≡ n + 1
one_bit n m true is sum = sum
one_bit n m false is sum = absurd (grind arith)

pub one_clean : (s : State) (k : ℕ) → held_clean s (k + 1) ≡ held_clean s k + cond (is_counted s k) 1 0
unfolding held_clean
one_clean s k = ap (held_clean s) (add-one k)

-- none of no pages
pub no_clean : (s : State) → held_clean s 0 ≡ 0
unfolding held_clean
no_clean s = refl

-- one page more that is counted, or isn't
pub next_clean : (s : State) (k : ℕ) → is_counted s k ≡ true → held_clean s (k + 1) ≡ held_clean s k + 1
next_clean s k is = one_bit (held_clean s k) (held_clean s (k + 1)) (is_counted s k) is (one_clean s k)

pub same_clean : (s : State) (k : ℕ) → is_counted s k ≡ false → held_clean s (k + 1) ≡ held_clean s k
same_clean s k is = no_bit (held_clean s k) (held_clean s (k + 1)) (is_counted s k) is (one_clean s k)

-- ---- all frames

one_of_three : (stamp : Option ℕ) (h : Bool) → cond (is_none stamp && not h) 1 0 + cond (is_some stamp) 1 0 + cond (is_none stamp && h) 1 0 ≡ 1
one_of_three None true = refl
one_of_three None false = refl
one_of_three (Some n) h = refl

-- a frame is clean or dirty, or its page is clean and held
all_frames : (s : State) → clean_count s + dirty_count s + count_by (first_held s (length s.held)) s.marks ≡ length s.marks
unfolding first_held
all_frames s = all_counted (clean s.held) is_dirty (first_held s (length s.held)) s.marks (λ mark.
    ap (λ held. cond (is_none mark.stamp && not (is_held s.held mark.page)) 1 0 + cond (is_some mark.stamp) 1 0 + cond (is_none mark.stamp && is_held held mark.page) 1 0) (take-length s.held)
    ∙ one_of_three mark.stamp (is_held s.held mark.page))

pub clean_is_rest : (s : State) → IsSound s → clean_count s + dirty_count s + held_clean s (length s.held) ≡ length s.marks
clean_is_rest s sound = let all = all_frames s in let held = held_counted s (length s.held) sound (omega arith) in omega (arith, all, held)

pub clean_dirty_apart : (s : State) → clean_count s + dirty_count s ≤ length s.marks
clean_dirty_apart s = let all = all_frames s in omega (arith, all)

pub all_but_held : (s : State) → IsSound s → length s.marks ≤ clean_count s + dirty_count s + length s.held
all_but_held s sound = let all = clean_is_rest s sound in let few = held_clean_few s (length s.held) in omega (arith, all, few)

-- ---- no page is dirty

stamp_at : (s : State) (k : ℕ) (o : Option ℕ) → IsSound s → NoneDirty s → (mark_at s k).page ≡ o → (mark_at s k).stamp ≡ None
stamp_at s k None sound none at = sound.blank k at
stamp_at s k (Some page) sound none at = ap stamp_of (sym (kept_some s page k (sound.back k page at))) ∙ none page

pub none_dirty_zero : (s : State) → IsSound s → NoneDirty s → dirty_count s ≡ 0
none_dirty_zero s sound none = none_counted is_dirty s.marks empty (λ k below. ap is_some (stamp_at s k (mark_at s k).page sound none refl))

stamp_none : (stamp : Option ℕ) (n : ℕ) → cond (is_some stamp) 1 0 ≤ n → n ≡ 0 → stamp ≡ None
stamp_none None n le zero_is = refl
stamp_none (Some m) n le zero_is = absurd (omega (arith, le, zero_is))

kept_clean : (s : State) (page : ℕ) (o : Option ℕ) → IsSound s → dirty_count s ≡ 0 → place_of s page ≡ o → stamp_of (kept s page) ≡ None
kept_clean s page None sound zero_is at = ap stamp_of (kept_none s page at)
kept_clean s page (Some i) sound zero_is at =
    ap stamp_of (kept_some s page i at) ∙ stamp_none (mark_at s i).stamp (dirty_count s) (counted_at is_dirty s.marks i empty (sound.there page i at).0) zero_is

pub zero_none_dirty : (s : State) → IsSound s → dirty_count s ≡ 0 → NoneDirty s
zero_none_dirty s sound zero_is = λ page. kept_clean s page (place_of s page) sound zero_is refl

-- ---- two pools whose pages have the same stamps

page_in : Option ℕ → ℕ
page_in None = 0
page_in (Some page) = page

module _ (s t : State) (sound : IsSound s) (other : IsSound t) (same : (page : ℕ) → stamp_of (kept t page) ≡ stamp_of (kept s page)) where
  -- if the page of a frame is in the other pool
  place_there : ℕ → ℕ
  place_there i = page_in (place_of t (page_in (mark_at s i).page))

  -- the page of a dirty frame, and its frame in the other pool
  record IsThere (i : ℕ) : Type 0 where
    page : ℕ
    here : (mark_at s i).page ≡ Some page
    inside : place_there i < length t.marks
    there : (mark_at t (place_there i)).page ≡ Some page
    dirty : is_dirty (mark_at t (place_there i)) ≡ true

  stamped_there : (i j page : ℕ) → (mark_at s i).page ≡ Some page → place_of t page ≡ Some j → (mark_at t j).stamp ≡ (mark_at s i).stamp
  stamped_there i j page here at = sym (ap stamp_of (kept_some t page j at)) ∙ same page ∙ ap stamp_of (kept_some s page i (sound.back i page here))

  there_at : (i page : ℕ) (o : Option ℕ) → (mark_at s i).page ≡ Some page → is_dirty (mark_at s i) ≡ true → place_of t page ≡ o → IsThere i
  unfolding place_there page_in
  there_at i page None here dirty at =
      let none : (mark_at s i).stamp ≡ None = sym (ap stamp_of (kept_some s page i (sound.back i page here))) ∙ sym (same page) ∙ ap stamp_of (kept_none t page at) in
      let clash : false ≡ true = sym (ap is_some none) ∙ dirty in
      let no : ⊥ = cc in absurd no
  there_at i page (Some j) here dirty at =
      let is : place_there i ≡ j = ap (λ o. page_in (place_of t (page_in o))) here ∙ ap page_in at in
      let found = other.there page j at in
      record {
        page = page;
        here = here;
        inside = rw is found.0;
        there = rw is found.1;
        dirty = rw is (ap is_some (stamped_there i j page here at) ∙ dirty);
      }

  dirty_there : (i : ℕ) (o : Option ℕ) → (mark_at s i).page ≡ o → is_dirty (mark_at s i) ≡ true → IsThere i
  dirty_there i None here dirty = let clash : false ≡ true = sym (ap is_some (sound.blank i here)) ∙ dirty in let no : ⊥ = cc in absurd no
  dirty_there i (Some page) here dirty = there_at i page (place_of t page) here dirty refl

  one_there : (j k : ℕ) → IsThere j → IsThere k → place_there j ≡ place_there k → j ≡ k
  one_there j k one two e =
      let pages : one.page ≡ two.page = some-injective one.page two.page (sym one.there ∙ ap (λ n. (mark_at t n).page) e ∙ two.there) in
      some-injective j k (sym (sound.back j one.page one.here) ∙ ap (place_of s) pages ∙ sound.back k two.page two.here)

  -- no more frames are dirty
  pub no_more_dirty : dirty_count s ≤ dirty_count t
  no_more_dirty = no_more_counted is_dirty empty refl s.marks t.marks place_there (record {
    there = λ k below dirty. let is = dirty_there k (mark_at s k).page refl dirty in (is.inside, is.dirty);
    apart = λ j k one two is so e. one_there j k (dirty_there j (mark_at s j).page refl is) (dirty_there k (mark_at s k).page refl so) e;
  })

-- ---- a change

-- the frame of a kept page, and its stamp
pub record Frame (s : State) (page : ℕ) (k : Kept) : Type 0 where
  pub place : ℕ
  pub at : place_of s page ≡ Some place
  pub inside : place < length s.marks
  pub page_is : (mark_at s place).page ≡ Some page
  pub stamp : (mark_at s place).stamp ≡ k.stamp

frame_from : (s : State) (page : ℕ) (k : Kept) (o : Option ℕ) → IsSound s → place_of s page ≡ o → kept s page ≡ Some k → Frame s page k
frame_from s page k None sound at is = absurd (none-some k (sym (kept_none s page at) ∙ is))
frame_from s page k (Some i) sound at is =
    record { place = i; at = at; inside = (sound.there page i at).0; page_is = (sound.there page i at).1; stamp = ap stamp_of (sym (kept_some s page i at) ∙ is) }

pub frame_of : (s : State) (page : ℕ) (k : Kept) → IsSound s → kept s page ≡ Some k → Frame s page k
frame_of s page k sound is = frame_from s page k (place_of s page) sound refl is

changed_marks : (s : State) (page stamp i : ℕ) (contents : Contents) → place_of s page ≡ Some i → (changed s page stamp contents).marks ≡ (stamped s i (Some (later stamp (mark_at s i).stamp))).marks
changed_marks s page stamp i contents at = ap (λ o. (changed_at s o stamp contents).marks) at

changed_held : (s : State) (stamp : ℕ) (contents : Contents) (o : Option ℕ) → (changed_at s o stamp contents).held ≡ s.held
changed_held s stamp contents None = refl
changed_held s stamp contents (Some i) = refl

changed_counts : (s : State) (page stamp i : ℕ) (contents : Contents) → place_of s page ≡ Some i
    → clean_count (changed s page stamp contents) ≡ count_by (clean s.held) (stamped s i (Some (later stamp (mark_at s i).stamp))).marks
changed_counts s page stamp i contents at = ap (λ o. clean_count (changed_at s o stamp contents)) at

pub change_raises : (s : State) (page stamp : ℕ) (contents : Contents) (k : Kept) → IsSound s → kept s page ≡ Some k → k.stamp ≡ None → dirty_count (changed s page stamp contents) ≡ dirty_count s + 1
change_raises s page stamp contents k sound is was =
    let f = frame_of s page k sound is in
    ap (count_by is_dirty) (changed_marks s page stamp f.place contents f.at) ∙ one_more is_dirty s.marks f.place _ empty f.inside (ap is_some (f.stamp ∙ was)) refl

pub change_leaves : (s : State) (page stamp : ℕ) (contents : Contents) (k : Kept) → IsSound s → kept s page ≡ Some k → IsSome k.stamp → dirty_count (changed s page stamp contents) ≡ dirty_count s
change_leaves s page stamp contents k sound is was =
    let f = frame_of s page k sound is in
    ap (count_by is_dirty) (changed_marks s page stamp f.place contents f.at) ∙ as_many is_dirty s.marks f.place _ empty f.inside (ap is_some f.stamp ∙ was)

held_or_dirty : (stamp : Option ℕ) (h : Bool) → (h ≡ true) ⊎ IsSome stamp → (is_none stamp && not h) ≡ false
held_or_dirty None h (inl held) = ap not held
held_or_dirty None h (inr dirty) = absurd (grind arith)
held_or_dirty (Some n) h either = refl

-- whether a kept page's frame is clean
frame_clean : (s : State) (page : ℕ) (k : Kept) (f : Frame s page k) → clean s.held (mark_at s f.place) ≡ (is_none k.stamp && not (is_held s.held (Some page)))
frame_clean s page k f = ap (λ stamp. is_none stamp && not (is_held s.held (mark_at s f.place).page)) f.stamp ∙ ap (λ o. is_none k.stamp && not (is_held s.held o)) f.page_is

pub change_keeps_clean : (s : State) (page stamp : ℕ) (contents : Contents) (k : Kept) → IsSound s → kept s page ≡ Some k → (is_held s.held (Some page) ≡ true) ⊎ IsSome k.stamp
    → clean_count (changed s page stamp contents) ≡ clean_count s
change_keeps_clean s page stamp contents k sound is either =
    let f = frame_of s page k sound is in
    changed_counts s page stamp f.place contents f.at
    ∙ as_many (clean s.held) s.marks f.place _ empty f.inside (frame_clean s page k f ∙ held_or_dirty k.stamp (is_held s.held (Some page)) either)

pub change_takes_clean : (s : State) (page stamp : ℕ) (contents : Contents) (k : Kept) → IsSound s → kept s page ≡ Some k → IsSpare s page
    → clean_count (changed s page stamp contents) + 1 ≡ clean_count s
change_takes_clean s page stamp contents k sound is spare =
    let f = frame_of s page k sound is in
    let none : k.stamp ≡ None = ap stamp_of (sym is) ∙ spare.clean in
    ap (λ n. n + 1) (changed_counts s page stamp f.place contents f.at)
    ∙ one_fewer (clean s.held) s.marks f.place _ empty f.inside
    (frame_clean s page k f ∙ ap (λ stamp. is_none stamp && not (is_held s.held (Some page))) none ∙ ap not spare.free) refl

-- ---- a frame's stamp

-- a dirty page is clean: one fewer is dirty
pub cleaned_fewer : (s : State) (i : ℕ) → i < length s.marks → IsSome (mark_at s i).stamp → dirty_count (stamped s i None) + 1 ≡ dirty_count s
cleaned_fewer s i inside was = one_fewer is_dirty s.marks i _ empty inside was refl

some_unclean : (stamp : Option ℕ) (b : Bool) → IsSome stamp → (is_none stamp && b) ≡ false
some_unclean None b is = absurd (grind arith)
some_unclean (Some n) b is = refl

-- and its frame is, unless the page is held
pub cleaned_free : (s : State) (i page : ℕ) → i < length s.marks → (mark_at s i).page ≡ Some page → IsSome (mark_at s i).stamp → is_held s.held (Some page) ≡ false → clean_count (stamped s i None) ≡ clean_count s + 1
cleaned_free s i page inside at was free =
    one_more (clean s.held) s.marks i _ empty inside (some_unclean (mark_at s i).stamp (not (is_held s.held (mark_at s i).page)) was) (ap (λ o. not (is_held s.held o)) at ∙ ap not free)

pub cleaned_held : (s : State) (i page : ℕ) → i < length s.marks → (mark_at s i).page ≡ Some page → IsSome (mark_at s i).stamp → is_held s.held (Some page) ≡ true → clean_count (stamped s i None) ≡ clean_count s
cleaned_held s i page inside at was held =
    as_many (clean s.held) s.marks i _ empty inside
    (some_unclean (mark_at s i).stamp (not (is_held s.held (mark_at s i).page)) was ∙ sym (ap (λ o. not (is_held s.held o)) at ∙ ap not held))

-- ---- a frame's page

-- as many are dirty if a frame that wasn't dirty isn't
pub still_clean : (s : State) (i : ℕ) (mark : FrameMark) → i < length s.marks → (mark_at s i).stamp ≡ None → mark.stamp ≡ None → count_by is_dirty (set s.marks i mark) ≡ dirty_count s
still_clean s i mark inside was is = as_many is_dirty s.marks i mark empty inside (ap is_some was ∙ sym (ap is_some is))

-- and one more if it is
pub then_dirty : (s : State) (i : ℕ) (mark : FrameMark) → i < length s.marks → (mark_at s i).stamp ≡ None → is_dirty mark ≡ true → count_by is_dirty (set s.marks i mark) ≡ dirty_count s + 1
then_dirty s i mark inside was is = one_more is_dirty s.marks i mark empty inside (ap is_some was) is

-- ---- a frame's mark

-- a dirty frame is counted
pub was_counted : (marks : List FrameMark) (i dirty : ℕ) (was : Bool) → i < length marks → dirty ≡ count_by is_dirty marks → was ≡ is_dirty (get_or marks i empty) → cond was 1 0 ≤ dirty
was_counted marks i dirty was inside counted is = rw (is, counted) (counted_at is_dirty marks i empty inside)

pub few_counted : (marks : List FrameMark) (dirty : ℕ) → length marks ≤ FRAMES → dirty ≡ count_by is_dirty marks → dirty ≤ FRAMES
few_counted marks dirty few counted = let all = count_by-le-length is_dirty marks in omega (arith, all, few, counted)

pub put_counted : (marks : List FrameMark) (i dirty after : ℕ) (mark : FrameMark) (was is : Bool) → i < length marks → dirty ≡ count_by is_dirty marks → was ≡ is_dirty (get_or marks i empty) → is ≡ is_dirty mark
    → after + cond was 1 0 ≡ dirty + cond is 1 0 → after ≡ count_by is_dirty (set marks i mark)
put_counted marks i dirty after mark was is inside counted before now sum =
    let all = counted_set is_dirty marks i mark empty inside in
    let one : (let n : ℕ = cond was 1 0 in n) ≡ cond (is_dirty (get_or marks i empty)) 1 0 = ap (λ b. cond b 1 0) before in
    let two : (let n : ℕ = cond is 1 0 in n) ≡ cond (is_dirty mark) 1 0 = ap (λ b. cond b 1 0) now in
    omega (arith, all, one, two, counted, sum)

-- no empty frame is dirty
pub empty_counted : (marks : List FrameMark) → ((k : ℕ) → get_or marks k empty ≡ empty) → 0 ≡ count_by is_dirty marks
empty_counted marks each = sym (none_counted is_dirty marks empty (λ k below. ap is_dirty (each k)))

-- a number beyond the table is no page's
pub beyond_table : (s : State) (page : ℕ) → length s.places ≤ page → false ≡ is_clean_page s page
beyond_table s page past = ap (is_clean_at s) (sym (get_or-eq_default s.places None past))
