-- How many pages go.
use Rattle.std.proofs.Common.{◌≡◌, ◌∙◌, sym, ap, refl, ℕ, ◌+◌, ◌<◌, ◌≤◌, List, [], ◌∷◌, ◌++◌, length, get_or, take, cond, Bool, true, false, Option, Some, None, arith}
use Rattle.std.specs.Prelude.{is_none}
use Rattle.std.specs.List.{Contains}
use Rattle.std.proofs.lemmas.Option.{none-some}
use Rattle.std.proofs.lemmas.List.{length-append}
use Rattle.std.proofs.lemmas.List.Elements.{Contains-push, Contains-append_left, Contains-append_right}
use Rattle.std.proofs.lemmas.List.Sums.{count_by_more_no, count_by_more_yes, sum_by-take-le}
use Rattle.gx_pool.specs.State.{State, Kept, kept, mark_at}
use Rattle.gx_pool.specs.Bringing.{AtMostGo, GoesAlone, missing_count}
use Rattle.gx_pool.proofs.Counting.{count_next}

listed : Option ℕ → List ℕ
listed None = []
listed (Some q) = q ∷ []

listed_one : (o : Option ℕ) → length (listed o) ≤ 1
unfolding listed
listed_one None = omega arith
listed_one (Some q) = omega arith

listed_has : (o : Option ℕ) (q : ℕ) → o ≡ Some q → Contains (listed o) q
unfolding listed
listed_has o q is = rw is (Contains-push [] q)

-- if the frame's page alone goes, at most one does
pub goes_one : (s t : State) (i : ℕ) → GoesAlone s t i → AtMostGo s t 1
goes_one s t i alone = record { gone = listed (mark_at s i).page; few = listed_one (mark_at s i).page; all = λ q k was gone. listed_has (mark_at s i).page q (alone q k was gone) }

at_most_one : (b : Bool) → cond b 1 0 ≤ 1
at_most_one true = omega arith
at_most_one false = omega arith

one_missing : (s : State) (page : ℕ) (missing : Bool) → is_none (kept s page) ≡ missing → missing_count s (page ∷ []) ≡ cond missing 1 0
one_missing s page missing is = let next = count_next (λ q. is_none (kept s q)) page [] missing is in omega (arith, next)

-- for a page that isn't kept
pub goes_few : (s t : State) (i page : ℕ) → kept s page ≡ None → GoesAlone s t i → AtMostGo s t (missing_count s (page ∷ []))
goes_few s t i page absent alone =
    let one : AtMostGo s t 1 = goes_one s t i alone in
    record { gone = one.gone; few = rw (one_missing s page true (ap is_none absent)) one.few; all = one.all }

-- if nothing changes, none goes
pub none_goes : (s t : State) (most : ℕ) → t ≡ s → AtMostGo s t most
none_goes s t most same = record { gone = []; few = omega arith; all = λ q k was gone. absurd (none-some k (sym gone ∙ ap (λ v. kept v q) same ∙ was)) }

went : (s t u : State) (first next : List ℕ) (q : ℕ) (o : Option Kept) → (kept t q ≡ None → Contains first q) → ((l : Kept) → kept t q ≡ Some l → Contains next q) → kept t q ≡ o → Contains (first ++ next) q
went s t u first next q None before after at = Contains-append_left first next q (before at)
went s t u first next q (Some l) before after at = Contains-append_right first next q (after l at)

-- what goes in two goes in the first or in the second
pub go_joined : (s t u : State) (some more most : ℕ) → some + more ≤ most → AtMostGo s t some → AtMostGo t u more → AtMostGo s u most
go_joined s t u some more most within first next = record {
  gone = first.gone ++ next.gone;
  few = rw (length-append first.gone next.gone) (omega (arith, first.few, next.few, within));
  all = λ q k was gone. went s t u first.gone next.gone q (kept t q) (λ none. first.all q k was none) (λ l is. next.all q l is gone) refl;
}

-- none but what goes among fewer
pub go_within : (s t : State) (some most : ℕ) → some ≤ most → AtMostGo s t some → AtMostGo s t most
go_within s t some most within is = record { gone = is.gone; few = omega (arith, is.few, within); all = is.all }

next_missing : (s t : State) (pages : List ℕ) (n : ℕ) (was now : Option Kept) → n < length pages → (kept t (get_or pages n 0) ≡ None → kept s (get_or pages n 0) ≡ None)
    → kept s (get_or pages n 0) ≡ was → kept t (get_or pages n 0) ≡ now → missing_count s (take n pages) + missing_count t (get_or pages n 0 ∷ []) ≤ missing_count s (take (n + 1) pages)
next_missing s t pages n None now inside same before after =
    let more = count_by_more_yes (λ page. is_none (kept s page)) pages n 0 inside (ap is_none before) in
    let one = one_missing t (get_or pages n 0) (is_none now) (ap is_none after) in
    let few = at_most_one (is_none now) in
    omega (arith, more, one, few)
next_missing s t pages n (Some k) None inside same before after = absurd (none-some k (sym (same after) ∙ before))
next_missing s t pages n (Some k) (Some l) inside same before after =
    let more = count_by_more_no (λ page. is_none (kept s page)) pages n 0 inside (ap is_none before) in
    let none = one_missing t (get_or pages n 0) false (ap is_none after) in
    omega (arith, more, none)

-- one more page is brought of several
pub goes_next : (s t u : State) (pages : List ℕ) (n page : ℕ) → n < length pages → page ≡ get_or pages n 0 → (kept t page ≡ None → kept s page ≡ None)
    → AtMostGo s t (missing_count s (take n pages)) → AtMostGo t u (missing_count t (page ∷ [])) → AtMostGo s u (missing_count s (take (n + 1) pages))
goes_next s t u pages n page inside is same first next =
    go_joined s t u (missing_count s (take n pages)) (missing_count t (page ∷ [])) (missing_count s (take (n + 1) pages))
    (rw is (next_missing s t pages n (kept s (get_or pages n 0)) (kept t (get_or pages n 0)) inside (rw (← is) same) refl refl)) first next

-- what went of some pages is within all
pub goes_all : (s t : State) (pages : List ℕ) (n : ℕ) → AtMostGo s t (missing_count s (take n pages)) → AtMostGo s t (missing_count s pages)
goes_all s t pages n is = go_within s t (missing_count s (take n pages)) (missing_count s pages) (sum_by-take-le (λ page. cond (is_none (kept s page)) 1 0) pages n) is
