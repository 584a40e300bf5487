-- What is shown of each page while pages are brought.
use Rattle.std.proofs.Common.{◌≡◌, ◌≢◌, ◌∙◌, sym, ap, subst, refl, ⊎_elim, ℕ, List, Bool, true, Option, Some, None}
use Rattle.std.proofs.Math.Decide.{ℕ_discrete}
use Rattle.std.proofs.lemmas.Option.{none-some}
use Rattle.gx_page.specs.Contents.{Contents}
use Rattle.gx_page.specs.Reading.{read_of}
use Rattle.gx_pool.specs.Area.{bytes_of}
use Rattle.gx_pool.specs.State.{State, Kept, IsSound, kept, stamp_of}
use Rattle.gx_pool.specs.Bringing.{Brings, HasImage}
use Rattle.gx_pool.specs.Creating.{Makes}
use Rattle.gx_pool.specs.Edits.{changed, later}
use Rattle.gx_pool.specs.Laws.{shown, shown_of, IsBacked, IsPassed, ChangingKeepsBacked, ChangingShowsItsPage, ChangingShowsTheSame, ChangingKeepsPassing, ChangingKeepsSound}
use Rattle.gx_pool.proofs.Places.{changed_kept, changed_other, changed_none, changed_sound}

kept_or : Option Kept → Kept → Kept
kept_or None k = k
kept_or (Some k) other = k

same_kept : (k l : Kept) → ◌≡◌ {A = Option Kept} (Some k) (Some l) → k ≡ l
unfolding kept_or
same_kept k l e = ap (λ o. kept_or o k) e

pub one_kept : (o : Option Kept) (k l : Kept) → o ≡ Some k → o ≡ Some l → k ≡ l
one_kept o k l first next = same_kept k l (sym first ∙ next)

pub brings_backed : (passes : Contents → Bool) (seen : List ℕ) (s t : State) → Brings passes true seen s t → IsBacked s seen → IsBacked t seen
brings_backed passes seen s t first backed = λ page k is clean. ⊎_elim
    (λ same. backed page k (sym same ∙ is) clean)
    (λ rest. ⊎_elim
    (λ left. absurd (none-some k (sym left.is ∙ is)))
    (λ came. subst {A = Kept} (λ l. HasImage (bytes_of seen page) l.page) (one_kept (kept t page) (record { page = came.contents; stamp = None }) k came.is is) (came.backed refl))
    rest)
    (first.fates page)

-- a clean page that is kept, or none, is shown as the device has it
clean_shown : (s : State) (seen : List ℕ) (page : ℕ) (o : Option Kept) → IsBacked s seen → kept s page ≡ o → stamp_of o ≡ None → shown_of o (read_of (bytes_of seen page)) ≡ read_of (bytes_of seen page)
clean_shown s seen page None backed is clean = refl
clean_shown s seen page (Some k) backed is clean = sym (backed page k is clean).read

pub brings_shown : (passes : Contents → Bool) (seen : List ℕ) (s t : State) (page : ℕ) → Brings passes true seen s t → IsBacked s seen → shown t seen page ≡ shown s seen page
brings_shown passes seen s t page first backed =
    let here : Contents = read_of (bytes_of seen page) in
    let was : stamp_of (kept s page) ≡ None → here ≡ shown s seen page = λ clean. sym (clean_shown s seen page (kept s page) backed refl clean) in
    ⊎_elim
    (λ same. ap (λ o. shown_of o here) same)
    (λ rest. ⊎_elim
    (λ left. ap (λ o. shown_of o here) left.is ∙ was left.was.clean)
    (λ came. ap (λ o. shown_of o here) came.is ∙ sym (came.backed refl).read ∙ was (⊎_elim (λ absent. ap stamp_of absent) (λ spare. spare.clean) came.was))
    rest)
    (first.fates page)

pub brings_passed : (passes : Contents → Bool) (honest : Bool) (seen : List ℕ) (s t : State) → Brings passes honest seen s t → IsPassed passes s → IsPassed passes t
brings_passed passes honest seen s t first passed = λ page k is. ⊎_elim
    (λ same. passed page k (sym same ∙ is))
    (λ rest. ⊎_elim
    (λ left. absurd (none-some k (sym left.is ∙ is)))
    (λ came.
    let e = one_kept (kept t page) (record { page = came.contents; stamp = None }) k came.is is in
    (ap (λ l. l.page.number) (sym e) ∙ came.number, ap (λ l. passes l.page) (sym e) ∙ came.passing))
    rest)
    (first.fates page)

-- ---- a page that was made

pub creates_backed : (seen : List ℕ) (s t : State) (page batch : ℕ) (contents : Contents) → Makes s t page contents batch → IsBacked s seen → IsBacked t seen
creates_backed seen s t page batch contents made backed = λ q k is clean. elim (ℕ_discrete q page) [
  | yes e ↦ absurd (none-some batch (sym clean ∙ ap (λ l. l.stamp) (sym (one_kept (kept t page) (record { page = contents; stamp = Some batch }) k made.made (ap (kept t) (sym e) ∙ is)))))
  | no ne ↦ ⊎_elim
      (λ same. backed q k (sym same ∙ is) clean)
      (λ left. absurd (none-some k (sym left.is ∙ is)))
      (made.others q ne)
]

pub creates_shown : (seen : List ℕ) (s t : State) (page batch other : ℕ) (contents : Contents) → Makes s t page contents batch → IsBacked s seen → other ≢ page → shown t seen other ≡ shown s seen other
creates_shown seen s t page batch other contents made backed ne =
    let here : Contents = read_of (bytes_of seen other) in
    ⊎_elim
    (λ same. ap (λ o. shown_of o here) same)
    (λ left. ap (λ o. shown_of o here) left.is ∙ sym (clean_shown s seen other (kept s other) backed refl left.was.clean))
    (made.others other ne)

pub creates_its_page : (seen : List ℕ) (s t : State) (page batch : ℕ) (contents : Contents) → Makes s t page contents batch → shown t seen page ≡ contents
creates_its_page seen s t page batch contents made = ap (λ o. shown_of o (read_of (bytes_of seen page))) made.made

pub creates_passed : (passes : Contents → Bool) (s t : State) (page batch : ℕ) (contents : Contents) → Makes s t page contents batch → contents.number ≡ page → passes contents ≡ true → IsPassed passes s → IsPassed passes t
creates_passed passes s t page batch contents made number is passed = λ q k there. elim (ℕ_discrete q page) [
  | yes e ↦
      let same = one_kept (kept t page) (record { page = contents; stamp = Some batch }) k made.made (ap (kept t) (sym e) ∙ there) in
      (ap (λ l. l.page.number) (sym same) ∙ number ∙ sym e, ap (λ l. passes l.page) (sym same) ∙ is)
  | no ne ↦ ⊎_elim
      (λ same. passed q k (sym same ∙ there))
      (λ left. absurd (none-some k (sym left.is ∙ there)))
      (made.others q ne)
]

-- ---- a page that was changed

-- what a page is kept as after a change of it, and whether it was kept
record Turned (s : State) (page stamp : ℕ) (contents : Contents) (k : Kept) : Type 0 where
  was : Kept
  kept_was : kept s page ≡ Some was
  is : k ≡ record { page = contents; stamp = Some (later stamp was.stamp) }

turned : (s : State) (page stamp : ℕ) (contents : Contents) (k : Kept) (o : Option Kept) → IsSound s → kept s page ≡ o → kept (changed s page stamp contents) page ≡ Some k → Turned s page stamp contents k
turned s page stamp contents k None sound was is = absurd (none-some k (sym (changed_none s page stamp contents was) ∙ is))
turned s page stamp contents k (Some l) sound was is =
    record { was = l; kept_was = was; is = one_kept (kept (changed s page stamp contents) page) k _ is (changed_kept s page stamp contents l sound was) }

pub changes_backed : ChangingKeepsBacked
changes_backed seen s page stamp contents sound backed = λ q k is clean. elim (ℕ_discrete q page) [
  | yes e ↦
      let now = turned s page stamp contents k (kept s page) sound refl (ap (kept (changed s page stamp contents)) (sym e) ∙ is) in
      absurd (none-some _ (sym clean ∙ ap (λ l. l.stamp) now.is))
  | no ne ↦ backed q k (sym (changed_other s page q stamp contents sound ne) ∙ is) clean
]

pub changes_its_page : ChangingShowsItsPage
changes_its_page seen s page stamp contents k sound is = ap (λ o. shown_of o (read_of (bytes_of seen page))) (changed_kept s page stamp contents k sound is)

pub changes_shown : ChangingShowsTheSame
changes_shown seen s page other stamp contents sound ne = ap (λ o. shown_of o (read_of (bytes_of seen other))) (changed_other s page other stamp contents sound ne)

pub changes_passed : ChangingKeepsPassing
changes_passed passes s page stamp contents sound number passing passed = λ q k is. elim (ℕ_discrete q page) [
  | yes e ↦
      let now = turned s page stamp contents k (kept s page) sound refl (ap (kept (changed s page stamp contents)) (sym e) ∙ is) in
      (ap (λ l. l.page.number) now.is ∙ number ∙ sym e, ap (λ l. passes l.page) now.is ∙ passing)
  | no ne ↦ passed q k (sym (changed_other s page q stamp contents sound ne) ∙ is)
]

pub changes_sound : ChangingKeepsSound
changes_sound s page stamp contents sound = changed_sound s page stamp contents sound
