-- What a log gives is a page in use.
use Rattle.std.proofs.Common.{◌≡◌, ℕ, Bool, true, false, ◌&&◌, List, [], ◌∷◌, ◌++◌, Option, Some, None, refl, ap, sym, ◌∙◌, subst, append_assoc, arith}
use Rattle.std.specs.Prelude.{◌==◌, nat_le, nat_lt, if◌then◌else◌, is_some, length}
use Rattle.std.specs.List.{list_all}
use Rattle.std.specs.declared.cmp.Ordering.{Ordering}
use Rattle.std.specs.declared.cmp.Ordering.TheVariants.{Less, Equal, Greater}
use Rattle.std.specs.Ordering.{match_ordering}
use Rattle.std.proofs.lemmas.Bool.{eqb-true, le-leb, leb-true}
use Rattle.std.proofs.lemmas.List.{append-nil}
use Rattle.gx_recovery.specs.Known.{Known}
use Rattle.gx_recovery.specs.Records.{Image, Change, Record, Pages, Adjust, Write, Commit, End, Counters, Note, Touch}
use Rattle.gx_recovery.specs.Analysis.{Analysis, analysis, read, touch_cmp, touching}
use Rattle.gx_recovery.specs.Given.{images_given, change_given, said_given, given_with, given_on, given}
use Rattle.gx_recovery.specs.Damage.{is_transaction, is_page, touch_fits, apart, transactions, fits, image_fits, may_follow, follows, follow, is_head, IsLog}
use Rattle.gx_recovery.specs.declared.TheConstants.{TRANSACTIONS, TOUCHED}
use Rattle.gx_recovery.proofs.Tests.{and_first, and_second, clash}
use Rattle.gx_recovery.proofs.Folds.{analysis-snoc}
use Rattle.gx_recovery.proofs.Logs.{and_all}
use Rattle.gx_recovery.proofs.Given.{head_gives_none}

pub given_on-append : {E P : Type 0} (p : ℕ) (before : Option P) (xs ys : List (Record E P)) → given_on p before (xs ++ ys) ≡ given_on p (given_on p before xs) ys
given_on-append p before [] ys = refl
given_on-append p before (x ∷ xs) ys = given_on-append p (given_with p x before) xs ys

-- what a log gives of a page with one record more
pub given-snoc : {E P : Type 0} (p : ℕ) (log : List (Record E P)) (r : Record E P) → given p (log ++ r ∷ []) ≡ given_with p r (given p log)
given-snoc p log r = given_on-append p None log (r ∷ [])

-- a page in use stays in use
pub still_page : (used more p : ℕ) → nat_le used more ≡ true → is_page used p ≡ true → is_page more p ≡ true
still_page used more p up is =
    and_all (nat_lt 0 p) (nat_le p more) (and_first (nat_lt 0 p) (nat_le p used) is)
    (let low = leb-true p used (and_second (nat_lt 0 p) (nat_le p used) is) in let rise = leb-true used more up in le-leb p more (omega (arith, low, rise)))

-- after a small change of a page something is given only if something was
change_was_given : {P : Type 0} (change : Change P) (before : Option P) → is_some (change_given change before) ≡ true → is_some before ≡ true
change_was_given change None some = some
change_was_given change (Some content) some = refl

was_given : {P : Type 0} (test : Bool) (change : Change P) (before : Option P) → is_some (if test then change_given change before else before) ≡ true → is_some before ≡ true
was_given true change before some = change_was_given change before some
was_given false change before some = some

module _ {E P : Type 0} (k : Known E P) where
  -- the leaf of a touch that was put among others is tested with them
  leaf_by : (o : Ordering) (used : ℕ) (t x : Touch E) (xs more : List (Touch E)) → (list_all (touch_fits k used) more ≡ true → is_page used t.leaf ≡ true)
      → list_all (touch_fits k used) (match_ordering o (t ∷ x ∷ xs) (record x { leaf = t.leaf } ∷ xs) (x ∷ more)) ≡ true → is_page used t.leaf ≡ true
  leaf_by Less used t x xs more rest all =
      and_second (k.is_entry t.entry) (is_page used t.leaf) (and_second (is_transaction t.transaction) (k.is_entry t.entry && is_page used t.leaf)
      (and_first (touch_fits k used t) (list_all (touch_fits k used) (x ∷ xs)) all))
  leaf_by Equal used t x xs more rest all =
      and_second (k.is_entry x.entry) (is_page used t.leaf) (and_second (is_transaction x.transaction) (k.is_entry x.entry && is_page used t.leaf)
      (and_first (touch_fits k used (record x { leaf = t.leaf })) (list_all (touch_fits k used) xs) all))
  leaf_by Greater used t x xs more rest all = rest (and_second (touch_fits k used x) (list_all (touch_fits k used) more) all)

  pub leaf_fits : (used : ℕ) (t : Touch E) (xs : List (Touch E)) → list_all (touch_fits k used) (touching k t xs) ≡ true → is_page used t.leaf ≡ true
  leaf_fits used t [] all =
      and_second (k.is_entry t.entry) (is_page used t.leaf) (and_second (is_transaction t.transaction) (k.is_entry t.entry && is_page used t.leaf)
      (and_first (touch_fits k used t) true all))
  leaf_fits used t (x ∷ xs) all = leaf_by (touch_cmp k t x) used t x xs (touching k t xs) (leaf_fits used t xs) all

  pub each_fits : (a : Analysis E) → fits k a ≡ true → list_all (touch_fits k a.used) a.touched ≡ true
  each_fits a fit =
      let rest : Bool = apart k a.touched && (nat_le (transactions a.touched) TRANSACTIONS && nat_le (length a.touched) TOUCHED) in
      and_first (list_all (touch_fits k a.used) a.touched) rest (and_second (nat_le a.used k.pages) (list_all (touch_fits k a.used) a.touched && rest) fit)

  -- page p is in use where something is given of it
  abbrev IsUsed : ℕ → ℕ → Option P → Type 0
  IsUsed p used before = is_some before ≡ true → is_page used p ≡ true

  one_used : (p used page : ℕ) (test : Bool) (said before : Option P) → (page == p) ≡ test → (is_some said ≡ true → is_page used page ≡ true)
      → IsUsed p used before → IsUsed p used (if test then said else before)
  one_used p used page true said before same one was some = subst (λ (q : ℕ). is_page used q ≡ true) (eqb-true page p same) (one some)
  one_used p used page false said before other one was some = was some

  images_used : (p used : ℕ) (images : List (Image P)) (before : Option P) → IsUsed p used before → list_all (image_fits k used) images ≡ true
      → IsUsed p used (images_given p images before)
  images_used p used [] before was all some = was some
  images_used p used (i ∷ images) before was all some =
      let one : is_page used i.page ≡ true = and_first (is_page used i.page) (k.own i.content == i.page) (and_first (image_fits k used i) (list_all (image_fits k used) images) all) in
      images_used p used images (if i.page == p then Some i.content else before)
      (one_used p used i.page (i.page == p) (Some i.content) before refl (λ is. one) was)
      (and_second (image_fits k used i) (list_all (image_fits k used) images) all) some

  -- a small change of a page says something of it only if something is given, so that the page is in use
  change_used : (p page used : ℕ) (change : Change P) (before : Option P) → IsUsed p used before
      → IsUsed p used (if page == p then change_given change before else before)
  change_used p page used change before was some = was (was_given (page == p) change before some)

  -- of a record that may come, where each page that is given is in use
  record_used : (p : ℕ) (log : List (Record E P)) (r : Record E P) → may_follow k log (analysis k log) r ≡ true → fits k (read k (analysis k log) r) ≡ true
      → (before : Option P) → IsUsed p (analysis k log).used before → IsUsed p (read k (analysis k log) r).used (given_with p r before)
  record_used p log (Pages images counter used) may fit before was some =
      let a = analysis k log in
      let rest = and_second (nat_le a.counter counter) (nat_le a.used used && list_all (image_fits k used) images) may in
      images_used p used images before (λ h. still_page a.used used p (and_first (nat_le a.used used) (list_all (image_fits k used) images) rest) (was h))
      (and_second (nat_le a.used used) (list_all (image_fits k used) images) rest) some
  record_used p log (Adjust page change) may fit before was some = change_used p page (analysis k log).used change before was some
  record_used p log (Write transaction entry mark after leaf said) may fit before was some =
      let a = analysis k log in
      let r : Record E P = Write transaction entry mark after leaf said in
      one_used p a.used leaf (leaf == p) (said_given said before) before refl
      (λ h. leaf_fits a.used (record { transaction = transaction; entry = entry; before = mark; leaf = leaf }) a.touched (each_fits (read k a r) fit)) was some
  record_used p log (Commit transaction number) may fit before was some = was some
  record_used p log (End transaction) may fit before was some = was some
  record_used p log (Counters number counter used next) may fit before was some = cc
  record_used p log (Note transaction entry mark leaf) may fit before was some = cc

  abbrev AreUsed : ℕ → List (Record E P) → Type 0
  AreUsed p log = IsUsed p (analysis k log).used (given p log)

  used_step : (p : ℕ) (log : List (Record E P)) (r : Record E P) → follows k log r ≡ true → AreUsed p log → AreUsed p (log ++ r ∷ [])
  used_step p log r f was some =
      let told : analysis k (log ++ r ∷ []) ≡ read k (analysis k log) r = analysis-snoc k log r in
      let fit : fits k (read k (analysis k log) r) ≡ true =
      subst (λ (a : Analysis E). fits k a ≡ true) told (and_second (may_follow k log (analysis k log) r) (fits k (analysis k (log ++ r ∷ []))) f) in
      let may : may_follow k log (analysis k log) r ≡ true = and_first (may_follow k log (analysis k log) r) (fits k (analysis k (log ++ r ∷ []))) f in
      subst (λ (a : Analysis E). is_page a.used p ≡ true) (sym told)
      (record_used p log r may fit (given p log) was (sym (ap is_some (given-snoc p log r)) ∙ some))

  used_on : (p : ℕ) (log rs : List (Record E P)) → follow k log rs ≡ true → AreUsed p log → AreUsed p (log ++ rs)
  used_on p log [] f was = subst (AreUsed p) (sym (append-nil log)) was
  used_on p log (r ∷ rs) f was =
      subst (AreUsed p) (append_assoc log (r ∷ []) rs)
      (used_on p (log ++ r ∷ []) rs (and_second (follows k log r) (follow k (log ++ r ∷ []) rs) f)
      (used_step p log r (and_first (follows k log r) (follow k (log ++ r ∷ []) rs) f) was))

  head_used : (p : ℕ) (head : List (Record E P)) → is_head k head ≡ true → AreUsed p head
  head_used p head h some = clash (is_some (given p head)) some (ap is_some (head_gives_none k p head h))

  -- a page of which a log gives anything is in use
  pub given_in_use : (p : ℕ) (log : List (Record E P)) → IsLog k log → is_some (given p log) ≡ true → is_page (analysis k log).used p ≡ true
  given_in_use p log is = subst (AreUsed p) (sym is.parts) (used_on p is.head is.later is.goes_on (head_used p is.head is.begins))
