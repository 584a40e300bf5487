-- What the records that come after a log keep, and a page area that agrees with the old one.
use Rattle.std.proofs.Common.{◌≡◌, ℕ, ◌+◌, ◌≤◌, true, false, ◌||◌, inl, inr, List, [], ◌∷◌, ◌++◌, refl, ap, sym, ◌∙◌, subst, append_assoc, le_refl, arith}
use Rattle.std.specs.Prelude.{◌==◌, if◌then◌else◌}
use Rattle.std.specs.List.{list_any}
use Rattle.std.proofs.Math.Path.{fun_ext}
use Rattle.std.proofs.lemmas.Bool.{eqb-true}
use Rattle.std.proofs.lemmas.List.{append-nil}
use Rattle.gx_recovery.specs.Known.{Known, IsLawful, Tree}
use Rattle.gx_recovery.specs.Records.{Image, Change, Whole, Small, Record, Pages, Adjust, Write, Commit, End, Counters, Note, gives, speaks_of}
use Rattle.gx_recovery.specs.Analysis.{Analysis, analysis, number_of}
use Rattle.gx_recovery.specs.Redo.{with_page, with_images, said_over, redo, redone, tree_of}
use Rattle.gx_recovery.specs.Standing.{set_of, stands_for}
use Rattle.gx_recovery.specs.Damage.{follows, IsLog}
use Rattle.gx_recovery.specs.Coming.{IsExact, IsGood, MayCome, MayComeAll}
use Rattle.gx_recovery.specs.Logged.{AgreesBeside}
use Rattle.gx_recovery.proofs.Tests.{true_or_false, or_none_first, or_none_second}
use Rattle.gx_recovery.proofs.Folds.{analysis-snoc, redone-append}
use Rattle.gx_recovery.proofs.Fair.{IsFair}
use Rattle.gx_recovery.proofs.Logs.{fair_follows, told_log, log_goes_on}
use Rattle.gx_recovery.proofs.Sets.{set_stays, last_set}

one_more : (a b : ℕ) → b ≡ a + 1 → a ≤ b
one_more a b h = omega arith

through : (a b c : ℕ) → a ≤ b → b ≤ c → a ≤ c
through a b c p q = omega arith

module _ {P : Type 0} where
  -- pages with one page written over agree where they did, and on that page
  over : (page p : ℕ) (content : P) (old new : ℕ → P) → ((page == p) ≡ false → new p ≡ old p) → with_page page content new p ≡ with_page page content old p
  over page p content old new h =
      elim (true_or_false (page == p)) [
        | inl is ↦ ap (λ b. if b then content else new p) is ∙ sym (ap (λ b. if b then content else old p) is)
        | inr other ↦ ap (λ b. if b then content else new p) other ∙ h other ∙ sym (ap (λ b. if b then content else old p) other)
      ]

  -- and so with a small change made of one page
  over_small : (page p : ℕ) (change : Change P) (old new : ℕ → P) → new p ≡ old p
      → with_page page (change.made (new page)) new p ≡ with_page page (change.made (old page)) old p
  over_small page p change old new same =
      elim (true_or_false (page == p)) [
        | inl is ↦
            ap (λ b. if b then change.made (new page) else new p) is
            ∙ ap (λ c. change.made c) (subst (λ q. new q ≡ old q) (sym (eqb-true page p is)) same)
            ∙ sym (ap (λ b. if b then change.made (old page) else old p) is)
        | inr other ↦
            ap (λ b. if b then change.made (new page) else new p) other ∙ same
            ∙ sym (ap (λ b. if b then change.made (old page) else old p) other)
      ]

  over_images : (images : List (Image P)) (p : ℕ) (old new : ℕ → P) → (list_any (λ i. i.page == p) images ≡ false → new p ≡ old p)
      → with_images images new p ≡ with_images images old p
  over_images [] p old new h = h refl
  over_images (i ∷ images) p old new h =
      over_images images p (with_page i.page i.content old) (with_page i.page i.content new)
      (λ rest. over i.page p i.content old new (λ other. h (ap (λ b. b || list_any (λ j. j.page == p) images) other ∙ rest)))

  images_apart : (images : List (Image P)) (p : ℕ) (area : ℕ → P) → list_any (λ i. i.page == p) images ≡ false → with_images images area p ≡ area p
  images_apart [] p area h = refl
  images_apart (i ∷ images) p area h =
      images_apart images p (with_page i.page i.content area) (or_none_second (i.page == p) (list_any (λ j. j.page == p) images) h)
      ∙ ap (λ b. if b then i.content else area p) (or_none_first (i.page == p) (list_any (λ j. j.page == p) images) h)

module _ {E P : Type 0} where
  over_record : (r : Record E P) (p : ℕ) (old new : ℕ → P) → (gives p r ≡ false → new p ≡ old p) → redo new r p ≡ redo old r p
  over_record (Pages images counter used) p old new h = over_images images p old new h
  over_record (Adjust page change) p old new h = over_small page p change old new (h refl)
  over_record (Write transaction entry mark after leaf (Whole content)) p old new h = over leaf p content old new h
  over_record (Write transaction entry mark after leaf (Small change)) p old new h = over_small leaf p change old new (h refl)
  over_record (Commit transaction number) p old new h = h refl
  over_record (End transaction) p old new h = h refl
  over_record (Counters number counter used next) p old new h = h refl
  over_record (Note transaction entry mark leaf) p old new h = h refl

  over_records : (rs : List (Record E P)) (p : ℕ) (old new : ℕ → P) → (list_any (gives p) rs ≡ false → new p ≡ old p) → redone new rs p ≡ redone old rs p
  over_records [] p old new h = h refl
  over_records (r ∷ rs) p old new h =
      over_records rs p (redo old r) (redo new r)
      (λ rest. over_record r p old new (λ other. h (ap (λ b. b || list_any (gives p) rs) other ∙ rest)))

  record_apart : (r : Record E P) (p : ℕ) (area : ℕ → P) → speaks_of p r ≡ false → redo area r p ≡ area p
  record_apart (Pages images counter used) p area h = images_apart images p area h
  record_apart (Adjust page change) p area h = ap (λ b. if b then change.made (area page) else area p) h
  record_apart (Write transaction entry mark after leaf said) p area h = ap (λ b. if b then said_over said (area leaf) else area p) h
  record_apart (Commit transaction number) p area h = refl
  record_apart (End transaction) p area h = refl
  record_apart (Counters number counter used next) p area h = refl
  record_apart (Note transaction entry mark leaf) p area h = refl

  -- a page that no record names is unchanged
  pub redone_apart : (rs : List (Record E P)) (p : ℕ) (area : ℕ → P) → list_any (speaks_of p) rs ≡ false → redone area rs p ≡ area p
  redone_apart [] p area h = refl
  redone_apart (r ∷ rs) p area h =
      redone_apart rs p (redo area r) (or_none_second (speaks_of p r) (list_any (speaks_of p) rs) h) ∙ record_apart r p area (or_none_first (speaks_of p r) (list_any (speaks_of p) rs) h)

  -- redo over pages of which some are redone already, or torn, gives the same pages
  pub redone_again : (log : List (Record E P)) (old new : ℕ → P) → AgreesBeside log old new → redone new log ≡ redone old log
  redone_again log old new agrees = fun_ext (λ p. over_records log p old new (agrees p))

module _ {E P : Type 0} (k : Known E P) (l : IsLawful k) where
  -- a log with records that may come is one
  pub coming_log : (area : ℕ → P) (log rs : List (Record E P)) → IsLog k log → MayComeAll k area log rs → IsLog k (log ++ rs)
  coming_log area log [] is come = subst (IsLog k) (sym (append-nil log)) is
  coming_log area log (r ∷ rs) is come =
      subst (IsLog k) (append_assoc log (r ∷ []) rs) (coming_log area (log ++ r ∷ []) rs (log_goes_on k l log r is come.0.follows) come.1)

  -- and its tree is good
  pub coming_good : (area : ℕ → P) (log rs : List (Record E P)) → IsGood k (tree_of k area log) log → MayComeAll k area log rs
      → IsGood k (tree_of k area (log ++ rs)) (log ++ rs)
  coming_good area log [] good come = subst (λ x. IsGood k (tree_of k area x) x) (sym (append-nil log)) good
  coming_good area log (r ∷ rs) good come =
      subst (λ x. IsGood k (tree_of k area x) x) (append_assoc log (r ∷ []) rs) (coming_good area (log ++ r ∷ []) rs come.0.good come.1)

  number_by : (log : List (Record E P)) (r : Record E P) → IsFair k log r → follows k log r ≡ true → number_of k log ≤ number_of k (log ++ r ∷ [])
  number_by log (Pages images counter used) fair f = subst (λ n. number_of k log ≤ n) (sym (ap (λ (a : Analysis E). a.number) (analysis-snoc k log (Pages images counter used)))) (le_refl (number_of k log))
  number_by log (Adjust page change) fair f = subst (λ n. number_of k log ≤ n) (sym (ap (λ (a : Analysis E). a.number) (analysis-snoc k log (Adjust page change)))) (le_refl (number_of k log))
  number_by log (Write transaction entry mark after leaf said) fair f =
      subst (λ n. number_of k log ≤ n) (sym (ap (λ (a : Analysis E). a.number) (analysis-snoc k log (Write transaction entry mark after leaf said)))) (le_refl (number_of k log))
  number_by log (Commit transaction number) fair f =
      subst (λ n. number_of k log ≤ n) (sym (ap (λ (a : Analysis E). a.number) (analysis-snoc k log (Commit transaction number)))) (one_more (number_of k log) number fair.1)
  number_by log (End transaction) fair f = subst (λ n. number_of k log ≤ n) (sym (ap (λ (a : Analysis E). a.number) (analysis-snoc k log (End transaction)))) (le_refl (number_of k log))
  number_by log (Counters number counter used next) fair f = cc
  number_by log (Note transaction entry mark leaf) fair f = cc

  -- a number never falls
  pub number_rises : (log : List (Record E P)) (r : Record E P) → follows k log r ≡ true → number_of k log ≤ number_of k (log ++ r ∷ [])
  number_rises log r f = number_by log r (fair_follows k l log r f) f

  pub numbers_rise : (area : ℕ → P) (log rs : List (Record E P)) → MayComeAll k area log rs → number_of k log ≤ number_of k (log ++ rs)
  numbers_rise area log [] come = subst (λ x. number_of k log ≤ number_of k x) (sym (append-nil log)) (le_refl (number_of k log))
  numbers_rise area log (r ∷ rs) come =
      subst (λ x. number_of k log ≤ number_of k x) (append_assoc log (r ∷ []) rs)
      (through (number_of k log) (number_of k (log ++ r ∷ [])) (number_of k ((log ++ r ∷ []) ++ rs)) (number_rises log r come.0.follows) (numbers_rise area (log ++ r ∷ []) rs come.1))

  -- a record that may come changes no set up to the last number
  pub set_kept : (area : ℕ → P) (log : List (Record E P)) (r : Record E P) → IsLog k log → MayCome k area log r → (number : ℕ) → number ≤ number_of k log → (e : E)
      → set_of k number area (log ++ r ∷ []) e ≡ set_of k number area log e
  set_kept area log r is come number low e =
      set_stays k l area log (told_log k l log is) r (fair_follows k l log r come.follows) come.follows come.exact number low e

  pub sets_kept : (area : ℕ → P) (log rs : List (Record E P)) → IsLog k log → MayComeAll k area log rs → (number : ℕ) → number ≤ number_of k log → (e : E)
      → set_of k number area (log ++ rs) e ≡ set_of k number area log e
  sets_kept area log [] is come number low e = ap (λ x. set_of k number area x e) (append-nil log)
  sets_kept area log (r ∷ rs) is come number low e =
      ap (λ x. set_of k number area x e) (sym (append_assoc log (r ∷ []) rs))
      ∙ sets_kept area (log ++ r ∷ []) rs (log_goes_on k l log r is come.0.follows) come.1 number
      (through number (number_of k log) (number_of k (log ++ r ∷ [])) low (number_rises log r come.0.follows)) e
      ∙ set_kept area log r is come.0 number low e

  -- what a log stands for is the set of its number
  pub stands_as : (area : ℕ → P) (log : List (Record E P)) → IsLog k log → (e : E) → stands_for k area log e ≡ set_of k (number_of k log) area log e
  stands_as area log is e = sym (last_set k l area log (told_log k l log is) (number_of k log) (le_refl (number_of k log)) e)

  pub coming-append : (area : ℕ → P) (log xs ys : List (Record E P)) → MayComeAll k area log xs → MayComeAll k area (log ++ xs) ys → MayComeAll k area log (xs ++ ys)
  coming-append area log [] ys p q = subst (λ x. MayComeAll k area x ys) (append-nil log) q
  coming-append area log (x ∷ xs) ys p q =
      (p.0, coming-append area (log ++ x ∷ []) xs ys p.1 (subst (λ b. MayComeAll k area b ys) (sym (append_assoc log (x ∷ []) xs)) q))

  pub coming_first : (area : ℕ → P) (log xs ys : List (Record E P)) → MayComeAll k area log (xs ++ ys) → MayComeAll k area log xs
  coming_first area log [] ys p = tt
  coming_first area log (x ∷ xs) ys p = (p.0, coming_first area (log ++ x ∷ []) xs ys p.1)

  pub coming_second : (area : ℕ → P) (log xs ys : List (Record E P)) → MayComeAll k area log (xs ++ ys) → MayComeAll k area (log ++ xs) ys
  coming_second area log [] ys p = subst (λ x. MayComeAll k area x ys) (sym (append-nil log)) p
  coming_second area log (x ∷ xs) ys p =
      subst (λ b. MayComeAll k area b ys) (append_assoc log (x ∷ []) xs) (coming_second area (log ++ x ∷ []) xs ys p.1)

  -- the pages after a log do not depend on the pages that it gives whole
  pub redone_agrees : (log more : List (Record E P)) (old new : ℕ → P) → AgreesBeside log old new → redone new (log ++ more) ≡ redone old (log ++ more)
  redone_agrees log more old new agrees =
      redone-append k new log more ∙ ap (λ (area : ℕ → P). redone area more) (fun_ext (λ p. over_records log p old new (agrees p))) ∙ sym (redone-append k old log more)

  pub tree_agrees : (log more : List (Record E P)) (old new : ℕ → P) → AgreesBeside log old new → tree_of k new (log ++ more) ≡ tree_of k old (log ++ more)
  tree_agrees log more old new agrees =
      ap (λ (page : ℕ → P). record { page = page; counter = (analysis k (log ++ more)).counter; used = (analysis k (log ++ more)).used }) (redone_agrees log more old new agrees)

  -- so what may come, may come over pages that agree beside the log
  coming_agrees : (log done rs : List (Record E P)) (old new : ℕ → P) → AgreesBeside log old new → MayComeAll k old (log ++ done) rs → MayComeAll k new (log ++ done) rs
  coming_agrees log done [] old new agrees come = tt
  coming_agrees log done (r ∷ rs) old new agrees come =
      let grown : (log ++ done) ++ r ∷ [] ≡ log ++ (done ++ r ∷ []) = append_assoc log done (r ∷ []) in
      let before : tree_of k new (log ++ done) ≡ tree_of k old (log ++ done) = tree_agrees log done old new agrees in
      let after : tree_of k new ((log ++ done) ++ r ∷ []) ≡ tree_of k old ((log ++ done) ++ r ∷ []) =
      ap (λ (x : List (Record E P)). tree_of k new x) grown ∙ tree_agrees log (done ++ r ∷ []) old new agrees ∙ sym (ap (λ (x : List (Record E P)). tree_of k old x) grown) in (
        record {
          follows = come.0.follows;
          exact = subst (λ (t : Tree P). IsExact k (log ++ done) t (tree_of k new ((log ++ done) ++ r ∷ [])) r) (sym before)
              (subst (λ (t : Tree P). IsExact k (log ++ done) (tree_of k old (log ++ done)) t r) (sym after) come.0.exact);
          good = subst (λ (t : Tree P). IsGood k t ((log ++ done) ++ r ∷ [])) (sym after) come.0.good;
        },
        subst (λ x. MayComeAll k new x rs) (sym grown) (coming_agrees log (done ++ r ∷ []) rs old new agrees (subst (λ x. MayComeAll k old x rs) grown come.1)),
      )

  pub coming_over : (log rs : List (Record E P)) (old new : ℕ → P) → AgreesBeside log old new → MayComeAll k old log rs → MayComeAll k new log rs
  coming_over log rs old new agrees come =
      subst (λ x. MayComeAll k new x rs) (append-nil log) (coming_agrees log [] rs old new agrees (subst (λ x. MayComeAll k old x rs) (sym (append-nil log)) come))
