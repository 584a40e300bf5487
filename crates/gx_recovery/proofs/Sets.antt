-- One record more: no set changes that a log stands for or keeps, but a commit adds its transaction's view.
use Rattle.std.proofs.Common.{◌≡◌, ℕ, ◌+◌, ◌≤◌, ◌<◌, Bool, true, false, not, ◌&&◌, ◌||◌, ◌⊎◌, inl, inr, List, [], ◌∷◌, ◌++◌, Option, Some, None, refl, ap, sym, ◌∙◌, subst, arith}
use Rattle.std.specs.Prelude.{◌==◌, nat_le, if◌then◌else◌, is_some}
use Rattle.std.specs.Option.{option_or}
use Rattle.std.specs.Cmp.{nat_eq_equiv}
use Rattle.std.proofs.Math.Path.{fun_ext}
use Rattle.std.proofs.Math.Bool.{and-false, and-true}
use Rattle.std.proofs.lemmas.Bool.{lt-leb}
use Rattle.std.proofs.Common.{le_refl}
use Rattle.gx_recovery.specs.Known.{Known, IsLawful, Tree, same}
use Rattle.gx_recovery.specs.Records.{Said, Record, Pages, Adjust, Write, Commit, End, Counters, Note, touch_of, closes, settled, any_number}
use Rattle.gx_recovery.specs.Analysis.{Analysis, analysis, number_of, lists}
use Rattle.gx_recovery.specs.Redo.{tree_of}
use Rattle.gx_recovery.specs.Standing.{first_before, own_before, by_mark, counting, stands, stands_for, set_of, view_of}
use Rattle.gx_recovery.specs.Damage.{follows}
use Rattle.gx_recovery.specs.Coming.{IsExact, Restored}
use Rattle.gx_recovery.proofs.Tests.{or_none_first, or_none_second, itself}
use Rattle.gx_recovery.proofs.Folds.{or-none, analysis-snoc, settled-snoc, tree-snoc}
use Rattle.gx_recovery.proofs.Touches.{same_is}
use Rattle.gx_recovery.proofs.Lookups.{marked, lookup_none}
use Rattle.gx_recovery.proofs.Fair.{IsFair}
use Rattle.gx_recovery.proofs.Told.{Told, but, first_touch, settled_shut}

marked_write : (a : Option Bool) (s b live new : Bool) → (s ≡ true → live ≡ not b) → (s ≡ false → new ≡ live) → by_mark (option_or a (marked s b)) new ≡ by_mark a live
marked_write None true b live new found others = sym (found refl)
marked_write None false b live new found others = others refl
marked_write (Some x) s b live new found others = refl

above_all : (number last sealed : ℕ) → number ≤ last → sealed ≡ last + 1 → number < sealed
above_all number last sealed low h = omega arith

not_or : (s c : Bool) → not (s || c) ≡ (not c && not s)
not_or true true = refl
not_or true false = refl
not_or false true = refl
not_or false false = refl

and_swap : (a b : Bool) → (a && b) ≡ (b && a)
and_swap true true = refl
and_swap true false = refl
and_swap false true = refl
and_swap false false = refl

module _ {E P : Type 0} (k : Known E P) (l : IsLawful k) where
  closes_less : (passes : ℕ → Bool) (t : ℕ) (r : Record E P) → closes any_number t r ≡ false → closes passes t r ≡ false
  closes_less passes t (Pages images counter used) h = refl
  closes_less passes t (Adjust page change) h = refl
  closes_less passes t (Write transaction entry mark after leaf said) h = refl
  closes_less passes t (Commit transaction number) h = ap (λ b. b && passes number) (sym (and-true (transaction == t)) ∙ h)
  closes_less passes t (End transaction) h = h
  closes_less passes t (Counters number counter used next) h = refl
  closes_less passes t (Note transaction entry mark leaf) h = refl

  -- a transaction that isn't closed at all isn't closed by the numbers that pass
  pub settled_less : (passes : ℕ → Bool) (t : ℕ) (log : List (Record E P)) → settled any_number t log ≡ false → settled passes t log ≡ false
  settled_less passes t [] h = refl
  settled_less passes t (r ∷ rs) h =
      ap (λ b. b || settled passes t rs) (closes_less passes t r (or_none_first (closes any_number t r) (settled any_number t rs) h))
      ∙ settled_less passes t rs (or_none_second (closes any_number t r) (settled any_number t rs) h)

  -- after a record that closes nothing, the same count
  counting_same : (passes : ℕ → Bool) (log : List (Record E P)) (r : Record E P) → ((t : ℕ) → closes passes t r ≡ false) → counting passes (log ++ r ∷ []) ≡ counting passes log
  counting_same passes log r h = fun_ext (λ t. ap not (settled_shut k l passes t log r (h t)))

  -- after a record that closes a transaction, all count but that one
  counting_but : (passes : ℕ → Bool) (log : List (Record E P)) (r : Record E P) (u : ℕ) → ((t : ℕ) → closes passes t r ≡ (u == t))
      → (t : ℕ) → counting passes (log ++ r ∷ []) t ≡ (not (u == t) && counting passes log t)
  counting_but passes log r u h t =
      ap not (settled-snoc k passes t log r ∙ ap (λ b. settled passes t log || b) (h t)) ∙ not_or (settled passes t log) (u == t)

  but_turned : (passes : ℕ → Bool) (log : List (Record E P)) (r : Record E P) (u : ℕ) → ((t : ℕ) → closes passes t r ≡ (u == t)) → counting passes (log ++ r ∷ []) ≡ but (counting passes log) u
  but_turned passes log r u h = fun_ext (λ t. counting_but passes log r u h t ∙ ap (λ b. not b && counting passes log t) (nat_eq_equiv.symm u t))

  -- an untouched entry's first mark before, with the same who count
  first_same : (passes : ℕ → Bool) (e : E) (log : List (Record E P)) (r : Record E P) → touch_of r ≡ None → ((t : ℕ) → closes passes t r ≡ false)
      → first_before k (counting passes (log ++ r ∷ [])) e (log ++ r ∷ []) ≡ first_before k (counting passes log) e log
  first_same passes e log r touch h =
      ap (λ (c : ℕ → Bool). first_before k c e (log ++ r ∷ [])) (counting_same passes log r h)
      ∙ first_touch k l (counting passes log) e log r None touch ∙ or-none (first_before k (counting passes log) e log)

  first_but : (passes : ℕ → Bool) (e : E) (log : List (Record E P)) (r : Record E P) (u : ℕ) → touch_of r ≡ None → ((t : ℕ) → closes passes t r ≡ (u == t))
      → first_before k (counting passes (log ++ r ∷ [])) e (log ++ r ∷ []) ≡ first_before k (but (counting passes log) u) e log
  first_but passes e log r u touch h =
      ap (λ (c : ℕ → Bool). first_before k c e (log ++ r ∷ [])) (but_turned passes log r u h)
      ∙ first_touch k l (but (counting passes log) u) e log r None touch ∙ or-none (first_before k (but (counting passes log) u) e log)

  module _ (area : ℕ → P) (log : List (Record E P)) (i : Told k log) where
    write_keeps : (passes : ℕ → Bool) (e : E) (transaction : ℕ) (entry : E) (mark after : Bool) (leaf : ℕ) (said : Said P)
        → settled any_number transaction log ≡ false → IsExact k log (tree_of k area log) (tree_of k area (log ++ Write transaction entry mark after leaf said ∷ [])) (Write transaction entry mark after leaf said)
        → stands k passes area (log ++ Write transaction entry mark after leaf said ∷ []) e ≡ stands k passes area log e
    write_keeps passes e transaction entry mark after leaf said open_yet exact =
        let r : Record E P = Write transaction entry mark after leaf said in
        let live : Bool = k.live (tree_of k area (log ++ r ∷ [])) e in
        let a : Option Bool = first_before k (counting passes log) e log in
        ap (λ (c : ℕ → Bool). by_mark (first_before k c e (log ++ r ∷ [])) live) (counting_same passes log r (λ t. refl))
        ∙ ap (λ o. by_mark o live) (first_touch k l (counting passes log) e log r (Some (record { transaction = transaction; entry = entry; before = mark; leaf = leaf })) refl)
        ∙ ap (λ b. by_mark (option_or a (marked (not b && same k e entry) mark)) live) (settled_less passes transaction log open_yet)
        ∙ marked_write a (same k e entry) mark (k.live (tree_of k area log) e) live
        (λ h. ap (k.live (tree_of k area log)) (same_is k l e entry h) ∙ exact.found) (λ h. exact.others e h)

    restored_own : (own : Option Bool) (live : Bool) → ((x : Bool) → own ≡ Some x → live ≡ not x) → live ≡ by_mark own live
    restored_own None live restored = refl
    restored_own (Some x) live restored = restored x refl

    restored_keeps : (passes : ℕ → Bool) (e : E) (t : ℕ) (a b own : Option Bool) (live : Bool) → (a ≡ b) ⊎ ((b ≡ None) × (a ≡ own) × (counting passes log t ≡ true))
        → ((x : Bool) → own ≡ Some x → live ≡ not x) → by_mark b live ≡ by_mark a live
    restored_keeps passes e t a b own live h restored =
        elim h [
          | inl p ↦ ap (λ o. by_mark o live) (sym p)
          | inr p ↦ ap (λ o. by_mark o live) p.0 ∙ restored_own own live restored ∙ ap (λ o. by_mark o live) (sym p.1)
        ]

    end_keeps : (passes : ℕ → Bool) (e : E) (t : ℕ) → settled any_number t log ≡ false → Restored k t (tree_of k area log) log e
        → stands k passes area (log ++ End t ∷ []) e ≡ stands k passes area log e
    end_keeps passes e t open_yet restored =
        let r : Record E P = End t in
        ap (λ (tree : Tree P). by_mark (first_before k (counting passes (log ++ r ∷ [])) e (log ++ r ∷ [])) (k.live tree e)) (tree-snoc k area log r)
        ∙ ap (λ o. by_mark o (k.live (tree_of k area log) e)) (first_but passes e log r t refl (λ u. refl))
        ∙ restored_keeps passes e t (first_before k (counting passes log) e log) (first_before k (but (counting passes log) t) e log) (own_before k t e log)
        (k.live (tree_of k area log) e) (i.spared (counting passes log) t e open_yet) restored

    -- a record that may come changes no set up to the last number
    pub set_stays : (r : Record E P) → IsFair k log r → follows k log r ≡ true → IsExact k log (tree_of k area log) (tree_of k area (log ++ r ∷ [])) r → (number : ℕ) → number ≤ number_of k log → (e : E)
        → set_of k number area (log ++ r ∷ []) e ≡ set_of k number area log e
    set_stays (Pages images counter used) fair f exact number low e =
        let r : Record E P = Pages images counter used in
        ap (λ o. by_mark o (k.live (tree_of k area (log ++ r ∷ [])) e)) (first_same (λ n. nat_le n number) e log r refl (λ t. refl))
        ∙ ap (by_mark (first_before k (counting (λ n. nat_le n number) log) e log)) (exact e)
    set_stays (Adjust page change) fair f exact number low e =
        let r : Record E P = Adjust page change in
        ap (λ o. by_mark o (k.live (tree_of k area (log ++ r ∷ [])) e)) (first_same (λ n. nat_le n number) e log r refl (λ t. refl))
        ∙ ap (by_mark (first_before k (counting (λ n. nat_le n number) log) e log)) (exact e)
    set_stays (Write transaction entry mark after leaf said) fair f exact number low e =
        write_keeps (λ n. nat_le n number) e transaction entry mark after leaf said fair.open_yet exact
    set_stays (Commit transaction sealed) fair f exact number low e =
        let r : Record E P = Commit transaction sealed in
        let above : nat_le sealed number ≡ false = lt-leb sealed number (above_all number (number_of k log) sealed low fair.1) in
        ap (λ (tree : Tree P). by_mark (first_before k (counting (λ n. nat_le n number) (log ++ r ∷ [])) e (log ++ r ∷ [])) (k.live tree e)) (tree-snoc k area log r)
        ∙ ap (λ o. by_mark o (k.live (tree_of k area log) e))
        (first_same (λ n. nat_le n number) e log r refl (λ t. ap (λ b. transaction == t && b) above ∙ and-false (transaction == t)))
    set_stays (End transaction) fair f exact number low e = end_keeps (λ n. nat_le n number) e transaction fair (exact e)
    set_stays (Counters number counter used next) fair f exact m low e = cc
    set_stays (Note transaction entry mark leaf) fair f exact number low e = cc

    -- the set of the last number is what the log stands for
    pub last_set : (number : ℕ) → number_of k log ≤ number → (e : E) → set_of k number area log e ≡ stands_for k area log e
    last_set number high e =
        ap (λ (c : ℕ → Bool). by_mark (first_before k c e log) (k.live (tree_of k area log) e)) (fun_ext (λ t. ap not (i.numbered number t high)))

    view_by : (t : ℕ) (e : E) (a b own : Option Bool) (live : Bool) → (a ≡ b) ⊎ ((b ≡ None) × (a ≡ own) × (counting any_number log t ≡ true))
        → (is_some own ≡ true → b ≡ None) → by_mark b live ≡ (if is_some own then live else by_mark a live)
    view_by t e a b (Some x) live h alone = ap (λ o. by_mark o live) (alone refl)
    view_by t e a b None live h alone =
        elim h [
          | inl p ↦ ap (λ o. by_mark o live) (sym p)
          | inr p ↦ ap (λ o. by_mark o live) (p.0 ∙ sym p.1)
        ]

    -- where an open transaction touched the entry, no other open one has
    alone_open : (t : ℕ) (e : E) → settled any_number t log ≡ false → is_some (own_before k t e log) ≡ true → first_before k (but (counting any_number log) t) e log ≡ None
    alone_open t e open_yet own =
        let here : lists k t e (analysis k log).touched ≡ true = i.listed t e ∙ ap (λ b. not b && is_some (own_before k t e log)) open_yet ∙ own in
        ap (λ (c : ℕ → Bool). first_before k c e log) (fun_ext (λ u. and_swap (not (u == t)) (counting any_number log u)))
        ∙ i.looked (λ u. not (u == t)) e
        ∙ lookup_none k l (λ u. not (u == t)) e (analysis k log).touched (λ u h. ap (λ b. not b) (ap (λ m. m == t) (i.apart u t e h here) ∙ itself t))

    -- a commit's set is the view of its transaction
    pub commit_makes_view : (t number : ℕ) → Told k (log ++ Commit t number ∷ []) → settled any_number t log ≡ false → (e : E)
        → set_of k number area (log ++ Commit t number ∷ []) e ≡ view_of k t area log e
    commit_makes_view t number after open_yet e =
        let r : Record E P = Commit t number in
        let now : number_of k (log ++ r ∷ []) ≡ number = ap (λ (a : Analysis E). a.number) (analysis-snoc k log r) in
        let live : Bool = k.live (tree_of k area log) e in
        let c : ℕ → Bool = counting any_number log in
        ap (λ (d : ℕ → Bool). by_mark (first_before k d e (log ++ r ∷ [])) (k.live (tree_of k area (log ++ r ∷ [])) e))
        (fun_ext (λ u. ap not (after.numbered number u (subst (λ x. x ≤ number) (sym now) (le_refl number)))))
        ∙ ap (λ (tree : Tree P). by_mark (first_before k (counting any_number (log ++ r ∷ [])) e (log ++ r ∷ [])) (k.live tree e)) (tree-snoc k area log r)
        ∙ ap (λ o. by_mark o live) (first_but any_number e log r t refl (λ u. and-true (t == u)))
        ∙ view_by t e (first_before k c e log) (first_before k (but c t) e log) (own_before k t e log) live (i.spared c t e open_yet) (alone_open t e open_yet)
        ∙ ap (λ b. if is_some (own_before k t e log) then live else b) (sym (last_set (number_of k log) (le_refl (number_of k log)) e))
