-- Laws of every log: how its touched entries, its first marks before and its closed transactions fit together.
use Rattle.std.proofs.Common.{◌≡◌, ℕ, ◌+◌, ◌≤◌, Bool, true, false, not, ◌&&◌, ◌||◌, ◌⊎◌, inl, inr, List, [], ◌∷◌, ◌++◌, Option, Some, None, refl, ap, sym, ◌∙◌, subst, arith}
use Rattle.std.specs.Prelude.{◌==◌, nat_le, is_some}
use Rattle.std.specs.Option.{option_or}
use Rattle.std.specs.Cmp.{nat_eq_equiv}
use Rattle.std.proofs.Math.Path.{fun_ext}
use Rattle.std.proofs.Math.Bool.{or-false, and-true}
use Rattle.std.proofs.lemmas.Bool.{eqb-true, le-leb}
use Rattle.gx_recovery.specs.Known.{Known, IsLawful, same}
use Rattle.gx_recovery.specs.Records.{Record, Pages, Adjust, Write, Commit, End, Counters, Note, Touch, touch_of, closes, settled, any_number}
use Rattle.gx_recovery.specs.Analysis.{Analysis, analysis, number_of, touching, without, lists}
use Rattle.gx_recovery.specs.Standing.{first_before, mark_before, own_before}
use Rattle.gx_recovery.proofs.Tests.{and_first, and_second, or_none_first, itself}
use Rattle.gx_recovery.proofs.Folds.{or-none, analysis-snoc, first-snoc, settled-snoc}
use Rattle.gx_recovery.proofs.Touches.{InOrder, Apart, lookup, in_order_touching, in_order_filter, lists-touching, lists-without, lists_more, apart_fewer, same_is, same_itself}
use Rattle.gx_recovery.proofs.Lookups.{marked, lookup-touching, lookup-without}
use Rattle.gx_recovery.proofs.Fair.{IsFairTouch, IsFair}

-- those who count but for one transaction
abbrev pub but : (ℕ → Bool) → ℕ → ℕ → Bool
but c t = λ u. not (u == t) && c u

-- Where an open transaction no longer counts, the first mark before stays; or there is none then, and it was its own.
abbrev pub Spared : {E P : Type 0} → Known E P → (ℕ → Bool) → ℕ → E → List (Record E P) → Type 0
Spared k c t e log =
    (first_before k c e log ≡ first_before k (but c t) e log)
    ⊎ ((first_before k (but c t) e log ≡ None) × (first_before k c e log ≡ own_before k t e log) × (c t ≡ true))

pub record Told {E P : Type 0} (k : Known E P) (log : List (Record E P)) : Type 0 where
  pub in_order : InOrder k (analysis k log).touched
  pub apart : Apart k (analysis k log).touched
  pub listed : (t : ℕ) (e : E) → lists k t e (analysis k log).touched ≡ (not (settled any_number t log) && is_some (own_before k t e log))
  pub spared : (c : ℕ → Bool) (t : ℕ) (e : E) → settled any_number t log ≡ false → Spared k c t e log
  pub looked : (c : ℕ → Bool) (e : E) → first_before k (λ u. not (settled any_number u log) && c u) e log ≡ lookup k c e (analysis k log).touched
  pub numbered : (m t : ℕ) → number_of k log ≤ m → settled (λ n. nat_le n m) t log ≡ settled any_number t log

-- a record that touches; that closes a transaction; and another
record IsTouching {E P : Type 0} (k : Known E P) (log : List (Record E P)) (r : Record E P) (n : Touch E) : Type 0 where
  touch : touch_of r ≡ Some n
  shut : (passes : ℕ → Bool) (t : ℕ) → closes passes t r ≡ false
  touched : (analysis k (log ++ r ∷ [])).touched ≡ touching k n (analysis k log).touched
  number : number_of k (log ++ r ∷ []) ≡ number_of k log
  fair : IsFairTouch k log n

record IsClosing {E P : Type 0} (k : Known E P) (log : List (Record E P)) (r : Record E P) (u : ℕ) : Type 0 where
  touch : touch_of r ≡ None
  shut : (t : ℕ) → closes any_number t r ≡ (u == t)
  touched : (analysis k (log ++ r ∷ [])).touched ≡ without u (analysis k log).touched

record IsQuiet {E P : Type 0} (k : Known E P) (log : List (Record E P)) (r : Record E P) : Type 0 where
  touch : touch_of r ≡ None
  shut : (passes : ℕ → Bool) (t : ℕ) → closes passes t r ≡ false
  touched : (analysis k (log ++ r ∷ [])).touched ≡ (analysis k log).touched

listed_more : (hit s : Bool) (f : Option Bool) (b : Bool) → (hit ≡ true → s ≡ false) → (hit || (not s && is_some f)) ≡ (not s && is_some (option_or f (marked hit b)))
listed_more true true f b h = let no : true ≡ false = h refl in cc
listed_more true false None b h = refl
listed_more true false (Some x) b h = refl
listed_more false s None b h = refl
listed_more false s (Some x) b h = refl

listed_fewer : (c s f : Bool) → (not c && (not s && f)) ≡ (not (s || c) && f)
listed_fewer true true f = refl
listed_fewer true false f = refl
listed_fewer false true f = refl
listed_fewer false false f = refl

counts_fewer : (s c f : Bool) → (not (s || c) && f) ≡ (not s && (not c && f))
counts_fewer true c f = refl
counts_fewer false true f = refl
counts_fewer false false f = refl

-- who is spared by one touch more: q says that the touch is the transaction's, s that it is of the entry
abbrev SparedBy : Option Bool → Option Bool → Option Bool → Bool → Type 0
SparedBy a b f ct = (a ≡ b) ⊎ ((b ≡ None) × (a ≡ f) × (ct ≡ true))

spared_none : (a b f : Option Bool) (ct : Bool) → SparedBy a b f ct → SparedBy (option_or a None) (option_or b None) (option_or f None) ct
spared_none a b f ct h =
    elim h [
      | inl p ↦ inl (ap (λ o. option_or o None) p)
      | inr p ↦ inr (or-none b ∙ p.0, ap (λ o. option_or o None) p.1, p.2)
    ]

spared_own : (a b f : Option Bool) (ct mark : Bool) → SparedBy a b f ct → (a ≡ None → ct ≡ true → f ≡ None) → ct ≡ true
    → SparedBy (option_or a (Some mark)) (option_or b None) (option_or f (Some mark)) ct
spared_own None b f ct mark h none is =
    elim h [
      | inl p ↦ inr (or-none b ∙ sym p, ap (λ o. option_or o (Some mark)) (sym (none refl is)), is)
      | inr p ↦ inr (or-none b ∙ p.0, ap (λ o. option_or o (Some mark)) p.1, is)
    ]
spared_own (Some x) b f ct mark h none is =
    elim h [
      | inl p ↦ inl (p ∙ sym (or-none b))
      | inr p ↦ inr (or-none b ∙ p.0, ap (λ o. option_or o (Some mark)) p.1, is)
    ]

spared_other : (a b f : Option Bool) (ct mark : Bool) → SparedBy a b f ct → ((x : Bool) → f ≡ Some x → false ≡ true)
    → SparedBy (option_or a (Some mark)) (option_or b (Some mark)) (option_or f None) ct
spared_other a b None ct mark h apart =
    elim h [
      | inl p ↦ inl (ap (λ o. option_or o (Some mark)) p)
      | inr p ↦ inl (ap (λ o. option_or o (Some mark)) (p.1 ∙ sym p.0))
    ]
spared_other a b (Some x) ct mark h apart = let no : false ≡ true = apart x refl in cc

spared_more : (a b f : Option Bool) (ct q s cn mark : Bool) → SparedBy a b f ct → (a ≡ None → ct ≡ true → f ≡ None) → (q ≡ true → cn ≡ ct)
    → (s ≡ true → (x : Bool) → f ≡ Some x → q ≡ true)
    → SparedBy (option_or a (marked (cn && s) mark)) (option_or b (marked ((not q && cn) && s) mark)) (option_or f (marked (q && s) mark)) ct
spared_more a b f ct true true true mark h none owned apart = spared_own a b f ct mark h none (sym (owned refl))
spared_more a b f ct true true false mark h none owned apart =
    elim h [
      | inl p ↦ inl (ap (λ o. option_or o None) p)
      | inr p ↦ let no : false ≡ true = owned refl ∙ p.2 in let never : ⊥ = cc in absurd never
    ]
spared_more a b f ct true false true mark h none owned apart = spared_none a b f ct h
spared_more a b f ct true false false mark h none owned apart = spared_none a b f ct h
spared_more a b f ct false true true mark h none owned apart = spared_other a b f ct mark h (apart refl)
spared_more a b f ct false true false mark h none owned apart = spared_none a b f ct h
spared_more a b f ct false false true mark h none owned apart = spared_none a b f ct h
spared_more a b f ct false false false mark h none owned apart = spared_none a b f ct h

before_at : (old new m : ℕ) → new ≡ old + 1 → new ≤ m → old ≤ m
before_at old new m h g = omega arith

none_marked : (q s cn mark : Bool) (rest own : Option Bool) → (q ≡ true → cn ≡ true) → option_or (marked (cn && s) mark) rest ≡ None → (rest ≡ None → own ≡ None)
    → option_or (marked (q && s) mark) own ≡ None
none_marked true true true mark rest own c h more = cc
none_marked true true false mark rest own c h more = let no : false ≡ true = c refl in cc
none_marked true false true mark rest own c h more = more h
none_marked true false false mark rest own c h more = more h
none_marked false true true mark rest own c h more = cc
none_marked false true false mark rest own c h more = more h
none_marked false false true mark rest own c h more = more h
none_marked false false false mark rest own c h more = more h

module _ {E P : Type 0} (k : Known E P) (l : IsLawful k) where
  none_at : (c : ℕ → Bool) (t : ℕ) (e : E) (touch : Option (Touch E)) (rest own : Option Bool) → c t ≡ true → option_or (mark_before k c e touch) rest ≡ None
      → (rest ≡ None → own ≡ None) → option_or (mark_before k (λ u. u == t) e touch) own ≡ None
  none_at c t e None rest own counts h more = more h
  none_at c t e (Some n) rest own counts h more =
      none_marked (n.transaction == t) (same k e n.entry) (c n.transaction) n.before rest own
      (λ q. ap c (eqb-true n.transaction t q) ∙ counts) h more

  -- if nothing is found among those that count, none of them has something itself
  pub none_own : (c : ℕ → Bool) (t : ℕ) (e : E) (log : List (Record E P)) → c t ≡ true → first_before k c e log ≡ None → own_before k t e log ≡ None
  none_own c t e [] counts h = refl
  none_own c t e (r ∷ rs) counts h =
      none_at c t e (touch_of r) (first_before k c e rs) (own_before k t e rs) counts h (none_own c t e rs counts)

  pub first_touch : (c : ℕ → Bool) (e : E) (log : List (Record E P)) (r : Record E P) (touch : Option (Touch E)) → touch_of r ≡ touch
      → first_before k c e (log ++ r ∷ []) ≡ option_or (first_before k c e log) (mark_before k c e touch)
  first_touch c e log r touch h = first-snoc k c e log r ∙ ap (λ o. option_or (first_before k c e log) (mark_before k c e o)) h

  pub settled_shut : (passes : ℕ → Bool) (t : ℕ) (log : List (Record E P)) (r : Record E P) → closes passes t r ≡ false → settled passes t (log ++ r ∷ []) ≡ settled passes t log
  settled_shut passes t log r h = settled-snoc k passes t log r ∙ ap (λ b. settled passes t log || b) h ∙ or-false (settled passes t log)

  module _ (log : List (Record E P)) (r : Record E P) (i : Told k log) where
    spared_as : (c : ℕ → Bool) (t : ℕ) (e : E) (touch : Option (Touch E)) → touch_of r ≡ touch
        → SparedBy (option_or (first_before k c e log) (mark_before k c e touch)) (option_or (first_before k (but c t) e log) (mark_before k (but c t) e touch))
        (option_or (own_before k t e log) (mark_before k (λ u. u == t) e touch)) (c t)
        → Spared k c t e (log ++ r ∷ [])
    spared_as c t e touch is h =
        elim h [
          | inl p ↦ inl (first_touch c e log r touch is ∙ p ∙ sym (first_touch (but c t) e log r touch is))
          | inr p ↦ inr (first_touch (but c t) e log r touch is ∙ p.0, first_touch c e log r touch is ∙ p.1 ∙ sym (first_touch (λ u. u == t) e log r touch is), p.2)
        ]

    module _ (n : Touch E) (w : IsTouching k log r n) where
      alone : (u : ℕ) → lists k u n.entry (analysis k log).touched ≡ true → n.transaction ≡ u
      alone u h =
          let here : lists k n.transaction n.entry (touching k n (analysis k log).touched) ≡ true =
          lists-touching k l n.transaction n.entry n (analysis k log).touched
          ∙ ap (λ b. (b && same k n.entry n.entry) || lists k n.transaction n.entry (analysis k log).touched) (itself n.transaction)
          ∙ ap (λ b. b || lists k n.transaction n.entry (analysis k log).touched) (same_itself k l n.entry) in
          w.fair.apart n.transaction u n.entry here (lists_more k l n (analysis k log).touched u n.entry h)

      listed_touch : (t : ℕ) (e : E) → lists k t e (analysis k (log ++ r ∷ [])).touched ≡ (not (settled any_number t (log ++ r ∷ [])) && is_some (own_before k t e (log ++ r ∷ [])))
      listed_touch t e =
          ap (lists k t e) w.touched ∙ lists-touching k l t e n (analysis k log).touched
          ∙ ap (λ b. (n.transaction == t && same k e n.entry) || b) (i.listed t e)
          ∙ listed_more (n.transaction == t && same k e n.entry) (settled any_number t log) (own_before k t e log) n.before
          (λ h. ap (λ u. settled any_number u log) (sym (eqb-true n.transaction t (and_first (n.transaction == t) (same k e n.entry) h))) ∙ w.fair.open_yet)
          ∙ ap (λ b. not b && is_some (option_or (own_before k t e log) (mark_before k (λ u. u == t) e (Some n)))) (sym (settled_shut any_number t log r (w.shut any_number t)))
          ∙ ap (λ o. not (settled any_number t (log ++ r ∷ [])) && is_some o) (sym (first_touch (λ u. u == t) e log r (Some n) w.touch))

      spared_apart : (t : ℕ) (e : E) → settled any_number t log ≡ false → same k e n.entry ≡ true → (x : Bool) → own_before k t e log ≡ Some x → (n.transaction == t) ≡ true
      spared_apart t e open_yet is x own =
          let here : lists k t e (analysis k log).touched ≡ true =
          i.listed t e ∙ ap (λ b. not b && is_some (own_before k t e log)) open_yet ∙ ap is_some own in
          let one : n.transaction ≡ t = alone t (ap (λ z. lists k t z (analysis k log).touched) (sym (same_is k l e n.entry is)) ∙ here) in
          ap (λ m. m == t) one ∙ itself t

      spared_touch : (c : ℕ → Bool) (t : ℕ) (e : E) → settled any_number t (log ++ r ∷ []) ≡ false → Spared k c t e (log ++ r ∷ [])
      spared_touch c t e open_now =
          let open_yet : settled any_number t log ≡ false = sym (settled_shut any_number t log r (w.shut any_number t)) ∙ open_now in
          let more : SparedBy (option_or (first_before k c e log) (mark_before k c e (Some n))) (option_or (first_before k (but c t) e log) (mark_before k (but c t) e (Some n)))
          (option_or (own_before k t e log) (mark_before k (λ u. u == t) e (Some n))) (c t) =
          spared_more (first_before k c e log) (first_before k (but c t) e log) (own_before k t e log) (c t) (n.transaction == t) (same k e n.entry) (c n.transaction) n.before
          (i.spared c t e open_yet) (λ none counts. none_own c t e log counts none) (λ q. ap c (eqb-true n.transaction t q)) (spared_apart t e open_yet) in
          spared_as c t e (Some n) w.touch more

      looked_touch : (c : ℕ → Bool) (e : E) → first_before k (λ u. not (settled any_number u (log ++ r ∷ [])) && c u) e (log ++ r ∷ []) ≡ lookup k c e (analysis k (log ++ r ∷ [])).touched
      looked_touch c e =
          ap (λ (f : ℕ → Bool). first_before k f e (log ++ r ∷ [])) (fun_ext (λ u. ap (λ b. not b && c u) (settled_shut any_number u log r (w.shut any_number u))))
          ∙ first_touch (λ u. not (settled any_number u log) && c u) e log r (Some n) w.touch
          ∙ ap (λ o. option_or o (marked ((not (settled any_number n.transaction log) && c n.transaction) && same k e n.entry) n.before)) (i.looked c e)
          ∙ ap (λ b. option_or (lookup k c e (analysis k log).touched) (marked ((not b && c n.transaction) && same k e n.entry) n.before)) w.fair.open_yet
          ∙ sym (lookup-touching k l c e n (analysis k log).touched i.in_order alone)
          ∙ ap (lookup k c e) (sym w.touched)

      told_touch : Told k (log ++ r ∷ [])
      told_touch = record {
        in_order = subst (InOrder k) (sym w.touched) (in_order_touching k l n (analysis k log).touched i.in_order);
        apart = subst (Apart k) (sym w.touched) w.fair.apart;
        listed = listed_touch;
        spared = spared_touch;
        looked = looked_touch;
        numbered = λ m t h.
            settled_shut (λ n. nat_le n m) t log r (w.shut (λ n. nat_le n m) t) ∙ i.numbered m t (subst (λ x. x ≤ m) w.number h)
            ∙ sym (settled_shut any_number t log r (w.shut any_number t));
      }

    spared_untouched : (c : ℕ → Bool) (t : ℕ) (e : E) → touch_of r ≡ None → settled any_number t (log ++ r ∷ []) ≡ false → Spared k c t e (log ++ r ∷ [])
    spared_untouched c t e is open_now =
        spared_as c t e None is
        (spared_none (first_before k c e log) (first_before k (but c t) e log) (own_before k t e log) (c t)
        (i.spared c t e (or_none_first (settled any_number t log) (closes any_number t r) (sym (settled-snoc k any_number t log r) ∙ open_now))))

    module _ (u : ℕ) (w : IsClosing k log r u) where
      listed_closing : (t : ℕ) (e : E) → lists k t e (analysis k (log ++ r ∷ [])).touched ≡ (not (settled any_number t (log ++ r ∷ [])) && is_some (own_before k t e (log ++ r ∷ [])))
      listed_closing t e =
          ap (lists k t e) w.touched ∙ lists-without k l t u e (analysis k log).touched ∙ ap (λ b. not (u == t) && b) (i.listed t e)
          ∙ listed_fewer (u == t) (settled any_number t log) (is_some (own_before k t e log))
          ∙ ap (λ b. not (settled any_number t log || b) && is_some (own_before k t e log)) (sym (w.shut t))
          ∙ ap (λ b. not b && is_some (own_before k t e log)) (sym (settled-snoc k any_number t log r))
          ∙ ap (λ o. not (settled any_number t (log ++ r ∷ [])) && is_some o) (sym (or-none (own_before k t e log)) ∙ sym (first_touch (λ v. v == t) e log r None w.touch))

      looked_closing : (c : ℕ → Bool) (e : E) → first_before k (λ v. not (settled any_number v (log ++ r ∷ [])) && c v) e (log ++ r ∷ []) ≡ lookup k c e (analysis k (log ++ r ∷ [])).touched
      looked_closing c e =
          ap (λ (f : ℕ → Bool). first_before k f e (log ++ r ∷ []))
          (fun_ext (λ v. ap (λ b. not b && c v) (settled-snoc k any_number v log r ∙ ap (λ b. settled any_number v log || b) (w.shut v ∙ nat_eq_equiv.symm u v))
          ∙ counts_fewer (settled any_number v log) (v == u) (c v)))
          ∙ first_touch (λ v. not (settled any_number v log) && (not (v == u) && c v)) e log r None w.touch
          ∙ or-none (first_before k (λ v. not (settled any_number v log) && (not (v == u) && c v)) e log)
          ∙ i.looked (λ v. not (v == u) && c v) e ∙ sym (lookup-without k l c u e (analysis k log).touched) ∙ ap (lookup k c e) (sym w.touched)

      told_closing : ((m t : ℕ) → number_of k (log ++ r ∷ []) ≤ m → settled (λ n. nat_le n m) t (log ++ r ∷ []) ≡ settled any_number t (log ++ r ∷ [])) → Told k (log ++ r ∷ [])
      told_closing numbered = record {
        in_order = subst (InOrder k) (sym w.touched) (in_order_filter k l (λ x. not (x.transaction == u)) (analysis k log).touched i.in_order);
        apart = subst (Apart k) (sym w.touched) (apart_fewer k l (without u (analysis k log).touched) (analysis k log).touched
            (λ t e h. and_second (not (u == t)) (lists k t e (analysis k log).touched) (sym (lists-without k l t u e (analysis k log).touched) ∙ h)) i.apart);
        listed = listed_closing;
        spared = λ c t e. spared_untouched c t e w.touch;
        looked = looked_closing;
        numbered = numbered;
      }

    module _ (w : IsQuiet k log r) where
      told_quiet : ((m t : ℕ) → number_of k (log ++ r ∷ []) ≤ m → settled (λ n. nat_le n m) t (log ++ r ∷ []) ≡ settled any_number t (log ++ r ∷ [])) → Told k (log ++ r ∷ [])
      told_quiet numbered = record {
        in_order = subst (InOrder k) (sym w.touched) i.in_order;
        apart = subst (Apart k) (sym w.touched) i.apart;
        listed = λ t e.
            ap (lists k t e) w.touched ∙ i.listed t e
            ∙ ap (λ b. not b && is_some (own_before k t e log)) (sym (settled_shut any_number t log r (w.shut any_number t)))
            ∙ ap (λ o. not (settled any_number t (log ++ r ∷ [])) && is_some o) (sym (or-none (own_before k t e log)) ∙ sym (first_touch (λ v. v == t) e log r None w.touch));
        spared = λ c t e. spared_untouched c t e w.touch;
        looked = λ c e.
            ap (λ (f : ℕ → Bool). first_before k f e (log ++ r ∷ [])) (fun_ext (λ u. ap (λ b. not b && c u) (settled_shut any_number u log r (w.shut any_number u))))
            ∙ first_touch (λ u. not (settled any_number u log) && c u) e log r None w.touch
            ∙ or-none (first_before k (λ u. not (settled any_number u log) && c u) e log) ∙ i.looked c e ∙ ap (lookup k c e) (sym w.touched);
        numbered = numbered;
      }

  -- each fair record keeps what holds of a log
  pub told_step : (log : List (Record E P)) (r : Record E P) → Told k log → IsFair k log r → Told k (log ++ r ∷ [])
  told_step log (Pages images counter used) i fair =
      let r : Record E P = Pages images counter used in
      told_quiet log r i (record { touch = refl; shut = λ passes t. refl; touched = ap (λ (a : Analysis E). a.touched) (analysis-snoc k log r) })
      (λ m t h.
      settled_shut (λ n. nat_le n m) t log r refl ∙ i.numbered m t (subst (λ x. x ≤ m) (ap (λ (a : Analysis E). a.number) (analysis-snoc k log r)) h)
      ∙ sym (settled_shut any_number t log r refl))
  told_step log (Adjust page change) i fair =
      let r : Record E P = Adjust page change in
      told_quiet log r i (record { touch = refl; shut = λ passes t. refl; touched = ap (λ (a : Analysis E). a.touched) (analysis-snoc k log r) })
      (λ m t h.
      settled_shut (λ n. nat_le n m) t log r refl ∙ i.numbered m t (subst (λ x. x ≤ m) (ap (λ (a : Analysis E). a.number) (analysis-snoc k log r)) h)
      ∙ sym (settled_shut any_number t log r refl))
  told_step log (Write transaction entry mark after leaf said) i fair =
      let r : Record E P = Write transaction entry mark after leaf said in
      told_touch log r i (record { transaction = transaction; entry = entry; before = mark; leaf = leaf })
      (record {
        touch = refl;
        shut = λ passes t. refl;
        touched = ap (λ (a : Analysis E). a.touched) (analysis-snoc k log r);
        number = ap (λ (a : Analysis E). a.number) (analysis-snoc k log r);
        fair = fair;
      })
  told_step log (Note transaction entry mark leaf) i fair =
      let r : Record E P = Note transaction entry mark leaf in
      told_touch log r i (record { transaction = transaction; entry = entry; before = mark; leaf = leaf })
      (record {
        touch = refl;
        shut = λ passes t. refl;
        touched = ap (λ (a : Analysis E). a.touched) (analysis-snoc k log r);
        number = ap (λ (a : Analysis E). a.number) (analysis-snoc k log r);
        fair = fair;
      })
  told_step log (End transaction) i fair =
      let r : Record E P = End transaction in
      told_closing log r i transaction
      (record { touch = refl; shut = λ t. refl; touched = ap (λ (a : Analysis E). a.touched) (analysis-snoc k log r) })
      (λ m t h.
      settled-snoc k (λ n. nat_le n m) t log r
      ∙ ap (λ b. b || (transaction == t)) (i.numbered m t (subst (λ x. x ≤ m) (ap (λ (a : Analysis E). a.number) (analysis-snoc k log r)) h))
      ∙ sym (settled-snoc k any_number t log r))
  told_step log (Commit transaction number) i fair =
      let r : Record E P = Commit transaction number in
      let now : number_of k (log ++ r ∷ []) ≡ number = ap (λ (a : Analysis E). a.number) (analysis-snoc k log r) in
      told_closing log r i transaction
      (record { touch = refl; shut = λ t. and-true (transaction == t); touched = ap (λ (a : Analysis E). a.touched) (analysis-snoc k log r) })
      (λ m t h.
      let at : number ≤ m = subst (λ x. x ≤ m) now h in
      let before : number_of k log ≤ m = before_at (number_of k log) number m fair.1 at in
      settled-snoc k (λ n. nat_le n m) t log r
      ∙ ap (λ b. b || (transaction == t && nat_le number m)) (i.numbered m t before)
      ∙ ap (λ b. settled any_number t log || (transaction == t && b)) (le-leb number m at)
      ∙ sym (settled-snoc k any_number t log r))
  told_step log (Counters number counter used next) i fair =
      let r : Record E P = Counters number counter used next in
      told_quiet log r i (record { touch = refl; shut = λ passes t. refl; touched = ap (λ (a : Analysis E). a.touched) (analysis-snoc k log r) })
      (λ m t h.
      settled_shut (λ n. nat_le n m) t log r refl ∙ ap (settled (λ n. nat_le n m) t) fair ∙ sym (ap (settled any_number t) fair)
      ∙ sym (settled_shut any_number t log r refl))

  pub told_nothing : Told k []
  told_nothing = record {
    in_order = tt;
    apart = λ t u e p q. cc;
    listed = λ t e. refl;
    spared = λ c t e open_now. inl refl;
    looked = λ c e. refl;
    numbered = λ m t h. refl;
  }
