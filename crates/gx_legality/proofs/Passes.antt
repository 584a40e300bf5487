-- A pass over what comes, as it gathers the least of it.
use Rattle.std.proofs.Common.{◌≡◌, ℕ, ◌+◌, ◌<◌, List, [], ◌∷◌, ◌++◌, Option, Some, None, refl, ap, sym, ◌∙◌, subst, arith}
use Rattle.std.specs.Cmp.{IsTotalOrder}
use Rattle.std.specs.Ordering.{is_eq, is_gt, ordering_reverse}
use Rattle.std.specs.declared.cmp.Ordering.{Ordering}
use Rattle.std.specs.declared.cmp.Ordering.TheVariants.{Less, Equal, Greater}
use Rattle.std.proofs.lemmas.Cmp.{upto, alike_right}
use Rattle.gx_node.specs.Lists.{one_if}
use Rattle.gx_legality.specs.Gathered.{count, IsAfter, IsUpTo, Ascends, StandsTwice, Gathered, Gathers, Halves, OnceBetween, gathered_above}
use Rattle.gx_legality.proofs.Counted.{count-append, ascends_once}

module _ {E : Type 0} (cmp : E → E → Ordering) (o : IsTotalOrder cmp) where
  pub after_same : (above : Option E) (x e : E) → cmp x e ≡ Equal → IsAfter cmp above x → IsAfter cmp above e
  after_same None x e same after = tt
  after_same (Some a) x e same after = sym (alike_right o x e a same) ∙ after

  pub upto_same : (top : Option E) (x e : E) → cmp x e ≡ Equal → IsUpTo cmp top x → IsUpTo cmp top e
  upto_same None x e same low = tt
  upto_same (Some b) x e same low = ap is_gt (sym (o.congr x e b same)) ∙ low

  back : (x e : E) → cmp x e ≡ Equal → cmp e x ≡ Equal
  back x e same = o.antisymm e x ∙ ap ordering_reverse same

  one_of : (x e : E) (r : Ordering) → cmp x e ≡ r → one_if (is_eq (cmp x e)) ≡ one_if (is_eq r)
  one_of x e r is = ap (λ r. one_if (is_eq r)) is

  same_by : (x e : E) (n : ℕ) (r : Ordering) → cmp x e ≡ r → 0 < n + one_if (is_eq (cmp x e)) → (0 < n → ⊥) → cmp x e ≡ Equal
  same_by x e n Less is some none = let here = one_of x e Less is in absurd (none (omega (arith, here, some)))
  same_by x e n Equal is some none = is
  same_by x e n Greater is some none = let here = one_of x e Greater is in absurd (none (omega (arith, here, some)))

  other_by : (x e : E) (r : Ordering) → cmp x e ≡ r → (cmp x e ≡ Equal → ⊥) → one_if (is_eq (cmp x e)) ≡ 0
  other_by x e Less is other = one_of x e Less is
  other_by x e Equal is other = absurd (other is)
  other_by x e Greater is other = one_of x e Greater is

  count_one : (e x : E) (xs : List E) → count cmp e (xs ++ x ∷ []) ≡ count cmp e xs + one_if (is_eq (cmp x e))
  count_one e x xs = let all = count-append cmp e xs (x ∷ []) in omega (arith, all)

  -- one that isn't between the bounds
  pub gathers_past : (g : Gathered E) (all rest : List E) (x : E) → (IsAfter cmp g.above x → IsUpTo cmp g.top x → ⊥)
      → Gathers cmp g all (x ∷ rest) → Gathers cmp g all rest
  gathers_past g all rest x past was = record {
    counts = λ e after upto. (
        let other = other_by x e (cmp x e) refl (λ same. past (after_same g.above e x (back x e same) after) (upto_same g.top e x (back x e same) upto)) in
        let counts = was.counts e after upto in
        omega (arith, other, counts)
        );
    between = was.between;
    top = was.top;
  }

  between_by : (g : Gathered E) (x e : E) (n : ℕ) (r : Ordering) → cmp x e ≡ r → IsAfter cmp g.above x → IsUpTo cmp g.top x
      → (0 < n → IsAfter cmp g.above e × IsUpTo cmp g.top e) → 0 < n + one_if (is_eq (cmp x e)) → IsAfter cmp g.above e × IsUpTo cmp g.top e
  between_by g x e n Less is after low was some = let here = one_of x e Less is in was (omega (arith, here, some))
  between_by g x e n Equal is after low was some = (after_same g.above x e is after, upto_same g.top x e is low)
  between_by g x e n Greater is after low was some = let here = one_of x e Greater is in was (omega (arith, here, some))

  -- one that is
  pub gathers_more : (g : Gathered E) (all rest : List E) (x : E) → IsAfter cmp g.above x → IsUpTo cmp g.top x
      → Gathers cmp g all (x ∷ rest) → Gathers cmp (record { kept = g.kept ++ x ∷ []; above = g.above; top = g.top; half = g.half }) all rest
  gathers_more g all rest x after low was = record {
    counts = λ e above upto. (
        let more = count_one e x g.kept in
        let counts = was.counts e above upto in
        omega (arith, more, counts)
        );
    between = λ e some. (
        let more = count_one e x g.kept in
        between_by g x e (count cmp e g.kept) (cmp x e) refl after low (was.between e) (omega (arith, more, some))
        );
    top = was.top;
  }

  upto_below : (top : Option E) (b e : E) → IsUpTo cmp top b → IsUpTo cmp (Some b) e → IsUpTo cmp top e
  upto_below None b e low next = tt
  upto_below (Some t) b e low next = upto o e b t next low

  -- the least half is kept
  pub gathers_half : (g : Gathered E) (all rest new : List E) (b : E) → Halves cmp g.kept new b
      → Gathers cmp g all rest → Gathers cmp (record { kept = new; above = g.above; top = Some b; half = g.half }) all rest
  gathers_half g all rest new b halves was =
      let bound = was.between b halves.bound in
      let count_b = was.counts b bound.0 bound.1 in
      record {
        counts = λ e after low. (
            let counts = was.counts e after (upto_below g.top b e bound.1 low) in
            let same = halves.counts e low in
            omega (arith, counts, same)
            );
        between = λ e some. (
            let low = halves.upto e some in
            let same = halves.counts e low in
            ((was.between e (omega (arith, same, some))).0, low)
            );
        top = λ c is. (
            let same : b ≡ c = cc in
            subst (λ c. IsAfter cmp g.above c × (0 < count cmp c all)) same
            (bound.0, let some = halves.bound in omega (arith, some, count_b))
            );
      }

  -- an item that is kept twice came twice
  pub gathers_twice : (g : Gathered E) (all rest : List E) → Gathers cmp g all rest → StandsTwice cmp g.kept → StandsTwice cmp all
  gathers_twice g all rest was twice =
      let e = twice.0 in
      let some : 0 < count cmp e g.kept = let two = twice.1 in omega (arith, two) in
      let bounds = was.between e some in
      let counts = was.counts e bounds.0 bounds.1 in
      (e, let two = twice.1 in omega (arith, two, counts))

  -- an item that is kept in order is kept once
  pub gathers_once : (g : Gathered E) (all sorted : List E) → Gathers cmp g all [] → ((e : E) → count cmp e sorted ≡ count cmp e g.kept)
      → Ascends cmp sorted → OnceBetween cmp g.above g.top all
  gathers_once g all sorted was same up = λ e after low. (
      let counts = was.counts e after low in
      let here = same e in
      let once = ascends_once cmp o e sorted up in
      omega (arith, counts, here, once)
      )

  pub gathers_begins : (half : ℕ) (above : Option E) (all : List E) → Gathers cmp (gathered_above half above) all all
  gathers_begins half above all = record {
    counts = λ e after low. omega arith;
    between = λ e some. absurd (omega arith);
    top = λ b is. absurd (cc);
  }

module _ {E : Type 0} where
  pub begun : (kept : List E) (half old_half : ℕ) (above : Option E) → kept ≡ [] → half ≡ old_half
      → record { kept = kept; above = above; top = None; half = half } ≡ gathered_above old_half above
  begun kept half old_half above none same =
      ap (λ (kept : List E). record { kept = kept; above = above; top = None; half = half }) none ∙ ap (λ n. gathered_above n above) same
