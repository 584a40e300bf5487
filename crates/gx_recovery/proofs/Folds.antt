-- What reading one more record does to each fold over a log.
use Rattle.std.proofs.Common.{◌≡◌, ℕ, Bool, ◌||◌, List, [], ◌∷◌, ◌++◌, Option, Some, None, refl, ap, ◌∙◌}
use Rattle.std.specs.Option.{option_or}
use Rattle.std.proofs.Math.Bool.{or-false}
use Rattle.std.proofs.lemmas.List.Folds.{list_any-append}
use Rattle.gx_recovery.specs.Known.{Known, Tree}
use Rattle.gx_recovery.specs.Records.{Record, touch_of, settled, closes}
use Rattle.gx_recovery.specs.Analysis.{Analysis, read, read_on, analysis, unread}
use Rattle.gx_recovery.specs.Redo.{redo, redone, tree_of}
use Rattle.gx_recovery.specs.Standing.{first_before, mark_before}

pub or-assoc : {A : Type 0} (a b c : Option A) → option_or a (option_or b c) ≡ option_or (option_or a b) c
or-assoc None b c = refl
or-assoc (Some x) b c = refl

pub or-none : {A : Type 0} (a : Option A) → option_or a None ≡ a
or-none None = refl
or-none (Some x) = refl

module _ {E P : Type 0} (k : Known E P) where
  pub read_on-append : (a : Analysis E) (xs ys : List (Record E P)) → read_on k a (xs ++ ys) ≡ read_on k (read_on k a xs) ys
  read_on-append a [] ys = refl
  read_on-append a (x ∷ xs) ys = read_on-append (read k a x) xs ys

  pub analysis-snoc : (log : List (Record E P)) (r : Record E P) → analysis k (log ++ r ∷ []) ≡ read k (analysis k log) r
  analysis-snoc log r = read_on-append unread log (r ∷ [])

  pub redone-append : (area : ℕ → P) (xs ys : List (Record E P)) → redone area (xs ++ ys) ≡ redone (redone area xs) ys
  redone-append area [] ys = refl
  redone-append area (x ∷ xs) ys = redone-append (redo area x) xs ys

  pub redone-snoc : (area : ℕ → P) (log : List (Record E P)) (r : Record E P) → redone area (log ++ r ∷ []) ≡ redo (redone area log) r
  redone-snoc area log r = redone-append area log (r ∷ [])

  pub first-append : (c : ℕ → Bool) (e : E) (xs ys : List (Record E P)) → first_before k c e (xs ++ ys) ≡ option_or (first_before k c e xs) (first_before k c e ys)
  first-append c e [] ys = refl
  first-append c e (x ∷ xs) ys =
      ap (option_or (mark_before k c e (touch_of x))) (first-append c e xs ys)
      ∙ or-assoc (mark_before k c e (touch_of x)) (first_before k c e xs) (first_before k c e ys)

  pub first-snoc : (c : ℕ → Bool) (e : E) (log : List (Record E P)) (r : Record E P)
      → first_before k c e (log ++ r ∷ []) ≡ option_or (first_before k c e log) (mark_before k c e (touch_of r))
  first-snoc c e log r =
      first-append c e log (r ∷ []) ∙ ap (option_or (first_before k c e log)) (or-none (mark_before k c e (touch_of r)))

  pub settled-snoc : (passes : ℕ → Bool) (t : ℕ) (log : List (Record E P)) (r : Record E P) → settled passes t (log ++ r ∷ []) ≡ (settled passes t log || closes passes t r)
  settled-snoc passes t log r =
      list_any-append (closes passes t) log (r ∷ []) ∙ ap (λ b. settled passes t log || b) (or-false (closes passes t r))

  -- the tree after one more record, by what it makes of the pages and of the numbers
  pub tree-snoc : (area : ℕ → P) (log : List (Record E P)) (r : Record E P)
      → tree_of k area (log ++ r ∷ []) ≡ (record { page = redo (redone area log) r; counter = (read k (analysis k log) r).counter; used = (read k (analysis k log) r).used })
  tree-snoc area log r =
      let whole : ((ℕ → P) × Analysis E) → Tree P = λ x. record { page = x.0; counter = x.1.counter; used = x.1.used } in
      ap (λ (p : ℕ → P). whole (p, analysis k (log ++ r ∷ []))) (redone-snoc area log r) ∙ ap (λ (a : Analysis E). whole (redo (redone area log) r, a)) (analysis-snoc log r)
