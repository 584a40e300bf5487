-- The next transaction's number is above all that a log names.
use Rattle.std.proofs.Common.{◌≡◌, ℕ, ◌+◌, ◌<◌, ◌≤◌, Bool, true, false, not, cond, ◌||◌, inl, inr, List, [], ◌∷◌, ◌++◌, refl, ap, sym, ◌∙◌, subst, append_assoc, le_refl, arith}
use Rattle.std.specs.Prelude.{max, ◌==◌, filter}
use Rattle.std.specs.List.{list_any}
use Rattle.std.specs.declared.cmp.Ordering.{Ordering}
use Rattle.std.specs.declared.cmp.Ordering.TheVariants.{Less, Equal, Greater}
use Rattle.std.specs.Ordering.{match_ordering}
use Rattle.std.proofs.Math.Bool.{or-false}
use Rattle.std.proofs.lemmas.Bool.{eqb-true}
use Rattle.std.proofs.lemmas.List.{append-nil}
use Rattle.std.proofs.lemmas.List.Folds.{list_any-append}
use Rattle.gx_recovery.specs.Known.{Known, IsLawful}
use Rattle.gx_recovery.specs.Records.{Record, Pages, Adjust, Write, Commit, End, Counters, Note, Touch, names}
use Rattle.gx_recovery.specs.Analysis.{Analysis, unread, analysis, read, read_on, touch_cmp, touching}
use Rattle.gx_recovery.specs.Damage.{follows, IsLog}
use Rattle.gx_recovery.specs.Coming.{MayComeAll}
use Rattle.gx_recovery.specs.Logged.{Logged, IsHealthy, IsLeft}
use Rattle.gx_recovery.specs.Renewal.{notes_of, renewed}
use Rattle.gx_recovery.specs.Life.{LogStep, Appends, Begins, Syncs, WritesPages, Renews, LosesPower, Restarts, IsLogStep, IsLife}
use Rattle.gx_recovery.proofs.Tests.{either_of, clash}
use Rattle.gx_recovery.proofs.Folds.{analysis-snoc}
use Rattle.gx_recovery.proofs.Fair.{IsFair, kept_by_fair}
use Rattle.gx_recovery.proofs.Logs.{fair_follows, fair_log}
use Rattle.gx_recovery.proofs.States.{coming_first}
use Rattle.gx_recovery.proofs.Lives.{left_stands}
use Rattle.gx_recovery.proofs.Moves.{step_healthy}

-- each of the touches is by a transaction below n
abbrev pub AllBelow : {E : Type 0} → ℕ → List (Touch E) → Type 0
AllBelow n [] = Unit {0}
AllBelow n (x ∷ xs) = (x.transaction < n) × AllBelow n xs

-- what is named in a log, and touched, is below the next number
record Numbered {E P : Type 0} (k : Known E P) (log : List (Record E P)) : Type 0 where
  named : (t : ℕ) → list_any (names t) log ≡ true → t < (analysis k log).next
  touched : AllBelow (analysis k log).next (analysis k log).touched

max_left : (a b t : ℕ) → t < a → t < max a (b + 1)
max_left a b t h = omega arith

max_right : (a b t : ℕ) → b ≡ t → t < max a (b + 1)
max_right a b t h = omega arith

max_up : (a b : ℕ) → a ≤ max a (b + 1)
max_up a b = omega arith

max_same : (a b : ℕ) → b < a → max a (b + 1) ≡ a
max_same a b h = omega arith

through : (a b c : ℕ) → a ≤ b → b ≤ c → a ≤ c
through a b c p q = omega arith

further : (t a b : ℕ) → t < a → a ≤ b → t < b
further t a b p q = omega arith

module _ {E P : Type 0} (k : Known E P) where
  below_more : (a b : ℕ) (xs : List (Touch E)) → a ≤ b → AllBelow a xs → AllBelow b xs
  below_more a b [] h all = tt
  below_more a b (x ∷ xs) h all = (further x.transaction a b all.0 h, below_more a b xs h all.1)

  below_filter : (p : Touch E → Bool) (n : ℕ) (xs : List (Touch E)) → AllBelow n xs → AllBelow n (filter p xs)
  below_filter p n [] all = tt
  below_filter p n (x ∷ xs) all =
      elim (p x) as (λ t. AllBelow n (cond t (x ∷ filter p xs) (filter p xs)))
      [ true ↦ (all.0, below_filter p n xs all.1) | false ↦ below_filter p n xs all.1 ]

  below_by : (n : ℕ) (t x : Touch E) (xs : List (Touch E)) (o : Ordering) → t.transaction < n → (x.transaction < n) × AllBelow n xs → AllBelow n (touching k t xs)
      → AllBelow n (match_ordering o (t ∷ x ∷ xs) (record x { leaf = t.leaf } ∷ xs) (x ∷ touching k t xs))
  below_by n t x xs Less h all rest = (h, all)
  below_by n t x xs Equal h all rest = all
  below_by n t x xs Greater h all rest = (all.0, rest)

  below_touching : (n : ℕ) (t : Touch E) (xs : List (Touch E)) → t.transaction < n → AllBelow n xs → AllBelow n (touching k t xs)
  below_touching n t [] h all = (h, tt)
  below_touching n t (x ∷ xs) h all = below_by n t x xs (touch_cmp k t x) h all (below_touching n t xs h all.1)

  named_more : (log : List (Record E P)) (r : Record E P) (next : ℕ) → (analysis k log).next ≤ next → ((t : ℕ) → names t r ≡ true → t < next)
      → ((t : ℕ) → list_any (names t) log ≡ true → t < (analysis k log).next) → (t : ℕ) → list_any (names t) (log ++ r ∷ []) ≡ true → t < next
  named_more log r next up own all t h =
      elim (either_of (list_any (names t) log) (names t r) (sym (list_any-append (names t) log (r ∷ []) ∙ ap (λ b. list_any (names t) log || b) (or-false (names t r))) ∙ h)) [
        | inl before ↦ further t (analysis k log).next next (all t before) up
        | inr now ↦ own t now
      ]

  numbered_at : (log : List (Record E P)) (r : Record E P) → ((t : ℕ) → list_any (names t) (log ++ r ∷ []) ≡ true → t < (read k (analysis k log) r).next)
      → AllBelow (read k (analysis k log) r).next (read k (analysis k log) r).touched → Numbered k (log ++ r ∷ [])
  numbered_at log r named touched = record {
    named = λ t h. subst (λ (a : Analysis E). t < a.next) (sym (analysis-snoc k log r)) (named t h);
    touched = subst (λ (a : Analysis E). AllBelow a.next a.touched) (sym (analysis-snoc k log r)) touched;
  }

  ap_below : (n : ℕ) (xs : List (Touch E)) → xs ≡ [] → AllBelow n xs
  ap_below n xs none = subst (AllBelow n) (sym none) tt

  named_nothing : (log : List (Record E P)) (r : Record E P) (next t : ℕ) → log ≡ [] → names t r ≡ false → list_any (names t) (log ++ r ∷ []) ≡ true → t < next
  named_nothing log r next t none own h =
      clash (names t r) (sym (ap (λ x. list_any (names t) (x ++ r ∷ [])) none ∙ or-false (names t r)) ∙ h) own

  numbered_step : (log : List (Record E P)) (r : Record E P) → Numbered k log → IsFair k log r → Numbered k (log ++ r ∷ [])
  numbered_step log (Pages images counter used) i fair =
      numbered_at log (Pages images counter used) (named_more log (Pages images counter used) (analysis k log).next (le_refl (analysis k log).next) (λ t h. cc) i.named) i.touched
  numbered_step log (Adjust page change) i fair =
      numbered_at log (Adjust page change) (named_more log (Adjust page change) (analysis k log).next (le_refl (analysis k log).next) (λ t h. cc) i.named) i.touched
  numbered_step log (Write transaction entry mark after leaf said) i fair =
      let r : Record E P = Write transaction entry mark after leaf said in
      let n : ℕ = max (analysis k log).next (transaction + 1) in
      numbered_at log r (named_more log r n (max_up (analysis k log).next transaction) (λ t h. max_right (analysis k log).next transaction t (eqb-true transaction t h)) i.named)
      (below_touching n (record { transaction = transaction; entry = entry; before = mark; leaf = leaf }) (analysis k log).touched (max_right (analysis k log).next transaction transaction refl)
      (below_more (analysis k log).next n (analysis k log).touched (max_up (analysis k log).next transaction) i.touched))
  numbered_step log (Note transaction entry mark leaf) i fair =
      let r : Record E P = Note transaction entry mark leaf in
      let n : ℕ = max (analysis k log).next (transaction + 1) in
      numbered_at log r (named_more log r n (max_up (analysis k log).next transaction) (λ t h. max_right (analysis k log).next transaction t (eqb-true transaction t h)) i.named)
      (below_touching n (record { transaction = transaction; entry = entry; before = mark; leaf = leaf }) (analysis k log).touched (max_right (analysis k log).next transaction transaction refl)
      (below_more (analysis k log).next n (analysis k log).touched (max_up (analysis k log).next transaction) i.touched))
  numbered_step log (Commit transaction number) i fair =
      let r : Record E P = Commit transaction number in
      let n : ℕ = max (analysis k log).next (transaction + 1) in
      numbered_at log r (named_more log r n (max_up (analysis k log).next transaction) (λ t h. max_right (analysis k log).next transaction t (eqb-true transaction t h)) i.named)
      (below_filter (λ x. not (x.transaction == transaction)) n (analysis k log).touched (below_more (analysis k log).next n (analysis k log).touched (max_up (analysis k log).next transaction) i.touched))
  numbered_step log (End transaction) i fair =
      let r : Record E P = End transaction in
      let n : ℕ = max (analysis k log).next (transaction + 1) in
      numbered_at log r (named_more log r n (max_up (analysis k log).next transaction) (λ t h. max_right (analysis k log).next transaction t (eqb-true transaction t h)) i.named)
      (below_filter (λ x. not (x.transaction == transaction)) n (analysis k log).touched (below_more (analysis k log).next n (analysis k log).touched (max_up (analysis k log).next transaction) i.touched))
  numbered_step log (Counters number counter used next) i fair =
      numbered_at log (Counters number counter used next) (λ t h. named_nothing log (Counters number counter used next) next t fair refl h)
      (ap_below next (analysis k log).touched (ap (λ x. (analysis k x).touched) fair))

  -- a next number never falls
  next_by : (log : List (Record E P)) (r : Record E P) → IsFair k log r → follows k log r ≡ true → (analysis k log).next ≤ (read k (analysis k log) r).next
  next_by log (Pages images counter used) fair f = le_refl (analysis k log).next
  next_by log (Adjust page change) fair f = le_refl (analysis k log).next
  next_by log (Write transaction entry mark after leaf said) fair f = max_up (analysis k log).next transaction
  next_by log (Commit transaction number) fair f = max_up (analysis k log).next transaction
  next_by log (End transaction) fair f = max_up (analysis k log).next transaction
  next_by log (Counters number counter used next) fair f = cc
  next_by log (Note transaction entry mark leaf) fair f = cc

  same_next : (a : Analysis E) (ns : List (Touch E)) → AllBelow a.next ns → (read_on k a (notes_of ns)).next ≡ a.next
  same_next a [] all = refl
  same_next a (n ∷ ns) all =
      let same : max a.next (n.transaction + 1) ≡ a.next = max_same a.next n.transaction all.0 in
      same_next (read k a (Note n.transaction n.entry n.before n.leaf)) ns (subst (λ m. AllBelow m ns) (sym same) all.1) ∙ same

  module _ (l : IsLawful k) where
    numbered : (log : List (Record E P)) → IsLog k log → Numbered k log
    numbered log is =
        subst (Numbered k) (sym is.parts)
        (kept_by_fair k (Numbered k) numbered_step [] (is.head ++ is.later) (record { named = λ t h. cc; touched = tt }) (fair_log k l log is))

    pub next_above : (log : List (Record E P)) → IsLog k log → (t : ℕ) → list_any (names t) log ≡ true → t < (analysis k log).next
    next_above log is = (numbered log is).named

    pub next_rises : (log : List (Record E P)) (r : Record E P) → follows k log r ≡ true → (analysis k log).next ≤ (analysis k (log ++ r ∷ [])).next
    next_rises log r f = subst (λ (a : Analysis E). (analysis k log).next ≤ a.next) (sym (analysis-snoc k log r)) (next_by log r (fair_follows k l log r f) f)

    pub next_renewed : (next : ℕ) (log : List (Record E P)) → IsLog k log → (analysis k log).next ≤ next → (analysis k (renewed k next log)).next ≡ next
    next_renewed next log is up =
        same_next (read k unread (Counters (analysis k log).number (analysis k log).counter (analysis k log).used next)) (analysis k log).touched
        (below_more (analysis k log).next next (analysis k log).touched up (numbered log is).touched)

    nexts_rise : (area : ℕ → P) (log rs : List (Record E P)) → MayComeAll k area log rs → (analysis k log).next ≤ (analysis k (log ++ rs)).next
    nexts_rise area log [] come = subst (λ x. (analysis k log).next ≤ (analysis k x).next) (sym (append-nil log)) (le_refl (analysis k log).next)
    nexts_rise area log (r ∷ rs) come =
        subst (λ x. (analysis k log).next ≤ (analysis k x).next) (append_assoc log (r ∷ []) rs)
        (through (analysis k log).next (analysis k (log ++ r ∷ [])).next (analysis k ((log ++ r ∷ []) ++ rs)).next (next_rises log r come.0.follows) (nexts_rise area (log ++ r ∷ []) rs come.1))

    flight_next : (s : Logged E P) → IsHealthy k s → (analysis k s.gated).next ≤ (analysis k (s.gated ++ s.flight)).next
    flight_next s h = nexts_rise s.area s.gated s.flight (coming_first k l s.area s.gated s.flight s.filling h.coming)

    left_next : (s : Logged E P) (area : ℕ → P) (log : List (Record E P)) → IsHealthy k s → IsLeft s area log → (analysis k s.gated).next ≤ (analysis k log).next
    left_next s area log h left =
        elim left.log_read [
          | inl alone ↦ subst (λ x. (analysis k s.gated).next ≤ (analysis k x).next) (sym alone) (le_refl (analysis k s.gated).next)
          | inr both ↦ subst (λ x. (analysis k s.gated).next ≤ (analysis k x).next) (sym both) (flight_next s h)
        ]

    -- no step lowers the next number of the gated records
    step_next : (old new : Logged E P) (step : LogStep E P) → IsHealthy k old → IsLogStep k old step new → (analysis k old.gated).next ≤ (analysis k new.gated).next
    step_next old new (Appends r) h is = subst (λ (x : Logged E P). (analysis k old.gated).next ≤ (analysis k x.gated).next) (sym is.1) (le_refl (analysis k old.gated).next)
    step_next old new Begins h is = subst (λ (x : Logged E P). (analysis k old.gated).next ≤ (analysis k x.gated).next) (sym is.1) (le_refl (analysis k old.gated).next)
    step_next old new Syncs h is = subst (λ (x : Logged E P). (analysis k old.gated).next ≤ (analysis k x.gated).next) (sym is) (flight_next old h)
    step_next old new (WritesPages area) h is = subst (λ (x : Logged E P). (analysis k old.gated).next ≤ (analysis k x.gated).next) (sym is.1) (le_refl (analysis k old.gated).next)
    step_next old new (Renews next) h is =
        subst (λ (x : Logged E P). (analysis k old.gated).next ≤ (analysis k x.gated).next) (sym is.4)
        (subst (λ n. (analysis k old.gated).next ≤ n) (sym (next_renewed next old.gated h.gated is.3)) is.3)
    step_next old new (LosesPower area log) h is =
        subst (λ (x : Logged E P). (analysis k old.gated).next ≤ (analysis k x.gated).next) (sym is.1) (left_next old area log h is.0)
    step_next old new (Restarts next area log) h is =
        subst (λ (x : Logged E P). (analysis k old.gated).next ≤ (analysis k x.gated).next) (sym is.2)
        (subst (λ n. (analysis k old.gated).next ≤ n) (sym (next_renewed next log (left_stands k l old h area log is.0).is_log is.1))
        (through (analysis k old.gated).next (analysis k log).next next (left_next old area log h is.0) is.1))

    pub life_next : (steps : List (LogStep E P)) (old new : Logged E P) → IsHealthy k old → IsLife k old steps new → (analysis k old.gated).next ≤ (analysis k new.gated).next
    life_next [] old new h life = subst (λ (x : Logged E P). (analysis k old.gated).next ≤ (analysis k x.gated).next) (sym life) (le_refl (analysis k old.gated).next)
    life_next (step ∷ steps) old new h life =
        through (analysis k old.gated).next (analysis k life.0.gated).next (analysis k new.gated).next (step_next old life.0 step h life.1)
        (life_next steps life.0 new (step_healthy k l old life.0 step h life.1) life.2)
