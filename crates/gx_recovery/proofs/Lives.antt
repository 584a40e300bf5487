-- What each step of a log does to its kept sets.
use Rattle.std.proofs.Common.{◌≡◌, ℕ, ◌≤◌, inl, inr, List, [], ◌∷◌, ◌++◌, refl, ap, sym, ◌∙◌, subst, append_assoc, le_refl, arith}
use Rattle.std.specs.Prelude.{nat_le, true}
use Rattle.std.proofs.lemmas.List.{append-nil}
use Rattle.gx_recovery.specs.Known.{Known, IsLawful, Tree}
use Rattle.gx_recovery.specs.Records.{Record, Pages, Adjust, Write, Commit, End, Counters, Note}
use Rattle.gx_recovery.specs.Analysis.{Analysis, number_of}
use Rattle.gx_recovery.specs.Redo.{tree_of}
use Rattle.gx_recovery.specs.Standing.{first_before, counting, by_mark, set_of, view_of}
use Rattle.gx_recovery.specs.Damage.{follows, IsLog}
use Rattle.gx_recovery.specs.Coming.{IsGood, MayCome, MayComeAll}
use Rattle.gx_recovery.specs.Logged.{Logged, all_records, durable, latest, kept, IsHealthy, appended, begun, gate_synced, AgreesBeside, IsLeft, StandsForKept}
use Rattle.gx_recovery.specs.Life.{IsMove, Stays, Durable, kept_of, append_move, AreSame, IsAdded}
use Rattle.gx_recovery.proofs.Folds.{analysis-snoc}
use Rattle.gx_recovery.proofs.Fair.{IsFair}
use Rattle.gx_recovery.proofs.Told.{told_step}
use Rattle.gx_recovery.proofs.Logs.{fair_follows, told_log}
use Rattle.gx_recovery.proofs.Sets.{commit_makes_view}
use Rattle.gx_recovery.proofs.States.{coming_log, coming_good, numbers_rise, set_kept, sets_kept, stands_as, coming-append, coming_first, coming_second, tree_agrees, coming_over}

through : (a b c : ℕ) → a ≤ b → b ≤ c → a ≤ c
through a b c p q = omega arith

module _ {E P : Type 0} (k : Known E P) where
  same_sets : (old new : Logged E P) → number_of k new.gated ≡ number_of k old.gated → all_records new ≡ all_records old
      → ((x : List (Record E P)) → x ≡ all_records old → tree_of k new.area x ≡ tree_of k old.area x) → AreSame (kept_of k old) (kept_of k new)
  same_sets old new first all trees = record {
    first = first;
    last = ap (number_of k) all;
    sets = λ number low high e.
        ap (λ (t : Tree P). by_mark (first_before k (counting (λ n. nat_le n number) (all_records new)) e (all_records new)) (k.live t e)) (trees (all_records new) all)
        ∙ ap (λ x. set_of k number old.area x e) all;
  }

  module _ (s : Logged E P) (h : IsHealthy k s) where
    pub begun_healthy : s.flight ≡ [] → IsHealthy k (begun s)
    begun_healthy none = record {
      gated = h.gated;
      good = h.good;
      coming = subst (MayComeAll k s.area s.gated) (ap (λ x. x ++ s.filling) none ∙ sym (append-nil s.filling)) h.coming;
    }

    pub begun_stays : s.flight ≡ [] → IsMove (kept_of k s) Stays (kept_of k (begun s))
    begun_stays none = same_sets s (begun s) refl (ap (λ x. s.gated ++ x) (append-nil s.filling ∙ sym (ap (λ x. x ++ s.filling) none))) (λ x is. refl)

    module _ (l : IsLawful k) (area : ℕ → P) (agrees : AgreesBeside s.gated s.area area) where
      trees_alike : (more : List (Record E P)) → tree_of k area (s.gated ++ more) ≡ tree_of k s.area (s.gated ++ more)
      trees_alike more = tree_agrees k l s.gated more s.area area agrees

      gated_alike : tree_of k area s.gated ≡ tree_of k s.area s.gated
      gated_alike = ap (tree_of k area) (sym (append-nil s.gated)) ∙ trees_alike [] ∙ ap (tree_of k s.area) (append-nil s.gated)

      pub written_healthy : IsHealthy k (record s { area = area })
      written_healthy = record {
        gated = h.gated;
        good = subst (λ (t : Tree P). IsGood k t s.gated) (sym gated_alike) h.good;
        coming = coming_over k l s.gated (s.flight ++ s.filling) s.area area agrees h.coming;
      }

      pub written_stays : IsMove (kept_of k s) Stays (kept_of k (record s { area = area }))
      written_stays =
          same_sets s (record s { area = area }) refl refl
          (λ x is. ap (tree_of k area) is ∙ trees_alike (s.flight ++ s.filling) ∙ sym (ap (tree_of k s.area) is))

module _ {E P : Type 0} (k : Known E P) (l : IsLawful k) (s : Logged E P) (h : IsHealthy k s) where
  pub whole_log : IsLog k (all_records s)
  whole_log = coming_log k l s.area s.gated (s.flight ++ s.filling) h.gated h.coming

  first_up : durable k s ≤ latest k s
  first_up = numbers_rise k l s.area s.gated (s.flight ++ s.filling) h.coming

  module _ (r : Record E P) (m : MayCome k s.area (all_records s) r) where
    grown : all_records (appended r s) ≡ all_records s ++ r ∷ []
    grown = ap (λ x. s.gated ++ x) (sym (append_assoc s.flight s.filling (r ∷ []))) ∙ sym (append_assoc s.gated (s.flight ++ s.filling) (r ∷ []))

    pub appended_healthy : IsHealthy k (appended r s)
    appended_healthy = record {
      gated = h.gated;
      good = h.good;
      coming = subst (MayComeAll k s.area s.gated) (append_assoc s.flight s.filling (r ∷ [])) (coming-append k l s.area s.gated (s.flight ++ s.filling) (r ∷ []) h.coming (m, tt));
    }

    pub appended_sets : (number : ℕ) → number ≤ latest k s → (e : E) → kept k (appended r s) number e ≡ kept k s number e
    appended_sets number low e = ap (λ x. set_of k number s.area x e) grown ∙ set_kept k l s.area (all_records s) r whole_log m number low e

    last_of : (n : ℕ) → number_of k (all_records s ++ r ∷ []) ≡ n → latest k (appended r s) ≡ n
    last_of n is = ap (number_of k) grown ∙ is

    stays : number_of k (all_records s ++ r ∷ []) ≡ latest k s → AreSame (kept_of k s) (kept_of k (appended r s))
    stays is = record { first = refl; last = last_of (latest k s) is; sets = λ number low high e. appended_sets number high e }

    seals : (t number : ℕ) → r ≡ Commit t number → IsFair k (all_records s) (Commit t number) → IsAdded (view_of k t s.area (all_records s)) (kept_of k s) (kept_of k (appended r s))
    seals t number is fair =
        let at : latest k (appended r s) ≡ number =
        last_of number (ap (λ x. number_of k (all_records s ++ x ∷ [])) is ∙ ap (λ (a : Analysis E). a.number) (analysis-snoc k (all_records s) (Commit t number))) in
        record {
          first = refl;
          last = at ∙ fair.1;
          sets = λ n low high e. appended_sets n high e;
          added = λ e.
              ap (λ n. kept k (appended r s) n e) at ∙ ap (λ x. set_of k number s.area x e) (grown ∙ ap (λ x. all_records s ++ x ∷ []) is)
              ∙ commit_makes_view k l s.area (all_records s) (told_log k l (all_records s) whole_log) t number
              (told_step k l (all_records s) (Commit t number) (told_log k l (all_records s) whole_log) fair) fair.0 e;
        }

    moved : (x : Record E P) → r ≡ x → IsFair k (all_records s) x → follows k (all_records s) x ≡ true → IsMove (kept_of k s) (append_move k s x) (kept_of k (appended r s))
    moved (Pages images counter used) is fair f =
        stays (ap (λ x. number_of k (all_records s ++ x ∷ [])) is ∙ ap (λ (a : Analysis E). a.number) (analysis-snoc k (all_records s) (Pages images counter used)))
    moved (Adjust page change) is fair f =
        stays (ap (λ x. number_of k (all_records s ++ x ∷ [])) is ∙ ap (λ (a : Analysis E). a.number) (analysis-snoc k (all_records s) (Adjust page change)))
    moved (Write transaction entry mark after leaf said) is fair f =
        stays (ap (λ x. number_of k (all_records s ++ x ∷ [])) is ∙ ap (λ (a : Analysis E). a.number) (analysis-snoc k (all_records s) (Write transaction entry mark after leaf said)))
    moved (Commit transaction number) is fair f = seals transaction number is fair
    moved (End transaction) is fair f =
        stays (ap (λ x. number_of k (all_records s ++ x ∷ [])) is ∙ ap (λ (a : Analysis E). a.number) (analysis-snoc k (all_records s) (End transaction)))
    moved (Counters number counter used next) is fair f = cc
    moved (Note transaction entry mark leaf) is fair f = cc

    pub appended_moves : IsMove (kept_of k s) (append_move k s r) (kept_of k (appended r s))
    appended_moves = moved r refl (fair_follows k l (all_records s) r m.follows) m.follows

  -- the gated records with those in flight: a log of a healthy state's
  pub flight_log : IsLog k (s.gated ++ s.flight)
  flight_log = coming_log k l s.area s.gated s.flight h.gated (coming_first k l s.area s.gated s.flight s.filling h.coming)

  pub flight_good : IsGood k (tree_of k s.area (s.gated ++ s.flight)) (s.gated ++ s.flight)
  flight_good = coming_good k l s.area s.gated s.flight h.good (coming_first k l s.area s.gated s.flight s.filling h.coming)

  filling_comes : MayComeAll k s.area (s.gated ++ s.flight) s.filling
  filling_comes = coming_second k l s.area s.gated s.flight s.filling h.coming

  parts : all_records s ≡ (s.gated ++ s.flight) ++ s.filling
  parts = sym (append_assoc s.gated s.flight s.filling)

  flight_up : durable k s ≤ number_of k (s.gated ++ s.flight)
  flight_up = numbers_rise k l s.area s.gated s.flight (coming_first k l s.area s.gated s.flight s.filling h.coming)

  flight_down : number_of k (s.gated ++ s.flight) ≤ latest k s
  flight_down = subst (λ x. number_of k (s.gated ++ s.flight) ≤ number_of k x) (sym parts) (numbers_rise k l s.area (s.gated ++ s.flight) s.filling filling_comes)

  pub synced_healthy : IsHealthy k (gate_synced s)
  synced_healthy = record { gated = flight_log; good = flight_good; coming = filling_comes }

  pub synced_moves : IsMove (kept_of k s) Durable (kept_of k (gate_synced s))
  synced_moves = record {
    first = flight_up;
    some_left = subst (λ x. number_of k (s.gated ++ s.flight) ≤ number_of k x) parts flight_down;
    last = ap (number_of k) (sym parts);
    sets = λ number low high e. ap (λ x. set_of k number s.area x e) (sym parts);
  }

  stands_alone : (area : ℕ → P) → AgreesBeside s.gated s.area area → StandsForKept k s area s.gated
  stands_alone area agrees = record {
    at_least = le_refl (durable k s);
    at_most = first_up;
    same_set = λ e.
        stands_as k l area s.gated h.gated e
        ∙ ap (λ (t : Tree P). by_mark (first_before k (counting (λ n. nat_le n (durable k s)) s.gated) e s.gated) (k.live t e)) (gated_alike k s h l area agrees)
        ∙ sym (sets_kept k l s.area s.gated (s.flight ++ s.filling) h.gated h.coming (durable k s) (le_refl (durable k s)) e);
    is_log = h.gated;
    good = subst (λ (t : Tree P). IsGood k t s.gated) (sym (gated_alike k s h l area agrees)) h.good;
  }

  stands_with_flight : (area : ℕ → P) → AgreesBeside s.gated s.area area → StandsForKept k s area (s.gated ++ s.flight)
  stands_with_flight area agrees =
      let both : List (Record E P) = s.gated ++ s.flight in
      record {
        at_least = flight_up;
        at_most = flight_down;
        same_set = λ e.
            stands_as k l area both flight_log e
            ∙ ap (λ (t : Tree P). by_mark (first_before k (counting (λ n. nat_le n (number_of k both)) both) e both) (k.live t e)) (trees_alike k s h l area agrees s.flight)
            ∙ sym (sets_kept k l s.area both s.filling flight_log filling_comes (number_of k both) (le_refl (number_of k both)) e)
            ∙ ap (λ x. set_of k (number_of k both) s.area x e) (sym parts);
        is_log = flight_log;
        good = subst (λ (t : Tree P). IsGood k t both) (sym (trees_alike k s h l area agrees s.flight)) flight_good;
      }

  pub left_stands : (area : ℕ → P) (log : List (Record E P)) → IsLeft s area log → StandsForKept k s area log
  left_stands area log left =
      elim left.log_read [
        | inl alone ↦ subst (StandsForKept k s area) (sym alone) (stands_alone area left.area_agrees)
        | inr both ↦ subst (StandsForKept k s area) (sym both) (stands_with_flight area left.area_agrees)
      ]
