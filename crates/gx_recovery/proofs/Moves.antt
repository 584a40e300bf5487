-- A checkpoint, an opening, and whole lives.
use Rattle.std.proofs.Common.{◌≡◌, ℕ, ◌≤◌, List, [], ◌∷◌, ◌++◌, refl, ap, sym, ◌∙◌, subst, arith}
use Rattle.std.proofs.lemmas.List.{append-nil}
use Rattle.std.proofs.Math.Path.{fun_ext}
use Rattle.gx_recovery.specs.Known.{Known, IsLawful}
use Rattle.gx_recovery.specs.Records.{Record}
use Rattle.gx_recovery.specs.Analysis.{number_of}
use Rattle.gx_recovery.specs.Redo.{redone, tree_of}
use Rattle.gx_recovery.specs.Standing.{set_of, stands_for}
use Rattle.gx_recovery.specs.Damage.{IsLog}
use Rattle.gx_recovery.specs.Coming.{IsGood, MayComeAll}
use Rattle.gx_recovery.specs.Logged.{Logged, all_records, durable, latest, kept, IsHealthy, IsLeft, StandsForKept}
use Rattle.gx_recovery.specs.Renewal.{renewed, renewed_over, found}
use Rattle.gx_recovery.specs.Life.{Kept, Move, Stays, Durable, Seals, Crashes, IsMove, AreSame, IsOneLeft, kept_of, AllWritten, LogStep, Appends, Begins, Syncs, WritesPages, Renews, LosesPower, Restarts, IsLogStep, move_of, moves_of, IsLife, AreMoves}
use Rattle.gx_recovery.proofs.Renewals.{same_number, renewed_is_log, renewed_good, renewed_healthy, renewed_latest, renewed_set, stands_alike}
use Rattle.gx_recovery.proofs.States.{stands_as}
use Rattle.gx_recovery.proofs.Lives.{begun_healthy, begun_stays, written_healthy, written_stays, appended_healthy, appended_moves, synced_healthy, synced_moves, left_stands}

only_one : (low high n m : ℕ) → low ≤ n → n ≤ high → low ≡ m → high ≡ m → n ≡ m
only_one low high n m p q r s = omega arith

one_above : (a b : ℕ) → b ≡ a → a ≤ b
one_above a b h = omega arith

one_below : (a b c : ℕ) → b ≡ a → a ≤ c → b ≤ c
one_below a b c h g = omega arith

module _ {E P : Type 0} (k : Known E P) (area : ℕ → P) (log : List (Record E P)) where
  -- a log that was found over a good tree has the one set that it stands for
  pub found_as_state : IsLog k log → IsGood k (tree_of k area log) log → IsHealthy k (found area log)
  found_as_state is good = record { gated = is; good = good; coming = tt }

  pub found_latest : latest k (found area log) ≡ number_of k log
  found_latest = ap (number_of k) (append-nil log)

  pub found_set : IsLawful k → IsLog k log → (e : E) → kept k (found area log) (number_of k log) e ≡ stands_for k area log e
  found_set l is e = ap (λ x. set_of k (number_of k log) area x e) (append-nil log) ∙ sym (stands_as k l area log is e)

module _ {E P : Type 0} (k : Known E P) (l : IsLawful k) where
  module _ (s : Logged E P) (h : IsHealthy k s) (no_flight : s.flight ≡ []) (no_filling : s.filling ≡ []) (written : AllWritten s) (next : ℕ) where
    empty : s.flight ++ s.filling ≡ []
    empty = ap (λ x. x ++ s.filling) no_flight ∙ no_filling

    all_gated : all_records s ≡ s.gated
    all_gated = ap (λ x. s.gated ++ x) empty ∙ append-nil s.gated

    all_renewed : all_records (record s { gated = renewed k next s.gated }) ≡ renewed k next s.gated
    all_renewed = ap (λ x. renewed k next s.gated ++ x) empty ∙ append-nil (renewed k next s.gated)

    area_redone : redone s.area s.gated ≡ s.area
    area_redone = fun_ext (λ p. sym (written p))

    pub checkpoint_healthy : IsHealthy k (record s { gated = renewed k next s.gated })
    checkpoint_healthy = record {
      gated = renewed_is_log k l next s.area s.gated h.gated;
      good = subst (λ (a : ℕ → P). IsGood k (tree_of k a (renewed k next s.gated)) (renewed k next s.gated)) area_redone (renewed_good k l next s.area s.gated h.gated h.good);
      coming = subst (MayComeAll k s.area (renewed k next s.gated)) (sym empty) tt;
    }

    pub checkpoint_stands : (e : E) → stands_for k s.area (renewed k next s.gated) e ≡ stands_for k s.area s.gated e
    checkpoint_stands e =
        ap (λ (a : ℕ → P). stands_for k a (renewed k next s.gated) e) (sym area_redone) ∙ stands_alike k l next s.area s.gated h.gated e

    same_at : (number : ℕ) → number ≡ number_of k s.gated → (e : E) → kept k (record s { gated = renewed k next s.gated }) number e ≡ kept k s number e
    same_at number is e =
        ap (λ n. kept k (record s { gated = renewed k next s.gated }) n e) (is ∙ sym (same_number k l next s.area s.gated h.gated))
        ∙ ap (λ x. set_of k (number_of k (renewed k next s.gated)) s.area x e) all_renewed
        ∙ sym (stands_as k l s.area (renewed k next s.gated) (renewed_is_log k l next s.area s.gated h.gated) e)
        ∙ checkpoint_stands e ∙ stands_as k l s.area s.gated h.gated e
        ∙ ap (λ x. set_of k (number_of k s.gated) s.area x e) (sym all_gated) ∙ ap (λ n. kept k s n e) (sym is)

    pub checkpoint_stays : AreSame (kept_of k s) (kept_of k (record s { gated = renewed k next s.gated }))
    checkpoint_stays = record {
      first = same_number k l next s.area s.gated h.gated;
      last = ap (number_of k) all_renewed ∙ same_number k l next s.area s.gated h.gated ∙ ap (number_of k) (sym all_gated);
      sets = λ number low high e.
          same_at number (only_one (durable k s) (latest k s) number (number_of k s.gated) low high refl (ap (number_of k) all_gated)) e;
    }

  module _ (s : Logged E P) (h : IsHealthy k s) (area : ℕ → P) (log : List (Record E P)) (left : IsLeft s area log) where
    stood : StandsForKept k s area log
    stood = left_stands k l s h area log left

    pub found_healthy : IsHealthy k (found area log)
    found_healthy = record { gated = stood.is_log; good = stood.good; coming = tt }

    pub found_leaves : IsOneLeft (kept_of k s) (kept_of k (found area log))
    found_leaves =
        let last : latest k (found area log) ≡ number_of k log = ap (number_of k) (append-nil log) in
        record {
          one = sym last;
          at_least = stood.at_least;
          at_most = subst (λ n. n ≤ latest k s) (sym last) stood.at_most;
          set = λ e.
              ap (λ n. kept k (found area log) n e) last ∙ ap (λ x. set_of k (number_of k log) area x e) (append-nil log)
              ∙ sym (stands_as k l area log stood.is_log e) ∙ stood.same_set e ∙ ap (λ n. kept k s n e) (sym last);
        }

    pub restarted_healthy : (next : ℕ) → IsHealthy k (renewed_over k next area log)
    restarted_healthy next = renewed_healthy k l next area log stood.is_log stood.good

    pub restarted_leaves : (next : ℕ) → IsOneLeft (kept_of k s) (kept_of k (renewed_over k next area log))
    restarted_leaves next =
        let first : durable k (renewed_over k next area log) ≡ number_of k log = same_number k l next area log stood.is_log in
        let last : latest k (renewed_over k next area log) ≡ number_of k log = renewed_latest k l next area log stood.is_log in
        record {
          one = first ∙ sym last;
          at_least = subst (λ n. durable k s ≤ n) (sym first) stood.at_least;
          at_most = subst (λ n. n ≤ latest k s) (sym last) stood.at_most;
          set = λ e.
              ap (λ n. kept k (renewed_over k next area log) n e) last ∙ renewed_set k l next area log stood.is_log e ∙ stood.same_set e ∙ ap (λ n. kept k s n e) (sym last);
        }

  -- each step keeps the state healthy
  pub step_healthy : (old new : Logged E P) (step : LogStep E P) → IsHealthy k old → IsLogStep k old step new → IsHealthy k new
  step_healthy old new (Appends r) h is = subst (IsHealthy k) (sym is.1) (appended_healthy k l old h r is.0)
  step_healthy old new Begins h is = subst (IsHealthy k) (sym is.1) (begun_healthy k old h is.0)
  step_healthy old new Syncs h is = subst (IsHealthy k) (sym is) (synced_healthy k l old h)
  step_healthy old new (WritesPages area) h is = subst (IsHealthy k) (sym is.1) (written_healthy k old h l area is.0)
  step_healthy old new (Renews next) h is = subst (IsHealthy k) (sym is.4) (checkpoint_healthy old h is.0 is.1 is.2 next)
  step_healthy old new (LosesPower area log) h is = subst (IsHealthy k) (sym is.1) (found_healthy old h area log is.0)
  step_healthy old new (Restarts next area log) h is = subst (IsHealthy k) (sym is.2) (restarted_healthy old h area log is.0 next)

  -- each step is a move of the kept sets
  pub step_moves : (old new : Logged E P) (step : LogStep E P) → IsHealthy k old → IsLogStep k old step new → IsMove (kept_of k old) (move_of k old step) (kept_of k new)
  step_moves old new (Appends r) h is =
      subst (λ x. IsMove (kept_of k old) (move_of k old (Appends r)) (kept_of k x)) (sym is.1) (appended_moves k l old h r is.0)
  step_moves old new Begins h is = subst (λ x. IsMove (kept_of k old) Stays (kept_of k x)) (sym is.1) (begun_stays k old h is.0)
  step_moves old new Syncs h is = subst (λ x. IsMove (kept_of k old) Durable (kept_of k x)) (sym is) (synced_moves k l old h)
  step_moves old new (WritesPages area) h is = subst (λ x. IsMove (kept_of k old) Stays (kept_of k x)) (sym is.1) (written_stays k old h l area is.0)
  step_moves old new (Renews next) h is = subst (λ x. IsMove (kept_of k old) Stays (kept_of k x)) (sym is.4) (checkpoint_stays old h is.0 is.1 is.2 next)
  step_moves old new (LosesPower area log) h is = subst (λ x. IsMove (kept_of k old) Crashes (kept_of k x)) (sym is.1) (found_leaves old h area log is.0)
  step_moves old new (Restarts next area log) h is = subst (λ x. IsMove (kept_of k old) Crashes (kept_of k x)) (sym is.2) (restarted_leaves old h area log is.0 next)

  pub life_healthy : (steps : List (LogStep E P)) (old new : Logged E P) → IsHealthy k old → IsLife k old steps new → IsHealthy k new
  life_healthy [] old new h life = subst (IsHealthy k) (sym life) h
  life_healthy (step ∷ steps) old new h life = life_healthy steps life.0 new (step_healthy old life.0 step h life.1) life.2

  pub life_moves : (steps : List (LogStep E P)) (old new : Logged E P) → IsHealthy k old → (life : IsLife k old steps new)
      → AreMoves (kept_of k old) (moves_of k old steps new life) (kept_of k new)
  life_moves [] old new h life = ap (kept_of k) life
  life_moves (step ∷ steps) old new h life =
      (kept_of k life.0, step_moves old life.0 step h life.1, life_moves steps life.0 new (step_healthy old life.0 step h life.1) life.2)

-- no move lowers the durable number
pub move_rises : {E : Type 0} → (old new : Kept E) (move : Move E) → IsMove old move new → old.first ≤ new.first
move_rises old new Stays is = one_above old.first new.first is.first
move_rises old new Durable is = is.first
move_rises old new (Seals view) is = one_above old.first new.first is.first
move_rises old new Crashes is = is.at_least

through : (a b c : ℕ) → a ≤ b → b ≤ c → a ≤ c
through a b c p q = omega arith

pub moves_rise : {E : Type 0} → (moves : List (Move E)) (old new : Kept E) → AreMoves old moves new → old.first ≤ new.first
moves_rise [] old new are = one_above old.first new.first (ap (λ (x : Kept _). x.first) are)
moves_rise (move ∷ moves) old new are =
    through old.first are.0.first new.first (move_rises old are.0 move are.1) (moves_rise moves are.0 new are.2)
