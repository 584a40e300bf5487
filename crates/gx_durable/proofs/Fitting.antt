-- Pages that can be read stay so by each step of a log.
use Rattle.std.proofs.Common.{◌≡◌, ◌∙◌, sym, ap, subst, ℕ, List, [], ◌++◌, append_assoc}
use Rattle.std.proofs.Math.Path.{fun_ext}
use Rattle.std.proofs.lemmas.List.{append-nil}
use Rattle.gx_recovery.specs.Known.{Known, IsLawful}
use Rattle.gx_recovery.specs.Records.{Record}
use Rattle.gx_recovery.specs.Damage.{IsLog}
use Rattle.gx_recovery.specs.Life.{AllWritten}
use Rattle.gx_recovery.specs.Logged.{Logged, AgreesBeside, all_records, appended, begun, gate_synced}
use Rattle.gx_recovery.specs.Redo.{redone, tree_of}
use Rattle.gx_recovery.specs.Renewal.{found, renewed}
use Rattle.gx_recovery.proofs.Renewals.{same_tree}
use Rattle.gx_recovery.proofs.States.{tree_agrees}
use Rattle.gx_durable.specs.Spelled.{Reading}
use Rattle.gx_durable.specs.Fitting.{AllFit, PagesFit}

module _ {E P : Type 0} (k : Known E P) (r : Reading E P) where
  -- the pages after a log
  abbrev Fit : (ℕ → P) → List (Record E P) → Type 0
  Fit area log = PagesFit r (tree_of k area log)

  -- a log that is found
  pub found_fit : (area : ℕ → P) (log : List (Record E P)) → Fit area log → AllFit k r (found area log)
  found_fit area log fit =
      let again : Fit area (log ++ []) = subst (Fit area) (sym (append-nil log)) fit in
      record { gated = fit; flight = again; all = again }

  pub appended_fit : (x : Record E P) (s : Logged E P) → Fit s.area (all_records (appended x s)) → AllFit k r s → AllFit k r (appended x s)
  appended_fit x s all fit = record { gated = fit.gated; flight = fit.flight; all = all }

  pub begun_fit : (s : Logged E P) → s.flight ≡ [] → AllFit k r s → AllFit k r (begun s)
  begun_fit s none fit =
      let now : Fit s.area (s.gated ++ s.filling) = subst (Fit s.area) (ap (λ (x : List (Record E P)). s.gated ++ (x ++ s.filling)) none) fit.all in
      record { gated = fit.gated; flight = now; all = subst (Fit s.area) (ap (λ (x : List (Record E P)). s.gated ++ x) (sym (append-nil s.filling))) now }

  pub synced_fit : (s : Logged E P) → AllFit k r s → AllFit k r (gate_synced s)
  synced_fit s fit = record {
    gated = fit.flight;
    flight = subst (Fit s.area) (sym (append-nil (s.gated ++ s.flight))) fit.flight;
    all = subst (Fit s.area) (sym (append_assoc s.gated s.flight s.filling)) fit.all;
  }

  -- pages are written that gated records give, or a crash comes over them
  module _ (l : IsLawful k) (gated : List (Record E P)) (old area : ℕ → P) (agrees : AgreesBeside gated old area) where
    pub over_fit : (more : List (Record E P)) → Fit old (gated ++ more) → Fit area (gated ++ more)
    over_fit more fit = subst (PagesFit r) (sym (tree_agrees k l gated more old area agrees)) fit

    pub gated_fit : Fit old gated → Fit area gated
    gated_fit fit = subst (Fit area) (append-nil gated) (over_fit [] (subst (Fit old) (sym (append-nil gated)) fit))

  pub written_fit : IsLawful k → (s : Logged E P) (area : ℕ → P) → AgreesBeside s.gated s.area area → AllFit k r s → AllFit k r (record s { area = area })
  written_fit l s area agrees fit = record {
    gated = gated_fit l s.gated s.area area agrees fit.gated;
    flight = over_fit l s.gated s.area area agrees s.flight fit.flight;
    all = over_fit l s.gated s.area area agrees (s.flight ++ s.filling) fit.all;
  }

  -- a log that is renewed over pages that are written
  module _ (l : IsLawful k) (next : ℕ) (s : Logged E P) (none : s.flight ≡ []) (quiet : s.filling ≡ []) (written : AllWritten s) (is : IsLog k s.gated) (fit : AllFit k r s) where
    pub head_fits : Fit s.area (renewed k next s.gated)
    head_fits =
        let T : (ℕ → P) → Type 0 = λ area. tree_of k area (renewed k next s.gated) ≡ tree_of k s.area s.gated in
        let area : redone s.area s.gated ≡ s.area = fun_ext (λ p. sym (written p)) in
        subst (PagesFit r) (sym (subst T area (same_tree k l next s.area s.gated is))) fit.gated

    pub renewed_fit : AllFit k r (record s { gated = renewed k next s.gated })
    renewed_fit =
        let head = renewed k next s.gated in
        let alone : head ++ s.flight ≡ head = ap (λ (x : List (Record E P)). head ++ x) none ∙ append-nil head in
        let whole : head ++ (s.flight ++ s.filling) ≡ head =
        ap (λ (x : List (Record E P)). head ++ (x ++ s.filling)) none ∙ ap (λ (x : List (Record E P)). head ++ x) quiet ∙ append-nil head in
        record { gated = head_fits; flight = subst (Fit s.area) (sym alone) head_fits; all = subst (Fit s.area) (sym whole) head_fits }
