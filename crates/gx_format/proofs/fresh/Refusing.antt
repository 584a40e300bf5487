-- What a format comes to, of its run or of its refusal.
use Rattle.std.proofs.Common.{◌≡◌, sym, refl, subst, ℕ, ◌≤◌, Result, Ok, Err}
use Rattle.std.specs.Result.{OnOk}
use Rattle.gx_geom.specs.declared.refusal.Refusal.{Refusal}
use Rattle.gx_disk.specs.Device as disk
use Rattle.gx_page.specs.Contents.{Contents}
use Rattle.gx_glog.specs.declared.parameters.Parameters.{Parameters}
use Rattle.gx_format.specs.Calls.{Runs}
use Rattle.gx_format.specs.Formatting.{AreInRange, Formats, sectors_of, formatting}

module _ {D : Type 0} (state : D → disk.Device) (parameters : Parameters) (root : Contents) (old new : D)
    (range : AreInRange parameters.pages parameters.most) (room : sectors_of parameters.pages ≤ (state old).sectors) where
  -- the run of all calls is what it comes to
  pub run_formats : (result : Result (Unit {0}) Refusal) → Runs state (formatting parameters root) old new result → Formats state parameters root old new result
  run_formats (Ok x) run = (range, (room, run))
  run_formats (Err why) fails =
      subst (λ (r : Refusal). Formats state parameters root old new (Err r)) (sym fails.0) (range, (room, fails.1))

-- what holds if it is Ok holds on Ok
pub on_ok : (result : Result (Unit {0}) Refusal) (P : Type 0) → (result ≡ Ok tt → P) → OnOk result P
on_ok (Ok x) P holds = holds refl
on_ok (Err why) P holds = tt

-- the run, with the class's own number and root
pub of_class : {D : Type 0} (state : D → disk.Device) (pages most class number : ℕ) (page root : Contents) (old new : D) (result : Result (Unit {0}) Refusal) → class ≡ number → page ≡ root
    → Runs state (formatting (record { pages = pages; most = most; class = class }) page) old new result
    → Runs state (formatting (record { pages = pages; most = most; class = number }) root) old new result
of_class state pages most class number page root old new result is same run =
    subst (λ (n : ℕ). Runs state (formatting (record { pages = pages; most = most; class = n }) root) old new result) is
    (subst (λ (p : Contents). Runs state (formatting (record { pages = pages; most = most; class = class }) p) old new result) same run)
