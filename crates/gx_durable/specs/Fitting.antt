-- Bodies of a log and pages after it that can be read.
use Rattle.std.specs.Prelude.{ℕ, ◌<◌, ◌≤◌, List, ◌++◌}
use Rattle.gx_glog.specs.declared.extent.TheConstants.{PLACES}
use Rattle.gx_glog.specs.Layout.{selected_of, body_of, size_in, open_run}
use Rattle.gx_glog.specs.Reading.{IsSize}
use Rattle.gx_recovery.specs.Known.{Known, Tree}
use Rattle.gx_recovery.specs.Records.{Record}
use Rattle.gx_recovery.specs.Coming.{IsGood}
use Rattle.gx_recovery.specs.Logged.{Logged, all_records}
use Rattle.gx_recovery.specs.Redo.{tree_of}
use Rattle.gx_durable.specs.Spelled.{Reading}

-- what each open body of an image says its size is fits it
abbrev pub HasSizes : List ℕ → Type 0
HasSizes image = (j : ℕ) → j < open_run image (selected_of image) 0 PLACES → IsSize (size_in (body_of image (selected_of image) j))

-- each page in use can be read under its number
abbrev pub PagesFit : {E P : Type 0} → Reading E P → Tree P → Type 0
PagesFit r t = (page : ℕ) → 1 ≤ page → page ≤ t.used → r.fits page (t.page page)

-- so it is after the gated records, after those in flight too, and after all
pub record AllFit {E P : Type 0} (k : Known E P) (r : Reading E P) (s : Logged E P) : Type 0 where
  pub gated : PagesFit r (tree_of k s.area s.gated)
  pub flight : PagesFit r (tree_of k s.area (s.gated ++ s.flight))
  pub all : PagesFit r (tree_of k s.area (all_records s))

-- the pages after a log over a page area are good for it, and can be read
pub record AreGood {E P : Type 0} (k : Known E P) (r : Reading E P) (area : ℕ → P) (log : List (Record E P)) : Type 0 where
  pub good : IsGood k (tree_of k area log) log
  pub fit : PagesFit r (tree_of k area log)
