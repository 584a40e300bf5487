-- The pages after a log: each record in turn, over a page area.
use Rattle.std.specs.Prelude.{ℕ, ◌==◌, if◌then◌else◌, List, [], ◌∷◌}
use Rattle.gx_recovery.specs.Known.{Known, Tree}
use Rattle.gx_recovery.specs.Records.{Image, Said, Whole, Small, Record, Pages, Adjust, Write, Commit, End, Counters, Note}
use Rattle.gx_recovery.specs.Analysis.{analysis}

-- the pages with this one's content
abbrev pub with_page : {P : Type 0} → ℕ → P → (ℕ → P) → ℕ → P
with_page page content area = λ p. if page == p then content else area p

-- the pages with these contents, the last of a page's counting
abbrev pub with_images : {P : Type 0} → List (Image P) → (ℕ → P) → ℕ → P
with_images [] area = area
with_images (i ∷ images) area = with_images images (with_page i.page i.content area)

-- what is said of a page makes of its content
abbrev pub said_over : {P : Type 0} → Said P → P → P
said_over (Whole content) old = content
said_over (Small change) old = change.made old

-- what a record makes of the pages
abbrev pub redo : {E P : Type 0} → (ℕ → P) → Record E P → ℕ → P
redo area (Pages images counter used) = with_images images area
redo area (Adjust page change) = with_page page (change.made (area page)) area
redo area (Write transaction entry before after leaf said) = with_page leaf (said_over said (area leaf)) area
redo area (Commit transaction number) = area
redo area (End transaction) = area
redo area (Counters number counter used next) = area
redo area (Note transaction entry before leaf) = area

-- the pages after these records
abbrev pub redone : {E P : Type 0} → (ℕ → P) → List (Record E P) → ℕ → P
redone area [] = area
redone area (r ∷ rs) = redone (redo area r) rs

-- the tree after a log
abbrev pub tree_of : {E P : Type 0} → Known E P → (ℕ → P) → List (Record E P) → Tree P
tree_of k area log = record { page = redone area log; counter = (analysis k log).counter; used = (analysis k log).used }
