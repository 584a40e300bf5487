-- What contracts see of a tree's pages with their log.
use Rattle.std.specs.Prelude.{ℕ, Bool, List}
use Rattle.gx_glog.specs.State.{Log}
use Rattle.gx_store.specs.State.{Shelf}

-- A log, and a bit a page, set if the log's extent has an image of the page.
pub record Journal : Type 0 where
  pub log : Log
  pub imaged : List Bool

-- The log; the pages in frames over their device; how many entries a node has at most; and the bits of the journal.
pub record Volume (D : Type 0) : Type 0 where
  pub log : Log
  pub shelf : Shelf D
  pub most : ℕ
  pub imaged : List Bool

abbrev pub volume : {D : Type 0} → Journal → Shelf D → ℕ → Volume D
volume journal shelf most = record { log = journal.log; shelf = shelf; most = most; imaged = journal.imaged }

abbrev pub journal_of : {D : Type 0} → Volume D → Journal
journal_of v = record { log = v.log; imaged = v.imaged }
