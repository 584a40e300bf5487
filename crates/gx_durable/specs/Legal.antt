-- The tree of an image: its pages by number, up to those in use, as its log and its page area have them; and when it is legal.
use Rattle.std.specs.Prelude.{◌≡◌, ℕ, ◌≤◌, Bool, List, unwrap_or}
use Rattle.gx_pool.specs.Area.{bytes_of}
use Rattle.gx_recovery.specs.Known.{Known, Tree, IsLawful}
use Rattle.gx_recovery.specs.Records.{Record, any_number}
use Rattle.gx_recovery.specs.Analysis.{analysis, number_of}
use Rattle.gx_recovery.specs.Given.{given}
use Rattle.gx_recovery.specs.Standing.{first_before, by_mark, counting}
use Rattle.gx_recovery.specs.Damage.{records_of}
use Rattle.gx_recovery.specs.Coming.{IsGood}
use Rattle.gx_recovery.specs.Logged.{Logged, kept}
use Rattle.gx_durable.specs.Spelled.{Reading}
use Rattle.gx_durable.specs.Standing.{Stands}

-- a page of an image: what the log gives of it, or, if it gives nothing, what the page area has
abbrev pub page_in : {E P : Type 0} → Reading E P → List (Record E P) → List ℕ → ℕ → P
page_in r log image p = unwrap_or (given p log) (r.content (bytes_of image p))

-- A tree is that of an image with this log: it has the numbers that the log says, and the image's pages up to those in
-- use. No more is said of it, whatever it has as other pages.
pub record IsTreeOf {E P : Type 0} (k : Known E P) (r : Reading E P) (log : List (Record E P)) (image : List ℕ) (t : Tree P) : Type 0 where
  pub counter : t.counter ≡ (analysis k log).counter
  pub used : t.used ≡ (analysis k log).used
  pub pages : (p : ℕ) → 1 ≤ p → p ≤ t.used → t.page p ≡ page_in r log image p

-- two trees have the same numbers, and the same pages up to those in use
pub record AgreeOnUsed {P : Type 0} (one other : Tree P) : Type 0 where
  pub counter : other.counter ≡ one.counter
  pub used : other.used ≡ one.used
  pub pages : (p : ℕ) → 1 ≤ p → p ≤ one.used → other.page p ≡ one.page p

-- What is known of a sound tree is read of its pages up to those in use.
pub record ReadsUsed {E P : Type 0} (k : Known E P) : Type 0 where
  pub sound : (one other : Tree P) → AgreeOnUsed one other → k.sound one → k.sound other
  pub live : (one other : Tree P) → AgreeOnUsed one other → k.sound one → (e : E) → k.live other e ≡ k.live one e
  pub placed : (one other : Tree P) → AgreeOnUsed one other → (e : E) (leaf : ℕ) → k.placed one e leaf → k.placed other e leaf

-- An image with this log is legal, and this is its set: the device has its pages in use, its tree is sound, with all that open
-- transactions touched in its place, and the set has what is live in the tree, but that an entry which an open transaction
-- touched is in it by its first mark before.
pub record IsLegal {E P : Type 0} (k : Known E P) (r : Reading E P) (log : List (Record E P)) (image : List ℕ) (set : E → Bool) : Type 0 where
  pub on_device : (analysis k log).used ≤ k.pages
  pub good : (t : Tree P) → IsTreeOf k r log image t → IsGood k t log
  pub same_set : (t : Tree P) (e : E) → IsTreeOf k r log image t → by_mark (first_before k (counting any_number log) e log) (k.live t e) ≡ set e

-- An image that stands for a kept set is legal for the log that it has, and its set is that one, where trees are read of the
-- pages in use.
abbrev pub WhatStandsIsLegal : {E P : Type 0} → Known E P → Reading E P → Type 0
WhatStandsIsLegal {E} {P} k r = IsLawful k → ReadsUsed k → (s : Logged E P) (image : List ℕ) → (stands : Stands k r s image)
    → IsLegal k r (records_of stands.bodies) image (kept k s (number_of k (records_of stands.bodies)))
