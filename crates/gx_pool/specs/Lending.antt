-- How frames lend a page to be changed.
use Rattle.std.specs.Prelude.{ℕ}
use Rattle.std.specs.Borrow.{Lends, MutBor, Fml}
use denote.RattleType.{RattleType}
use Rattle.gx_page.specs.Contents.{Contents}
use Rattle.gx_page.specs.contracts.page.Page as contents
use Rattle.gx_pool.specs.State.{State}
use Rattle.gx_pool.specs.Edits.{with_page, changed}
use Rattle.gx_pool.specs.contracts.frames.Frames as frames
use Rattle.gx_pool.specs.contracts.pool.Pool as pool
use Rattle.gx_pool.specs.declared.pool.Pool.{Pool}

-- the frames end with the last contents behind r in frame i
abbrev pub LendsPage : MutBor State → ℕ → MutBor Contents → Fml
LendsPage s i r = Lends frames.the_row contents.the_row s r (with_page s.now i)

-- the frames end with the last contents behind r as the page's, and a change of that batch
abbrev pub LendsChange : MutBor State → ℕ → ℕ → MutBor Contents → Fml
LendsChange s page batch r = Lends frames.the_row contents.the_row s r (changed s.now page batch)

-- the pool with a change of that batch in a page
abbrev pub changed_pool : {T : Type 0} → Pool T → ℕ → ℕ → Contents → Pool T
changed_pool p page batch contents = record p { frames = changed p.frames page batch contents }

module _ (T : RattleType) (p : MutBor (Pool T.Denot)) where
  -- the pool ends with the last contents behind r as the page's, and a change of that batch
  abbrev pub lends_change : ℕ → ℕ → MutBor Contents → Fml
  lends_change page batch r = Lends (pool.the_row T) contents.the_row p r (changed_pool p.now page batch)
