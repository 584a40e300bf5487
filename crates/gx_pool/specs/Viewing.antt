-- How a pool lends a page that it brings first.
use Rattle.std.specs.Prelude.{◌≡◌, ℕ, ⊤, Bool, Result, IfOk, IfSome}
use Rattle.std.specs.Borrow.{Bor, Fml, LendsSoOk, MutBor, RattleType, follows_so}
use mathlib.Core.Option.{none}
use Rattle.gx_disk.specs.Device.{Device}
use Rattle.gx_page.specs.Contents.{Contents}
use Rattle.gx_page.specs.contracts.page.Page as contents
use Rattle.gx_pool.specs.declared.fault.PoolFault.{PoolFault}
use Rattle.gx_pool.specs.declared.pool.Pool.{Pool}
use Rattle.gx_pool.specs.contracts.pool.Pool as pool
use Rattle.gx_pool.specs.Bringing.{BringsOne}
use Rattle.gx_pool.specs.Edits.{changed}
use Rattle.gx_pool.specs.State.{State, kept}

-- a page was brought, and is lent
pub record Views {T : Type 0} (passes : Contents → Bool) (d e : Device) (old new : Pool T) (page : ℕ) (result : Result (Bor Contents) PoolFault) : Type 0 where
  pub brought : BringsOne passes d e old.frames new.frames page result
  pub lent : IfOk result (λ r. IfSome (kept new.frames page) (λ k. r.now ≡ k.page))
  pub test : new.test ≡ old.test

-- a page was brought and lent as it was kept then; in the end it has the last contents, and a change of that batch
pub record Changes {T : Type 0} (passes : Contents → Bool) (d e : Device) (old new : Pool T) (page batch : ℕ) (result : Result (MutBor Contents) PoolFault) (last : Contents) : Type 0 where
  pub between : State
  pub brought : BringsOne passes d e old.frames between page result
  pub lent : IfOk result (λ r. IfSome (kept between page) (λ k. r.now ≡ k.page))
  pub changed : new.frames ≡ changed between page batch last
  pub test : new.test ≡ old.test

-- a page was to be brought, and was refused
pub record Refuses {T A : Type 0} (passes : Contents → Bool) (d e : Device) (old new : Pool T) (page : ℕ) (result : Result A PoolFault) : Type 0 where
  pub brought : BringsOne passes d e old.frames new.frames page result
  pub test : new.test ≡ old.test

module _ (T : RattleType) (passes : Contents → Bool) (d e : Device) (p : MutBor (Pool T.Denot)) (page : ℕ) where
  -- what the pool ends as once the page isn't read any more
  abbrev pub lends_view : Result (Bor Contents) PoolFault → Fml
  lends_view r = follows_so (pool.the_row T) (pool.the_row T) p.ghost_name none (λ _ _. ⊤) (λ n. Views passes d e p.now n page r)

  -- what the pool ends as once the page isn't changed any more
  abbrev pub lends_brought : ℕ → Result (MutBor Contents) PoolFault → Fml
  lends_brought batch r = LendsSoOk (pool.the_row T) contents.the_row p r (λ n w. Changes passes d e p.now n page batch r w) (λ n. Refuses passes d e p.now n page r)
