use Rattle.std.proofs.Common.{◌≡◌, ◌⊎◌}
use Rattle.gx_pool.specs.State.{AllKept, NoneClean, holding}
use Rattle.gx_pool.proofs.Bringing.{BringsSome}
use Rattle.gx_pool.proofs.pool.Pool.bring.Given as goal

abbrev pub invariant-loop-page : goal.invariant-loop-page
invariant-loop-page g l =
    (l.self.test ≡ l.fn.self.test)
    × (AllKept l.fn.self.frames l.pages ⊎ NoneClean (holding l.fn.self.frames l.pages) → (l.self.frames ≡ holding l.fn.self.frames l.pages) × (l.disk ≡ l.fn.disk))
    × BringsSome (g.T.PageTest.passes l.fn.self.test) (g.D.SectorDisk.state l.fn.disk) (g.D.SectorDisk.state l.disk) (holding l.fn.self.frames l.pages) l.self.frames l.pages l.page-index
