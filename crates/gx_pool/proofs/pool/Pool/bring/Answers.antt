use Rattle.std.proofs.lemmas.Grind.{common_steps}
use Rattle.std.proofs.Common.{◌∙◌, refl, arith}
use Rattle.gx_pool.specs.State.{holding}
use Rattle.gx_pool.proofs.Bringing.{idle_next, none_brought, one_more, one_refused, refused_as}
use Rattle.gx_pool.proofs.pool.Pool.bring.Goals as goal

pub returns-in_err-bring_one-clause-brought : goal.returns-in_err-bring_one-clause-brought
returns-in_err-bring_one-clause-brought g c =
    let all = one_refused _ (g.D.SectorDisk.state c.args.disk.now) (g.D.SectorDisk.state c.loop-page.disk) (g.D.SectorDisk.state c.bring_one.new.disk) (holding c.args.self.now.frames c.args.pages.now)
    c.loop-page.self.frames c.bring_one.new.self.frames c.args.pages.now c.loop-page.page-index _ _ refl c.loop-page-test.true refl c.loop-page.invariant.2 (rw (← c.loop-page.invariant.0) c.in_err-bring_one.ensures.brought) in
    refused_as _ _ _ _ _ _ c.from_residual.result _ _ c.from_residual.ensures.1 (λ fault is. is) all

pub loop-page-init : goal.loop-page-init
loop-page-init g c = (
  refl,
  λ idle. (c.hold.ensures, refl),
  none_brought _ (g.D.SectorDisk.state c.args.disk.now) (holding c.args.self.now.frames c.args.pages.now) c.hold.new.self c.args.pages.now c.hold.ensures,
)

pub loop-page-preserved : goal.loop-page-preserved
loop-page-preserved g c = (
  c.bring_one.ensures.test ∙ c.loop-page.invariant.0,
  λ idle.
      let was = c.loop-page.invariant.1 idle in
      let now = c.bring_one.ensures.idle (idle_next c.args.self.now.frames c.loop-page.self.frames c.args.pages.now c.loop-page.page-index _ c.loop-page-test.true refl was.0 idle) in
      (now.0 ∙ was.0, now.1 ∙ was.1),
  one_more _ (g.D.SectorDisk.state c.args.disk.now) (g.D.SectorDisk.state c.loop-page.disk) (g.D.SectorDisk.state c.bring_one.new.disk) (holding c.args.self.now.frames c.args.pages.now)
      c.loop-page.self.frames c.bring_one.new.self.frames c.args.pages.now c.loop-page.page-index _ refl c.loop-page-test.true refl c.loop-page.invariant.2 (rw (← c.loop-page.invariant.0) c.in_ok-bring_one.ensures.brought),
)

pub returns-in_err-bring_one-clause-idle : goal.returns-in_err-bring_one-clause-idle
returns-in_err-bring_one-clause-idle g c = λ idle.
    let was = c.loop-page.invariant.1 idle in
    let now = c.bring_one.ensures.idle (idle_next c.args.self.now.frames c.loop-page.self.frames c.args.pages.now c.loop-page.page-index _ c.loop-page-test.true refl was.0 idle) in
    (now.0 ∙ was.0, now.1 ∙ was.1)

pub returns-clause-brought : goal.returns-clause-brought
returns-clause-brought g c = grind (arith, common_steps)
