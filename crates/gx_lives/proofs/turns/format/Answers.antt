use Rattle.std.proofs.Common.{subst}
use Rattle.gx_glog.specs.Parameters.{Fit}
use Rattle.gx_glog.specs.declared.parameters.Parameters.{Parameters}
use Rattle.gx_lives.proofs.Beginning.{begins, formatted, is_new}
use Rattle.gx_lives.proofs.turns.format.Goals as goal

pub returns-clause-begins : goal.returns-clause-begins
returns-clause-begins g c = λ honest.
    begins _ g.K.ReadKeys.is_proper g.K.ReadKeys.said g.K.KeyClass _ g.D.SectorDisk.state c.leaves.ensures.read c.inners.ensures.read g.met.K.KeyClass.start_is_key c.a_class_is_lawful.ensures
    (record { pages = c.args.pages; most = c.args.most; class = g.K.KeyClass.CLASS }) c.args.disk.now c.format.new.disk honest c.format.result c.format.ensures.formats c.format.ensures.root
    (c.format.ensures.fresh honest)

pub returns-clause-formatted : goal.returns-clause-formatted
returns-clause-formatted g c = λ honest.
    let p : Parameters = record { pages = c.args.pages; most = c.args.most; class = g.K.KeyClass.CLASS } in
    formatted _ _ _ _ _ g.D.SectorDisk.state p c.args.disk.now c.format.new.disk _ c.format.result c.format.ensures.formats (subst (λ class. Fit (record { pages = c.args.pages; most = c.args.most; class = class })) c.CLASS.ensures c.fits.ensures) (c.format.ensures.fresh honest)

pub returns-clause-new : goal.returns-clause-new
returns-clause-new g c = λ honest.
    is_new g.K.KeyClass _ g.D.SectorDisk.state _ c.args.disk.now c.format.new.disk honest c.format.result c.format.ensures.formats c.format.ensures.root
