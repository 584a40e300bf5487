use Rattle.std.proofs.Common.{refl}
use Rattle.std.specs.Prelude.{◌==◌}
use Rattle.gx_machine.specs.Keys.{keys}
use Rattle.gx_storm.proofs.answers.Following.{seals_none, seals_some}
use Rattle.gx_storm.proofs.answers.seals.Goals as goal

pub returns-in-Some : goal.returns-in-Some
returns-in-Some g c = λ r st.
    seals_some (keys g.B.Ord.cmp g.B.Shape.overlap g.B.Shape.inside) c.args.session r c.args.index.now c.stands.ensures st c.args.number c.in-Some.sealed c.seal.new.self
    (c.in-Some.sealed == c.args.number) c.in-Some.ensures refl

pub returns-in-None : goal.returns-in-None
returns-in-None g c = λ r st.
    seals_none (keys g.B.Ord.cmp g.B.Shape.overlap g.B.Shape.inside) c.args.session r c.args.index.now c.stands.ensures st c.args.number c.seal.new.self c.in-None.ensures
