use Rattle.std.proofs.Common.{◌∙◌, sym}
use Rattle.gx_machine.specs.Keys.{keys}
use Rattle.gx_storm.proofs.answers.Following.{sealed_nowhere, unsealed_along}
use Rattle.gx_storm.proofs.answers.is_answer.Goals as goal

pub returns-then-is_some : goal.returns-then-is_some
returns-then-is_some g c = λ r st.
    sealed_nowhere (keys g.B.Ord.cmp g.B.Shape.overlap g.B.Shape.inside) c.args.session r c.args.index.now c.stands.ensures st c.args.reply.now c.seal.result c.seal.new.self c.requires c.seal.ensures
    (sym c.is_some.ensures ∙ c.if-is_some.true)

pub returns : goal.returns
returns g c = λ r st.
    unsealed_along (keys g.B.Ord.cmp g.B.Shape.overlap g.B.Shape.inside) c.args.session r c.args.index.now c.stands.ensures st c.args.reply.now c.answer-given.result c.seal.result c.seal.new.self c.answer-given.new.self
    c.is_same_reply.result c.requires c.seal.ensures (sym c.is_some.ensures ∙ c.if-is_some.false) c.answer-given.ensures c.if-lacks_memory.ensures c.is_same_reply.ensures
