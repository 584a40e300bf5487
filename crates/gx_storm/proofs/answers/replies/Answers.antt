use Rattle.std.proofs.Common.{sym}
use Rattle.gx_machine.specs.Keys.{keys}
use Rattle.gx_storm.proofs.answers.Following.{closes_along, never_fits}
use Rattle.gx_storm.proofs.answers.replies.Goals as goal

pub returns-in-Closed : goal.returns-in-Closed
returns-in-Closed g c = λ faultless r st.
    closes_along (keys g.B.Ord.cmp g.B.Shape.overlap g.B.Shape.inside) c.args.session r c.args.index.now c.stands.ensures st c.args.reply.now c.drop_call.new.self c.drop_call.result (sym c.in-Closed.ensures) c.drop_call.ensures

pub returns-in-Never : goal.returns-in-Never
returns-in-Never g c = λ faultless r st. never_fits (keys g.B.Ord.cmp g.B.Shape.overlap g.B.Shape.inside) c.args.session r c.args.reply.now (sym c.in-Never.ensures)
