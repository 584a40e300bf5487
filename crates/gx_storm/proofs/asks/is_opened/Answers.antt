use Rattle.gx_machine.specs.Keys.{keys}
use Rattle.gx_storm.proofs.asks.Asking.{is_asked, ends_by}
use Rattle.gx_storm.proofs.asks.is_opened.Goals as goal

pub returns : goal.returns
returns g c = λ lasts r st.
    let k = keys g.B.Ord.cmp g.B.Shape.overlap g.B.Shape.inside in
    ends_by k c.args.session c.args.call r c.args.index.now c.ask-given.new.self c.ask-given.result c.is_open.result
    (is_asked k c.args.session c.args.call r c.args.index.now c.ask-given.new.self c.ask-given.result c.stands.ensures st lasts c.ask-given.ensures.asked c.ask-given.ensures.index)
    c.is_open.ensures
