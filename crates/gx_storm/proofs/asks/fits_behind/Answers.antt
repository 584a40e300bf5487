use Rattle.std.proofs.lemmas.Result.{IfOk-weaker}
use Rattle.gx_machine.specs.declared.reply.Asked.TheVariants as asked
use Rattle.gx_machine.specs.Keys.{keys}
use Rattle.gx_storm.proofs.asks.Asking.{is_asked, at_once, then_here}
use Rattle.gx_storm.proofs.asks.fits_behind.Goals as goal

pub returns-in-Now : goal.returns-in-Now
returns-in-Now g c = λ faultless lasts r st.
    let k = keys g.B.Ord.cmp g.B.Shape.overlap g.B.Shape.inside in
    at_once k c.args.session c.args.call r c.args.item.now c.args.index.now c.ask.new.self faultless c.in-Now.reply c.is_reply.result
    (is_asked k c.args.session c.args.call r c.args.index.now c.ask.new.self (asked.Now c.in-Now.reply) c.stands.ensures st lasts c.in-Now.ensures.asked c.in-Now.ensures.index)
    c.is_reply.ensures

pub returns-in-Open : goal.returns-in-Open
returns-in-Open g c =
    let k = keys g.B.Ord.cmp g.B.Shape.overlap g.B.Shape.inside in
    IfOk-weaker c.fits_here.result _ _
    (λ fit h faultless lasts r st. (
    let a = is_asked k c.args.session c.args.call r c.args.index.now c.ask.new.self asked.Open c.stands.ensures st lasts c.in-Open.ensures.asked c.in-Open.ensures.index in
    then_here k c.args.session c.args.call r c.args.item.now c.args.index.now c.ask.new.self faultless c.fits_here.new.index fit a (h faultless a.machine a.stands)
    )) c.fits_here.ensures
