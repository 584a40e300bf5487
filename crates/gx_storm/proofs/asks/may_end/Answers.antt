use Rattle.gx_machine.specs.Keys.{keys}
use Rattle.gx_storm.proofs.asks.Asking.{ends_behind, ends_here}
use Rattle.gx_storm.proofs.asks.may_end.Goals as goal

pub returns-in-Some : goal.returns-in-Some
returns-in-Some g c =
    let k = keys g.B.Ord.cmp g.B.Shape.overlap g.B.Shape.inside in
    rw c.in-Some.is (λ lasts p w st. ends_behind k c.in-Some.session c.in-Some.call c.args.index.now c.is_opened.new.index c.is_opened.result (c.is_opened.ensures lasts) p w st)

pub returns-in-None : goal.returns-in-None
returns-in-None g c = rw c.in-None.is (λ lasts p w st. ends_here (keys g.B.Ord.cmp g.B.Shape.overlap g.B.Shape.inside) c.args.index.now p w st)
