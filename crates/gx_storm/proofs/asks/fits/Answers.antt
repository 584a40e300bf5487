use Rattle.std.proofs.lemmas.Result.{IfOk-weaker}
use Rattle.gx_machine.specs.Keys.{keys}
use Rattle.gx_storm.proofs.asks.Asking.{behind, here}
use Rattle.gx_storm.proofs.asks.fits.Goals as goal

pub returns-in-Some : goal.returns-in-Some
returns-in-Some g c =
    let k = keys g.B.Ord.cmp g.B.Shape.overlap g.B.Shape.inside in
    rw c.in-Some.is (IfOk-weaker c.fits_behind.result _ _
    (λ fit h faultless lasts p w st.
    behind k c.in-Some.session c.in-Some.call c.args.item.now c.args.index.now c.fits_behind.new.index fit (h faultless lasts) p w st) c.fits_behind.ensures)

pub returns-in-None : goal.returns-in-None
returns-in-None g c =
    let k = keys g.B.Ord.cmp g.B.Shape.overlap g.B.Shape.inside in
    rw c.in-None.is (IfOk-weaker c.fits_here.result _ _
    (λ fit h faultless lasts p w st. here k c.args.item.now c.args.index.now c.fits_here.new.index fit (h faultless) p w st) c.fits_here.ensures)
