use Rattle.gx_machine.specs.Keys.{keys}
use Rattle.gx_txn.proofs.predicates.ByKind.{any_of_kinds}
use Rattle.gx_txn.proofs.predicates.Predicates.any_matches.Goals as goal

pub returns : goal.returns
returns g c =
    let k = keys g.B.Ord.cmp g.B.Shape.overlap g.B.Shape.inside in
    let self = c.self.inside in
    any_of_kinds k c.args.e.now self.asked.items c.args.self.now self.overlap.items self.within.items self.equal.items self.covers.items
    c.deref.result.now c.deref-2.result.now c.deref-3.result.now c.deref-4.result.now
    c.some_passes-overlapped.result c.some_passes-around.result c.some_passes-same.result c.some_passes-inside.result
    c.self.invariant.5 c.deref.ensures.value c.deref-2.ensures.value c.deref-3.ensures.value c.deref-4.ensures.value c.self.view_is
    c.some_passes-overlapped.ensures c.some_passes-around.ensures c.some_passes-same.ensures c.some_passes-inside.ensures
