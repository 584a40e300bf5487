use Rattle.gx_machine.specs.declared.query.Query.TheVariants.{Overlap, Within, Equal, Covers}
use Rattle.gx_machine.specs.Keys.{IsLawful, keys}
use Rattle.gx_txn.proofs.claims.Tabled.{any_of_keys}
use Rattle.gx_txn.proofs.claims.Claims.any_matching.Goals as goal

pub returns-in-Overlap : goal.returns-in-Overlap
returns-in-Overlap g c =
    let k = keys g.B.Ord.cmp g.B.Shape.overlap g.B.Shape.inside in
    let lawful : IsLawful k = record { total = g.met.B.Ord.total; exact = g.met.B.Shape.same } in
    let self = c.self.inside in
    any_of_keys k lawful (Overlap c.in-Overlap.q) c.args.query.now self.rows self.keys.items c.deref.result.now self.entries.items c.args.self.now c.some_passes.result
    c.in-Overlap.is c.deref.ensures.value c.self.invariant.2 c.self.view_is c.some_passes.ensures

pub returns-in-Within : goal.returns-in-Within
returns-in-Within g c =
    let k = keys g.B.Ord.cmp g.B.Shape.overlap g.B.Shape.inside in
    let lawful : IsLawful k = record { total = g.met.B.Ord.total; exact = g.met.B.Shape.same } in
    let self = c.self.inside in
    any_of_keys k lawful (Within c.in-Within.q) c.args.query.now self.rows self.keys.items c.deref-in-Within.result.now self.entries.items c.args.self.now c.some_passes-in-Within.result
    c.in-Within.is c.deref-in-Within.ensures.value c.self.invariant.2 c.self.view_is c.some_passes-in-Within.ensures

pub returns-in-Equal : goal.returns-in-Equal
returns-in-Equal g c =
    let k = keys g.B.Ord.cmp g.B.Shape.overlap g.B.Shape.inside in
    let lawful : IsLawful k = record { total = g.met.B.Ord.total; exact = g.met.B.Shape.same } in
    let self = c.self.inside in
    any_of_keys k lawful (Equal c.in-Equal.q) c.args.query.now self.rows self.keys.items c.deref-in-Equal.result.now self.entries.items c.args.self.now c.some_passes-in-Equal.result
    c.in-Equal.is c.deref-in-Equal.ensures.value c.self.invariant.2 c.self.view_is c.some_passes-in-Equal.ensures

pub returns-in-Covers : goal.returns-in-Covers
returns-in-Covers g c =
    let k = keys g.B.Ord.cmp g.B.Shape.overlap g.B.Shape.inside in
    let lawful : IsLawful k = record { total = g.met.B.Ord.total; exact = g.met.B.Shape.same } in
    let self = c.self.inside in
    any_of_keys k lawful (Covers c.in-Covers.q) c.args.query.now self.rows self.keys.items c.deref-in-Covers.result.now self.entries.items c.args.self.now c.some_passes-in-Covers.result
    c.in-Covers.is c.deref-in-Covers.ensures.value c.self.invariant.2 c.self.view_is c.some_passes-in-Covers.ensures
