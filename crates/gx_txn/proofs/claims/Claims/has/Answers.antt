use Rattle.std.proofs.Common.{ap, sym, ◌∙◌}
use Rattle.gx_machine.specs.Keys.{IsLawful, keys}
use Rattle.gx_machine.specs.Sets.{has}
use Rattle.gx_txn.proofs.claims.Tabled.{unmarked_lacks}
use Rattle.gx_txn.proofs.claims.Claims.has.Goals as goal

pub returns-else-has : goal.returns-else-has
returns-else-has g c =
    let k = keys g.B.Ord.cmp g.B.Shape.overlap g.B.Shape.inside in
    let lawful : IsLawful k = record { total = g.met.B.Ord.total; exact = g.met.B.Shape.same } in
    let self = c.self.inside in
    c.if-has.false ∙ sym (unmarked_lacks k lawful c.args.e.now self.rows self.entries.items c.self.invariant.2.marked (sym c.has.ensures ∙ c.if-has.false))
    ∙ ap (has k c.args.e.now) c.self.view_is
