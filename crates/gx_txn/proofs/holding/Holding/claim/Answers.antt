use Rattle.std.proofs.Common.{arith, rules}
use Rattle.gx_machine.specs.Keys.{IsLawful, keys}
use Rattle.gx_txn.proofs.holding.Keeping.{claim_put}
use Rattle.gx_txn.proofs.holding.Holding.claim.Goals as goal

pub invariant_of-self : goal.invariant_of-self
invariant_of-self g c =
    let k = keys g.B.Ord.cmp g.B.Shape.overlap g.B.Shape.inside in
    let lawful : IsLawful k = record { total = g.met.B.Ord.total; exact = g.met.B.Shape.same } in
    let self = c.self.inside in (
      c.self.invariant.0,
      claim_put k lawful self.claims self.predicates self.notes.items c.args.self.now c.self.view_is c.self.invariant.1
          c.args.e c.insert_at.new.self c.in-Err.field-0 c.args.spent c.requires (omega arith)
          c.in-Err.ensures.goes c.insert_at.ensures,
    )

pub returns-in-Err-clause-takes : goal.returns-in-Err-clause-takes
returns-in-Err-clause-takes g c = search rules
