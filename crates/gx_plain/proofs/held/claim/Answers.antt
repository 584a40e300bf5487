use Rattle.std.proofs.Common.{ap, sym, ◌∙◌, subst, arith, List}
use Rattle.gx_machine.specs.declared.entry.Entry.{Entry}
use Rattle.gx_machine.specs.Keys.{IsLawful, keys}
use Rattle.gx_machine.specs.Sets.{has}
use Rattle.gx_machine.specs.Invariants.{Covered}
use Rattle.gx_machine.proofs.SessionMoves.{has_included, included_covers}
use Rattle.gx_machine.proofs.SetLemmas.{length-including}
use Rattle.gx_plain.proofs.held.claim.Goals as goal

pub include_within_capacity-requires : goal.include_within_capacity-requires
include_within_capacity-requires g c =
    let k = keys g.B.Ord.cmp g.B.Shape.overlap g.B.Shape.inside in
    omega (arith, length-including k c.args.e c.args.claims.now.items)

pub returns-clause-claimed : goal.returns-clause-claimed
returns-clause-claimed g c =
    let k = keys g.B.Ord.cmp g.B.Shape.overlap g.B.Shape.inside in
    let lawful : IsLawful k = record { total = g.met.B.Ord.total; exact = g.met.B.Shape.same } in
    λ _. ap (has k c.args.e) c.include_within_capacity.ensures.items ∙ has_included k lawful c.args.e c.args.claims.now.items

pub returns-clause-kept : goal.returns-clause-kept
returns-clause-kept g c =
    let k = keys g.B.Ord.cmp g.B.Shape.overlap g.B.Shape.inside in
    let lawful : IsLawful k = record { total = g.met.B.Ord.total; exact = g.met.B.Shape.same } in
    subst (λ (claims : List (Entry g.row.B.Denot)). Covered k c.args.claims.now.items claims) (sym c.include_within_capacity.ensures.items)
    (included_covers k lawful c.args.e c.args.claims.now.items)
