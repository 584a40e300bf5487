use Rattle.std.proofs.lemmas.Grind.{common_steps}
use Rattle.std.proofs.Common.{List, ap, sym, subst, length, arith}
use Rattle.gx_machine.specs.declared.entry.Entry.{Entry}
use Rattle.gx_txn.specs.Claimed.{IsTabled}
use Rattle.gx_txn.proofs.claims.Tabled.{tabled_with}
use Rattle.gx_txn.proofs.claims.Claims.insert_at.Goals as goal

pub invariant_of-self : goal.invariant_of-self
invariant_of-self g c =
    let self = c.self.inside in
    let long = ap (λ (es : List (Entry _)). length es) c.self.view_is in (
      omega (arith, c.self.invariant.0, c.insert_at-2.ensures.capacity),
      omega (arith, c.self.invariant.1, c.insert_at.ensures.capacity),
      subst (λ (es : List (Entry _)). IsTabled c.set.new.self c.insert_at.new.list.items es) (sym c.insert_at-2.ensures.items)
          (tabled_with c.args.e self.rows c.set.new.self self.keys.items c.insert_at.new.list.items self.entries.items c.args.place _
          (omega (arith, long, c.requires.within)) c.set.ensures.only c.set.ensures.marked c.insert_at.ensures.items c.self.invariant.2),
    )

pub insert_at-requires-clause-within : goal.insert_at-requires-clause-within
insert_at-requires-clause-within g c = grind (arith, common_steps)

pub insert_at-requires-clause-room : goal.insert_at-requires-clause-room
insert_at-requires-clause-room g c = grind (arith, common_steps)
