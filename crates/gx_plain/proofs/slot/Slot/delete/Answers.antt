use Rattle.std.proofs.lemmas.Grind.{common_steps}
use Rattle.std.proofs.Common.{not, ◌≡◌, ◌≤◌, true, length, sym, ◌∙◌, subst, arith, List}
use Rattle.std.specs.Prelude.{None}
use Rattle.gx_machine.specs.declared.entry.Entry.{Entry}
use Rattle.gx_machine.specs.Keys.{IsLawful, keys, same_entry}
use Rattle.gx_machine.specs.Sets.{has, InOrder}
use Rattle.gx_machine.proofs.SetLaws.{in_order_filter}
use Rattle.gx_plain.specs.Slots.{TakesClaimed}
use Rattle.gx_plain.specs.declared.slot.SlotPhase.TheVariants as phase
use Rattle.gx_plain.proofs.slot.Parts.{delete_seen}
use Rattle.gx_plain.proofs.slot.TakenAway.{takes_more, delete_fits, delete_claimed}
use Rattle.gx_plain.proofs.slot.Slot.delete.Goals as goal

pub include_within_capacity-requires : goal.include_within_capacity-requires
include_within_capacity-requires g c =
    let k = keys g.B.Ord.cmp g.B.Shape.overlap g.B.Shape.inside in
    let lawful : IsLawful k = record { total = g.met.B.Ord.total; exact = g.met.B.Shape.same } in
    let self = c.self.inside in
    let claimed : (has k c.args.e self.claims.items ≡ true) × (length self.claims.items ≤ 512) =
    delete_claimed k c.args.e self.phase _ _ c.args.self.now 512 c.self.view_is c.requires.open c.self.invariant.1.asked c.requires.few in
    omega (
      arith,
      c.self.invariant.0.for_taken,
      delete_fits k lawful c.args.e self.phase self.claims.items self.taken.items c.self.invariant.1 claimed.0 512 claimed.1,
    )

pub invariant_of-self-2 : goal.invariant_of-self-2
invariant_of-self-2 g c =
    let k = keys g.B.Ord.cmp g.B.Shape.overlap g.B.Shape.inside in
    let lawful : IsLawful k = record { total = g.met.B.Ord.total; exact = g.met.B.Shape.same } in
    let self = c.self.inside in
    let room = c.self.invariant.0 in
    let P : List (Entry g.row.B.Denot) → Type 0 = λ s. InOrder k s in
    let claimed : (has k c.args.e self.claims.items ≡ true) × (length self.claims.items ≤ 512) =
    delete_claimed k c.args.e self.phase _ _ c.args.self.now 512 c.self.view_is c.requires.open c.self.invariant.1.asked c.requires.few in (
      record { for_claims = room.for_claims; for_predicates = room.for_predicates; for_taken = omega (arith, room.for_taken, c.include_within_capacity.ensures.capacity) },
      subst (λ (taken : List (Entry g.row.B.Denot)). TakesClaimed k (phase.Open None) self.claims.items taken) (sym c.include_within_capacity.ensures.items)
          (takes_more k lawful c.args.e self.phase self.claims.items self.taken.items c.self.invariant.1 claimed.0),
      subst P (sym c.exclude.ensures.items) (in_order_filter k lawful (λ x. not (same_entry k c.args.e x)) self.added.items c.self.invariant.2),
    )

pub returns-clause-session : goal.returns-clause-session
returns-clause-session g c =
    let k = keys g.B.Ord.cmp g.B.Shape.overlap g.B.Shape.inside in
    let there = rw (c.deref.ensures.value, c.deref-2.ensures.value) at (sym c.has.ensures ∙ c.if-not-has.false) in
    delete_seen c.self.inside.phase _ _ c.args.self.now c.self.view_is k c.args.e c.args.latest.now _ _ c.requires.open there c.exclude.ensures.items c.include_within_capacity.ensures.items

pub returns-then-not-has-clause-added : goal.returns-then-not-has-clause-added
returns-then-not-has-clause-added g c = grind (arith, common_steps)
