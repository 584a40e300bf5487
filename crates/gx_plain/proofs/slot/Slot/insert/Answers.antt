use Rattle.std.proofs.Common.{◌≡◌, rules, sym, ◌∙◌, subst, arith, List}
use Rattle.std.specs.Prelude.{None}
use Rattle.gx_machine.specs.declared.entry.Entry.{Entry}
use Rattle.gx_machine.specs.Keys.{IsLawful, keys}
use Rattle.gx_machine.specs.Sets.{including, InOrder}
use Rattle.gx_machine.proofs.SetLaws.{in_order_including}
use Rattle.gx_plain.specs.Slots.{TakesClaimed}
use Rattle.gx_plain.specs.declared.slot.SlotPhase.TheVariants as phase
use Rattle.gx_plain.proofs.slot.Parts.{insert_seen, insert_unseen}
use Rattle.gx_plain.proofs.slot.TakenAway.{takes_less}
use Rattle.gx_plain.proofs.slot.Slot.insert.Goals as goal

pub invariant_of-self-2 : goal.invariant_of-self-2
invariant_of-self-2 g c =
    let k = keys g.B.Ord.cmp g.B.Shape.overlap g.B.Shape.inside in
    let lawful : IsLawful k = record { total = g.met.B.Ord.total; exact = g.met.B.Shape.same } in
    let self = c.self.inside in
    let room = c.self.invariant.0 in
    let P : List (Entry g.row.B.Denot) → Type 0 = λ s. InOrder k s in (
      record { for_claims = room.for_claims; for_predicates = room.for_predicates; for_taken = omega (arith, room.for_taken, c.exclude.ensures.capacity) },
      subst (λ (taken : List (Entry g.row.B.Denot)). TakesClaimed k (phase.Open None) self.claims.items taken) (sym c.exclude.ensures.items)
          (takes_less k lawful c.args.e self.phase self.claims.items self.taken.items c.self.invariant.1),
      (let included : c.include.new.set.items ≡ including k c.args.e self.added.items = search rules in subst P (sym included) (in_order_including k lawful c.args.e self.added.items c.self.invariant.2)),
    )

pub returns-then-has-clause-closes : goal.returns-then-has-clause-closes
returns-then-has-clause-closes g c =
    let k = keys g.B.Ord.cmp g.B.Shape.overlap g.B.Shape.inside in
    let there = rw (c.deref.ensures.value, c.deref-2.ensures.value, c.deref-3.ensures.value) at (sym c.has.ensures ∙ c.if-has.true) in
    insert_seen c.self.inside.phase _ _ c.args.self.now c.self.view_is k c.args.e c.args.latest.now.items c.requires.open there

pub returns-clause-closes : goal.returns-clause-closes
returns-clause-closes g c =
    let k = keys g.B.Ord.cmp g.B.Shape.overlap g.B.Shape.inside in
    let lacks = rw (c.deref.ensures.value, c.deref-2.ensures.value, c.deref-3.ensures.value) at (sym c.has.ensures ∙ c.if-has.false) in
    let included : c.include.new.set.items ≡ including k c.args.e c.self.inside.added.items = search rules in
    insert_unseen c.self.inside.phase _ _ c.args.self.now c.self.view_is k c.args.e c.args.latest.now.items _ _ c.requires.open lacks included c.exclude.ensures.items
