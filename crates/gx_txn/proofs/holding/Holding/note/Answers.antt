use Rattle.std.proofs.lemmas.Grind.{common_steps}
use Rattle.std.proofs.Common.{arith}
use Rattle.gx_machine.specs.Keys.{IsLawful, keys}
use Rattle.gx_txn.proofs.holding.Keeping.{note_put, room_for_note, found_in, changed_in}
use Rattle.gx_txn.proofs.holding.Holding.note.Goals as goal

pub insert_at-requires-clause-room : goal.insert_at-requires-clause-room
insert_at-requires-clause-room g c =
    let k = keys g.B.Ord.cmp g.B.Shape.overlap g.B.Shape.inside in
    let lawful : IsLawful k = record { total = g.met.B.Ord.total; exact = g.met.B.Shape.same } in
    let self = c.self.inside in
    omega (
      arith,
      c.self.invariant.0,
      room_for_note k lawful self.claims self.predicates self.notes.items c.args.self.now c.self.view_is c.self.invariant.1
          c.args.note c.deref.result.now c.in-Err.place c.requires c.deref.ensures.value c.in-Err.ensures.0 c.in-Err.ensures.1,
    )

pub invariant_of-self : goal.invariant_of-self
invariant_of-self g c =
    let k = keys g.B.Ord.cmp g.B.Shape.overlap g.B.Shape.inside in
    let lawful : IsLawful k = record { total = g.met.B.Ord.total; exact = g.met.B.Shape.same } in
    let self = c.self.inside in (
      c.self.invariant.0,
      note_put k lawful self.claims self.predicates self.notes.items c.args.self.now c.self.view_is c.self.invariant.1
          c.args.note _ c.requires
          (changed_in k c.args.note c.index_mut.result.now c.deref.result.now self.notes.items c.in-Ok.place c.deref.ensures.value c.index_mut.ensures.value
          (c.in-Ok.ensures.1 c.index_mut.result.now)),
    )

pub invariant_of-self-in-Err : goal.invariant_of-self-in-Err
invariant_of-self-in-Err g c =
    let k = keys g.B.Ord.cmp g.B.Shape.overlap g.B.Shape.inside in
    let lawful : IsLawful k = record { total = g.met.B.Ord.total; exact = g.met.B.Shape.same } in
    let self = c.self.inside in (
      omega (arith, c.self.invariant.0, c.insert_at.ensures.capacity),
      note_put k lawful self.claims self.predicates self.notes.items c.args.self.now c.self.view_is c.self.invariant.1
          c.args.note c.insert_at.new.list.items c.requires
          (found_in k c.args.note c.deref.result.now self.notes.items c.insert_at.new.list.items c.in-Err.place c.deref.ensures.value c.in-Err.ensures.1 c.insert_at.ensures.items),
    )

pub index_mut-requires : goal.index_mut-requires
index_mut-requires g c = grind (arith, common_steps)

pub insert_at-requires-clause-within : goal.insert_at-requires-clause-within
insert_at-requires-clause-within g c = grind (arith, common_steps)

pub returns-in-Ok : goal.returns-in-Ok
returns-in-Ok g c = grind (arith, common_steps)
