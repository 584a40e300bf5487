use Rattle.std.proofs.Common.{sym, arith}
use Rattle.std.proofs.lemmas.List.{append-nil}
use Rattle.gx_machine.specs.declared.limits.TheConstants.{MAX_PREDICATES}
use Rattle.gx_machine.specs.declared.query.Query.TheVariants.{Overlap, Within, Equal, Covers}
use Rattle.gx_txn.proofs.predicates.ByKind.{with_one, room_of_each}
use Rattle.gx_txn.proofs.predicates.Predicates.push.Goals as goal

pub put_last-requires-in-Overlap : goal.put_last-requires-in-Overlap
put_last-requires-in-Overlap g c =
    let self = c.self.inside in
    let room = room_of_each self.asked.items c.args.self.now self.overlap.items self.within.items self.equal.items self.covers.items MAX_PREDICATES
    c.self.invariant.5 c.self.view_is c.requires in
    omega (arith, room.0, c.self.invariant.1)

pub invariant_of-self : goal.invariant_of-self
invariant_of-self g c =
    let self = c.self.inside in (
      omega (arith, c.self.invariant.0, c.put_last.ensures.capacity),
      omega (arith, c.self.invariant.1, c.put_last-in-Overlap.ensures.capacity),
      c.self.invariant.2,
      c.self.invariant.3,
      c.self.invariant.4,
      with_one self.asked.items c.put_last.new.list.items self.overlap.items self.within.items self.equal.items self.covers.items
          c.put_last-in-Overlap.new.list.items self.within.items self.equal.items self.covers.items (Overlap c.in-Overlap.q) c.args.query
          c.self.invariant.5 c.put_last.ensures.items c.in-Overlap.is
          c.put_last-in-Overlap.ensures.items (sym (append-nil self.within.items)) (sym (append-nil self.equal.items)) (sym (append-nil self.covers.items)),
    )

pub put_last-requires-in-Within : goal.put_last-requires-in-Within
put_last-requires-in-Within g c =
    let self = c.self.inside in
    let room = room_of_each self.asked.items c.args.self.now self.overlap.items self.within.items self.equal.items self.covers.items MAX_PREDICATES
    c.self.invariant.5 c.self.view_is c.requires in
    omega (arith, room.1, c.self.invariant.2)

pub invariant_of-self-in-Within : goal.invariant_of-self-in-Within
invariant_of-self-in-Within g c =
    let self = c.self.inside in (
      omega (arith, c.self.invariant.0, c.put_last.ensures.capacity),
      c.self.invariant.1,
      omega (arith, c.self.invariant.2, c.put_last-in-Within.ensures.capacity),
      c.self.invariant.3,
      c.self.invariant.4,
      with_one self.asked.items c.put_last.new.list.items self.overlap.items self.within.items self.equal.items self.covers.items
          self.overlap.items c.put_last-in-Within.new.list.items self.equal.items self.covers.items (Within c.in-Within.q) c.args.query
          c.self.invariant.5 c.put_last.ensures.items c.in-Within.is
          (sym (append-nil self.overlap.items)) c.put_last-in-Within.ensures.items (sym (append-nil self.equal.items)) (sym (append-nil self.covers.items)),
    )

pub put_last-requires-in-Equal : goal.put_last-requires-in-Equal
put_last-requires-in-Equal g c =
    let self = c.self.inside in
    let room = room_of_each self.asked.items c.args.self.now self.overlap.items self.within.items self.equal.items self.covers.items MAX_PREDICATES
    c.self.invariant.5 c.self.view_is c.requires in
    omega (arith, room.2, c.self.invariant.3)

pub invariant_of-self-in-Equal : goal.invariant_of-self-in-Equal
invariant_of-self-in-Equal g c =
    let self = c.self.inside in (
      omega (arith, c.self.invariant.0, c.put_last.ensures.capacity),
      c.self.invariant.1,
      c.self.invariant.2,
      omega (arith, c.self.invariant.3, c.put_last-in-Equal.ensures.capacity),
      c.self.invariant.4,
      with_one self.asked.items c.put_last.new.list.items self.overlap.items self.within.items self.equal.items self.covers.items
          self.overlap.items self.within.items c.put_last-in-Equal.new.list.items self.covers.items (Equal c.in-Equal.q) c.args.query
          c.self.invariant.5 c.put_last.ensures.items c.in-Equal.is
          (sym (append-nil self.overlap.items)) (sym (append-nil self.within.items)) c.put_last-in-Equal.ensures.items (sym (append-nil self.covers.items)),
    )

pub put_last-requires-in-Covers : goal.put_last-requires-in-Covers
put_last-requires-in-Covers g c =
    let self = c.self.inside in
    let room = room_of_each self.asked.items c.args.self.now self.overlap.items self.within.items self.equal.items self.covers.items MAX_PREDICATES
    c.self.invariant.5 c.self.view_is c.requires in
    omega (arith, room.3, c.self.invariant.4)

pub invariant_of-self-in-Covers : goal.invariant_of-self-in-Covers
invariant_of-self-in-Covers g c =
    let self = c.self.inside in (
      omega (arith, c.self.invariant.0, c.put_last.ensures.capacity),
      c.self.invariant.1,
      c.self.invariant.2,
      c.self.invariant.3,
      omega (arith, c.self.invariant.4, c.put_last-in-Covers.ensures.capacity),
      with_one self.asked.items c.put_last.new.list.items self.overlap.items self.within.items self.equal.items self.covers.items
          self.overlap.items self.within.items self.equal.items c.put_last-in-Covers.new.list.items (Covers c.in-Covers.q) c.args.query
          c.self.invariant.5 c.put_last.ensures.items c.in-Covers.is
          (sym (append-nil self.overlap.items)) (sym (append-nil self.within.items)) (sym (append-nil self.equal.items)) c.put_last-in-Covers.ensures.items,
    )
