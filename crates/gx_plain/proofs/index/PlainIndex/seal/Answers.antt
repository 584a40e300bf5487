use Rattle.std.proofs.Common.{arith, subst, vec_capacity}
use Rattle.std.specs.List.{slice_index_or}
use Rattle.gx_machine.specs.Keys.{keys}
use Rattle.gx_machine.specs.Sessions.{Idle}
use Rattle.gx_plain.specs.Index.{Index, SealsIndex}
use Rattle.gx_plain.proofs.IndexLaws.{index_with}
use Rattle.gx_plain.proofs.SealLaws.{kept_seal, seals}
use Rattle.gx_plain.proofs.index.PlainIndex.seal.Goals as goal

pub invariant_of-self : goal.invariant_of-self
invariant_of-self g c =
    kept_seal (keys g.B.Ord.cmp g.B.Shape.overlap g.B.Shape.inside)
    c.self.inside.committed.items (vec_capacity c.self.inside.committed) c.self.inside.commits c.self.inside.next c.self.inside.slots.items c.self.invariant
    c.in_ok-place.place c.in_ok-place.ensures.within (slice_index_or c.seal_at.new.slots.items c.in_ok-place.place Idle)
    c.seal_at.new.latest.items (vec_capacity c.seal_at.new.latest) c.seal_at.new.commits c.seal_at.new.slots.items c.seal_at.result
    c.seal_at.ensures.others c.seal_at.ensures.seals
    (omega (arith, c.seal_at.ensures.room, c.seal_at.new.latest.ok.0, c.self.inside.committed.ok.0)) c.seal_at.ensures.capacity c.seal_at.ensures.opened c.seal_at.ensures.claims c.seal_at.ensures.in_order

pub returns : goal.returns
returns g c =
    let k = keys g.B.Ord.cmp g.B.Shape.overlap g.B.Shape.inside in
    let new : Index g.row.B.Denot = index_with k c.seal_at.new.latest.items c.seal_at.new.commits c.self.inside.next c.seal_at.new.slots.items in
    subst (λ (old : Index g.row.B.Denot). SealsIndex k c.args.session old c.seal_at.result new) c.self.view_is
    (seals k c.args.session c.in_ok-place.place c.in_ok-place.ensures.place.0 c.in_ok-place.ensures.place.1
    c.self.inside.committed.items c.self.inside.commits c.self.inside.next c.self.inside.slots.items
    c.seal_at.new.latest.items c.seal_at.new.commits c.seal_at.new.slots.items
    (slice_index_or c.seal_at.new.slots.items c.in_ok-place.place Idle) c.seal_at.ensures.others c.seal_at.result c.seal_at.ensures.seals)
