use Rattle.std.proofs.Common.{subst, refl, vec_capacity}
use Rattle.std.specs.List.{slice_index_or}
use Rattle.gx_machine.specs.Keys.{keys}
use Rattle.gx_machine.specs.Sessions.{Idle}
use Rattle.gx_plain.specs.Index.{Index, DropsIndex}
use Rattle.gx_plain.proofs.IndexLaws.{index_with}
use Rattle.gx_plain.proofs.SealLaws.{kept_drop, drops}
use Rattle.gx_plain.proofs.index.PlainIndex.drop_call.Goals as goal

pub invariant_of-self : goal.invariant_of-self
invariant_of-self g c =
    kept_drop (keys g.B.Ord.cmp g.B.Shape.overlap g.B.Shape.inside)
    c.self.inside.committed.items (vec_capacity c.self.inside.committed) c.self.inside.commits c.self.inside.next c.self.inside.slots.items c.self.invariant
    c.in-Some.place c.in-Some.ensures.within (slice_index_or c.drop_at.new.slots.items c.in-Some.place Idle) c.drop_at.new.slots.items c.drop_at.result
    c.drop_at.ensures.others c.drop_at.ensures.drops c.drop_at.ensures.added c.drop_at.ensures.opened c.drop_at.ensures.claims

pub returns-in-Some : goal.returns-in-Some
returns-in-Some g c =
    let k = keys g.B.Ord.cmp g.B.Shape.overlap g.B.Shape.inside in
    let new : Index g.row.B.Denot = index_with k c.self.inside.committed.items c.self.inside.commits c.self.inside.next c.drop_at.new.slots.items in
    subst (λ (old : Index g.row.B.Denot). DropsIndex c.args.session old c.drop_at.result new) c.self.view_is
    (drops k c.args.session c.in-Some.place c.in-Some.ensures.place.0 c.in-Some.ensures.place.1
    c.self.inside.committed.items c.self.inside.commits c.self.inside.next c.self.inside.slots.items
    c.self.inside.committed.items c.self.inside.commits c.drop_at.new.slots.items
    (slice_index_or c.drop_at.new.slots.items c.in-Some.place Idle) c.drop_at.ensures.others c.drop_at.result refl refl c.drop_at.ensures.drops)
