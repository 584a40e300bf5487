use Rattle.std.proofs.lemmas.Grind.{common_steps}
use Rattle.std.proofs.Common.{subst, vec_capacity, arith, ◌<◌, length}
use Rattle.std.specs.List.{slice_index_or}
use Rattle.gx_machine.specs.Keys.{keys}
use Rattle.gx_machine.specs.Sessions.{Idle}
use Rattle.gx_plain.specs.Index.{Index, AnswersIndex}
use Rattle.gx_plain.proofs.IndexLaws.{kept_answer, index_with}
use Rattle.gx_plain.proofs.index.AnswerLaws.{answers}
use Rattle.gx_plain.proofs.index.PlainIndex.answer.Goals as goal

pub answer_at-requires-clause-can_answer : goal.answer_at-requires-clause-can_answer
answer_at-requires-clause-can_answer g c = c.self.invariant.answerable c.in-Some.place

pub invariant_of-self : goal.invariant_of-self
invariant_of-self g c =
    kept_answer (keys g.B.Ord.cmp g.B.Shape.overlap g.B.Shape.inside)
    c.self.inside.committed.items (vec_capacity c.self.inside.committed) c.self.inside.commits c.self.inside.next c.self.inside.slots.items c.self.invariant
    c.in-Some.place c.in-Some.ensures.within (slice_index_or c.answer_at.new.slots.items c.in-Some.place Idle)
    c.answer_at.new.latest.items (vec_capacity c.answer_at.new.latest) c.answer_at.new.commits c.added-added.result c.answer_at.new.slots.items c.deref.result.now
    c.answer_at.ensures.others c.added-added.ensures c.deref.ensures.value
    (omega (arith, c.answer_at.ensures.room, c.answer_at.new.latest.ok.0)) c.answer_at.ensures.opened c.answer_at.ensures.claims c.answer_at.ensures.can_answer c.answer_at.ensures.rises c.answer_at.ensures.in_order

pub returns : goal.returns
returns g c =
    let k = keys g.B.Ord.cmp g.B.Shape.overlap g.B.Shape.inside in
    let inside : c.in-Some.place < length c.self.inside.slots.items = omega (arith, c.in-Some.ensures.within, c.self.invariant.eight) in
    let new : Index g.row.B.Denot = index_with k c.answer_at.new.latest.items c.answer_at.new.commits c.self.inside.next c.answer_at.new.slots.items in
    subst (λ (old : Index g.row.B.Denot). AnswersIndex k c.args.session old c.answer_at.result new) c.self.view_is
    (answers k c.args.session c.in-Some.place c.in-Some.ensures.place.0 c.in-Some.ensures.place.1
    c.self.inside.committed.items c.self.inside.commits c.self.inside.next c.self.inside.slots.items inside
    c.answer_at.result c.answer_at.new.latest.items c.answer_at.new.commits c.answer_at.new.slots.items
    (slice_index_or c.answer_at.new.slots.items c.in-Some.place Idle) c.answer_at.ensures.others (c.self.invariant.answerable c.in-Some.place) c.answer_at.ensures.answers)

pub added-added-requires : goal.added-added-requires
added-added-requires g c = grind (arith, common_steps)

pub answer_at-requires-clause-within : goal.answer_at-requires-clause-within
answer_at-requires-clause-within g c = grind (arith, common_steps)

pub answer_at-requires-clause-room : goal.answer_at-requires-clause-room
answer_at-requires-clause-room g c = grind (arith, common_steps)

pub answer_at-requires-clause-counted : goal.answer_at-requires-clause-counted
answer_at-requires-clause-counted g c = grind (arith, common_steps)

pub answer_at-requires-clause-few : goal.answer_at-requires-clause-few
answer_at-requires-clause-few g c = grind (arith, common_steps)
