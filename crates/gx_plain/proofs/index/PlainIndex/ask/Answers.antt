use Rattle.std.proofs.lemmas.Grind.{common_steps}
use Rattle.std.proofs.Common.{◌≡◌, ◌+◌, ◌<◌, ◌^◌, ℕ, List, cond, sym, ◌∙◌, ap, subst, vec_capacity, arith}
use Rattle.std.specs.List.{slice_index_or}
use Rattle.std.specs.Int.{from_bool}
use Rattle.gx_machine.specs.Keys.{keys}
use Rattle.gx_machine.specs.Machine.{claims_held}
use Rattle.gx_machine.specs.Sessions.{Session, Idle}
use Rattle.gx_plain.specs.Slots.{begins}
use Rattle.gx_plain.specs.Kept.{IsKept}
use Rattle.gx_plain.proofs.IndexLaws.{late_is, asked_is, kept_ask, next_fits, index_with, from_bool_is}
use Rattle.gx_plain.proofs.index.PlainIndex.ask.Goals as goal

pub returns-then-lacks_numbers-clause-asked : goal.returns-then-lacks_numbers-clause-asked
returns-then-lacks_numbers-clause-asked g c =
    sym (ap (λ r. r.0) (late_is (keys g.B.Ord.cmp g.B.Shape.overlap g.B.Shape.inside) c.args.session c.args.call
    c.self.inside.committed.items c.self.inside.commits c.self.inside.next c.self.inside.slots.items c.args.self.now c.self.view_is
    c.in-Some.place c.in-Some.ensures.place.0 c.in-Some.ensures.place.1 c.begins_at-begins.result c.deref.result.now c.deref.ensures.value c.begins_at-begins.ensures
    (sym c.lacks_numbers.ensures ∙ c.if-lacks_numbers.true)))

pub returns-then-lacks_numbers-clause-index : goal.returns-then-lacks_numbers-clause-index
returns-then-lacks_numbers-clause-index g c =
    sym (ap (λ r. r.1) (late_is (keys g.B.Ord.cmp g.B.Shape.overlap g.B.Shape.inside) c.args.session c.args.call
    c.self.inside.committed.items c.self.inside.commits c.self.inside.next c.self.inside.slots.items c.args.self.now c.self.view_is
    c.in-Some.place c.in-Some.ensures.place.0 c.in-Some.ensures.place.1 c.begins_at-begins.result c.deref.result.now c.deref.ensures.value c.begins_at-begins.ensures
    (sym c.lacks_numbers.ensures ∙ c.if-lacks_numbers.true)))

pub overflow_add-self : goal.overflow_add-self
overflow_add-self g c =
    let k = keys g.B.Ord.cmp g.B.Shape.overlap g.B.Shape.inside in
    let fits : c.self.inside.next + c.from.result < 2 ^ 64 =
    subst (λ (n : ℕ). c.self.inside.next + n < 2 ^ 64) (sym c.from.ensures)
    (next_fits k c.args.call c.self.inside.committed.items (vec_capacity c.self.inside.committed) c.self.inside.commits c.self.inside.next c.self.inside.slots.items c.self.invariant
    c.in-Some.place c.in-Some.ensures.within c.least_conflicting-least.result c.claims_held-spent.result (c.claims_held-spent.ensures ∙ ap claims_held c.deref-3.ensures.value)
    c.begins_at-begins.result (c.begins_at-begins.ensures ∙ ap (λ (xs : List (Session g.row.B.Denot)). begins c.args.call (slice_index_or xs c.in-Some.place Idle)) c.deref.ensures.value)
    (sym c.lacks_numbers.ensures ∙ c.if-lacks_numbers.false)) in
    omega (arith, fits)

pub invariant_of-self : goal.invariant_of-self
invariant_of-self g c =
    let k = keys g.B.Ord.cmp g.B.Shape.overlap g.B.Shape.inside in
    let old = c.self.inside in
    subst (λ (n : ℕ). IsKept k old.committed.items (vec_capacity old.committed) old.commits (old.next + n) c.ask_at.new.slots.items) (sym c.from.ensures)
    (subst (λ (xs : List (Session g.row.B.Denot)). IsKept k old.committed.items (vec_capacity old.committed) old.commits (old.next + from_bool c.begins_at-begins.result) xs)
    (sym c.ask_at.ensures.session)
    (kept_ask k c.args.call c.self.inside.committed.items (vec_capacity c.self.inside.committed) c.self.inside.commits c.self.inside.next c.self.inside.slots.items c.self.invariant
    c.in-Some.place c.in-Some.ensures.within c.least_conflicting-least.result c.claims_held-spent.result (c.claims_held-spent.ensures ∙ ap claims_held c.deref-3.ensures.value)
    c.begins_at-begins.result (c.begins_at-begins.ensures ∙ ap (λ (xs : List (Session g.row.B.Denot)). begins c.args.call (slice_index_or xs c.in-Some.place Idle)) c.deref.ensures.value)
    (sym c.lacks_numbers.ensures ∙ c.if-lacks_numbers.false)))

pub returns-clause-asked : goal.returns-clause-asked
returns-clause-asked g c =
    c.ask_at.ensures.asked
    ∙ sym (ap (λ r. r.0) (asked_is (keys g.B.Ord.cmp g.B.Shape.overlap g.B.Shape.inside) c.args.session c.args.call
    c.self.inside.committed.items c.self.inside.commits c.self.inside.next c.self.inside.slots.items c.args.self.now c.self.view_is
    c.in-Some.place c.in-Some.ensures.place.0 c.in-Some.ensures.place.1 c.begins_at-begins.result c.deref.result.now c.deref.ensures.value c.begins_at-begins.ensures
    c.least_conflicting-least.result c.claims_held-spent.result c.deref-2.result.now c.deref-3.result.now c.deref-2.ensures.value c.deref-3.ensures.value
    c.least_conflicting-least.ensures c.claims_held-spent.ensures (sym c.lacks_numbers.ensures ∙ c.if-lacks_numbers.false)))

pub returns-clause-index : goal.returns-clause-index
returns-clause-index g c =
    let k = keys g.B.Ord.cmp g.B.Shape.overlap g.B.Shape.inside in
    let number : c.from.result ≡ cond c.begins_at-begins.result 1 0 = c.from.ensures ∙ from_bool_is k c.begins_at-begins.result in
    (λ i. index_with k c.self.inside.committed.items c.self.inside.commits (c.self.inside.next + number i) (c.ask_at.ensures.session i))
    ∙ sym (ap (λ r. r.1) (asked_is k c.args.session c.args.call
    c.self.inside.committed.items c.self.inside.commits c.self.inside.next c.self.inside.slots.items c.args.self.now c.self.view_is
    c.in-Some.place c.in-Some.ensures.place.0 c.in-Some.ensures.place.1 c.begins_at-begins.result c.deref.result.now c.deref.ensures.value c.begins_at-begins.ensures
    c.least_conflicting-least.result c.claims_held-spent.result c.deref-2.result.now c.deref-3.result.now c.deref-2.ensures.value c.deref-3.ensures.value
    c.least_conflicting-least.ensures c.claims_held-spent.ensures (sym c.lacks_numbers.ensures ∙ c.if-lacks_numbers.false)))

pub begins_at-begins-requires : goal.begins_at-begins-requires
begins_at-begins-requires g c = grind (arith, common_steps)

pub claims_held-spent-requires : goal.claims_held-spent-requires
claims_held-spent-requires g c = grind (arith, common_steps)

pub ask_at-requires-clause-within : goal.ask_at-requires-clause-within
ask_at-requires-clause-within g c = grind (arith, common_steps)

pub ask_at-requires-clause-spent : goal.ask_at-requires-clause-spent
ask_at-requires-clause-spent g c = grind (arith, common_steps)
