use Rattle.std.proofs.Common.{◌≡◌, ◌<◌, ◌+◌, false, refl, ap, sym, ◌∙◌, arith}
use Rattle.std.specs.Prelude.{nat_le, slice_set}
use Rattle.gx_machine.specs.Keys.{keys, IsLawful}
use Rattle.gx_machine.specs.declared.reply.Reply.TheVariants as reply
use Rattle.gx_machine.specs.declared.reply.Asked.TheVariants as asked
use Rattle.gx_phases.specs.States.{State}
use Rattle.gx_phases.specs.Asked.{is_full}
use Rattle.gx_phases.proofs.Keeping.{next_small, begun_kept}
use Rattle.gx_phases.proofs.sessions.Sessions.begin_transaction.Goals as goal

pub overflow_add-self : goal.overflow_add-self
overflow_add-self g c =
    let self = c.self.inside in
    let old : State g.row.B.Denot g.row.W.Denot = record { phases = self.phases.items; table = self.table; transactions = self.transactions.items; next = self.next; latest = self.latest; durable = self.durable; failed = self.failed } in
    let room : is_full old ≡ false = ap (λ (x : State g.row.B.Denot g.row.W.Denot). is_full x) c.self.view_is ∙ sym c.is_full.ensures ∙ c.if-is_full.false in
    let small : self.next < 18446744073709551607 = next_small (nat_le 18446744073709551607 self.latest) self.next room in
    omega (arith, small)

pub invariant_of-self : goal.invariant_of-self
invariant_of-self g c =
    let k = keys g.B.Ord.cmp g.B.Shape.overlap g.B.Shape.inside in
    let lawful : IsLawful k = record { total = g.met.B.Ord.total; exact = g.met.B.Shape.same } in
    let self = c.self.inside in
    let old : State g.row.B.Denot g.row.W.Denot = record { phases = self.phases.items; table = self.table; transactions = self.transactions.items; next = self.next; latest = self.latest; durable = self.durable; failed = self.failed } in
    let now = c.args.self.now in
    let room : is_full old ≡ false = ap (λ (x : State g.row.B.Denot g.row.W.Denot). is_full x) c.self.view_is ∙ sym c.is_full.ensures ∙ c.if-is_full.false in
    begun_kept k lawful old c.self.invariant c.args.session c.requires.session (asked.Now reply.Ok)
    (record { phases = c.set_phase.new.phases.items; table = self.table; transactions = slice_set self.transactions.items c.place_of.result self.next; next = self.next + 1; latest = self.latest; durable = self.durable; failed = self.failed })
    false room
    (refl, (λ i. record { phases = c.set_phase.ensures i; table = self.table; transactions = slice_set self.transactions.items (c.place_of.ensures.place i) self.next; next = self.next + 1; latest = self.latest; durable = self.durable; failed = self.failed }))
