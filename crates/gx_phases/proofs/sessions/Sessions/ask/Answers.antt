use Rattle.std.proofs.Common.{◌≡◌, ◌-◌, true, false, refl, ap, sym, ◌∙◌, subst}
use Rattle.gx_machine.specs.Keys.{keys, IsLawful}
use Rattle.gx_machine.specs.Machine.{is_session}
use Rattle.gx_events.specs.Happenings.{IsHappening}
use Rattle.gx_phases.specs.States.{State, phase_at, engine_of, IsKept}
use Rattle.gx_phases.specs.Asked.{begins, AskedAt, IsAsked, asked_event}
use Rattle.gx_phases.proofs.Keeping.{at_kept}
use Rattle.gx_phases.proofs.sessions.Parts.{of_parts, begun_at, asked_there}
use Rattle.gx_phases.proofs.Asking.{ask_is_event}
use Rattle.gx_phases.proofs.sessions.Sessions.ask.Goals as goal

pub returns-then-begins : goal.returns-then-begins
returns-then-begins g c =
    let k = keys g.B.Ord.cmp g.B.Shape.overlap g.B.Shape.inside in
    let lawful : IsLawful k = record { total = g.met.B.Ord.total; exact = g.met.B.Shape.same } in
    let self = c.self.inside in
    let old : State g.row.B.Denot g.row.W.Denot = record { phases = self.phases.items; table = self.table; transactions = self.transactions.items; next = self.next; latest = self.latest; durable = self.durable; failed = self.failed } in
    let now = c.args.self.now in
    let is : is_session c.args.session ≡ true = sym c.is_session.ensures ∙ c.if-not-is_session.false in
    let kept : IsKept k now = subst (IsKept k) c.self.view_is c.self.invariant in
    let works : now.failed ≡ false = sym (ap (λ (x : State g.row.B.Denot g.row.W.Denot). x.failed) c.self.view_is) ∙ c.if-self.false in
    let done : IsAsked k c.args.session c.args.call c.args.work now c.begin_transaction.result c.begin_transaction.new.self =
    asked_there k c.args.session c.args.work now c.begin_transaction.result c.args.call c.begin_transaction.new.self works is
    (begun_at k c.args.session c.args.work now c.begin_transaction.result c.args.call (phase_at (c.args.session - 1) now.phases) c.begin_transaction.new.self
    (sym c.begins.ensures ∙ c.if-begins.true) c.begin_transaction.ensures) in
    record {
      asked = done;
      event = λ live older. ask_is_event k lawful c.args.session c.args.call c.args.work now c.begin_transaction.result c.begin_transaction.new.self kept done live older;
    }

pub invariant_of-self : goal.invariant_of-self
invariant_of-self g c =
    let k = keys g.B.Ord.cmp g.B.Shape.overlap g.B.Shape.inside in
    let lawful : IsLawful k = record { total = g.met.B.Ord.total; exact = g.met.B.Shape.same } in
    let self = c.self.inside in
    let old : State g.row.B.Denot g.row.W.Denot = record { phases = self.phases.items; table = self.table; transactions = self.transactions.items; next = self.next; latest = self.latest; durable = self.durable; failed = self.failed } in
    let now = c.args.self.now in
    let is : is_session c.args.session ≡ true = sym c.is_session.ensures ∙ c.if-not-is_session.false in
    let new : State g.row.B.Denot g.row.W.Denot = record { phases = c.ask_at.new.phases.items; table = c.ask_at.new.table; transactions = self.transactions.items; next = self.next; latest = self.latest; durable = self.durable; failed = self.failed } in
    let other : begins c.args.call (phase_at (c.args.session - 1) old.phases) ≡ false =
    ap (λ (x : State g.row.B.Denot g.row.W.Denot). begins c.args.call (phase_at (c.args.session - 1) x.phases)) c.self.view_is ∙ sym c.begins.ensures ∙ c.if-begins.false in
    let at : AskedAt k c.args.session c.args.call c.args.work (phase_at (c.args.session - 1) old.phases) old c.ask_at.result new =
    of_parts k c.args.session c.args.work old c.ask_at.result c.ask_at.new.phases.items c.ask_at.new.table c.args.call (phase_at (c.args.session - 1) old.phases) other c.ask_at.ensures in
    at_kept k lawful old c.self.invariant c.args.session is c.ask_at.result new c.args.call c.args.work (phase_at (c.args.session - 1) old.phases) refl at

pub returns : goal.returns
returns g c =
    let k = keys g.B.Ord.cmp g.B.Shape.overlap g.B.Shape.inside in
    let lawful : IsLawful k = record { total = g.met.B.Ord.total; exact = g.met.B.Shape.same } in
    let self = c.self.inside in
    let old : State g.row.B.Denot g.row.W.Denot = record { phases = self.phases.items; table = self.table; transactions = self.transactions.items; next = self.next; latest = self.latest; durable = self.durable; failed = self.failed } in
    let now = c.args.self.now in
    let is : is_session c.args.session ≡ true = sym c.is_session.ensures ∙ c.if-not-is_session.false in
    let new : State g.row.B.Denot g.row.W.Denot = record { phases = c.ask_at.new.phases.items; table = c.ask_at.new.table; transactions = self.transactions.items; next = self.next; latest = self.latest; durable = self.durable; failed = self.failed } in
    let other : begins c.args.call (phase_at (c.args.session - 1) old.phases) ≡ false =
    ap (λ (x : State g.row.B.Denot g.row.W.Denot). begins c.args.call (phase_at (c.args.session - 1) x.phases)) c.self.view_is ∙ sym c.begins.ensures ∙ c.if-begins.false in
    let at : AskedAt k c.args.session c.args.call c.args.work (phase_at (c.args.session - 1) old.phases) old c.ask_at.result new =
    of_parts k c.args.session c.args.work old c.ask_at.result c.ask_at.new.phases.items c.ask_at.new.table c.args.call (phase_at (c.args.session - 1) old.phases) other c.ask_at.ensures in
    let done : IsAsked k c.args.session c.args.call c.args.work old c.ask_at.result new =
    asked_there k c.args.session c.args.work old c.ask_at.result c.args.call new c.if-self.false is at in
    record {
      asked = subst (λ (x : State g.row.B.Denot g.row.W.Denot). IsAsked k c.args.session c.args.call c.args.work x c.ask_at.result new) c.self.view_is done;
      event = λ live older.
          subst (λ (x : State g.row.B.Denot g.row.W.Denot). IsHappening k (engine_of live older x) (asked_event c.args.session c.args.call x c.ask_at.result) (engine_of live older new)) c.self.view_is
          (ask_is_event k lawful c.args.session c.args.call c.args.work old c.ask_at.result new c.self.invariant done live older);
    }
