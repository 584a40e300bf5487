use Rattle.std.proofs.Common.{◌≡◌, ◌∙◌, ap, sym, ℕ}
use Rattle.std.specs.Prelude.{slice_set}
use Rattle.std.proofs.lemmas.List.{get_or_read_under}
use Rattle.gx_machine.specs.declared.limits.TheConstants.{SESSIONS}
use Rattle.gx_machine.specs.Keys.{keys}
use Rattle.gx_phases.specs.declared.phase.Phase.{Phase}
use Rattle.gx_phases.specs.declared.phase.Phase.TheVariants as phase
use Rattle.gx_phases.specs.Moves.{with_work}
use Rattle.gx_phases.specs.States.{State, phase_at}
use Rattle.gx_phases.proofs.Moving.{work_kept}
use Rattle.gx_phases.proofs.sessions.Sessions.work_mut.Goals as goal

pub invariant_of-self-lent : goal.invariant_of-self-lent
invariant_of-self-lent g c work =
    let k = keys g.B.Ord.cmp g.B.Shape.overlap g.B.Shape.inside in
    let self = c.self.inside in
    let old : State g.row.B.Denot g.row.W.Denot = record { phases = self.phases.items; table = self.table; transactions = self.transactions.items; next = self.next; latest = self.latest; durable = self.durable; failed = self.failed } in
    let place = c.place_of.result in
    let is : c.index_mut-phase.result.now ≡ phase_at place old.phases =
    get_or_read_under old.phases place SESSIONS c.index_mut-phase.result.now phase.Free c.index_mut-phase.ensures.value c.place_of.ensures.within (sym c.self.invariant.phases) in
    work_kept k old c.args.self.now c.self.view_is c.self.invariant c.args.session c.requires.session _ work
    (ap (λ (p : Phase g.row.B.Denot g.row.W.Denot). slice_set old.phases place (with_work work p).1) is
    ∙ ap (λ (n : ℕ). slice_set old.phases n (with_work work (phase_at n old.phases)).1) c.place_of.ensures.place)
