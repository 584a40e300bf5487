use Rattle.std.proofs.Common.{refl}
use Rattle.gx_machine.specs.Keys.{keys, IsLawful}
use Rattle.gx_phases.specs.States.{State}
use Rattle.gx_phases.proofs.Moving.{claims_it, note_kept}
use Rattle.gx_phases.proofs.sessions.Sessions.note.Goals as goal

pub note-requires-clause-claimed : goal.note-requires-clause-claimed
note-requires-clause-claimed g c =
    let k = keys g.B.Ord.cmp g.B.Shape.overlap g.B.Shape.inside in
    let self = c.self.inside in
    let old : State g.row.B.Denot g.row.W.Denot = record { phases = self.phases.items; table = self.table; transactions = self.transactions.items; next = self.next; latest = self.latest; durable = self.durable; failed = self.failed } in
    let now = c.args.self.now in
    claims_it k old now c.self.view_is c.self.invariant c.args.session c.requires.session c.args.entry c.requires.write

pub invariant_of-self : goal.invariant_of-self
invariant_of-self g c =
    let k = keys g.B.Ord.cmp g.B.Shape.overlap g.B.Shape.inside in
    let self = c.self.inside in
    let old : State g.row.B.Denot g.row.W.Denot = record { phases = self.phases.items; table = self.table; transactions = self.transactions.items; next = self.next; latest = self.latest; durable = self.durable; failed = self.failed } in
    let now = c.args.self.now in
    let lawful : IsLawful k = record { total = g.met.B.Ord.total; exact = g.met.B.Shape.same } in
    note_kept k old now c.self.view_is c.self.invariant c.args.session c.requires.session c.args.entry c.requires.write lawful
    (record { entry = c.args.entry; before = c.args.before; leaf = c.args.leaf }) c.close.new.phases.items c.note.new.self refl c.close.ensures c.note.ensures
