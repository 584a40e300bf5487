use Rattle.std.proofs.Common.{◌≡◌, ◌∙◌, ap, refl, sym, subst, ◌-◌, Bool, rules}
use Rattle.gx_machine.specs.Keys.{keys}
use Rattle.gx_node.specs.Reading.{format_of}
use Rattle.gx_phases.specs.States.{phase_at}
use Rattle.gx_tree.specs.declared.seek.Sought.{Sought}
use Rattle.gx_tree.specs.declared.seek.Sought.TheVariants.{Here, Right}
use Rattle.gx_engine.specs.declared.work.Work.TheVariants.{Seeks}
use Rattle.gx_engine.specs.Seeks.{IsSought, write_call}
use Rattle.gx_engine.specs.States.{Parts}
use Rattle.gx_engine.proofs.LookMoves.{replaced}
use Rattle.gx_engine.proofs.writes.seeks.Moves.{right_moves, stands_moves}
use Rattle.gx_engine.proofs.engine.Engine.write_sought.Goals as goal

pub returns-in-Right-clause-comes : goal.returns-in-Right-clause-comes
returns-in-Right-clause-comes g c =
    let e : Parts g.row.K-Key.Denot g.row.D.Denot =
    record { volume = c.self.inside.storage; sessions = c.self.inside.sessions; in_flight = c.self.inside.in_flight; checkpoint = c.self.inside.checkpoint } in
    let at = ap (λ (x : Parts g.row.K-Key.Denot g.row.D.Denot). phase_at (c.args.session - 1) x.sessions.phases) c.self.view_is ∙ c.requires.seeks in
    let placed = replaced c.args.session (write_call c.args.marked c.args.entry) (Seeks c.args.leaf) (Seeks c.in-Right.next) e.sessions c.replace_work.new.self at c.replace_work.ensures.state in
    rw (← c.self.view_is, placed) (c.in-Right.next, refl, λ steady. refl)

pub returns-in-Right-clause-moves : goal.returns-in-Right-clause-moves
returns-in-Right-clause-moves g c =
    let e : Parts g.row.K-Key.Denot g.row.D.Denot =
    record { volume = c.self.inside.storage; sessions = c.self.inside.sessions; in_flight = c.self.inside.in_flight; checkpoint = c.self.inside.checkpoint } in
    let state = g.D.SectorDisk.state in
    let k = keys g.K.Key.Ord.cmp g.K.Key.Shape.overlap g.K.Key.Shape.inside in
    let entry = c.args.entry in
    let works = ap (λ (x : Parts g.row.K-Key.Denot g.row.D.Denot). x.sessions.failed) c.self.view_is ∙ c.requires.works in
    let at = ap (λ (x : Parts g.row.K-Key.Denot g.row.D.Denot). phase_at (c.args.session - 1) x.sessions.phases) c.self.view_is ∙ c.requires.seeks in
    let found = subst (λ (x : Parts g.row.K-Key.Denot g.row.D.Denot). IsSought (format_of g.K.KeyClass) g.K.KeyClass.is_key k (state x.volume.shelf.disk) x.volume entry c.args.leaf (Right
    c.in-Right.next))
    (sym c.self.view_is)
    (subst (λ (o : Sought). IsSought (format_of g.K.KeyClass) g.K.KeyClass.is_key k (state c.args.self.now.volume.shelf.disk) c.args.self.now.volume entry c.args.leaf o) c.in-Right.is
    c.requires.found) in
    let placed = replaced c.args.session (write_call c.args.marked entry) (Seeks c.args.leaf) (Seeks c.in-Right.next) e.sessions c.replace_work.new.self at c.replace_work.ensures.state in
    rw (← c.self.view_is, placed)
    (λ l. right_moves _ (c.a_class_is_lawful.ensures l) _ _ _ (state e.volume.shelf.disk) e c.stands.ensures works c.args.session c.requires.session entry c.args.leaf c.args.marked at
    g.K.KeyClass.is_key (c.a_volume_shows_the_logs_tree.ensures l e.volume) (c.a_volume_shows_keys.ensures l e.volume) c.in_order.ensures c.in-Right.next found)

pub returns-then-before-marked-clause-moves : goal.returns-then-before-marked-clause-moves
returns-then-before-marked-clause-moves g c =
    let e : Parts g.row.K-Key.Denot g.row.D.Denot =
    record { volume = c.self.inside.storage; sessions = c.self.inside.sessions; in_flight = c.self.inside.in_flight; checkpoint = c.self.inside.checkpoint } in
    let state = g.D.SectorDisk.state in
    let k = keys g.K.Key.Ord.cmp g.K.Key.Shape.overlap g.K.Key.Shape.inside in
    let entry = c.args.entry in
    let works = ap (λ (x : Parts g.row.K-Key.Denot g.row.D.Denot). x.sessions.failed) c.self.view_is ∙ c.requires.works in
    let at = ap (λ (x : Parts g.row.K-Key.Denot g.row.D.Denot). phase_at (c.args.session - 1) x.sessions.phases) c.self.view_is ∙ c.requires.seeks in
    let same : c.in-Here.before ≡ c.args.marked = search rules in
    let sought = c.in-Here.is ∙ ap (λ (b : Bool). (let o : Sought = Here c.in-Here.field-0 b in o)) same in
    let found = subst (λ (x : Parts g.row.K-Key.Denot g.row.D.Denot). IsSought (format_of g.K.KeyClass) g.K.KeyClass.is_key k (state x.volume.shelf.disk) x.volume entry c.args.leaf (Here
    c.in-Here.field-0 c.args.marked))
    (sym c.self.view_is)
    (subst (λ (o : Sought). IsSought (format_of g.K.KeyClass) g.K.KeyClass.is_key k (state c.args.self.now.volume.shelf.disk) c.args.self.now.volume entry c.args.leaf o) sought c.requires.found) in
    rw (c.close.ensures.closed, c.close.ensures.outcome, c.standing.ensures, ← c.self.view_is)
    (λ l. stands_moves _ (c.a_class_is_lawful.ensures l) _ _ _ (state e.volume.shelf.disk) e c.stands.ensures works c.args.session c.requires.session entry c.args.leaf c.args.marked at
    g.K.KeyClass.is_key (c.a_volume_shows_the_logs_tree.ensures l e.volume) (c.a_volume_shows_keys.ensures l e.volume) c.in_order.ensures c.in-Here.field-0 found)
