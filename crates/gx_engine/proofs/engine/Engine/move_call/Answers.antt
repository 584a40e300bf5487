use Rattle.std.proofs.Common.{◌∙◌, ap, subst, ◌≤◌}
use Rattle.gx_machine.specs.Keys.{keys}
use Rattle.gx_phases.specs.declared.phase.Phase.TheVariants as phase
use Rattle.gx_phases.specs.States.{IsKept}
use Rattle.gx_disk.specs.declared.layout.TheConstants.{MAX_PAGES}
use Rattle.gx_engine.specs.States.{Parts}
use Rattle.gx_engine.proofs.step.Steps.{delete_steps, insert_steps, seal_steps, search_steps}
use Rattle.gx_engine.proofs.Calling.{seal_read}
use Rattle.gx_engine.proofs.Failing.{seal_told}
use Rattle.gx_engine.proofs.engine.Engine.move_call.Goals as goal

pub returns-in-Insert-clause-steps : goal.returns-in-Insert-clause-steps
returns-in-Insert-clause-steps g c l =
    let k = keys g.K.Key.Ord.cmp g.K.Key.Shape.overlap g.K.Key.Shape.inside in
    insert_steps _ _ _ _ _ _ c.args.self.now c.insert.new.self c.requires.works c.args.session k _ c.in-Insert.entry c.insert.result c.insert.ensures.comes (c.insert.ensures.moves l)

pub returns-in-Delete-clause-steps : goal.returns-in-Delete-clause-steps
returns-in-Delete-clause-steps g c l =
    let k = keys g.K.Key.Ord.cmp g.K.Key.Shape.overlap g.K.Key.Shape.inside in
    delete_steps _ _ _ _ _ _ c.args.self.now c.delete.new.self c.requires.works c.args.session k _ c.in-Delete.entry c.delete.result c.delete.ensures.comes (c.delete.ensures.moves l)

pub returns-in-Search-clause-steps : goal.returns-in-Search-clause-steps
returns-in-Search-clause-steps g c l =
    search_steps _ _ _ _ _ _ c.args.self.now c.search.new.self c.requires.works c.args.session c.in-Search.query c.search.result c.search.ensures.comes (c.search.ensures.moves l)

pub returns-in-Commit-clause-steps : goal.returns-in-Commit-clause-steps
returns-in-Commit-clause-steps g c l =
    let k = keys g.K.Key.Ord.cmp g.K.Key.Shape.overlap g.K.Key.Shape.inside in
    let kept = subst (λ (x : Parts g.row.K-Key.Denot g.row.D.Denot). IsKept k x.sessions) c.self.view_is c.stands.ensures in
    let pages = subst (λ (x : Parts g.row.K-Key.Denot g.row.D.Denot). x.volume.shelf.pages ≤ MAX_PAGES) c.self.view_is c.in_order.ensures.few in
    let most = subst (λ (x : Parts g.row.K-Key.Denot g.row.D.Denot). x.volume.most ≤ 100) c.self.view_is c.most.ensures.few in
    let at = c.requires.open.1 ∙ ap (λ x. phase.Open x c.requires.open.0) c.in-Commit.is in
    seal_steps _ _ _ _ _ _ c.args.self.now c.seal.new.self (c.a_class_is_lawful.ensures l) kept c.args.session c.requires.session c.requires.works pages most
    c.requires.open.0 at c.seal.result c.seal.ensures.comes (c.seal.ensures.leads l)

pub returns-in-Insert-clause-comes : goal.returns-in-Insert-clause-comes
returns-in-Insert-clause-comes g c = rw (c.in-Insert.is) c.insert.ensures.comes

pub returns-in-Delete-clause-comes : goal.returns-in-Delete-clause-comes
returns-in-Delete-clause-comes g c = rw (c.in-Delete.is) c.delete.ensures.comes

pub returns-in-Search-clause-comes : goal.returns-in-Search-clause-comes
returns-in-Search-clause-comes g c = rw (c.in-Search.is) c.search.ensures.comes

pub returns-in-Commit-clause-comes : goal.returns-in-Commit-clause-comes
returns-in-Commit-clause-comes g c = rw (c.in-Commit.is) c.seal.ensures.comes

pub returns-in-Insert-clause-device : goal.returns-in-Insert-clause-device
returns-in-Insert-clause-device g c = c.insert.ensures.device

pub returns-in-Delete-clause-device : goal.returns-in-Delete-clause-device
returns-in-Delete-clause-device g c = c.delete.ensures.device

pub returns-in-Search-clause-device : goal.returns-in-Search-clause-device
returns-in-Search-clause-device g c = c.search.ensures.device

pub returns-in-Commit-clause-device : goal.returns-in-Commit-clause-device
returns-in-Commit-clause-device g c = seal_read g.D.SectorDisk.state c.args.self.now c.seal.new.self c.args.session c.seal.result c.seal.ensures.comes

pub returns-in-Commit-clause-told : goal.returns-in-Commit-clause-told
returns-in-Commit-clause-told g c = seal_told g.D.SectorDisk.state c.seal.new.self c.args.self.now c.args.session c.seal.result c.seal.ensures.comes
