use Rattle.std.proofs.Common.{◌∙◌, ap}
use Rattle.gx_node.specs.Reading.{format_of, is_node}
use Rattle.gx_engine.specs.declared.work.Work.TheVariants.{Looks}
use Rattle.gx_engine.specs.States.{Parts}
use Rattle.gx_engine.proofs.searches.Moves.{found_comes, found_moves_so, search_reads, search_so}
use Rattle.gx_engine.proofs.Calling.{then_read}
use Rattle.gx_engine.proofs.Failing.{then_told}
use Rattle.gx_engine.proofs.engine.Engine.search.Goals as goal

pub find-requires-clause-ends : goal.find-requires-clause-ends
find-requires-clause-ends g c =
    let ends = c.in-Ok.ensures.ends in
    (ends.look, ends.at, ends.done)

pub find-requires-clause-works : goal.find-requires-clause-works
find-requires-clause-works g c =
    ap (λ (x : Parts g.row.K-Key.Denot g.row.D.Denot). x.sessions.failed) c.in-Ok.ensures.ends.only ∙ c.requires.works

pub returns-in-Ok-clause-comes : goal.returns-in-Ok-clause-comes
returns-in-Ok-clause-comes g c =
    let ends = c.in-Ok.ensures.ends in
    found_comes (is_node (format_of g.K.KeyClass)) _ _ c.args.session c.args.query c.args.self.now c.find.new.self c.search_look.new.self (Looks ends.look) ends.only c.find.result c.find.ensures.comes

pub returns-in-Ok-clause-reads : goal.returns-in-Ok-clause-reads
returns-in-Ok-clause-reads g c =
    let d = g.D.SectorDisk.state c.args.self.now.volume.shelf.disk in
    let ends = c.in-Ok.ensures.ends in
    search_reads (is_node (format_of g.K.KeyClass)) d d c.args.session c.args.query c.args.self.now c.find.new.self c.find.result
    (found_comes (is_node (format_of g.K.KeyClass)) d d c.args.session c.args.query c.args.self.now c.find.new.self c.search_look.new.self (Looks ends.look) ends.only c.find.result c.find.ensures.comes)

pub returns-in-Ok-clause-moves : goal.returns-in-Ok-clause-moves
returns-in-Ok-clause-moves g c l =
    found_moves_so _ (c.a_class_is_lawful.ensures l) _ _ _ g.D.SectorDisk.state _ c.args.session c.args.query c.args.self.now c.search_look.new.self c.find.new.self
    (c.in-Ok.ensures.reaches l) c.find.result c.find.ensures.comes (c.find.ensures.moves l)

pub returns-in-Err-clause-reads : goal.returns-in-Err-clause-reads
returns-in-Err-clause-reads g c =
    search_reads (is_node (format_of g.K.KeyClass)) _ _ c.args.session c.args.query c.args.self.now c.search_look.new.self c.in-Err.outcome c.in-Err.ensures.comes

pub returns-in-Err-clause-moves : goal.returns-in-Err-clause-moves
returns-in-Err-clause-moves g c l =
    search_so _ _ _ _ _ _ c.args.session c.args.query c.args.self.now c.search_look.new.self c.in-Err.outcome (c.in-Err.ensures.moves l)

pub returns-in-Ok-clause-told : goal.returns-in-Ok-clause-told
returns-in-Ok-clause-told g c =
    then_told g.D.SectorDisk.state c.args.self.now c.search_look.new.self c.find.new.self c.find.result c.in-Ok.ensures.told c.find.ensures.told

pub returns-in-Ok-clause-device : goal.returns-in-Ok-clause-device
returns-in-Ok-clause-device g c =
    then_read g.D.SectorDisk.state c.args.self.now c.search_look.new.self c.find.new.self c.search_look.ensures.device c.find.ensures.device
