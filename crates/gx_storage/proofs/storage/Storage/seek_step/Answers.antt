use Rattle.std.proofs.Common.{◌≡◌, subst, true}
use Rattle.gx_node.specs.Reading.{format_of, is_node}
use Rattle.gx_store.specs.Standing.{store_of}
use Rattle.gx_store.specs.State.{Shelf, IsSteady}
use Rattle.gx_node.specs.Store.{Stays}
use Rattle.gx_storage.specs.Bringing.{bringing}
use Rattle.gx_storage.specs.State.{Volume, volume}
use Rattle.gx_tree.specs.Calls.{TellsSeek}
use Rattle.gx_tree.specs.Wants.{wants}
use Rattle.gx_storage.proofs.OnlyReads.{begun_reads, since_begun}
use Rattle.gx_storage.proofs.Writing.{over_begun}
use Rattle.gx_storage.proofs.storage.Storage.seek_step.Goals as goal

pub returns-clause-unlogged : goal.returns-clause-unlogged
returns-clause-unlogged g c =
    let i = c.self.inside in
    let f = format_of g.K.KeyClass in
    let state = g.D.SectorDisk.state in
    let v : Volume g.row.D.Denot = volume i.journal i.store i.most in
    let u = c.begin_reading.new.store in
    let is : u ≡ bringing v = c.begin_reading.ensures in
    let t = c.seek_step.new.pages in
    let stays = subst {A = Shelf g.row.D.Denot} (λ x. Stays (IsSteady (state x.disk) x.frames) (store_of f (state x.disk).seen x) (store_of f (state t.disk).seen t)) is c.seek_step.ensures.tells.stays in
    rw (← c.self.view_is) (begun_reads _ _ f (is_node f) state v t i.journal.log.used true (λ q. since_begun (is_node f) state v t u i.journal.log.used q true is (λ was. c.seek_step.ensures.reads.since was q)) stays)

pub returns-clause-tells : goal.returns-clause-tells
returns-clause-tells g c =
    let i = c.self.inside in
    let f = format_of g.K.KeyClass in
    let state = g.D.SectorDisk.state in
    let w = wants g.K.Probing.passes c.args.wanted.now.keys c.args.wanted.now.row in
    rw (← c.self.view_is) (over_begun f state (TellsSeek w c.args.page c.seek_step.result) i.store c.begin_reading.new.store c.seek_step.new.pages i.journal.log.used true c.begin_reading.ensures c.seek_step.ensures.tells)
