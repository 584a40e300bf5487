use Rattle.std.proofs.Common.{◌≡◌, ◌≤◌, ap, subst, true, arith}
use Rattle.gx_node.specs.Reading.{format_of, is_node}
use Rattle.gx_store.specs.Standing.{standing_node, store_of}
use Rattle.gx_store.specs.State.{Shelf, IsSteady}
use Rattle.gx_store.proofs.Listed.{nodes_long}
use Rattle.gx_node.specs.Store.{Stays}
use Rattle.gx_storage.specs.Bringing.{bringing}
use Rattle.gx_storage.specs.State.{Volume, volume}
use Rattle.gx_storage.proofs.OnlyReads.{begun_reads, since_begun}
use Rattle.gx_storage.proofs.storage.Storage.bring.Goals as goal

pub bring-requires-clause-used : goal.bring-requires-clause-used
bring-requires-clause-used g c =
    let s = c.self.inside.store in
    let u = c.begin_reading.new.store in
    let most : u.used ≡ s.used = ap (λ (x : Shelf g.row.D.Denot). x.used) c.begin_reading.ensures in
    let to : c.args.page ≤ s.used = rw (← c.self.view_is) at c.requires.to in
    let long = nodes_long (standing_node (format_of g.K.KeyClass) u.frames (g.D.SectorDisk.state u.disk).seen) u.used in
    ((c.requires.from, omega (arith, long, most, to)), tt)

pub returns-clause-unlogged : goal.returns-clause-unlogged
returns-clause-unlogged g c =
    let i = c.self.inside in
    let f = format_of g.K.KeyClass in
    let state = g.D.SectorDisk.state in
    let v : Volume g.row.D.Denot = volume i.journal i.store i.most in
    let u = c.begin_reading.new.store in
    let is : u ≡ bringing v = c.begin_reading.ensures in
    let t = c.bring.new.self in
    let stays = subst {A = Shelf g.row.D.Denot} (λ x. Stays (IsSteady (state x.disk) x.frames) (store_of f (state x.disk).seen x) (store_of f (state t.disk).seen t)) is c.bring.ensures.stays in
    rw (← c.self.view_is) (begun_reads _ _ f (is_node f) state v t i.journal.log.used true (λ q. since_begun (is_node f) state v t u i.journal.log.used q true is (λ was. c.bring.ensures.since was q)) stays)
