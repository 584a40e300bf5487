use Rattle.std.proofs.lemmas.Grind.{common_steps}
use Rattle.std.proofs.Common.{ap, refl, arith}
use Rattle.gx_record.specs.Rec.{Rec, Note}
use Rattle.gx_storage.specs.State.{Journal, Volume, volume}
use Rattle.gx_storage.proofs.Turning.{head_keeps}
use Rattle.gx_storage.proofs.storage.Storage.put_note.Goals as goal

pub returns-clause-keeps : goal.returns-clause-keeps
returns-clause-keeps g c =
    let i = c.self.inside in
    let v : Volume g.row.D.Denot = volume i.journal i.store i.most in
    let w : Volume g.row.D.Denot = volume c.put_note.new.self i.store i.most in
    let x : Rec = Note c.args.transaction c.args.row (g.K.KeyClass.spelling c.args.key) c.args.before c.args.leaf in
    let d = g.D.SectorDisk.state i.store.disk in
    let bits = ap (λ (j : Journal). j.imaged) c.put_note.ensures.only in
    rw (← c.self.view_is) (λ l. head_keeps _ _ _ _ d d v w x c.put_note.result refl bits c.put_note.ensures.puts (c.put_note.ensures.up l))

pub returns-clause-puts : goal.returns-clause-puts
returns-clause-puts g c = grind (arith, common_steps)

pub returns-clause-head : goal.returns-clause-head
returns-clause-head g c = grind (arith, common_steps)
