use Rattle.std.proofs.Common.{◌∙◌, ap}
use Rattle.gx_storage.specs.State.{Journal}
use Rattle.gx_storage.proofs.Writing.{begun_with}
use Rattle.gx_storage.proofs.journal.Journal.begin_event.Goals as goal

pub returns : goal.returns
returns g c =
    let used = ap (λ (j : Journal). j.log.used) c.self.view_is in
    begun_with c.args.store.now c.begin_event.new.self c.args.self.now.log c.args.size _ _ c.begin_event.ensures (c.from.ensures ∙ c.used.ensures.used ∙ used) c.has_room-room.ensures
