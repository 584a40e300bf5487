use Rattle.std.proofs.Common.{◌≡◌, ◌∙◌, true, sym, ap, arith}
use Rattle.gx_record.specs.Slots.{rise_from}
use Rattle.gx_storage.specs.Imaged.{is_imaged}
use Rattle.gx_storage.proofs.SweptSlots.{slots_rise}
use Rattle.gx_storage.proofs.journal.Journal.sweep.Goals as goal

pub append_sweep-requires-clause-rising : goal.append_sweep-requires-clause-rising
append_sweep-requires-clause-rising g c = ap (rise_from 0) c.slots.ensures.listed ∙ slots_rise 0 0 c.args.sweep.now.sides (omega arith)

pub append_sweep-requires-clause-may : goal.append_sweep-requires-clause-may
append_sweep-requires-clause-may g c =
    let bit : is_imaged c.args.self.now.imaged c.args.sweep.now.page ≡ true = ap (is_imaged c.args.self.now.imaged) (sym c.page-leaf.ensures) ∙ sym c.is_imaged.ensures ∙ c.if-is_imaged.true in
    rw (c.slots.ensures.listed, c.page-leaf.ensures) (rw bit at c.requires.may)
