use Rattle.std.proofs.Common.{◌∙◌, ap, length}
use Rattle.gx_durable.specs.Classes.{reading_by}
use Rattle.gx_record.specs.Rec as rec
use Rattle.gx_record.specs.Seen.{is_marked}
use Rattle.gx_migrate.specs.Head.{note_record}
use Rattle.gx_migrate.proofs.head.HeadRecords.{note_same, note_short, puts_one}
use Rattle.gx_migrate.proofs.head.put_note.Goals as goal

pub returns-clause-puts : goal.returns-clause-puts
returns-clause-puts g c =
    let e = c.entry-entry.result in
    let size = ap length c.encode.ensures ∙ g.met.K.KeyClass.spelling_length e.key c.known.ensures in
    puts_one (reading_by g.K.ReadKeys.said g.K.KeyClass) (rec.Note c.transaction.result e.row c.encode.new.out (is_marked c.mark_of.result) c.leaf.result) _ note_record c.args.head.now c.put_record.new.head size
    (note_same c.args.touch.now c.transaction.result e (g.K.ReadKeys.said c.encode.new.out) (is_marked c.mark_of.result) c.leaf.result c.transaction.ensures c.entry-entry.ensures
    (ap g.K.ReadKeys.said c.encode.ensures ∙ g.met.K.ReadKeys.said_back e.key c.known.ensures) (c.mark_of.ensures ∙ c.before-2.ensures) c.leaf.ensures)
    (note_short c.transaction.result e.row c.encode.new.out (is_marked c.mark_of.result) c.leaf.result g.K.KeyClass.KEY size g.met.K.KeyClass.key_is_short) c.put_record.result c.put_record.ensures
