use Rattle.gx_record.specs.Rec as rec
use Rattle.gx_engine.proofs.heads.Notes.{no_room, note_came, note_short}
use Rattle.gx_engine.proofs.heads.put_notes.Goals as goal

pub returns-in_err-put_note-clause-puts : goal.returns-in_err-put_note-clause-puts
returns-in_err-put_note-clause-puts g c =
    let n = c.note-item.result in
    let short = note_short c.args.transaction n.entry.row (g.K.KeyClass.spelling n.entry.key) n.before n.leaf g.K.KeyClass.KEY (g.met.K.KeyClass.spelling_length n.entry.key c.known.ensures) g.met.K.KeyClass.key_is_short in
    no_room _ c.args.transaction c.args.notes.now c.loop-note.note-index n c.loop-note-test.true c.note-item.is
    (rec.Note c.args.transaction n.entry.row (g.K.KeyClass.spelling n.entry.key) n.before n.leaf) short
    c.args.storage.now c.loop-note.storage c.put_note.new.self c.loop-note.invariant.1 c.loop-note.invariant.2 _ _ c.from_residual.result c.from_residual.ensures.1 c.in_err-put_note.ensures.puts.1

pub loop-note-preserved : goal.loop-note-preserved
loop-note-preserved g c =
    let n = c.note-item.result in
    let short = note_short c.args.transaction n.entry.row (g.K.KeyClass.spelling n.entry.key) n.before n.leaf g.K.KeyClass.KEY (g.met.K.KeyClass.spelling_length n.entry.key c.known.ensures) g.met.K.KeyClass.key_is_short in
    note_came _ c.args.transaction c.args.notes.now c.loop-note.note-index n c.loop-note-test.true c.note-item.is
    (rec.Note c.args.transaction n.entry.row (g.K.KeyClass.spelling n.entry.key) n.before n.leaf) short
    c.args.storage.now c.loop-note.storage c.put_note.new.self c.loop-note.invariant.1 c.loop-note.invariant.2 c.loop-note.invariant.0
    c.in_ok-put_note.ensures.puts.0 c.in_ok-put_note.ensures.puts.1 c.in_ok-put_note.ensures.head
