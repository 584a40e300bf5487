use Rattle.std.proofs.Common.{◌≡◌, ◌∙◌, sym, ap, refl, ◌+◌, ◌*◌, ◌≤◌, List, ◌∷◌, ◌++◌, [], length, take, take_all, get_or, arith}
use Rattle.std.proofs.lemmas.List.{take_more}
use Rattle.std.proofs.lemmas.Result.{err_from_is_err_and}
use Rattle.gx_durable.specs.Classes.{reading_by}
use Rattle.gx_machine.specs.declared.entry.Entry.{Entry}
use Rattle.gx_recovery.specs.Records.{Touch}
use Rattle.gx_recovery.specs.Renewal.{notes_of}
use Rattle.gx_migrate.specs.Head.{note_record}
use Rattle.gx_migrate.proofs.head.HeadRecords.{notes_cut, notes_whole, puts_none, puts_same, puts_stopped, puts_then}
use Rattle.gx_migrate.proofs.head.put_notes.Goals as goal

pub loop-touch-init : goal.loop-touch-init
loop-touch-init g c = record { key = c.requires.key; within = omega arith; puts = puts_none (reading_by g.K.ReadKeys.said g.K.KeyClass) c.args.head.now }

pub loop-touch-preserved : goal.loop-touch-preserved
loop-touch-preserved g c =
    let r = reading_by g.K.ReadKeys.said g.K.KeyClass in
    let i = c.loop-touch.touch-index in
    let xs = c.args.touched.now in
    let x = c.touch-item.result in
    record {
      key = c.in_ok-put_note.ensures.key;
      within = omega (arith, c.loop-touch-test.true);
      puts = puts_same r (notes_of (take i xs) ++ notes_of (x ∷ [])) (notes_of (take (i + 1) xs)) (note_record * i + note_record) (note_record * (i + 1)) c.args.head.now c.put_note.new.head
          (notes_cut xs i x c.loop-touch-test.true c.touch-item.is) (omega arith)
          (puts_then r (notes_of (take i xs)) (notes_of (x ∷ [])) (note_record * i) note_record c.args.head.now c.loop-touch.head c.put_note.new.head c.loop-touch.invariant.puts c.in_ok-put_note.ensures.puts);
    }

pub returns-in_err-put_note : goal.returns-in_err-put_note
returns-in_err-put_note g c =
    let p = err_from_is_err_and c.from_residual.result c.from_residual.ensures.1 in
    let r = reading_by g.K.ReadKeys.said g.K.KeyClass in
    let i = c.loop-touch.touch-index in
    let xs = c.args.touched.now in
    rw (p.1, p.2) (record {
      puts = (
        c.in_err-put_note.ensures.puts.0,
        puts_stopped r (notes_of (take i xs)) (note_record * i) note_record (note_record * length xs) c.args.head.now c.loop-touch.head c.loop-touch.invariant.puts (omega (arith, c.loop-touch-test.true))
            c.in_err-put_note.ensures.puts.1,
      );
    })

pub returns : goal.returns
returns g c =
    let r = reading_by g.K.ReadKeys.said g.K.KeyClass in
    let i = c.loop-touch.touch-index in
    let xs = c.args.touched.now in
    record {
      puts = puts_same r (notes_of (take i xs)) (notes_of xs) (note_record * i) (note_record * length xs) c.args.head.now c.loop-touch.head (notes_whole xs i c.loop-touch-test.false)
          (omega (arith, c.loop-touch-test.false, c.loop-touch.invariant.within)) c.loop-touch.invariant.puts;
    }
