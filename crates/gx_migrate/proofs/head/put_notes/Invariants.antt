use Rattle.std.proofs.Common.{◌≡◌, ◌*◌, ◌≤◌, length, take}
use Rattle.gx_durable.specs.Classes.{reading_by}
use Rattle.gx_recovery.specs.Renewal.{notes_of}
use Rattle.gx_migrate.specs.Head.{Puts, note_record}
use Rattle.gx_migrate.proofs.head.put_notes.Given as goal

-- the notes up to this one came
abbrev pub invariant-loop-touch : goal.invariant-loop-touch
invariant-loop-touch g l = record {
  key : length l.spelled ≡ g.K.KeyClass.KEY;
  within : l.touch-index ≤ length l.touched;
  puts : Puts (reading_by g.K.ReadKeys.said g.K.KeyClass) (notes_of (take l.touch-index l.touched)) (note_record * l.touch-index) l.fn.head l.head;
}
