use Rattle.std.proofs.Common.{◌≡◌, ◌*◌, map, take}
use Rattle.gx_glog.specs.declared.stage.Stage.TheVariants.{Idle}
use Rattle.gx_node.specs.Reading.{format_of}
use Rattle.gx_durable.specs.Classes.{reading_of}
use Rattle.gx_recovery.specs.Renewal.{notes_of}
use Rattle.gx_engine.specs.Heads.{OnlyHead, Puts, note_record}
use Rattle.gx_engine.specs.Noted.{touch_by}
use Rattle.gx_engine.proofs.heads.put_notes.Given as goal

-- the notes up to this one came
abbrev pub invariant-loop-note : goal.invariant-loop-note
invariant-loop-note g l =
    (l.storage.log.stage ≡ Idle) × OnlyHead l.fn.storage l.storage
    × Puts (reading_of g.K.ReadKeys.said (format_of g.K.KeyClass)) (notes_of (map (touch_by l.transaction) (take l.note-index l.notes))) (note_record * l.note-index) l.fn.storage.log l.storage.log
