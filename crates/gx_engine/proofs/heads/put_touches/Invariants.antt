use Rattle.std.proofs.Common.{◌≡◌, ◌*◌, ◌-◌, ◌^◌, ◌≤◌, List, length}
use Rattle.gx_glog.specs.declared.stage.Stage.TheVariants.{Idle}
use Rattle.gx_machine.specs.declared.entry.Entry.{Entry}
use Rattle.gx_node.specs.Reading.{format_of}
use Rattle.gx_durable.specs.Classes.{reading_of}
use Rattle.gx_recovery.specs.Records.{Touch}
use Rattle.gx_recovery.specs.Renewal.{notes_of}
use Rattle.gx_engine.specs.Noted.{AreNoted, touched_before}
use Rattle.gx_engine.specs.Heads.{OnlyHead, Puts, from_of, note_record}
use Rattle.gx_engine.proofs.heads.put_touches.Given as goal

-- the notes of the transactions up to this one came
abbrev pub invariant-loop-session : goal.invariant-loop-session
invariant-loop-session g l =
    (l.storage.log.stage ≡ Idle) × OnlyHead l.fn.storage l.storage × (from_of l.after ≤ 2 ^ 64) × (length l.fn.storage.log.flight ≤ length l.storage.log.flight)
    × ((xs : List (Touch (Entry g.row.K-Key.Denot))) → AreNoted l.sessions xs
    → Puts (reading_of g.K.ReadKeys.said (format_of g.K.KeyClass)) (notes_of (touched_before (from_of l.after) xs)) (note_record * length (touched_before (from_of l.after) xs)) l.fn.storage.log l.storage.log)

-- each transaction comes after the one before
abbrev pub decreases-loop-session : goal.decreases-loop-session
decreases-loop-session g l = 2 ^ 64 - from_of l.after
