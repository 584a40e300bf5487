use Rattle.std.proofs.Common.{◌≡◌, ◌*◌, take}
use Rattle.gx_record.specs.Slots.{slots_bytes}
use Rattle.gx_record.specs.declared.sizes.TheConstants.{SLOT_NUMBER}
use Rattle.gx_storage.proofs.journal.sweep.spell_slots.Given as goal

abbrev pub invariant-loop-place : goal.invariant-loop-place
invariant-loop-place l = take (SLOT_NUMBER * l.place) l.bytes ≡ slots_bytes (take l.place l.slots)
