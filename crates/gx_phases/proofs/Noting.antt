-- A note of the table is the engine's.
use Rattle.std.proofs.Common.{◌≡◌, Bool, true, false, not, List, [], ◌∷◌, Option, Some, None, map, refl, ap, sym, ◌∙◌}
use Rattle.std.specs.Prelude.{if◌then◌else◌, option_map}
use Rattle.std.specs.Option.{option_or}
use Rattle.gx_machine.specs.declared.entry.Entry.{Entry}
use Rattle.gx_machine.specs.Keys.{Keys, IsLawful, same_entry}
use Rattle.gx_machine.specs.Sets.{InOrder}
use Rattle.gx_txn.specs.declared.note.Note as txn
use Rattle.gx_txn.specs.Notes.{entries_of, noting, of_entry, with_first_mark}
use Rattle.gx_txn.proofs.FirstAndLast.{of_entry-noting}
use Rattle.gx_events.specs.Slots.{noted, WithNote}
use Rattle.gx_phases.specs.States.{note_of}

module _ {B : Type 0} (k : Keys B) where
  abbrev was : txn.Note B → Bool
  was n = not n.before

  noted_step : (n : txn.Note B) (same : Bool) (rest : Option Bool) (o : Option (txn.Note B)) → rest ≡ option_map was o
      → (if same then Some (was n) else rest) ≡ option_map was (if same then Some n else o)
  noted_step n true rest o h = refl
  noted_step n false rest o h = h

  -- what is noted is so by the table's note
  pub noted_by : (x : Entry B) (notes : List (txn.Note B)) → noted k x (map note_of notes) ≡ option_map was (of_entry k x notes)
  noted_by x [] = refl
  noted_by x (n ∷ notes) = noted_step n (same_entry k x n.entry) (noted k x (map note_of notes)) (of_entry k x notes) (noted_by x notes)

  with_first : (n : txn.Note B) (same : Bool) (o : Option (txn.Note B))
      → option_map was (if same then Some (with_first_mark n o) else o) ≡ option_or (option_map was o) (if same then Some (was n) else None)
  with_first n true None = refl
  with_first n true (Some first) = refl
  with_first n false None = refl
  with_first n false (Some first) = refl

  pub noting_notes : (l : IsLawful k) (n : txn.Note B) (notes : List (txn.Note B)) → InOrder k (entries_of notes)
      → WithNote k n.entry (not n.before) (map note_of notes) (map note_of (noting k n notes))
  noting_notes l n notes o x =
      noted_by x (noting k n notes) ∙ ap (option_map was) (of_entry-noting k l x n notes o) ∙ with_first n (same_entry k x n.entry) (of_entry k x notes)
      ∙ ap (λ (p : Option Bool). option_or p (if same_entry k x n.entry then Some (not n.before) else None)) (sym (noted_by x notes))
