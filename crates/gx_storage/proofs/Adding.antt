-- A pair that a descent adds to its leaf over frames and device, as an index's: it is inserted.
use Rattle.std.proofs.Common.{◌≡◌, ◌∙◌, ℕ, ◌≤◌, Bool, true, false, List, None, Some, arith}
use Rattle.std.proofs.lemmas.Bool.{ne_eqb}
use Rattle.gx_machine.specs.declared.entry.Entry.{Entry}
use Rattle.gx_machine.specs.declared.call.Call.TheVariants.{Insert}
use Rattle.gx_machine.specs.Sessions.{Locks}
use Rattle.gx_disk.specs.Device.{Device}
use Rattle.gx_page.specs.Contents.{Contents}
use Rattle.gx_node.specs.Reach.{TraversalItem}
use Rattle.gx_node.specs.Steps.{Adds, IsAdding}
use Rattle.gx_node.specs.Trees.{Tree, is_entry, standing}
use Rattle.gx_node.proofs.AlikeTrees.{standing_too}
use Rattle.gx_node.specs.Reading.{Format}
use Rattle.gx_tree.specs.Writing.{Appends, live}
use Rattle.gx_tree.proofs.Marking.{adding}
use Rattle.gx_events.specs.Happenings.{Inserts}
use Rattle.gx_events.specs.Slots.{Note, WithNote, Working, slot_at}
use Rattle.gx_recovery.specs.Coming.{IsSaid}
use Rattle.gx_recovery.specs.Logged.{all_records, appended}
use Rattle.gx_recovery.specs.Records.{Record, Said}
use Rattle.gx_index_laws.specs.Classes.{Class, IsLawful, Page, is_of, known_of}
use Rattle.gx_index_laws.specs.Happening as happening
use Rattle.gx_index_laws.specs.Happening.{Comes, slotted, with_record}
use Rattle.gx_index_laws.specs.States.{Descends, Rests, State, tree_now}
use Rattle.gx_index_laws.specs.Whole.{IsWhole}
use Rattle.gx_index_laws.proofs.Answering.{descent_finds_none}
use Rattle.gx_index_laws.proofs.Entering.{insert_adds}
use Rattle.gx_index_laws.proofs.Standing.{is_legal}
use Rattle.gx_durable.specs.Classes.{reading_of}
use Rattle.gx_storage.specs.Keeps.{Keeps, StaysWith}
use Rattle.gx_storage.specs.State.{Volume}
use Rattle.gx_storage.proofs.Descending.{shown_descent}
use Rattle.gx_storage.proofs.Stepping.{logged_step, shown_legal, shows}
use Rattle.gx_storage.proofs.Stepping as stepping

module _ {B D : Type 0} (c : Class B) (law : IsLawful c) (said : List ℕ → B) (f : Format B) (passes : ℕ → Contents → Bool) (d e : Device) (v w : Volume D)
    (bodies : List (List (Record (Entry B) (Page B)))) (old : State B) (whole : IsWhole c old)
    (s : ℕ) (entry : Entry B) (parent : ℕ) (item : TraversalItem) (at : old.work s ≡ Descends entry parent item)
    (locks : Locks B) (notes : List (Note B)) (slot : slot_at s old.slots ≡ Working locks notes (Some (Insert entry)))
    (keeps : Keeps (known_of c) (reading_of said f) f passes d v bodies old.log) where
  abbrev shown : Tree B
  shown = stepping.shown c law said f passes d e v w bodies old whole

  abbrev shown_now : Tree B
  shown_now = stepping.shown_now c law said f passes d e v w bodies old whole

  -- the pair is in no leaf yet
  pub absent : standing (is_entry c.rules entry.row entry.key) shown ≡ 0
  absent =
      standing_too c.rules (tree_now c old) shown (shows c law said f passes d e v w bodies old whole keeps) (is_legal c law old whole) (is_of c entry)
      ∙ descent_finds_none c law old whole s entry parent item at

  module _ (calm : (shown.node item.page).nsn ≤ item.seen) (appends : Appends c.rules.most shown shown_now item.page entry) where
    adds : IsAdding c.rules shown shown_now item.page (live entry)
    adds =
        adding c.rules shown shown_now (shown_legal c law said f passes d e v w bodies old whole keeps) item.page entry appends absent
        ((shown_descent c law said f passes d e v w bodies old whole s entry parent item at locks notes (Insert entry) slot keeps).covered calm)

    -- the record that an index has of it, by what that says of the leaf
    module _ (told : Said (Page B)) (is_said : IsSaid (known_of c) item.page told (all_records old.log)) where
      abbrev pub written : Record (Entry B) (Page B)
      written = happening.write_of old s entry true false item.page told

      module _ (after : StaysWith (known_of c) (reading_of said f) f passes d e w bodies old.log written) where
        logged : IsAdding c.rules (tree_now c old) (tree_now c (with_record written old)) item.page (live entry)
        logged =
            logged_step c law said f passes d e v w bodies old whole keeps written after
            (λ q beyond. ne_eqb item.page q (λ same. beyond (
              (let low = (adds.changes).there.0 in omega (arith, same, low)),
              (let high = (adds.changes).there.1 in let used = (adds.changes).used in omega (arith, same, high, used)),
            )))
            (Adds item.page (live entry)) adds

        -- the pair is inserted, and noted, and the volume keeps the index with it
        pub record Inserted (then_notes : List (Note B)) : Type 0 where
          pub comes : Comes c old written (Inserts s entry) (slotted s (Working locks then_notes None) Rests (with_record written old))
          pub kept : Keeps (known_of c) (reading_of said f) f passes e w bodies (appended written old.log)

        pub inserted : old.failed ≡ false → c.is_key entry.key ≡ true → (then_notes : List (Note B)) → WithNote c.keys entry false notes then_notes → Inserted then_notes
        inserted works of_class then_notes with_note =
            let comes = insert_adds c law old whole works s locks notes then_notes entry item.page told of_class is_said slot with_note logged in
            record { comes = comes; kept = after.keeps comes.may_come }
