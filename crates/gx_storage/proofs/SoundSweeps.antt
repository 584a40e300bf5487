-- What the sweep of a leaf means for an index.
use Rattle.std.proofs.Common.{◌≡◌, ◌∙◌, sym, refl, ℕ, ◌≤◌, Bool, true, false, List, [], ◌∷◌, arith}
use Rattle.gx_machine.specs.declared.entry.Entry.{Entry}
use Rattle.gx_disk.specs.Device.{Device}
use Rattle.gx_page.specs.Contents.{Contents}
use Rattle.gx_node.specs.Steps.{IsSweep, Sweeps}
use Rattle.gx_node.specs.Edits.{entry_of}
use Rattle.gx_node.specs.Reading.{Format}
use Rattle.gx_tree.specs.Writing.{Swept}
use Rattle.gx_events.specs.Wants.{is_claimed}
use Rattle.gx_recovery.specs.Given.{change_fits, given}
use Rattle.gx_recovery.specs.Logged.{all_records}
use Rattle.gx_recovery.specs.Records.{Record}
use Rattle.gx_index_laws.specs.Classes.{Class, IsLawful, Page, known_of}
use Rattle.gx_index_laws.specs.States.{State}
use Rattle.gx_index_laws.specs.Whole.{IsWhole}
use Rattle.gx_durable.specs.Small.{RemoveSlots}
use Rattle.gx_durable.specs.Spelled.{record_read}
use Rattle.gx_durable.specs.Classes.{change_of, reading_of}
use Rattle.gx_store.specs.Standing.{store_of}
use Rattle.gx_storage.specs.Keeps.{Keeps, StaysWith}
use Rattle.gx_storage.specs.Numbers.{HasOwnNumber}
use Rattle.gx_storage.specs.Small.{sweep_said}
use Rattle.gx_storage.specs.State.{Volume}
use Rattle.gx_storage.specs.Sweeps.{WorksWith}
use Rattle.gx_storage.proofs.SmallSteps.{changed_works}
use Rattle.gx_storage.proofs.Stepping.{given_works, shown, shown_now, stands, stood, used_few}

module _ {B D : Type 0} (c : Class B) (law : IsLawful c) (said : List ℕ → B) (f : Format B) (passes : ℕ → Contents → Bool) (d e : Device) (v w : Volume D) (page : ℕ)
    (bodies : List (List (Record (Entry B) (Page B)))) (old : State B) (whole : IsWhole c old) (keeps : Keeps (known_of c) (reading_of said f) f passes d v bodies old.log) where
  -- A leaf was swept: the record, by whether it is small, may come, and the volume keeps the index with it.
  pub sweep_works : (small : Bool) (slots : List ℕ) → StaysWith (known_of c) (reading_of said f) f passes d e w bodies old.log (record_read (reading_of said f) (sweep_said small page slots e.seen w.shelf))
      → (small ≡ true → change_fits (known_of c) (change_of f (RemoveSlots slots)) (given page (all_records old.log)) ≡ true)
      → (test : Entry B → Bool) → ((entry : Entry B) → is_claimed c.keys entry old.slots ≡ true → test entry ≡ true)
      → Swept test (store_of f d.seen v.shelf) (store_of f e.seen w.shelf) page true → HasOwnNumber e.seen w.shelf page
      → WorksWith c (reading_of said f) f passes e w bodies old (record_read (reading_of said f) (sweep_said small page slots e.seen w.shelf))
  sweep_works small slots after fits test claims swept own = by_bit small after fits
    where
      sweep : IsSweep (shown c law said f passes d e v w bodies old whole) (shown_now c law said f passes d e v w bodies old whole) page (λ x. test (entry_of x))
      sweep = (swept.some refl).0

      few : v.shelf.used ≤ c.pages
      few = used_few c law said f passes d e v w bodies old whole keeps

      same : w.shelf.used ≡ v.shelf.used
      same =
          let now = stands c law said f passes d e v w bodies old whole keeps in
          let before = stood c law said f passes d e v w bodies old whole keeps in
          sym now ∙ sweep.changes.used ∙ before

      high : page ≤ w.shelf.used
      high =
          let before = stood c law said f passes d e v w bodies old whole keeps in
          let there = sweep.changes.there.1 in
          omega (arith, same, before, there)

      by_bit : (b : Bool) → StaysWith (known_of c) (reading_of said f) f passes d e w bodies old.log (record_read (reading_of said f) (sweep_said b page slots e.seen w.shelf))
          → (b ≡ true → change_fits (known_of c) (change_of f (RemoveSlots slots)) (given page (all_records old.log)) ≡ true)
          → WorksWith c (reading_of said f) f passes e w bodies old (record_read (reading_of said f) (sweep_said b page slots e.seen w.shelf))
      by_bit true after fits =
          changed_works c law said f passes d e v w bodies old whole keeps page (change_of f (RemoveSlots slots)) sweep.changes.there.0 high after
          (Sweeps page (λ x. test (entry_of x))) tt (λ x. claims (entry_of x)) (fits refl) sweep
      by_bit false after fits =
          given_works c law said f passes d e v w bodies old whole keeps (page ∷ []) (((sweep.changes.there.0, high), own), tt) after (omega (arith, few, same))
          (Sweeps page (λ x. test (entry_of x))) tt (λ x. claims (entry_of x)) sweep
