-- A sweep that a descent makes of its full leaf over frames and device, as an index's: the descent stays there, with less left.
use Rattle.std.proofs.Common.{◌≡◌, ◌∙◌, sym, refl, subst, ℕ, ◌<◌, ◌≤◌, Bool, true, false, List, [], ◌∷◌, Some, arith}
use Rattle.std.proofs.Math.Path.{fun_ext}
use Rattle.gx_machine.specs.declared.entry.Entry.{Entry}
use Rattle.gx_machine.specs.declared.call.Call.{Call}
use Rattle.gx_machine.specs.Sessions.{Locks}
use Rattle.gx_disk.specs.Device.{Device}
use Rattle.gx_page.specs.Contents.{Contents}
use Rattle.gx_node.specs.Lists.{how_many}
use Rattle.gx_node.specs.Reach.{TraversalItem}
use Rattle.gx_node.specs.Steps.{IsStep, IsSweep, Sweeps}
use Rattle.gx_node.specs.Trees.{Node, Pair, Tree}
use Rattle.gx_node.specs.Writes.{is_sweepable}
use Rattle.gx_node.specs.Edits.{entry_of}
use Rattle.gx_node.specs.Reading.{Format}
use Rattle.gx_tree.specs.Writing.{Swept}
use Rattle.gx_events.specs.Slots.{Note, Working, slot_at}
use Rattle.gx_events.specs.Wants.{is_claimed}
use Rattle.gx_recovery.specs.Given.{change_fits, given}
use Rattle.gx_recovery.specs.Logged.{all_records}
use Rattle.gx_recovery.specs.Records.{Record}
use Rattle.gx_index_laws.specs.Classes.{Class, IsLawful, Page, known_of}
use Rattle.gx_index_laws.specs.Happening.{with_record}
use Rattle.gx_index_laws.specs.Measures.{claims_pair, work_left}
use Rattle.gx_index_laws.specs.States.{Descends, State, tree_now}
use Rattle.gx_index_laws.specs.Whole.{IsWhole}
use Rattle.gx_index_laws.proofs.Measuring.{sweeps}
use Rattle.gx_durable.specs.Small.{RemoveSlots}
use Rattle.gx_durable.specs.Spelled.{record_read}
use Rattle.gx_durable.specs.Classes.{change_of, reading_of}
use Rattle.gx_store.specs.Standing.{store_of}
use Rattle.gx_storage.specs.Keeps.{Keeps, StaysWith}
use Rattle.gx_storage.specs.Numbers.{HasOwnNumber}
use Rattle.gx_storage.specs.Small.{sweep_said}
use Rattle.gx_storage.specs.State.{Volume}
use Rattle.gx_storage.specs.Sweeps.{WorksWith}
use Rattle.gx_storage.proofs.Descending.{same_node}
use Rattle.gx_storage.proofs.SmallSteps.{changed_step, changed_works}
use Rattle.gx_storage.proofs.Stepping.{given_step, given_works, stands, stood, used_few}
use Rattle.gx_storage.proofs.Stepping as stepping

module _ {B D : Type 0} (c : Class B) (law : IsLawful c) (said : List ℕ → B) (f : Format B) (passes : ℕ → Contents → Bool) (d e : Device) (v w : Volume D)
    (bodies : List (List (Record (Entry B) (Page B)))) (old : State B) (whole : IsWhole c old)
    (s : ℕ) (entry : Entry B) (parent : ℕ) (item : TraversalItem) (at : old.work s ≡ Descends entry parent item)
    (locks : Locks B) (notes : List (Note B)) (call : Call B) (slot : slot_at s old.slots ≡ Working locks notes (Some call))
    (keeps : Keeps (known_of c) (reading_of said f) f passes d v bodies old.log)
    (test : Entry B → Bool) (claims : (x : Entry B) → test x ≡ is_claimed c.keys x old.slots)
    (swept : Swept test (store_of f d.seen v.shelf) (store_of f e.seen w.shelf) item.page true) (own : HasOwnNumber e.seen w.shelf item.page)
    (small : Bool) (slots : List ℕ) (after : StaysWith (known_of c) (reading_of said f) f passes d e w bodies old.log (record_read (reading_of said f) (sweep_said small item.page slots e.seen w.shelf)))
    (fits : small ≡ true → change_fits (known_of c) (change_of f (RemoveSlots slots)) (given item.page (all_records old.log)) ≡ true) where
  abbrev shown : Tree B
  shown = stepping.shown c law said f passes d e v w bodies old whole

  abbrev shown_now : Tree B
  shown_now = stepping.shown_now c law said f passes d e v w bodies old whole

  abbrev pub logged : Record (Entry B) (Page B)
  logged = record_read (reading_of said f) (sweep_said small item.page slots e.seen w.shelf)

  -- what is spared is what any session claims
  same_test : ◌≡◌ {A = Pair B → Bool} (λ x. test (entry_of x)) (claims_pair c old.slots)
  same_test = fun_ext (λ (x : Pair B). claims (entry_of x))

  sweep : IsSweep shown shown_now item.page (claims_pair c old.slots)
  sweep = subst (λ (p : Pair B → Bool). IsSweep shown shown_now item.page p) same_test (swept.some refl).0

  some : 0 < how_many (is_sweepable (claims_pair c old.slots)) ((tree_now c old).node item.page).pairs
  some =
      subst (λ (n : Node B). 0 < how_many (is_sweepable (claims_pair c old.slots)) n.pairs)
      (same_node c law said f passes d e v w bodies old whole s entry parent item at locks notes call slot keeps)
      (subst (λ (p : Pair B → Bool). 0 < how_many (is_sweepable p) (shown.node item.page).pairs) same_test (swept.some refl).1)

  as_many : w.shelf.used ≡ v.shelf.used
  as_many =
      let now = stands c law said f passes d e v w bodies old whole keeps in
      let before = stood c law said f passes d e v w bodies old whole keeps in
      sym now ∙ (sweep.changes).used ∙ before

  high : item.page ≤ w.shelf.used
  high =
      let before = stood c law said f passes d e v w bodies old whole keeps in
      let there = (sweep.changes).there.1 in
      omega (arith, as_many, before, there)

  works_by : (b : Bool) → StaysWith (known_of c) (reading_of said f) f passes d e w bodies old.log (record_read (reading_of said f) (sweep_said b item.page slots e.seen w.shelf))
      → (b ≡ true → change_fits (known_of c) (change_of f (RemoveSlots slots)) (given item.page (all_records old.log)) ≡ true)
      → WorksWith c (reading_of said f) f passes e w bodies old (record_read (reading_of said f) (sweep_said b item.page slots e.seen w.shelf))
  works_by true stays fit =
      changed_works c law said f passes d e v w bodies old whole keeps item.page (change_of f (RemoveSlots slots)) (sweep.changes).there.0 high stays
      (Sweeps item.page (claims_pair c old.slots)) tt (λ x is. is) (fit refl) sweep
  works_by false stays fit =
      given_works c law said f passes d e v w bodies old whole keeps (item.page ∷ []) ((((sweep.changes).there.0, high), own), tt) stays
      (let few = used_few c law said f passes d e v w bodies old whole keeps in omega (arith, few, as_many))
      (Sweeps item.page (claims_pair c old.slots)) tt (λ x is. is) sweep

  pub sweep_works : WorksWith c (reading_of said f) f passes e w bodies old logged
  sweep_works = works_by small after fits

  step_by : (b : Bool) → StaysWith (known_of c) (reading_of said f) f passes d e w bodies old.log (record_read (reading_of said f) (sweep_said b item.page slots e.seen w.shelf))
      → IsStep c.rules (tree_now c old) (Sweeps item.page (claims_pair c old.slots))
      (tree_now c (with_record (record_read (reading_of said f) (sweep_said b item.page slots e.seen w.shelf)) old))
  step_by true stays =
      changed_step c law said f passes d e v w bodies old whole keeps item.page (change_of f (RemoveSlots slots)) (sweep.changes).there.0 high stays
      (Sweeps item.page (claims_pair c old.slots)) sweep
  step_by false stays =
      given_step c law said f passes d e v w bodies old whole keeps (item.page ∷ []) ((((sweep.changes).there.0, high), own), tt) stays
      (Sweeps item.page (claims_pair c old.slots)) sweep

  pub sweep_lowers : work_left c (with_record logged old) s < work_left c old s
  sweep_lowers = sweeps c law old whole s locks notes call slot entry parent item at logged (step_by small after) some
