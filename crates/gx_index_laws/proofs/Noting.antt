-- An undo's seek begins with its note's leaf, as the log gives it.
use Rattle.std.proofs.Common.{◌≡◌, ℕ, Bool, true, false, not, ◌&&◌, ◌||◌, List, [], ◌∷◌, ◌++◌, Some, ap, sym, ◌∙◌, subst}
use Rattle.std.specs.Prelude.{is_some, option_map, ◌==◌}
use Rattle.gx_machine.specs.declared.entry.Entry.{Entry}
use Rattle.gx_machine.specs.Sets.{has}
use Rattle.gx_machine.specs.Sessions.{Locks}
use Rattle.gx_events.specs.Slots.{Note, Slot, Undoing, notes_kept, slot_at, entries_of, noted}
use Rattle.gx_events.specs.Wants.{slot_wants}
use Rattle.gx_events.proofs.Noted.{noted_has}
use Rattle.gx_recovery.specs.Known.{Known, same}
use Rattle.gx_recovery.specs.Records.{Touch, settled, any_number}
use Rattle.gx_recovery.specs.Analysis.{analysis, lists}
use Rattle.gx_recovery.specs.Redo.{tree_of}
use Rattle.gx_recovery.specs.Standing.{own_before}
use Rattle.gx_recovery.specs.Damage.{is_transaction}
use Rattle.gx_recovery.specs.Coming.{Placed}
use Rattle.gx_recovery.specs.Logged.{all_records}
use Rattle.gx_recovery.proofs.Tests.{and_second, or_second, itself}
use Rattle.gx_recovery.proofs.Logs.{untrue, and_all}
use Rattle.gx_recovery.proofs.Touches.{same_itself}
use Rattle.gx_index_laws.specs.Classes.{Class, Page, IsLawful, known_of}
use Rattle.gx_index_laws.specs.States.{State, tree_now}
use Rattle.gx_index_laws.specs.Working.{SeeksFor}
use Rattle.gx_index_laws.specs.Whole.{is_busy, HasTransaction, IsWhole}
use Rattle.gx_index_laws.proofs.Standing.{known_lawful, is_good, tells, some_mapped}
use Rattle.gx_recovery.specs.Known as known

-- one of what is placed is placed
placed_one : {E P : Type 0} (k : Known E P) (tree : known.Tree P) (before after : List (Touch E)) (x : Touch E) → Placed k tree (before ++ x ∷ after) → k.placed tree x.entry x.leaf
placed_one k tree [] after x placed = placed.0
placed_one k tree (y ∷ before) after x placed = placed_one k tree before after x placed.1

-- one of a list is listed in it
listed_one : {E P : Type 0} (k : Known E P) (l : known.IsLawful k) (before after : List (Touch E)) (x : Touch E) → lists k x.transaction x.entry (before ++ x ∷ after) ≡ true
listed_one k l [] after x =
    let here : (x.transaction == x.transaction && same k x.entry x.entry) ≡ true = and_all (x.transaction == x.transaction) (same k x.entry x.entry) (itself x.transaction) (same_itself k l x.entry) in
    ap (λ b. b || lists k x.transaction x.entry after) here
listed_one k l (y ∷ before) after x =
    or_second (y.transaction == x.transaction && same k x.entry y.entry) (lists k x.transaction x.entry (before ++ x ∷ after)) (listed_one k l before after x)

module _ {B : Type 0} (c : Class B) (l : IsLawful c) (old : State B) (w : IsWhole c old) (s : ℕ) (locks : Locks B) (notes : List (Note B))
    (at : slot_at s old.slots ≡ Undoing locks notes) where
  abbrev k : Known (Entry B) (Page B)
  k = known_of c

  has_tx : HasTransaction c old s
  has_tx = w.tied.each s (ap is_busy at)

  notes_are : (e : Entry B) → noted c.keys e notes ≡ option_map not (own_before k (old.transaction s) e (all_records old.log))
  notes_are e = ap (λ (x : Slot B). noted c.keys e (notes_kept x)) (sym at) ∙ has_tx.notes e

  open_yet : settled any_number (old.transaction s) (all_records old.log) ≡ false
  open_yet =
      untrue (settled any_number (old.transaction s) (all_records old.log))
      (and_second (is_transaction (old.transaction s)) (not (settled any_number (old.transaction s) (all_records old.log))) has_tx.open_yet)

  -- what is noted is touched
  pub noted_is_touched : (e : Entry B) (was : Bool) → noted c.keys e notes ≡ Some was → lists k (old.transaction s) e (analysis k (all_records old.log)).touched ≡ true
  noted_is_touched e was is =
      (tells c l old w).listed (old.transaction s) e
      ∙ ap (λ b. not b && is_some (own_before k (old.transaction s) e (all_records old.log))) open_yet
      ∙ sym (some_mapped (own_before k (old.transaction s) e (all_records old.log))) ∙ ap is_some (sym (notes_are e)) ∙ ap is_some is

  -- a touch's leaf is where its undo may begin to seek
  pub note_seeks : (before after : List (Touch (Entry B))) (x : Touch (Entry B)) → (analysis k (all_records old.log)).touched ≡ before ++ x ∷ after
      → x.transaction ≡ old.transaction s → SeeksFor c (tree_now c old) (slot_at s old.slots) x.entry x.leaf
  note_seeks before after x parts mine =
      let listed : lists k x.transaction x.entry (analysis k (all_records old.log)).touched ≡ true =
      ap (lists k x.transaction x.entry) parts ∙ listed_one k (known_lawful c l) before after x in
      let both : (not (settled any_number x.transaction (all_records old.log)) && is_some (own_before k x.transaction x.entry (all_records old.log))) ≡ true =
      sym ((tells c l old w).listed x.transaction x.entry) ∙ listed in
      let own : is_some (own_before k (old.transaction s) x.entry (all_records old.log)) ≡ true =
      ap (λ t. is_some (own_before k t x.entry (all_records old.log))) (sym mine)
      ∙ and_second (not (settled any_number x.transaction (all_records old.log))) (is_some (own_before k x.transaction x.entry (all_records old.log))) both in
      let there : has c.keys x.entry (entries_of notes) ≡ true =
      sym (noted_has c.keys x.entry notes) ∙ ap is_some (notes_are x.entry) ∙ some_mapped (own_before k (old.transaction s) x.entry (all_records old.log)) ∙ own in
      record {
        wanted = λ live. ap (λ (y : Slot B). slot_wants c.keys y (record { entry = x.entry; live = live })) at ∙ there;
        seek = placed_one k (tree_of k old.log.area (all_records old.log)) before after x
            (subst (Placed k (tree_of k old.log.area (all_records old.log))) parts (is_good c l old w).placed);
      }
