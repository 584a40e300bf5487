-- A small change of a page that is logged: what frames and device show to be a step of the tree is that step of the log's tree.
use Rattle.std.proofs.Common.{◌≡◌, ◌≢◌, ℕ, ◌<◌, ◌≤◌, Bool, true, List, arith}
use Rattle.std.proofs.lemmas.Bool.{ne_eqb}
use Rattle.gx_machine.specs.declared.entry.Entry.{Entry}
use Rattle.gx_disk.specs.Device.{Device}
use Rattle.gx_page.specs.Contents.{Contents}
use Rattle.gx_node.specs.Steps.{IsStep, Step}
use Rattle.gx_node.specs.Reading.{Format}
use Rattle.gx_recovery.specs.Given.{change_fits, given}
use Rattle.gx_recovery.specs.Logged.{all_records}
use Rattle.gx_recovery.specs.Records.{Adjust, Change, Record}
use Rattle.gx_index_laws.specs.Classes.{Class, IsLawful, Page, known_of}
use Rattle.gx_index_laws.specs.Happening.{with_record}
use Rattle.gx_index_laws.specs.States.{State, tree_now}
use Rattle.gx_index_laws.specs.Steps.{IsPageStep, SparesClaims}
use Rattle.gx_index_laws.specs.Whole.{IsWhole}
use Rattle.gx_index_laws.proofs.Paging.{adjusted}
use Rattle.gx_durable.specs.Classes.{reading_of}
use Rattle.gx_storage.specs.Keeps.{Keeps, StaysWith}
use Rattle.gx_storage.specs.State.{Volume}
use Rattle.gx_storage.specs.Sweeps.{WorksWith}
use Rattle.gx_storage.proofs.Stepping.{logged_step, shown, shown_now, stands}

module _ {B D : Type 0} (c : Class B) (law : IsLawful c) (said : List ℕ → B) (f : Format B) (passes : ℕ → Contents → Bool) (d e : Device) (v w : Volume D)
    (bodies : List (List (Record (Entry B) (Page B)))) (old : State B) (whole : IsWhole c old) (keeps : Keeps (known_of c) (reading_of said f) f passes d v bodies old.log)
    (page : ℕ) (change : Change (Page B)) (low : 0 < page) (high : page ≤ w.shelf.used)
    (after : StaysWith (known_of c) (reading_of said f) f passes d e w bodies old.log (Adjust page change)) where
  pub changed_step : (step : Step B) → IsStep c.rules (shown c law said f passes d e v w bodies old whole) step (shown_now c law said f passes d e v w bodies old whole)
      → IsStep c.rules (tree_now c old) step (tree_now c (with_record (Adjust page change) old))
  changed_step =
      logged_step c law said f passes d e v w bodies old whole keeps (Adjust page change) after
      (λ q beyond.
      (let other : page ≢ q = λ same. beyond (omega (arith, same, low), (let used = stands c law said f passes d e v w bodies old whole keeps in omega (arith, same, high, used))) in
      ne_eqb page q other))

  -- its record may come, no session notices, and the volume keeps the index with it
  pub changed_works : (step : Step B) → IsPageStep step → SparesClaims c old.slots step → change_fits (known_of c) change (given page (all_records old.log)) ≡ true
      → IsStep c.rules (shown c law said f passes d e v w bodies old whole) step (shown_now c law said f passes d e v w bodies old whole)
      → WorksWith c (reading_of said f) f passes e w bodies old (Adjust page change)
  changed_works step of_pages spares fits is =
      let comes = adjusted c law old whole page change step of_pages spares fits (changed_step step is) in
      record { comes = comes; keeps = after.keeps comes.may_come }
