-- A small change of a page whose bit is set fits what the log gives of that page, if it fits the page's present
-- contents.
use Rattle.std.proofs.Common.{◌≡◌, ◌∙◌, sym, ap, refl, ℕ, ◌≤◌, Bool, true, false, List, Option, None, Some, arith}
use Rattle.std.specs.Prelude.{is_some}
use Rattle.gx_machine.specs.declared.entry.Entry.{Entry}
use Rattle.gx_disk.specs.Device.{Device}
use Rattle.gx_page.specs.Contents.{Contents}
use Rattle.gx_page.specs.Reading.{read_of}
use Rattle.gx_node.specs.Reading.{Format}
use Rattle.gx_node.specs.Small.{pair_fits}
use Rattle.gx_recovery.specs.Known.{Known}
use Rattle.gx_recovery.specs.Records.{Change, Record}
use Rattle.gx_recovery.specs.Given.{change_fits, given}
use Rattle.gx_recovery.specs.Logged.{Logged, all_records}
use Rattle.gx_recovery.proofs.Given.{given_is_the_page, some_given}
use Rattle.gx_recovery.proofs.Tests.{clash}
use Rattle.gx_index_laws.specs.Classes.{Page}
use Rattle.gx_durable.specs.Small.{AddPair}
use Rattle.gx_durable.specs.Classes.{change_of, page_of, reading_of}
use Rattle.gx_storage.specs.Imaged.{is_imaged}
use Rattle.gx_storage.specs.Keeps.{Keeps}
use Rattle.gx_storage.specs.State.{Volume}
use Rattle.gx_storage.proofs.Recording.{AreNodes, stored_in_use}
use Rattle.gx_storage.proofs.SmallLeaf.{bytes_then}

module _ {B D : Type 0} (k : Known (Entry B) (Page B)) (said : List ℕ → B) (f : Format B) (passes : ℕ → Contents → Bool) (d : Device) (v : Volume D)
    (bodies : List (List (Record (Entry B) (Page B)))) (s : Logged (Entry B) (Page B)) (keeps : Keeps k (reading_of said f) f passes d v bodies s) (was : AreNodes f passes v.shelf)
    (page : ℕ) (low : 1 ≤ page) (high : page ≤ v.shelf.used) (bit : is_imaged v.imaged page ≡ true) where
  -- what the log gives of the page is what it is
  given_then : (content : Page B) → given page (all_records s) ≡ Some content → content ≡ page_of f (bytes_then k said f passes d v bodies s keeps was page low high)
  given_then content is =
      sym (given_is_the_page (all_records s) page s.area content is) ∙ sym (keeps.stored page)
      ∙ stored_in_use (reading_of said f) k.pages v.shelf.frames d.seen page low (let fits = was.taken in omega (arith, high, fits, keeps.pages))

  by_given : (change : Change (Page B)) (o : Option (Page B)) → given page (all_records s) ≡ o → is_some o ≡ true
      → change.fits k.most (page_of f (bytes_then k said f passes d v bodies s keeps was page low high)) ≡ true → change_fits k change o ≡ true
  by_given change None is some fits = absurd (clash false some refl)
  by_given change (Some content) is some fits = ap (λ (p : Page B). change.fits k.most p) (given_then content is) ∙ fits

  pub small_fits : (change : Change (Page B)) → change.fits k.most (page_of f (bytes_then k said f passes d v bodies s keeps was page low high)) ≡ true
      → change_fits k change (given page (all_records s)) ≡ true
  small_fits change fits = by_given change (given page (all_records s)) refl (some_given (all_records s) page (keeps.imaged page bit)) fits

  -- so a pair does that fits the leaf
  pub add_fits : (row : ℕ) (key : List ℕ) → pair_fits f k.most row key (read_of (bytes_then k said f passes d v bodies s keeps was page low high)) ≡ true
      → change_fits k (change_of f (AddPair row key)) (given page (all_records s)) ≡ true
  unfolding change_of
  add_fits row key fits = small_fits (change_of f (AddPair row key)) fits
