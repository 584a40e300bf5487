-- The tree that a volume shows is the log's.
use Rattle.std.proofs.Common.{◌≡◌, ◌∙◌, sym, ap, refl, ℕ, ◌≤◌, Bool, true, ◌&&◌, List, Option, None, Some, arith}
use Rattle.std.specs.Prelude.{if◌then◌else◌, nat_le, nat_lt, length}
use Rattle.std.specs.List.{list_all}
use Rattle.std.proofs.lemmas.Bool.{lt-ltb, le-leb, leb-true}
use Rattle.gx_machine.specs.declared.entry.Entry.{Entry}
use Rattle.gx_disk.specs.Device.{Device}
use Rattle.gx_page.specs.Contents.{Contents}
use Rattle.gx_page.specs.Format.{IsWellFormed}
use Rattle.gx_page.specs.Reading.{read_of}
use Rattle.gx_page.proofs.Images.{read-image}
use Rattle.gx_pool.specs.Area.{bytes_of}
use Rattle.gx_pool.specs.Laws.{IsBacked, shown_of}
use Rattle.gx_pool.specs.State.{State, Kept, kept}
use Rattle.gx_node.specs.Alike.{AgreeOnUsed}
use Rattle.gx_node.specs.Reading.{Format}
use Rattle.gx_recovery.specs.Known.{Known, IsLawful}
use Rattle.gx_recovery.specs.Records.{Record}
use Rattle.gx_recovery.specs.Analysis.{analysis}
use Rattle.gx_recovery.specs.Damage.{touch_fits, apart, transactions, IsLog}
use Rattle.gx_recovery.specs.Logged.{Logged, all_records}
use Rattle.gx_recovery.specs.declared.TheConstants.{TRANSACTIONS, TOUCHED}
use Rattle.gx_recovery.proofs.Lives.{whole_log}
use Rattle.gx_recovery.proofs.Logs.{and_all}
use Rattle.gx_recovery.proofs.Renewals.{log_fits}
use Rattle.gx_recovery.proofs.Tests.{and_first}
use Rattle.gx_index_laws.specs.Classes.{Page}
use Rattle.gx_durable.specs.Stored.{bytes_by, stored, IsStored}
use Rattle.gx_durable.specs.Classes.{node_of, page_of, reading_of}
use Rattle.gx_store.specs.Standing.{standing, standing_node}
use Rattle.gx_store.proofs.Listed.{node_there, nodes_long}
use Rattle.gx_store.proofs.Shown.{stands_shown}
use Rattle.gx_storage.specs.Formed.{AreFormed}
use Rattle.gx_storage.specs.Keeps.{ShowsTheLogs, tree_after, tree_shown}
use Rattle.gx_storage.specs.State.{Volume}

-- the pages in use are the device's
pub used_fits : {E P : Type 0} (k : Known E P) (l : IsLawful k) (log : List (Record E P)) → IsLog k log → (analysis k log).used ≤ k.pages
used_fits k l log is =
    let a = analysis k log in
    let rest : Bool =
    list_all (touch_fits k a.used) a.touched && (apart k a.touched && (nat_le (transactions a.touched) TRANSACTIONS && nat_le (length a.touched) TOUCHED)) in
    leb-true a.used k.pages (and_first (nat_le a.used k.pages) rest (log_fits k l log is))

module _ {B : Type 0} (said : List ℕ → B) (f : Format B) where
  -- what is read of the bytes that a page is, is what is shown of it
  pub bytes_shown : (o : Option Kept) (on_device : List ℕ) → ((k : Kept) → o ≡ Some k → IsWellFormed k.page) → read_of (bytes_by o on_device) ≡ shown_of o (read_of on_device)
  bytes_shown None on_device formed = refl
  bytes_shown (Some k) on_device formed = read-image k.page (formed k refl)

  -- a page of the device is stored as the node that is there
  pub stored_stands : (pages : ℕ) (frames : State) (seen : List ℕ) (p : ℕ) → 1 ≤ p → p ≤ pages → IsBacked frames seen → AreFormed frames
      → (stored (reading_of said f) pages frames seen p).node ≡ node_of f (standing frames seen p)
  unfolding stored
  stored_stands pages frames seen p low high backed formed =
      let there : (nat_lt 0 p && nat_le p pages) ≡ true = and_all (nat_lt 0 p) (nat_le p pages) (lt-ltb 0 p low) (le-leb p pages high) in
      ap (λ b. (if b then page_of f (bytes_by (kept frames p) (bytes_of seen p)) else (reading_of said f).no_page).node) there
      ∙ ap (node_of f) (bytes_shown (kept frames p) (bytes_of seen p) (formed p) ∙ sym (stands_shown frames seen p backed))

  module _ (k : Known (Entry B) (Page B)) where
    -- the tree that is shown is the one after all records, if each page is stored as they leave it
    pub stored_shows : {D : Type 0} (d : Device) (v : Volume D) (s : Logged (Entry B) (Page B)) → v.shelf.used ≤ k.pages → IsBacked v.shelf.frames d.seen → AreFormed v.shelf.frames
        → IsStored (reading_of said f) k.pages v.shelf.frames d.seen s → (analysis k (all_records s)).used ≡ v.shelf.used → (analysis k (all_records s)).counter ≡ v.shelf.counter
        → AgreeOnUsed (tree_after k (reading_of said f) f (λ n c. true) s) (tree_shown k (reading_of said f) f (λ n c. true) d v)
    stored_shows d v s fits backed formed is used counter = record {
      used = nodes_long (standing_node f v.shelf.frames d.seen) v.shelf.used ∙ sym used;
      counter = sym counter;
      nodes = λ q u.
          (let in_use : q ≤ v.shelf.used = omega (arith, used, u.1) in
          node_there (standing_node f v.shelf.frames d.seen) v.shelf.used q u.0 in_use
          ∙ sym (stored_stands k.pages v.shelf.frames d.seen q u.0 (omega (arith, in_use, fits)) backed formed) ∙ ap (λ (p : Page B). p.node) (is q));
    }

    pub keeps_shows : {D : Type 0} (passes : ℕ → Contents → Bool) (d : Device) (v : Volume D) → IsLawful k → ShowsTheLogs k (reading_of said f) f passes d v
    keeps_shows passes d v l bodies s keeps =
        stored_shows d v s (omega (arith, keeps.used, used_fits k l (all_records s) (whole_log k l s keeps.runs.up.carries.healthy))) keeps.steady.backed keeps.formed keeps.stored keeps.used keeps.counter
