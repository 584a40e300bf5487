-- What stands for a kept set is legal for the log that it has.
use Rattle.std.proofs.Common.{◌≡◌, ◌∙◌, sym, ap, ℕ, ◌≤◌, Bool, ◌&&◌, List, [], ◌∷◌, arith}
use Rattle.std.specs.Prelude.{if◌then◌else◌, nat_le, nat_lt, length, unwrap_or}
use Rattle.std.specs.List.{list_all}
use Rattle.std.proofs.lemmas.Bool.{lt-ltb, le-leb, leb-true}
use Rattle.gx_pool.specs.Area.{bytes_of}
use Rattle.gx_recovery.specs.Known.{Known, Tree, IsLawful}
use Rattle.gx_recovery.specs.Records.{Record, Touch, any_number}
use Rattle.gx_recovery.specs.Analysis.{analysis}
use Rattle.gx_recovery.specs.Redo.{tree_of}
use Rattle.gx_recovery.specs.Given.{given}
use Rattle.gx_recovery.specs.Standing.{first_before, by_mark, counting}
use Rattle.gx_recovery.specs.Damage.{touch_fits, apart, transactions, records_of, IsLog}
use Rattle.gx_recovery.specs.Coming.{Placed}
use Rattle.gx_recovery.specs.declared.TheConstants.{TRANSACTIONS, TOUCHED}
use Rattle.gx_recovery.proofs.Given.{redone_by_given}
use Rattle.gx_recovery.proofs.Logs.{and_all}
use Rattle.gx_recovery.proofs.Renewals.{log_fits}
use Rattle.gx_recovery.proofs.Tests.{and_first}
use Rattle.gx_durable.specs.Spelled.{Reading}
use Rattle.gx_durable.specs.Area.{area_of}
use Rattle.gx_durable.specs.Legal.{IsTreeOf, AgreeOnUsed, ReadsUsed, WhatStandsIsLegal}

module _ {E P : Type 0} (k : Known E P) (l : IsLawful k) (r : Reading E P) where
  -- the pages in use are the device's
  pub used_fits : (log : List (Record E P)) → IsLog k log → (analysis k log).used ≤ k.pages
  used_fits log is =
      let a = analysis k log in
      let rest : Bool =
      list_all (touch_fits k a.used) a.touched && (apart k a.touched && (nat_le (transactions a.touched) TRANSACTIONS && nat_le (length a.touched) TOUCHED)) in
      leb-true a.used k.pages (and_first (nat_le a.used k.pages) rest (log_fits k l log is))

  -- a page that the device has is what its sectors spell
  pub area_page : (pages : ℕ) (image : List ℕ) (p : ℕ) → 1 ≤ p → p ≤ pages → area_of r pages image p ≡ r.content (bytes_of image p)
  unfolding area_of
  area_page pages image p low high =
      ap (λ b. if b then r.content (bytes_of image p) else r.no_page) (and_all (nat_lt 0 p) (nat_le p pages) (lt-ltb 0 p low) (le-leb p pages high))

  module _ (log : List (Record E P)) (image : List ℕ) (t : Tree P) (is : IsLog k log) (of : IsTreeOf k r log image t) where
    -- the tree of an image agrees with the theory's
    agrees : AgreeOnUsed (tree_of k (area_of r k.pages image) log) t
    agrees = record {
      counter = of.counter;
      used = of.used;
      pages = λ p low high.
          (let in_log : p ≤ (analysis k log).used = high in
          let in_tree : p ≤ t.used = omega (arith, of.used, in_log) in
          let on_device : p ≤ k.pages = omega (arith, in_log, used_fits log is) in
          of.pages p low in_tree ∙ ap (λ (content : P). unwrap_or (given p log) content) (sym (area_page k.pages image p low on_device))
          ∙ sym (redone_by_given k log p (area_of r k.pages image) is));
    }

  placed_too : ReadsUsed k → (one other : Tree P) → AgreeOnUsed one other → (xs : List (Touch E)) → Placed k one xs → Placed k other xs
  placed_too reads one other agree [] placed = tt
  placed_too reads one other agree (x ∷ xs) placed = (reads.placed one other agree x.entry x.leaf placed.0, placed_too reads one other agree xs placed.1)

pub stands_legal : {E P : Type 0} → (k : Known E P) (r : Reading E P) → WhatStandsIsLegal k r
stands_legal k r l reads s image stands =
    let log = records_of stands.bodies in
    let one = tree_of k (area_of r k.pages image) log in
    let is = stands.stands.is_log in
    let good = stands.stands.good in
    record {
      on_device = used_fits k l r log is;
      good = λ t of. (let agree = agrees k l r log image t is of in record {
        sound = reads.sound one t agree good.sound;
        placed = placed_too k l r reads one t agree (analysis k log).touched good.placed;
      });
      same_set = λ t e of. (let agree = agrees k l r log image t is of in
          ap (λ b. by_mark (first_before k (counting any_number log) e log) b) (reads.live one t agree good.sound e) ∙ stands.stands.same_set e);
    }
