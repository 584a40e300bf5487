-- An image with a log that says the same, over the pages after the old one, stands for the same set.
use Rattle.std.proofs.Common.{◌≡◌, ◌∙◌, sym, ap, refl, subst, ℕ, ◌≤◌, Bool, true, ◌&&◌, List, [], ◌∷◌, ◌++◌, arith}
use Rattle.std.specs.Prelude.{if◌then◌else◌, nat_le, nat_lt}
use Rattle.std.proofs.lemmas.List.{append-nil}
use Rattle.gx_glog.specs.Cuts.{open_bodies}
use Rattle.gx_pool.specs.Area.{bytes_of}
use Rattle.gx_recovery.specs.Analysis.{analysis, number_of}
use Rattle.gx_recovery.specs.Coming.{IsGood, Placed}
use Rattle.gx_recovery.specs.Damage.{IsLog}
use Rattle.gx_recovery.specs.Known.{Known, IsLawful, Tree}
use Rattle.gx_recovery.specs.Logged.{StandsForKept, all_records, kept}
use Rattle.gx_recovery.specs.Records.{Record, Touch, any_number}
use Rattle.gx_recovery.specs.Redo.{redone, tree_of}
use Rattle.gx_recovery.specs.Renewal.{found, notes_of, renewed}
use Rattle.gx_recovery.specs.Standing.{by_mark, counting, first_before, set_of, stands_for}
use Rattle.gx_recovery.proofs.Bodies.{renewed_undamaged}
use Rattle.gx_recovery.proofs.Renewals.{renewed_good, renewed_is_log, same_number, same_tree, stands_alike}
use Rattle.gx_recovery.proofs.States.{stands_as}
use Rattle.gx_durable.specs.Area.{area_of}
use Rattle.gx_durable.specs.Bodies.{AreBodies}
use Rattle.gx_durable.specs.Fitting.{AreGood, HasSizes, PagesFit}
use Rattle.gx_durable.specs.Head.{head_in}
use Rattle.gx_durable.specs.Legal.{AgreeOnUsed, ReadsUsed}
use Rattle.gx_durable.specs.Spelled.{Reading, AreRecords}
use Rattle.gx_durable.specs.Standing.{Stands}

-- a page is the same if its bytes are
pub page_same : {E P : Type 0} (r : Reading E P) (pages : ℕ) (xs ys : List ℕ) (p : ℕ) → bytes_of xs p ≡ bytes_of ys p → area_of r pages xs p ≡ area_of r pages ys p
unfolding area_of
page_same r pages xs ys p same = ap (λ (bytes : List ℕ). if nat_lt 0 p && nat_le p pages then r.content bytes else r.no_page) same

-- notes give no page
notes_rest : {E P : Type 0} (area : ℕ → P) (xs : List (Touch E)) → redone {E = E} area (notes_of xs) ≡ area
notes_rest area [] = refl
notes_rest area (x ∷ xs) = notes_rest area xs

module _ {E P : Type 0} (k : Known E P) (l : IsLawful k) (r : Reading E P) (reads : ReadsUsed k) where
  still_placed : (one other : Tree P) → AgreeOnUsed one other → (xs : List (Touch E)) → Placed k one xs → Placed k other xs
  still_placed one other agree [] placed = tt
  still_placed one other agree (x ∷ xs) placed = (reads.placed one other agree x.entry x.leaf placed.0, still_placed one other agree xs placed.1)

  module _ (area : ℕ → P) (log : List (Record E P)) (is : IsLog k log) (good : AreGood k r area log) (next : ℕ) (now : ℕ → P)
      (same : (p : ℕ) → 1 ≤ p → p ≤ (analysis k log).used → now p ≡ redone area log p) where
    abbrev new : List (Record E P)
    new = renewed k next log

    abbrev one : Tree P
    one = tree_of k (redone area log) new

    abbrev other : Tree P
    other = tree_of k now new

    tree_is : one ≡ tree_of k area log
    tree_is = same_tree k l next area log is

    used_is : one.used ≡ (analysis k log).used
    used_is = ap (λ (t : Tree P). t.used) tree_is

    page_is : (p : ℕ) → 1 ≤ p → p ≤ (analysis k log).used → redone now new p ≡ redone area log p
    page_is p low high = ap (λ (pages : ℕ → P). pages p) (notes_rest now (analysis k log).touched) ∙ same p low high

    agree : AgreeOnUsed one other
    agree = record {
      counter = refl;
      used = refl;
      pages = λ p low high. page_is p low (omega (arith, used_is, high)) ∙ sym (ap (λ (pages : ℕ → P). pages p) (notes_rest (redone area log) (analysis k log).touched));
    }

    good_one : IsGood k one new
    good_one = renewed_good k l next area log is good.good

    latest_is : number_of k (all_records (found area log)) ≡ number_of k log
    latest_is = ap (number_of k) (append-nil log)

    number_is : number_of k new ≡ number_of k log
    number_is = same_number k l next area log is

    set_is : (e : E) → stands_for k now new e ≡ kept k (found area log) (number_of k new) e
    set_is e =
        ap (λ (live : Bool). by_mark (first_before k (counting any_number new) e new) live) (reads.live one other agree good_one.sound e)
        ∙ stands_alike k l next area log is e
        ∙ stands_as k l area log is e
        ∙ ap (λ n. set_of k n area log e) (sym number_is)
        ∙ ap (λ (rs : List (Record E P)). set_of k (number_of k new) area rs e) (sym (append-nil log))

    pub renewed_kept : StandsForKept k (found area log) now new
    renewed_kept = record {
      at_least = omega (arith, number_is);
      at_most = omega (arith, number_is, latest_is);
      same_set = set_is;
      is_log = renewed_is_log k l next area log is;
      good = record { sound = reads.sound one other agree good_one.sound; placed = still_placed one other agree (analysis k new).touched good_one.placed };
    }

    pub renewed_fit : PagesFit r other
    renewed_fit p low high = (let within : p ≤ (analysis k log).used = omega (arith, used_is, high) in subst (λ (x : P). r.fits p x) (sym (page_is p low within)) (good.fit p low within))

  -- An image that says what is known of the device, with the pages in use as the log leaves them and a log of one body that says the same.
  pub renewed_stands : (area : ℕ → P) (log : List (Record E P)) (next : ℕ) (image head : List ℕ) → IsLog k log → AreGood k r area log
      → ((p : ℕ) → 1 ≤ p → p ≤ (analysis k log).used → area_of r k.pages image p ≡ redone area log p)
      → head_in image ≡ k.head → open_bodies image ≡ head ∷ [] → HasSizes image → AreRecords r head (renewed k next log) → Stands k r (found area log) image
  renewed_stands area log next image head is good same says bodies sizes are = record {
    head = says;
    bodies = renewed k next log ∷ [];
    told = subst (λ (b : List (List ℕ)). AreBodies r b (renewed k next log ∷ [])) (sym bodies) (are, tt);
    undamaged = renewed_undamaged k l next area log is;
    sizes = sizes;
    stands = subst (λ (rs : List (Record E P)). StandsForKept k (found area log) (area_of r k.pages image) rs) (sym (append-nil (renewed k next log)))
        (renewed_kept area log is good next (area_of r k.pages image) same);
    fit = subst (λ (rs : List (Record E P)). PagesFit r (tree_of k (area_of r k.pages image) rs)) (sym (append-nil (renewed k next log)))
        (renewed_fit area log is good next (area_of r k.pages image) same);
  }
