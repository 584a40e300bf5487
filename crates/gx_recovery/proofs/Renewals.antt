-- The log that a checkpoint or an opening writes: it says the same, and stands for the same set.
use Rattle.std.proofs.Common.{◌≡◌, ℕ, Bool, true, not, ◌&&◌, List, [], ◌∷◌, ◌++◌, refl, ap, sym, ◌∙◌, subst, append_assoc}
use Rattle.std.specs.Prelude.{nat_le, length}
use Rattle.std.specs.List.{list_all}
use Rattle.std.specs.declared.cmp.Ordering.{Ordering}
use Rattle.std.specs.declared.cmp.Ordering.TheVariants.{Less, Equal, Greater}
use Rattle.std.specs.Ordering.{match_ordering, ordering_reverse}
use Rattle.std.proofs.Math.Path.{fun_ext}
use Rattle.std.proofs.Math.Bool.{and-true}
use Rattle.std.proofs.lemmas.List.{append-nil}
use Rattle.gx_recovery.specs.Known.{Known, IsLawful, Tree}
use Rattle.gx_recovery.specs.Records.{Record, Pages, Adjust, Write, Commit, End, Counters, Note, Touch, settled, any_number}
use Rattle.gx_recovery.specs.Analysis.{Analysis, unread, analysis, read, read_on, touch_cmp, touching, number_of}
use Rattle.gx_recovery.specs.Redo.{redone, tree_of}
use Rattle.gx_recovery.specs.Standing.{first_before, counting, by_mark, set_of, stands_for}
use Rattle.gx_recovery.specs.Damage.{is_transaction, is_page, touch_fits, apart, transactions, fits, follows, follow, may_follow, is_note, note_fits, is_head, IsLog}
use Rattle.gx_recovery.specs.declared.TheConstants.{TRANSACTIONS, TOUCHED}
use Rattle.gx_recovery.specs.Coming.{Placed, IsGood}
use Rattle.gx_recovery.specs.Logged.{latest, kept, IsHealthy}
use Rattle.gx_recovery.specs.Renewal.{notes_of, renewed, renewed_over}
use Rattle.gx_recovery.proofs.Tests.{and_first, and_second}
use Rattle.gx_recovery.proofs.Touches.{Before, InOrder, touch_total, lookup}
use Rattle.gx_recovery.proofs.Told.{Told}
use Rattle.gx_recovery.proofs.Logs.{and_all, told_log}
use Rattle.gx_recovery.proofs.States.{stands_as}

module _ {E P : Type 0} (k : Known E P) (l : IsLawful k) where
  behind_by : (n x : Touch E) (xs : List (Touch E)) (o : Ordering) → touch_cmp k n x ≡ o → o ≡ Greater → touching k n xs ≡ xs ++ n ∷ []
      → match_ordering o (n ∷ x ∷ xs) (record x { leaf = n.leaf } ∷ xs) (x ∷ touching k n xs) ≡ x ∷ (xs ++ n ∷ [])
  behind_by n x xs Less h is rest = cc
  behind_by n x xs Equal h is rest = cc
  behind_by n x xs Greater h is rest = ap (λ (ys : List (Touch E)). x ∷ ys) rest

  before_middle : (x n : Touch E) (xs rest : List (Touch E)) → Before k x (xs ++ n ∷ rest) → touch_cmp k x n ≡ Less
  before_middle x n [] rest b = b.0
  before_middle x n (y ∷ ys) rest b = before_middle x n ys rest b.1

  -- a touch that comes behind all others is put at the end
  touching_last : (n : Touch E) (xs rest : List (Touch E)) → InOrder k (xs ++ n ∷ rest) → touching k n xs ≡ xs ++ n ∷ []
  touching_last n [] rest o = refl
  touching_last n (x ∷ xs) rest o =
      behind_by n x xs (touch_cmp k n x) refl ((touch_total k l).antisymm n x ∙ ap ordering_reverse (before_middle x n xs rest o.0)) (touching_last n xs rest o.1)

  -- notes of touches in order, read, are those touches
  noted : (a : Analysis E) (ns : List (Touch E)) → InOrder k (a.touched ++ ns) → (read_on k a (notes_of ns)).touched ≡ a.touched ++ ns
  noted a [] o = sym (append-nil a.touched)
  noted a (n ∷ ns) o =
      let next : Analysis E = read k a (Note n.transaction n.entry n.before n.leaf) in
      let put : touching k n a.touched ≡ a.touched ++ n ∷ [] = touching_last n a.touched ns o in
      let grown : next.touched ++ ns ≡ a.touched ++ n ∷ ns = ap (λ (xs : List (Touch E)). xs ++ ns) put ∙ append_assoc a.touched (n ∷ []) ns in
      noted next ns (subst (InOrder k) (sym grown) o) ∙ grown

  same_numbers : (a : Analysis E) (ns : List (Touch E))
      → ((read_on k a (notes_of ns)).number ≡ a.number) × ((read_on k a (notes_of ns)).counter ≡ a.counter) × ((read_on k a (notes_of ns)).used ≡ a.used)
  same_numbers a [] = (refl, refl, refl)
  same_numbers a (n ∷ ns) = same_numbers (read k a (Note n.transaction n.entry n.before n.leaf)) ns

  all_notes : (ns : List (Touch E)) → list_all {X = Record E P} is_note (notes_of ns) ≡ true
  all_notes [] = refl
  all_notes (n ∷ ns) = all_notes ns

  pub touches_fit : (a : Analysis E) → fits k a ≡ true → list_all (touch_fits k a.used) a.touched ≡ true
  touches_fit a h =
      let rest : Bool = apart k a.touched && (nat_le (transactions a.touched) TRANSACTIONS && nat_le (length a.touched) TOUCHED) in
      and_first (list_all (touch_fits k a.used) a.touched) rest (and_second (nat_le a.used k.pages) (list_all (touch_fits k a.used) a.touched && rest) h)

  -- notes of touches that fit are on leaves that are in use
  notes_fit : (used : ℕ) (ns : List (Touch E)) → list_all (touch_fits k used) ns ≡ true → list_all {X = Record E P} (note_fits used) (notes_of ns) ≡ true
  notes_fit used [] h = refl
  notes_fit used (n ∷ ns) h =
      let first = and_first (touch_fits k used n) (list_all (touch_fits k used) ns) h in
      and_all (is_page used n.leaf) (list_all {X = Record E P} (note_fits used) (notes_of ns))
      (and_second (k.is_entry n.entry) (is_page used n.leaf) (and_second (is_transaction n.transaction) (k.is_entry n.entry && is_page used n.leaf) first))
      (notes_fit used ns (and_second (touch_fits k used n) (list_all (touch_fits k used) ns) h))

  no_pages : (area : ℕ → P) (ns : List (Touch E)) → redone {E = E} area (notes_of ns) ≡ area
  no_pages area [] = refl
  no_pages area (n ∷ ns) = no_pages area ns

  fits_on : (log rs : List (Record E P)) → fits k (analysis k log) ≡ true → follow k log rs ≡ true → fits k (analysis k (log ++ rs)) ≡ true
  fits_on log [] fit h = ap (λ x. fits k (analysis k x)) (append-nil log) ∙ fit
  fits_on log (r ∷ rs) fit h =
      ap (λ x. fits k (analysis k x)) (sym (append_assoc log (r ∷ []) rs))
      ∙ fits_on (log ++ r ∷ []) rs
      (and_second (may_follow k log (analysis k log) r) (fits k (analysis k (log ++ r ∷ []))) (and_first (follows k log r) (follow k (log ++ r ∷ []) rs) h))
      (and_second (follows k log r) (follow k (log ++ r ∷ []) rs) h)

  fits_head : (head : List (Record E P)) → is_head k head ≡ true → fits k (analysis k head) ≡ true
  fits_head [] h = cc
  fits_head (Counters number counter used next ∷ notes) h =
      let fit : Bool = fits k (analysis k (Counters number counter used next ∷ notes)) in
      and_second (list_all (note_fits used) notes) fit (and_second (list_all is_note notes) (list_all (note_fits used) notes && fit) h)
  fits_head (Pages images counter used ∷ rs) h = cc
  fits_head (Adjust page change ∷ rs) h = cc
  fits_head (Write transaction entry mark after leaf said ∷ rs) h = cc
  fits_head (Commit transaction number ∷ rs) h = cc
  fits_head (End transaction ∷ rs) h = cc
  fits_head (Note transaction entry mark leaf ∷ rs) h = cc

  -- what a log says fits
  pub log_fits : (log : List (Record E P)) → IsLog k log → fits k (analysis k log) ≡ true
  log_fits log is = ap (λ x. fits k (analysis k x)) is.parts ∙ fits_on is.head is.later (fits_head is.head is.begins) is.goes_on

  module _ (next : ℕ) (area : ℕ → P) (log : List (Record E P)) (is : IsLog k log) where
    told : Told k log
    told = told_log k l log is

    pub same_touched : (analysis k (renewed k next log)).touched ≡ (analysis k log).touched
    same_touched = noted (read k unread (Counters (analysis k log).number (analysis k log).counter (analysis k log).used next)) (analysis k log).touched told.in_order

    numbers : ((analysis k (renewed k next log)).number ≡ (analysis k log).number) × ((analysis k (renewed k next log)).counter ≡ (analysis k log).counter)
        × ((analysis k (renewed k next log)).used ≡ (analysis k log).used)
    numbers = same_numbers (read k unread (Counters (analysis k log).number (analysis k log).counter (analysis k log).used next)) (analysis k log).touched

    pub same_number : number_of k (renewed k next log) ≡ number_of k log
    same_number = numbers.0

    fits_still : fits k (analysis k (renewed k next log)) ≡ true
    fits_still =
        let told_of : ℕ → List (Touch E) → Analysis E = λ used touched. record { number = 0; counter = 0; used = used; next = 0; touched = touched } in
        ap (λ (u : ℕ). fits k (told_of u (analysis k (renewed k next log)).touched)) numbers.2
        ∙ ap (λ (xs : List (Touch E)). fits k (told_of (analysis k log).used xs)) same_touched ∙ log_fits log is

    pub renewed_is_head : is_head k (renewed k next log) ≡ true
    renewed_is_head =
        and_all (list_all {X = Record E P} is_note (notes_of (analysis k log).touched))
        (list_all {X = Record E P} (note_fits (analysis k log).used) (notes_of (analysis k log).touched) && fits k (analysis k (renewed k next log))) (all_notes (analysis k log).touched)
        (and_all (list_all {X = Record E P} (note_fits (analysis k log).used) (notes_of (analysis k log).touched)) (fits k (analysis k (renewed k next log)))
        (notes_fit (analysis k log).used (analysis k log).touched (touches_fit (analysis k log) (log_fits log is))) fits_still)

    pub renewed_is_log : IsLog k (renewed k next log)
    renewed_is_log = record { head = renewed k next log; later = []; parts = sym (append-nil (renewed k next log)); begins = renewed_is_head; goes_on = refl }

    -- over the pages after the log, the new log's tree is the old one's
    pub same_tree : tree_of k (redone area log) (renewed k next log) ≡ tree_of k area log
    same_tree =
        let whole : (ℕ → P) → ℕ → ℕ → Tree P = λ page counter used. record { page = page; counter = counter; used = used } in
        let new : Analysis E = analysis k (renewed k next log) in
        ap (λ (page : ℕ → P). whole page new.counter new.used) (no_pages (redone area log) (analysis k log).touched)
        ∙ ap (λ (n : ℕ). whole (redone area log) n new.used) numbers.1 ∙ ap (λ (n : ℕ). whole (redone area log) (analysis k log).counter n) numbers.2

    first_looked : (x : List (Record E P)) → Told k x → (e : E) → first_before k (counting any_number x) e x ≡ lookup k (λ u. true) e (analysis k x).touched
    first_looked x t e =
        ap (λ (c : ℕ → Bool). first_before k c e x) (fun_ext (λ u. sym (and-true (not (settled any_number u x))))) ∙ t.looked (λ u. true) e

    pub stands_alike : (e : E) → stands_for k (redone area log) (renewed k next log) e ≡ stands_for k area log e
    stands_alike e =
        ap (λ o. by_mark o (k.live (tree_of k (redone area log) (renewed k next log)) e))
        (first_looked (renewed k next log) (told_log k l (renewed k next log) renewed_is_log) e ∙ ap (lookup k (λ u. true) e) same_touched ∙ sym (first_looked log told e))
        ∙ ap (λ (t : Tree P). by_mark (first_before k (counting any_number log) e log) (k.live t e)) same_tree

    pub renewed_good : IsGood k (tree_of k area log) log → IsGood k (tree_of k (redone area log) (renewed k next log)) (renewed k next log)
    renewed_good good = record {
      sound = subst (λ (t : Tree P). k.sound t) (sym same_tree) good.sound;
      placed = subst (λ (t : Tree P). Placed k t (analysis k (renewed k next log)).touched) (sym same_tree)
          (subst (λ (xs : List (Touch E)). Placed k (tree_of k area log) xs) (sym same_touched) good.placed);
    }

    pub renewed_healthy : IsGood k (tree_of k area log) log → IsHealthy k (renewed_over k next area log)
    renewed_healthy good = record { gated = renewed_is_log; good = renewed_good good; coming = tt }

    pub renewed_latest : latest k (renewed_over k next area log) ≡ number_of k log
    renewed_latest = ap (number_of k) (append-nil (renewed k next log)) ∙ same_number

    -- its last set is what the old log stands for
    pub renewed_set : (e : E) → kept k (renewed_over k next area log) (number_of k log) e ≡ stands_for k area log e
    renewed_set e =
        ap (λ x. set_of k (number_of k log) (redone area log) x e) (append-nil (renewed k next log))
        ∙ ap (λ n. set_of k n (redone area log) (renewed k next log) e) (sym same_number)
        ∙ sym (stands_as k l (redone area log) (renewed k next log) renewed_is_log e) ∙ stands_alike e
