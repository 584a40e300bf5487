-- An index that is found is whole, over whatever log is undamaged and over pages that are good for it.
use Rattle.std.proofs.Common.{◌≡◌, ℕ, suc, ◌-◌, ◌<◌, ◌≤◌, Bool, true, false, not, ◌&&◌, inl, inr, List, [], ◌∷◌, length, Option, Some, None, refl, ap, sym, ◌∙◌, subst, arith}
use Rattle.std.specs.Prelude.{◌==◌, nat_le, is_some, option_map, unwrap_or}
use Rattle.std.specs.List.{list_any, list_all, slice_index_or}
use Rattle.std.proofs.lemmas.Bool.{eqb-true, leb-true}
use Rattle.std.proofs.lemmas.List.{append-nil}
use Rattle.std.proofs.Math.Path.{fun_ext}
use Rattle.gx_machine.specs.declared.entry.Entry.{Entry}
use Rattle.gx_machine.specs.Keys.{Keys, same_entry}
use Rattle.gx_machine.specs.Sets.{has, IsSetOf}
use Rattle.gx_machine.proofs.SetLaws.{entry_total, entry_exact}
use Rattle.gx_machine.proofs.SessionMoves.{same_itself}
use Rattle.gx_machine.proofs.Places.{session_bounds}
use Rattle.gx_events.specs.Slots.{Note, Slot, Undoing, notes_kept, slot_at, entries_of, noted}
use Rattle.gx_events.specs.Engines.{stood, SeenAs}
use Rattle.gx_events.specs.Losers.{loser_slot, loser_at, AreLosers, losing_machine}
use Rattle.gx_events.proofs.Places.{by_place}
use Rattle.gx_events.proofs.Reopened.{placed, loser_slot_at, reopened_sound, sessions_of_losers}
use Rattle.gx_recovery.specs.Known as known
use Rattle.gx_recovery.specs.Known.{Known, same}
use Rattle.gx_recovery.specs.Records.{Record, Touch, settled, any_number, names}
use Rattle.gx_recovery.specs.Analysis.{analysis, number_of, lists}
use Rattle.gx_recovery.specs.Redo.{redone, tree_of}
use Rattle.gx_recovery.specs.Standing.{first_before, own_before, by_mark, counting, stands_for}
use Rattle.gx_recovery.specs.Damage.{is_transaction, is_page, touch_fits, apart, transactions, fits, is_open, IsLog}
use Rattle.gx_recovery.specs.Coming.{IsGood}
use Rattle.gx_recovery.specs.Logged.{all_records, kept}
use Rattle.gx_recovery.specs.Renewal.{notes_of, renewed}
use Rattle.gx_recovery.proofs.Tests.{true_or_false, and_first, and_second, either_of}
use Rattle.gx_recovery.proofs.Logs.{untrue, and_all, told_log}
use Rattle.gx_recovery.proofs.Told.{Told}
use Rattle.gx_recovery.proofs.Renewals.{log_fits, touches_fit, same_tree, stands_alike}
use Rattle.gx_recovery.proofs.Moves.{found_as_state, found_latest, found_set}
use Rattle.gx_recovery.proofs.Numbers.{next_above}
use Rattle.gx_recovery.proofs.Unnamed.{unnamed_untouched, renewed_open, renewed_marks}
use Rattle.gx_index_laws.specs.Classes.{Class, IsLawful, Page, is_live, tree_in, known_of}
use Rattle.gx_index_laws.specs.States.{State, engine_of}
use Rattle.gx_index_laws.specs.Working.{AreRestored}
use Rattle.gx_index_laws.specs.Whole.{is_busy, HasTransaction, IsHad, KeepsSets, IsWhole}
use Rattle.gx_index_laws.specs.Openings.{numbers_of, notes_for, losers_of, found_state}
use Rattle.gx_index_laws.proofs.Numbered.{or_first, numbers_distinct, numbers_counted, one_place}
use Rattle.gx_index_laws.proofs.Undoing.{notes_of_loser, has_for, noted_for, IsOf, loser_is_of, listed_with, losers_apart, IsHeldBy, held_by, noted_as_first, claims_few}

busy_has : {B : Type 0} (keys : Keys B) (notes : List (Note B)) (e : Entry B) → has keys e (entries_of notes) ≡ true → is_busy (loser_slot notes) ≡ true
busy_has keys [] e h = let no : ⊥ = cc in absurd no
busy_has keys (n ∷ notes) e h = refl

-- a busy session has notes
record HasNote {B : Type 0} (keys : Keys B) (notes : List (Note B)) : Type 0 where
  entry : Entry B
  has_it : has keys entry (entries_of notes) ≡ true

restored_none : {B : Type 0} (keys : Keys B) (live : Entry B → Bool) (x : Slot B) → AreRestored keys live x []
restored_none keys live (Undoing locks notes) = λ e was h n. let no : ⊥ = cc in absurd no
restored_none keys live other = tt

by_some : (o : Option Bool) (live : Bool) → unwrap_or (option_map not o) live ≡ by_mark o live
by_some None live = refl
by_some (Some b) live = refl

module _ {B : Type 0} (c : Class B) (l : IsLawful c) (next : ℕ) (area : ℕ → Page B) (log : List (Record (Entry B) (Page B))) (is : IsLog (known_of c) log) where
  abbrev k : Known (Entry B) (Page B)
  k = known_of c

  kl : known.IsLawful k
  kl = record { total = entry_total c.keys l.keys; exact = entry_exact c.keys l.keys }

  abbrev xs : List (Touch (Entry B))
  xs = (analysis k log).touched

  abbrev ts : List ℕ
  ts = numbers_of xs

  abbrev start : State B
  start = found_state c next area log

  told : Told k log
  told = told_log k kl log is

  all_found : all_records start.log ≡ log
  all_found = append-nil log

  fit : fits k (analysis k log) ≡ true
  fit = log_fits k kl log is

  room : nat_le (transactions xs) 8 ≡ true
  room =
      let few : Bool = nat_le (transactions xs) 8 in
      let short : Bool = nat_le (length xs) 512 in
      let each : Bool = list_all (touch_fits k (analysis k log).used) xs in
      and_first few short (and_second (apart k xs) (few && short) (and_second each (apart k xs && (few && short)) (and_second (nat_le (analysis k log).used k.pages) (each && (apart k xs && (few && short))) fit)))

  short : nat_le (length xs) 512 ≡ true
  short =
      let few : Bool = nat_le (transactions xs) 8 in
      let less : Bool = nat_le (length xs) 512 in
      let each : Bool = list_all (touch_fits k (analysis k log).used) xs in
      and_second few less (and_second (apart k xs) (few && less) (and_second each (apart k xs && (few && less)) (and_second (nat_le (analysis k log).used k.pages) (each && (apart k xs && (few && less))) fit)))

  eight : length ts ≤ 8
  eight = let counted = numbers_counted xs in let below : transactions xs ≤ 8 = leb-true (transactions xs) 8 room in omega (arith, counted, below)

  pub are : AreLosers c.keys (losers_of xs)
  are = losers_apart c.keys k refl xs told.apart eight

  -- what each session has
  at : (a : ℕ) → slot_at a start.slots ≡ loser_slot (loser_at a (losers_of xs))
  at a = loser_slot_at a (losers_of xs)

  notes_at : (a : ℕ) → notes_kept (slot_at a start.slots) ≡ loser_at a (losers_of xs)
  notes_at a = ap notes_kept (at a) ∙ notes_of_loser (loser_at a (losers_of xs))

  busy_note : (notes : List (Note B)) → is_busy (loser_slot notes) ≡ true → HasNote c.keys notes
  busy_note [] h = let no : ⊥ = cc in absurd no
  busy_note (n ∷ notes) h = record { entry = n.entry; has_it = or_first (same_entry c.keys n.entry n.entry) (has c.keys n.entry (entries_of notes)) (same_itself c.keys l.keys n.entry) }

  -- what an open transaction has touched is what the log says of it
  open_of : (t : ℕ) (e : Entry B) → lists k t e xs ≡ true → settled any_number t log ≡ false
  open_of t e listed =
      untrue (settled any_number t log) (and_first (not (settled any_number t log)) (is_some (own_before k t e log)) (sym (told.listed t e) ∙ listed))

  touched_of : (t : ℕ) (e : Entry B) → lists k t e xs ≡ true → is_some (own_before k t e log) ≡ true
  touched_of t e listed = and_second (not (settled any_number t log)) (is_some (own_before k t e log)) (sym (told.listed t e) ∙ listed)

  -- a busy session undoes a transaction, which has touched this
  record IsUndone (a : ℕ) : Type 0 where
    of : IsOf c.keys k refl xs told.apart eight a
    entry : Entry B
    listed : lists k (start.transaction a) entry xs ≡ true

  busy_of : (a : ℕ) → is_busy (slot_at a start.slots) ≡ true → IsUndone a
  busy_of a busy =
      let some : HasNote c.keys (loser_at a (losers_of xs)) = busy_note (loser_at a (losers_of xs)) (ap is_busy (sym (at a)) ∙ busy) in
      let of : IsOf c.keys k refl xs told.apart eight a = loser_is_of c.keys k refl xs told.apart eight a some.entry some.has_it in
      record { of = of; entry = some.entry; listed = listed_with c.keys k refl xs told.apart eight a some.entry of some.has_it }

  touched_fits : (t : ℕ) (e : Entry B) (used : ℕ) (ys : List (Touch (Entry B))) → list_all (touch_fits k used) ys ≡ true → lists k t e ys ≡ true → is_transaction t ≡ true
  touched_fits t e used [] all h = cc
  touched_fits t e used (y ∷ ys) all h =
      elim (either_of (y.transaction == t && same k e y.entry) (lists k t e ys) h) [
        | inl here ↦
            subst (λ u. is_transaction u ≡ true) (eqb-true y.transaction t (and_first (y.transaction == t) (same k e y.entry) here))
            (and_first (is_transaction y.transaction) (k.is_entry y.entry && is_page used y.leaf) (and_first (touch_fits k used y) (list_all (touch_fits k used) ys) all))
        | inr later ↦ touched_fits t e used ys (and_second (touch_fits k used y) (list_all (touch_fits k used) ys) all) later
      ]

  named : (t : ℕ) (e : Entry B) → is_some (own_before k t e log) ≡ true → list_any (names t) log ≡ true
  named t e some =
      elim (true_or_false (list_any (names t) log)) [
        | inl is ↦ is
        | inr none ↦ (let no : true ≡ false = sym some ∙ ap is_some (unnamed_untouched k t e log none) in cc)
      ]

  abbrev anew : List (Record (Entry B) (Page B))
  anew = renewed k next log

  -- all that the log renewed has is open
  first_all : (e : Entry B) → first_before k (counting any_number anew) e anew ≡ first_before k (λ u. true) e (notes_of xs)
  first_all e = ap (λ (f : ℕ → Bool). first_before k f e anew) (fun_ext (λ t. ap not (renewed_open k next t log)))

  -- the tree is that of the pages after the log, under the log renewed
  same_live : (e : Entry B) → (engine_of c start).live e ≡ is_live c (tree_in (tree_of k (redone area log) anew)) e
  same_live e =
      ap (λ (x : List (Record (Entry B) (Page B))). is_live c (tree_in (tree_of k area x)) e) all_found
      ∙ ap (λ t. is_live c (tree_in t) e) (sym (same_tree k kl next area log is))

  -- the committed set is what the log stands for
  pub found_stood : (e : Entry B) → stood c.keys (engine_of c start) e ≡ stands_for k area log e
  found_stood e =
      ap (λ o. unwrap_or o ((engine_of c start).live e)) (noted_as_first c.keys k refl xs told.apart eight e)
      ∙ by_some (first_before k (λ u. true) e (notes_of xs)) ((engine_of c start).live e)
      ∙ ap (λ o. by_mark o ((engine_of c start).live e)) (sym (first_all e))
      ∙ ap (by_mark (first_before k (counting any_number anew) e anew)) (same_live e)
      ∙ stands_alike k kl next area log is e

  module _ (set : List (Entry B)) (stands : IsSetOf c.keys (stands_for k area log) set) where
    pub found_seen : SeenAs c.keys (engine_of c start) (losing_machine (number_of k log) set (losers_of xs))
    found_seen = record {
      sessions = sym (sessions_of_losers c.keys (engine_of c start).live (losers_of xs));
      latest = record { in_order = stands.in_order; members = λ e. stands.members e ∙ sym (found_stood e) };
      older = refl;
      oldest = refl;
      failed = refl;
    }

  module _ (up : (analysis k log).next ≤ next) where
    each : (a : ℕ) → is_busy (slot_at a start.slots) ≡ true → HasTransaction c start a
    each a busy =
        let undone : IsUndone a = busy_of a busy in
        let t : ℕ = start.transaction a in
        let open_yet : settled any_number t log ≡ false = open_of t undone.entry undone.listed in
        let below : t < (analysis k log).next = next_above k kl log is t (named t undone.entry (touched_of t undone.entry undone.listed)) in
        record {
          open_yet =
              subst (λ (x : List (Record (Entry B) (Page B))). is_open t x ≡ true) (sym all_found)
              (and_all (is_transaction t) (not (settled any_number t log))
              (touched_fits t undone.entry (analysis k log).used xs (touches_fit k kl (analysis k log) fit) undone.listed) (ap not open_yet));
          below = omega (arith, below, up);
          notes = λ e.
              ap (noted c.keys e) (notes_at a ∙ undone.of.notes) ∙ noted_for c.keys k refl e t xs
              ∙ ap (option_map not) (renewed_marks k kl next area log is t e open_yet)
              ∙ ap (λ (x : List (Record (Entry B) (Page B))). option_map not (own_before k t e x)) (sym all_found);
        }

    own : (a b : ℕ) → is_busy (slot_at a start.slots) ≡ true → is_busy (slot_at b start.slots) ≡ true → start.transaction a ≡ start.transaction b → a ≡ b
    own a b first second same =
        let p : IsOf c.keys k refl xs told.apart eight a = (busy_of a first).of in
        let q : IsOf c.keys k refl xs told.apart eight b = (busy_of b second).of in
        let places : a - 1 ≡ b - 1 = one_place ts (a - 1) (b - 1) (numbers_distinct xs) p.low q.low same in
        let here = session_bounds a p.there in
        let there = session_bounds b q.there in
        omega (arith, places, here.0, here.1, there.0, there.1)

    had : (t : ℕ) (e : Entry B) → settled any_number t (all_records start.log) ≡ false → is_some (own_before k t e (all_records start.log)) ≡ true → IsHad start t
    had t e open_yet some =
        let listed : lists k t e xs ≡ true =
        told.listed t e
        ∙ and_all (not (settled any_number t log)) (is_some (own_before k t e log)) (ap not (ap (settled any_number t) (sym all_found) ∙ open_yet))
        (ap (λ (x : List (Record (Entry B) (Page B))). is_some (own_before k t e x)) (sym all_found) ∙ some) in
        let held : IsHeldBy c.keys k refl xs told.apart eight t = held_by c.keys k refl xs told.apart eight t e listed in
        let back : suc held.place - 1 ≡ held.place = omega arith in
        let slot : slot_at (suc held.place) start.slots ≡ loser_slot (notes_for xs t) =
        by_place held.place start.slots held.below ∙ placed (losers_of xs) held.place ∙ ap loser_slot held.notes in
        record {
          session = suc held.place;
          busy = ap is_busy slot ∙ busy_has c.keys (notes_for xs t) e (has_for c.keys k refl e t xs ∙ listed);
          has = ap (λ i. slice_index_or ts i 0) back ∙ held.number;
        }

    sets : KeepsSets c start
    sets = record {
      first = refl;
      last = (let last = found_latest k area log in omega (arith, last));
      sets = λ n low. absurd (omega (arith, low));
      stands = λ e. found_stood e ∙ sym (found_set k area log kl is e) ∙ ap (λ n. kept k start.log n e) (sym (found_latest k area log));
    }

    module _ (good : IsGood k (tree_of k area log) log) (set : List (Entry B)) (stands : IsSetOf c.keys (stands_for k area log) set) where
      pub found_whole : IsWhole c start
      found_whole = record {
        healthy = found_as_state k area log is good;
        sound = reopened_sound c.keys (losers_of xs) (engine_of c start) are refl refl;
        few = (let claims = claims_few c.keys k refl xs told.apart eight in let less : length xs ≤ 512 = leb-true (length xs) 512 short in omega (arith, claims, less));
        works = λ a. tt;
        restored = λ a. restored_none c.keys (engine_of c start).live (slot_at a start.slots);
        tied = record { each = each; own = own; had = had };
        next = subst (λ (x : List (Record (Entry B) (Page B))). (analysis k x).next ≤ next) (sym all_found) up;
        sets = sets;
        machine = losing_machine (number_of k log) set (losers_of xs);
        seen = found_seen set stands;
      }
