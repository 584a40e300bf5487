-- What follows of a whole index: of its log, its tree, and what open transactions have touched.
use Rattle.std.proofs.Common.{◌≡◌, ℕ, zero, suc, ◌-◌, Bool, true, false, not, cond, ◌&&◌, ◌||◌, List, [], ◌∷◌, ◌++◌, Option, Some, None, refl, ap, sym, ◌∙◌, append_assoc}
use Rattle.std.specs.Prelude.{is_some, option_map, ◌==◌, if◌then◌else◌}
use Rattle.std.specs.List.{slice_index_or}
use Rattle.std.proofs.Math.Decide.{ℕ_discrete}
use Rattle.gx_machine.specs.declared.entry.Entry.{Entry}
use Rattle.gx_machine.specs.Sets.{has}
use Rattle.gx_machine.specs.Machine.{is_session}
use Rattle.gx_machine.proofs.SetLaws.{entry_total, entry_exact}
use Rattle.gx_node.specs.Lists.{Each}
use Rattle.gx_node.specs.Legal.{Legal}
use Rattle.gx_node.specs.Steps.{Step, IsStep, LeavesAlone}
use Rattle.gx_node.proofs.SeekSteps.{seek_step}
use Rattle.gx_events.specs.Slots.{Slot, Free, locks_held, notes_kept, slot_at}
use Rattle.gx_events.specs.Wants.{is_claimed}
use Rattle.gx_events.proofs.Noted.{noted_has}
use Rattle.gx_events.proofs.Places.{is_there}
use Rattle.gx_events.proofs.Locking.{noted_is_claimed, claim_bars, not_claimed_elsewhere}
use Rattle.gx_recovery.specs.Known as known
use Rattle.gx_recovery.specs.Known.{Known, same}
use Rattle.gx_recovery.specs.Records.{Record, Touch, settled, any_number}
use Rattle.gx_recovery.specs.Analysis.{analysis, lists}
use Rattle.gx_recovery.specs.Redo.{tree_of}
use Rattle.gx_recovery.specs.Standing.{own_before}
use Rattle.gx_recovery.specs.Damage.{IsLog}
use Rattle.gx_recovery.specs.Coming.{Placed, IsGood, beside}
use Rattle.gx_recovery.specs.Logged.{Logged, all_records, appended}
use Rattle.gx_recovery.proofs.Tests.{and_first, and_second, or_second, itself}
use Rattle.gx_recovery.proofs.Logs.{untrue, told_log}
use Rattle.gx_recovery.proofs.States.{coming_good}
use Rattle.gx_recovery.proofs.Lives.{whole_log}
use Rattle.gx_recovery.proofs.Touches.{same_itself}
use Rattle.gx_recovery.proofs.Told.{Told}
use Rattle.gx_index_laws.specs.Classes.{Class, IsLawful, Page, is_of, tree_in, known_of}
use Rattle.gx_index_laws.specs.States.{State, tree_now, engine_of}
use Rattle.gx_index_laws.specs.Whole.{is_busy, IsHad, IsWhole}
use Rattle.gx_index_laws.proofs.Tools.{not_true}
use Rattle.gx_index_laws.proofs.Room.{IsClaimed}

-- the records with one more
pub grown : {E P : Type 0} (r : Record E P) (s : Logged E P) → all_records (appended r s) ≡ all_records s ++ r ∷ []
grown r s = ap (λ x. s.gated ++ x) (sym (append_assoc s.flight s.filling (r ∷ []))) ∙ sym (append_assoc s.gated (s.flight ++ s.filling) (r ∷ []))

-- a property of all that are listed, by transaction and entry
pub each_listed : {E P : Type 0} (k : Known E P) (l : known.IsLawful k) (Q : Touch E → Type 0) (xs : List (Touch E))
    → ((x : Touch E) → lists k x.transaction x.entry xs ≡ true → Q x) → Each Q xs
each_listed k l Q [] all = tt
each_listed k l Q (x ∷ xs) all =
    let here : (x.transaction == x.transaction && same k x.entry x.entry) ≡ true =
    ap (λ b. b && same k x.entry x.entry) (itself x.transaction) ∙ same_itself k l x.entry in (
      all x (ap (λ b. b || lists k x.transaction x.entry xs) here),
      each_listed k l Q xs (λ y listed. all y (or_second (x.transaction == y.transaction && same k y.entry x.entry) (lists k y.transaction y.entry xs) listed)),
    )

pub some_mapped : (o : Option Bool) → is_some (option_map not o) ≡ is_some o
some_mapped None = refl
some_mapped (Some b) = refl

busy_there : {B : Type 0} (x : Slot B) → is_busy x ≡ true → x ≡ Free → ⊥
busy_there x busy is = not_true (is_busy x) busy (ap is_busy is)

module _ {B : Type 0} (c : Class B) where
  claimed_place : (e : Entry B) (i : ℕ) (slots : List (Slot B)) → has c.keys e (locks_held (slice_index_or slots i Free)).claims ≡ true → is_claimed c.keys e slots ≡ true
  claimed_place e i [] h = let no : ⊥ = cc in absurd no
  claimed_place e zero (slot ∷ slots) h = ap (λ b. b || is_claimed c.keys e slots) h
  claimed_place e (suc i) (slot ∷ slots) h = or_second (has c.keys e (locks_held slot).claims) (is_claimed c.keys e slots) (claimed_place e i slots h)

  claimed_by : (e : Entry B) (s : ℕ) (slots : List (Slot B)) (there : Bool)
      → has c.keys e (locks_held (if there then slice_index_or slots (s - 1) Free else Free)).claims ≡ true → is_claimed c.keys e slots ≡ true
  claimed_by e s slots true h = claimed_place e (s - 1) slots h
  claimed_by e s slots false h = let no : ⊥ = cc in absurd no

  -- what a session claims is claimed
  pub claimed_somewhere : (e : Entry B) (s : ℕ) (slots : List (Slot B)) → has c.keys e (locks_held (slot_at s slots)).claims ≡ true → is_claimed c.keys e slots ≡ true
  claimed_somewhere e s slots h = claimed_by e s slots (is_session s) h

  module _ (l : IsLawful c) where
    -- what is known is lawful
    pub known_lawful : known.IsLawful (known_of c)
    known_lawful = record { total = entry_total c.keys l.keys; exact = entry_exact c.keys l.keys }

    -- what is touched is placed after a step that leaves it alone
    pub placed_kept : (old new : known.Tree (Page B)) (step : Step B) (xs : List (Touch (Entry B))) → Legal c.rules (tree_in old) → IsStep c.rules (tree_in old) step (tree_in new)
        → Each (λ x. LeavesAlone c.rules (is_of c x.entry) step) xs → Placed (known_of c) old xs → Placed (known_of c) new xs
    placed_kept old new step [] legal is alone placed = tt
    placed_kept old new step (x ∷ xs) legal is alone placed = (
      seek_step c.rules x.leaf x.entry.row x.entry.key l.rules (tree_in old) (tree_in new) step legal is alone.0 placed.0,
      placed_kept old new step xs legal is alone.1 placed.1,
    )

    beside_by : (old new : known.Tree (Page B)) (step : Step B) (e : Entry B) (x : Touch (Entry B)) (xs : List (Touch (Entry B))) (s : Bool) → same (known_of c) x.entry e ≡ s
        → Legal c.rules (tree_in old) → IsStep c.rules (tree_in old) step (tree_in new)
        → (s ≡ false → LeavesAlone c.rules (is_of c x.entry) step) → Placed (known_of c) old (x ∷ xs) → Placed (known_of c) new (beside (known_of c) e xs)
        → Placed (known_of c) new (cond (not s) (x ∷ beside (known_of c) e xs) (beside (known_of c) e xs))
    beside_by old new step e x xs true at legal is alone placed rest = rest
    beside_by old new step e x xs false at legal is alone placed rest =
        (seek_step c.rules x.leaf x.entry.row x.entry.key l.rules (tree_in old) (tree_in new) step legal is (alone refl) placed.0, rest)

    -- the same, of what is touched beside an entry
    pub beside_kept : (old new : known.Tree (Page B)) (step : Step B) (e : Entry B) (xs : List (Touch (Entry B))) → Legal c.rules (tree_in old)
        → IsStep c.rules (tree_in old) step (tree_in new)
        → ((x : Touch (Entry B)) → same (known_of c) x.entry e ≡ false → LeavesAlone c.rules (is_of c x.entry) step)
        → Placed (known_of c) old xs → Placed (known_of c) new (beside (known_of c) e xs)
    beside_kept old new step e [] legal is alone placed = tt
    beside_kept old new step e (x ∷ xs) legal is alone placed =
        beside_by old new step e x xs (same (known_of c) x.entry e) refl legal is (alone x) placed (beside_kept old new step e xs legal is alone placed.1)

    module _ (old : State B) (w : IsWhole c old) where
      abbrev k : Known (Entry B) (Page B)
      k = known_of c

      abbrev log : List (Record (Entry B) (Page B))
      log = all_records old.log

      -- the records are a log, over a tree that is good for it
      pub is_log : IsLog k log
      is_log = whole_log k known_lawful old.log w.healthy

      pub is_good : IsGood k (tree_of k old.log.area log) log
      is_good = coming_good k known_lawful old.log.area old.log.gated (old.log.flight ++ old.log.filling) w.healthy.good w.healthy.coming

      pub is_legal : Legal c.rules (tree_now c old)
      is_legal = is_good.sound

      pub tells : Told k log
      tells = told_log k known_lawful log is_log

      -- a session with a transaction is one of the eight
      pub busy_session : (a : ℕ) → is_busy (slot_at a old.slots) ≡ true → is_session a ≡ true
      busy_session a busy = is_there a old.slots (busy_there (slot_at a old.slots) busy)

      -- what is touched is claimed by the session that has the transaction
      pub record Holds (t : ℕ) (e : Entry B) : Type 0 where
        pub had : IsHad old t
        pub claimed : has c.keys e (locks_held (slot_at had.session old.slots)).claims ≡ true

      -- what a session's own transaction has touched, it has noted and claims
      pub own_claimed : (a : ℕ) → is_busy (slot_at a old.slots) ≡ true → (e : Entry B) → is_some (own_before k (old.transaction a) e log) ≡ true
          → has c.keys e (locks_held (slot_at a old.slots)).claims ≡ true
      own_claimed a busy e some =
          noted_is_claimed c.keys l.keys (slot_at a old.slots) (w.sound.holds a) e
          (sym (noted_has c.keys e (notes_kept (slot_at a old.slots))) ∙ ap is_some ((w.tied.each a busy).notes e) ∙ some_mapped (own_before k (old.transaction a) e log) ∙ some)

      pub touched_is_held : (t : ℕ) (e : Entry B) → lists k t e (analysis k log).touched ≡ true → Holds t e
      touched_is_held t e listed =
          let both : (not (settled any_number t log) && is_some (own_before k t e log)) ≡ true = sym (tells.listed t e) ∙ listed in
          let some : is_some (own_before k t e log) ≡ true = and_second (not (settled any_number t log)) (is_some (own_before k t e log)) both in
          let had : IsHad old t = w.tied.had t e (untrue (settled any_number t log) (and_first (not (settled any_number t log)) (is_some (own_before k t e log)) both)) some in
          record { had = had; claimed = own_claimed had.session had.busy e (ap (λ u. is_some (own_before k u e log)) had.has ∙ some) }

      -- of two sessions that claim an entry, each is the other
      pub one_claims : (a b : ℕ) (e : Entry B) → has c.keys e (locks_held (slot_at a old.slots)).claims ≡ true
          → has c.keys e (locks_held (slot_at b old.slots)).claims ≡ true → a ≡ b
      one_claims a b e first second =
          elim (ℕ_discrete a b) [
            | yes same ↦ same
            | no ne ↦ not_true (has c.keys e (locks_held (slot_at b old.slots)).claims) second
                (not_claimed_elsewhere c.keys l.keys (engine_of c old) w.sound a b ne e (claim_bars c.keys l.keys (engine_of c old) w.sound a e first))
          ]

      pub touch_is_claimed : (x : Touch (Entry B)) → lists k x.transaction x.entry (analysis k log).touched ≡ true → IsClaimed k known_lawful old.transaction old.slots x
      touch_is_claimed x listed =
          let h : Holds x.transaction x.entry = touched_is_held x.transaction x.entry listed in
          record { session = h.had.session; there = busy_session h.had.session h.had.busy; number = h.had.has; claimed = h.claimed }
