-- The touches in the log of a whole index are what its sessions have noted, in the order of transactions.
use Rattle.std.proofs.Common.{◌≡◌, ◌∙◌, sym, ap, ℕ, ◌-◌, ◌≤◌, Bool, true, not, ◌&&◌, List, length}
use Rattle.std.specs.Prelude.{is_some, nat_le}
use Rattle.std.specs.List.{list_all}
use Rattle.std.proofs.lemmas.Bool.{leb-true}
use Rattle.gx_machine.specs.declared.entry.Entry.{Entry}
use Rattle.gx_machine.specs.Machine.{is_session}
use Rattle.gx_events.specs.Slots.{Slot, slot_at}
use Rattle.gx_recovery.specs.Known.{Known}
use Rattle.gx_recovery.specs.Records.{Record, Touch, settled, any_number}
use Rattle.gx_recovery.specs.Analysis.{analysis, lists}
use Rattle.gx_recovery.specs.Damage.{apart, fits, touch_fits, transactions}
use Rattle.gx_recovery.specs.Standing.{own_before}
use Rattle.gx_recovery.specs.declared.TheConstants.{TRANSACTIONS, TOUCHED}
use Rattle.gx_recovery.specs.Logged.{all_records}
use Rattle.gx_recovery.proofs.Logs.{untrue}
use Rattle.gx_recovery.proofs.Renewals.{log_fits}
use Rattle.gx_recovery.proofs.Tests.{and_first, and_second}
use Rattle.gx_index_laws.specs.Classes.{Class, IsLawful, Page, known_of}
use Rattle.gx_index_laws.specs.States as index
use Rattle.gx_index_laws.specs.Whole.{IsHad, IsWhole, is_busy}
use Rattle.gx_index_laws.proofs.Standing.{busy_session, is_log, known_lawful, tells}
use Rattle.gx_txn.specs.Tables.{Held}
use Rattle.gx_phases.specs.declared.phase.Phase.{Phase}
use Rattle.gx_phases.specs.declared.phase.Phase.TheVariants as phase
use Rattle.gx_phases.specs.Indexes.{AreOf}
use Rattle.gx_phases.specs.States.{State, IsKept, held_at, phase_at, slot_of}
use Rattle.gx_phases.proofs.Slots.{slot_here}
use Rattle.gx_engine.specs.Noted.{AreNoted, AreTold, HasIt, has_transaction}
use Rattle.gx_engine.proofs.Touched.{of_listed, order_is_turn}

-- a slot with a transaction is of a phase with one
busy_phase : {B W : Type 0} (p : Phase B W) (h : Held B) → is_busy (slot_of p h) ≡ true → has_transaction p ≡ true
busy_phase phase.Free h busy = busy
busy_phase phase.Working h busy = busy
busy_phase (phase.Open call work) h busy = busy
busy_phase (phase.Undoing restored work) h busy = busy
busy_phase (phase.Waiting number) h busy = busy

-- the touches in the log of a whole index are what its sessions have noted
module _ {B W : Type 0} (c : Class B) (l : IsLawful c) (i : index.State B) (w : IsWhole c i) (sessions : State B W) (kept : IsKept c.keys sessions) (of : AreOf sessions i) where
  abbrev k : Known (Entry B) (Page B)
  k = known_of c

  abbrev log : List (Record (Entry B) (Page B))
  log = all_records i.log

  abbrev xs : List (Touch (Entry B))
  xs = (analysis k log).touched

  has_it : (t : ℕ) → IsHad i t → (session : ℕ) × HasIt sessions t session
  has_it t had =
      let a : ℕ = had.session in
      let there : is_session a ≡ true = busy_session c l i w a had.busy in
      let slot : slot_at a i.slots ≡ slot_of (phase_at (a - 1) sessions.phases) (held_at (a - 1) sessions.table) =
      ap (λ (all : List (Slot B)). slot_at a all) of.slots ∙ slot_here a sessions.phases sessions.table there (kept.phases ∙ sym kept.table) in (
        a,
        record {
          is = there;
          busy = busy_phase (phase_at (a - 1) sessions.phases) (held_at (a - 1) sessions.table) (sym (ap is_busy slot) ∙ had.busy);
          its = sym (of.transactions a there) ∙ had.has;
        },
      )

  listed_had : (t : ℕ) (e : Entry B) → lists k t e xs ≡ true → (session : ℕ) × HasIt sessions t session
  listed_had t e listed =
      let both : (not (settled any_number t log) && is_some (own_before k t e log)) ≡ true = sym ((tells c l i w).listed t e) ∙ listed in
      has_it t (w.tied.had t e (untrue (settled any_number t log) (and_first (not (settled any_number t log)) (is_some (own_before k t e log)) both)) (and_second (not (settled any_number t log)) (is_some (own_before k t e log)) both))

  pub few : length xs ≤ 512
  few =
      let fit : fits k (analysis k log) ≡ true = log_fits k (known_lawful c l) log (is_log c l i w) in
      let used : ℕ = (analysis k log).used in
      let numbers : Bool = nat_le (transactions xs) TRANSACTIONS && nat_le (length xs) TOUCHED in
      let one = and_second (nat_le used k.pages) (nat_le_touches used) fit in
      let two = and_second (list_all_fit used) (apart k xs && numbers) one in
      let three = and_second (apart k xs) numbers two in
      leb-true (length xs) 512 (and_second (nat_le (transactions xs) TRANSACTIONS) (nat_le (length xs) TOUCHED) three)
    where
      list_all_fit : ℕ → Bool
      list_all_fit used = list_all (touch_fits k used) xs

      nat_le_touches : ℕ → Bool
      nat_le_touches used = list_all_fit used && (apart k xs && (nat_le (transactions xs) TRANSACTIONS && nat_le (length xs) TOUCHED))

  pub are_noted : AreTold sessions xs → AreNoted sessions xs
  are_noted told = record {
    in_turn = order_is_turn k xs (tells c l i w).in_order;
    had = of_listed k (known_lawful c l) (λ t. (session : ℕ) × HasIt sessions t session) xs listed_had;
    notes = told;
    few = few;
  }
