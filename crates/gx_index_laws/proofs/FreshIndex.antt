-- A fresh index is whole.
use Rattle.std.proofs.Common.{◌≡◌, ℕ, ◌≤◌, true, false, ◌&&◌, [], refl, ap, sym, subst, arith, le-leb}
use Rattle.gx_machine.specs.declared.entry.Entry.{Entry}
use Rattle.gx_machine.specs.Machine.{fresh_machine}
use Rattle.gx_node.specs.Trees.{fresh_tree}
use Rattle.gx_node.proofs.Fresh.{fresh_legal}
use Rattle.gx_events.specs.Slots.{Slot, slot_at}
use Rattle.gx_events.specs.Engines.{Engine, SeenAs, IsSound, opened_engine}
use Rattle.gx_events.proofs.Places.{slot_free}
use Rattle.gx_events.proofs.Standing.{is_one}
use Rattle.gx_events.proofs.Views.{opened_sound, opened_seen}
use Rattle.gx_recovery.proofs.Tests.{clash}
use Rattle.gx_index_laws.specs.Classes.{Class, IsLawful, is_live}
use Rattle.gx_index_laws.specs.States.{engine_of, fresh_state}
use Rattle.gx_index_laws.specs.Working.{AreRestored}
use Rattle.gx_index_laws.specs.Whole.{is_busy, IsWhole}

module _ {B : Type 0} (c : Class B) (start : B) where
  nothing_live : (e : Entry B) → is_live c (fresh_tree start) e ≡ false
  unfolding is_live
  nothing_live e = refl

  as_opened : engine_of c (fresh_state start) ≡ opened_engine c.keys 0 []
  as_opened = is_one (engine_of c (fresh_state start)) (opened_engine c.keys 0 [])
      (record { live = nothing_live; slots = refl; older = refl; oldest = refl; failed = refl })

  pub fresh_seen : SeenAs c.keys (engine_of c (fresh_state start)) fresh_machine
  fresh_seen = subst (λ (e : Engine B). SeenAs c.keys e fresh_machine) (sym as_opened) (opened_seen c.keys 0 [] tt)

  none_busy : (a : ℕ) → is_busy (slot_at a (fresh_state start).slots) ≡ false
  none_busy a = ap is_busy (slot_free a)

  pub fresh_whole : IsLawful c → 2 ≤ c.pages → IsWhole c (fresh_state start)
  fresh_whole l room = record {
    healthy = record {
      gated = record { head = (fresh_state start).log.gated; later = []; parts = refl; begins = ap (λ b. b && true) (le-leb 2 c.pages room); goes_on = refl };
      good = record { sound = fresh_legal c.rules l.rules start; placed = tt };
      coming = tt;
    };
    sound = subst (IsSound c.keys) (sym as_opened) (opened_sound c.keys 0 []);
    few = omega arith;
    works = λ a. tt;
    restored = λ a. subst (λ (x : Slot B). AreRestored c.keys (engine_of c (fresh_state start)).live x []) (sym (slot_free a)) tt;
    tied = record {
      each = λ a busy. clash (is_busy (slot_at a (fresh_state start).slots)) busy (none_busy a);
      own = λ a b first second same. clash (is_busy (slot_at a (fresh_state start).slots)) first (none_busy a);
      had = λ t e open_yet touched. clash false touched refl;
    };
    next = omega arith;
    sets = record { first = refl; last = refl; sets = λ n low. absurd (omega (arith, low)); stands = λ e. refl };
    machine = fresh_machine;
    seen = fresh_seen;
  }
