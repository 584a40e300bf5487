-- That what an opened engine holds is what its device was verified for.
use Rattle.std.proofs.Common.{◌≡◌, ◌≢◌, inr, ℕ, ◌≤◌, Bool, List, length, refl, ap, sym, ◌∙◌, arith}
use Rattle.std.specs.Prelude.{nat_lt, replicate, unwrap_or, not, ◌&&◌, IfErr, Result, Ok, Err}
use Rattle.std.specs.List.{slice_index_or}
use Rattle.gx_geom.specs.declared.refusal.Refusal.{Refusal}
use Rattle.gx_geom.specs.declared.refusal.Refusal.TheVariants as refusal
use Rattle.gx_disk.specs.Device.{Device}
use Rattle.gx_durable.specs.Area.{area_of}
use Rattle.gx_events.specs.Engines.{stood}
use Rattle.gx_events.specs.Slots as slots
use Rattle.gx_events.specs.Slots.{Slot, noted_in}
use Rattle.gx_engine.specs.declared.start.NotOpened.{NotOpened}
use Rattle.gx_engine.specs.States.{Parts}
use Rattle.gx_index_laws.specs.Classes.{Class, IsLawful, is_live}
use Rattle.gx_index_laws.specs.States.{engine_of, tree_now}
use Rattle.gx_index_laws.proofs.Standing.{is_legal}
use Rattle.gx_machine.specs.declared.entry.Entry.{Entry}
use Rattle.gx_machine.specs.Keys.{Members}
use Rattle.gx_machine.proofs.SetsByTests.{set_of_a_test_that_agrees}
use Rattle.gx_node.specs.Reading.{Format}
use Rattle.gx_opening.specs.Formatted.{Counted}
use Rattle.gx_store.specs.Faults.{refusal_fails}
use Rattle.gx_opening.specs.Standing.{known_for, limits_of, reading}
use Rattle.gx_durable.specs.Classes.{class_of}
use Rattle.gx_recovery.specs.Damage.{records_of}
use Rattle.gx_recovery.specs.Known.{Limits}
use Rattle.gx_recovery.specs.Standing.{stands_for}
use Rattle.gx_node.specs.Trees.{Tree, is_entry, standing}
use Rattle.gx_restart.specs.Opened.{IsOpened}
use Rattle.gx_restart.specs.Sizes.{live_up_to}
use Rattle.gx_restart.specs.Undoing.{IsIdle}
use Rattle.gx_restart.specs.Verified.{IsUnverifiedCopy, IsVerified}
use Rattle.gx_restart.specs.declared.verification.Report.{Report}
use Rattle.gx_restart.proofs.Ends.{all_free, free_place}
use Rattle.gx_restart.proofs.verification.Sizes.{live_is_the_sets_size}

-- an entry is live if an unmarked pair of it exists
live_so : {B : Type 0} (c : Class B) (t : Tree B) (e : Entry B) → is_live c t e ≡ nat_lt 0 (standing (λ x. is_entry c.rules e.row e.key x && not x.marked) t)
unfolding is_live
live_so c t e = refl

module _ {B D : Type 0} (shape : Members B) (proper : B → Bool) (said : List ℕ → B) (f : Format B) (class : ℕ) (lawful : (l : Limits) → 4 ≤ l.most → IsLawful (class_of shape proper l))
    (d e : Device) (engine : Parts B D) (idle : IsIdle engine) (o : IsOpened shape proper said f class d e engine) where
  abbrev c : Class B
  c = class_of shape proper (limits_of o.parameters)

  lc : IsLawful c
  lc = lawful (limits_of o.parameters) o.holds.holds.some

  abbrev tree : Tree B
  tree = tree_now c o.holds.index

  free : o.holds.index.slots ≡ replicate 8 slots.Free
  free =
      all_free o.holds.index.slots 8 o.holds.holds.whole.sound.eight
      (λ i below. ap (λ (xs : List (Slot B)). slice_index_or xs i slots.Free) o.holds.holds.sessions.slots ∙ free_place engine.sessions.phases engine.sessions.table i (idle.free i below))

  -- if no session has a transaction, the committed set is what is live
  live_stands : (x : Entry B) → stood c.keys (engine_of c o.holds.index) x ≡ nat_lt 0 (standing (λ y. is_entry c.rules x.row x.key y && not y.marked) tree)
  live_stands x = ap (λ (xs : List (Slot B)). unwrap_or (noted_in c.keys x xs) (is_live c tree x)) free ∙ live_so c tree x

  pub opened_verified : (report : Report) → report.commits ≡ engine.sessions.latest → report.entries ≡ live_up_to tree.node tree.used → report.used ≡ engine.volume.shelf.used
      → IsVerified shape proper said f class d report
  opened_verified report commits entries used =
      let p = o.parameters in
      let h = o.holds in
      let whole = h.holds.whole in
      let log = records_of h.found.log.bodies in
      let set = whole.machine.latest in
      let none : length h.index.older ≡ 0 = ap length h.set.older in
      let last = whole.sets.last in
      let first = h.set.oldest in
      let number = h.holds.latest in
      let live = set_of_a_test_that_agrees c.keys lc.keys (stood c.keys (engine_of c h.index))
      (λ x. nat_lt 0 (standing (λ y. is_entry c.rules x.row x.key y && not y.marked) tree)) set live_stands whole.seen.latest in
      record {
        parameters = p;
        formatted = o.formatted;
        found = h.found;
        set = set;
        is = set_of_a_test_that_agrees c.keys lc.keys (stood c.keys (engine_of c h.index))
            (stands_for (known_for shape proper said f p) (area_of (reading shape proper said f) p.pages d.seen) log) set h.set.stands whole.seen.latest;
        commits = omega (arith, commits, number, last, none, first);
        entries = entries ∙ live_is_the_sets_size c.keys lc.keys c.rules lc.rules tree (is_legal c lc h.index whole) set live;
        used = used ∙ h.used;
      }

-- what is refused because there is no memory
module _ {T B D : Type 0} (shape : Members B) (proper : B → Bool) (said : List ℕ → B) (f : Format B) (class : ℕ) (d : Device) where
  pub memory_so : (result : Result T (NotOpened D)) → IfErr result (λ n. n.why ≡ refusal.Memory) → IfErr result (λ n. IsUnverifiedCopy shape proper said f class d n.why)
  memory_so (Ok x) is = tt
  memory_so (Err n) is = inr (inr (inr is))

pub memory_only : {T D : Type 0} (result : Result T (NotOpened D)) → IfErr result (λ n. n.why ≡ refusal.Memory) → IfErr result (λ n. n.why ≢ refusal.Device)
memory_only (Ok x) is = tt
memory_only (Err n) is = λ device. (let no : refusal.Memory ≡ refusal.Device = sym is ∙ device in cc)

pub never_damaged : {T D : Type 0} (P : NotOpened D → Type 0) (result : Result T (NotOpened D)) → IfErr result (λ n. n.why ≡ refusal.Memory)
    → IfErr result (λ n. n.why ≡ refusal.Damaged → P n)
never_damaged P (Ok x) is = tt
never_damaged P (Err n) is = λ damaged. (let no : refusal.Memory ≡ refusal.Damaged = sym is ∙ damaged in cc)

-- a call that makes no call of the device comes after one that counted right
none_of : (why : Refusal) → why ≢ refusal.Device → refusal_fails why ≡ 0
none_of refusal.Device other = absurd (other refl)
none_of other is = refl

module _ {T U : Type 0} (d e : Device) where
  -- a copy that was made, and another answer
  pub counted_then : (x : T) (y : U) → Counted 0 d e (Ok x) → Counted 0 d e (Ok y)
  counted_then x y counted = record { sectors = counted.sectors; honest = counted.honest; from = counted.from; to = counted.to; faults = counted.faults }

  -- or a refusal that isn't the device's
  pub refused_then : (x : T) (why : Refusal) → Counted 0 d e (Ok x) → why ≢ refusal.Device → Counted {T = U} 0 d e (Err why)
  refused_then x why counted other =
      let same = counted.faults in
      let none = none_of why other in
      record { sectors = counted.sectors; honest = counted.honest; from = counted.from; to = counted.to; faults = omega (arith, same, none) }

  pub counted_refused : (why : Refusal) → Counted {T = T} 0 d e (Err why) → Counted {T = U} 0 d e (Err why)
  counted_refused why counted = record { sectors = counted.sectors; honest = counted.honest; from = counted.from; to = counted.to; faults = counted.faults }
