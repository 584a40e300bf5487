-- What an opening's events leave of the set that was found.
use Rattle.std.proofs.Common.{◌≡◌, inl, inr, ℕ, ◌<◌, ◌≤◌, Bool, List, [], ◌∷◌, length, refl, ap, sym, ◌∙◌, subst, arith}
use Rattle.std.specs.Prelude.{◌^◌}
use Rattle.gx_record.specs.Writing.{write_record}
use Rattle.gx_glog.specs.declared.extent.TheConstants.{BODY_ROOM}
use Rattle.gx_geom.specs.declared.refusal.Refusal.{Refusal}
use Rattle.gx_geom.specs.declared.refusal.Refusal.TheVariants as refusal
use Rattle.gx_class.specs.Traits.{traits_of}
use Rattle.gx_class.specs.declared.class.KeyClass.{Ghosts}
use Rattle.gx_disk.specs.Device.{Device}
use Rattle.gx_disk.specs.Moments.{Leaves}
use Rattle.gx_disk.proofs.Leaving.{leaves_joined, leaves_weaker, nothing_leaves}
use Rattle.gx_durable.specs.Area.{area_of}
use Rattle.gx_durable.specs.Spelled.{Reading}
use Rattle.gx_durable.specs.Standing as durable
use Rattle.gx_engine.specs.States.{Parts}
use Rattle.gx_events.specs.declared.event.Event.{Event}
use Rattle.gx_events.specs.declared.outcome.Outcome.{Outcome}
use Rattle.gx_glog.specs.declared.parameters.Parameters.{Parameters}
use Rattle.gx_index_laws.specs.Classes.{Class, IsLawful, Page}
use Rattle.gx_index_laws.specs.States as index
use Rattle.gx_index_laws.proofs.Keeping.{KeepsOne}
use Rattle.gx_index_laws.proofs.Standing.{known_lawful}
use Rattle.gx_machine.specs.declared.entry.Entry.{Entry}
use Rattle.gx_machine.specs.Keys.{Members}
use Rattle.gx_node.specs.Reading.{Format, format_of}
use Rattle.gx_opening.specs.Standing.{known_for, limits_of, reading}
use Rattle.gx_durable.specs.Classes.{class_of}
use Rattle.gx_recovery.specs.Analysis.{number_of}
use Rattle.gx_recovery.specs.Damage.{IsLog, records_of}
use Rattle.gx_recovery.specs.Known.{Known}
use Rattle.gx_recovery.specs.Logged.{StandsForKept, kept as kept_set, latest}
use Rattle.gx_recovery.specs.Records.{Record}
use Rattle.gx_recovery.specs.Renewal.{found}
use Rattle.gx_recovery.specs.Standing.{stands_for}
use Rattle.gx_recovery.proofs.DamageItems.{bodies_log}
use Rattle.gx_recovery.proofs.Moves.{found_latest, found_set}
use Rattle.gx_engine.specs.Made.{AreMade, Makes}
use Rattle.gx_restart.specs.Beginning.{HasBegun, HasNotBegun, HoldsFound, IsGoodLog}
use Rattle.gx_restart.specs.Keeping.{StandsForFound}
use Rattle.gx_restart.specs.Undoing.{AreOfOpening, GoesBy, IsEndless, IsOfOpening, IsRefusedAt, OnlyUndoes, WhyStopped}
use Rattle.gx_engine.proofs.CallsEnd.{starts_end}
use Rattle.gx_phases.specs.declared.phase.Phase.TheVariants as phase
use Rattle.gx_index_laws.specs.Measures.{work_left}
use Rattle.gx_index_laws.specs.Whole.{IsWhole}
use Rattle.gx_events.specs.declared.event.Event.TheVariants.{Move}
use Rattle.gx_restart.proofs.Going.{goes_stays}
use Rattle.gx_restart.proofs.Runs.{all_undo, step_keeps, step_why}
use Rattle.gx_restart.proofs.Used.{event_used}

module _ {C B D : Type 0} (shape : Members B) (proper : B → Bool) (said : List ℕ → B) (class : Ghosts C B) (state : D → Device) (p : Parameters) (seen : List ℕ)
    (lc : IsLawful (class_of shape proper (limits_of p))) where
  abbrev makes : Parts B D → Event B → Outcome B → Parts B D → Type 0
  makes = Makes shape (traits_of proper said class) state

  abbrev at : Parts B D → Device
  at e = state e.volume.shelf.disk

  abbrev f : Format B
  f = format_of class

  abbrev c : Class B
  c = class_of shape proper (limits_of p)

  abbrev k : Known (Entry B) (Page B)
  k = known_for shape proper said f p

  abbrev r : Reading (Entry B) (Page B)
  r = reading shape proper said f

  abbrev Found : Type 0
  Found = IsGoodLog shape proper said f p seen

  abbrev Holds : Parts B D → Type 0
  Holds e = HoldsFound shape proper said f p seen (at e) e

  abbrev InSet : List ℕ → Type 0
  InSet = StandsForFound shape proper said f p seen

  abbrev log_of : Found → List (Record (Entry B) (Page B))
  log_of g = records_of g.log.bodies

  abbrev area : ℕ → Page B
  area = area_of r p.pages seen

  abbrev KeepsIt : Found → index.State B → Type 0
  KeepsIt g i = KeepsOne c (number_of k (log_of g)) (stands_for k area (log_of g)) i

  -- what stands for a kept set of an index that keeps just that one stands for it
  kept_so : (g : Found) (i : index.State B) → KeepsIt g i → (x : ℕ → Page B) (records : List (Record (Entry B) (Page B))) → StandsForKept k i.log x records
      → StandsForKept k (found area (log_of g)) x records
  kept_so g i keeps x records s =
      let log = log_of g in
      let is_log : IsLog k log = bodies_log k g.log.bodies g.log.undamaged in
      let none : length i.older ≡ 0 = ap length keeps.older in
      let first = keeps.whole.sets.first in
      let last = keeps.whole.sets.last in
      let low = s.at_least in
      let high = s.at_most in
      let there = keeps.oldest in
      let is_last : number_of k records ≡ latest k i.log = omega (arith, none, first, last, low, high) in
      let is_number : number_of k records ≡ number_of k log = omega (arith, none, last, is_last, there) in
      let up = found_latest k area log in
      record {
        at_least = omega (arith, is_number);
        at_most = omega (arith, is_number, up);
        same_set = λ e. s.same_set e ∙ ap (λ n. kept_set k i.log n e) is_last ∙ sym (keeps.whole.sets.stands e) ∙ keeps.stands e
            ∙ sym (found_set k area log (known_lawful c lc) is_log e) ∙ ap (λ n. kept_set k (found area log) n e) (sym is_number);
        is_log = s.is_log;
        good = s.good;
      }

  pub stands_so : (g : Found) (i : index.State B) → KeepsIt g i → (image : List ℕ) → durable.Stands k r i.log image → InSet image
  stands_so g i keeps image s = record {
    log = g.log;
    stands = record { head = s.head; bodies = s.bodies; told = s.told; undamaged = s.undamaged; sizes = s.sizes; stands = kept_so g i keeps (area_of r k.pages image) (records_of s.bodies) s.stands; fit = s.fit };
  }

  pub keeps_of : (e : Parts B D) (h : Holds e) → KeepsIt h.found h.index
  keeps_of e h = record { whole = h.holds.whole; older = h.set.older; oldest = h.set.oldest; stands = h.set.stands }

  -- one event
  one_holds : (event : Event B) (given : Outcome B) (old new : Parts B D) → IsOfOpening event → OnlyUndoes old → makes old event given new → Holds old → Holds new × Leaves InSet (at old) (at new)
  one_holds event given old new is undoes one h =
      let stepped = one.steps (limits_of p) h.bodies h.index h.holds in
      let was = keeps_of old h in
      let undo = all_undo h.index old.sessions.phases old.sessions.table h.holds.sessions.slots undoes in
      let keeps = step_keeps c lc (number_of k (log_of h.found)) (stands_for k area (log_of h.found)) event given stepped.events h.index stepped.led.index is undo was stepped.are
      stepped.led.happening in (
        record {
          found = h.found;
          bodies = stepped.led.bodies;
          index = stepped.led.index;
          holds = stepped.led.holds;
          set = record { older = keeps.older; oldest = keeps.oldest; stands = keeps.stands };
          used = event_used shape proper said class state (limits_of p) lc old new h.bodies h.index h.holds event given is undoes one ∙ h.used;
        },
        leaves_weaker (durable.Stands k r h.index.log) InSet (at old) (at new) (λ image stands. stands_so h.found h.index was image stands) stepped.led.leaves,
      )

  all_hold : (steps : List (Event B × Outcome B)) (old new : Parts B D) → AreOfOpening steps → OnlyUndoes old → AreMade makes old steps new → Holds old
      → Holds new × Leaves InSet (at old) (at new)
  all_hold [] old new are undoes made h =
      subst (λ (x : Parts B D). Holds x × Leaves InSet (at old) (at x)) (sym made) (h, nothing_leaves InSet (at old))
  all_hold (step ∷ steps) old new are undoes made h =
      let one = one_holds step.0 step.1 old made.0 are.0 undoes made.1 h in
      let stays = goes_stays shape proper said class state old made.0 undoes (record { steps = step ∷ []; of_opening = (are.0, tt); made = (made.0, made.1, refl) }) in
      let rest = all_hold steps made.0 new are.1 stays.undoes made.2 one.0 in
      (rest.0, leaves_joined InSet (at old) (at made.0) (at new) one.1 rest.1)

  -- events of an opening keep the set, and so does what a crash leaves
  pub goes_hold : (old new : Parts B D) → OnlyUndoes old → GoesBy makes old new → Holds old → HasBegun shape proper said f p seen (at old) (at new) new
  goes_hold old new undoes goes h =
      let all = all_hold goes.steps old new goes.of_opening undoes goes.made h in record { holds = all.0; leaves = all.1 }

  -- what refuses one of them is the device
  refused_why : (old new : Parts B D) (why : Refusal) → OnlyUndoes old → Holds old → IsRefusedAt makes old why new → why ≡ refusal.Device
  refused_why old new why undoes h at_last =
      let middle = at_last.middle in
      let there = goes_hold old middle undoes at_last.before h in
      let on = (goes_stays shape proper said class state old middle undoes at_last.before).undoes in
      let i = there.holds.index in
      let stepped = at_last.last_made.steps (limits_of p) there.holds.bodies i there.holds.holds in
      step_why c lc (number_of k (log_of h.found)) (stands_for k area (log_of h.found)) at_last.event at_last.outcome why stepped.events i stepped.led.index at_last.is
      (all_undo i middle.sessions.phases middle.sessions.table there.holds.holds.sessions.slots on) (there.holds.holds.sessions.failed ∙ at_last.works) stepped.are stepped.led.happening
      at_last.refused

  module _ (short : write_record class.KEY ≤ BODY_ROOM)
      (bounded : (c : Class B) → IsLawful c → (old : index.State B) → IsWhole c old → c.pages ≤ 65536 → c.rules.most ≤ 100 → (s : ℕ) → work_left c old s < 2 ^ 39) where
    -- a session's undo comes to its end
    never_endless : (old new : Parts B D) → OnlyUndoes old → Holds old → IsEndless makes old new → ⊥
    never_endless old new undoes h endless =
        let held = (goes_hold old endless.middle undoes endless.before h).holds in
        let few = starts_end shape proper said class state short (limits_of p) (λ some. lc) bounded endless.middle new endless.session 72057594037927936 (Move endless.session) endless.given_up.0
        held.bodies held.index held.holds refl
        endless.given_up.1 in
        let no : ⊥ = omega (arith, few) in no

    pub goes_stop : (old new : Parts B D) (why : Refusal) → OnlyUndoes old → GoesBy makes old new → WhyStopped makes old why new → Holds old
        → HasNotBegun shape proper said f p seen (at old) (at new) why
    goes_stop old new why undoes goes (inl refused) h = record { cause = inl (refused_why old new why undoes h refused); leaves = (goes_hold old new undoes goes h).leaves }
    goes_stop old new why undoes goes (inr endless) h = absurd (never_endless old new undoes h endless.1)
