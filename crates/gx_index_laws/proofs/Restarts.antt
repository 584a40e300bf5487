-- A crash of a whole index and its opening: the kept set of the log's number is left, and the index is whole.
use Rattle.std.proofs.Common.{◌≡◌, ℕ, ◌+◌, ◌-◌, ◌<◌, ◌≤◌, Bool, true, false, List, [], ◌∷◌, length, replicate, refl, ap, sym, ◌∙◌, subst, arith, ltb-true, ltb-false}
use Rattle.std.specs.Prelude.{nat_lt, if◌then◌else◌, unwrap_or}
use Rattle.std.specs.List.{slice_index_or, list_any}
use Rattle.std.proofs.Math.Bool.{or-false}
use Rattle.gx_machine.specs.declared.limits.TheConstants.{SESSIONS}
use Rattle.gx_machine.specs.declared.entry.Entry.{Entry}
use Rattle.gx_machine.specs.Sets.{has, IsSetOf}
use Rattle.gx_machine.proofs.SetLaws.{entry_total, entry_exact}
use Rattle.gx_events.specs.Slots.{Slot, Free, noted_in}
use Rattle.gx_events.specs.Engines as engines
use Rattle.gx_events.specs.Engines.{Engine, SeenAs, last_number, stood, sessions_of, opened_machine}
use Rattle.gx_events.specs.Happenings.{Happening, Opens, IsHappening}
use Rattle.gx_events.specs.Runs.{AreHappenings}
use Rattle.gx_events.specs.Losers.{IsReopened}
use Rattle.gx_events.proofs.EventRuns.{run_follows}
use Rattle.gx_recovery.specs.Known as known
use Rattle.gx_recovery.specs.Known.{Known}
use Rattle.gx_recovery.specs.Records.{Record}
use Rattle.gx_recovery.specs.Analysis.{analysis, number_of}
use Rattle.gx_recovery.specs.Standing.{stands_for}
use Rattle.gx_recovery.specs.Logged.{latest, kept, IsLeft, StandsForKept}
use Rattle.gx_recovery.proofs.Lives.{left_stands}
use Rattle.gx_index_laws.specs.Classes.{Class, IsLawful, Page, known_of}
use Rattle.gx_index_laws.specs.States.{State, engine_of}
use Rattle.gx_index_laws.specs.Whole.{IsWhole}
use Rattle.gx_index_laws.specs.Happening.{Happens, AreHappening}
use Rattle.gx_index_laws.specs.Openings.{losers_of, found_state, is_fault, Try, GoesOpening, IsRestart, AreRestarts}
use Rattle.gx_index_laws.proofs.Keeping.{KeepsOne, goes_on, fails_by, one_left, found_keeps, all_may_come, no_faults}

at_last : (number oldest more last : ℕ) → nat_lt number (oldest + more) ≡ false → number ≤ oldest + more → oldest + more ≡ last → number ≡ last
at_last number oldest more last not_below up is =
    let low : oldest + more ≤ number = ltb-false number (oldest + more) not_below in omega (arith, low, up, is)

module _ {B : Type 0} (c : Class B) (l : IsLawful c) (old : State B) (w : IsWhole c old) where
  abbrev k : Known (Entry B) (Page B)
  k = known_of c

  abbrev engine : Engine B
  engine = engine_of c old

  kl : known.IsLawful k
  kl = record { total = entry_total c.keys l.keys; exact = entry_exact c.keys l.keys }

  kept_by : (number : ℕ) (b : Bool) → nat_lt number (last_number engine) ≡ b → old.oldest ≤ number → number ≤ last_number engine → (e : Entry B)
      → (if b then has c.keys e (slice_index_or old.older (number - old.oldest) []) else stood c.keys engine e) ≡ kept k old.log number e
  kept_by number true below low up e =
      let less : number < last_number engine = ltb-true number (last_number engine) below in
      let inside : number - old.oldest < length old.older = omega (arith, less, low) in
      let there : old.oldest + (number - old.oldest) ≡ number = omega (arith, low) in
      (w.sets.sets (number - old.oldest) inside).members e ∙ ap (λ n. kept k old.log n e) there
  kept_by number false below low up e =
      w.sets.stands e ∙ ap (λ n. kept k old.log n e) (sym (at_last number old.oldest (length old.older) (latest k old.log) below up w.sets.last))

  -- the engine's kept sets are the log's
  pub kept_alike : (number : ℕ) → old.oldest ≤ number → number ≤ last_number engine → (e : Entry B) → engines.kept c.keys number engine e ≡ kept k old.log number e
  kept_alike number low up e = kept_by number (nat_lt number (last_number engine)) refl low up e

  module _ (area : ℕ → Page B) (log : List (Record (Entry B) (Page B))) (left : IsLeft old.log area log) where
    stands : StandsForKept k old.log area log
    stands = left_stands k kl old.log w.healthy area log left

    rises : old.oldest ≤ number_of k log
    rises = let first = w.sets.first in let low = stands.at_least in omega (arith, first, low)

    sealed : number_of k log ≤ last_number engine
    sealed = let last = w.sets.last in let high = stands.at_most in omega (arith, last, high)

    -- what it stands for is the engine's kept set
    stands_kept : (e : Entry B) → stands_for k area log e ≡ engines.kept c.keys (number_of k log) engine e
    stands_kept e = stands.same_set e ∙ sym (kept_alike (number_of k log) rises sealed e)

    module _ (next : ℕ) (up : (analysis k log).next ≤ next) where
      abbrev start : State B
      start = found_state c next area log

      pub start_keeps : KeepsOne c (number_of k log) (stands_for k area log) start
      start_keeps = found_keeps c l next area log stands.is_log stands.good up

      -- it is opened over the kept set of the log's number, with those for losers whom the crash cut off
      pub is_reopened : IsReopened c.keys (number_of k log) (losers_of (analysis k log).touched) engine (engine_of c start)
      is_reopened = record {
        rises = rises;
        sealed = sealed;
        stands = λ e. start_keeps.stands e ∙ stands_kept e;
        slots = refl;
        older = refl;
        oldest = refl;
        failed = refl;
      }

module _ {B : Type 0} (c : Class B) where
  pub are_events : (events : List (Happening B)) (old new : State B) → AreHappening c old events new → AreHappenings c.keys (engine_of c old) events (engine_of c new)
  are_events [] old new are = ap (engine_of c) are
  are_events (event ∷ events) old new are = (engine_of c are.0, are.1.is_event, are_events events are.0 new are.2)

  pub whole_on : (events : List (Happening B)) (old new : State B) → IsWhole c old → AreHappening c old events new → IsWhole c new
  whole_on [] old new w are = subst (IsWhole c) (sym are) w
  whole_on (event ∷ events) old new w are = whole_on events are.0 new are.1.whole are.2

  -- if all slots are free, the committed set is what is live
  all_live : (s : State B) → s.slots ≡ replicate SESSIONS Free → (e : Entry B) → (engine_of c s).live e ≡ stood c.keys (engine_of c s) e
  all_live s free e = sym (ap (λ (slots : List (Slot B)). unwrap_or (noted_in c.keys e slots) ((engine_of c s).live e)) free)

  module _ (l : IsLawful c) where
    abbrev KeepsIts : Try B → State B → Type 0
    KeepsIts one s = KeepsOne c (number_of (known_of c) one.log) (stands_for (known_of c) one.area one.log) s

    -- An opening by itself, over any undamaged log.
    module _ (one : Try B) (s : State B) (o : GoesOpening c one s) where
      at_first : KeepsIts one (found_state c one.next one.area one.log)
      at_first = found_keeps c l one.next one.area one.log o.is_log o.good o.covers

      pub opening_keeps : KeepsIts one s
      opening_keeps =
          goes_on c l (number_of (known_of c) one.log) (stands_for (known_of c) one.area one.log) one.events
          (found_state c one.next one.area one.log) s at_first o.happening o.of_opening

      pub opening_leaves : (area : ℕ → Page B) (log : List (Record (Entry B) (Page B))) → IsLeft s.log area log
          → (number_of (known_of c) log ≡ number_of (known_of c) one.log)
          × ((e : Entry B) → stands_for (known_of c) area log e ≡ stands_for (known_of c) one.area one.log e)
      opening_leaves area log left = one_left c l (number_of (known_of c) one.log) (stands_for (known_of c) one.area one.log) s opening_keeps area log left

      failed_by : s.failed ≡ list_any is_fault one.events
      failed_by =
          fails_by c l (number_of (known_of c) one.log) (stands_for (known_of c) one.area one.log) one.events
          (found_state c one.next one.area one.log) s at_first o.happening o.of_opening ∙ or-false (list_any is_fault one.events)

      -- at its end it is seen as the machine with that one set
      pub opening_seen : (set : List (Entry B)) → IsSetOf c.keys (stands_for (known_of c) one.area one.log) set → s.slots ≡ replicate SESSIONS Free
          → SeenAs c.keys (engine_of c s) (record (opened_machine (number_of (known_of c) one.log) set) { failed = list_any is_fault one.events })
      opening_seen set is free = record {
        sessions = sym (ap (sessions_of c.keys (engine_of c s).live) free);
        latest = record { in_order = is.in_order; members = λ e. is.members e ∙ sym (opening_keeps.stands e) };
        older = sym opening_keeps.older;
        oldest = sym opening_keeps.oldest;
        failed = sym failed_by;
      }

    -- an opening over what a crash left is one
    pub restart_goes : (old : State B) (one : Try B) (new : State B) → IsWhole c old → IsRestart c old one new → GoesOpening c one new
    restart_goes old one new w r =
        let left : StandsForKept (known_of c) old.log one.area one.log = stands c l old w one.area one.log r.left in
        record { is_log = left.is_log; good = left.good; covers = r.covers; happening = r.happening; of_opening = all_may_come one.events r.of_opening }

    restart_keeps : (old : State B) (one : Try B) (new : State B) → IsWhole c old → IsRestart c old one new → KeepsIts one new
    restart_keeps old one new w r = opening_keeps one new (restart_goes old one new w r)

    restart_works : (old : State B) (one : Try B) (new : State B) → IsWhole c old → IsRestart c old one new → new.failed ≡ false
    restart_works old one new w r = failed_by one new (restart_goes old one new w r) ∙ no_faults one.events r.of_opening

    first_left : (tries : List (Try B)) (from : State B) (one : Try B) (new : State B) → AreRestarts c from one tries new → IsLeft from.log one.area one.log
    first_left [] from one new r = r.left
    first_left (again ∷ tries) from one new r = r.1.left

    -- and so do openings one after another: what a crash leaves of one stands for what the first one's log does
    tries_keep : (tries : List (Try B)) (from : State B) (one : Try B) (new : State B) → IsWhole c from → AreRestarts c from one tries new → KeepsIts one new
    tries_keep [] from one new w r = restart_keeps from one new w r
    tries_keep (again ∷ tries) from one new w r =
        let cut : KeepsIts one r.0 = restart_keeps from one r.0 w r.1 in
        let later : KeepsIts again new = tries_keep tries r.0 again new cut.whole r.2 in
        let same = one_left c l (number_of (known_of c) one.log) (stands_for (known_of c) one.area one.log) r.0 cut again.area again.log (first_left tries r.0 again new r.2) in
        record { whole = later.whole; older = later.older; oldest = later.oldest ∙ same.0; stands = λ e. later.stands e ∙ same.1 e }

    tries_work : (tries : List (Try B)) (from : State B) (one : Try B) (new : State B) → IsWhole c from → AreRestarts c from one tries new → new.failed ≡ false
    tries_work [] from one new w r = restart_works from one new w r
    tries_work (again ∷ tries) from one new w r = tries_work tries r.0 again new (restart_keeps from one r.0 w r.1).whole r.2

    module _ (old : State B) (w : IsWhole c old) (one : Try B) (tries : List (Try B)) (new : State B) (r : AreRestarts c old one tries new) where
      abbrev number : ℕ
      number = number_of (known_of c) one.log

      keeps : KeepsIts one new
      keeps = tries_keep tries old one new w r

      left : IsLeft old.log one.area one.log
      left = first_left tries old one new r

      -- openings keep the index whole at each moment
      pub restarts_whole : IsWhole c new
      restarts_whole = keeps.whole

      -- whatever a crash leaves in their midst stands for the very set that was left first
      pub restarts_stand : (area : ℕ → Page B) (log : List (Record (Entry B) (Page B))) → IsLeft new.log area log
          → (number_of (known_of c) log ≡ number) × ((e : Entry B) → stands_for (known_of c) area log e ≡ stands_for (known_of c) one.area one.log e)
      restarts_stand area log again = one_left c l number (stands_for (known_of c) one.area one.log) new keeps area log again

      module _ (free : new.slots ≡ replicate SESSIONS Free) where
        is_opened : IsHappening c.keys (engine_of c old) (Opens number) (engine_of c new)
        is_opened = record {
          rises = rises c l old w one.area one.log left;
          sealed = sealed c l old w one.area one.log left;
          live = λ e. all_live new free e ∙ keeps.stands e ∙ stands_kept c l old w one.area one.log left e;
          slots = free;
          older = keeps.older;
          oldest = keeps.oldest;
          failed = tries_work tries old one new w r;
        }

        -- once all that was cut off is undone, the whole of it is one opening, and a crash of the machine
        pub restarts_happen : Happens c old (Opens number) new
        restarts_happen = record {
          is_event = is_opened;
          steps = λ m seen. run_follows c.keys l.keys (Opens number ∷ []) (engine_of c old) (engine_of c new) m w.sound seen (engine_of c new, is_opened, refl);
          whole = restarts_whole;
        }
