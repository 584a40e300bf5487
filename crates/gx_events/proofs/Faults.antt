-- Asks, faults and openings are steps of the machine; and so is each event.
use Rattle.std.proofs.Common.{◌≡◌, ℕ, zero, suc, ◌+◌, ◌-◌, ◌<◌, ◌≤◌, Bool, true, false, List, [], ◌∷◌, ◌++◌, Some, None, length, map, refl, ap, sym, ◌∙◌, subst, arith}
use Rattle.std.specs.Prelude.{if◌then◌else◌, unwrap_or, All, nat_lt}
use Rattle.std.specs.List.{slice_index_or}
use Rattle.std.proofs.lemmas.List.{get_or_append_left}
use Rattle.std.proofs.lemmas.List.Elements.{All-nil, All-head, All-tail}
use Rattle.std.proofs.Math.Seq.{get_or-append_seam}
use Rattle.std.proofs.lemmas.Bool.{ltb-true, ltb-false}
use Rattle.gx_geom.specs.declared.refusal.Refusal.{Refusal}
use Rattle.gx_geom.specs.declared.refusal.Refusal.TheVariants as refusal
use Rattle.gx_machine.specs.declared.entry.Entry.{Entry}
use Rattle.gx_machine.specs.declared.call.Call.{Call}
use Rattle.gx_machine.specs.declared.reply.Reply.TheVariants as reply
use Rattle.gx_machine.specs.declared.reply.Asked.{Asked}
use Rattle.gx_machine.specs.declared.reply.Asked.TheVariants as asked
use Rattle.gx_machine.specs.Keys.{Keys, IsLawful}
use Rattle.gx_machine.specs.Sets.{has, InOrder, IsSetOf}
use Rattle.gx_machine.specs.Sessions as sessions
use Rattle.gx_machine.specs.Sessions.{Session}
use Rattle.gx_machine.specs.Machine as machine
use Rattle.gx_machine.specs.Machine.{Machine, is_session, session_at, with_session}
use Rattle.gx_machine.specs.Runs as runs
use Rattle.gx_machine.proofs.StepEffects.{asked_session, asked_there}
use Rattle.gx_machine.proofs.SetsByTests.{set_of_a_test_that_agrees, set_of_its_members}
use Rattle.gx_events.specs.Slots.{Slot, Free, Working, Undoing, Waiting, slot_at, with_slot, noted_in, is_unanswered}
use Rattle.gx_events.specs.Engines.{Engine, SeenAs, IsSound, HoldsItsLocks, IsSame, stood, kept, last_number, session_of}
use Rattle.gx_events.specs.Asking.{least_barring, claims_held, ask_in, ask}
use Rattle.gx_events.specs.Happenings as events
use Rattle.gx_events.specs.Happenings.{Happening, IsHappening, step_of, failed_engine, IsOpened, MeetsFault, AskRefused}
use Rattle.gx_events.proofs.Places.{slot_free}
use Rattle.gx_events.proofs.Asks.{same_least, same_held, asks_alike, asks_keep_notes, ask_holds}
use Rattle.gx_events.proofs.Follow.{Follows, as_one, session_here, quiet, inserts_follow, deletes_follow, present_follows, absent_follows, finds_follow, closes_follow, seals_follow, durable_follows, acknowledges_follow, undoes_follow, restored_follows}

one_in_order : {B : Type 0} (k : Keys B) (n : ℕ) (sets : List (List (Entry B))) → All (InOrder k) sets → InOrder k (slice_index_or sets n [])
one_in_order k n [] o = tt
one_in_order k zero (set ∷ sets) o = All-head (InOrder k) set sets o
one_in_order k (suc n) (set ∷ sets) o = one_in_order k n sets (All-tail (InOrder k) set sets o)

last_place : (oldest older number : ℕ) → number ≤ oldest + older → ¬ (number < oldest + older) → number - oldest ≡ older
last_place oldest older number high past = omega arith

older_place : (oldest older number : ℕ) → oldest ≤ number → number < oldest + older → number - oldest < older
older_place oldest older number low high = omega arith

module _ {B : Type 0} (k : Keys B) (l : IsLawful k) where
  module _ (old : Engine B) (m : Machine B) (i : IsSound k old) (seen : SeenAs k old m) where
    -- the unchanged engine
    stays : (step : runs.Step B) (new : Engine B) → IsSame new old → runs.IsStep k m step m → Follows k m step new
    stays step new same is_step = as_one k l m step new old same (record { next = m; is_step = is_step; seen = seen; holds = i.holds; in_order = i.in_order })

    -- the engine has failed
    fails : (step : runs.Step B) (new : Engine B) → IsSame new (failed_engine old) → runs.IsStep k m step (machine.failed_machine m) → Follows k m step new
    fails step new same is_step = as_one k l m step new (failed_engine old) same (record {
      next = machine.failed_machine m;
      is_step = is_step;
      seen = record { sessions = seen.sessions; latest = seen.latest; older = seen.older; oldest = seen.oldest; failed = refl };
      holds = i.holds;
      in_order = i.in_order;
    })

    -- Asks.

    -- what a session is asked is what its slot is
    session_asked : (s : ℕ) (call : Call B)
        → asked_session k s call m ≡ sessions.ask_session k call (least_barring k call s 1 old.slots) (claims_held old.slots) (session_of k old.live (slot_at s old.slots))
    session_asked s call =
        let least : machine.least_conflicting k call s 1 m.sessions ≡ least_barring k call s 1 old.slots =
        ap (machine.least_conflicting k call s 1) seen.sessions ∙ same_least k l old.live call s 1 old.slots in
        let held : machine.claims_held m.sessions ≡ claims_held old.slots = ap machine.claims_held seen.sessions ∙ same_held k l old.live old.slots in
        let here : session_at s m.sessions ≡ session_of k old.live (slot_at s old.slots) = session_here k l old m i seen s (slot_at s old.slots) refl in
        λ j. sessions.ask_session k call (least j) (held j) (here j)

    given_alike : (s : ℕ) (call : Call B) → (asked_session k s call m).0 ≡ (ask_in k s call old.slots).0
    given_alike s call =
        ap (λ (r : Asked B × Session B). r.0) (session_asked s call)
        ∙ sym (asks_alike k l old.live call (least_barring k call s 1 old.slots) (claims_held old.slots) (slot_at s old.slots)).0

    left_alike : (s : ℕ) (call : Call B) → (asked_session k s call m).1 ≡ session_of k old.live (ask_in k s call old.slots).1
    left_alike s call =
        ap (λ (r : Asked B × Session B). r.1) (session_asked s call)
        ∙ sym (asks_alike k l old.live call (least_barring k call s 1 old.slots) (claims_held old.slots) (slot_at s old.slots)).1

    -- asking, with its test as a value
    abbrev ask_there : ℕ → Call B → Bool → Asked B × Engine B
    ask_there s call there =
        if there then
        (let r = ask_in k s call old.slots in (r.0, record old { slots = with_slot s r.1 old.slots }))
        else (asked.Now (reply.Refused refusal.BadSession), old)

    gives_by : (s : ℕ) (call : Call B) (there : Bool) → (asked_there k s call m there).0 ≡ (ask_there s call there).0
    gives_by s call true = given_alike s call
    gives_by s call false = refl

    ask_by : (s : ℕ) (call : Call B) (given : Asked B) (there : Bool) → is_session s ≡ there → old.failed ≡ false → (ask_there s call there).0 ≡ given
        → Follows k m (runs.Asks s call given) (ask_there s call there).1
    ask_by s call given true is works gives =
        let later : Slot B = (ask_in k s call old.slots).1 in
        let first : (asked_session k s call m).0 ≡ given = given_alike s call ∙ gives in
        let second : (asked_session k s call m).1 ≡ session_of k old.live later = left_alike s call in
        let both : asked_there k s call m true ≡ (given, with_session s (session_of k old.live later) m) = λ j. (first j, with_session s (second j) m) in
        quiet k l old m i seen (runs.Asks s call given) s (slot_at s old.slots) later is refl
        (asks_keep_notes k l call (least_barring k call s 1 old.slots) (claims_held old.slots) (slot_at s old.slots))
        (ask_holds k l call (least_barring k call s 1 old.slots) (claims_held old.slots) (slot_at s old.slots) (i.holds s))
        (seen.failed ∙ works, ap (asked_there k s call m) is ∙ both)
    ask_by s call given false is works gives =
        let both : asked_there k s call m false ≡ (given, m) = λ j. (gives j, m) in
        record {
          next = m;
          is_step = (seen.failed ∙ works, ap (asked_there k s call m) is ∙ both);
          seen = seen;
          holds = i.holds;
          in_order = i.in_order;
        }

    ask_refused : (s : ℕ) (call : Call B) (why : Refusal) (new : Engine B) → AskRefused k s call why old new → Follows k m (runs.RefusesAsk s call why) new
    ask_refused s call refusal.HistoryFull new h =
        stays (runs.RefusesAsk s call refusal.HistoryFull) new h.2 (seen.failed ∙ h.0, gives_by s call (is_session s) ∙ h.1, refl)
    ask_refused s call refusal.Device new h = fails (runs.RefusesAsk s call refusal.Device) new h.1 (seen.failed ∙ h.0, refl)
    ask_refused s call refusal.Failed new h = fails (runs.RefusesAsk s call refusal.Failed) new h refl
    ask_refused s call other new h = absurd h

    unanswered_alike : (x : Slot B) → sessions.is_unanswered (session_of k old.live x) ≡ is_unanswered x
    unanswered_alike Free = refl
    unanswered_alike (Working locks notes None) = refl
    unanswered_alike (Working locks notes (Some call)) = refl
    unanswered_alike (Undoing locks notes) = refl
    unanswered_alike (Waiting number) = refl

    unanswered : (s : ℕ) → is_unanswered (slot_at s old.slots) ≡ true → sessions.is_unanswered (session_at s m.sessions) ≡ true
    unanswered s waits =
        ap sessions.is_unanswered (session_here k l old m i seen s (slot_at s old.slots) refl) ∙ unanswered_alike (slot_at s old.slots) ∙ waits

    call_refused : (s : ℕ) (why : Refusal) (new : Engine B) → is_unanswered (slot_at s old.slots) ≡ true → MeetsFault why old new
        → Follows k m (runs.RefusesCall s why) new
    call_refused s refusal.Device new waits h = fails (runs.RefusesCall s refusal.Device) new h.1 (unanswered s waits, (seen.failed ∙ h.0, refl))
    call_refused s refusal.Failed new waits h = fails (runs.RefusesCall s refusal.Failed) new h (unanswered s waits, refl)
    call_refused s other new waits h = absurd h

    -- Kept sets.

    kept_by : (number : ℕ) (below : Bool) → nat_lt number (last_number old) ≡ below → old.oldest ≤ number → number ≤ last_number old
        → IsSetOf k (kept k number old) (machine.set_of number m)
    kept_by number true is low high =
        let less : number < last_number old = ltb-true number (last_number old) is in
        let place : number - old.oldest < length old.older = older_place old.oldest (length old.older) number low less in
        let set : List (Entry B) = slice_index_or old.older (number - old.oldest) [] in
        let found : machine.set_of number m ≡ set =
        (λ j. slice_index_or (seen.older j ++ m.latest ∷ []) (number - seen.oldest j) []) ∙ get_or_append_left old.older (m.latest ∷ []) [] (number - old.oldest) place in
        subst (IsSetOf k (kept k number old)) (sym found)
        (set_of_a_test_that_agrees k l (λ e. has k e set) (kept k number old) set
        (λ e. ap (λ b. if b then has k e set else stood k old e) (sym is))
        (set_of_its_members k l set (one_in_order k (number - old.oldest) old.older i.in_order)))
    kept_by number false is low high =
        let least : last_number old ≤ number = ltb-false number (last_number old) is in
        let place : number - old.oldest ≡ length old.older = omega arith in
        let found : machine.set_of number m ≡ m.latest =
        (λ j. slice_index_or (seen.older j ++ m.latest ∷ []) (number - seen.oldest j) [])
        ∙ ap (λ n. slice_index_or (old.older ++ m.latest ∷ []) n []) place ∙ get_or-append_seam old.older m.latest [] [] in
        subst (IsSetOf k (kept k number old)) (sym found)
        (set_of_a_test_that_agrees k l (stood k old) (kept k number old) m.latest
        (λ e. ap (λ b. if b then has k e (slice_index_or old.older (number - old.oldest) []) else stood k old e) (sym is))
        seen.latest)

    -- the machine's kept sets are the engine's
    pub kept_set : (number : ℕ) → old.oldest ≤ number → number ≤ last_number old → IsSetOf k (kept k number old) (machine.set_of number m)
    kept_set number low high = kept_by number (nat_lt number (last_number old)) refl low high

    opens : (number : ℕ) (new : Engine B) → IsOpened k number old new → Follows k m (runs.Crashes number) new
    opens number new o =
        let newest : machine.newest m ≡ last_number old = λ j. seen.oldest j + length (seen.older j) in
        record {
          next = machine.crash number m;
          is_step = (subst (λ n. n ≤ number) (sym seen.oldest) o.rises, subst (λ n. number ≤ n) (sym newest) o.sealed, refl);
          seen = record {
            sessions = sym (ap (map (session_of k new.live)) o.slots);
            latest = set_of_a_test_that_agrees k l (kept k number old) (stood k new) (machine.set_of number m)
                (λ e. sym (o.live e) ∙ sym (ap (λ slots. unwrap_or (noted_in k e slots) (new.live e)) o.slots))
                (kept_set number o.rises o.sealed);
            older = sym o.older;
            oldest = sym o.oldest;
            failed = sym o.failed;
          };
          holds = λ s. subst (HoldsItsLocks k) (sym (ap (slot_at s) o.slots ∙ slot_free s)) tt;
          in_order = subst (All (InOrder k)) (sym o.older) (All-nil (InOrder k));
        }

    -- each event is its step
    pub event_follows : (event : Happening B) (new : Engine B) → IsHappening k old event new → Follows k m (step_of event) new
    event_follows (events.Asks s call given) new h =
        as_one k l m (runs.Asks s call given) new (ask k s call old).1 h.2 (ask_by s call given (is_session s) refl h.0 h.1)
    event_follows (events.RefusesAsk s call why) new h = ask_refused s call why new h
    event_follows (events.Inserts s e) new h = inserts_follow k l old m i seen s e new h
    event_follows (events.Deletes s e) new h = deletes_follow k l old m i seen s e new h
    event_follows (events.FindsPresent s e) new h = present_follows k l old m i seen s e new h.0 h.1
    event_follows (events.FindsAbsent s e) new h = absent_follows k l old m i seen s e new h.0 h.1
    event_follows (events.Finds s query entries) new h = finds_follow k l old m i seen s query entries new h.0 h.1
    event_follows (events.Closes s call why) new h = closes_follow k l old m i seen s call why new h.0 h.1
    event_follows (events.Seals s set number) new h = seals_follow k l old m i seen s set number new h
    event_follows (events.Durable number) new h = durable_follows k l old m i seen number new h
    event_follows (events.Acknowledges s number) new h = acknowledges_follow k l old m i seen s number new h
    event_follows (events.Undoes s e) new h = undoes_follow k l old m i seen s e new h
    event_follows (events.EndsUndo s) new h = restored_follows k l old m i seen s new h
    event_follows (events.RefusesCall s why) new h = call_refused s why new h.0 h.1
    event_follows events.Fails new h = fails runs.Fails new h refl
    event_follows (events.Opens number) new h = opens number new h
    event_follows events.Works new h = stays runs.Nothing new h refl
