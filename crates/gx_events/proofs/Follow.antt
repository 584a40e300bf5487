-- Each event is a step of the machine that the engine is seen as.
use Rattle.std.proofs.Common.{◌≡◌, ◌≢◌, ℕ, ◌+◌, ◌-◌, ◌≤◌, Bool, true, false, not, ◌&&◌, ◌||◌, inl, inr, List, [], ◌∷◌, ◌++◌, Option, Some, None, length, refl, ap, sym, ◌∙◌, subst, le-leb}
use Rattle.std.specs.Prelude.{is_some, unwrap_or, option_map, slice_set, drop, All, nat_le}
use Rattle.std.specs.List.{list_any}
use Rattle.std.specs.Option.{option_or}
use Rattle.std.proofs.lemmas.List.Elements.{All-drop, All-push}
use Rattle.gx_geom.specs.declared.refusal.Refusal.{Refusal}
use Rattle.gx_geom.specs.declared.refusal.Refusal.TheVariants as refusal
use Rattle.gx_machine.specs.declared.entry.Entry.{Entry}
use Rattle.gx_machine.specs.declared.query.Query.{Query}
use Rattle.gx_machine.specs.declared.call.Call.{Call}
use Rattle.gx_machine.specs.declared.call.Call.TheVariants.{Insert, Delete, Search, Commit}
use Rattle.gx_machine.specs.declared.reply.Reply.{Reply}
use Rattle.gx_machine.specs.declared.reply.Reply.TheVariants as reply
use Rattle.gx_machine.specs.Keys.{Keys, IsLawful, matches}
use Rattle.gx_machine.specs.Sets.{has, including, excluding, found, InOrder, IsSetOf}
use Rattle.gx_machine.specs.Sessions.{Session, Idle, Open, Committing, Locks, Changes, view, write_conflicts, has_query, answer_call, answer_session, sealed_set, closed_session}
use Rattle.gx_machine.specs.Machine as machine
use Rattle.gx_machine.specs.Machine.{Machine, session_at, with_session, is_session}
use Rattle.gx_machine.specs.Runs as runs
use Rattle.gx_machine.specs.Invariants.{HoldsFor}
use Rattle.std.proofs.Math.Decide.{ℕ_discrete}
use Rattle.gx_machine.proofs.SessionsApart.{predicate_matches}
use Rattle.gx_machine.proofs.SetsByTests.{set_of_its_members, set_of_a_test_that_agrees, one_set_of_a_test, set_that_is_found, set_that_is_viewed}
use Rattle.gx_machine.proofs.SessionMoves.{insert_answered, delete_answered, commit_answered}
use Rattle.gx_events.specs.Slots.{Note, Slot, Free, Working, Undoing, Waiting, locks_held, notes_kept, slot_at, with_slot, noted, noted_in}
use Rattle.gx_events.specs.Engines.{Engine, SeenAs, IsSound, HoldsItsLocks, IsSame, stood, last_number, changes_of, session_of}
use Rattle.gx_events.specs.Happenings.{marked, slotted, IsWritten, IsClosed, IsSealed, IsDurable, IsAcknowledged, IsUndone, IsRestored}
use Rattle.gx_events.proofs.Options.{true_or_false, or_left, or_right, viewed, and_agree}
use Rattle.gx_events.proofs.Places.{slot_set, session_of_slot, sessions_with, sessions_alike}
use Rattle.gx_events.proofs.Noted.{has_noted}
use Rattle.gx_events.proofs.Sees.{inserted_changes, deleted_changes, viewed_members}
use Rattle.gx_events.proofs.Locking.{of_others, others_seen}
use Rattle.gx_events.proofs.Standing.{is_one, working_there, undoing_there, waiting_there, stood_by, none_by_locks, quiet_stood, write_covers, write_stood, sealed_stood, undone_stood, restored_stood}

-- A step of the machine, after which the new engine is seen as its end and holds what it should.
pub record Follows {B : Type 0} (k : Keys B) (m : Machine B) (step : runs.Step B) (new : Engine B) : Type 0 where
  pub next : Machine B
  pub is_step : runs.IsStep k m step next
  pub seen : SeenAs k new next
  pub holds : (s : ℕ) → HoldsItsLocks k (slot_at s new.slots)
  pub in_order : All (InOrder k) new.older

module _ {B : Type 0} (k : Keys B) (l : IsLawful k) where
  pub as_one : (m : Machine B) (step : runs.Step B) (new other : Engine B) → IsSame new other → Follows k m step other → Follows k m step new
  as_one m step new other same f = subst (Follows k m step) (sym (is_one new other same)) f

  module _ (old : Engine B) (m : Machine B) (i : IsSound k old) (seen : SeenAs k old m) where
    -- the session of a slot
    pub session_here : (s : ℕ) (x : Slot B) → slot_at s old.slots ≡ x → session_at s m.sessions ≡ session_of k old.live x
    session_here s x at =
        ap (session_at s) seen.sessions ∙ session_of_slot k old.live s old.slots ∙ ap (session_of k old.live) at

    holds_with : (s : ℕ) (x : Slot B) → is_session s ≡ true → HoldsItsLocks k x → (a : ℕ) → HoldsItsLocks k (slot_at a (with_slot s x old.slots))
    holds_with s x is holds a =
        elim (slot_set a s old.slots x is i.eight) [
          | inl p ↦ subst (HoldsItsLocks k) (sym p.1) holds
          | inr p ↦ subst (HoldsItsLocks k) (sym p.1) (i.holds a)
        ]

    -- one slot changed and perhaps what is live, with the same committed set
    moved : (step : runs.Step B) (s : ℕ) (x : Slot B) (live : Entry B → Bool) (y : Session B) → is_session s ≡ true → HoldsItsLocks k x → session_of k live x ≡ y
        → ((a : ℕ) → a ≢ s → session_of k live (slot_at a old.slots) ≡ session_of k old.live (slot_at a old.slots))
        → ((e : Entry B) → unwrap_or (noted_in k e (with_slot s x old.slots)) (live e) ≡ stood k old e)
        → runs.IsStep k m step (with_session s y m)
        → Follows k m step (record old { live = live; slots = with_slot s x old.slots })
    moved step s x live y is holds image others stands is_step = record {
      next = with_session s y m;
      is_step = is_step;
      seen = record {
        sessions = ap (λ (xs : List (Session B)). slice_set xs (s - 1) y) seen.sessions
            ∙ sym (sessions_with k old.live live s old.slots x y i.eight is image others);
        latest = set_of_a_test_that_agrees k l (stood k old) (λ e. unwrap_or (noted_in k e (with_slot s x old.slots)) (live e)) m.latest (λ e. sym (stands e)) seen.latest;
        older = seen.older;
        oldest = seen.oldest;
        failed = seen.failed;
      };
      holds = holds_with s x is holds;
      in_order = i.in_order;
    }

    works_too : old.failed ≡ false → m.failed ≡ false
    works_too works = seen.failed ∙ works

    -- the answer to an open call
    answered_here : (s : ℕ) (locks : Locks B) (notes : List (Note B)) (call : Call B) (r : Reply B) (after : Changes B) → slot_at s old.slots ≡ Working locks notes (Some call)
        → answer_call k call m.latest (changes_of k old.live notes) ≡ Some (r, after)
        → machine.answer k s m ≡ Some (r, with_session s (Open locks after None) m)
    answered_here s locks notes call r after at answered =
        ap (λ (x : Session B). option_map (λ (p : Reply B × Session B). (p.0, with_session s p.1 m)) (answer_session k m.latest m.oldest x)) (session_here s (Working locks notes (Some call)) at)
        ∙ ap (λ (o : Option (Reply B × Changes B)). option_map (λ (p : Reply B × Session B). (p.0, with_session s p.1 m)) (option_map (λ (p : Reply B × Changes B). (p.0, Open locks p.1 None)) o)) answered

    -- what a transaction sees of an entry that no other has noted is what is live
    pub sees_live : (s : ℕ) (locks : Locks B) (notes : List (Note B)) (call : Option (Call B)) → slot_at s old.slots ≡ Working locks notes call
        → (e : Entry B) → of_others k old s e ≡ None → has k e (view k m.latest (changes_of k old.live notes)) ≡ old.live e
    sees_live s locks notes call at e none =
        let is : is_session s ≡ true = working_there k l old i s locks notes call at in
        let stands : stood k old e ≡ unwrap_or (noted k e notes) (old.live e) =
        stood_by k l old i s (Working locks notes call) is at e ∙ ap (λ o. unwrap_or (option_or o (noted k e notes)) (old.live e)) none in
        viewed_members k l (stood k old) m.latest old.live notes seen.latest e
        ∙ ap (λ b. (old.live e && is_some (noted k e notes)) || (not (not (old.live e) && is_some (noted k e notes)) && b)) stands
        ∙ viewed (noted k e notes) (old.live e)

    -- one slot changed, with its notes and what is live as before
    pub quiet : (step : runs.Step B) (s : ℕ) (x later : Slot B) → is_session s ≡ true → slot_at s old.slots ≡ x → notes_kept later ≡ notes_kept x → HoldsItsLocks k later
        → runs.IsStep k m step (with_session s (session_of k old.live later) m) → Follows k m step (slotted s later old)
    quiet step s x later is at notes holds is_step =
        moved step s later old.live (session_of k old.live later) is holds refl (λ a ne. refl) (quiet_stood k l old i s x later is at notes) is_step

    -- the open call is closed, with this step
    closed : (step : runs.Step B) (s : ℕ) (call : Call B) (new : Engine B) (c : IsClosed s call old new)
        → runs.IsStep k m step (with_session s (Open c.locks (changes_of k old.live c.notes) None) m) → Follows k m step new
    closed step s call new c is_step =
        let held : HoldsItsLocks k (Working c.locks c.notes (Some call)) = subst (HoldsItsLocks k) c.asked (i.holds s) in
        as_one m step new (slotted s (Working c.locks c.notes None) old) c.is
        (quiet step s (Working c.locks c.notes (Some call)) (Working c.locks c.notes None) (working_there k l old i s c.locks c.notes (Some call) c.asked) c.asked refl held.0 is_step)

    -- Writes.

    write : (s : ℕ) (call : Call B) (e : Entry B) (now : Bool) (r : Reply B) (after : Changes B) (new : Engine B) (w : IsWritten k s call e now old new)
        → (HoldsFor k call w.locks → has k e w.locks.claims ≡ true) → changes_of k (marked k e now old.live) w.then_notes ≡ after
        → answer_call k call m.latest (changes_of k old.live w.notes) ≡ Some (r, after) → Follows k m (runs.Answers s r) new
    write s call e now r after new w claim changes answered =
        let is : is_session s ≡ true = working_there k l old i s w.locks w.notes (Some call) w.asked in
        let held : HoldsItsLocks k (Working w.locks w.notes (Some call)) = subst (HoldsItsLocks k) w.asked (i.holds s) in
        let claimed : has k e w.locks.claims ≡ true = claim held.1 in
        as_one m (runs.Answers s r) new (record old { live = marked k e now old.live; slots = with_slot s (Working w.locks w.then_notes None) old.slots }) w.is
        (moved (runs.Answers s r) s (Working w.locks w.then_notes None) (marked k e now old.live) (Open w.locks after None) is (write_covers k l old i s call e now new w claim)
        (ap (λ (c : Changes B). Open w.locks c None) changes)
        (others_seen k l old i s is e now (ap (λ (x : Slot B). has k e (locks_held x).claims) w.asked ∙ claimed))
        (write_stood k l old i s call e now new w claim)
        (works_too w.works, answered_here s w.locks w.notes call r after w.asked answered))

    -- what an open write's transaction sees of its entry
    sees_claimed : (s : ℕ) (locks : Locks B) (notes : List (Note B)) (call : Call B) (e : Entry B) → slot_at s old.slots ≡ Working locks notes (Some call)
        → has k e locks.claims ≡ true → has k e (view k m.latest (changes_of k old.live notes)) ≡ old.live e
    sees_claimed s locks notes call e at claimed =
        sees_live s locks notes (Some call) at e
        (none_by_locks k l old i s locks notes (Some call) at e (or_left (has k e locks.claims) (list_any (λ q. matches k q e) locks.predicates) claimed))

    pub inserts_follow : (s : ℕ) (e : Entry B) (new : Engine B) → IsWritten k s (Insert e) e true old new → Follows k m (runs.Answers s reply.Inserted) new
    inserts_follow s e new w =
        let held : HoldsItsLocks k (Working w.locks w.notes (Some (Insert e))) = subst (HoldsItsLocks k) w.asked (i.holds s) in
        let before : Changes B = changes_of k old.live w.notes in
        write s (Insert e) e true reply.Inserted (record { added = including k e before.added; taken = excluding k e before.taken }) new w
        (λ h. h) (inserted_changes k l e old.live w.notes w.then_notes w.with_note)
        (ap (λ b. Some (insert_answered k e b before)) (sees_claimed s w.locks w.notes (Insert e) e w.asked held.1 ∙ w.was))

    pub deletes_follow : (s : ℕ) (e : Entry B) (new : Engine B) → IsWritten k s (Delete e) e false old new → Follows k m (runs.Answers s reply.Deleted) new
    deletes_follow s e new w =
        let held : HoldsItsLocks k (Working w.locks w.notes (Some (Delete e))) = subst (HoldsItsLocks k) w.asked (i.holds s) in
        let before : Changes B = changes_of k old.live w.notes in
        write s (Delete e) e false reply.Deleted (record { added = excluding k e before.added; taken = including k e before.taken }) new w
        (λ h. h) (deleted_changes k l e old.live w.notes w.then_notes w.with_note)
        (ap (λ b. Some (delete_answered k e b before)) (sees_claimed s w.locks w.notes (Delete e) e w.asked held.1 ∙ w.was))

    pub present_follows : (s : ℕ) (e : Entry B) (new : Engine B) → old.live e ≡ true → IsClosed s (Insert e) old new
        → Follows k m (runs.Answers s (reply.Refused refusal.Present)) new
    present_follows s e new is_live c =
        let held : HoldsItsLocks k (Working c.locks c.notes (Some (Insert e))) = subst (HoldsItsLocks k) c.asked (i.holds s) in
        let before : Changes B = changes_of k old.live c.notes in
        closed (runs.Answers s (reply.Refused refusal.Present)) s (Insert e) new c (
          works_too c.works,
          answered_here s c.locks c.notes (Insert e) (reply.Refused refusal.Present) before c.asked
              (ap (λ b. Some (insert_answered k e b before)) (sees_claimed s c.locks c.notes (Insert e) e c.asked held.1 ∙ is_live)),
        )

    pub absent_follows : (s : ℕ) (e : Entry B) (new : Engine B) → old.live e ≡ false → IsClosed s (Delete e) old new
        → Follows k m (runs.Answers s (reply.Refused refusal.Absent)) new
    absent_follows s e new is_dead c =
        let held : HoldsItsLocks k (Working c.locks c.notes (Some (Delete e))) = subst (HoldsItsLocks k) c.asked (i.holds s) in
        let before : Changes B = changes_of k old.live c.notes in
        closed (runs.Answers s (reply.Refused refusal.Absent)) s (Delete e) new c (
          works_too c.works,
          answered_here s c.locks c.notes (Delete e) (reply.Refused refusal.Absent) before c.asked
              (ap (λ b. Some (delete_answered k e b before)) (sees_claimed s c.locks c.notes (Delete e) e c.asked held.1 ∙ is_dead)),
        )

    -- Searches.

    -- what an open search matches, its locks bar
    pub match_bars : (q : Query B) (locks : Locks B) (e : Entry B) → has_query k q locks.predicates ≡ true → matches k q e ≡ true → write_conflicts k e locks ≡ true
    match_bars q locks e held is =
        elim (true_or_false (list_any (λ p. matches k p e) locks.predicates)) [
          | inl h ↦ or_right (has k e locks.claims) (list_any (λ p. matches k p e) locks.predicates) h
          | inr h ↦ (let both : true ≡ false = sym is ∙ predicate_matches k l q e locks.predicates held h in absurd (let no : ⊥ = cc in no))
        ]

    -- the machine finds what is live and matches
    pub finds_live : (s : ℕ) (locks : Locks B) (notes : List (Note B)) (q : Query B) (entries : List (Entry B)) → slot_at s old.slots ≡ Working locks notes (Some (Search q))
        → has_query k q locks.predicates ≡ true → IsSetOf k (λ e. matches k q e && old.live e) entries
        → entries ≡ found k q (view k m.latest (changes_of k old.live notes))
    finds_live s locks notes q entries at held is =
        let seen_set : List (Entry B) = view k m.latest (changes_of k old.live notes) in
        let in_view = set_that_is_viewed k l (stood k old) m.latest (changes_of k old.live notes) seen.latest in
        let machine_finds : IsSetOf k (λ e. matches k q e && has k e seen_set) (found k q seen_set) =
        set_that_is_found k l (λ e. has k e seen_set) q seen_set (set_of_its_members k l seen_set in_view.in_order) in
        one_set_of_a_test k l (λ e. matches k q e && has k e seen_set) entries (found k q seen_set)
        (set_of_a_test_that_agrees k l (λ e. matches k q e && old.live e) (λ e. matches k q e && has k e seen_set) entries
        (λ e. and_agree (matches k q e) (old.live e) (has k e seen_set)
        (λ h. sym (sees_live s locks notes (Some (Search q)) at e (none_by_locks k l old i s locks notes (Some (Search q)) at e (match_bars q locks e held h)))))
        is)
        machine_finds

    pub finds_follow : (s : ℕ) (q : Query B) (entries : List (Entry B)) (new : Engine B) → IsSetOf k (λ e. matches k q e && old.live e) entries → IsClosed s (Search q) old new
        → Follows k m (runs.Answers s (reply.Found entries)) new
    finds_follow s q entries new is c =
        let held : HoldsItsLocks k (Working c.locks c.notes (Some (Search q))) = subst (HoldsItsLocks k) c.asked (i.holds s) in
        let before : Changes B = changes_of k old.live c.notes in
        closed (runs.Answers s (reply.Found entries)) s (Search q) new c (
          works_too c.works,
          answered_here s c.locks c.notes (Search q) (reply.Found entries) before c.asked
              (ap (λ (es : List (Entry B)). Some (reply.Found es, before)) (sym (finds_live s c.locks c.notes q entries c.asked held.1 is))),
        )

    pub closes_follow : (s : ℕ) (call : Call B) (why : Refusal) (new : Engine B) → runs.may_close why ≡ true → IsClosed s call old new
        → Follows k m (runs.Closes s why) new
    closes_follow s call why new may c =
        closed (runs.Closes s why) s call new c (
          works_too c.works,
          may,
          ap (λ (x : Session B). option_map (λ y. with_session s y m) (closed_session x)) (session_here s (Working c.locks c.notes (Some call)) c.asked),
        )

    -- Commits.

    pub seals_follow : (s : ℕ) (set : List (Entry B)) (number : ℕ) (new : Engine B) → IsSealed k s set number old new → Follows k m (runs.Seals s number) new
    seals_follow s set number new c =
        let is : is_session s ≡ true = working_there k l old i s c.locks c.notes (Some Commit) c.asked in
        let before : Changes B = changes_of k old.live c.notes in
        let same_number : machine.newest m + 1 ≡ number = (λ j. seen.oldest j + length (seen.older j) + 1) ∙ sym c.next in
        let same_set : m.latest ≡ set = one_set_of_a_test k l (stood k old) m.latest set seen.latest c.stands in
        let next : Machine B = record m {
          older = machine.kept_sets m;
          latest = view k m.latest before;
          sessions = slice_set m.sessions (s - 1) (Committing (machine.newest m + 1));
        } in
        let later : Engine B = record old { older = old.older ++ set ∷ []; slots = with_slot s (Waiting number) old.slots } in
        as_one m (runs.Seals s number) new later c.is (record {
          next = next;
          is_step = (
            works_too c.works,
            sym same_number,
            ap (λ (x : Session B). option_map (λ (ys : List (Entry B)). record m {
              older = machine.kept_sets m;
              latest = ys;
              sessions = slice_set m.sessions (s - 1) (Committing (machine.newest m + 1));
            }) (sealed_set k m.latest x)) (session_here s (Working c.locks c.notes (Some Commit)) c.asked),
          );
          seen = record {
            sessions = (λ j. slice_set (seen.sessions j) (s - 1) (Committing (same_number j)))
                ∙ sym (sessions_with k old.live old.live s old.slots (Waiting number) (Committing number) i.eight is refl (λ a ne. refl));
            latest = record {
              in_order = (set_that_is_viewed k l (stood k old) m.latest before seen.latest).in_order;
              members = λ e. viewed_members k l (stood k old) m.latest old.live c.notes seen.latest e ∙ sealed_stood k l old i s set number new c e;
            };
            older = λ j. seen.older j ++ same_set j ∷ [];
            oldest = seen.oldest;
            failed = seen.failed;
          };
          holds = holds_with s (Waiting number) is tt;
          in_order = All-push (InOrder k) old.older set i.in_order c.stands.in_order;
        })

    pub durable_follows : (number : ℕ) (new : Engine B) → IsDurable number old new → Follows k m (runs.Durable number) new
    durable_follows number new d =
        let later : Engine B = record old { older = drop (number - old.oldest) old.older; oldest = number } in
        let oldest : m.oldest ≡ old.oldest = seen.oldest in
        let newest : machine.newest m ≡ last_number old = λ j. seen.oldest j + length (seen.older j) in
        as_one m (runs.Durable number) new later d.is (record {
          next = machine.durable number m;
          is_step = (works_too d.works, subst (λ n. n ≤ number) (sym oldest) d.rises, subst (λ n. number ≤ n) (sym newest) d.sealed, refl);
          seen = record {
            sessions = seen.sessions;
            latest = seen.latest;
            older = λ j. drop (number - seen.oldest j) (seen.older j);
            oldest = refl;
            failed = seen.failed;
          };
          holds = i.holds;
          in_order = All-drop (InOrder k) (number - old.oldest) old.older i.in_order;
        })

    pub acknowledges_follow : (s number : ℕ) (new : Engine B) → IsAcknowledged s number old new → Follows k m (runs.Answers s (reply.Committed number)) new
    acknowledges_follow s number new c =
        let is : is_session s ≡ true = waiting_there k l old i s number c.waits in
        let lasts : nat_le number m.oldest ≡ true = le-leb number m.oldest (subst (λ n. number ≤ n) (sym seen.oldest) c.is_durable) in
        as_one m (runs.Answers s (reply.Committed number)) new (slotted s Free old) c.is
        (quiet (runs.Answers s (reply.Committed number)) s (Waiting number) Free is c.waits refl tt (
          works_too c.works,
          ap (λ (x : Session B). option_map (λ (p : Reply B × Session B). (p.0, with_session s p.1 m)) (answer_session k m.latest m.oldest x)) (session_here s (Waiting number) c.waits)
              ∙ ap (λ b. option_map (λ (p : Reply B × Session B). (p.0, with_session s p.1 m)) (commit_answered {B = B} number b)) lasts,
        ))

    -- Aborts.

    pub undoes_follow : (s : ℕ) (e : Entry B) (new : Engine B) → IsUndone k s e old new → Follows k m runs.Nothing new
    undoes_follow s e new u =
        let is : is_session s ≡ true = undoing_there k l old i s u.locks u.notes u.aborts in
        let held : HoldsItsLocks k (Undoing u.locks u.notes) = subst (HoldsItsLocks k) u.aborts (i.holds s) in
        let claimed : has k e u.locks.claims ≡ true = held e (has_noted k e u.notes u.was_live u.was_noted) in
        let live : Entry B → Bool = marked k e u.was_live old.live in
        as_one m runs.Nothing new (record old { live = live }) u.is (record {
          next = m;
          is_step = refl;
          seen = record {
            sessions = seen.sessions ∙ sym (sessions_alike k old.live live old.slots i.eight (λ a.
                elim (ℕ_discrete a s) [
                  | yes p ↦ (let here : slot_at a old.slots ≡ Undoing u.locks u.notes = ap (λ n. slot_at n old.slots) p ∙ u.aborts in
                      ap (session_of k live) here ∙ sym (ap (session_of k old.live) here))
                  | no ne ↦ others_seen k l old i s is e u.was_live (ap (λ (x : Slot B). has k e (locks_held x).claims) u.aborts ∙ claimed) a ne
                ]));
            latest = set_of_a_test_that_agrees k l (stood k old) (λ x. unwrap_or (noted_in k x old.slots) (live x)) m.latest
                (λ x. sym (undone_stood k l old i s e new u x))
                seen.latest;
            older = seen.older;
            oldest = seen.oldest;
            failed = seen.failed;
          };
          holds = i.holds;
          in_order = i.in_order;
        })

    pub restored_follows : (s : ℕ) (new : Engine B) → IsRestored k s old new → Follows k m (runs.Answers s reply.Aborted) new
    restored_follows s new u =
        let is : is_session s ≡ true = undoing_there k l old i s u.locks u.notes u.aborts in
        as_one m (runs.Answers s reply.Aborted) new (slotted s Free old) u.is
        (moved (runs.Answers s reply.Aborted) s Free old.live Idle is tt refl (λ a ne. refl)
        (restored_stood k l old i s new u) (
          works_too u.works,
          ap (λ (x : Session B). option_map (λ (p : Reply B × Session B). (p.0, with_session s p.1 m)) (answer_session k m.latest m.oldest x)) (session_here s (Undoing u.locks u.notes) u.aborts),
        ))
