-- A book stays one from event to event.
use Rattle.std.proofs.Common.{arith, ◌≡◌, ℕ, ◌+◌, ◌-◌, ◌<◌, ◌≤◌, ◌⊎◌, inl, inr, Bool, true, false, List, [], ◌∷◌, ◌++◌, length, refl, ap, sym, ◌∙◌, subst}
use Rattle.std.specs.Prelude.{if◌then◌else◌, nat_lt, MatchBool}
use Rattle.std.proofs.lemmas.List.{append-nil, append_assoc, length-append}
use Rattle.gx_geom.specs.declared.refusal.Refusal.{Refusal}
use Rattle.gx_geom.specs.declared.refusal.Refusal.TheVariants as refusal
use Rattle.gx_machine.specs.declared.call.Call.{Call}
use Rattle.gx_machine.specs.declared.reply.Reply.{Reply}
use Rattle.gx_machine.specs.declared.item.Item.{Item}
use Rattle.gx_machine.specs.declared.item.Item.TheVariants.{Asked, Sealed, Replied}
use Rattle.gx_machine.specs.Keys.{Keys}
use Rattle.gx_machine.specs.Sessions.{Session}
use Rattle.gx_machine.specs.Machine.{Machine, newest}
use Rattle.gx_events.specs.declared.event.Event.{Event}
use Rattle.gx_events.specs.declared.event.Event.TheVariants.{Ask, Move, LogStep, WritePage, CheckpointStep, Sweep}
use Rattle.gx_events.specs.declared.outcome.Outcome.{Outcome}
use Rattle.gx_events.specs.declared.outcome.Outcome.TheVariants as outcome
use Rattle.gx_events.specs.Happens.{AskHappens, MoveHappens, WorkHappens, SyncHappens, MeetsFault, Ends, Happens}
use Rattle.gx_events.specs.Items.{items_of, items_sealed, finished}
use Rattle.gx_events.specs.Replay.{ReplaysAs}
use Rattle.gx_events.specs.Work.{is_work, replied}
use Rattle.gx_machine.specs.Runs.{Seals, IsStep}
use Rattle.gx_events.proofs.Follows.{true_or_false}
use Rattle.gx_events.proofs.Goes.{goes_on, not_less}
use Rattle.gx_shared.specs.declared.record.TheConstants.{RECORD}
use Rattle.gx_shared.specs.Calls.{open_calls, owed, HasRoom}
use Rattle.gx_shared.specs.Books.{IsBook, IsHold, applied, is_fault, RoomFor, lacks_room, finds_it_full}
use Rattle.gx_shared.proofs.Opening.{closes_of, asked_more, ended, ask_sums, move_sums, ends_sums, ends_failed, sealed_sums, seal_works, owed_by_open}

pub finished_join : {B : Type 0} (xs ys : List (Item B)) → finished (xs ++ ys) ≡ finished xs + finished ys
finished_join [] ys = omega arith
finished_join (Asked s call ∷ xs) ys = finished_join xs ys
finished_join (Sealed s number ∷ xs) ys = finished_join xs ys
finished_join (Replied s r ∷ xs) ys = let h = finished_join xs ys in omega (arith, h)

finished_sealed : (B : Type 0) (s number : ℕ) (b : Bool) → finished {B = B} (if b then Sealed s number ∷ [] else []) ≡ 0
finished_sealed B s number true = refl
finished_sealed B s number false = refl

-- what an event adds has as many replies as it gives
pub finished_items : {B : Type 0} (x y : ℕ) (event : Event B) (o : Outcome B) → is_work event ≡ false → finished (items_of x y event o) ≡ replied o
finished_items x y (Ask s call) (outcome.Replied r) is = refl
finished_items x y (Ask s call) outcome.More is = refl
finished_items x y (Ask s call) (outcome.Help need) is = refl
finished_items x y (Ask s call) outcome.Nothing is = refl
finished_items x y (Ask s call) (outcome.Refused why) is = refl
finished_items x y (Move s) (outcome.Replied r) is = refl
finished_items {B} x y (Move s) outcome.More is = finished_sealed B s y (nat_lt x y)
finished_items {B} x y (Move s) (outcome.Help need) is = finished_sealed B s y (nat_lt x y)
finished_items {B} x y (Move s) outcome.Nothing is = finished_sealed B s y (nat_lt x y)
finished_items {B} x y (Move s) (outcome.Refused why) is = finished_sealed B s y (nat_lt x y)
finished_items x y LogStep o is = let no : ⊥ = cc in absurd no
finished_items x y (WritePage page) o is = let no : ⊥ = cc in absurd no
finished_items x y CheckpointStep o is = let no : ⊥ = cc in absurd no
finished_items x y (Sweep page) o is = let no : ⊥ = cc in absurd no

pub finished_few : {B : Type 0} (xs : List (Item B)) → finished xs ≤ length xs
finished_few [] = omega arith
finished_few (Asked s call ∷ xs) = let h = finished_few xs in omega arith
finished_few (Sealed s number ∷ xs) = let h = finished_few xs in omega arith
finished_few (Replied s r ∷ xs) = let h = finished_few xs in omega arith

module _ {B : Type 0} (k : Keys B) where
  -- an event that is no session's changes no session and adds nothing
  pub record IsWork (m n : Machine B) (event : Event B) (o : Outcome B) : Type 0 where
    pub sessions : n.sessions ≡ m.sessions
    pub works : n.failed ≡ false → m.failed ≡ false
    pub none : (x y : ℕ) → items_of x y event o ≡ []

  refused_works : (m n : Machine B) (why : Refusal) → MeetsFault why m n → (n.sessions ≡ m.sessions) × (n.failed ≡ false → m.failed ≡ false)
  refused_works m n refusal.Device h = (ap (λ (z : Machine B). z.sessions) h.1, λ f. h.0)
  refused_works m n refusal.Failed h = (ap (λ (z : Machine B). z.sessions) h.1, λ f. ap (λ (z : Machine B). z.failed) (sym h.1) ∙ f)
  refused_works m n other h = absurd h

  work_works : (m n : Machine B) (o : Outcome B) → WorkHappens m o n → (n.sessions ≡ m.sessions) × (n.failed ≡ false → m.failed ≡ false)
  work_works m n (outcome.Replied r) h = absurd h
  work_works m n outcome.More h = (ap (λ (z : Machine B). z.sessions) h.1, λ f. h.0)
  work_works m n (outcome.Help need) h = (ap (λ (z : Machine B). z.sessions) h.1, λ f. h.0)
  work_works m n outcome.Nothing h = (ap (λ (z : Machine B). z.sessions) h.1, λ f. h.0)
  work_works m n (outcome.Refused why) h = refused_works m n why h

  sync_works : (m n : Machine B) (o : Outcome B) → SyncHappens k m o n → (n.sessions ≡ m.sessions) × (n.failed ≡ false → m.failed ≡ false)
  sync_works m n outcome.More h = (ap (λ (z : Machine B). z.sessions) h.3, λ f. h.0)
  sync_works m n (outcome.Replied r) h = absurd h
  sync_works m n (outcome.Help need) h = (ap (λ (z : Machine B). z.sessions) h.1, λ f. h.0)
  sync_works m n outcome.Nothing h = (ap (λ (z : Machine B). z.sessions) h.1, λ f. h.0)
  sync_works m n (outcome.Refused why) h = refused_works m n why h

  works : (m n : Machine B) (event : Event B) (o : Outcome B) → is_work event ≡ true → Happens k m event o n → IsWork m n event o
  works m n (Ask s call) o is h = let no : ⊥ = cc in absurd no
  works m n (Move s) o is h = let no : ⊥ = cc in absurd no
  works m n LogStep o is h = let w = sync_works m n o h in record { sessions = w.0; works = w.1; none = λ x y. refl }
  works m n (WritePage page) o is h = let w = work_works m n o h in record { sessions = w.0; works = w.1; none = λ x y. refl }
  works m n CheckpointStep o is h = let w = sync_works m n o h in record { sessions = w.0; works = w.1; none = λ x y. refl }
  works m n (Sweep page) o is h = let w = work_works m n o h in record { sessions = w.0; works = w.1; none = λ x y. refl }

  module _ {E : Type 0} (sees : E → Machine B → Type 0) (start : Machine B) (e : E) (calls : List (Item B)) (opened capacity counted : ℕ)
      (b : IsBook k sees start e calls opened capacity counted) where
    replays_on : (event : Event B) (o : Outcome B) (n : Machine B) → Happens k b.machine event o n
        → ReplaysAs k start (calls ++ items_of (newest b.machine) (newest n) event o) n
    replays_on event o n h = goes_on k start b.machine n calls event o b.replays h

    -- work leaves the book one
    pub kept_work : (event : Event B) (o : Outcome B) (n : Machine B) (e' : E) → is_work event ≡ true → Happens k b.machine event o n → sees e' n
        → IsBook k sees start e' calls opened capacity counted
    kept_work event o n e' is h seen =
        let w = works b.machine n event o is h in
        record {
          machine = n;
          seen = seen;
          replays = subst (λ (xs : List (Item B)). ReplaysAs k start xs n) (ap (λ (ys : List (Item B)). calls ++ ys) (w.none (newest b.machine) (newest n)) ∙ append-nil calls) (replays_on event o n h);
          eight = ap (λ (xs : List (Session B)). length xs) w.sessions ∙ b.eight;
          opened_is = b.opened_is ∙ ap (λ (xs : List (Session B)). open_calls xs) (sym w.sessions);
          fits = b.fits;
          owes = λ f. subst (λ (xs : List (Session B)). length calls + owed xs ≤ RECORD) (sym w.sessions) (b.owes (w.works f));
          has_capacity = b.has_capacity;
          counted_is = b.counted_is;
        }

    room_work : (event : Event B) → is_work event ≡ true → RoomFor event calls b.machine
    room_work (Ask s call) is = let no : ⊥ = cc in absurd no
    room_work (Move s) is = tt
    room_work LogStep is = tt
    room_work (WritePage page) is = tt
    room_work CheckpointStep is = tt
    room_work (Sweep page) is = tt

    pub hold_work : (event : Event B) (o : Outcome B) (n : Machine B) (e' : E) → is_work event ≡ true → Happens k b.machine event o n → sees e' n
        → IsHold k sees (e, calls) event o (e', calls)
    hold_work event o n e' is h seen =
        let w = works b.machine n event o is h in
        record {
          before = b.machine;
          after = n;
          was_seen = b.seen;
          is_seen = seen;
          applies = applied record {
            room = room_work event is;
            happens = h;
            recorded = sym (ap (λ (ys : List (Item B)). calls ++ ys) (w.none (newest b.machine) (newest n)) ∙ append-nil calls);
          };
        }

    asked_few : (x y s : ℕ) (call : Call B) (o : Outcome B) → length (items_of x y (Ask s call) o) ≤ 2
    asked_few x y s call (outcome.Replied r) = omega arith
    asked_few x y s call outcome.More = omega arith
    asked_few x y s call (outcome.Help need) = omega arith
    asked_few x y s call outcome.Nothing = omega arith
    asked_few x y s call (outcome.Refused why) = omega arith

    -- an ask that had room
    pub kept_ask : (s : ℕ) (call : Call B) (o : Outcome B) (n : Machine B) (e' : E) (calls' : List (Item B)) (opened' capacity' counted' : ℕ)
        → HasRoom calls b.machine → AskHappens k s call b.machine o n → sees e' n
        → calls' ≡ calls ++ items_of (newest b.machine) (newest n) (Ask s call) o
        → opened' ≡ opened + asked_more o → capacity ≤ capacity' → counted' ≡ counted + replied o
        → IsBook k sees start e' calls' opened' capacity' counted'
    kept_ask s call o n e' calls' opened' capacity' counted' room h seen calls_is opened_is capacity_is counted_is =
        let sums = ask_sums k s call o b.machine n (newest b.machine) (newest n) h b.eight in
        let added = items_of (newest b.machine) (newest n) (Ask s call) o in
        let long : length calls' ≡ length calls + length added = ap (λ (xs : List (Item B)). length xs) calls_is ∙ length-append calls added in
        let few : length added ≤ 2 = asked_few (newest b.machine) (newest n) s call o in
        let o1 = b.opened_is in let o2 = sums.calls in let c1 = b.counted_is in let cap = b.has_capacity in let owed_few = owed_by_open b.machine.sessions in
        let done : finished calls' ≡ finished calls + finished added = ap (λ (xs : List (Item B)). finished xs) calls_is ∙ finished_join calls added in
        let by : finished added ≡ replied o = finished_items (newest b.machine) (newest n) (Ask s call) o refl in
        record {
          machine = n;
          seen = seen;
          replays = subst (λ (xs : List (Item B)). ReplaysAs k start xs n) (sym calls_is) (replays_on (Ask s call) o n h);
          eight = sums.eight;
          opened_is = omega (arith, o1, o2, opened_is);
          fits = omega (arith, long, few, room);
          owes = λ f. let w = sums.owes f in omega (arith, w, long, room, owed_few);
          has_capacity = omega (arith, cap, capacity_is);
          counted_is = omega (arith, c1, counted_is, done, by);
        }

    -- a move whose items fit
    pub kept_move : (s : ℕ) (o : Outcome B) (n : Machine B) (e' : E) (calls' : List (Item B)) (opened' capacity' counted' : ℕ)
        → MoveHappens k s b.machine o n → sees e' n
        → calls' ≡ calls ++ items_of (newest b.machine) (newest n) (Move s) o → length calls' ≤ RECORD
        → opened' + ended o ≡ opened → capacity ≤ capacity' → counted' ≡ counted + replied o
        → IsBook k sees start e' calls' opened' capacity' counted'
    kept_move s o n e' calls' opened' capacity' counted' h seen calls_is fits opened_is capacity_is counted_is =
        let sums = move_sums k s b.machine n b.eight o h in
        let added = items_of (newest b.machine) (newest n) (Move s) o in
        let long : length calls' ≡ length calls + length added = ap (λ (xs : List (Item B)). length xs) calls_is ∙ length-append calls added in
        let o1 = b.opened_is in let o2 = sums.calls in let c1 = b.counted_is in let cap = b.has_capacity in
        let done : finished calls' ≡ finished calls + finished added = ap (λ (xs : List (Item B)). finished xs) calls_is ∙ finished_join calls added in
        let by : finished added ≡ replied o = finished_items (newest b.machine) (newest n) (Move s) o refl in
        record {
          machine = n;
          seen = seen;
          replays = subst (λ (xs : List (Item B)). ReplaysAs k start xs n) (sym calls_is) (replays_on (Move s) o n h);
          eight = sums.eight;
          opened_is = omega (arith, o1, o2, opened_is);
          fits = fits;
          owes = λ f. let w = sums.owes f in let v = b.owes (sums.works f) in omega (arith, w, v, long);
          has_capacity = omega (arith, cap, capacity_is);
          counted_is = omega (arith, c1, counted_is, done, by);
        }

    -- Holds of a session.

    fits_of : finished calls ≤ length calls
    fits_of = finished_few calls

    pub hold_ask : (s : ℕ) (call : Call B) (o : Outcome B) (n : Machine B) (e' : E) (calls' : List (Item B))
        → HasRoom calls b.machine → AskHappens k s call b.machine o n → sees e' n
        → calls' ≡ calls ++ items_of (newest b.machine) (newest n) (Ask s call) o → IsHold k sees (e, calls) (Ask s call) o (e', calls')
    hold_ask s call o n e' calls' room h seen calls_is = record {
      before = b.machine;
      after = n;
      was_seen = b.seen;
      is_seen = seen;
      applies = applied record { room = room; happens = h; recorded = calls_is };
    }

    pub hold_lacks_room : (s : ℕ) (call : Call B) → (HasRoom calls b.machine → ⊥) → IsHold k sees (e, calls) (Ask s call) (outcome.Refused refusal.HistoryFull) (e, calls)
    hold_lacks_room s call lacks = record {
      before = b.machine;
      after = b.machine;
      was_seen = b.seen;
      is_seen = b.seen;
      applies = lacks_room lacks refl refl;
    }

    pub hold_move : (s : ℕ) (o : Outcome B) (n : Machine B) (e' : E) (calls' : List (Item B)) → MoveHappens k s b.machine o n → sees e' n
        → calls' ≡ calls ++ items_of (newest b.machine) (newest n) (Move s) o → IsHold k sees (e, calls) (Move s) o (e', calls')
    hold_move s o n e' calls' h seen calls_is = record {
      before = b.machine;
      after = n;
      was_seen = b.seen;
      is_seen = seen;
      applies = applied record { room = tt; happens = h; recorded = calls_is };
    }

    -- if the record is full, an engine that a fault has ended was asked to go on
    full_failed : (s : ℕ) (r : Reply B) (n : Machine B) → Ends k s r b.machine n → RECORD ≤ length calls → b.machine.failed ≡ true
    full_failed s r n h full = elim (true_or_false b.machine.failed) [
      | inl p ↦ p
      | inr p ↦ (
          let one : 1 ≤ owed b.machine.sessions = (ends_sums k s b.machine n b.eight r h).1 in
          let few = b.owes p in
          let no : ⊥ = omega (arith, one, few, full) in absurd no
          )
    ]

    pub hold_full : (s : ℕ) (r : Reply B) (n : Machine B) (e' : E) → Ends k s r b.machine n → sees e' n → RECORD ≤ length calls
        → IsHold k sees (e, calls) (Move s) (outcome.Refused refusal.Failed) (e', calls) × IsBook k sees start e' calls opened capacity counted
    hold_full s r n e' h seen full =
        let t = full_failed s r n h full in
        let w = ends_failed k s b.machine n b.eight r h t in (
          record {
            before = b.machine;
            after = n;
            was_seen = b.seen;
            is_seen = seen;
            applies = finds_it_full (t, full) w.1 refl;
          },
          record {
            machine = b.machine;
            seen = subst (λ (z : Machine B). sees e' z) w.1 seen;
            replays = b.replays;
            eight = b.eight;
            opened_is = b.opened_is;
            fits = b.fits;
            owes = b.owes;
            has_capacity = b.has_capacity;
            counted_is = b.counted_is;
          },
        )

    sealed_few : (s : ℕ) (late : Bool) (number : ℕ) → length {A = Item B} (if late then Sealed s number ∷ [] else []) ≤ 1
    sealed_few s true number = omega arith
    sealed_few s false number = omega arith

    sealed_sum : (s : ℕ) (n : Machine B) → IsStep k b.machine (Seals s (newest n)) n → length calls + length (items_sealed {B = B} s (newest b.machine) (newest n)) ≤ RECORD
    sealed_sum s n p =
        let w = (sealed_sums k s b.machine n b.eight p).owes (seal_works k s b.machine n b.eight p) in let v = b.owes p.0 in
        let few = sealed_few s (nat_lt (newest b.machine) (newest n)) (newest n) in
        omega (arith, w, v, few)

    quiet_fits : (s : ℕ) (n : Machine B) → n ≡ b.machine → length calls + length (items_sealed {B = B} s (newest b.machine) (newest n)) ≤ RECORD
    quiet_fits s n is =
        let fits = b.fits in
        subst (λ (late : Bool). length calls + length {A = Item B} (if late then Sealed s (newest n) ∷ [] else []) ≤ RECORD)
        (sym (not_less (newest b.machine) (newest n) (ap newest is))) (omega (arith, fits))

    -- a commit that is sealed has room
    pub sealed_fits : (s : ℕ) (o : Outcome B) (n : Machine B) → MoveHappens k s b.machine o n → replied o ≡ 0
        → length calls + length (items_sealed {B = B} s (newest b.machine) (newest n)) ≤ RECORD
    sealed_fits s (outcome.Replied r) n h none = let no : ⊥ = omega (arith, none) in absurd no
    sealed_fits s outcome.More n h none = elim h [
      | inl p ↦ quiet_fits s n p.1
      | inr p ↦ sealed_sum s n p
    ]
    sealed_fits s (outcome.Help need) n h none = quiet_fits s n h.1
    sealed_fits s outcome.Nothing n h none = absurd h
    sealed_fits s (outcome.Refused why) n h none = quiet_fits s n h.1

    -- an open call that ends was one
    pub opened_some : (s : ℕ) (r : Reply B) (n : Machine B) → Ends k s r b.machine n → (0 < opened) ⊎ (is_fault r ≡ true)
    opened_some s r n h = elim (true_or_false (is_fault r)) [
      | inl p ↦ inr p
      | inr p ↦ (
          let calls_are = (ends_sums k s b.machine n b.eight r h).0.calls in
          let one : closes_of (is_fault r) ≡ 1 = ap closes_of p in
          let is = b.opened_is in
          inl (omega (arith, calls_are, one, is))
          )
    ]

-- how many calls are open once one was given a reply, if one was
pub closes_right : (fault : Bool) (left opened : ℕ) → MatchBool fault (left ≡ opened) (left ≡ opened - 1) → (0 < opened) ⊎ (fault ≡ true) → left + closes_of fault ≡ opened
closes_right true left opened h some = omega (arith, h)
closes_right false left opened h (inl some) = omega (arith, h, some)
closes_right false left opened h (inr fault_is) = let away : ⊥ = cc in absurd away

-- Items after the last.

module _ {B : Type 0} where
  -- the finished calls of a record that fits are few
  pub total_fits : (calls : List (Item B)) (counted : ℕ) → counted ≡ finished calls → length calls ≤ RECORD → counted + 1 < 18446744073709551616
  total_fits calls counted is fits = let few = finished_few calls in omega (arith, is, few, fits)

  -- a record with items that end so many calls
  pub counted_on : (calls added ys : List (Item B)) (counted more counted' : ℕ) → ys ≡ calls ++ added → counted ≡ finished calls → finished added ≡ more → counted' ≡ counted + more
      → counted' ≡ finished ys
  counted_on calls added ys counted more counted' is counts by after =
      let all : finished ys ≡ finished calls + finished added = ap (λ (xs : List (Item B)). finished xs) is ∙ finished_join calls added in
      omega (arith, all, counts, by, after)

  pub fits_on : (calls added ys : List (Item B)) → ys ≡ calls ++ added → length calls + length added ≤ RECORD → length ys ≤ RECORD
  fits_on calls added ys is few =
      let long : length ys ≡ length calls + length added = ap (λ (zs : List (Item B)). length zs) is ∙ length-append calls added in
      omega (arith, long, few)

  -- a record to which a sealed commit was added, or nothing
  pub sealed_counts : (calls ys : List (Item B)) (s number counted : ℕ) → (ys ≡ calls) ⊎ (ys ≡ calls ++ Sealed s number ∷ []) → counted ≡ finished calls → counted ≡ finished ys
  sealed_counts calls ys s number counted (inl same) counts = counts ∙ ap (λ (xs : List (Item B)). finished xs) (sym same)
  sealed_counts calls ys s number counted (inr more) counts = counted_on calls (Sealed s number ∷ []) ys counted 0 counted more counts refl (omega arith)

  pub two_items : (calls xs ys : List (Item B)) (s t : ℕ) (call : Call B) (r : Reply B) → xs ≡ calls ++ Asked s call ∷ [] → ys ≡ xs ++ Replied t r ∷ [] → s ≡ t
      → ys ≡ calls ++ Asked s call ∷ Replied s r ∷ []
  two_items calls xs ys s t call r first second same =
      second ∙ ap (λ (zs : List (Item B)). zs ++ Replied t r ∷ []) first ∙ append_assoc calls (Asked s call ∷ []) (Replied t r ∷ [])
      ∙ ap (λ (u : ℕ). calls ++ Asked s call ∷ Replied u r ∷ []) (sym same)

  pub one_more : (xs ys : List (Item B)) (item : Item B) → ys ≡ xs ++ item ∷ [] → length xs < RECORD → length ys ≤ RECORD
  one_more xs ys item is few =
      let long : length ys ≡ length xs + 1 = ap (λ (zs : List (Item B)). length zs) is ∙ length-append xs (item ∷ []) in
      omega (arith, long, few)

  pub sealed_same : (s before after x y : ℕ) → before ≡ x → after ≡ y → items_sealed {B = B} s before after ≡ items_sealed s x y
  sealed_same s before after x y one two = ap (λ (z : ℕ). items_sealed {B = B} s z after) one ∙ ap (λ (z : ℕ). items_sealed {B = B} s x z) two
