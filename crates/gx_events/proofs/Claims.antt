-- Events keep the claims held in all at most 512.
use Rattle.std.proofs.Common.{◌≡◌, ℕ, suc, ◌+◌, ◌-◌, ◌<◌, ◌≤◌, Bool, true, false, ◌⊎◌, inl, inr, List, [], ◌∷◌, ◌++◌, Option, None, Some, length, map, replicate, refl, ap, sym, ◌∙◌, subst, arith}
use Rattle.std.specs.Prelude.{Result, Ok, Err, nat_lt, if◌then◌else◌, sum_by}
use Rattle.std.specs.List.{slice_index_or}
use Rattle.std.specs.Ordering.{match_ordering}
use Rattle.std.specs.declared.cmp.Ordering.{Ordering}
use Rattle.std.specs.declared.cmp.Ordering.TheVariants.{Less, Equal, Greater}
use Rattle.std.proofs.lemmas.Bool.{ltb-true, ltb-false}
use Rattle.std.proofs.lemmas.List.{length-map}
use Rattle.std.proofs.lemmas.List.Sums.{sum_by-cons, sum_by-set}
use Rattle.gx_geom.specs.declared.refusal.Refusal.{Refusal}
use Rattle.gx_geom.specs.declared.refusal.Refusal.TheVariants as refusal
use Rattle.gx_machine.specs.declared.limits.TheConstants.{MAX_CLAIMS, MAX_PREDICATES, SESSIONS}
use Rattle.gx_machine.specs.declared.entry.Entry.{Entry}
use Rattle.gx_machine.specs.declared.query.Query.{Query}
use Rattle.gx_machine.specs.declared.call.Call.{Call}
use Rattle.gx_machine.specs.declared.reply.Reply.TheVariants as reply
use Rattle.gx_machine.specs.declared.reply.Asked.{Asked}
use Rattle.gx_machine.specs.declared.reply.Asked.TheVariants as asked
use Rattle.gx_machine.specs.declared.call.Call.TheVariants.{Begin, Insert, Delete, Search, Commit, Abort}
use Rattle.gx_machine.specs.Keys.{Keys, IsLawful, entry_cmp}
use Rattle.gx_machine.specs.Sets.{has, including}
use Rattle.gx_machine.specs.Sessions.{Locks, has_query, with_lock, unless_busy, lock_for}
use Rattle.gx_machine.specs.Machine.{Machine, is_session}
use Rattle.gx_events.specs.Slots.{Note, Slot, Free, Working, Undoing, Waiting, locks_held, slot_at, with_slot}
use Rattle.gx_events.specs.Engines.{Engine, SeenAs, IsSound}
use Rattle.gx_events.specs.Asking.{least_barring, claims_held, asked_with, ask_working, ask_free, ask_slot, ask_in, ask}
use Rattle.gx_events.specs.Happenings as events
use Rattle.gx_events.specs.Happenings.{Happening, IsHappening, MeetsFault, AskRefused, IsClosed, IsWritten, step_of}
use Rattle.gx_events.specs.Losers.{loser_slot}
use Rattle.gx_events.specs.Runs.{AreHappenings}
use Rattle.gx_events.proofs.Places.{place_below}
use Rattle.gx_events.proofs.Standing.{working_there, waiting_there, undoing_there}
use Rattle.gx_events.proofs.Follow.{Follows}
use Rattle.gx_events.proofs.Faults.{event_follows}
use Rattle.gx_events.proofs.EventRuns.{still_sound}
use Rattle.gx_events.proofs.Reopened.{locks_of_loser}

-- the claims of a slot
abbrev claims_of : {B : Type 0} → Slot B → ℕ
claims_of slot = length (locks_held slot).claims

-- after an ask there are no more claims than before, or one more and there was room
abbrev Few : ℕ → ℕ → ℕ → Type 0
Few spent before after = (after ≤ before) ⊎ ((after ≤ suc before) × (spent < 512))

module _ {B : Type 0} where
  -- an opening's sessions hold what they have noted
  pub losers_hold : (losers : List (List (Note B))) → claims_held (map loser_slot losers) ≡ sum_by length losers
  losers_hold [] = refl
  losers_hold (notes ∷ losers) =
      let here : claims_of (loser_slot notes) ≡ length notes = ap (λ (x : Locks B). length x.claims) (locks_of_loser notes) ∙ length-map notes (λ n. n.entry) in
      omega (arith, here, losers_hold losers, sum_by-cons claims_of (loser_slot notes) (map loser_slot losers), sum_by-cons length notes losers)

module _ {B : Type 0} (k : Keys B) where
  length_by : (o : Ordering) (e x : Entry B) (set : List (Entry B)) → length (including k e set) ≤ suc (length set)
      → length (match_ordering o (e ∷ x ∷ set) (x ∷ set) (x ∷ including k e set)) ≤ suc (suc (length set))
  length_by Less e x set h = omega arith
  length_by Equal e x set h = omega arith
  length_by Greater e x set h = omega (arith, h)

  length-including : (e : Entry B) (set : List (Entry B)) → length (including k e set) ≤ suc (length set)
  length-including e [] = omega arith
  length-including e (x ∷ set) = length_by (entry_cmp k e x) e x set (length-including e set)

  abbrev claiming : Entry B → Locks B → Bool → Bool → Result (Locks B) Refusal
  claiming e locks held room =
      if held then Ok locks else if room then Ok (record locks { claims = including k e locks.claims }) else Err refusal.ClaimsFull

  claim_few : (e : Entry B) (spent : ℕ) (locks new : Locks B) (held room : Bool) → nat_lt spent MAX_CLAIMS ≡ room → claiming e locks held room ≡ Ok new
      → Few spent (length locks.claims) (length new.claims)
  claim_few e spent locks new true room is given =
      let same : locks ≡ new = cc in let long = ap (λ (x : Locks B). length x.claims) same in inl (omega (arith, long))
  claim_few e spent locks new false true is given =
      let same : record locks { claims = including k e locks.claims } ≡ new = cc in
      let long = ap (λ (x : Locks B). length x.claims) same in
      let more = length-including e locks.claims in
      inr (omega (arith, long, more), ltb-true spent 512 is)
  claim_few e spent locks new false false is given = let no : ⊥ = cc in absurd no

  abbrev watching : Query B → Locks B → Bool → Bool → Result (Locks B) Refusal
  watching q locks held room =
      if held then Ok locks else if room then Ok (record locks { predicates = locks.predicates ++ q ∷ [] }) else Err refusal.PredicatesFull

  watch_few : (q : Query B) (spent : ℕ) (locks new : Locks B) (held room : Bool) → watching q locks held room ≡ Ok new
      → Few spent (length locks.claims) (length new.claims)
  watch_few q spent locks new true room given =
      let same : locks ≡ new = cc in let long = ap (λ (x : Locks B). length x.claims) same in inl (omega (arith, long))
  watch_few q spent locks new false true given =
      let same : record locks { predicates = locks.predicates ++ q ∷ [] } ≡ new = cc in
      let long = ap (λ (x : Locks B). length x.claims) same in inl (omega (arith, long))
  watch_few q spent locks new false false given = let no : ⊥ = cc in absurd no

  same_few : (spent : ℕ) (locks new : Locks B) → ◌≡◌ {A = Result (Locks B) Refusal} (Ok locks) (Ok new) → Few spent (length locks.claims) (length new.claims)
  same_few spent locks new given = let same : locks ≡ new = cc in let long = ap (λ (x : Locks B). length x.claims) same in inl (omega (arith, long))

  lock_few : (call : Call B) (spent : ℕ) (locks new : Locks B) → with_lock k call spent locks ≡ Ok new → Few spent (length locks.claims) (length new.claims)
  lock_few (Insert e) spent locks new given = claim_few e spent locks new (has k e locks.claims) (nat_lt spent MAX_CLAIMS) refl given
  lock_few (Delete e) spent locks new given = claim_few e spent locks new (has k e locks.claims) (nat_lt spent MAX_CLAIMS) refl given
  lock_few (Search q) spent locks new given = watch_few q spent locks new (has_query k q locks.predicates) (nat_lt (length locks.predicates) MAX_PREDICATES) given
  lock_few Begin spent locks new given = same_few spent locks new given
  lock_few Commit spent locks new given = same_few spent locks new given
  lock_few Abort spent locks new given = same_few spent locks new given

  unless_few : (call : Call B) (least : Option ℕ) (spent : ℕ) (locks new : Locks B) → unless_busy least (with_lock k call spent locks) ≡ Ok new
      → Few spent (length locks.claims) (length new.claims)
  unless_few call None spent locks new given = lock_few call spent locks new given
  unless_few call (Some other) spent locks new given = let no : ⊥ = cc in absurd no

  asked_few : (call : Call B) (r : Result (Locks B) Refusal) (spent : ℕ) (old : Locks B) (notes : List (Note B))
      → ((new : Locks B) → r ≡ Ok new → Few spent (length old.claims) (length new.claims)) → Few spent (length old.claims) (claims_of (asked_with call r old notes).1)
  asked_few call (Ok locks) spent old notes h = h locks refl
  asked_few call (Err why) spent old notes h = inl (omega arith)

  working_few : (call : Call B) (least : Option ℕ) (spent : ℕ) (locks : Locks B) (notes : List (Note B))
      → Few spent (length locks.claims) (claims_of (ask_working k call least spent locks notes).1)
  working_few Begin least spent locks notes = inl (omega arith)
  working_few (Insert e) least spent locks notes =
      asked_few (Insert e) (lock_for k (Insert e) least spent locks) spent locks notes (λ new given. unless_few (Insert e) least spent locks new given)
  working_few (Delete e) least spent locks notes =
      asked_few (Delete e) (lock_for k (Delete e) least spent locks) spent locks notes (λ new given. unless_few (Delete e) least spent locks new given)
  working_few (Search q) least spent locks notes =
      asked_few (Search q) (lock_for k (Search q) least spent locks) spent locks notes (λ new given. unless_few (Search q) least spent locks new given)
  working_few Commit least spent locks notes =
      asked_few Commit (lock_for k Commit least spent locks) spent locks notes (λ new given. unless_few Commit least spent locks new given)
  working_few Abort least spent locks notes = inl (omega arith)

  free_few : (call : Call B) (spent : ℕ) → Few spent 0 (claims_of (ask_free call).1)
  free_few Begin spent = inl (omega arith)
  free_few (Insert e) spent = inl (omega arith)
  free_few (Delete e) spent = inl (omega arith)
  free_few (Search q) spent = inl (omega arith)
  free_few Commit spent = inl (omega arith)
  free_few Abort spent = inl (omega arith)

  ask_few : (call : Call B) (least : Option ℕ) (spent : ℕ) (x : Slot B) → Few spent (claims_of x) (claims_of (ask_slot k call least spent x).1)
  ask_few call least spent Free = free_few call spent
  ask_few call least spent (Working locks notes None) = working_few call least spent locks notes
  ask_few call least spent (Working locks notes (Some pending)) = inl (omega arith)
  ask_few call least spent (Undoing locks notes) = inl (omega arith)
  ask_few call least spent (Waiting number) = inl (omega arith)

  -- If a call is refused because claims are full, they are.

  claim_full : (e : Entry B) (spent : ℕ) (locks : Locks B) (held room : Bool) → nat_lt spent MAX_CLAIMS ≡ room → claiming e locks held room ≡ Err refusal.ClaimsFull
      → MAX_CLAIMS ≤ spent
  claim_full e spent locks true room is given = let no : ⊥ = cc in absurd no
  claim_full e spent locks false true is given = let no : ⊥ = cc in absurd no
  claim_full e spent locks false false is given = ltb-false spent MAX_CLAIMS is

  watch_full : {A : Type 0} → (q : Query B) (locks : Locks B) (held room : Bool) → watching q locks held room ≡ Err refusal.ClaimsFull → A
  watch_full q locks true room given = let no : ⊥ = cc in absurd no
  watch_full q locks false true given = let no : ⊥ = cc in absurd no
  watch_full q locks false false given = let no : ⊥ = cc in absurd no

  lock_full : (call : Call B) (spent : ℕ) (locks : Locks B) → with_lock k call spent locks ≡ Err refusal.ClaimsFull → MAX_CLAIMS ≤ spent
  lock_full (Insert e) spent locks given = claim_full e spent locks (has k e locks.claims) (nat_lt spent MAX_CLAIMS) refl given
  lock_full (Delete e) spent locks given = claim_full e spent locks (has k e locks.claims) (nat_lt spent MAX_CLAIMS) refl given
  lock_full (Search q) spent locks given = watch_full q locks (has_query k q locks.predicates) (nat_lt (length locks.predicates) MAX_PREDICATES) given
  lock_full Begin spent locks given = let no : ⊥ = cc in absurd no
  lock_full Commit spent locks given = let no : ⊥ = cc in absurd no
  lock_full Abort spent locks given = let no : ⊥ = cc in absurd no

  asked_full : (call : Call B) (least : Option ℕ) (spent : ℕ) (old : Locks B) (notes : List (Note B))
      → (asked_with call (lock_for k call least spent old) old notes).0 ≡ asked.Now (reply.Refused refusal.ClaimsFull) → MAX_CLAIMS ≤ spent
  asked_full call (Some other) spent old notes given = let no : ⊥ = cc in absurd no
  asked_full call None spent old notes given = by (with_lock k call spent old) refl given
    where
      by : (r : Result (Locks B) Refusal) → with_lock k call spent old ≡ r → (asked_with call r old notes).0 ≡ asked.Now (reply.Refused refusal.ClaimsFull)
          → MAX_CLAIMS ≤ spent
      by (Ok locks) is given = let no : ⊥ = cc in absurd no
      by (Err why) is given = let same : why ≡ refusal.ClaimsFull = cc in lock_full call spent old (is ∙ ap (λ x. Err x) same)

  slot_full : (call : Call B) (least : Option ℕ) (spent : ℕ) (x : Slot B) → (ask_slot k call least spent x).0 ≡ asked.Now (reply.Refused refusal.ClaimsFull)
      → MAX_CLAIMS ≤ spent
  slot_full Begin least spent (Working locks notes None) given = let no : ⊥ = cc in absurd no
  slot_full Abort least spent (Working locks notes None) given = let no : ⊥ = cc in absurd no
  slot_full (Insert e) least spent (Working locks notes None) given = asked_full (Insert e) least spent locks notes given
  slot_full (Delete e) least spent (Working locks notes None) given = asked_full (Delete e) least spent locks notes given
  slot_full (Search q) least spent (Working locks notes None) given = asked_full (Search q) least spent locks notes given
  slot_full Commit least spent (Working locks notes None) given = asked_full Commit least spent locks notes given
  slot_full Begin least spent Free given = let no : ⊥ = cc in absurd no
  slot_full (Insert e) least spent Free given = let no : ⊥ = cc in absurd no
  slot_full (Delete e) least spent Free given = let no : ⊥ = cc in absurd no
  slot_full (Search q) least spent Free given = let no : ⊥ = cc in absurd no
  slot_full Commit least spent Free given = let no : ⊥ = cc in absurd no
  slot_full Abort least spent Free given = let no : ⊥ = cc in absurd no
  slot_full call least spent (Working locks notes (Some pending)) given = let no : ⊥ = cc in absurd no
  slot_full call least spent (Undoing locks notes) given = let no : ⊥ = cc in absurd no
  slot_full call least spent (Waiting number) given = let no : ⊥ = cc in absurd no

  abbrev ask_there : ℕ → Call B → Engine B → Bool → Asked B × Engine B
  ask_there s call old there =
      if there then
      (let r = ask_in k s call old.slots in (r.0, record old { slots = with_slot s r.1 old.slots }))
      else (asked.Now (reply.Refused refusal.BadSession), old)

  pub refused_as_full : (s : ℕ) (call : Call B) (old : Engine B) → (ask k s call old).0 ≡ asked.Now (reply.Refused refusal.ClaimsFull) → MAX_CLAIMS ≤ claims_held old.slots
  refused_as_full s call old given = by (is_session s) given
    where
      by : (there : Bool) → (ask_there s call old there).0 ≡ asked.Now (reply.Refused refusal.ClaimsFull) → MAX_CLAIMS ≤ claims_held old.slots
      by true given = slot_full call (least_barring k call s 1 old.slots) (claims_held old.slots) (slot_at s old.slots) given
      by false given = let no : ⊥ = cc in absurd no

  module _ (l : IsLawful k) (old : Engine B) (i : IsSound k old) where
    -- one slot changed changes what is held in all by its own claims
    held_set : (s : ℕ) (x : Slot B) → is_session s ≡ true → claims_held (with_slot s x old.slots) + claims_of (slot_at s old.slots) ≡ claims_held old.slots + claims_of x
    held_set s x is =
        let at : slot_at s old.slots ≡ slice_index_or old.slots (s - 1) Free = ap (λ b. if b then slice_index_or old.slots (s - 1) Free else Free) is in
        let same = ap (λ (y : Slot B). claims_of y) at in
        let sum = sum_by-set claims_of old.slots (s - 1) x Free (place_below s old.slots is i.eight) in
        omega (arith, same, sum)

    no_more : (s : ℕ) (x : Slot B) → is_session s ≡ true → claims_of x ≤ claims_of (slot_at s old.slots) → claims_held old.slots ≤ 512 → claims_held (with_slot s x old.slots) ≤ 512
    no_more s x is less few = let sum = held_set s x is in omega (arith, sum, less, few)

    working_more : (s : ℕ) (locks : Locks B) (notes later : List (Note B)) (call open_then : Option (Call B)) → slot_at s old.slots ≡ Working locks notes call
        → claims_held old.slots ≤ 512 → claims_held (with_slot s (Working locks later open_then) old.slots) ≤ 512
    working_more s locks notes later call open_then at few =
        let same = ap (λ (y : Slot B). claims_of y) at in
        no_more s (Working locks later open_then) (working_there k l old i s locks notes call at) (omega (arith, same)) few

    ask_there_few : (s : ℕ) (call : Call B) → is_session s ≡ true → claims_held old.slots ≤ 512
        → claims_held (with_slot s (ask_in k s call old.slots).1 old.slots) ≤ 512
    ask_there_few s call is few =
        let sum = held_set s (ask_in k s call old.slots).1 is in
        elim (ask_few call (least_barring k call s 1 old.slots) (claims_held old.slots) (slot_at s old.slots)) [
          | inl less ↦ omega (arith, sum, less, few)
          | inr more ↦ (let a = more.0 in let b = more.1 in omega (arith, sum, a, b))
        ]

    asked_engine_few : (s : ℕ) (call : Call B) (there : Bool) → is_session s ≡ there → claims_held old.slots ≤ 512
        → claims_held (ask_there s call old there).1.slots ≤ 512
    asked_engine_few s call true is few = ask_there_few s call is few
    asked_engine_few s call false is few = few

    by_slots : (new : Engine B) (slots : List (Slot B)) → new.slots ≡ slots → claims_held slots ≤ 512 → claims_held new.slots ≤ 512
    by_slots new slots same few = subst (λ (xs : List (Slot B)). claims_held xs ≤ 512) (sym same) few

    closed_few : (s : ℕ) (call : Call B) (new : Engine B) → IsClosed s call old new → claims_held old.slots ≤ 512 → claims_held new.slots ≤ 512
    closed_few s call new c few =
        by_slots new (with_slot s (Working c.locks c.notes None) old.slots) c.is.slots (working_more s c.locks c.notes c.notes (Some call) None c.asked few)

    written_few : (s : ℕ) (call : Call B) (e : Entry B) (now : Bool) (new : Engine B) → IsWritten k s call e now old new → claims_held old.slots ≤ 512 → claims_held new.slots ≤ 512
    written_few s call e now new w few =
        by_slots new (with_slot s (Working w.locks w.then_notes None) old.slots) w.is.slots (working_more s w.locks w.notes w.then_notes (Some call) None w.asked few)

    freed_few : (s : ℕ) (x : Slot B) (new : Engine B) → is_session s ≡ true → claims_of x ≡ 0 → new.slots ≡ with_slot s x old.slots → claims_held old.slots ≤ 512
        → claims_held new.slots ≤ 512
    freed_few s x new is none same few = by_slots new (with_slot s x old.slots) same (no_more s x is (omega (arith, none)) few)

    fault_few : (why : Refusal) (new : Engine B) → MeetsFault why old new → claims_held old.slots ≤ 512 → claims_held new.slots ≤ 512
    fault_few refusal.Device new h few = by_slots new old.slots h.1.slots few
    fault_few refusal.Failed new h few = by_slots new old.slots h.slots few
    fault_few other new h few = absurd h

    refused_few : (s : ℕ) (call : Call B) (why : Refusal) (new : Engine B) → AskRefused k s call why old new → claims_held old.slots ≤ 512 → claims_held new.slots ≤ 512
    refused_few s call refusal.HistoryFull new h few = by_slots new old.slots h.2.slots few
    refused_few s call refusal.Device new h few = by_slots new old.slots h.1.slots few
    refused_few s call refusal.Failed new h few = by_slots new old.slots h.slots few
    refused_few s call other new h few = absurd h

    pub claims_stay_few : (new : Engine B) (event : Happening B) → IsHappening k old event new → claims_held old.slots ≤ MAX_CLAIMS → claims_held new.slots ≤ MAX_CLAIMS
    claims_stay_few new (events.Asks s call given) h few =
        by_slots new (ask k s call old).1.slots h.2.slots (asked_engine_few s call (is_session s) refl few)
    claims_stay_few new (events.RefusesAsk s call why) h few = refused_few s call why new h few
    claims_stay_few new (events.Inserts s e) h few = written_few s (Insert e) e true new h few
    claims_stay_few new (events.Deletes s e) h few = written_few s (Delete e) e false new h few
    claims_stay_few new (events.FindsPresent s e) h few = closed_few s (Insert e) new h.1 few
    claims_stay_few new (events.FindsAbsent s e) h few = closed_few s (Delete e) new h.1 few
    claims_stay_few new (events.Finds s query entries) h few = closed_few s (Search query) new h.1 few
    claims_stay_few new (events.Closes s call why) h few = closed_few s call new h.1 few
    claims_stay_few new (events.Seals s set number) h few =
        freed_few s (Waiting number) new (working_there k l old i s h.locks h.notes (Some Commit) h.asked) refl h.is.slots few
    claims_stay_few new (events.Durable number) h few = by_slots new old.slots h.is.slots few
    claims_stay_few new (events.Acknowledges s number) h few = freed_few s Free new (waiting_there k l old i s number h.waits) refl h.is.slots few
    claims_stay_few new (events.Undoes s e) h few = by_slots new old.slots h.is.slots few
    claims_stay_few new (events.EndsUndo s) h few = freed_few s Free new (undoing_there k l old i s h.locks h.notes h.aborts) refl h.is.slots few
    claims_stay_few new (events.RefusesCall s why) h few = fault_few why new h.1 few
    claims_stay_few new events.Fails h few = by_slots new old.slots h.slots few
    claims_stay_few new (events.Opens number) h few = by_slots new (replicate SESSIONS Free) h.slots (omega arith)
    claims_stay_few new events.Works h few = by_slots new old.slots h.slots few

module _ {B : Type 0} (k : Keys B) (l : IsLawful k) where
  pub claims_stay_few_over : (list : List (Happening B)) (old new : Engine B) (m : Machine B) → IsSound k old → SeenAs k old m → AreHappenings k old list new
      → claims_held old.slots ≤ MAX_CLAIMS → claims_held new.slots ≤ MAX_CLAIMS
  claims_stay_few_over [] old new m i seen same few = subst (λ (e : Engine B). claims_held e.slots ≤ MAX_CLAIMS) (sym same) few
  claims_stay_few_over (event ∷ list) old new m i seen run few =
      let f : Follows k m (step_of event) run.0 = event_follows k l old m i seen event run.0 run.1 in
      claims_stay_few_over list run.0 new f.next (still_sound k l old run.0 m (step_of event) i seen f) f.seen run.2 (claims_stay_few k l old i run.0 event run.1 few)
