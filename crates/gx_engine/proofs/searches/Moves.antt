-- A search: its look begins, goes on, and is its answer once it has ended.
use Rattle.std.proofs.Common.{◌≡◌, ◌≢◌, ◌∙◌, sym, ap, refl, subst, inl, ℕ, ◌-◌, ◌≤◌, Bool, true, false, List, [], ◌∷◌, map, length, None, arith}
use Rattle.gx_geom.specs.declared.refusal.Refusal.{Refusal}
use Rattle.gx_geom.specs.declared.refusal.Refusal.TheVariants as refusal
use Rattle.gx_machine.specs.declared.entry.Entry.{Entry}
use Rattle.gx_machine.specs.declared.query.Query.{Query}
use Rattle.gx_machine.specs.declared.call.Call.TheVariants.{Search}
use Rattle.gx_machine.specs.declared.reply.Reply.TheVariants as reply
use Rattle.gx_machine.specs.Machine.{is_session}
use Rattle.gx_disk.specs.Device.{Device}
use Rattle.gx_page.specs.Contents.{Contents}
use Rattle.gx_node.specs.Reading.{Format}
use Rattle.gx_node.specs.Reach.{TraversalItem}
use Rattle.gx_tree.specs.declared.look.Look.{Look}
use Rattle.gx_tree.specs.Found.{pairs_found}
use Rattle.gx_events.specs.Engines.{gathered}
use Rattle.gx_events.specs.Happenings.{Happening, Closes, Finds}
use Rattle.gx_events.specs.Slots.{Working}
use Rattle.gx_index_laws.specs.Classes.{Class, IsLawful, Page, entry_of}
use Rattle.gx_index_laws.specs.Happening as happening
use Rattle.gx_index_laws.specs.States as index
use Rattle.gx_index_laws.proofs.Answering.{look_answers}
use Rattle.gx_durable.specs.Spelled.{Reading}
use Rattle.gx_events.specs.declared.outcome.Outcome.{Outcome}
use Rattle.gx_events.specs.declared.outcome.Outcome.TheVariants.{Replied, More, Help}
use Rattle.gx_phases.specs.declared.phase.Phase.TheVariants as phase
use Rattle.gx_phases.specs.Moves.{answered_state}
use Rattle.gx_phases.specs.States.{State, IsKept, note_of, phase_at}
use Rattle.gx_engine.specs.declared.work.Work.{Work}
use Rattle.gx_engine.specs.declared.work.Work.TheVariants.{Descends, Looks, Rests, Seeks}
use Rattle.gx_engine.specs.States.{Parts}
use Rattle.gx_engine.specs.Looks.{Reaches, StopComes, look_events}
use Rattle.gx_engine.specs.Moves.{Moves, MovesSo, calling}
use Rattle.gx_engine.specs.Searches.{AreSearching, FindComes, SearchComes, search_events}
use Rattle.gx_engine.specs.Writes.{OnlyReads, brought}
use Rattle.gx_engine.proofs.Further.{reached_reply}
use Rattle.gx_engine.proofs.LookMoves.{answered_again, answers, as_it_stays, at_work, closes_moves, held, its_work, looks_at, put_kept, slot_now}
use Rattle.gx_engine.proofs.Serving.{same_device}
use Rattle.gx_engine.proofs.AtWork.{answered_so, reads_of}

-- a stack of no items
ended : (stack : List TraversalItem) → length stack ≡ 0 → stack ≡ []
ended [] none = refl
ended (x ∷ xs) none = absurd (omega (arith, none))

-- a look that has ended is the answer
module _ {B D : Type 0} (c : Class B) (lawful : 4 ≤ c.rules.most → IsLawful c) (r : Reading (Entry B) (Page B)) (f : Format B) (passes : ℕ → Contents → Bool)
    (d : Device) (e : Parts B D) (kept : IsKept c.keys e.sessions) (s : ℕ) (is : is_session s ≡ true) (query : Query B) (rest : Work B)
    (at : phase_at (s - 1) e.sessions.phases ≡ phase.Open (Search query) rest) (look : Look B) (works : e.sessions.failed ≡ false) where
  abbrev was : Parts B D
  was = calling s (Search query) (Looks look) e

  was_kept : IsKept c.keys was.sessions
  was_kept = put_kept c.keys e kept s is (Search query) rest at (Looks look)

  its_phase : phase_at (s - 1) was.sessions.phases ≡ phase.Open (Search query) (Looks look)
  its_phase = at_work c.keys e kept s is (Search query) rest at (Looks look)

  same_answer : answered_state s e.sessions ≡ answered_state s was.sessions
  same_answer = answered_again c.keys e kept s is (Search query) rest at (Looks look)

  finds : length look.stack.items ≡ 0 → (entries : List (Entry B)) → entries ≡ gathered c.keys (map entry_of (pairs_found look.found.items))
      → Moves c r f passes d d s was (record was { sessions = answered_state s was.sessions }) (Replied (reply.Found entries)) (Finds s query entries ∷ [])
  finds none entries are bodies i h =
      let l = lawful h.some in
      let looks = looks_at c l r f passes d was was_kept s is (Search query) (Looks look) its_phase bodies i h look refl in
      let its = held c l r f passes d was was_kept s is (Search query) (Looks look) its_phase bodies i h in
      let done : i.work s ≡ index.Looks [] (pairs_found look.found.items) = looks ∙ ap (λ (xs : List TraversalItem). index.Looks xs (pairs_found look.found.items)) (ended look.stack.items none) in
      answers c l r f passes d was was_kept s is (Search query) (Looks look) its_phase bodies i h d e.volume refl refl (same_device d)
      (as_it_stays c l r f passes d was was_kept s is (Search query) (Looks look) its_phase bodies i h) (reply.Found entries) (Finds s query entries)
      (subst (λ (es : List (Entry B)). happening.Happens c i (Finds s query es) (happening.slotted s (Working its.locks (map note_of its.notes) None) index.Rests i)) (sym are)
      (look_answers c l i h.whole (h.sessions.failed ∙ works) s its.locks (map note_of its.notes) query (pairs_found look.found.items)
      (slot_now c l r f passes d was was_kept s is (Search query) (Looks look) its_phase bodies i h) done))

  pub found_moves : length look.stack.items ≡ 0 → (entries : List (Entry B)) → entries ≡ gathered c.keys (map entry_of (pairs_found look.found.items))
      → Moves c r f passes d d s was (record e { sessions = answered_state s e.sessions }) (Replied (reply.Found entries)) (Finds s query entries ∷ [])
  found_moves none entries are =
      subst (λ (x : State B (Work B)). Moves c r f passes d d s was (record e { sessions = x }) (Replied (reply.Found entries)) (Finds s query entries ∷ [])) (sym same_answer)
      (finds none entries are)

  pub closed_moves : Moves c r f passes d d s was (record e { sessions = answered_state s e.sessions }) (Replied (reply.Refused refusal.Memory)) (Closes s (Search query) refusal.Memory ∷ [])
  closed_moves =
      subst (λ (x : State B (Work B)). Moves c r f passes d d s was (record e { sessions = x }) (Replied (reply.Refused refusal.Memory)) (Closes s (Search query) refusal.Memory ∷ [])) (sym same_answer)
      (closes_moves c lawful r f passes d was was_kept s is (Search query) (Looks look) its_phase works)

-- What stops as any call's look is a search's.
module _ {B D : Type 0} (passes : ℕ → Contents → Bool) (d e : Device) (s : ℕ) (query : Query B) (old new : Parts B D) where
  stop_refused : (why : Refusal) → StopComes passes d e s old new (Replied (reply.Refused why))
      → SearchComes passes d e s query old new (Replied (reply.Refused why)) × (search_events s query (Replied (reply.Refused why)) ≡ look_events s (Search query) (Replied (reply.Refused why)))
  stop_refused refusal.Memory comes = (comes, refl)
  stop_refused refusal.Device comes = (comes, refl)
  stop_refused refusal.Damaged comes = (comes, refl)
  stop_refused why comes = absurd comes

  -- an outcome by which a look stops is a search's, and so are its events
  pub stop_search : (outcome : Outcome B) → StopComes passes d e s old new outcome
      → SearchComes passes d e s query old new outcome × (search_events s query outcome ≡ look_events s (Search query) outcome)
  stop_search (Replied (reply.Refused why)) comes = stop_refused why comes
  stop_search (Help n) comes = (comes, refl)
  stop_search other comes = absurd comes

  -- only pages were brought
  search_reads_refused : (why : Refusal) → SearchComes passes d e s query old new (Replied (reply.Refused why)) → OnlyReads old new
  search_reads_refused refusal.Memory comes = reads_of old new _ comes refl
  search_reads_refused refusal.Device comes = reads_of old new _ comes.1 refl
  search_reads_refused refusal.Damaged comes = reads_of old new _ comes refl
  search_reads_refused why comes = absurd comes

  pub search_reads : (outcome : Outcome B) → SearchComes passes d e s query old new outcome → OnlyReads old new
  search_reads More comes = reads_of old new _ comes.2 refl
  search_reads (Replied (reply.Found entries)) comes = reads_of old new _ comes refl
  search_reads (Replied (reply.Refused why)) comes = search_reads_refused why comes
  search_reads (Help n) comes = reads_of old new _ comes.1 refl
  search_reads other comes = absurd comes

  -- a look that ended in the move, and is the answer
  pub found_comes : (mid : Parts B D) (work : Work B) → mid ≡ calling s (Search query) work (brought old mid) → (outcome : Outcome B) → FindComes s mid new outcome → SearchComes passes d e s query old new outcome
  found_comes mid work at (Replied (reply.Found entries)) comes = answered_so s (Search query) work old mid new at comes
  found_comes mid work at (Replied (reply.Refused refusal.Memory)) comes = answered_so s (Search query) work old mid new at comes
  found_comes mid work at other comes = absurd comes

-- the events of any part of a search may be its events
are_searching : {B : Type 0} (s : ℕ) (query : Query B) (outcome : Outcome B) → AreSearching s query outcome (search_events s query outcome)
are_searching s query (Replied (reply.Found entries)) = inl refl
are_searching s query (Replied (reply.Refused refusal.Memory)) = inl refl
are_searching s query other = refl

pub search_so : {B D : Type 0} (c : Class B) (r : Reading (Entry B) (Page B)) (f : Format B) (passes : ℕ → Contents → Bool) (d e : Device) (s : ℕ) (query : Query B) (old new : Parts B D) (outcome : Outcome B)
    → Moves c r f passes d e s old new outcome (search_events s query outcome) → MovesSo c r f passes d e s old new outcome (AreSearching s query outcome)
search_so c r f passes d e s query old new outcome moves bodies i h = (search_events s query outcome, are_searching s query outcome, moves bodies i h)

-- a look that has ended, and is the answer
pub found_moves_so : {B D : Type 0} (c : Class B) → (4 ≤ c.rules.most → IsLawful c) → (r : Reading (Entry B) (Page B)) (f : Format B) (passes : ℕ → Contents → Bool) (state : D → Device) (e : Device) (s : ℕ)
    (query : Query B) (old mid new : Parts B D) → Reaches c r f passes state s old mid → (outcome : Outcome B) → FindComes s mid new outcome
    → Moves c r f passes (state mid.volume.shelf.disk) e s mid new outcome (search_events s query outcome)
    → MovesSo c r f passes (state old.volume.shelf.disk) e s old new outcome (AreSearching s query outcome)
found_moves_so c lawful r f passes state e s query old mid new reaches (Replied (reply.Found entries)) comes moves =
    reached_reply c lawful r f passes state e s old mid new reaches (reply.Found entries) (Finds s query entries) moves
found_moves_so c lawful r f passes state e s query old mid new reaches (Replied (reply.Refused refusal.Memory)) comes moves =
    reached_reply c lawful r f passes state e s old mid new reaches (reply.Refused refusal.Memory) (Closes s (Search query) refusal.Memory) moves
found_moves_so c lawful r f passes state e s query old mid new reaches other comes moves = absurd comes

-- no index has a search that descends or seeks
pub no_search : {B D : Type 0} (c : Class B) → (4 ≤ c.rules.most → IsLawful c) → (r : Reading (Entry B) (Page B)) (f : Format B) (passes : ℕ → Contents → Bool) (d g : Device) (e : Parts B D)
    → IsKept c.keys e.sessions → (s : ℕ) → is_session s ≡ true → (query : Query B) (was : Work B) → phase_at (s - 1) e.sessions.phases ≡ phase.Open (Search query) was
    → was ≢ Rests → ((look : Look B) → was ≢ Looks look) → (new : Parts B D) (outcome : Outcome B) (events : List (Happening B)) → Moves c r f passes d g s e new outcome events
no_search c lawful r f passes d g e kept s is query Rests at begun never new outcome events = absurd (begun refl)
no_search c lawful r f passes d g e kept s is query (Looks look) at begun never new outcome events = absurd (never look refl)
no_search c lawful r f passes d g e kept s is query (Descends parent item) at begun never new outcome events =
    λ bodies i h. absurd (its_work c (lawful h.some) r f passes d e kept s is (Search query) (Descends parent item) at bodies i h)
no_search c lawful r f passes d g e kept s is query (Seeks leaf) at begun never new outcome events =
    λ bodies i h. absurd (its_work c (lawful h.some) r f passes d e kept s is (Search query) (Seeks leaf) at bodies i h)
