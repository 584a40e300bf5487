-- The look of an insert or a delete: it goes on, or turns into a seek of its pair; and once it has ended, with its pair nowhere, an
-- insert descends and a delete is answered.
use Rattle.std.proofs.Common.{◌≡◌, ◌≢◌, ◌∙◌, sym, ap, refl, subst, inl, inr, ℕ, zero, suc, ◌+◌, ◌-◌, ◌<◌, ◌≤◌, Bool, true, false, Some, List, [], ◌∷◌, ◌++◌, map, filter, length, arith}
use Rattle.std.specs.Prelude.{cond, ◌==◌}
use Rattle.gx_geom.specs.declared.refusal.Refusal.{Refusal}
use Rattle.gx_geom.specs.declared.refusal.Refusal.TheVariants as refusal
use Rattle.gx_machine.specs.declared.entry.Entry.{Entry}
use Rattle.gx_machine.specs.declared.call.Call.{Call}
use Rattle.gx_machine.specs.declared.call.Call.TheVariants.{Begin, Insert, Delete, Search, Commit, Abort}
use Rattle.gx_machine.specs.declared.reply.Reply.TheVariants as reply
use Rattle.gx_machine.specs.Keys.{Keys, same_entry}
use Rattle.gx_machine.specs.Machine.{is_session}
use Rattle.gx_machine.proofs.SetLaws.{same_is}
use Rattle.gx_disk.specs.Device.{Device}
use Rattle.gx_page.specs.Contents.{Contents}
use Rattle.gx_node.specs.Reading.{Format}
use Rattle.gx_pool.specs.Bringing.{OnlyRead}
use Rattle.gx_node.specs.Lists.{Each, how_many, one_if}
use Rattle.gx_node.specs.Trees.{Pair, Tree, Used}
use Rattle.gx_node.specs.Legal.{Legal}
use Rattle.gx_node.specs.Reach.{TraversalItem}
use Rattle.gx_node.specs.Looks.{ItemFits, from_root}
use Rattle.gx_node.proofs.OwnLook.{item_used}
use Rattle.gx_node.proofs.Sums.{each_parts}
use Rattle.gx_tree.specs.declared.found.Found.{Found}
use Rattle.gx_tree.specs.declared.look.Look.{Look}
use Rattle.gx_tree.specs.Found.{found_at, pairs_found}
use Rattle.gx_tree.specs.Looking.{LookStep}
use Rattle.gx_tree.proofs.Turned.{last_of}
use Rattle.gx_recovery.specs.Records.{Record}
use Rattle.gx_recovery.proofs.Tests.{true_or_false, and_second}
use Rattle.gx_events.specs.Happenings.{Closes, FindsAbsent, RefusesCall, Works}
use Rattle.gx_events.specs.Slots.{Slot, Working, slot_at}
use Rattle.gx_events.specs.Wants as laws
use Rattle.gx_index_laws.specs.Classes.{Class, IsLawful, Page, entry_of, is_of, known_of, pair_of}
use Rattle.gx_index_laws.specs.States as index
use Rattle.gx_index_laws.specs.States.{tree_now}
use Rattle.gx_index_laws.specs.Working.{SeeksFor, open_call}
use Rattle.gx_index_laws.proofs.Answering.{absent_by_look, look_descends, look_seeks}
use Rattle.gx_index_laws.proofs.Living.{is_pair, pair_is, same_refl}
use Rattle.gx_index_laws.proofs.Measuring.{look_descends_falls, look_seeks_falls}
use Rattle.gx_index_laws.proofs.Standing.{is_legal}
use Rattle.gx_index_laws.proofs.Tools.{not_true}
use Rattle.gx_durable.specs.Spelled.{Reading}
use Rattle.gx_events.specs.declared.outcome.Need.{Need}
use Rattle.gx_events.specs.declared.outcome.Outcome.{Outcome}
use Rattle.gx_events.specs.declared.outcome.Outcome.TheVariants.{Replied, More, Help}
use Rattle.gx_phases.specs.declared.phase.Phase.TheVariants as phase
use Rattle.gx_phases.specs.Moves.{WritesEntry, answered_state}
use Rattle.gx_phases.specs.States.{State, IsKept, note_of, phase_at}
use Rattle.gx_store.specs.declared.fault.StoreFault.{StoreFault}
use Rattle.gx_store.specs.declared.fault.StoreFault.TheVariants as fault
use Rattle.gx_store.specs.Faults.{IsWhy}
use Rattle.gx_store.specs.State.{IsInOrder}
use Rattle.gx_storage.specs.Bringing.{bringing}
use Rattle.gx_storage.specs.Changes.{begun}
use Rattle.gx_storage.specs.Flushing.{Helps}
use Rattle.gx_storage.specs.Keeps.{KeepsTheSame, ShowsKeys, ShowsTheLogs, tree_shown}
use Rattle.gx_storage.specs.State.{Volume}
use Rattle.gx_engine.specs.declared.work.Work.{Work}
use Rattle.gx_engine.specs.declared.work.Work.TheVariants.{Descends, Looks, Rests, Seeks}
use Rattle.gx_engine.specs.Holds.{CallDescends, CallSeeks, Holds, MayHaveFound}
use Rattle.gx_engine.specs.Looks.{StopComes, look_events, turned_by, work_before}
use Rattle.gx_engine.specs.Moves.{Moves, MovesOn, MovesSo, calling}
use Rattle.gx_engine.specs.Refusals.{CanBeHelped, IsEarly, IsHelp}
use Rattle.gx_engine.specs.States.{Parts, is_due, runs}
use Rattle.gx_engine.specs.Writes.{AreWriting, AsksAt, AsksRoom, IsAtLook, IsDelayed, OnlyReads, WriteBy, WriteComes, brought, is_looking, write_events}
use Rattle.gx_engine.proofs.LookMoves.{answered_again, answers, as_it_stays, at_work, goes_on, held, looks_at, may_have_found, moves_on, phase_again, put_kept, slot_now}
use Rattle.gx_engine.proofs.Reading.{its_phase, read_at_hand, settled, stays, step_here, look_wants, was_kept}
use Rattle.gx_engine.proofs.Serving.{same_device}
use Rattle.gx_engine.proofs.AtWork.{reads_of, worked_so}

-- the events of what any call's look may come to
pub memory_told : {B : Type 0} (s : ℕ) (call : Call B) → write_events s call (Replied (reply.Refused refusal.Memory)) ≡ Closes s call refusal.Memory ∷ []
memory_told s Begin = refl
memory_told s (Insert e) = refl
memory_told s (Delete e) = refl
memory_told s (Search query) = refl
memory_told s Commit = refl
memory_told s Abort = refl

device_told : {B : Type 0} (s : ℕ) (call : Call B) → write_events s call (Replied (reply.Refused refusal.Device)) ≡ RefusesCall s refusal.Device ∷ []
device_told s Begin = refl
device_told s (Insert e) = refl
device_told s (Delete e) = refl
device_told s (Search query) = refl
device_told s Commit = refl
device_told s Abort = refl

damaged_told : {B : Type 0} (s : ℕ) (call : Call B) → write_events s call (Replied (reply.Refused refusal.Damaged)) ≡ []
damaged_told s Begin = refl
damaged_told s (Insert e) = refl
damaged_told s (Delete e) = refl
damaged_told s (Search query) = refl
damaged_told s Commit = refl
damaged_told s Abort = refl

help_told : {B : Type 0} (s : ℕ) (call : Call B) (n : Need) → write_events s call (Help n) ≡ []
help_told s Begin n = refl
help_told s (Insert e) n = refl
help_told s (Delete e) n = refl
help_told s (Search query) n = refl
help_told s Commit n = refl
help_told s Abort n = refl

-- the events of any move may be a write's
pub are_writing : {B : Type 0} (s : ℕ) (call : Call B) (outcome : Outcome B) → AreWriting s call outcome (write_events s call outcome)
are_writing s (Delete e) (Replied (reply.Refused refusal.Absent)) = inl refl
are_writing s call outcome = refl

-- a call that reads a page for its look is at that, or has yet to begin with it
looks_before : {B : Type 0} (begun : Bool) (look : Look B) → is_looking (work_before begun look) ≡ true
looks_before true look = refl
looks_before false look = refl

pub at_look : {B D : Type 0} (k : Keys B) (e : Parts B D) (kept : IsKept k e.sessions) (s : ℕ) (is : is_session s ≡ true) (call : Call B) (rest : Work B)
    (at : phase_at (s - 1) e.sessions.phases ≡ phase.Open call rest) (begun : Bool) (look : Look B) → IsAtLook s call (calling s call (work_before begun look) e)
at_look k e kept s is call rest at begun look =
    record { work = work_before begun look; at = at_work k e kept s is call rest at (work_before begun look); looks = looks_before begun look }

-- What stops as any call's look is a write's.
module _ {B D : Type 0} (k : Keys B) (f : Format B) (passes : ℕ → Contents → Bool) (key : ℕ) (d e : Device) (s : ℕ) (call : Call B) (old new : Parts B D) where
  -- what helps a look asks for no room in the log
  -- it asks for none
  looks_asks : (work : Work B) → is_looking work ≡ true → AsksAt k f key d old work 0
  looks_asks Rests looks = refl
  looks_asks (Looks look) looks = refl
  looks_asks (Descends parent item) looks = absurd (let both : true ≡ false = sym looks in cc)
  looks_asks (Seeks leaf) looks = absurd (let both : true ≡ false = sym looks in cc)

  help_delays : IsAtLook s call old → (n : Need) → IsHelp passes d e (runs old.checkpoint) (bringing old.volume) new.volume.shelf n
      → IsDelayed (AsksRoom k f key d s call old) passes d e old new n
  help_delays looks n help =
      (0, record { work = looks.work; at = looks.at; asks = looks_asks looks.work looks.looks }, omega arith, inr (by help.fault refl))
    where
      why_is : (x : StoreFault) → help.fault ≡ x → IsWhy passes d e (bringing old.volume) new.volume.shelf x
      why_is x is = subst (λ (y : StoreFault). IsWhy passes d e (bringing old.volume) new.volume.shelf y) is help.why

      by : (x : StoreFault) → help.fault ≡ x → (now : IsHelp passes d e (runs old.checkpoint) (begun old.volume 0) new.volume.shelf n) × IsEarly now.fault (is_due old)
      by fault.NoRoom is = absurd (let no : true ≡ false = why_is fault.NoRoom is in cc)
      by (fault.TooFewFrames frames) is = (
        record {
          fault = fault.TooFewFrames frames;
          can = tt;
          why = why_is (fault.TooFewFrames frames) is;
          help = help.help;
          helps = subst (λ (x : StoreFault). Helps new.volume.shelf x help.help) is help.helps;
          is = help.is;
          stamps = help.stamps;
        },
        tt,
      )
      by fault.Device is = absurd (subst (λ (x : StoreFault). CanBeHelped x) is help.can)
      by fault.Damaged is = absurd (subst (λ (x : StoreFault). CanBeHelped x) is help.can)

  stop_refused : (why : Refusal) → IsAtLook s call old → StopComes passes d e s old new (Replied (reply.Refused why))
      → WriteComes k f passes key d e s call old new (Replied (reply.Refused why)) × (write_events s call (Replied (reply.Refused why)) ≡ look_events s call (Replied (reply.Refused why)))
  stop_refused refusal.Memory looks comes = ((looks, comes), memory_told s call)
  stop_refused refusal.Device looks comes = (comes, device_told s call)
  stop_refused refusal.Damaged looks comes = (comes, damaged_told s call)
  stop_refused why looks comes = absurd comes

  -- an outcome by which a look stops is a write's, and so are its events
  pub stop_write : IsAtLook s call old → (outcome : Outcome B) → StopComes passes d e s old new outcome
      → WriteComes k f passes key d e s call old new outcome × (write_events s call outcome ≡ look_events s call outcome)
  stop_write looks (Replied (reply.Refused why)) comes = stop_refused why looks comes
  stop_write looks (Help n) comes = ((help_delays looks n comes.0, comes.1), help_told s call n)
  stop_write looks other comes = absurd comes

-- only pages were brought by a look that stops
stop_reads_refused : {B D : Type 0} (passes : ℕ → Contents → Bool) (d e : Device) (s : ℕ) (old new : Parts B D) (why : Refusal) → StopComes passes d e s old new (Replied (reply.Refused why)) → OnlyReads old new
stop_reads_refused passes d e s old new refusal.Memory comes = reads_of old new _ comes refl
stop_reads_refused passes d e s old new refusal.Device comes = reads_of old new _ comes.1 refl
stop_reads_refused passes d e s old new refusal.Damaged comes = reads_of old new _ comes refl
stop_reads_refused passes d e s old new why comes = absurd comes

pub stop_reads : {B D : Type 0} (passes : ℕ → Contents → Bool) (d e : Device) (s : ℕ) (old new : Parts B D) (outcome : Outcome B) → StopComes passes d e s old new outcome → OnlyReads old new
stop_reads passes d e s old new (Replied (reply.Refused why)) comes = stop_reads_refused passes d e s old new why comes
stop_reads passes d e s old new (Help n) comes = reads_of old new _ comes.1 refl
stop_reads passes d e s old new other comes = absurd comes

-- an insert whose look ended in the move, and that descends
pub descends_comes : {B D : Type 0} (Asks : ℕ → Type 0) (Lacks : Type 0) (Goes : Device → Parts B D → Type 0) (k : Keys B) (passes : ℕ → Contents → Bool) (d e : Device) (s : ℕ) (call : Call B) (was work : Work B) (old mid new : Parts B D) → mid ≡ calling s call was (brought old mid)
    → new ≡ calling s call work mid → Goes e new → WriteBy Asks Lacks Goes k passes d e s call old new More × OnlyReads old new
descends_comes {B} {D} Asks Lacks Goes k passes d e s call was work old mid new at is goes =
    let known : new ≡ calling s call work (brought old mid) = worked_so s call was work old mid new at is in
    ((work, known ∙ sym (ap (λ (x : Parts B D). calling s call work (record old { volume = x.volume })) known), ap (λ (x : Parts B D). x.volume.most) known, goes), reads_of old new _ known refl)

-- the same move, as its events
pub write_so : {B D : Type 0} (c : Class B) (r : Reading (Entry B) (Page B)) (f : Format B) (passes : ℕ → Contents → Bool) (d e : Device) (s : ℕ) (call : Call B) (old new : Parts B D) (outcome : Outcome B)
    → Moves c r f passes d e s old new outcome (write_events s call outcome) → MovesSo c r f passes d e s old new outcome (AreWriting s call outcome)
write_so c r f passes d e s call old new outcome moves bodies i h = (write_events s call outcome, are_writing s call outcome, moves bodies i h)

-- a write that goes on, as its events
pub more_write : {B D : Type 0} (c : Class B) (r : Reading (Entry B) (Page B)) (f : Format B) (passes : ℕ → Contents → Bool) (d e : Device) (s : ℕ) (call : Call B) (old new : Parts B D) (outcome : Outcome B) → outcome ≡ More
    → Moves c r f passes d e s old new More (Works ∷ []) → Moves c r f passes d e s old new outcome (write_events s call outcome)
more_write {B} {D} c r f passes d e s call old new outcome is moves = subst (λ (x : Outcome B). Moves c r f passes d e s old new x (write_events s call x)) (sym is) moves

-- a write that looks, and is at no look, rests
pub rests_yet : {B : Type 0} (was : Work B) → is_looking was ≡ true → ((look : Look B) → was ≢ Looks look) → was ≡ Rests
rests_yet Rests looks never = refl
rests_yet (Looks look) looks never = absurd (never look refl)
rests_yet (Descends parent item) looks never = absurd (let both : true ≡ false = sym looks in cc)
rests_yet (Seeks leaf) looks never = absurd (let both : true ≡ false = sym looks in cc)

-- what a write's call is
by_write : {B : Type 0} (e : Entry B) (P : Call B → Type 0) → P (Insert e) → P (Delete e) → (call : Call B) → WritesEntry e call → P call
by_write e P first second Begin writes = absurd writes
by_write e P first second (Insert x) writes = subst (λ y. P (Insert y)) (sym writes) first
by_write e P first second (Delete x) writes = subst (λ y. P (Delete y)) (sym writes) second
by_write e P first second (Search query) writes = absurd writes
by_write e P first second Commit writes = absurd writes
by_write e P first second Abort writes = absurd writes

-- its look has found nothing yet
none_found : {B : Type 0} (e : Entry B) (call : Call B) → WritesEntry e call → (found : List (Found B)) → MayHaveFound call (pairs_found found) → found ≡ []
none_found {B} e call writes [] may = refl
none_found {B} e call writes (x ∷ xs) may =
    absurd (by_write e (λ (y : Call B). MayHaveFound y (pairs_found (x ∷ xs)) → ⊥) (λ m. let no : ⊥ = cc in no) (λ m. let no : ⊥ = cc in no) call writes may)

-- the first of what was found
first_found : {B : Type 0} (leaf : ℕ) (ys : List (Pair B)) (x : Found B) (xs : List (Found B)) → map (found_at leaf) ys ≡ x ∷ xs → (x.leaf ≡ leaf) × (0 < length ys)
first_found leaf [] x xs is = absurd (let no : ⊥ = cc in no)
first_found {B} leaf (y ∷ ys) x xs is = (let same : x ≡ found_at leaf y = cc in ap (λ (z : Found B). z.leaf) same, omega arith)

some_pass : {X : Type 0} (test : X → Bool) (xs : List X) → 0 < length (filter test xs) → 0 < how_many test xs
some_pass test [] some = some
some_pass {X} test (x ∷ xs) some = by (test x) (λ more. some_pass test xs more) some
  where
    by : (b : Bool) → (0 < length (filter test xs) → 0 < how_many test xs) → 0 < length (cond b (x ∷ filter test xs) (filter test xs)) → 0 < one_if b + how_many test xs
    by true rest more = omega arith
    by false rest more = (let some = rest more in omega (arith, some))

module _ {B : Type 0} (c : Class B) (l : IsLawful c) (e : Entry B) where
  -- a pair of the entry
  same_test : (x : Pair B) → same_entry c.keys (entry_of x) e ≡ is_of c e x
  same_test x =
      elim (true_or_false (is_of c e x)) [
        | inl is ↦ subst (λ (y : Entry B). same_entry c.keys y e ≡ true) (sym (pair_is c l e x is)) (same_refl c l e) ∙ sym is
        | inr ne ↦
            elim (true_or_false (same_entry c.keys (entry_of x) e)) [
              | inl same ↦ not_true (is_of c e x) (is_pair c l e x (same_is c.keys l.keys (entry_of x) e same)) ne
              | inr other ↦ other ∙ sym ne
            ]
      ]

  -- what a write wants
  pub wants_of : (call : Call B) → WritesEntry e call → (x : Pair B) → laws.wants c.keys call (pair_of x) ≡ is_of c e x
  wants_of call writes x = by_write e (λ (y : Call B). laws.wants c.keys y (pair_of x) ≡ is_of c e x) (same_test x) (same_test x) call writes

  always_wants : (call : Call B) → WritesEntry e call → (live : Bool) → laws.wants c.keys call (record { entry = e; live = live }) ≡ true
  always_wants call writes live = by_write e (λ (y : Call B). laws.wants c.keys y (record { entry = e; live = live }) ≡ true) (same_refl c l e) (same_refl c l e) call writes

seeks_at : {B : Type 0} (e : Entry B) (call : Call B) → WritesEntry e call → (leaf : ℕ) → CallSeeks call leaf (index.Seeks e leaf)
seeks_at {B} e call writes leaf = by_write e (λ (y : Call B). CallSeeks y leaf (index.Seeks e leaf)) refl refl call writes

pub may_find_none : {B : Type 0} (e : Entry B) (call : Call B) → WritesEntry e call → MayHaveFound call []
may_find_none {B} e call writes = by_write e (λ (y : Call B). MayHaveFound y []) refl refl call writes

-- A write's look that read a page.
module _ {B D : Type 0} (c : Class B) (lawful : 4 ≤ c.rules.most → IsLawful c) (r : Reading (Entry B) (Page B)) (f : Format B) (passes : ℕ → Contents → Bool)
    (state : D → Device) (e : Parts B D) (kept : IsKept c.keys e.sessions) (s : ℕ) (is : is_session s ≡ true) (entry : Entry B) (call : Call B) (writes : WritesEntry entry call) (rest : Work B)
    (at : phase_at (s - 1) e.sessions.phases ≡ phase.Open call rest) (look : Look B) (works : e.sessions.failed ≡ false)
    (w : Volume D) (most : w.most ≡ e.volume.most) (same_log : w.log ≡ e.volume.log) (reads : OnlyRead (state e.volume.shelf.disk) (state w.shelf.disk))
    (keeps : KeepsTheSame (known_of c) r f passes (state e.volume.shelf.disk) (state w.shelf.disk) e.volume w)
    (shows : ShowsTheLogs (known_of c) r f passes (state w.shelf.disk) w) (IsKey : B → Type 0) (keyed : ShowsKeys (known_of c) r f passes IsKey (state w.shelf.disk) w)
    (order : IsInOrder (passes w.shelf.pages) (state w.shelf.disk).sectors w.shelf.frames w.shelf.used w.shelf.pages)
    (wants : Pair B → Bool) (leads may : B → Bool) (pairs : (x : Pair B) → IsKey x.key → wants x ≡ is_of c entry x) (bounds : (b : B) → IsKey b → leads b ≡ may b)
    (consistent : (x : Pair B) (b : B) → IsKey x.key → IsKey b → c.rules.same x.key entry.key ≡ true → c.rules.covers b x.key ≡ true → may b ≡ true)
    (after : Look B) (some : 0 < length look.stack.items)
    (step : LookStep (tree_shown (known_of c) r f passes (state w.shelf.disk) w) wants leads look.stack.items after.stack.items look.found.items after.found.items) where
  abbrev was : Parts B D
  was = calling s call (Looks look) e

  abbrev d : Device
  d = state e.volume.shelf.disk

  abbrev now : Device
  now = state w.shelf.disk

  abbrev kept_here : IsKept c.keys was.sessions
  kept_here = was_kept c lawful r f passes state e kept s is call rest at (Looks look) works w most same_log reads keeps

  abbrev phase_here : phase_at (s - 1) was.sessions.phases ≡ phase.Open call (Looks look)
  phase_here = its_phase c lawful r f passes state e kept s is call rest at (Looks look) works w most same_log reads keeps

  -- the pair was found in the leaf that was read
  module _ (bodies : List (List (Record (Entry B) (Page B)))) (i : index.State B) (h : Holds c r f passes d was bodies i) (one : Found B) (found : List (Found B)) (has : after.found.items ≡ one ∷ found) where
    abbrev t : Tree B
    t = tree_now c i

    legal : Legal c.rules t
    legal = is_legal c (lawful h.some) i h.whole

    its_items : Each (ItemFits t) look.stack.items
    its_items = (look_wants c lawful r f passes d now was kept_here s is call look phase_here works w most same_log reads keeps bodies i h).items

    step_now : LookStep t (is_of c entry) leads look.stack.items after.stack.items look.found.items after.found.items
    step_now =
        let kept_now = (stays c lawful r f passes d now was kept_here s is call (Looks look) phase_here works w most same_log reads keeps bodies i h).keeps in
        step_here c (lawful h.some) IsKey wants (is_of c entry) leads may pairs bounds
        (λ x b isx isb of covers. consistent x b isx isb (and_second (x.row == entry.row) (c.rules.same x.key entry.key) of) covers)
        t (tree_shown (known_of c) r f passes now w) legal (shows bodies i.log kept_now) (keyed bodies i.log kept_now order)
        look.stack.items after.stack.items look.found.items after.found.items its_items step

    nothing_yet : look.found.items ≡ []
    nothing_yet =
        none_found entry call writes look.found.items
        (may_have_found c (lawful h.some) r f passes d was kept_here s is call (Looks look) phase_here bodies i h look refl)

    abbrev Stands : ℕ → Type 0
    Stands p = Used t p × ((t.node p).level ≡ 0) × (0 < how_many (is_of c entry) (t.node p).pairs)

    stands_there : Stands one.leaf
    stands_there =
        let last = last_of look.stack.items some in
        let item : TraversalItem = last.1 in
        let read = step_now last.0 item last.2 in
        let all : map (found_at item.page) (filter (is_of c entry) (t.node item.page).pairs) ≡ one ∷ found =
        sym (read.found ∙ ap (λ (xs : List (Found B)). xs ++ map (found_at item.page) (filter (is_of c entry) (t.node item.page).pairs)) nothing_yet) ∙ has in
        let first = first_found item.page (filter (is_of c entry) (t.node item.page).pairs) one found all in
        let fits : Each (ItemFits t) (last.0 ++ item ∷ []) = subst (λ (xs : List TraversalItem). Each (ItemFits t) xs) last.2 its_items in
        let taken : Used t item.page = item_used t item (each_parts (ItemFits t) last.0 (item ∷ []) fits).1.0 in
        let stands : 0 < how_many (is_of c entry) (t.node item.page).pairs = some_pass (is_of c entry) (t.node item.page).pairs first.1 in
        subst Stands (sym first.0) (taken, leaf_of item.page taken stands, stands)
      where
        leaf_of : (p : ℕ) → Used t p → 0 < how_many (is_of c entry) (t.node p).pairs → (t.node p).level ≡ 0
        leaf_of p u stands = by (t.node p).level refl
          where
            by : (n : ℕ) → (t.node p).level ≡ n → n ≡ 0
            by zero is = refl
            by (suc n) is =
                let none : how_many (is_of c entry) (t.node p).pairs ≡ 0 = ap (λ (xs : List (Pair B)). how_many (is_of c entry) xs) ((legal.pages p u).inner (omega (arith, is))).0 in
                absurd (omega (arith, none, stands))

    seeks : SeeksFor c t (slot_at s i.slots) entry one.leaf
    seeks =
        look_seeks c (lawful h.some) i h.whole s entry one.leaf
        (λ live. ap (λ (x : Slot B). laws.slot_wants c.keys x (record { entry = entry; live = live })) (slot_now c (lawful h.some) r f passes d was kept_here s is call (Looks look) phase_here bodies i h)
        ∙ always_wants c (lawful h.some) entry call writes live)
        stands_there.0 stands_there.1 stands_there.2

  seek_moves : (one : Found B) (found : List (Found B)) → after.found.items ≡ one ∷ found
      → MovesOn c r f passes d now s was (calling s call (Seeks one.leaf) (record was { volume = w }))
  seek_moves one found has bodies i h =
      let l = lawful h.some in
      let its = held c l r f passes d was kept_here s is call (Looks look) phase_here bodies i h in
      let slot = slot_now c l r f passes d was kept_here s is call (Looks look) phase_here bodies i h in
      let was_at = looks_at c l r f passes d was kept_here s is call (Looks look) phase_here bodies i h look refl in
      let its_settled = settled c lawful r f passes d now was kept_here s is call (Looks look) phase_here works w most same_log reads keeps bodies i h in
      let its_stays = stays c lawful r f passes d now was kept_here s is call (Looks look) phase_here works w most same_log reads keeps bodies i h in
      moves_on c l r f passes d was kept_here s is call (Looks look) phase_here bodies i h now w most same_log its_settled its_stays
      (Seeks one.leaf) (index.Seeks entry one.leaf) (seeks_at entry call writes one.leaf) (seeks bodies i h one found has)
      (look_seeks_falls c l i h.whole s its.locks (map note_of its.notes) call slot look.stack.items (pairs_found look.found.items) entry one.leaf was_at)

  -- the look goes on, or its call seeks
  pub turned_moves : (found : List (Found B)) → after.found.items ≡ found
      → MovesOn c r f passes d now s was (calling s call (turned_by found after) (record e { volume = w }))
  turned_moves [] has bodies i h =
      let same = wants_of c (lawful h.some) entry call writes in
      read_at_hand c lawful r f passes state e kept s is call rest at look works w most same_log reads keeps shows IsKey keyed order wants leads may
      (λ x isx. pairs x isx ∙ sym (same x)) bounds
      (λ x b isx isb wanted covers. consistent x b isx isb (and_second (x.row == entry.row) (c.rules.same x.key entry.key) (sym (same x) ∙ wanted)) covers)
      after some step (subst (λ (fs : List (Found B)). MayHaveFound call (pairs_found fs)) (sym has) (may_find_none entry call writes)) bodies i h
  turned_moves (one ∷ found) has bodies i h =
      subst (λ (x : State B (Work B)). MovesOn c r f passes d now s was (record e { volume = w; sessions = x }))
      (phase_again c.keys e kept s is call rest at (Looks look) (phase.Open call (Seeks one.leaf)))
      (seek_moves one found has) bodies i h

-- a list of no items
pub none_left : {X : Type 0} (stack : List X) → length stack ≡ 0 → stack ≡ []
none_left [] none = refl
none_left (x ∷ xs) none = absurd (omega (arith, none))

-- A write's look that has ended.
module _ {B D : Type 0} (c : Class B) (lawful : 4 ≤ c.rules.most → IsLawful c) (r : Reading (Entry B) (Page B)) (f : Format B) (passes : ℕ → Contents → Bool)
    (d : Device) (e : Parts B D) (kept : IsKept c.keys e.sessions) (s : ℕ) (is : is_session s ≡ true) (entry : Entry B) (call : Call B) (writes : WritesEntry entry call) (rest : Work B)
    (at : phase_at (s - 1) e.sessions.phases ≡ phase.Open call rest) (look : Look B) (works : e.sessions.failed ≡ false) (done : length look.stack.items ≡ 0) where
  abbrev ended : Parts B D
  ended = calling s call (Looks look) e

  kept_ended : IsKept c.keys ended.sessions
  kept_ended = put_kept c.keys e kept s is call rest at (Looks look)

  phase_ended : phase_at (s - 1) ended.sessions.phases ≡ phase.Open call (Looks look)
  phase_ended = at_work c.keys e kept s is call rest at (Looks look)

  module _ (bodies : List (List (Record (Entry B) (Page B)))) (i : index.State B) (h : Holds c r f passes d ended bodies i) where
    -- it has found nothing
    looked : i.work s ≡ index.Looks [] []
    looked =
        let l = lawful h.some in
        let found = none_found entry call writes look.found.items (may_have_found c l r f passes d ended kept_ended s is call (Looks look) phase_ended bodies i h look refl) in
        looks_at c l r f passes d ended kept_ended s is call (Looks look) phase_ended bodies i h look refl
        ∙ ap (λ (xs : List TraversalItem). index.Looks xs (pairs_found look.found.items)) (none_left look.stack.items done)
        ∙ ap (λ (fs : List (Found B)). index.Looks [] (pairs_found fs)) found

  -- an insert descends from the root
  descends : (item : TraversalItem) → item ≡ record { page = 1; seen = e.volume.shelf.counter } → call ≡ Insert entry → Moves c r f passes d d s ended (calling s call (Descends 0 item) ended) More (Works ∷ [])
  descends item item_is inserts bodies i h =
      let l = lawful h.some in
      let t : Tree B = tree_now c i in
      let its = held c l r f passes d ended kept_ended s is call (Looks look) phase_ended bodies i h in
      let slot = slot_now c l r f passes d ended kept_ended s is call (Looks look) phase_ended bodies i h in
      let counted = (is_legal c l i h.whole).counter in
      let root : from_root t ≡ item = ap (λ (n : ℕ). record { page = 1; seen = n }) h.keeps.counter ∙ sym item_is in
      let it_is : index.Descends entry 0 (from_root t) ≡ index.Descends entry 0 item = ap (λ (x : TraversalItem). index.Descends entry 0 x) root in
      goes_on c l r f passes d ended kept_ended s is call (Looks look) phase_ended bodies i h d e.volume refl refl (same_device d)
      (as_it_stays c l r f passes d ended kept_ended s is call (Looks look) phase_ended bodies i h)
      (Descends 0 item) (index.Descends entry 0 (from_root t))
      (subst (λ (x : Call B). CallDescends x (index.Descends entry 0 (from_root t)) (λ y. index.Descends y 0 item)) (sym inserts) it_is)
      (look_descends c l i h.whole s entry (looked bodies i h) (ap (λ (x : Slot B). open_call x) slot ∙ ap (λ (x : Call B). Some x) inserts))
      (look_descends_falls c l i h.whole s its.locks (map note_of its.notes) call slot [] [] entry 0 (from_root t) (looked bodies i h) (omega arith, omega (arith, counted)))

  pub descends_moves : (item : TraversalItem) → item ≡ record { page = 1; seen = e.volume.shelf.counter } → call ≡ Insert entry → Moves c r f passes d d s ended (calling s call (Descends 0 item) e) More (Works ∷ [])
  descends_moves item item_is inserts =
      subst (λ (x : State B (Work B)). Moves c r f passes d d s ended (record e { sessions = x }) More (Works ∷ []))
      (phase_again c.keys e kept s is call rest at (Looks look) (phase.Open call (Descends 0 item)))
      (descends item item_is inserts)

  -- a delete finds its pair absent
  absent : call ≡ Delete entry → Moves c r f passes d d s ended (record ended { sessions = answered_state s ended.sessions }) (Replied (reply.Refused refusal.Absent)) (FindsAbsent s entry ∷ [])
  absent deletes bodies i h =
      let l = lawful h.some in
      let its = held c l r f passes d ended kept_ended s is call (Looks look) phase_ended bodies i h in
      let slot = slot_now c l r f passes d ended kept_ended s is call (Looks look) phase_ended bodies i h in
      answers c l r f passes d ended kept_ended s is call (Looks look) phase_ended bodies i h d e.volume refl refl (same_device d)
      (as_it_stays c l r f passes d ended kept_ended s is call (Looks look) phase_ended bodies i h) (reply.Refused refusal.Absent) (FindsAbsent s entry)
      (absent_by_look c l i h.whole (h.sessions.failed ∙ works) s its.locks (map note_of its.notes) entry
      (slot ∙ ap (λ (x : Call B). Working its.locks (map note_of its.notes) (Some x)) deletes) (looked bodies i h))

  pub absent_moves : call ≡ Delete entry → Moves c r f passes d d s ended (record e { sessions = answered_state s e.sessions }) (Replied (reply.Refused refusal.Absent)) (FindsAbsent s entry ∷ [])
  absent_moves deletes =
      subst (λ (x : State B (Work B)). Moves c r f passes d d s ended (record e { sessions = x }) (Replied (reply.Refused refusal.Absent)) (FindsAbsent s entry ∷ []))
      (sym (answered_again c.keys e kept s is call rest at (Looks look)))
      (absent deletes)
