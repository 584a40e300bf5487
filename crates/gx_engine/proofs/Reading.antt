-- A call's look that reads a page, over the tree that frames and device show.
use Rattle.std.proofs.Common.{◌≡◌, ◌∙◌, sym, ap, refl, subst, ℕ, ◌+◌, ◌-◌, ◌<◌, ◌≤◌, Bool, true, false, List, [], ◌∷◌, ◌++◌, map, filter, length, arith}
use Rattle.std.specs.Prelude.{cond, Result, Err, IfErr, IfOk, Ok, OnErr, OnOk}
use Rattle.gx_geom.specs.declared.refusal.Refusal.TheVariants as refusal
use Rattle.gx_machine.specs.declared.entry.Entry.{Entry}
use Rattle.gx_machine.specs.declared.call.Call.{Call}
use Rattle.gx_machine.specs.declared.reply.Reply.TheVariants.{Refused as RefusedCall}
use Rattle.gx_machine.specs.Keys.{Keys}
use Rattle.gx_machine.specs.Machine.{is_session}
use Rattle.gx_disk.specs.Device.{Device}
use Rattle.gx_page.specs.Contents.{Contents}
use Rattle.gx_node.specs.Reading.{Format}
use Rattle.gx_pool.specs.Bringing.{OnlyRead}
use Rattle.gx_node.specs.Lists.{Each}
use Rattle.gx_node.specs.Trees.{Child, Node, Pair, Tree, Used}
use Rattle.gx_node.specs.Legal.{Legal}
use Rattle.gx_node.specs.Alike.{AgreeOnUsed}
use Rattle.gx_node.specs.Reach.{TraversalItem, pages_ahead}
use Rattle.gx_node.specs.Looks.{ItemFits, IsLook, LeadsTo}
use Rattle.gx_node.proofs.AlikeLooks.{look_too}
use Rattle.gx_node.proofs.AlikeTrees.{used_too}
use Rattle.gx_node.proofs.OwnLook.{item_used}
use Rattle.gx_node.proofs.Sums.{each_parts}
use Rattle.gx_tree.specs.declared.found.Found.{Found}
use Rattle.gx_tree.specs.declared.look.Look.{Look}
use Rattle.gx_tree.specs.Found.{found_at, pairs_found}
use Rattle.gx_node.specs.Keyed.{AreKeys}
use Rattle.gx_tree.specs.Looking.{LookStep, below, beyond}
use Rattle.gx_tree.proofs.Searched.{leads_to}
use Rattle.gx_tree.proofs.Turned.{falls, goes_on, next_is_used}
use Rattle.gx_recovery.specs.Records.{Record}
use Rattle.gx_events.specs.Slots.{Slot, slot_at}
use Rattle.gx_events.specs.Happenings.{Happening, Closes, RefusesCall}
use Rattle.gx_events.specs.Wants as laws
use Rattle.gx_index_laws.specs.Classes.{Class, IsLawful, Page, known_of, pair_of}
use Rattle.gx_index_laws.specs.Happening.{with_work}
use Rattle.gx_index_laws.specs.Measures.{descent_most, pages_free, work_left}
use Rattle.gx_index_laws.specs.States as index
use Rattle.gx_index_laws.specs.States.{tree_now}
use Rattle.gx_index_laws.specs.Working.{DoesWork, wants_pair}
use Rattle.gx_index_laws.proofs.Measuring.{left_of, turned_left}
use Rattle.gx_index_laws.proofs.Standing.{is_legal, known_lawful}
use Rattle.gx_durable.specs.Spelled.{Reading}
use Rattle.gx_phases.specs.declared.phase.Phase.TheVariants as phase
use Rattle.gx_phases.specs.Moves.{answered_state, failed_state}
use Rattle.gx_phases.specs.States.{State, IsKept, phase_at}
use Rattle.gx_store.specs.declared.fault.StoreFault.{StoreFault}
use Rattle.gx_store.specs.declared.fault.StoreFault.TheVariants as fault
use Rattle.gx_store.specs.Faults as faults
use Rattle.gx_store.specs.State.{IsInOrder}
use Rattle.gx_storage.specs.Bringing.{bringing}
use Rattle.gx_storage.specs.Keeps.{KeepsTheSame, ShowsKeys, ShowsTheLogs, StaysSame, tree_shown}
use Rattle.gx_storage.specs.State.{Volume}
use Rattle.gx_events.specs.declared.outcome.Need.{Need}
use Rattle.gx_events.specs.declared.outcome.Outcome.{Outcome}
use Rattle.gx_events.specs.declared.outcome.Outcome.TheVariants.{Replied, Help}
use Rattle.gx_engine.specs.declared.work.Work.{Work}
use Rattle.gx_engine.specs.declared.work.Work.TheVariants.{Looks}
use Rattle.gx_engine.specs.States.{Parts, runs}
use Rattle.gx_engine.specs.Holds.{Holds, MayHaveFound}
use Rattle.gx_engine.specs.Looks.{StopComes, look_events}
use Rattle.gx_engine.specs.Moves.{Moves, MovesOn, calling}
use Rattle.gx_engine.specs.Refusals.{IsRefused, need_of, StampsStay}
use Rattle.gx_engine.proofs.LookMoves.{answered_again, at_work, closes, fails, its_slot, looks_at, moves_on, phase_again, put_kept, slot_now, waits}
use Rattle.gx_engine.proofs.Serving.{StaysSettled, of_reads}

-- What a look wants, by a probe that says so of keys; and two trees that agree on their pages.
module _ {B : Type 0} (c : Class B) (l : IsLawful c) (IsKey : B → Type 0) (wants wanted : Pair B → Bool) (leads may : B → Bool)
    (pairs : (x : Pair B) → IsKey x.key → wants x ≡ wanted x)
    (bounds : (b : B) → IsKey b → leads b ≡ may b)
    (consistent : (x : Pair B) (b : B) → IsKey x.key → IsKey b → wanted x ≡ true → c.rules.covers b x.key ≡ true → may b ≡ true) where
  same_filter : (xs : List (Pair B)) → Each (λ x. IsKey x.key) xs → filter wants xs ≡ filter wanted xs
  same_filter [] each = refl
  same_filter (x ∷ xs) each =
      let rest : filter wants xs ≡ filter wanted xs = same_filter xs each.1 in
      ap (λ b. cond b (x ∷ filter wants xs) (filter wants xs)) (pairs x each.0) ∙ ap (λ (ys : List (Pair B)). cond (wanted x) (x ∷ ys) ys) rest

  module _ (one other : Tree B) (legal : Legal c.rules one) (agree : AgreeOnUsed one other) (keys : AreKeys IsKey other) where
    keys_here : AreKeys IsKey one
    keys_here = record {
      pairs = λ p u. subst (λ (n : Node B). Each (λ (x : Pair B). IsKey x.key) n.pairs) (agree.nodes p u) (keys.pairs p (used_too one other agree p u));
      children = λ p u. subst (λ (n : Node B). Each (λ (x : Child B). IsKey x.key) n.children) (agree.nodes p u) (keys.children p (used_too one other agree p u));
    }

    lead : LeadsTo c.rules one wanted leads
    lead = leads_to c.rules one IsKey keys_here wanted wanted leads may (λ x. true) (λ x isx. refl) bounds consistent

    -- a step over the other is a step over the one
    pub step_here : (before after : List TraversalItem) (old new : List (Found B)) → Each (ItemFits one) before → LookStep other wants leads before after old new
        → LookStep one wanted leads before after old new
    step_here before after old new items step rest item is =
        let read = step rest item is in
        let fits : Each (ItemFits one) (rest ++ item ∷ []) = subst (λ (xs : List TraversalItem). Each (ItemFits one) xs) is items in
        let used : Used one item.page = item_used one item (each_parts (ItemFits one) rest (item ∷ []) fits).1.0 in
        record {
          stack =
              read.stack
              ∙ ap (λ (n : Node B). rest ++ (beyond n item ++ below other.counter leads n.children)) (agree.nodes item.page used)
              ∙ ap (λ (k : ℕ). rest ++ (beyond (one.node item.page) item ++ below k leads (one.node item.page).children)) agree.counter;
          found =
              read.found
              ∙ ap (λ (n : Node B). old ++ map (found_at item.page) (filter wants n.pairs)) (agree.nodes item.page used)
              ∙ ap (λ (xs : List (Pair B)). old ++ map (found_at item.page) xs) (same_filter (one.node item.page).pairs (keys_here.pairs item.page used));
        }

    module _ (before after : List TraversalItem) (old new : List (Found B)) (some : 0 < length before) (look : IsLook one wanted before (pairs_found old))
        (step : LookStep other wants leads before after old new) where
      pub goes_further : IsLook one wanted after (pairs_found new)
      goes_further = goes_on c.rules one legal wanted leads l.rules lead before after old new some look (step_here before after old new look.items step)

      pub less_ahead : pages_ahead one after < pages_ahead one before
      less_ahead = falls c.rules one legal wanted leads before after old new some look (step_here before after old new look.items step)

-- A page was read, or it was refused.
module _ {B D : Type 0} (c : Class B) (lawful : 4 ≤ c.rules.most → IsLawful c) (r : Reading (Entry B) (Page B)) (f : Format B) (passes : ℕ → Contents → Bool)
    (d e : Device) (old : Parts B D) (kept : IsKept c.keys old.sessions) (s : ℕ) (is : is_session s ≡ true) (call : Call B) (was : Work B)
    (at : phase_at (s - 1) old.sessions.phases ≡ phase.Open call was) (works : old.sessions.failed ≡ false)
    (w : Volume D) (most : w.most ≡ old.volume.most) (same_log : w.log ≡ old.volume.log) (reads : OnlyRead d e) (keeps : KeepsTheSame (known_of c) r f passes d e old.volume w) where
  module _ (bodies : List (List (Record (Entry B) (Page B)))) (i : index.State B) (h : Holds c r f passes d old bodies i) where
    pub stays : StaysSame (known_of c) r f passes d e w bodies i.log
    stays = keeps bodies i.log (known_lawful c (lawful h.some)) h.keeps

    pub settled : StaysSettled d e
    settled = of_reads d e reads h.keeps.steady.honest

  pub refused_moves : (n : Need) → Moves c r f passes d e s old (record old { volume = w }) (Help n) []
  refused_moves n bodies i h = waits c (lawful h.some) r f passes d old kept s is call was at bodies i h e w most same_log (settled bodies i h) (stays bodies i h) n

  pub memory_moves : Moves c r f passes d e s old (record old { volume = w; sessions = answered_state s old.sessions }) (Replied (RefusedCall refusal.Memory)) (Closes s call refusal.Memory ∷ [])
  memory_moves bodies i h = closes c (lawful h.some) r f passes d old kept s is call was at bodies i h e w most same_log (settled bodies i h) (stays bodies i h) works

  pub device_moves : Moves c r f passes d e s old (record old { volume = w; sessions = failed_state old.sessions }) (Replied (RefusedCall refusal.Device)) (RefusesCall s refusal.Device ∷ [])
  device_moves bodies i h = fails c (lawful h.some) r f passes d old kept s is call was at bodies i h e w most same_log (settled bodies i h) (stays bodies i h) works

-- The same of a call that is at a look.
module _ {B D : Type 0} (c : Class B) (lawful : 4 ≤ c.rules.most → IsLawful c) (r : Reading (Entry B) (Page B)) (f : Format B) (passes : ℕ → Contents → Bool)
    (d e : Device) (old : Parts B D) (kept : IsKept c.keys old.sessions) (s : ℕ) (is : is_session s ≡ true) (call : Call B) (look : Look B)
    (at : phase_at (s - 1) old.sessions.phases ≡ phase.Open call (Looks look)) (works : old.sessions.failed ≡ false)
    (w : Volume D) (most : w.most ≡ old.volume.most) (same_log : w.log ≡ old.volume.log) (reads : OnlyRead d e) (keeps : KeepsTheSame (known_of c) r f passes d e old.volume w) where
  module _ (bodies : List (List (Record (Entry B) (Page B)))) (i : index.State B) (h : Holds c r f passes d old bodies i) where
    its_stays : StaysSame (known_of c) r f passes d e w bodies i.log
    its_stays = stays c lawful r f passes d e old kept s is call (Looks look) at works w most same_log reads keeps bodies i h

    is_look : IsLook (tree_now c i) (wants_pair c (slot_at s i.slots)) look.stack.items (pairs_found look.found.items)
    is_look =
        subst (λ (x : index.Work B). DoesWork c (tree_now c i) (slot_at s i.slots) x) (looks_at c (lawful h.some) r f passes d old kept s is call (Looks look) at bodies i h look refl) (h.whole.works s)

    -- by what its call wants
    pub look_wants : IsLook (tree_now c i) (λ x. laws.wants c.keys call (pair_of x)) look.stack.items (pairs_found look.found.items)
    look_wants =
        subst (λ (x : Slot B). IsLook (tree_now c i) (wants_pair c x) look.stack.items (pairs_found look.found.items))
        (slot_now c (lawful h.some) r f passes d old kept s is call (Looks look) at bodies i h) is_look

  module _ (shows : ShowsTheLogs (known_of c) r f passes e w) where
    -- the page that is read next is taken, in the tree that is shown
    pub never_damaged : 0 < length look.stack.items → ((rest : List TraversalItem) (item : TraversalItem) → look.stack.items ≡ rest ++ item ∷ [] → ¬ Used (tree_shown (known_of c) r f passes e w) item.page)
        → (bodies : List (List (Record (Entry B) (Page B)))) (i : index.State B) → Holds c r f passes d old bodies i → ⊥
    never_damaged some none bodies i h =
        let one : Tree B = tree_now c i in
        let other : Tree B = tree_shown (known_of c) r f passes e w in
        let agree : AgreeOnUsed one other = shows bodies i.log (its_stays bodies i h).keeps in
        let v : Pair B → Bool = wants_pair c (slot_at s i.slots) in
        let there : IsLook other v look.stack.items (pairs_found look.found.items) =
        look_too c.rules one other agree (is_legal c (lawful h.some) i h.whole) v look.stack.items (pairs_found look.found.items) (is_look bodies i h) in
        next_is_used other v look.stack.items (pairs_found look.found.items) there some none

    -- the look goes on with what it found and stacked
    module _ (IsKey : B → Type 0) (keyed : ShowsKeys (known_of c) r f passes IsKey e w) (order : IsInOrder (passes w.shelf.pages) e.sectors w.shelf.frames w.shelf.used w.shelf.pages)
        (wants : Pair B → Bool) (leads may : B → Bool) (pairs : (x : Pair B) → IsKey x.key → wants x ≡ laws.wants c.keys call (pair_of x)) (bounds : (b : B) → IsKey b → leads b ≡ may b)
        (consistent : (x : Pair B) (b : B) → IsKey x.key → IsKey b → laws.wants c.keys call (pair_of x) ≡ true → c.rules.covers b x.key ≡ true → may b ≡ true)
        (after : Look B) (some : 0 < length look.stack.items)
        (step : LookStep (tree_shown (known_of c) r f passes e w) wants leads look.stack.items after.stack.items look.found.items after.found.items) where
      pub read_moves : MayHaveFound call (pairs_found after.found.items) → MovesOn c r f passes d e s old (calling s call (Looks after) (record old { volume = w }))
      read_moves may_find bodies i h =
          let l = lawful h.some in
          let one : Tree B = tree_now c i in
          let other : Tree B = tree_shown (known_of c) r f passes e w in
          let kept_now = (its_stays bodies i h).keeps in
          let slot = slot_now c l r f passes d old kept s is call (Looks look) at bodies i h in
          let its : Slot B = its_slot c l r f passes d old kept s is call (Looks look) at bodies i h in
          let was_at = looks_at c l r f passes d old kept s is call (Looks look) at bodies i h look refl in
          let begun = look_wants bodies i h in
          let wanted : Pair B → Bool = λ x. laws.wants c.keys call (pair_of x) in
          let next : IsLook one wanted after.stack.items (pairs_found after.found.items) =
          goes_further c l IsKey wants wanted leads may pairs bounds consistent one other (is_legal c l i h.whole) (shows bodies i.log kept_now) (keyed bodies i.log kept_now order)
          look.stack.items after.stack.items look.found.items after.found.items some begun step in
          let fewer : pages_ahead one after.stack.items < pages_ahead one look.stack.items =
          less_ahead c l IsKey wants wanted leads may pairs bounds consistent one other (is_legal c l i h.whole) (shows bodies i.log kept_now) (keyed bodies i.log kept_now order)
          look.stack.items after.stack.items look.found.items after.found.items some begun step in
          let now_at : index.Work B = index.Looks after.stack.items (pairs_found after.found.items) in
          let was : work_left c i s ≡ descent_most c + (pages_ahead one look.stack.items + pages_free c one) =
          left_of c i s its (index.Looks look.stack.items (pairs_found look.found.items)) slot was_at in
          let now : work_left c (with_work s now_at i) s ≡ descent_most c + (pages_ahead one after.stack.items + pages_free c one) = turned_left c i s its now_at slot in
          let its_settled = settled c lawful r f passes d e old kept s is call (Looks look) at works w most same_log reads keeps bodies i h in
          moves_on c l r f passes d old kept s is call (Looks look) at bodies i h e w most same_log its_settled (its_stays bodies i h) (Looks after) now_at (refl, may_find)
          (subst (λ (x : Slot B). IsLook one (wants_pair c x) after.stack.items (pairs_found after.found.items)) (sym slot) next)
          (omega (arith, fewer, was, now))

-- what follows if pages are refused
module _ {B D : Type 0} (s : ℕ) (call : Call B) (old : Parts B D) (w : Volume D) (new : Parts B D) (outcome : Outcome B) where
  abbrev middle : Parts B D
  middle = record old { volume = w }

  pub by_refusal : (P : Parts B D → Outcome B → List (Happening B) → Type 0) → (n : StoreFault) → IsRefused n middle new outcome
      → ((need : Need) → P middle (Help need) [])
      → P (record middle { sessions = failed_state old.sessions }) (Replied (RefusedCall refusal.Device)) (RefusesCall s refusal.Device ∷ [])
      → (n ≡ fault.Damaged → P (record middle { sessions = failed_state old.sessions }) (Replied (RefusedCall refusal.Damaged)) [])
      → P new outcome (look_events s call outcome)
  by_refusal P fault.NoRoom is waits fails never =
      subst (λ (o : Outcome B). P new o (look_events s call o)) (sym is.2)
      (subst (λ (x : Parts B D). P x (Help (need_of (runs old.checkpoint) is.0)) []) (sym is.3) (waits (need_of (runs old.checkpoint) is.0)))
  by_refusal P (fault.TooFewFrames frames) is waits fails never =
      subst (λ (o : Outcome B). P new o (look_events s call o)) (sym is.2)
      (subst (λ (x : Parts B D). P x (Help (need_of (runs old.checkpoint) is.0)) []) (sym is.3) (waits (need_of (runs old.checkpoint) is.0)))
  by_refusal P fault.Device is waits fails never =
      subst (λ (o : Outcome B). P new o (look_events s call o)) (sym is.0)
      (subst (λ (x : Parts B D). P x (Replied (RefusedCall refusal.Device)) (RefusesCall s refusal.Device ∷ [])) (sym is.1) fails)
  by_refusal P fault.Damaged is waits fails never =
      subst (λ (o : Outcome B). P new o (look_events s call o)) (sym is.0) (subst (λ (x : Parts B D). P x (Replied (RefusedCall refusal.Damaged)) []) (sym is.1) (never refl))

-- a volume of which only pages were brought
pub only_shelf : {D : Type 0} (v w : Volume D) → w.log ≡ v.log → w.most ≡ v.most → w.imaged ≡ v.imaged → w ≡ record v { shelf = w.shelf }
only_shelf v w log most imaged = λ j. record { log = log j; shelf = w.shelf; most = most j; imaged = imaged j }

-- what a refused look comes to
module _ {B D : Type 0} (passes : ℕ → Contents → Bool) (state : D → Device) (d : Device) (s : ℕ) (was : Parts B D) (w : Volume D)
    (log : w.log ≡ was.volume.log) (most : w.most ≡ was.volume.most) (imaged : w.imaged ≡ was.volume.imaged) where
  abbrev Comes : Parts B D → Outcome B → Type 0
  Comes new outcome = StopComes passes d (state new.volume.shelf.disk) s was new outcome

  at : (new there : Parts B D) (outcome given : Outcome B) → outcome ≡ given → new ≡ there → Comes there given → Comes new outcome
  at new there outcome given one other comes = subst (λ (o : Outcome B). Comes new o) (sym one) (subst (λ (x : Parts B D). Comes x given) (sym other) comes)

  pub with_sessions : (sessions : State B (Work B)) → record was { volume = w; sessions = sessions } ≡ record was { volume = record was.volume { shelf = w.shelf }; sessions = sessions }
  with_sessions sessions = ap (λ (v : Volume D). record was { volume = v; sessions = sessions }) (only_shelf was.volume w log most imaged)

  pub refused_comes : StampsStay was.volume.shelf w.shelf → (n : StoreFault) → faults.IsWhy passes d (state w.shelf.disk) (bringing was.volume) w.shelf n → (new : Parts B D) (outcome : Outcome B)
      → IsRefused n (record was { volume = w }) new outcome → Comes new outcome
  refused_comes stay fault.NoRoom why new outcome is =
      at new _ outcome _ is.2 is.3 (record { fault = fault.NoRoom; can = tt; why = why; help = is.0; helps = is.1; is = refl; stamps = stay }, with_sessions was.sessions)
  refused_comes stay (fault.TooFewFrames frames) why new outcome is =
      at new _ outcome _ is.2 is.3 (record { fault = fault.TooFewFrames frames; can = tt; why = why; help = is.0; helps = is.1; is = refl; stamps = stay }, with_sessions was.sessions)
  refused_comes stay fault.Device why new outcome is = at new _ outcome _ is.0 is.1 (why, with_sessions (failed_state was.sessions))
  refused_comes stay fault.Damaged why new outcome is = at new _ outcome _ is.0 is.1 (with_sessions (failed_state was.sessions))

-- a call that is closed while its work is at hand
pub closed_comes : {B D : Type 0} (k : Keys B) (passes : ℕ → Contents → Bool) (state : D → Device) (e : Parts B D) (kept : IsKept k e.sessions) (s : ℕ) (is : is_session s ≡ true) (call : Call B) (rest : Work B)
    (at : phase_at (s - 1) e.sessions.phases ≡ phase.Open call rest) (work : Work B) (w : Volume D) (log : w.log ≡ e.volume.log) (most : w.most ≡ e.volume.most) (imaged : w.imaged ≡ e.volume.imaged)
    → StopComes passes (state e.volume.shelf.disk) (state w.shelf.disk) s (calling s call work e) (record e { volume = w; sessions = answered_state s e.sessions }) (Replied (RefusedCall refusal.Memory))
closed_comes {B} {D} k passes state e kept s is call rest at work w log most imaged =
    ap (λ (x : State B (Work B)). record e { volume = w; sessions = x }) (answered_again k e kept s is call rest at work)
    ∙ with_sessions passes state (state e.volume.shelf.disk) s (calling s call work e) w log most imaged (answered_state s (calling s call work e).sessions)

-- The same of work that is at hand.
module _ {B D : Type 0} (c : Class B) (lawful : 4 ≤ c.rules.most → IsLawful c) (r : Reading (Entry B) (Page B)) (f : Format B) (passes : ℕ → Contents → Bool)
    (state : D → Device) (e : Parts B D) (kept : IsKept c.keys e.sessions) (s : ℕ) (is : is_session s ≡ true) (call : Call B) (rest : Work B)
    (at : phase_at (s - 1) e.sessions.phases ≡ phase.Open call rest) (work : Work B) (works : e.sessions.failed ≡ false)
    (w : Volume D) (most : w.most ≡ e.volume.most) (same_log : w.log ≡ e.volume.log) (reads : OnlyRead (state e.volume.shelf.disk) (state w.shelf.disk))
    (keeps : KeepsTheSame (known_of c) r f passes (state e.volume.shelf.disk) (state w.shelf.disk) e.volume w) where
  abbrev pub was : Parts B D
  was = calling s call work e

  abbrev pub d : Device
  d = state e.volume.shelf.disk

  abbrev pub now : Device
  now = state w.shelf.disk

  pub was_kept : IsKept c.keys was.sessions
  was_kept = put_kept c.keys e kept s is call rest at work

  pub its_phase : phase_at (s - 1) was.sessions.phases ≡ phase.Open call work
  its_phase = at_work c.keys e kept s is call rest at work

  pub memory_at_hand : Moves c r f passes d now s was (record e { volume = w; sessions = answered_state s e.sessions }) (Replied (RefusedCall refusal.Memory)) (Closes s call refusal.Memory ∷ [])
  memory_at_hand =
      subst (λ (x : State B (Work B)). Moves c r f passes d now s was (record e { volume = w; sessions = x }) (Replied (RefusedCall refusal.Memory)) (Closes s call refusal.Memory ∷ []))
      (sym (answered_again c.keys e kept s is call rest at work))
      (memory_moves c lawful r f passes d now was was_kept s is call work its_phase works w most same_log reads keeps)

  pub pages_at_hand : (n : StoreFault) → faults.IsWhy passes d now (bringing e.volume) w.shelf n → (new : Parts B D) (outcome : Outcome B) → IsRefused n (record was { volume = w }) new outcome
      → Moves c r f passes d (state new.volume.shelf.disk) s was new outcome (look_events s call outcome)
  pages_at_hand n why new outcome refuses =
      by_refusal s call was w new outcome (λ (x : Parts B D) (o : Outcome B) (events : List (Happening B)). Moves c r f passes d (state x.volume.shelf.disk) s was x o events) n refuses
      (refused_moves c lawful r f passes d now was was_kept s is call work its_phase works w most same_log reads keeps)
      (device_moves c lawful r f passes d now was was_kept s is call work its_phase works w most same_log reads keeps)
      (λ damaged bodies i h. absurd (subst (λ (x : StoreFault). faults.IsWhy passes d now (bringing e.volume) w.shelf x) damaged why h.keeps.steady h.keeps.readable))

-- A look that is at hand.
module _ {B D : Type 0} (c : Class B) (lawful : 4 ≤ c.rules.most → IsLawful c) (r : Reading (Entry B) (Page B)) (f : Format B) (passes : ℕ → Contents → Bool)
    (state : D → Device) (e : Parts B D) (kept : IsKept c.keys e.sessions) (s : ℕ) (is : is_session s ≡ true) (call : Call B) (rest : Work B)
    (at : phase_at (s - 1) e.sessions.phases ≡ phase.Open call rest) (look : Look B) (works : e.sessions.failed ≡ false)
    (w : Volume D) (most : w.most ≡ e.volume.most) (same_log : w.log ≡ e.volume.log) (reads : OnlyRead (state e.volume.shelf.disk) (state w.shelf.disk))
    (keeps : KeepsTheSame (known_of c) r f passes (state e.volume.shelf.disk) (state w.shelf.disk) e.volume w) where
  abbrev held : Parts B D
  held = calling s call (Looks look) e

  abbrev old_device : Device
  old_device = state e.volume.shelf.disk

  abbrev new_device : Device
  new_device = state w.shelf.disk

  held_kept : IsKept c.keys held.sessions
  held_kept = put_kept c.keys e kept s is call rest at (Looks look)

  held_phase : phase_at (s - 1) held.sessions.phases ≡ phase.Open call (Looks look)
  held_phase = at_work c.keys e kept s is call rest at (Looks look)

  -- its page is taken
  pub damaged_at_hand : ShowsTheLogs (known_of c) r f passes new_device w → 0 < length look.stack.items
      → ((rest : List TraversalItem) (item : TraversalItem) → look.stack.items ≡ rest ++ item ∷ [] → ¬ Used (tree_shown (known_of c) r f passes new_device w) item.page)
      → (bodies : List (List (Record (Entry B) (Page B)))) (i : index.State B) → Holds c r f passes old_device held bodies i → ⊥
  damaged_at_hand shows some none =
      never_damaged c lawful r f passes old_device new_device held held_kept s is call look held_phase works w most same_log reads keeps shows some none

  module _ (shows : ShowsTheLogs (known_of c) r f passes new_device w) (IsKey : B → Type 0) (keyed : ShowsKeys (known_of c) r f passes IsKey new_device w)
      (order : IsInOrder (passes w.shelf.pages) new_device.sectors w.shelf.frames w.shelf.used w.shelf.pages)
      (wants : Pair B → Bool) (leads may : B → Bool) (pairs : (x : Pair B) → IsKey x.key → wants x ≡ laws.wants c.keys call (pair_of x)) (bounds : (b : B) → IsKey b → leads b ≡ may b)
      (consistent : (x : Pair B) (b : B) → IsKey x.key → IsKey b → laws.wants c.keys call (pair_of x) ≡ true → c.rules.covers b x.key ≡ true → may b ≡ true)
      (after : Look B) (some : 0 < length look.stack.items)
      (step : LookStep (tree_shown (known_of c) r f passes new_device w) wants leads look.stack.items after.stack.items look.found.items after.found.items) where
    pub read_at_hand : MayHaveFound call (pairs_found after.found.items) → MovesOn c r f passes old_device new_device s held (calling s call (Looks after) (record e { volume = w }))
    read_at_hand may_find =
        subst (λ (x : State B (Work B)). MovesOn c r f passes old_device new_device s held (record e { volume = w; sessions = x }))
        (phase_again c.keys e kept s is call rest at (Looks look) (phase.Open call (Looks after)))
        (read_moves c lawful r f passes old_device new_device held held_kept s is call look held_phase works w most same_log reads keeps shows IsKey keyed order wants leads may pairs bounds consistent after some step may_find)

-- what is said of a result, whichever it is
pub ok_map : {A F : Type 0} (P Q : A → Type 0) (result : Result A F) → ((x : A) → P x → Q x) → IfOk result P → IfOk result Q
ok_map P Q (Ok x) leads said = leads x said
ok_map P Q (Err x) leads said = tt

pub err_map : {A F : Type 0} (P Q : F → Type 0) (result : Result A F) → ((x : F) → P x → Q x) → IfErr result P → IfErr result Q
err_map P Q (Ok x) leads said = tt
err_map P Q (Err x) leads said = leads x said

pub on_ok_map : {A F : Type 0} (P Q : Type 0) (result : Result A F) → (P → Q) → OnOk result P → OnOk result Q
on_ok_map P Q (Ok x) leads said = leads said
on_ok_map P Q (Err x) leads said = tt

pub on_err_map : {A F : Type 0} (P Q : Type 0) (result : Result A F) → (P → Q) → OnErr result P → OnErr result Q
on_err_map P Q (Ok x) leads said = tt
on_err_map P Q (Err x) leads said = leads said

-- what a refusal says
pub of_err : {A F : Type 0} (P : F → Type 0) (result : Result A F) (x : F) → result ≡ Err x → IfErr result P → P x
of_err {A} {F} P result x is holds = subst (λ (o : Result A F). IfErr o P) is holds

pub on_err : {A F : Type 0} (P : Type 0) (result : Result A F) (x : F) → result ≡ Err x → OnErr result P → P
on_err {A} {F} P result x is holds = subst (λ (o : Result A F). OnErr o P) is holds

pub on_ok : {A F : Type 0} (P : Type 0) (result : Result A F) (x : A) → result ≡ Ok x → OnOk result P → P
on_ok {A} {F} P result x is holds = subst (λ (o : Result A F). OnOk o P) is holds

-- what holds whichever it is, or if it is so
pub ok_so : {A F : Type 0} (P : Type 0) (result : Result A F) → ((x : A) → result ≡ Ok x → P) → OnOk result P
ok_so P (Ok x) so = so x refl
ok_so P (Err x) so = tt

pub err_so : {A F : Type 0} (P : F → Type 0) (result : Result A F) → ((x : F) → result ≡ Err x → P x) → IfErr result P
err_so P (Ok x) so = tt
err_so P (Err x) so = so x refl

pub err_any : {A F : Type 0} (P : Type 0) (result : Result A F) → P → OnErr result P
err_any P (Ok x) holds = tt
err_any P (Err x) holds = holds
