-- The sweep of a leaf as an index's event.
use Rattle.std.proofs.Common.{◌≡◌, ◌≢◌, ◌∙◌, sym, ap, refl, subst, inl, inr, ⊎_elim, ℕ, ◌<◌, ◌≤◌, Bool, ◌&&◌, true, false, List, [], ◌∷◌, length, arith}
use Rattle.std.specs.Prelude.{nat_le, nat_lt, ◌==◌}
use Rattle.std.proofs.lemmas.Bool.{eqb-true, le-leb, lt-ltb, ltb-true}
use Rattle.gx_machine.specs.declared.entry.Entry.{Entry}
use Rattle.gx_machine.specs.Keys.{Keys}
use Rattle.gx_disk.specs.Device.{Device}
use Rattle.gx_page.specs.Contents.{Contents}
use Rattle.gx_node.specs.Edits.{entry_of}
use Rattle.gx_node.specs.Reading.{Format}
use Rattle.gx_node.specs.SmallLaws.{RemovalsMean}
use Rattle.gx_node.specs.declared.items.TheConstants.{MAX_ENTRIES}
use Rattle.gx_node.specs.Lists.{how_many}
use Rattle.gx_node.specs.Trees.{Node, Used}
use Rattle.gx_node.specs.Writes.{is_sweepable}
use Rattle.gx_node.specs.Store.{Stays, Store, tree_of}
use Rattle.gx_tree.specs.Writing.{Swept}
use Rattle.gx_events.specs.Happenings.{Happening, Works}
use Rattle.gx_recovery.specs.Analysis.{Analysis, analysis}
use Rattle.gx_recovery.specs.Known.{Known, Limits}
use Rattle.gx_recovery.specs.Logged.{all_records, appended}
use Rattle.gx_recovery.specs.Records.{Record, Touch}
use Rattle.gx_recovery.proofs.Folds.{analysis-snoc}
use Rattle.gx_recovery.proofs.Logs.{and_all}
use Rattle.gx_recovery.proofs.Tests.{and_first, and_second}
use Rattle.gx_index_laws.specs.Classes.{Class, IsLawful, Page, known_of}
use Rattle.gx_index_laws.specs.Happening.{with_record}
use Rattle.gx_index_laws.specs.States as index
use Rattle.gx_index_laws.proofs.Standing.{grown, known_lawful}
use Rattle.gx_durable.specs.Spelled.{Reading, record_read}
use Rattle.gx_durable.specs.Classes.{reading_of}
use Rattle.gx_events.specs.declared.outcome.Outcome.{Outcome}
use Rattle.gx_events.specs.declared.outcome.Outcome.TheVariants.{Help, More, Nothing, Refused, Replied}
use Rattle.gx_phases.specs.Moves.{failed_state}
use Rattle.gx_phases.specs.States.{IsKept}
use Rattle.gx_store.specs.declared.fault.StoreFault.{StoreFault}
use Rattle.gx_store.specs.declared.fault.StoreFault.TheVariants as store
use Rattle.gx_store.specs.Faults as faults
use Rattle.gx_store.specs.Faults.{CanBeRead}
use Rattle.gx_store.specs.Standing.{standing_node, store_of}
use Rattle.gx_store.specs.State.{IsSteady, Shelf}
use Rattle.gx_store.specs.Since.{GoesOn}
use Rattle.gx_store.proofs.Listed.{nodes_long}
use Rattle.gx_storage.specs.Bringing.{bringing, has_removable}
use Rattle.gx_storage.specs.Changes.{IsUnlogged, begun, has_room}
use Rattle.gx_storage.specs.Imaged.{is_imaged}
use Rattle.gx_storage.specs.Keeps.{KeepsWith, StaysWith}
use Rattle.gx_storage.specs.Numbers.{HasOwnNumber}
use Rattle.gx_storage.specs.State.{Volume}
use Rattle.gx_storage.specs.Sweeps.{WorksWith}
use Rattle.gx_storage.specs.Sweeping.{SweepIsLogged, swept_slots}
use Rattle.gx_storage.proofs.Recording.{AreNodes}
use Rattle.gx_storage.proofs.SmallSweeps.{swept_fits, sweep_quiet}
use Rattle.gx_storage.proofs.Stepping.{shown_legal, stood}
use Rattle.gx_storage.proofs.SoundSweeps.{sweep_works}
use Rattle.gx_engine.specs.declared.checkpoint.Checkpoint.TheVariants.{Turning}
use Rattle.gx_engine.specs.Holds.{Holds, Led, Leads}
use Rattle.gx_engine.specs.Noted.{AreTold}
use Rattle.gx_engine.specs.Refusals.{IsTurnedAway, StampsStay}
use Rattle.gx_engine.specs.States.{Parts, is_due, runs}
use Rattle.gx_engine.specs.Sweeping.{AreTaken, SweepsPage, is_held, node_shown, slots_room, slots_said, takes_any}
use Rattle.gx_engine.specs.Writes.{brought}
use Rattle.gx_engine.proofs.Brought.{as_brought, begun_on, by_refusal, help_later, logged_later}
use Rattle.gx_engine.proofs.Claimed.{claimed_alike}
use Rattle.gx_engine.proofs.Growing.{grown_led}
use Rattle.gx_engine.proofs.Serving.{FliesOn}
use Rattle.gx_engine.proofs.SweepRoom.{lacks_taken}

same_parts : {B : Type 0} (one other : Store B) → one.nodes ≡ other.nodes → one.counter ≡ other.counter → one.room ≡ other.room → one ≡ other
same_parts {B} one other nodes counter room =
    ap (λ (ns : List (Node B)). record { nodes = ns; counter = one.counter; room = one.room }) nodes
    ∙ ap (λ n. record { nodes = other.nodes; counter = n; room = one.room }) counter ∙ ap (λ n. record { nodes = other.nodes; counter = other.counter; room = n }) room

-- The sweep of a page that was brought first.
module _ {B D : Type 0} (k : Keys B) (known : Limits → Known (Entry B) (Page B)) (r : Reading (Entry B) (Page B)) (f : Format B) (passes : ℕ → Contents → Bool)
    (page : ℕ) (d m e : Device) (old : Parts B D) (t : Shelf D)
    (first : IsUnlogged known r f passes (bringing old.volume) d m old.volume (record old.volume { shelf = t }))
    (stays : Stays (IsSteady d old.volume.shelf.frames) (store_of f d.seen old.volume.shelf) (store_of f m.seen t)) where
  abbrev mid : Parts B D
  mid = record old { volume = record old.volume { shelf = t } }

  on : GoesOn passes d m (bringing old.volume) t
  on = (first.since 0).goes_on

  stay : StampsStay old.volume.shelf t
  stay = λ q. (first.since q).same.stamp

  same_store : IsSteady d old.volume.shelf.frames → store_of f m.seen t ≡ store_of f d.seen old.volume.shelf
  same_store steady = same_parts (store_of f m.seen t) (store_of f d.seen old.volume.shelf) (stays.nodes steady) stays.counter stays.room

  same_used : t.used ≡ old.volume.shelf.used
  same_used = sym (nodes_long (standing_node f t.frames m.seen) t.used) ∙ stays.used ∙ nodes_long (standing_node f old.volume.shelf.frames d.seen) old.volume.shelf.used

  takes_same : IsSteady d old.volume.shelf.frames → takes_any k f m page mid ≡ takes_any k f d page old
  takes_same steady =
      ap (λ (n : ℕ). (nat_lt 0 page && nat_le page n) && has_removable (is_held k old) (node_shown f m page mid)) same_used
      ∙ ap (λ (s : Store B). (nat_lt 0 page && nat_le page old.volume.shelf.used) && has_removable (is_held k old) ((tree_of s).node page)) (same_store steady)

  -- so a sweep takes the same
  taken_same : (slots : List ℕ) → AreTaken (is_held k old) f m mid.volume page slots → AreTaken (is_held k old) f d old.volume page slots
  taken_same slots taken steady = taken (on.steady steady) ∙ ap (λ (s : Store B). swept_slots (is_held k old) ((tree_of s).node page)) (same_store steady)

  then_comes : (new : Parts B D) (outcome : Outcome B) → SweepsPage k known r f passes page m e mid new outcome → SweepsPage k known r f passes page d e old new outcome
  then_comes new More is = record {
    early = is.early;
    slots = is.slots;
    taken = taken_same is.slots is.taken;
    logged = logged_later known r f passes (slots_room old.volume page is.slots) d m e old.volume t new.volume (slots_said old.volume page is.slots e new.volume) first is.logged;
    swept = λ steady. subst (λ (s : Store B). Swept (is_held k old) s (store_of f e.seen new.volume.shelf) page true) (same_store steady) (is.swept (on.steady steady));
    only = is.only;
  }
  then_comes new Nothing is = ((λ steady. sym (takes_same steady) ∙ is.0 (on.steady steady)), is.1)
  then_comes new (Help n) is = (
    ⊎_elim
        (λ brings. inl (help_later passes d m e (runs old.checkpoint) (bringing old.volume) (bringing mid.volume) new.volume.shelf n (begun_on passes d m (bringing old.volume) t true on) stay brings))
        (λ some. inr (
          (λ steady. sym (takes_same steady) ∙ some.0 (on.steady steady)),
          ⊎_elim
              (λ due. inl due)
              (λ room. inr (
                room.0,
                record {
                  slots = room.1.slots;
                  taken = taken_same room.1.slots room.1.taken;
                  help = help_later passes d m e (runs old.checkpoint) _ _ new.volume.shelf n
                      (begun_on passes d m (bringing old.volume) t (has_room old.volume.log (slots_room old.volume page room.1.slots)) on) stay room.1.help;
                },
              ))
              some.1,
        ))
        is.0,
    is.1,
  )
  then_comes new (Refused why) is = (
    ⊎_elim
        (λ device. inl (device.0, (let failed = device.1 in let before = on.faults in omega (arith, failed, before))))
        (λ lies. inr (lies.0, λ steady readable. subst (λ (s : Store B). MAX_ENTRIES < length ((tree_of s).node page).pairs) (same_store steady) (lies.1 (on.steady steady) (on.readable steady readable))))
        is.0,
    is.1,
  )
  then_comes new (Replied reply) is = absurd is

pub sweep_then : {B D : Type 0} (k : Keys B) (known : Limits → Known (Entry B) (Page B)) (r : Reading (Entry B) (Page B)) (f : Format B) (passes : ℕ → Contents → Bool) (page : ℕ) (d m e : Device) (old mid : Parts B D)
    → mid ≡ brought old mid → IsUnlogged known r f passes (bringing old.volume) d m old.volume mid.volume
    → Stays (IsSteady d old.volume.shelf.frames) (store_of f d.seen old.volume.shelf) (store_of f m.seen mid.volume.shelf) → (new : Parts B D) (outcome : Outcome B)
    → SweepsPage k known r f passes page m e mid new outcome → SweepsPage k known r f passes page d e old new outcome
sweep_then {B} {D} k known r f passes page d m e old mid same first stays new outcome is =
    subst
    (λ (x : Parts B D). IsUnlogged known r f passes (bringing old.volume) d m old.volume x.volume
    → Stays (IsSteady d old.volume.shelf.frames) (store_of f d.seen old.volume.shelf) (store_of f m.seen x.volume.shelf)
    → SweepsPage k known r f passes page m e x new outcome → SweepsPage k known r f passes page d e old new outcome)
    (sym same) (λ first stays is. then_comes k known r f passes page d m e old mid.volume.shelf first stays new outcome is) first stays is

-- a sweep that took something
pub sweep_so : {B D : Type 0} (known : Limits → Known (Entry B) (Page B)) (r : Reading (Entry B) (Page B)) (f : Format B) (passes : ℕ → Contents → Bool) (IsTest : (Entry B → Bool) → Type 0)
    (d e : Device) (v w : Volume D) (page : ℕ) (any : Bool) → any ≡ true → SweepIsLogged known r f passes IsTest d e v w page any → SweepIsLogged known r f passes IsTest d e v w page true
sweep_so known r f passes IsTest d e v w page any is logged = subst (λ (b : Bool). SweepIsLogged known r f passes IsTest d e v w page b) is logged

-- or nothing
pub unswept_so : {B D : Type 0} (known : Limits → Known (Entry B) (Page B)) (r : Reading (Entry B) (Page B)) (f : Format B) (passes : ℕ → Contents → Bool) (IsTest : (Entry B → Bool) → Type 0)
    (d e : Device) (v w : Volume D) (page : ℕ) (any : Bool) → any ≡ false → SweepIsLogged known r f passes IsTest d e v w page any → SweepIsLogged known r f passes IsTest d e v w page false
unswept_so known r f passes IsTest d e v w page any is logged = subst (λ (b : Bool). SweepIsLogged known r f passes IsTest d e v w page b) is logged

pub swept_so : {B : Type 0} (claimed : Entry B → Bool) (old new : Store B) (page : ℕ) (any : Bool) → any ≡ true → Swept claimed old new page any → Swept claimed old new page true
swept_so claimed old new page any is swept = subst (λ (b : Bool). Swept claimed old new page b) is swept

pub none_taken : {B : Type 0} (claimed : Entry B → Bool) (old new : Store B) (page : ℕ) (any : Bool) → any ≡ false → Swept claimed old new page any
    → how_many (is_sweepable (λ x. claimed (entry_of x))) ((tree_of old).node page).pairs ≡ 0
none_taken claimed old new page any is swept = (swept.none is).1

-- A leaf that has something to take.
module _ {B : Type 0} (claimed : Entry B → Bool) (node : Node B) (some : has_removable claimed node ≡ true) where
  pub its_level : node.level ≡ 0
  its_level = eqb-true node.level 0 (and_first (node.level == 0) (nat_lt 0 (how_many (is_sweepable (λ x. claimed (entry_of x))) node.pairs)) some)

  its_some : 0 < how_many (is_sweepable (λ x. claimed (entry_of x))) node.pairs
  its_some = ltb-true 0 _ (and_second (node.level == 0) (nat_lt 0 (how_many (is_sweepable (λ x. claimed (entry_of x))) node.pairs)) some)

  -- so that nothing was taken is impossible
  pub never_none : how_many (is_sweepable (λ x. claimed (entry_of x))) node.pairs ≡ 0 → ⊥
  never_none none = let more = its_some in omega (arith, none, more)

-- a taken leaf with something to take has what a fault says of it
pub more_than_fit : {B D : Type 0} (f : Format B) (page : ℕ) (d : Device) (old : Parts B D) (claimed : Entry B → Bool) → 1 ≤ page → page ≤ old.volume.shelf.used
    → has_removable claimed (node_shown f d page old) ≡ true
    → (Used (tree_of (store_of f d.seen old.volume.shelf)) page → (node_shown f d page old).level ≡ 0 → MAX_ENTRIES < length (node_shown f d page old).pairs)
    → MAX_ENTRIES < length (node_shown f d page old).pairs
more_than_fit f page d old claimed low high some full =
    let long = nodes_long (standing_node f old.volume.shelf.frames d.seen) old.volume.shelf.used in
    full (low, omega (arith, high, long)) (its_level claimed (node_shown f d page old) some)

-- A leaf was swept.
module _ {B D : Type 0} (c : Class B) (lawful : 4 ≤ c.rules.most → IsLawful c) (said : List ℕ → B) (f : Format B) (passes : ℕ → Contents → Bool) (page : ℕ) (d e : Device) (old : Parts B D)
    (kept : IsKept c.keys old.sessions) where
  module _ (w : Volume D) (calm : old.checkpoint ≢ Turning) (most : w.most ≡ old.volume.most) (flies : FliesOn old.volume.log w.log)
      (nodes : AreNodes f passes old.volume.shelf) (means : RemovalsMean f) (slots : List ℕ) (taken : AreTaken (is_held c.keys old) f d old.volume page slots)
      (keeps : KeepsWith (known_of c) (reading_of said f) f passes d e old.volume w (slots_said old.volume page slots e w))
      (swept : IsSteady d old.volume.shelf.frames → Swept (is_held c.keys old) (store_of f d.seen old.volume.shelf) (store_of f e.seen w.shelf) page true) (own : HasOwnNumber e.seen w.shelf page) where
    abbrev given : Record (Entry B) (Page B)
    given = record_read (reading_of said f) (slots_said old.volume page slots e w)

    module _ (bodies : List (List (Record (Entry B) (Page B)))) (i : index.State B) (h : Holds c (reading_of said f) f passes d old bodies i) where
      after : StaysWith (known_of c) (reading_of said f) f passes d e w bodies i.log given
      after = keeps bodies i.log (known_lawful c (lawful h.some)) h.keeps

      -- what any session claims is spared, so the record may come
      works_with : WorksWith c (reading_of said f) f passes e w bodies i given
      works_with =
          sweep_works c (lawful h.some) said f passes d e old.volume w page bodies i h.whole h.keeps (is_imaged old.volume.imaged page) slots after
          (λ bit. swept_fits (known_of c) said f passes d old.volume bodies i.log h.keeps nodes means page (is_held c.keys old) slots (store_of f e.seen w.shelf) (taken h.keeps.steady)
          (swept h.keeps.steady) bit) (is_held c.keys old)
          (λ entry claimed. claimed_alike c.keys old.sessions i kept h.sessions entry ∙ claimed) (swept h.keeps.steady) own

      -- no entry is touched
      same_touched : (analysis (known_of c) (all_records (appended given i.log))).touched ≡ (analysis (known_of c) (all_records i.log)).touched
      same_touched =
          ap (λ (a : Analysis (Entry B)). a.touched)
          (ap (λ (rs : List (Record (Entry B) (Page B))). analysis (known_of c) rs) (grown given i.log) ∙ analysis-snoc (known_of c) (all_records i.log) given)
          ∙ sweep_quiet (known_of c) said f (is_imaged old.volume.imaged page) page slots e.seen w.shelf (analysis (known_of c) (all_records i.log))

      sweep_led : Led c (reading_of said f) f passes d e (record old { volume = w }) i (Works ∷ [])
      sweep_led =
          let with = works_with in
          let j : index.State B = with_record given i in
          grown_led c (reading_of said f) f passes d e old bodies i h calm w most flies after.leaves given with.keeps (Works ∷ []) j (j, with.comes.happens, refl) with.comes.happens.whole refl refl refl old.sessions
          (record {
            of = record { slots = h.sessions.slots; transactions = h.sessions.transactions; next = h.sessions.next; oldest = h.sessions.oldest; failed = h.sessions.failed };
            at = h.at;
            told = subst (λ (xs : List (Touch (Entry B))). AreTold old.sessions xs) (sym same_touched) h.told;
          })
          refl (λ works. works)

    pub sweep_leads : Leads c (reading_of said f) f passes d e old (record old { volume = w }) (Works ∷ [])
    sweep_leads bodies i h = sweep_led bodies i h

  -- no page of an index has more pairs than fit
  pub never_full : (new : Parts B D) (events : List (Happening B)) → 1 ≤ page → page ≤ old.volume.shelf.used → old.volume.most ≤ MAX_ENTRIES
      → (IsSteady d old.volume.shelf.frames → CanBeRead passes d old.volume.shelf → MAX_ENTRIES < length (node_shown f d page old).pairs) → Leads c (reading_of said f) f passes d e old new events
  never_full new events low high most full bodies i h =
      let law = lawful h.some in
      let before = stood c law said f passes d e old.volume old.volume bodies i h.whole h.keeps in
      let fits = ((shown_legal c law said f passes d e old.volume old.volume bodies i h.whole h.keeps).pages page (low, omega (arith, high, before))).room in
      let more = full h.keeps.steady h.keeps.readable in
      let same = h.most in
      absurd (omega (arith, fits, more, same, most))

-- Pages were refused to the sweep of a leaf that has something to take.
pub turned_comes : {B D : Type 0} (k : Keys B) (known : Limits → Known (Entry B) (Page B)) (r : Reading (Entry B) (Page B)) (f : Format B) (passes : ℕ → Contents → Bool) (page : ℕ) (state : D → Device)
    (old : Parts B D) (w : Volume D) → w.most ≡ old.volume.most → w.log ≡ old.volume.log → w.imaged ≡ old.volume.imaged → 1 ≤ page → page ≤ old.volume.shelf.used
    → has_removable (is_held k old) (node_shown f (state old.volume.shelf.disk) page old) ≡ true → is_due old ≡ false
    → StampsStay old.volume.shelf w.shelf
    → (n : StoreFault) (slots : List ℕ) → (n ≡ store.NoRoom → AreTaken (is_held k old) f (state old.volume.shelf.disk) old.volume page slots)
    → faults.IsWhy passes (state old.volume.shelf.disk) (state w.shelf.disk) (begun old.volume (slots_room old.volume page slots)) w.shelf n → (new : Parts B D) (o : Outcome B)
    → IsTurnedAway n (record old { volume = w }) new o → SweepsPage k known r f passes page (state old.volume.shelf.disk) (state new.volume.shelf.disk) old new o
turned_comes {B} {D} k known r f passes page state old w most log imaged low high some early stay n slots exact why new o is =
    let d = state old.volume.shelf.disk in
    let taken : (nat_lt 0 page && nat_le page old.volume.shelf.used) ≡ true =
    and_all (nat_lt 0 page) (nat_le page old.volume.shelf.used) (lt-ltb 0 page low) (le-leb page old.volume.shelf.used high) in
    let takes : takes_any k f d page old ≡ true =
    and_all (nat_lt 0 page && nat_le page old.volume.shelf.used) (has_removable (is_held k old) (node_shown f d page old)) taken some in
    by_refusal Refused (record old { volume = w }) new o (λ x y. SweepsPage k known r f passes page d (state x.volume.shelf.disk) old x y) n is
    (λ can found helps. (
      (let lacks = lacks_taken passes d (state w.shelf.disk) f (is_held k old) old.volume page w.shelf n slots exact why in
          inr (
            (λ steady. takes),
            inr (
              early,
              record {
                slots = lacks.0;
                taken = lacks.1;
                help = record { fault = n; can = can; why = lacks.2; help = found; helps = helps; is = refl; stamps = stay };
              },
            ),
          )),
      as_brought old w old.sessions log most imaged,
    ))
    (λ device. (
      inl (refl, subst (λ (x : StoreFault). faults.IsWhy passes d (state w.shelf.disk) (begun old.volume (slots_room old.volume page slots)) w.shelf x) device why),
      as_brought old w (failed_state old.sessions) log most imaged,
    ))
    (λ lies. (
      inr (refl, λ steady readable. absurd (subst (λ (x : StoreFault). faults.IsWhy passes d (state w.shelf.disk) (begun old.volume (slots_room old.volume page slots)) w.shelf x) lies why steady readable)),
      as_brought old w (failed_state old.sessions) log most imaged,
    ))
