-- An engine that starts over what was found on its device holds the index that is opened over it.
use Rattle.std.proofs.Common.{◌≡◌, ◌∙◌, sym, subst, ap, refl, ℕ, suc, ◌-◌, ◌+◌, ◌*◌, ◌≤◌, Bool, false, None, Some, zero, List, [], ◌∷◌, arith}
use Rattle.std.proofs.lemmas.List.{append-nil}
use Rattle.gx_machine.specs.declared.entry.Entry.{Entry}
use Rattle.gx_disk.specs.Device.{Device}
use Rattle.gx_disk.specs.declared.layout.TheConstants.{MAX_PAGES, PAGES_AT, PAGE_SECTORS}
use Rattle.gx_page.specs.Contents.{Contents}
use Rattle.gx_node.specs.Reading.{Format}
use Rattle.gx_pool.specs.State.{State as Frames, IsEmpty, kept}
use Rattle.gx_recovery.specs.Analysis.{analysis, number_of}
use Rattle.gx_recovery.specs.Damage.{records_of}
use Rattle.gx_recovery.specs.Known.{Known}
use Rattle.gx_recovery.specs.Logged.{Logged, all_records}
use Rattle.gx_recovery.specs.Records.{Record}
use Rattle.gx_recovery.specs.Renewal.{found}
use Rattle.gx_index_laws.specs.Classes.{Class, IsLawful, Page, known_of}
use Rattle.gx_index_laws.specs.Openings.{found_state}
use Rattle.gx_index_laws.specs.States as index
use Rattle.gx_durable.specs.Area.{area_of}
use Rattle.gx_durable.specs.Spelled.{Reading}
use Rattle.gx_phases.specs.Indexes.{AreOf}
use Rattle.gx_phases.specs.States.{phase_at, held_at}
use Rattle.gx_storage.specs.Keeps.{Keeps}
use Rattle.gx_store.specs.State.{IsInOrder, Shelf}
use Rattle.gx_durable.proofs.Stamping.{told_kept}
use Rattle.gx_machine.specs.Keys.{Keys}
use Rattle.gx_storage.specs.State.{Volume}
use Rattle.gx_storage.proofs.Imaging.{nothing_imaged}
use Rattle.gx_engine.specs.Holds.{AreAt, Holds}
use Rattle.gx_engine.specs.States.{Parts}
use Rattle.gx_engine.specs.declared.start.Start.{Start}
use Rattle.gx_engine.specs.Starting.{AreFresh, StandsOn, Started, TakenUp, cut_off, rested}
use Rattle.gx_durable.specs.GoingOn.{RunsAfresh}
use Rattle.gx_durable.specs.Opening.{found_glog}
use Rattle.gx_durable.proofs.GoingOn.{found_runs}
use Rattle.gx_glog.specs.Layout.{selected_of}
use Rattle.gx_index_laws.proofs.Found.{found_whole}
use Rattle.gx_index_laws.proofs.Listed.{log_listed}
use Rattle.gx_recovery.specs.Damage.{IsLog}
use Rattle.gx_recovery.proofs.DamageItems.{bodies_log}
use Rattle.gx_engine.specs.Losing.{AllRest, AreCutOff, AreHeld, IsAtRest, OnlyHeld}
use Rattle.std.proofs.Common.{map}
use Rattle.std.specs.Prelude.{replicate}
use Rattle.std.specs.List.{slice_index_or}
use Rattle.gx_events.specs.Losers.{loser_slot}
use Rattle.gx_glog.specs.State.{Log, starting}
use Rattle.gx_pool.specs.State.{Kept}
use Rattle.gx_recovery.specs.Logged.{gate_synced, durable}
use Rattle.gx_recovery.specs.Records.{Touch}
use Rattle.gx_index_laws.specs.Openings.{losers_of, numbers_of}
use Rattle.gx_index_laws.specs.Whole.{IsWhole}
use Rattle.gx_phases.specs.declared.phase.Phase.{Phase}
use Rattle.gx_phases.specs.declared.phase.Phase.TheVariants.{Free, Open, Undoing, Waiting, Working}
use Rattle.gx_phases.specs.States.{State, fresh_state}
use Rattle.gx_engine.specs.declared.checkpoint.Checkpoint.TheVariants.{Running, Turning}
use Rattle.gx_engine.specs.declared.work.Work.{Work}
use Rattle.gx_engine.specs.declared.work.Work.TheVariants.{Descends, Looks, Rests, Seeks}
use Rattle.gx_engine.specs.Holds.{IsAt, KnowsFlight}
use Rattle.gx_engine.specs.Noted.{AreTold}
use Rattle.gx_engine.proofs.LosingEnds as ends

module _ {B D : Type 0} (c : Class B) (r : Reading (Entry B) (Page B)) (f : Format B) (passes : ℕ → Contents → Bool) (d : Device) (start : Start B) (disk : D) (e : Parts B D)
    (bodies : List (List (Record (Entry B) (Page B)))) (so : StandsOn c r f passes d start bodies) (is : Started c.keys start disk e) where
  abbrev k : Known (Entry B) (Page B)
  k = known_of c

  abbrev log : List (Record (Entry B) (Page B))
  log = records_of bodies

  abbrev s : Logged (Entry B) (Page B)
  s = found (area_of r c.pages d.seen) log

  abbrev frames : Frames
  frames = e.volume.shelf.frames

  abbrev v : Volume D
  v = record {
    log = rested start;
    shelf = record { disk = disk; frames = frames; used = start.used; counter = start.counter; pages = start.pages; batch = 0; has_room = false };
    most = start.fanout;
    imaged = replicate start.pages false;
  }

  abbrev i : index.State B
  i = found_state c start.next (area_of r c.pages d.seen) log

  none_kept : (page : ℕ) (x : Kept) → kept frames page ≡ Some x → ⊥
  none_kept page x was = let no : Some x ≡ None = sym was ∙ is.frames.none page in cc

  all_found : all_records s ≡ log
  all_found = append-nil log

  abbrev xs : List (Touch (Entry B))
  xs = cut_off start

  -- what the sessions have beside what they hold
  latest_is : e.sessions.latest ≡ start.commits
  latest_is = ap (λ (x : State B (Work B)). x.latest) is.sessions.only

  durable_is : e.sessions.durable ≡ start.commits
  durable_is = ap (λ (x : State B (Work B)). x.durable) is.sessions.only

  module _ (has : AreHeld xs e.sessions) where
    sessions_of : AreOf e.sessions i
    sessions_of = record {
      slots = sym (has.slots ∙ ap (λ (x : List (Touch (Entry B))). map loser_slot (losers_of x)) so.losers);
      transactions = λ a there. sym (has.transactions a there ∙ ap (λ (x : List (Touch (Entry B))). slice_index_or (numbers_of x) (a - 1) 0) so.losers);
      next = sym (ap (λ (x : State B (Work B)). x.next) is.sessions.only);
      oldest = sym so.commits ∙ sym durable_is;
      failed = sym (ap (λ (x : State B (Work B)). x.failed) is.sessions.only);
    }

  rest_at : (a : ℕ) (p : Phase B (Work B)) → IsAtRest p → IsAt c.keys p (held_at (a - 1) e.sessions.table).notes index.Rests []
  rest_at a Free rests = tt
  rest_at a Working rests = absurd rests
  rest_at a (Open call work) rests = absurd rests
  rest_at a (Undoing zero Rests) rests = (refl, λ entry. refl)
  rest_at a (Undoing (suc restored) work) rests = absurd (let no : suc restored ≡ 0 = rests.0 in omega arith)
  rest_at a (Undoing restored (Looks look)) rests = absurd rests.1
  rest_at a (Undoing restored (Descends from item)) rests = absurd rests.1
  rest_at a (Undoing restored (Seeks leaf)) rests = absurd rests.1
  rest_at a (Waiting number) rests = absurd rests

  all_at : (n : ℕ) (phases : List (Phase B (Work B))) → AllRest phases → IsAtRest (phase_at n phases)
  all_at n [] all = tt
  all_at zero (p ∷ phases) all = all.0
  all_at (suc n) (p ∷ phases) all = all_at n phases all.1

  rests_at : AreAt c.keys e.sessions i
  rests_at a there = rest_at a (phase_at (a - 1) e.sessions.phases) (all_at (a - 1) e.sessions.phases is.sessions.rests)

  -- its log and its empty frames keep the state that was found
  module _ (some : 1 ≤ start.bodies) where
    rests : rested start ≡ found_glog d.seen
    rests =
        ap (λ x. starting x start.bodies) so.extent ∙ ap (λ (n : ℕ). starting (selected_of d.seen) n) so.run

    afresh : RunsAfresh k r (rested start) frames d bodies s
    afresh =
        subst (λ (x : Log). RunsAfresh k r x frames d bodies s) (sym rests)
        (found_runs k r d frames bodies so.found so.closed (record { empty = is.frames.none; told = omega (arith, is.frames.gated, so.run, some) }))

    fresh_keeps : Keeps k r f passes d v bodies s
    fresh_keeps = record {
      runs = afresh.runs;
      said = afresh.said;
      placed = afresh.placed;
      steady = record { honest = so.honest; backed = λ page x was clean. absurd (none_kept page x was) };
      readable = so.readable frames is.frames.none;
      stored = afresh.stored so.written;
      used = ap (λ (x : List (Record (Entry B) (Page B))). (analysis k x).used) all_found ∙ sym so.used;
      counter = ap (λ (x : List (Record (Entry B) (Page B))). (analysis k x).counter) all_found ∙ sym so.counter;
      pages = sym so.pages;
      formed = λ page x was. absurd (none_kept page x was);
      imaged = nothing_imaged start.pages s;
    }

    started_keeps : Keeps k r f passes d e.volume bodies s
    started_keeps = subst (λ (x : Volume D). Keeps k r f passes d x bodies s) (sym is.volume) fresh_keeps

    -- so it holds the index that is opened there
    started_holds : 4 ≤ c.rules.most → IsWhole c i → AreHeld xs e.sessions → Holds c r f passes d e bodies i
    started_holds four whole has =
        let most : e.volume.most ≡ start.fanout = ap (λ (x : Volume D). x.most) is.volume in
        let is_log : e.volume.log ≡ rested start = ap (λ (x : Volume D). x.log) is.volume in
        record {
          most = most ∙ so.fanout;
          some = four;
          keeps = started_keeps;
          whole = whole;
          sessions = sessions_of has;
          at = rests_at;
          told = subst (λ (x : List (Touch (Entry B))). AreTold e.sessions x) (so.losers ∙ sym (ap (λ (x : List (Record (Entry B) (Page B))). (analysis k x).touched) all_found)) has.noted.notes;
          latest = latest_is ∙ so.commits ∙ sym (ap (number_of k) all_found);
          flying = λ works. subst (λ (x : Log). KnowsFlight x.stage e.in_flight (durable k (gate_synced s))) (sym is_log) tt;
          bare = λ works calm idle. ap (λ (x : Log). x.flight) is_log;
          turns = λ works turning. absurd (let no : Running ≡ Turning = sym is.checkpoint ∙ turning in cc);
        }

    -- a started engine holds the index that was found
    pub started_from : IsLawful c → 4 ≤ c.rules.most → Holds c r f passes d e bodies i
    started_from l four =
        let undamaged : IsLog k log = bodies_log k bodies so.found.undamaged in
        let area = area_of r c.pages d.seen in
        let listed = log_listed c l area log in
        let cut : AreCutOff c.keys xs = subst (AreCutOff c.keys) (sym so.losers) (ends.cut_off c l log undamaged) in
        started_holds four (found_whole c l start.next area log undamaged so.next so.found.good.good listed.0 listed.1) (is.sessions.held cut)

-- ---- frames and the parts of an engine that starts

-- frames that are empty, once a batch is gated for them
pub told_fresh : (count batch : ℕ) (x : Frames) → IsEmpty count x → AreFresh count batch (record x { gated = batch })
told_fresh count batch x empty = record { count = empty.count; none = λ page. told_kept x batch page ∙ empty.none page; held = empty.held; gated = refl }

-- they fit any device that has its pages
pub fresh_in_order : (passes : Contents → Bool) (count batch sectors used pages : ℕ) (x : Frames) → AreFresh count batch x → pages ≤ MAX_PAGES → PAGES_AT + PAGE_SECTORS * pages ≤ sectors → used ≤ pages
    → IsInOrder passes sectors x used pages
fresh_in_order passes count batch sectors used pages x fresh few inside taken = record {
  few = few;
  inside = inside;
  taken = taken;
  passed = λ page one was. absurd (let no : Some one ≡ None = sym was ∙ fresh.none page in cc);
  none_above = λ page above. fresh.none page;
}

-- the engine that was put together is one that starts
pub over_started : {B D : Type 0} (k : Keys B) (start : Start B) (disk : D) (log : Log) (frames : Frames) (shelf : Shelf D) (volume v : Volume D) (taken s : State B (Work B)) (noted most : ℕ)
    → log ≡ rested start → most ≡ start.fanout
    → shelf ≡ record { disk = disk; frames = frames; used = start.used; counter = start.counter; pages = start.pages; batch = 0; has_room = false }
    → volume ≡ record { log = log; shelf = shelf; most = most; imaged = replicate shelf.pages false } → AreFresh start.frames (start.bodies - 1) frames → TakenUp k start taken
    → v ≡ volume → s ≡ taken → noted ≡ taken.durable → Started k start disk (record { volume = v; sessions = s; in_flight = noted; checkpoint = Running })
over_started {B} {D} k start disk log frames shelf volume v taken s noted most is_log is_most is_shelf is_volume fresh up same_volume same_sessions same_noted =
    let over : Log → Shelf D → Volume D = λ l h. record { log = l; shelf = h; most = start.fanout; imaged = replicate h.pages false } in
    let on : Frames → Shelf D = λ x. record { disk = disk; frames = x; used = start.used; counter = start.counter; pages = start.pages; batch = 0; has_room = false } in
    let is : v ≡ over (rested start) (on frames) = same_volume ∙ is_volume
    ∙ ap (λ (m : ℕ). record { log = log; shelf = shelf; most = m; imaged = replicate shelf.pages false }) is_most
    ∙ ap (λ l. over l shelf) is_log ∙ ap (over (rested start)) is_shelf in
    let frames_are : v.shelf.frames ≡ frames = ap (λ (x : Volume D). x.shelf.frames) is in
    record {
      volume = is ∙ ap (λ x. over (rested start) (on x)) (sym frames_are);
      frames = subst (AreFresh start.frames (start.bodies - 1)) (sym frames_are) fresh;
      sessions = subst (TakenUp k start) (sym same_sessions) up;
      in_flight = same_noted ∙ sym (ap (λ (x : State B (Work B)). x.durable) same_sessions);
      checkpoint = refl;
    }

-- sessions that hold what was cut off
pub taken_from : {B : Type 0} (k : Keys B) (start : Start B) (items : List (Touch (Entry B))) (old new : State B (Work B)) → items ≡ start.losers.items
    → (AreCutOff k items → AreHeld items new) → AllRest new.phases → old ≡ fresh_state (Work B) start.commits start.commits start.next → OnlyHeld old new
    → TakenUp k start new
taken_from {B} k start items old new same holds rests was only = record {
  held = subst (λ (xs : List (Touch (Entry B))). AreCutOff k xs → AreHeld xs new) same holds;
  rests = rests;
  only = subst (λ (x : State B (Work B)). OnlyHeld x new) was only;
}
