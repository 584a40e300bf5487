-- An engine that begins on a new index holds it.
use Rattle.std.proofs.Common.{◌≡◌, ◌∙◌, sym, ap, refl, subst, ℕ, zero, suc, ◌-◌, ◌≤◌, Bool, true, false, None, Some, Option, List, [], ◌∷◌, arith}
use Rattle.std.specs.Prelude.{nat_le, nat_lt, ◌&&◌, if◌then◌else◌, replicate, Result, Ok, Err, IfOk}
use Rattle.std.specs.List.{slice_index_or}
use Rattle.gx_machine.specs.declared.entry.Entry.{Entry}
use Rattle.gx_machine.specs.Keys.{Members}
use Rattle.gx_machine.specs.Machine.{fresh_machine}
use Rattle.gx_machine.specs.Sets.{has}
use Rattle.gx_disk.specs.Device.{Device, IsSettled}
use Rattle.gx_page.specs.Format.{IsWellFormed}
use Rattle.gx_node.specs.Laws.{HeldPairsAreRead, HeldChildrenAreRead}
use Rattle.gx_node.specs.Reading.{Format, is_node}
use Rattle.gx_node.specs.Trees.{fresh_tree}
use Rattle.gx_node.proofs.Fresh.{fresh_legal}
use Rattle.gx_events.specs.Engines.{SeenAs}
use Rattle.gx_pool.specs.Area.{bytes_of}
use Rattle.gx_pool.specs.State.{State, IsEmpty, Kept, kept, stamp_of}
use Rattle.gx_recovery.specs.Known.{Known, Limits}
use Rattle.gx_recovery.specs.Analysis.{analysis}
use Rattle.gx_recovery.specs.Logged.{all_records}
use Rattle.gx_recovery.specs.Records.{Record}
use Rattle.gx_recovery.specs.Redo.{tree_of}
use Rattle.gx_index_laws.specs.Classes.{Class, IsLawful, Page, is_live, known_of}
use Rattle.gx_index_laws.specs.Openings.{found_state}
use Rattle.gx_index_laws.specs.States as index
use Rattle.gx_index_laws.specs.States.{engine_of}
use Rattle.gx_index_laws.specs.Whole.{IsWhole}
use Rattle.gx_index_laws.proofs.Found.{found_whole}
use Rattle.gx_index_laws.proofs.Listed.{log_listed}
use Rattle.gx_durable.specs.Area.{area_of}
use Rattle.gx_durable.specs.Beginning.{first_glog, first_records}
use Rattle.gx_durable.specs.Head.{head_in}
use Rattle.gx_durable.specs.Legal.{AgreeOnUsed}
use Rattle.gx_durable.specs.Spelled.{Reading}
use Rattle.gx_durable.specs.Standing.{Up}
use Rattle.gx_durable.specs.Stored.{bytes_by, stored}
use Rattle.gx_durable.proofs.Beginning.{first_up}
use Rattle.gx_durable.specs.Classes.{class_of, reading_of}
use Rattle.gx_durable.proofs.Used.{reads_used}
use Rattle.gx_phases.specs.declared.phase.Phase.{Phase}
use Rattle.gx_phases.specs.declared.phase.Phase.TheVariants.{Free}
use Rattle.gx_phases.specs.Indexes.{AreOf}
use Rattle.gx_phases.specs.States as phases
use Rattle.gx_phases.specs.States.{fresh_state, held_at, phase_at}
use Rattle.gx_storage.specs.Keeps.{Keeps}
use Rattle.gx_storage.specs.State.{Volume}
use Rattle.gx_storage.proofs.Imaging.{nothing_imaged}
use Rattle.gx_store.specs.State.{Shelf}
use Rattle.gx_glog.specs.State.{Log}
use Rattle.gx_format.specs.Fresh.{fresh_root, IsFresh}
use Rattle.gx_format.specs.Calls.{Call, HasRun}
use Rattle.gx_format.specs.Formatting.{AreInRange, Formats, formatting, sectors_of}
use Rattle.gx_format.proofs.Keeping.{call_honest}
use Rattle.gx_glog.specs.declared.parameters.Parameters.{Parameters}
use Rattle.gx_engine.specs.declared.checkpoint.Checkpoint.TheVariants.{Off, Turning}
use Rattle.gx_engine.specs.declared.work.Work.{Work}
use Rattle.gx_engine.specs.Holds.{AreAt, Holds, IsAt}
use Rattle.gx_engine.specs.Noted.{AreTold, has_transaction}
use Rattle.gx_engine.specs.States.{Parts}
use Rattle.gx_engine_events.specs.Seen.{Sees}
use Rattle.gx_engine_events.proofs.Stepping.{sees_within}
use Rattle.gx_engine_events.specs.New.{IsNew, new_parts}
use Rattle.gx_engine_events.proofs.Pages.{areas_agree, both_fit, both_readable, laid_page}

-- each place of a list of one item has it, and so has each place after it
all_one : {X : Type 0} (x : X) (n i : ℕ) → slice_index_or (replicate n x) i x ≡ x
all_one x zero i = refl
all_one x (suc n) zero = refl
all_one x (suc n) (suc i) = all_one x n i

none_there : {X : Type 0} (o : Option X) (x : X) → o ≡ None → o ≡ Some x → ⊥
none_there o x none some = let no : None ≡ Some x = sym none ∙ some in cc

module _ {B D : Type 0} (shape : Members B) (proper : B → Bool) (IsKey : B → Type 0) (spelling : B → List ℕ) (said : List ℕ → B) (f : Format B) (start : B)
    (pairs_read : HeldPairsAreRead IsKey spelling f) (children_read : HeldChildrenAreRead IsKey spelling f) (start_is : IsKey start)
    (p : Parameters) (head : List ℕ) (l : IsLawful (class_of shape proper (record { most = p.most; pages = p.pages; head = head }))) (range : AreInRange p.pages p.most) (disk : D) (d : Device)
    (says : head_in d.seen ≡ head) (honest : d.honest ≡ true)
    (large : sectors_of p.pages ≤ d.sectors) (formed : IsWellFormed (fresh_root spelling start)) (fresh : IsFresh p (fresh_root spelling start) d.seen) (settled : IsSettled d)
    (frames : State) (count : ℕ) (empty : IsEmpty count frames) where
  abbrev c : Class B
  c = class_of shape proper (record { most = p.most; pages = p.pages; head = head })

  abbrev k : Known (Entry B) (Page B)
  k = known_of c

  abbrev r : Reading (Entry B) (Page B)
  r = reading_of said f

  abbrev log : List (Record (Entry B) (Page B))
  log = first_records (Entry B) (Page B)

  abbrev area : ℕ → Page B
  area = area_of r p.pages d.seen

  abbrev e : Parts B D
  e = new_parts p.pages p.most frames disk

  abbrev i : index.State B
  i = found_state c 1 area log

  -- a fresh tree's pages, in the bytes that the device has
  abbrev laid : ℕ → Page B
  laid = laid_page IsKey spelling said f start pairs_read children_read start_is p range.least_pages range.most_pages d.seen formed fresh.laid

  -- the tree of its log is a fresh one on the pages in use
  agree : AgreeOnUsed (tree_of k laid log) (tree_of k area log)
  agree = record {
    counter = refl;
    used = refl;
    pages = λ q low high. areas_agree IsKey spelling said f start pairs_read children_read start_is p range.least_pages range.most_pages d.seen formed fresh.laid q low high;
  }

  sound : k.sound (tree_of k laid log)
  sound = fresh_legal c.rules l.rules start

  nothing_fresh : (x : Entry B) → is_live c (fresh_tree start) x ≡ false
  unfolding is_live
  nothing_fresh x = refl

  nothing_live : (x : Entry B) → k.live (tree_of k area log) x ≡ false
  nothing_live x = (reads_used c).live (tree_of k laid log) (tree_of k area log) agree sound x ∙ nothing_fresh x

  up : Up k r first_glog d.sectors d.seen d.pending (log ∷ []) i.log
  up =
      first_up k r d.sectors d.seen d.pending (record { reads = says; magic = settled 0; parameters = settled 1 }) fresh.laid.log (λ s is. settled s) (omega (arith, range.least_pages)) (record { few = range.most_pages; inside = large }) (λ page s is unnamed within. settled s)
      ((reads_used c).sound (tree_of k laid log) (tree_of k area log) agree sound)
      (λ page low high. both_fit IsKey spelling said f start pairs_read children_read start_is p range.least_pages range.most_pages d.seen formed fresh.laid page low high)

  none_kept : (page : ℕ) (x : Kept) → kept frames page ≡ Some x → ⊥
  none_kept page x is = none_there (kept frames page) x (empty.none page) is

  none_stamped : (page place : ℕ) → stamp_of (kept frames page) ≡ Some place → ⊥
  none_stamped page place is = none_there (stamp_of (kept frames page)) place (ap stamp_of (empty.none page)) is

  each_stored : (page : ℕ) → stored r p.pages frames d.seen page ≡ area page
  unfolding stored area_of
  each_stored page = ap (λ (o : Option Kept). if nat_lt 0 page && nat_le page p.pages then r.content (bytes_by o (bytes_of d.seen page)) else r.no_page) (empty.none page)

  keeps : Keeps k r f (is_node f) d e.volume (log ∷ []) i.log
  keeps = record {
    runs = record {
      up = up;
      stamped = record {
        behind = omega (arith, empty.gated);
        places = omega arith;
        gated = λ page place is low. absurd (none_stamped page place is);
        flight = λ page place is low. absurd (none_stamped page place is);
      };
    };
    said = λ page place is. absurd (none_stamped page place is);
    placed = λ page place is. absurd (none_stamped page place is);
    steady = record { honest = honest; backed = λ page x is clean. absurd (none_kept page x is) };
    readable = both_readable IsKey spelling said f start pairs_read children_read start_is p range.least_pages range.most_pages d.seen formed fresh.laid frames;
    stored = each_stored;
    used = refl;
    counter = refl;
    pages = refl;
    formed = λ page x is. absurd (none_kept page x is);
    imaged = nothing_imaged p.pages i.log;
  }

  whole : IsWhole c i
  whole =
      let listed = log_listed c l area log in
      found_whole c l 1 area log up.carries.healthy.gated (omega arith) up.carries.healthy.good listed.0 listed.1

  sessions_are : AreOf e.sessions i
  sessions_are = record { slots = refl; transactions = λ a there. sym (all_one 0 8 (a - 1)); next = refl; oldest = refl; failed = refl }

  free_at : (n : ℕ) → phase_at n e.sessions.phases ≡ Free
  free_at n = all_one Free 8 n

  at : AreAt c.keys e.sessions i
  at a there = subst (λ (x : Phase B (Work B)). IsAt c.keys x (held_at (a - 1) e.sessions.table).notes (i.work a) (i.restored a)) (sym (free_at (a - 1))) tt

  told : AreTold e.sessions (analysis k (all_records i.log)).touched
  told a there busy = absurd (let no : false ≡ true = sym (ap has_transaction (free_at (a - 1))) ∙ busy in let none : ⊥ = cc in none)

  pub new_holds : Holds c r f (is_node f) d e (log ∷ []) i
  new_holds = record {
    most = refl;
    some = range.least_entries;
    keeps = keeps;
    whole = whole;
    sessions = sessions_are;
    at = at;
    told = told;
    latest = refl;
    flying = λ works. tt;
    bare = λ works calm idle. refl;
    turns = λ works turning. absurd (let no : Off ≡ Turning = turning in let none : ⊥ = cc in none);
  }

  -- and is seen as the machine with nothing committed
  pub new_seen : SeenAs c.keys (engine_of c i) fresh_machine
  new_seen = record {
    sessions = refl;
    latest = record { in_order = tt; members = λ x. sym (nothing_live x) };
    older = refl;
    oldest = refl;
    failed = refl;
  }

-- ---- the engine that is put together, and the device that was formatted

-- a run of calls keeps a device as honest
run_honest : {D : Type 0} (state : D → Device) (calls : List Call) (a b : D) → HasRun state calls a b → (state b).honest ≡ (state a).honest
run_honest state [] a b same = ap (λ x. (state x).honest) same
run_honest state (call ∷ calls) a b run = run_honest state calls run.0 b run.1.1 ∙ (call_honest call (state a) (state run.0) (Ok tt) run.1.0).0

pub run_sectors : {D : Type 0} (state : D → Device) (calls : List Call) (a b : D) → HasRun state calls a b → (state b).sectors ≡ (state a).sectors
run_sectors state [] a b same = ap (λ x. (state x).sectors) same
run_sectors state (call ∷ calls) a b run = run_sectors state calls run.0 b run.1.1 ∙ (call_honest call (state a) (state run.0) (Ok tt) run.1.0).1

pub over_new : {B D : Type 0} (pages most count wide : ℕ) (frames : State) (disk : D) (glog : Log) (sessions : phases.State B (Work B)) (shelf : Shelf D) (volume : Volume D) (e : Parts B D)
    → IsEmpty count frames → glog ≡ first_glog → sessions ≡ fresh_state (Work B) 0 0 1
    → shelf ≡ record { disk = disk; frames = frames; used = 2; counter = 0; pages = pages; batch = 0; has_room = false } → wide ≡ most
    → volume ≡ record { log = glog; shelf = shelf; most = wide; imaged = replicate shelf.pages false } → e ≡ record { volume = volume; sessions = sessions; in_flight = sessions.durable; checkpoint = Off }
    → (e ≡ new_parts pages most frames disk) × IsNew pages most count e
over_new {B} {D} pages most count wide frames disk glog sessions shelf volume e empty is_log is_sessions is_shelf is_wide is_volume is_e =
    let of : Log → Shelf D → ℕ → Volume D = λ a b n. record { log = a; shelf = b; most = n; imaged = replicate b.pages false } in
    let on : Volume D → phases.State B (Work B) → Parts B D = λ v x. record { volume = v; sessions = x; in_flight = x.durable; checkpoint = Off } in
    let whole : volume ≡ (new_parts {B = B} pages most frames disk).volume = is_volume ∙ (λ t. of (is_log t) (is_shelf t) (is_wide t)) in
    let is : e ≡ new_parts pages most frames disk = is_e ∙ (λ t. on (whole t) (is_sessions t)) in
    let frames_are : e.volume.shelf.frames ≡ frames = ap (λ (x : Parts B D). x.volume.shelf.frames) is in
    let disk_is : e.volume.shelf.disk ≡ disk = ap (λ (x : Parts B D). x.volume.shelf.disk) is in (
      is,
      record {
        parts = is ∙ (λ t. new_parts pages most (sym frames_are t) (sym disk_is t));
        empty = subst (IsEmpty count) (sym frames_are) empty;
      },
    )

-- an engine that is new on a device that was formatted is seen as the machine with nothing committed
new_sees : {B D : Type 0} (shape : Members B) (proper : B → Bool) (IsKey : B → Type 0) (spelling : B → List ℕ) (said : List ℕ → B) (f : Format B) (start : B) (state : D → Device)
    → HeldPairsAreRead IsKey spelling f → HeldChildrenAreRead IsKey spelling f → IsKey start → ((l : Limits) → 4 ≤ l.most → IsLawful (class_of shape proper l))
    → (p : Parameters) (old new : D) → (state old).honest ≡ true → Formats state p (fresh_root spelling start) old new (Ok tt) → IsWellFormed (fresh_root spelling start)
    → IsFresh p (fresh_root spelling start) (state new).seen → IsSettled (state new) → (count : ℕ) (e : Parts B D) → e.volume.shelf.disk ≡ new
    → IsNew p.pages p.most count e → Sees shape proper said f state e fresh_machine
new_sees {B} {D} shape proper IsKey spelling said f start state pairs_read children_read start_is lawful p old new honest formats formed fresh settled count e on is =
    let head = head_in (state new).seen in
    let l = lawful (record { most = p.most; pages = p.pages; head = head }) formats.0.least_entries in
    let honest_yet : (state new).honest ≡ true = run_honest state (formatting p (fresh_root spelling start)) old new formats.1.1 ∙ honest in
    let size : (state new).sectors ≡ (state old).sectors = run_sectors state (formatting p (fresh_root spelling start)) old new formats.1.1 in
    let large : sectors_of p.pages ≤ (state new).sectors = subst (λ (n : ℕ). sectors_of p.pages ≤ n) (sym size) formats.1.0 in
    let frames = e.volume.shelf.frames in
    let same : e ≡ new_parts p.pages p.most frames new = is.parts ∙ (λ t. new_parts p.pages p.most frames (on t)) in
    let limits : Limits = record { most = p.most; pages = p.pages; head = head } in
    let bodies = first_records (Entry B) (Page B) ∷ [] in
    let i = found_state (class_of shape proper limits) 1 (area_of (reading_of said f) p.pages (state new).seen) (first_records (Entry B) (Page B)) in
    subst (λ (x : Parts B D). Sees shape proper said f state x fresh_machine) (sym same)
    (sees_within shape proper said f state limits (new_parts p.pages p.most frames new) bodies i fresh_machine
    (new_holds shape proper IsKey spelling said f start pairs_read children_read start_is p head l formats.0 new (state new) refl honest_yet large formed fresh settled frames count is.empty)
    (new_seen shape proper IsKey spelling said f start pairs_read children_read start_is p head l formats.0 new (state new) refl honest_yet large formed fresh settled frames count is.empty))

if_ok : {T E : Type 0} (P Q : T → Type 0) (r : Result T E) → IfOk r P → ((x : T) → P x → Q x) → IfOk r Q
if_ok P Q (Ok x) has so = so x has
if_ok P Q (Err why) has so = tt

pub if_new_sees : {B D E : Type 0} (shape : Members B) (proper : B → Bool) (IsKey : B → Type 0) (spelling : B → List ℕ) (said : List ℕ → B) (f : Format B) (start : B) (state : D → Device)
    → HeldPairsAreRead IsKey spelling f → HeldChildrenAreRead IsKey spelling f → IsKey start → ((l : Limits) → 4 ≤ l.most → IsLawful (class_of shape proper l))
    → (p : Parameters) (old new : D) → (state old).honest ≡ true → Formats state p (fresh_root spelling start) old new (Ok tt) → IsWellFormed (fresh_root spelling start)
    → IsFresh p (fresh_root spelling start) (state new).seen → IsSettled (state new) → (count : ℕ) (r : Result (Parts B D) E)
    → IfOk r (λ e. (e.volume.shelf.disk ≡ new) × IsNew p.pages p.most count e) → IfOk r (λ e. Sees shape proper said f state e fresh_machine)
if_new_sees shape proper IsKey spelling said f start state pairs_read children_read start_is lawful p old new honest formats formed fresh settled count r made =
    if_ok (λ e. (e.volume.shelf.disk ≡ new) × IsNew p.pages p.most count e) (λ e. Sees shape proper said f state e fresh_machine) r made
    (λ e is. new_sees shape proper IsKey spelling said f start state pairs_read children_read start_is lawful p old new honest formats formed fresh settled count e is.0 is.1)
