-- The gates behind a log that was found and laid are closed, and an engine starts there.
use Rattle.std.proofs.Common.{◌≡◌, inl, inr, ℕ, ◌+◌, ◌*◌, ◌≤◌, Bool, true, None, List, length, refl, ap, sym, ◌∙◌, subst, arith}
use Rattle.std.specs.Prelude.{IfErr, IfOk, MatchResult, Result, Ok, Err}
use Rattle.std.proofs.lemmas.Bool.{leb-true}
use Rattle.std.proofs.Math.Path.{fun_ext}
use Rattle.gx_disk.specs.declared.layout.TheConstants.{PAGES_AT, PAGE_SECTORS}
use Rattle.gx_glog.specs.declared.extent.TheConstants.{PLACES}
use Rattle.gx_geom.specs.declared.refusal.Refusal.{Refusal}
use Rattle.gx_geom.specs.declared.refusal.Refusal.TheVariants as refusal
use Rattle.gx_disk.specs.Device.{Device}
use Rattle.gx_disk.specs.Moments.{Leaves}
use Rattle.gx_disk.proofs.Leaving.{leaves_weaker}
use Rattle.gx_disk.proofs.Spans.{spans_same}
use Rattle.gx_durable.specs.Area.{area_of}
use Rattle.gx_durable.specs.Bodies.{AreBodies}
use Rattle.gx_durable.specs.Fitting.{AreGood, PagesFit}
use Rattle.gx_glog.specs.Cuts.{bodies_in, open_bodies}
use Rattle.gx_durable.specs.GoingOn.{AfterClosing, IsClosedFound, IsFoundGood, found_state, opened}
use Rattle.gx_durable.specs.Head.{head_in}
use Rattle.gx_durable.specs.Spelled.{Reading}
use Rattle.gx_durable.specs.Standing as durable
use Rattle.gx_durable.proofs.GoingOn.{closing_keeps}
use Rattle.gx_durable.proofs.Opening.{found_up}
use Rattle.gx_engine.specs.declared.start.Start.{Start}
use Rattle.gx_engine.specs.declared.start.NotOpened.{NotOpened}
use Rattle.gx_engine.specs.Losing.{AreCutOff}
use Rattle.gx_engine.specs.Starting.{HoldsFrom, StandsOn, Started, WhyNot}
use Rattle.gx_engine.specs.States.{Parts}
use Rattle.gx_glog.specs.declared.extent.Extent.{Extent}
use Rattle.gx_glog.specs.declared.extent.Extent.TheVariants.{A, B as BExtent}
use Rattle.gx_glog.specs.Later.{ClosesLaterOfRun, KeepsRun}
use Rattle.gx_glog.specs.Layout.{gates_of, selected_of}
use Rattle.gx_glog.specs.State.{Log}
use Rattle.gx_index_laws.specs.Classes.{Class, IsLawful, Page}
use Rattle.gx_index_laws.specs.Openings as openings
use Rattle.gx_index_laws.proofs.Keeping.{KeepsOne, found_keeps}
use Rattle.gx_index_laws.proofs.Standing.{known_lawful}
use Rattle.gx_machine.specs.declared.entry.Entry.{Entry}
use Rattle.gx_machine.specs.Keys.{Keys, Members}
use Rattle.gx_node.specs.Reading.{Format, is_node}
use Rattle.gx_opening.specs.declared.standing.Standing.{Standing}
use Rattle.gx_opening.specs.Standing.{Stands, known_for, limits_of, reading}
use Rattle.gx_opening.proofs.Heads.{formatted_head}
use Rattle.gx_pool.specs.Area.{IsPassing, bytes_of, first_of}
use Rattle.gx_pool.specs.Readable.{IsReadable}
use Rattle.gx_pool.specs.State.{State as Frames, kept}
use Rattle.gx_durable.specs.Classes.{class_of}
use Rattle.gx_recovery.specs.Analysis.{Analysis, analysis, number_of}
use Rattle.gx_recovery.specs.Coming.{IsGood}
use Rattle.gx_recovery.specs.Damage.{IsLog, records_of}
use Rattle.gx_recovery.specs.Known as known
use Rattle.gx_recovery.specs.Known.{Known, Tree}
use Rattle.gx_recovery.specs.Life.{AllWritten}
use Rattle.gx_recovery.specs.Logged.{StandsForKept, durable as durable_number, kept as kept_set, latest}
use Rattle.gx_recovery.specs.Records.{Record}
use Rattle.gx_recovery.specs.Redo.{redone, tree_of}
use Rattle.gx_recovery.specs.Renewal.{found}
use Rattle.gx_recovery.specs.Standing.{by_mark, counting, first_before, stands_for}
use Rattle.gx_recovery.specs.Records.{any_number}
use Rattle.gx_recovery.proofs.DamageItems.{bodies_log}
use Rattle.gx_recovery.proofs.Moves.{found_latest, found_set}
use Rattle.gx_storage.specs.State.{Volume}
use Rattle.gx_store.specs.Faults.{is_taken, refusal_fails}
use Rattle.gx_restart.specs.Beginning.{CountsOpening, HasBegun, HasFailed, HasNotBegun, HoldsFound, StartsFrom}
use Rattle.gx_restart.specs.Keeping.{StandsForFound}

-- ---- an engine that starts

no_device : {B : Type 0} (k : Keys B) (start : Start B) (why : Refusal) → WhyNot k start why → refusal_fails why ≡ 0
no_device k start why (inl memory) = ap refusal_fails memory
no_device k start why (inr damaged) = ap refusal_fails damaged.0

-- and it makes no call of the device
pub starts_quietly : {B D : Type 0} (state : D → Device) (k : Keys B) (start : Start B) (before : ℕ) (disk : D) → (state disk).faults ≡ before → (result : Result (Parts B D) (NotOpened D))
    → IfOk result (Started k start disk) → IfErr result (λ n. (n.disk ≡ disk) × WhyNot k start n.why) → CountsOpening state before result
starts_quietly {B} {D} state k start before disk same (Ok engine) started refused =
    let there : (state engine.volume.shelf.disk).faults ≡ (state disk).faults = ap (λ (v : Volume D). (state v.shelf.disk).faults) started.volume in
    there ∙ same
starts_quietly {B} {D} state k start before disk same (Err n) started refused =
    let there : (state n.disk).faults ≡ (state disk).faults = ap (λ (x : D). (state x).faults) refused.0 in
    let none = no_device k start n.why refused.1 in
    omega (arith, there, same, none)

-- ---- the gates behind the log

bodies_are : (seen : List ℕ) → open_bodies seen ≡ bodies_in seen (selected_of seen) (opened seen)
unfolding open_bodies
bodies_are seen = refl

-- trees of areas that are redone alike
module _ {E P : Type 0} (k : Known E P) (log : List (Record E P)) (a b : ℕ → P) where
  pub same_tree : ((p : ℕ) → redone a log p ≡ redone b log p) → tree_of k a log ≡ tree_of k b log
  same_tree same = ap (λ (pages : ℕ → P). record { page = pages; counter = (analysis k log).counter; used = (analysis k log).used }) (fun_ext same)

  pub same_set : tree_of k a log ≡ tree_of k b log → (e : E) → stands_for k a log e ≡ stands_for k b log e
  same_set same e = ap (λ (t : Tree P). by_mark (first_before k (counting any_number log) e log) (k.live t e)) same

-- what stands for the set of a log over one area does over another, where the log keeps the same over both
module _ {E P : Type 0} (k : Known E P) (l : known.IsLawful k) (r : Reading E P) (log : List (Record E P)) (is_log : IsLog k log) (area other : ℕ → P)
    (same : (e : E) → stands_for k area log e ≡ stands_for k other log e) where
  at_number : (n : ℕ) → durable_number k (found area log) ≤ n → n ≤ latest k (found area log) → n ≡ number_of k log
  at_number n low high = let last = found_latest k area log in omega (arith, low, high, last)

  kept_found : (n : ℕ) → n ≡ number_of k log → (e : E) → kept_set k (found area log) n e ≡ kept_set k (found other log) n e
  kept_found n is e =
      ap (λ m. kept_set k (found area log) m e) is ∙ found_set k area log l is_log e ∙ same e ∙ sym (found_set k other log l is_log e)
      ∙ ap (λ m. kept_set k (found other log) m e) (sym is)

  moved_kept : (x : ℕ → P) (records : List (Record E P)) → StandsForKept k (found area log) x records → StandsForKept k (found other log) x records
  moved_kept x records s =
      let n = number_of k records in
      let is = at_number n s.at_least s.at_most in
      let low : number_of k log ≤ n = omega (arith, is) in
      let last = found_latest k other log in
      record {
        at_least = low;
        at_most = omega (arith, is, last);
        same_set = λ e. s.same_set e ∙ kept_found n is e;
        is_log = s.is_log;
        good = s.good;
      }

  pub moved_stands : (image : List ℕ) → durable.Stands k r (found area log) image → durable.Stands k r (found other log) image
  moved_stands image s = record { head = s.head; bodies = s.bodies; told = s.told; undamaged = s.undamaged; sizes = s.sizes; stands = moved_kept (area_of r k.pages image) (records_of s.bodies) s.stands; fit = s.fit }

gates_before : (x : Extent) (s : ℕ) → PAGES_AT ≤ s → gates_of x + PLACES ≤ s
gates_before A s from = omega (arith, from)
gates_before BExtent s from = omega (arith, from)

module _ {B : Type 0} (shape : Members B) (is_key : B → Bool) (said : List ℕ → B) (f : Format B) (class : ℕ) (a m : Device) (s : Standing B)
    (st : Stands shape is_key said f class a m s) (lc : IsLawful (class_of shape is_key (limits_of s.parameters)))
    (good : AreGood (known_for shape is_key said f s.parameters) (reading shape is_key said f) (area_of (reading shape is_key said f) s.parameters.pages a.seen)
    (records_of st.laid.is.log.bodies)) where
  abbrev c : Class B
  c = class_of shape is_key (limits_of s.parameters)

  abbrev k : Known (Entry B) (Page B)
  k = known_for shape is_key said f s.parameters

  abbrev r : Reading (Entry B) (Page B)
  r = reading shape is_key said f

  abbrev bodies : List (List (Record (Entry B) (Page B)))
  bodies = st.laid.is.log.bodies

  abbrev log : List (Record (Entry B) (Page B))
  log = records_of bodies

  abbrev area : List ℕ → ℕ → Page B
  area seen = area_of r s.parameters.pages seen

  kl : known.IsLawful k
  kl = known_lawful c lc

  is_log : IsLog k log
  is_log = bodies_log k bodies st.laid.is.log.undamaged

  tree_there : tree_of k (area m.seen) log ≡ tree_of k (area a.seen) log
  tree_there = same_tree k log (area m.seen) (area a.seen) st.laid.same.pages

  good_there : AreGood k r (area m.seen) log
  good_there = record {
    good = subst (λ (t : Tree (Page B)). IsGood k t log) (sym tree_there) good.good;
    fit = subst (λ (t : Tree (Page B)). PagesFit r t) (sym tree_there) good.fit;
  }

  extent_there : s.log.extent ≡ selected_of m.seen
  extent_there = st.laid.is.extent ∙ sym (ap (λ (g : Log). g.extent) st.laid.stays.glog)

  places_there : s.log.bodies ≡ opened m.seen
  places_there = st.laid.is.bodies ∙ sym (ap (λ (g : Log). g.gated) st.laid.stays.glog)

  says_there : head_in m.seen ≡ k.head
  says_there = st.laid.same.head ∙ formatted_head a.seen s.parameters st.formatted.magic st.formatted.says

  bodies_there : AreBodies r (open_bodies m.seen) bodies
  bodies_there = subst (λ (b : List (List ℕ)). AreBodies r b bodies) (sym (st.laid.same.bodies ∙ bodies_are a.seen)) st.laid.is.log.told

  module _ (e : Device) (honest : m.honest ≡ true) (size : 512 * PAGES_AT ≤ length m.seen) (inside : PAGES_AT + PAGE_SECTORS * s.parameters.pages ≤ m.sectors) (sectors : e.sectors ≡ m.sectors) where
    -- what a log was found on was only laid since
    found_there : IsFoundGood k r m.sectors m.seen m.pending bodies
    found_there = record {
      settled = st.laid.settled;
      head = says_there;
      size = size;
      pages = record { few = st.formatted.allowed.range.most_pages; inside = inside };
      sizes = st.laid.stays.sizes good_there;
      told = bodies_there;
      undamaged = st.laid.is.log.undamaged;
      good = good_there;
    }

    abbrev Closes : Result (Unit {0}) Refusal → Type 0
    Closes result = ClosesLaterOfRun s.log.extent s.log.bodies m e result

    closes_there : (result : Result (Unit {0}) Refusal) → Closes result → ClosesLaterOfRun (selected_of m.seen) (opened m.seen) m e result
    closes_there result closes =
        subst (λ n. ClosesLaterOfRun (selected_of m.seen) n m e result) places_there (subst (λ (x : Extent). ClosesLaterOfRun x s.log.bodies m e result) extent_there closes)

    after : (result : Result (Unit {0}) Refusal) → Closes result → AfterClosing k r m e bodies result
    after result closes = closing_keeps k r m e kl honest sectors bodies result found_there (closes_there result closes)

    set_there : (x : Entry B) → stands_for k (area m.seen) log x ≡ stands_for k (area a.seen) log x
    set_there = same_set k log (area m.seen) (area a.seen) tree_there

    -- what a crash may leave stands for the set of the log that was found
    pub closing_leaves : (result : Result (Unit {0}) Refusal) → Closes result → Leaves (StandsForFound shape is_key said f s.parameters a.seen) m e
    closing_leaves result closes =
        leaves_weaker (durable.Stands k r (found_state k r m.seen bodies)) (StandsForFound shape is_key said f s.parameters a.seen) m e
        (λ image stands. record { log = st.laid.is.log; stands = moved_stands k kl r log is_log (area m.seen) (area a.seen) set_there image stands })
        (after result closes).leaves

    module _ (closes : Closes (Ok tt)) where
      closed : IsClosedFound k r m e bodies
      closed = (after (Ok tt) closes).done

      run : KeepsRun (selected_of m.seen) (opened m.seen) m.seen e.seen
      run =
          let up = found_up k r m.sectors m.seen m.pending bodies st.laid.settled size (record { few = st.formatted.allowed.range.most_pages; inside = inside })
          (st.laid.stays.sizes good_there) bodies_there st.laid.is.log.undamaged good_there says_there in
          (closes_there (Ok tt) closes honest st.laid.settled up.may_turn.run up.may_turn.turn).seen

      same_area : area e.seen ≡ area m.seen
      same_area = fun_ext closed.area

      -- a page's bytes are unchanged
      bytes_there : (page : ℕ) → bytes_of e.seen page ≡ bytes_of m.seen page
      bytes_there page =
          spans_same 8 (first_of page) e.seen m.seen (λ n within. run.others n (inr (gates_before (selected_of m.seen) n (let low = within.from in omega (arith, low)))))

      written_there : AllWritten (found_state k r e.seen bodies)
      written_there = subst (λ (x : ℕ → Page B). AllWritten (found x log)) (sym same_area) st.laid.stays.written

      set_after : (x : Entry B) → stands_for k (area e.seen) log x ≡ stands_for k (area a.seen) log x
      set_after x = ap (λ (y : ℕ → Page B). stands_for k y log x) same_area ∙ set_there x

      module _ (frames : ℕ) (start : Start B) (from : StartsFrom s frames start) (still : e.honest ≡ true) where
        told_there : s.log.analysis.told ≡ analysis k log
        told_there = st.laid.is.kept.told

        readable_there : (x : Frames) → ((page : ℕ) → kept x page ≡ None) → IsReadable (is_node f start.pages) (is_taken start.used) x e.seen
        readable_there x none page low taken is =
            let below : page ≤ start.used = leb-true page start.used taken in
            let used = from.used in
            subst (λ n. IsPassing (is_node f n) page (bytes_of e.seen page)) (sym from.pages)
            (subst (λ (b : List ℕ). IsPassing (is_node f s.parameters.pages) page b) (sym (bytes_there page)) (st.sound.read page low (omega (arith, below, used))))

        next_is : start.next ≡ (analysis k log).next
        next_is = from.next ∙ ap (λ (x : Analysis (Entry B)). x.next) told_there

        next_covers : (analysis k log).next ≤ start.next
        next_covers = let is = next_is in omega (arith, is)

        stands_on : StandsOn c r f (is_node f) e start bodies
        stands_on = record {
          honest = still;
          found = closed.found;
          closed = closed.closed;
          written = written_there;
          readable = readable_there;
          pages = from.pages;
          fanout = from.fanout;
          extent = from.extent ∙ extent_there ∙ sym (ap (λ (g : Log). g.extent) closed.glog);
          run = from.bodies ∙ places_there ∙ sym (ap (λ (g : Log). g.gated) closed.glog);
          commits = from.commits ∙ ap (λ (x : Analysis (Entry B)). x.number) told_there;
          counter = from.counter ∙ ap (λ (x : Analysis (Entry B)). x.counter) told_there;
          used = from.used ∙ ap (λ (x : Analysis (Entry B)). x.used) told_there;
          next = next_covers;
          losers = from.losers ∙ ap (λ (x : Analysis (Entry B)). x.touched) told_there;
        }

        keeps_one : KeepsOne c (number_of k log) (stands_for k (area e.seen) log) (openings.found_state c start.next (area e.seen) log)
        keeps_one = found_keeps c lc start.next (area e.seen) log is_log closed.found.good.good next_covers

        -- so an engine that starts there holds the set that was found
        pub begins : {D : Type 0} → (engine : Parts B D) → engine.volume.shelf.used ≡ start.used → HoldsFrom c r f (is_node f) e start engine
            → HoldsFound shape is_key said f s.parameters a.seen e engine
        begins engine used holds = record {
          found = record { log = st.laid.is.log; good = good };
          bodies = bodies;
          index = openings.found_state c start.next (area e.seen) log;
          holds = holds bodies stands_on;
          set = record { older = keeps_one.older; oldest = keeps_one.oldest; stands = λ x. keeps_one.stands x ∙ set_after x };
          used = used ∙ from.used ∙ ap (λ (x : Analysis (Entry B)). x.used) told_there;
        }

        -- and it isn't refused as damaged
        pub refused_so : (why : Refusal) → (AreCutOff c.keys (analysis k log).touched) → WhyNot c.keys start why → HasFailed why
        refused_so why cut (inl memory) = inr memory
        refused_so why cut (inr damaged) = absurd (damaged.1 (subst (λ (x : List _). AreCutOff c.keys x) (sym (from.losers ∙ ap (λ (x : Analysis (Entry B)). x.touched) told_there)) cut))

    -- the same of what an engine starts from
    pub closes_from : (frames : ℕ) (start : Start B) → StartsFrom s frames start → (result : Result (Unit {0}) Refusal) → ClosesLaterOfRun start.extent start.bodies m e result → Closes result
    closes_from frames start from result closes =
        subst (λ n. ClosesLaterOfRun s.log.extent n m e result) from.bodies (subst (λ (x : Extent). ClosesLaterOfRun x start.bodies m e result) from.extent closes)

    pub not_begun : (frames : ℕ) (start : Start B) → StartsFrom s frames start → (why : Refusal) → why ≡ refusal.Device → ClosesLaterOfRun {T = Unit {0}} start.extent start.bodies m e (Err why)
        → HasNotBegun shape is_key said f s.parameters a.seen m e why
    not_begun frames start from why is closes = record { cause = inl is; leaves = closing_leaves (Err why) (closes_from frames start from (Err why) closes) }

  module _ {D : Type 0} (state : D → Device) (disk : D) (honest : m.honest ≡ true) (size : 512 * PAGES_AT ≤ length m.seen) (inside : PAGES_AT + PAGE_SECTORS * s.parameters.pages ≤ m.sectors)
      (sectors : (state disk).sectors ≡ m.sectors) (still : (state disk).honest ≡ m.honest) (frames : ℕ) (start : Start B) (from : StartsFrom s frames start)
      (given : ClosesLaterOfRun {T = Unit {0}} {E = Refusal} start.extent start.bodies m (state disk) (Ok tt)) (cut : AreCutOff c.keys (analysis k log).touched) where
    begun_closes : ClosesLaterOfRun {T = Unit {0}} {E = Refusal} s.log.extent s.log.bodies m (state disk) (Ok tt)
    begun_closes = closes_from (state disk) honest size inside sectors frames start from (Ok tt) given

    begun_leaves : Leaves (StandsForFound shape is_key said f s.parameters a.seen) m (state disk)
    begun_leaves = closing_leaves (state disk) honest size inside sectors (Ok tt) begun_closes

    pub begun_so : (result : Result (Parts B D) (NotOpened D)) → IfOk result (Started c.keys start disk) → IfErr result (λ n. (n.disk ≡ disk) × WhyNot c.keys start n.why)
        → IfOk result (HoldsFrom c r f (is_node f) (state disk) start)
        → MatchResult result (λ engine. HasBegun shape is_key said f s.parameters a.seen m (state engine.volume.shelf.disk) engine)
        (λ n. HasNotBegun shape is_key said f s.parameters a.seen m (state n.disk) n.why)
    begun_so (Ok engine) started refused holds =
        let same : engine.volume.shelf.disk ≡ disk = ap (λ (v : Volume D). v.shelf.disk) started.volume in
        subst (λ (d : D). HasBegun shape is_key said f s.parameters a.seen m (state d) engine) (sym same)
        (record { holds = begins (state disk) honest size inside sectors begun_closes frames start from (still ∙ honest) engine (ap (λ (v : Volume D). v.shelf.used) started.volume) holds; leaves = begun_leaves })
    begun_so (Err n) started refused holds =
        subst (λ (d : D). HasNotBegun shape is_key said f s.parameters a.seen m (state d) n.why) (sym refused.0)
        (record { cause = refused_so (state disk) honest size inside sectors begun_closes frames start from (still ∙ honest) n.why cut refused.1; leaves = begun_leaves })
