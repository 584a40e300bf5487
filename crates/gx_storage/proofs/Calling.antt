-- What calls of the device keep of pages with their log.
use Rattle.std.proofs.Common.{◌≡◌, ◌∙◌, sym, ap, refl, subst, ℕ, ◌-◌, ◌&&◌, Bool, true, false, List, [], ◌∷◌, ◌++◌, Option, None, Some, Result, Ok, Err, append_assoc}
use Rattle.std.specs.Prelude.{if◌then◌else◌, nat_le, nat_lt}
use Rattle.std.proofs.lemmas.List.{append-nil}
use Rattle.gx_geom.specs.declared.refusal.Refusal.{Refusal}
use Rattle.gx_machine.specs.declared.entry.Entry.{Entry}
use Rattle.gx_disk.specs.Device.{Device}
use Rattle.gx_page.specs.Contents.{Contents}
use Rattle.gx_page.specs.Format.{IsWellFormed}
use Rattle.gx_glog.specs.declared.stage.Stage.{Stage}
use Rattle.gx_glog.specs.declared.stage.Stage.TheVariants.{Body, BodySync, Gate, GateSync, Idle}
use Rattle.gx_glog.specs.Standing.{On}
use Rattle.gx_glog.specs.State.{Log, Goes}
use Rattle.gx_pool.specs.Area.{IsPassing, bytes_of}
use Rattle.gx_pool.specs.Elsewhere.{LeavesPages}
use Rattle.gx_pool.specs.Laws.{IsBacked}
use Rattle.gx_pool.specs.State.{State, Kept, kept}
use Rattle.gx_pool.specs.Writing.{KeepsShown, WritesAtMost, contents_of}
use Rattle.gx_pool.proofs.Elsewhere.{elsewhere_backed, elsewhere_readable, elsewhere_reads}
use Rattle.gx_node.specs.Reading.{Format}
use Rattle.gx_recovery.specs.Known.{Known}
use Rattle.gx_recovery.specs.Records.{Record}
use Rattle.gx_recovery.specs.Analysis.{analysis}
use Rattle.gx_recovery.specs.Redo.{redone}
use Rattle.gx_recovery.specs.Logged.{Logged, all_records}
use Rattle.gx_recovery.specs.Logged as logged
use Rattle.gx_index_laws.specs.Classes.{Page}
use Rattle.gx_durable.specs.Spelled.{Reading, AreRecords}
use Rattle.gx_durable.specs.Stamps.{AllPlaced, AllSaid}
use Rattle.gx_durable.specs.Standing.{batch_of, Up}
use Rattle.gx_durable.specs.Stored.{bytes_by, stored}
use Rattle.gx_durable.specs.Steps.{told, told_frames, with_batch, stepped}
use Rattle.gx_durable.specs.Calls.{Runs, StepKeepsRunning}
use Rattle.gx_durable.specs.Pages.{PageKeepsRunning, rewritten}
use Rattle.gx_durable.specs.PoolLaws.{StaysUp}
use Rattle.gx_durable.proofs.Spellings.{one_way, none_are}
use Rattle.gx_durable.proofs.Stamping.{fewer_placed, step_placed, told_kept}
use Rattle.gx_store.specs.Faults.{CanBeRead, is_taken}
use Rattle.gx_store.specs.State.{Shelf}
use Rattle.gx_storage.specs.Formed.{AreFormed}
use Rattle.gx_storage.specs.Imaged.{AllImaged}
use Rattle.gx_storage.proofs.Imaging.{same_imaged}
use Rattle.gx_storage.specs.State.{Volume}
use Rattle.gx_storage.specs.Keeps.{Keeps}
use Rattle.gx_storage.specs.Flushing.{KeepsOn, StepsLog, WritesGated}

abbrev is_formed : Option Contents → Type 0
is_formed None = Unit {0}
is_formed (Some c) = IsWellFormed c

by_contents : (o : Option Kept) (c : Contents) → contents_of o ≡ Some c → ((k : Kept) → o ≡ Some k → IsWellFormed k.page) → IsWellFormed c
by_contents None c is formed = absurd (let never : ◌≡◌ {A = Option Contents} None (Some c) = is in cc)
by_contents (Some k) c is formed = subst {A = Option Contents} is_formed is (formed k refl)

-- pages that are kept with the same contents have an image as before
still_formed : (old new : State) → ((q : ℕ) → contents_of (kept new q) ≡ contents_of (kept old q)) → AreFormed old → AreFormed new
still_formed old new same formed q j is = by_contents (kept old q) j.page (sym (same q) ∙ ap contents_of is) (λ k there. formed q k there)

-- frames in which a gated batch is noted have the same pages
told_pages : (stage : Stage) (used : ℕ) (frames : State) (p : ℕ) → kept (told stage used frames) p ≡ kept frames p
told_pages GateSync used frames p = told_kept frames (used - 1) p
told_pages Body used frames p = refl
told_pages BodySync used frames p = refl
told_pages Gate used frames p = refl
told_pages Idle used frames p = refl

pub told_same : (result : Result Stage Refusal) (new : Log) (frames : State) (p : ℕ) → kept (told_frames result new frames) p ≡ kept frames p
told_same (Ok stage) new frames p = told_pages stage new.used frames p
told_same (Err refusal) new frames p = refl

by_test : {P : Type 0} (b : Bool) (x y z : P) → x ≡ y → (if b then x else z) ≡ (if b then y else z)
by_test true x y z same = same
by_test false x y z same = refl

-- pages with the same bytes are stored the same
pub stored_alike : {E P : Type 0} (r : Reading E P) (pages : ℕ) (old new : State) (seen now : List ℕ) (p : ℕ) → kept new p ≡ kept old p → bytes_of now p ≡ bytes_of seen p
    → stored r pages new now p ≡ stored r pages old seen p
unfolding stored
stored_alike r pages old new seen now p kept_is bytes =
    by_test (nat_lt 0 p && nat_le p pages) (r.content (bytes_by (kept new p) (bytes_of now p))) (r.content (bytes_by (kept old p) (bytes_of seen p))) r.no_page
    (ap (λ (x : List ℕ). r.content x) (ap (λ (o : Option Kept). bytes_by o (bytes_of now p)) kept_is ∙ ap (λ (b : List ℕ). bytes_by (kept old p) b) bytes))

module _ {E P : Type 0} where
  -- a step of the log leaves the records in their order, and the page area
  begun_all : (s : Logged E P) → s.flight ≡ [] → all_records (logged.begun s) ≡ all_records s
  begun_all s none =
      ap (λ (x : List (Record E P)). s.gated ++ x) (append-nil s.filling) ∙ sym (ap (λ (x : List (Record E P)). s.gated ++ (x ++ s.filling)) none)

  result_all : (result : Result Stage Refusal) (s : Logged E P) → all_records (stepped result s) ≡ all_records s
  result_all (Ok GateSync) s = append_assoc s.gated s.flight s.filling
  result_all (Ok Body) s = refl
  result_all (Ok BodySync) s = refl
  result_all (Ok Gate) s = refl
  result_all (Ok Idle) s = refl
  result_all (Err refusal) s = refl

  batch_all : (stage : Stage) (filling : List ℕ) (s : Logged E P) → (stage ≡ Idle → s.flight ≡ []) → all_records (with_batch stage filling s) ≡ all_records s
  batch_all Idle [] s none = refl
  batch_all Idle (byte ∷ bytes) s none = begun_all s (none refl)
  batch_all Body filling s none = refl
  batch_all BodySync filling s none = refl
  batch_all Gate filling s none = refl
  batch_all GateSync filling s none = refl

  result_area : (result : Result Stage Refusal) (s : Logged E P) → (stepped result s).area ≡ s.area
  result_area (Ok GateSync) s = refl
  result_area (Ok Body) s = refl
  result_area (Ok BodySync) s = refl
  result_area (Ok Gate) s = refl
  result_area (Ok Idle) s = refl
  result_area (Err refusal) s = refl

  batch_area : (stage : Stage) (filling : List ℕ) (s : Logged E P) → (with_batch stage filling s).area ≡ s.area
  batch_area Idle [] s = refl
  batch_area Idle (byte ∷ bytes) s = refl
  batch_area Body filling s = refl
  batch_area BodySync filling s = refl
  batch_area Gate filling s = refl
  batch_area GateSync filling s = refl

-- a log that is up without a batch in flight has no records in flight
pub rests_none : {E P : Type 0} (k : Known E P) (r : Reading E P) (log : Log) (d : Device) (bodies : List (List (Record E P))) (s : Logged E P) → Up k r log d.sectors d.seen d.pending bodies s
    → log.stage ≡ Idle → s.flight ≡ []
rests_none k r log d bodies s up idle =
    let A : Stage → Type 0 = λ t. AreRecords r (batch_of t log.flight) s.flight in
    one_way r [] s.flight [] (subst A idle up.carries.told.flight) (none_are r)

module _ {B : Type 0} (k : Known (Entry B) (Page B)) (r : Reading (Entry B) (Page B)) (f : Format B) (passes : ℕ → Contents → Bool) {D : Type 0} (d e : Device) (v w : Volume D) where
  -- A call that leaves the pages, if the records leave the same of them as before.
  pub keeps_on : (fr : State) → w.shelf ≡ record v.shelf { disk = w.shelf.disk; frames = fr } → ((p : ℕ) → kept fr p ≡ kept v.shelf.frames p) → e.honest ≡ d.honest → LeavesPages d e
      → (bodies now : List (List (Record (Entry B) (Page B)))) (s t : Logged (Entry B) (Page B)) → Keeps k r f passes d v bodies s → Runs k r w.log w.shelf.frames e now t → AllSaid w.shelf.frames t → AllPlaced w.log w.shelf.frames → AllImaged w.imaged t
      → (analysis k (all_records t)).used ≡ (analysis k (all_records s)).used → (analysis k (all_records t)).counter ≡ (analysis k (all_records s)).counter
      → ((p : ℕ) → redone t.area (all_records t) p ≡ redone s.area (all_records s) p) → Keeps k r f passes e w now t
  keeps_on fr only same honest leaves bodies now s t old runs said placed imaged used counter pages =
      let frames_are : w.shelf.frames ≡ fr = ap (λ (x : Shelf D). x.frames) only in
      let used_is : w.shelf.used ≡ v.shelf.used = ap (λ (x : Shelf D). x.used) only in
      let pages_are : w.shelf.pages ≡ v.shelf.pages = ap (λ (x : Shelf D). x.pages) only in
      let kept_is : (p : ℕ) → kept w.shelf.frames p ≡ kept v.shelf.frames p = λ p. ap (λ (x : State). kept x p) frames_are ∙ same p in
      let backed : IsBacked v.shelf.frames e.seen = elsewhere_backed d e v.shelf.frames leaves old.steady.backed in
      let readable = elsewhere_readable d e (passes v.shelf.pages) (is_taken v.shelf.used) v.shelf.frames leaves old.readable in
      record {
        runs = runs;
        said = said;
        placed = placed;
        steady = record { honest = honest ∙ old.steady.honest; backed = λ page x is clean. backed page x (sym (kept_is page) ∙ is) clean };
        readable = λ page from taken none.
            (let P : ℕ → Type 0 = λ n. IsPassing (passes n) page (bytes_of e.seen page) in
            subst P (sym pages_are) (readable page from (ap (λ n. is_taken n page) (sym used_is) ∙ taken) (sym (kept_is page) ∙ none)));
        stored = λ p. stored_alike r k.pages v.shelf.frames w.shelf.frames d.seen e.seen p (kept_is p) (elsewhere_reads d e p leaves) ∙ old.stored p ∙ sym (pages p);
        used = used ∙ old.used ∙ sym used_is;
        counter = counter ∙ old.counter ∙ sym (ap (λ (x : Shelf D). x.counter) only);
        pages = old.pages ∙ sym pages_are;
        formed = λ p j is. old.formed p j (sym (kept_is p) ∙ is);
        imaged = imaged;
      }

  -- a step of the log
  pub log_keeps : (result : Result Stage Refusal) → w.shelf ≡ record v.shelf { disk = w.shelf.disk; frames = told_frames result w.log v.shelf.frames } → w.imaged ≡ v.imaged → e.honest ≡ d.honest
      → (d.honest ≡ true → On v.log d.seen d.pending → LeavesPages d e) → Goes v.log w.log result
      → StepKeepsRunning k r v.log w.log v.shelf.frames w.shelf.frames d e result → StepsLog k r f passes d e v w result
  log_keeps result only bits honest leaves goes steps bodies s l old =
      let now = steps bodies s l old.steady.honest old.runs old.said in
      let t : Logged (Entry B) (Page B) = with_batch v.log.stage v.log.filling s in
      let all : all_records (stepped result t) ≡ all_records s =
      result_all result t ∙ batch_all v.log.stage v.log.filling s (λ idle. rests_none k r v.log d bodies s old.runs.up idle) in
      let area : (stepped result t).area ≡ s.area = result_area result t ∙ batch_area v.log.stage v.log.filling s in
      record {
        keeps = keeps_on (told_frames result w.log v.shelf.frames) only (told_same result w.log v.shelf.frames) honest (leaves old.steady.honest old.runs.up.on) bodies _ s (stepped result t) old
            now.runs now.said (step_placed v.shelf.frames v.log w.log w.shelf.frames result (ap (λ (x : Shelf D). x.frames) only) goes old.placed)
            (same_imaged v.imaged w.imaged s (stepped result t) bits all old.imaged)
            (ap (λ (x : List (Record (Entry B) (Page B))). (analysis k x).used) all)
            (ap (λ (x : List (Record (Entry B) (Page B))). (analysis k x).counter) all)
            (λ p. ap (λ (a : ℕ → Page B). redone a (all_records (stepped result t)) p) area ∙ ap (λ (x : List (Record (Entry B) (Page B))). redone s.area x p) all);
        safely = now.safely;
      }

  -- a sync, and all that leaves log and frames
  pub sync_keeps : w.log ≡ v.log → w.shelf ≡ record v.shelf { disk = w.shelf.disk } → w.imaged ≡ v.imaged → e.honest ≡ d.honest → (d.honest ≡ true → LeavesPages d e) → StaysUp k r d e → KeepsOn k r f passes d e v w
  sync_keeps log only bits honest leaves up bodies s l old =
      let now = up v.log bodies s l old.steady.honest old.runs.up in
      let frames_are : w.shelf.frames ≡ v.shelf.frames = ap (λ (x : Shelf D). x.frames) only in
      let R : State → Type 0 = λ x. Runs k r v.log x e bodies s in
      let L : Log → Type 0 = λ x. Runs k r x w.shelf.frames e bodies s in
      let S : State → Type 0 = λ x. AllSaid x s in
      let P : State → Type 0 = λ x. AllPlaced v.log x in
      let Q : Log → Type 0 = λ x. AllPlaced x w.shelf.frames in
      record {
        keeps = keeps_on v.shelf.frames only (λ p. refl) honest (leaves old.steady.honest) bodies bodies s s old
            (subst L (sym log) (subst R (sym frames_are) (record { up = now.0; stamped = old.runs.stamped })))
            (subst S (sym frames_are) old.said) (subst Q (sym log) (subst P (sym frames_are) old.placed))
            (same_imaged v.imaged w.imaged s s bits refl old.imaged) refl refl (λ p. refl);
        safely = now.1;
      }

  -- a page's write
  pub write_keeps : (page : ℕ) → WritesAtMost d e v.shelf.frames w.shelf.frames page → w.log ≡ v.log → w.shelf ≡ record v.shelf { disk = w.shelf.disk; frames = w.shelf.frames } → w.imaged ≡ v.imaged → e.honest ≡ d.honest
      → (d.honest ≡ true → IsBacked v.shelf.frames d.seen → KeepsShown d e v.shelf.frames w.shelf.frames) → (d.honest ≡ true → CanBeRead passes d v.shelf → CanBeRead passes e w.shelf)
      → PageKeepsRunning k r v.shelf.frames w.shelf.frames d e → WritesGated k r f passes d e v w
  write_keeps page at_most log only bits honest shown readable runs bodies s l closed old =
      let now = runs v.log bodies s l old.steady.honest closed old.runs in
      let L : Log → Type 0 = λ x. Runs k r x w.shelf.frames e bodies (rewritten r k.pages e.seen s) in
      record {
        keeps = record {
          runs = subst L (sym log) now.runs;
          said = now.said old.said;
          placed = subst {A = Log} (λ x. AllPlaced x w.shelf.frames) (sym log) (fewer_placed v.log v.shelf.frames w.shelf.frames at_most.dirty old.placed);
          steady = record { honest = honest ∙ old.steady.honest; backed = (shown old.steady.honest old.steady.backed).backed };
          readable = readable old.steady.honest old.readable;
          stored = now.stored old.stored;
          used = old.used ∙ sym (ap (λ (x : Shelf D). x.used) only);
          counter = old.counter ∙ sym (ap (λ (x : Shelf D). x.counter) only);
          pages = old.pages ∙ sym (ap (λ (x : Shelf D). x.pages) only);
          formed = still_formed v.shelf.frames w.shelf.frames at_most.contents old.formed;
          imaged = same_imaged v.imaged w.imaged s (rewritten r k.pages e.seen s) bits refl old.imaged;
        };
        beside = now.beside;
        safely = now.safely;
      }
