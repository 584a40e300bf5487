-- What a turn and its head keep of pages with their log.
use Rattle.std.proofs.Common.{◌≡◌, ◌∙◌, sym, ap, refl, subst, inl, ℕ, Bool, true, List, [], ◌++◌, length, Option, None, Some, Result, Ok, Err, arith}
use Rattle.std.proofs.Math.Path.{fun_ext}
use Rattle.std.proofs.lemmas.List.{append-nil}
use Rattle.gx_geom.specs.declared.refusal.Refusal.{Refusal}
use Rattle.gx_machine.specs.declared.entry.Entry.{Entry}
use Rattle.gx_disk.specs.Device.{Device}
use Rattle.gx_disk.specs.Moments.{Leaves}
use Rattle.gx_page.specs.Contents.{Contents}
use Rattle.gx_record.specs.Rec.{Rec}
use Rattle.gx_record.specs.Format.{spelling}
use Rattle.gx_glog.specs.declared.filling.Appended.{Appended}
use Rattle.gx_glog.specs.declared.filling.Appended.TheVariants.{At, NoRoom}
use Rattle.gx_glog.specs.declared.stage.Turn.{Turn}
use Rattle.gx_glog.specs.declared.stage.Turn.TheVariants as turn
use Rattle.gx_glog.specs.Standing.{On}
use Rattle.gx_glog.specs.State.{Log}
use Rattle.gx_glog.specs.Turning.{PutsFirst}
use Rattle.gx_pool.specs.Elsewhere.{LeavesPages}
use Rattle.gx_pool.specs.State.{State, NoneDirty, kept, stamp_of}
use Rattle.gx_node.specs.Reading.{Format}
use Rattle.gx_recovery.specs.Known.{Known, Tree, IsLawful}
use Rattle.gx_recovery.specs.Records.{Record}
use Rattle.gx_recovery.specs.Damage.{IsLog}
use Rattle.gx_recovery.specs.Life.{AllWritten}
use Rattle.gx_recovery.specs.Logged.{Logged, all_records}
use Rattle.gx_recovery.specs.Redo.{redone, tree_of}
use Rattle.gx_recovery.specs.Renewal.{renewed}
use Rattle.gx_recovery.proofs.Renewals.{same_tree}
use Rattle.gx_index_laws.specs.Classes.{Page}
use Rattle.gx_durable.specs.Spelled.{Reading, AreRecords}
use Rattle.gx_durable.specs.Stamps.{AllPlaced, Stamped}
use Rattle.gx_durable.specs.Standing.{Stands}
use Rattle.gx_durable.specs.Steps.{turned}
use Rattle.gx_durable.specs.Turns.{HeadStaysUp, TurnKeepsRunning, told_turn, told_result}
use Rattle.gx_durable.proofs.Moving.{goes_nowhere}
use Rattle.gx_durable.proofs.Spellings.{one_way, none_are}
use Rattle.gx_durable.proofs.Stamping.{same_placed, told_kept}
use Rattle.gx_durable.proofs.Storing.{nothing_dirty}
use Rattle.gx_store.specs.State.{Shelf}
use Rattle.gx_storage.specs.State.{Volume}
use Rattle.gx_storage.specs.Keeps.{Keeps}
use Rattle.gx_storage.specs.Flushing.{KeepsOn, MayTurn, ReadyToTurn, TurnsOn}
use Rattle.gx_storage.specs.Imaged.{AllImaged, imaged_after}
use Rattle.gx_storage.proofs.Calling.{keeps_on, rests_none}
use Rattle.gx_storage.proofs.Imaging.{nothing_imaged, same_imaged}

-- frames in which a turn is noted have the same pages
turned_pages : (call : Turn) (frames : State) (p : ℕ) → kept (told_turn call frames) p ≡ kept frames p
turned_pages turn.Done frames p = told_kept frames 0 p
turned_pages turn.Closed frames p = refl
turned_pages turn.Body frames p = refl
turned_pages turn.BodySync frames p = refl
turned_pages turn.Gate frames p = refl
turned_pages turn.GateSync frames p = refl
turned_pages turn.Selector frames p = refl

turned_same : (result : Result Turn Refusal) (frames : State) (p : ℕ) → kept (told_result result frames) p ≡ kept frames p
turned_same (Ok call) frames p = turned_pages call frames p
turned_same (Err refusal) frames p = refl

-- the log renewed over pages that are written leaves the same tree
module _ {E P : Type 0} (k : Known E P) (l : IsLawful k) (next : ℕ) (s : Logged E P) (none : s.flight ≡ []) (quiet : s.filling ≡ []) (written : AllWritten s) (is : IsLog k s.gated) where
  all_of : (xs : List (Record E P)) → xs ++ (s.flight ++ s.filling) ≡ xs
  all_of xs = ap (λ (x : List (Record E P)). xs ++ (x ++ s.filling)) none ∙ ap (λ (x : List (Record E P)). xs ++ x) quiet ∙ append-nil xs

  renewed_tree : tree_of k s.area (renewed k next s.gated) ≡ tree_of k s.area s.gated
  renewed_tree =
      let T : (ℕ → P) → Type 0 = λ a. tree_of k a (renewed k next s.gated) ≡ tree_of k s.area s.gated in
      let area : redone s.area s.gated ≡ s.area = fun_ext (λ p. sym (written p)) in
      subst T area (same_tree k l next s.area s.gated is)

  pub turned_tree : (result : Result Turn Refusal) → tree_of k (turned k next result s).area (all_records (turned k next result s)) ≡ tree_of k s.area (all_records s)
  turned_tree (Ok turn.Done) = ap (tree_of k s.area) (all_of (renewed k next s.gated)) ∙ renewed_tree ∙ sym (ap (tree_of k s.area) (all_of s.gated))
  turned_tree (Ok turn.Closed) = refl
  turned_tree (Ok turn.Body) = refl
  turned_tree (Ok turn.BodySync) = refl
  turned_tree (Ok turn.Gate) = refl
  turned_tree (Ok turn.GateSync) = refl
  turned_tree (Ok turn.Selector) = refl
  turned_tree (Err refusal) = refl

-- the extent that a turn selects has no image
turned_imaged : {E P : Type 0} (k : Known E P) (next : ℕ) (s : Logged E P) (result : Result Turn Refusal) (old new : List Bool) → new ≡ imaged_after result old → AllImaged old s
    → AllImaged new (turned k next result s)
turned_imaged k next s (Ok turn.Done) old new bits given =
    let A : List Bool → Type 0 = λ i. AllImaged i (turned k next (Ok turn.Done) s) in
    subst A (sym bits) (nothing_imaged (length old) (turned k next (Ok turn.Done) s))
turned_imaged k next s (Ok turn.Closed) old new bits given = same_imaged old new s s bits refl given
turned_imaged k next s (Ok turn.Body) old new bits given = same_imaged old new s s bits refl given
turned_imaged k next s (Ok turn.BodySync) old new bits given = same_imaged old new s s bits refl given
turned_imaged k next s (Ok turn.Gate) old new bits given = same_imaged old new s s bits refl given
turned_imaged k next s (Ok turn.GateSync) old new bits given = same_imaged old new s s bits refl given
turned_imaged k next s (Ok turn.Selector) old new bits given = same_imaged old new s s bits refl given
turned_imaged k next s (Err refusal) old new bits given = same_imaged old new s s bits refl given

none_dirty : (frames : State) (p place : ℕ) {X : Type 0} → NoneDirty frames → stamp_of (kept frames p) ≡ Some place → X
none_dirty frames p place clean is = absurd (let never : ◌≡◌ {A = Option ℕ} None (Some place) = sym (clean p) ∙ is in cc)

-- a head changes no stamp
head_stamped : {E P : Type 0} (x : Rec) (old new : Log) (result : Appended) (frames : State) (s : Logged E P) → PutsFirst (spelling x) old new result → Stamped old frames s → Stamped new frames s
head_stamped x old new (At place) frames s puts stamped =
    let S : Log → Type 0 = λ g. Stamped g frames s in
    subst S (sym puts.2) (record { behind = stamped.behind; places = stamped.places; gated = stamped.gated; flight = stamped.flight })
head_stamped x old new NoRoom frames s puts stamped = let S : Log → Type 0 = λ g. Stamped g frames s in subst S (sym puts.1) stamped

head_placed : (x : Rec) (old new : Log) (result : Appended) (frames : State) → PutsFirst (spelling x) old new result → AllPlaced old frames → AllPlaced new frames
head_placed x old new (At place) frames puts placed = same_placed old new frames (ap (λ (g : Log). g.used) puts.2) (ap (λ (g : Log). g.filling) puts.2) placed
head_placed x old new NoRoom frames puts placed = same_placed old new frames (ap (λ (g : Log). g.used) puts.1) (ap (λ (g : Log). g.filling) puts.1) placed

-- nothing was done
pub nothing_leaves : (P : List ℕ → Type 0) (d : Device) → Leaves P d d
nothing_leaves P d = record { later = omega arith; only = λ t image before left. inl left; keeps = λ t image before left. left }

module _ {B : Type 0} (k : Known (Entry B) (Page B)) (r : Reading (Entry B) (Page B)) (f : Format B) (passes : ℕ → Contents → Bool) {D : Type 0} (d e : Device) (v w : Volume D) where
  -- a step of a turn
  pub turn_keeps : (result : Result Turn Refusal) → w.shelf ≡ record v.shelf { disk = w.shelf.disk; frames = told_result result v.shelf.frames } → w.imaged ≡ imaged_after result v.imaged → e.honest ≡ d.honest
      → (d.honest ≡ true → On v.log d.seen d.pending → LeavesPages d e) → NoneDirty v.shelf.frames → TurnKeepsRunning k r v.log w.log v.shelf.frames w.shelf.frames d e result → TurnsOn k r f passes d e v w result
  turn_keeps result only bits honest leaves clean turns bodies s l old may =
      let now = turns bodies s l old.steady.honest old.runs may in
      let t : Logged (Entry B) (Page B) = turned k may.next result s in
      let tree = turned_tree k l may.next s may.no_flight may.no_filling may.written old.runs.up.carries.healthy.gated result in
      let frames_are : w.shelf.frames ≡ told_result result v.shelf.frames = ap (λ (x : Shelf D). x.frames) only in
      let none : NoneDirty w.shelf.frames = λ p. ap stamp_of (ap (λ (x : State). kept x p) frames_are ∙ turned_same result v.shelf.frames p) ∙ clean p in
      record {
        keeps = keeps_on k r f passes d e v w (told_result result v.shelf.frames) only (turned_same result v.shelf.frames) honest (leaves old.steady.honest old.runs.up.on) bodies _ s t old
            now.runs (λ p place is. none_dirty w.shelf.frames p place none is) (λ p place is. none_dirty w.shelf.frames p place none is)
            (turned_imaged k may.next s result v.imaged w.imaged bits old.imaged)
            (ap (λ (x : Tree (Page B)). x.used) tree)
            (ap (λ (x : Tree (Page B)). x.counter) tree)
            (λ p. ap (λ (x : Tree (Page B)). x.page p) tree);
        goes_on = now.goes_on;
        safely = now.safely;
      }

  -- a record of the head: the shelf is unchanged
  pub head_keeps : (x : Rec) (result : Appended) → w.shelf ≡ v.shelf → w.imaged ≡ v.imaged → PutsFirst (spelling x) v.log w.log result → HeadStaysUp k r v.log w.log → KeepsOn k r f passes d d v w
  head_keeps x result shelf bits puts up bodies s l old =
      let S : Shelf D → Type 0 = λ y. Keeps k r f passes d (record { log = w.log; shelf = y; most = w.most; imaged = w.imaged }) bodies s in
      record {
        keeps = subst S (sym shelf) (record {
          runs = record { up = up d.sectors d.seen d.pending bodies s old.runs.up; stamped = head_stamped x v.log w.log result v.shelf.frames s puts old.runs.stamped };
          said = old.said;
          placed = head_placed x v.log w.log result v.shelf.frames puts old.placed;
          steady = old.steady;
          readable = old.readable;
          stored = old.stored;
          used = old.used;
          counter = old.counter;
          pages = old.pages;
          formed = old.formed;
          imaged = same_imaged v.imaged w.imaged s s bits refl old.imaged;
        });
        safely = record { goes = goes_nowhere k s; leaves = nothing_leaves (Stands k r s) d };
      }

-- a turn may begin
pub turn_begins : {B : Type 0} (k : Known (Entry B) (Page B)) (r : Reading (Entry B) (Page B)) (f : Format B) (passes : ℕ → Contents → Bool) {D : Type 0} (d : Device) (v : Volume D) → ReadyToTurn v
    → MayTurn k r f passes d v
turn_begins k r f passes d v ready bodies s next old settled covers head =
    let A : List ℕ → Type 0 = λ bytes. AreRecords r bytes s.filling in
    let none : s.flight ≡ [] = rests_none k r v.log d bodies s old.runs.up ready.idle in
    let quiet : s.filling ≡ [] = one_way r [] s.filling [] (subst A ready.quiet old.runs.up.carries.told.filling) (none_are r) in
    record {
      no_flight = none;
      no_filling = quiet;
      written = nothing_dirty r k.pages v.shelf.frames d.seen s old.runs.up.carries.area ready.clean old.steady.backed none quiet old.stored;
      settled = settled;
      next = next;
      covers = covers;
      head_is = head;
    }
