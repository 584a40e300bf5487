-- What a record that gives no page keeps of pages with their log.
use Rattle.std.proofs.Common.{◌≡◌, ◌∙◌, sym, ap, refl, subst, ℕ, Bool, true, false, List, [], ◌∷◌, ◌++◌}
use Rattle.gx_machine.specs.declared.entry.Entry.{Entry}
use Rattle.gx_disk.specs.Device.{Device}
use Rattle.gx_page.specs.Contents.{Contents}
use Rattle.gx_record.specs.Rec.{Rec}
use Rattle.gx_record.specs.Rec as rec
use Rattle.gx_record.specs.Format.{HasKey}
use Rattle.gx_glog.specs.declared.filling.Appended.TheVariants.{At}
use Rattle.gx_node.specs.Reading.{Format}
use Rattle.gx_recovery.specs.Known.{Known, Tree, IsLawful}
use Rattle.gx_recovery.specs.Records.{Record}
use Rattle.gx_recovery.specs.Analysis.{Analysis, analysis, read}
use Rattle.gx_recovery.specs.Redo.{redo, redone, tree_of}
use Rattle.gx_recovery.specs.Coming.{MayCome}
use Rattle.gx_recovery.specs.Logged.{Logged, all_records, appended}
use Rattle.gx_recovery.proofs.Folds.{analysis-snoc, redone-snoc}
use Rattle.gx_node.specs.Alike.{AgreeOnUsed}
use Rattle.gx_node.specs.Trees as trees
use Rattle.gx_index_laws.specs.Classes.{Page, tree_in}
use Rattle.gx_durable.specs.Fitting.{PagesFit}
use Rattle.gx_durable.specs.Spelled.{Reading, record_read}
use Rattle.gx_durable.specs.Standing.{Stands}
use Rattle.gx_durable.specs.Stored.{stored}
use Rattle.gx_durable.specs.Calls.{AppendPlaces, AppendStaysUp, AppendStaysStamped}
use Rattle.gx_durable.proofs.Reading.{one_more, record_says}
use Rattle.gx_durable.proofs.Recording.{recording_stores}
use Rattle.gx_durable.proofs.Stamping.{none_later}
use Rattle.gx_store.specs.State.{Shelf}
use Rattle.gx_storage.specs.State.{Volume}
use Rattle.gx_storage.specs.Keeps.{Keeps, tree_after, tree_shown}
use Rattle.gx_storage.specs.Flushing.{GivesNoPage, KeepsRecord}
use Rattle.gx_storage.specs.Imaged.{imaged_with}
use Rattle.gx_storage.proofs.Imaging.{imaged_more}
use Rattle.gx_storage.proofs.Turning.{nothing_leaves}

-- what a record that gives no page leaves of the pages and their numbers
record Leaves {E P : Type 0} (k : Known E P) (y : Record E P) : Type 0 where
  area : (area : ℕ → P) → redo area y ≡ area
  used : (a : Analysis E) → (read k a y).used ≡ a.used
  counter : (a : Analysis E) → (read k a y).counter ≡ a.counter

leaves_pages : {E P : Type 0} (k : Known E P) (r : Reading E P) (x : Rec) → GivesNoPage x → Leaves k (record_read r x)
leaves_pages k r (rec.Commit tx n) is = record { area = λ area. refl; used = λ a. refl; counter = λ a. refl }
leaves_pages k r (rec.End tx) is = record { area = λ area. refl; used = λ a. refl; counter = λ a. refl }
leaves_pages k r (rec.Pages counter used pages) is = absurd is
leaves_pages k r (rec.Write tx row key before after leaf image) is = absurd is
leaves_pages k r (rec.Counters n counter used next) is = absurd is
leaves_pages k r (rec.Note tx row key before leaf) is = absurd is
leaves_pages k r (rec.Bit tx row key before after leaf) is = absurd is
leaves_pages k r (rec.Add tx row key leaf) is = absurd is
leaves_pages k r (rec.Widen page slot key) is = absurd is
leaves_pages k r (rec.Sweep page slots) is = absurd is

has_key : (key : ℕ) (x : Rec) → GivesNoPage x → HasKey key x
has_key key (rec.Commit tx n) is = tt
has_key key (rec.End tx) is = tt
has_key key (rec.Pages counter used pages) is = absurd is
has_key key (rec.Write tx row k before after leaf image) is = absurd is
has_key key (rec.Counters n counter used next) is = absurd is
has_key key (rec.Note tx row k before leaf) is = absurd is
has_key key (rec.Bit tx row k before after leaf) is = absurd is
has_key key (rec.Add tx row k leaf) is = absurd is
has_key key (rec.Widen page slot k) is = absurd is
has_key key (rec.Sweep page slots) is = absurd is

no_image : (x : Rec) (imaged : List Bool) → GivesNoPage x → imaged_with x imaged ≡ imaged
no_image (rec.Commit tx n) imaged is = refl
no_image (rec.End tx) imaged is = refl
no_image (rec.Pages counter used pages) imaged is = absurd is
no_image (rec.Write tx row k before after leaf image) imaged is = absurd is
no_image (rec.Counters n counter used next) imaged is = absurd is
no_image (rec.Note tx row k before leaf) imaged is = absurd is
no_image (rec.Bit tx row k before after leaf) imaged is = absurd is
no_image (rec.Add tx row k leaf) imaged is = absurd is
no_image (rec.Widen page slot k) imaged is = absurd is
no_image (rec.Sweep page slots) imaged is = absurd is

-- the tree is unchanged
same_after : {E P : Type 0} (k : Known E P) (y : Record E P) (s : Logged E P) → Leaves k y → tree_of k s.area (all_records (appended y s)) ≡ tree_of k s.area (all_records s)
same_after {E} {P} k y s leaves =
    let all = all_records s in
    let whole : (ℕ → P) → ℕ → ℕ → Tree P = λ page counter used. record { page = page; counter = counter; used = used } in
    let last : analysis k (all ++ y ∷ []) ≡ read k (analysis k all) y = analysis-snoc k all y in
    ap (tree_of k s.area) (one_more s y)
    ∙ ap (λ (a : ℕ → P). whole a (analysis k (all ++ y ∷ [])).counter (analysis k (all ++ y ∷ [])).used) (redone-snoc k s.area all y ∙ leaves.area (redone s.area all))
    ∙ ap (λ n. whole (redone s.area all) n (analysis k (all ++ y ∷ [])).used) (ap (λ (a : Analysis E). a.counter) last ∙ leaves.counter (analysis k all))
    ∙ ap (λ n. whole (redone s.area all) (analysis k all).counter n) (ap (λ (a : Analysis E). a.used) last ∙ leaves.used (analysis k all))

module _ {B : Type 0} (k : Known (Entry B) (Page B)) (r : Reading (Entry B) (Page B)) (f : Format B) (passes : ℕ → Contents → Bool) {D : Type 0} (d : Device) (v w : Volume D) where
  keeps_with : (x : Rec) (place : ℕ) → GivesNoPage x → w.shelf ≡ v.shelf → w.imaged ≡ v.imaged → AppendStaysUp k r x v.log w.log (At place) → AppendStaysStamped r x v.log w.log (At place)
      → AppendPlaces v.log w.log (At place) → (bodies : List (List (Record (Entry B) (Page B)))) (s : Logged (Entry B) (Page B)) → IsLawful k → MayCome k s.area (all_records s) (record_read r x)
      → Keeps k r f passes d v bodies s → Keeps k r f passes d w bodies (appended (record_read r x) s)
  keeps_with x place is shelf bits up stamped placed bodies s l may old =
      let y : Record (Entry B) (Page B) = record_read r x in
      let leaves = leaves_pages k r x is in
      let S : Shelf D → Type 0 = λ z. Keeps k r f passes d (record { log = w.log; shelf = z; most = w.most; imaged = w.imaged }) bodies (appended y s) in
      let tree = same_after k y s leaves in
      subst S (sym shelf) (record {
        runs = record {
          up = up d.sectors d.seen d.pending bodies s l (has_key r.key x is) may (subst (PagesFit r) (sym tree) old.runs.up.carries.fit.all) old.runs.up;
          stamped = stamped v.shelf.frames s old.runs.stamped;
        };
        said = record_says (Entry B) (Page B) (λ p. false) v.shelf.frames s y (λ p never. absurd (let no : false ≡ true = never in cc)) (λ p stamp dirty no. old.said p stamp dirty);
        placed = placed v.shelf.frames (none_later v.log v.shelf.frames old.placed);
        steady = old.steady;
        readable = old.readable;
        stored = recording_stores r k.pages d.seen v.shelf.frames v.shelf.frames s y (λ p. sym (ap (λ (a : ℕ → Page B). a p) (leaves.area (stored r k.pages v.shelf.frames d.seen)))) old.stored;
        used = ap (λ (t : Tree (Page B)). t.used) tree ∙ old.used;
        counter = ap (λ (t : Tree (Page B)). t.counter) tree ∙ old.counter;
        pages = old.pages;
        formed = old.formed;
        imaged = imaged_more r x v.imaged w.imaged s (bits ∙ sym (no_image x v.imaged is)) old.imaged;
      })

  pub record_keeps : (x : Rec) (place : ℕ) → GivesNoPage x → w.shelf ≡ v.shelf → w.imaged ≡ v.imaged → AppendStaysUp k r x v.log w.log (At place) → AppendStaysStamped r x v.log w.log (At place)
      → AppendPlaces v.log w.log (At place) → KeepsRecord k r f passes d v w x
  record_keeps x place is shelf bits up stamped placed =
      let y : Record (Entry B) (Page B) = record_read r x in
      record {
        keeps = keeps_with x place is shelf bits up stamped placed;
        with_tree = λ shows bodies s l old.
            (let A : trees.Tree B → Type 0 = λ t. AgreeOnUsed t (tree_shown k r f passes d v) in
            let S : Shelf D → Type 0 = λ z. AgreeOnUsed (tree_after k r f passes (appended y s)) (tree_shown k r f passes d (record { log = w.log; shelf = z; most = w.most; imaged = w.imaged })) in
            record {
              shows = subst S (sym shelf) (subst A (sym (ap tree_in (same_after k y s (leaves_pages k r x is)))) (shows bodies s old));
              keeps = λ may. keeps_with x place is shelf bits up stamped placed bodies s l may old;
              leaves = nothing_leaves (Stands k r s) d;
            });
      }
