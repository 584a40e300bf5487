-- A small change of one page with its record: the volume keeps the state with it.
use Rattle.std.proofs.Common.{◌≡◌, ◌∙◌, sym, ap, refl, subst, ℕ, ◌≤◌, Bool, true, false, ◌==◌, List, [], ◌∷◌, ◌++◌, Option, Some, arith}
use Rattle.std.specs.Prelude.{if◌then◌else◌}
use Rattle.std.proofs.lemmas.Bool.{eq-eqb, eqb-true}
use Rattle.gx_machine.specs.declared.entry.Entry.{Entry}
use Rattle.gx_disk.specs.Device.{Device}
use Rattle.gx_page.specs.Contents.{Contents}
use Rattle.gx_page.specs.Edits.{with_items}
use Rattle.gx_page.specs.Format.{image_of, IsWellFormed}
use Rattle.gx_page.specs.Reading.{read_of}
use Rattle.gx_pool.specs.Area.{bytes_of}
use Rattle.gx_pool.specs.State.{Kept, kept}
use Rattle.gx_record.specs.Rec.{Rec, Add}
use Rattle.gx_record.specs.Format.{HasKey}
use Rattle.gx_node.specs.Laws.{LeavesHold}
use Rattle.gx_node.specs.Reading.{Format}
use Rattle.gx_node.specs.Small.{pair_made}
use Rattle.gx_node.specs.Store.{tree_of}
use Rattle.gx_tree.specs.Writing.{Appends}
use Rattle.gx_recovery.specs.Known.{Known, IsLawful, Limits}
use Rattle.gx_recovery.specs.Records.{Record, speaks_of}
use Rattle.gx_recovery.specs.Analysis.{Analysis, analysis, read}
use Rattle.gx_recovery.specs.Redo.{redo, with_page}
use Rattle.gx_recovery.specs.Logged.{Logged, all_records}
use Rattle.gx_recovery.proofs.Folds.{analysis-snoc}
use Rattle.gx_index_laws.specs.Classes.{Page}
use Rattle.gx_glog.specs.State.{Log}
use Rattle.gx_glog.specs.declared.filling.Appended.TheVariants.{At}
use Rattle.gx_durable.specs.Area.{is_given}
use Rattle.gx_durable.specs.Calls.{AppendPlaces, AppendStaysUp, AppendStaysStamped}
use Rattle.gx_durable.specs.Spelled.{record_read}
use Rattle.gx_durable.specs.Stored.{bytes_by, stored}
use Rattle.gx_durable.proofs.Moving.{given_more}
use Rattle.gx_durable.specs.Classes.{change_of, page_of, page_with, reading_of}
use Rattle.gx_store.specs.Since.{GoesOn, IsAsItWas}
use Rattle.gx_store.specs.Standing.{store_of}
use Rattle.gx_store.specs.State.{IsSteady, Shelf}
use Rattle.gx_store.proofs.Changing.{there}
use Rattle.gx_store.proofs.Shown.{stands_kept}
use Rattle.gx_storage.specs.Changes.{IsLogged, has_room}
use Rattle.gx_storage.specs.Giving.{IsGiven}
use Rattle.gx_storage.specs.Imaged.{imaged_with, is_imaged}
use Rattle.gx_storage.specs.Journal.{IsLast}
use Rattle.gx_storage.specs.Keeps.{Keeps, StaysWith}
use Rattle.gx_storage.specs.Small.{add_said}
use Rattle.gx_storage.specs.State.{Journal, Volume, journal_of, volume}
use Rattle.gx_storage.proofs.Recording.{AreNodes, stays_with, stored_in_use, stored_kept}
use Rattle.gx_storage.proofs.SmallLeaf.{node_held, node_then, pair_behind, passing_then}
use Rattle.gx_storage.proofs.Writing.{Stepped, logged_write, tree_used}

-- the record says of one page alone that it is changed so, and no number
pub record IsOfPage {B : Type 0} (k : Known (Entry B) (Page B)) (said : List ℕ → B) (f : Format B) (page : ℕ) (made : List (List ℕ) → List (List ℕ)) (y : Record (Entry B) (Page B)) : Type 0 where
  pub speaks : (q : ℕ) → speaks_of q y ≡ (page == q)
  pub redoes : (area : ℕ → Page B) (q : ℕ) → redo area y q ≡ with_page page (page_with f (read_of (area page).bytes) (made (read_of (area page).bytes).items)) area q
  pub used : (a : Analysis (Entry B)) → (read k a y).used ≡ a.used
  pub counter : (a : Analysis (Entry B)) → (read k a y).counter ≡ a.counter

pub add_is_of_page : {B : Type 0} (k : Known (Entry B) (Page B)) (said : List ℕ → B) (f : Format B) (tx row : ℕ) (key : List ℕ) (leaf : ℕ)
    → IsOfPage k said f leaf (pair_made row key) (record_read (reading_of said f) (Add tx row key leaf))
unfolding change_of
add_is_of_page k said f tx row key leaf = record { speaks = λ q. refl; redoes = λ area q. refl; used = λ a. refl; counter = λ a. refl }

-- an area with one page's content
with_this : {P : Type 0} (page : ℕ) (content : P) (area : ℕ → P) → with_page page content area page ≡ content
with_this page content area = ap (λ b. if b then content else area page) (eq-eqb page page refl)

with_other : {P : Type 0} (page q : ℕ) (content : P) (area : ℕ → P) → (page == q) ≡ false → with_page page content area q ≡ area q
with_other page q content area other = ap (λ b. if b then content else area q) other

module _ {B D : Type 0} (k : Known (Entry B) (Page B)) (said : List ℕ → B) (f : Format B) (passes : ℕ → Contents → Bool)
    (d e : Device) (v : Volume D) (batch : ℕ) (room : Bool) (t : Shelf D) (bodies : List (List (Record (Entry B) (Page B)))) (s : Logged (Entry B) (Page B))
    (l : IsLawful k) (keeps : Keeps k (reading_of said f) f passes d v bodies s) (on : GoesOn passes d e (record v.shelf { batch = batch; has_room = room }) t)
    (least : batch ≡ v.log.used) (was : AreNodes f passes v.shelf) (right : AreNodes f passes t)
    (x : Rec) (page : ℕ) (made : List (List ℕ) → List (List ℕ)) (of : IsOfPage k said f page made (record_read (reading_of said f) x))
    (low : 1 ≤ page) (high : page ≤ v.shelf.used) (j : Kept) (is : kept t.frames page ≡ Some j) (well : IsWellFormed j.page)
    (now : j.page ≡ with_items (read_of (bytes_by (kept v.shelf.frames page) (bytes_of d.seen page))) (made (read_of (bytes_by (kept v.shelf.frames page) (bytes_of d.seen page))).items))
    (log : Log) (most : ℕ) (imaged : List Bool) (bits : imaged ≡ imaged_with x v.imaged) (bit : is_imaged v.imaged page ≡ true)
    (up : AppendStaysUp k (reading_of said f) x v.log log (At v.log.used)) (stamped : AppendStaysStamped (reading_of said f) x v.log log (At v.log.used))
    (placed : AppendPlaces v.log log (At v.log.used)) (key : HasKey f.key x) (others : (q : ℕ) → (page == q) ≡ false → IsAsItWas d e v.shelf.frames t.frames q)
    (used : t.used ≡ v.shelf.used) (counter : t.counter ≡ v.shelf.counter) where
  this_page : (q : ℕ) → speaks_of q (record_read (reading_of said f) x) ≡ true → page ≡ q
  this_page q speaks = eqb-true page q (sym (of.speaks q) ∙ speaks)

  on_device : page ≤ k.pages
  on_device = let fits = was.taken in omega (arith, high, fits, keeps.pages)

  said_now : (q : ℕ) → speaks_of q (record_read (reading_of said f) x) ≡ true → is_given (all_records s ++ record_read (reading_of said f) x ∷ []) q ≡ true
  said_now q speaks = given_more (all_records s) (record_read (reading_of said f) x ∷ []) q (ap (λ p. is_given (all_records s) p) (sym (this_page q speaks)) ∙ keeps.imaged page bit)

  stored_then : stored (reading_of said f) k.pages v.shelf.frames d.seen page ≡ page_of f (bytes_by (kept v.shelf.frames page) (bytes_of d.seen page))
  stored_then = stored_in_use (reading_of said f) k.pages v.shelf.frames d.seen page low on_device

  stored_now : stored (reading_of said f) k.pages t.frames e.seen page
      ≡ redo (stored (reading_of said f) k.pages v.shelf.frames d.seen) (record_read (reading_of said f) x) page
  stored_now =
      stored_kept (reading_of said f) k.pages t.frames e.seen page j is low on_device
      ∙ ap (λ (c : Contents). page_of f (image_of c)) now
      ∙ sym (ap (λ (p : Page B). page_with f (read_of p.bytes) (made (read_of p.bytes).items)) stored_then)
      ∙ sym (of.redoes (stored (reading_of said f) k.pages v.shelf.frames d.seen) page ∙ with_this page _ (stored (reading_of said f) k.pages v.shelf.frames d.seen))

  beside_page : (q : ℕ) → speaks_of q (record_read (reading_of said f) x) ≡ false
      → redo (stored (reading_of said f) k.pages v.shelf.frames d.seen) (record_read (reading_of said f) x) q ≡ stored (reading_of said f) k.pages v.shelf.frames d.seen q
  beside_page q other =
      of.redoes (stored (reading_of said f) k.pages v.shelf.frames d.seen) q
      ∙ with_other page q _ (stored (reading_of said f) k.pages v.shelf.frames d.seen) (sym (of.speaks q) ∙ other)

  formed_now : (q : ℕ) (i : Kept) → speaks_of q (record_read (reading_of said f) x) ≡ true → kept t.frames q ≡ Some i → IsWellFormed i.page
  formed_now q i speaks there =
      let both : ◌≡◌ {A = Option Kept} (Some j) (Some i) = sym is ∙ ap (λ p. kept t.frames p) (this_page q speaks) ∙ there in
      let same : j ≡ i = cc in
      rw (← same) well

  pub small_stays_with : StaysWith k (reading_of said f) f passes d e (record { log = log; shelf = t; most = most; imaged = imaged }) bodies s (record_read (reading_of said f) x)
  small_stays_with = stays_with k said f passes d e v batch room t bodies s l keeps on least right x log most imaged bits up stamped placed key
      (λ q other. others q (sym (of.speaks q) ∙ other)) said_now
      (λ q speaks. (let S : ℕ → Type 0 = λ p. stored (reading_of said f) k.pages t.frames e.seen p ≡ redo (stored (reading_of said f) k.pages v.shelf.frames d.seen) (record_read (reading_of said f) x) p in
      subst S (this_page q speaks) stored_now))
      beside_page formed_now
      (ap (λ (a : Analysis (Entry B)). a.used) (analysis-snoc k (all_records s) (record_read (reading_of said f) x)) ∙ of.used (analysis k (all_records s)) ∙ keeps.used ∙ sym used)
      (ap (λ (a : Analysis (Entry B)). a.counter) (analysis-snoc k (all_records s) (record_read (reading_of said f) x)) ∙ of.counter (analysis k (all_records s)) ∙ keeps.counter ∙ sym counter)

-- ---- a pair that was added

module _ {B D : Type 0} (known : Limits → Known (Entry B) (Page B)) (said : List ℕ → B) (f : Format B) (passes : ℕ → Contents → Bool) (state : D → Device) (v : Volume D) (size : ℕ) (t : Shelf D)
    (IsKey : B → Type 0) (spelling : B → List ℕ) (hold : LeavesHold IsKey spelling f) (was : AreNodes f passes v.shelf) (right : AreNodes f passes t)
    (page : ℕ) (j : Journal) (did : Stepped passes state v size t page) (given : IsGiven (state t.disk).seen t page) (bit : is_imaged v.imaged page ≡ true) where
  pub logged_add : (tx most : ℕ) (entry : Entry B) → t.pages ≡ v.shelf.pages
      → (IsSteady (state v.shelf.disk) v.shelf.frames → Appends most (tree_of (store_of f (state v.shelf.disk).seen v.shelf)) (tree_of (store_of f (state t.disk).seen t)) page entry)
      → IsLast known (reading_of said f) (Add tx entry.row (spelling entry.key) page) (journal_of v) j
      → IsLogged known (reading_of said f) f passes size (state v.shelf.disk) (state t.disk) v (volume j t v.most) (Add tx entry.row (spelling entry.key) page)
  logged_add tx most entry pages made last = record {
    logs = last.logs;
    keeps = λ l bodies s lawful keeps.
        (let d = state v.shelf.disk in
        let e = state t.disk in
        let step = made keeps.steady in
        let used = tree_used f e.seen d.seen v.shelf t step.changes.used in
        let held = given.held in
        let one = there (kept t.frames page) held.kept in
        let stands = stands_kept t.frames e.seen page one.0 held.stays one.1 in
        let formed : IsWellFormed one.0.page = subst {A = Contents} IsWellFormed stands given.well in
        let high : page ≤ v.shelf.used = omega (arith, held.to, used) in
        let before = passing_then (known l) said f passes d v bodies s keeps was page held.from high in
        let passed = right.passed page one.0 one.1 in
        let node_now : passes v.shelf.pages one.0.page ≡ true = ap (λ n. passes n one.0.page) (sym pages) ∙ passed.1 in
        let now = pair_behind IsKey spelling f hold v.shelf.pages (read_of (bytes_by (kept v.shelf.frames page) (bytes_of d.seen page))) one.0.page
        ((tree_of (store_of f d.seen v.shelf)).node page) ((tree_of (store_of f e.seen t)).node page) entry.row entry.key before.image.well_formed formed
        (right.nodes v.shelf.pages _ before.passing) (right.nodes v.shelf.pages one.0.page node_now) (passed.0 ∙ sym before.number)
        (node_then (known l) said f passes d v bodies s keeps was page held.from high) (node_held f e.seen t page one.0 held one.1) step.leaf step.changes.changed in
        small_stays_with (known l) said f passes d e v v.log.used (has_room v.log size) t bodies s lawful keeps did.goes_on (omega arith) was right
        (Add tx entry.row (spelling entry.key) page) page (pair_made entry.row (spelling entry.key)) (add_is_of_page (known l) said f tx entry.row (spelling entry.key) page)
        held.from high one.0 one.1 formed now j.log v.most j.imaged last.imaged bit (last.up l) last.stamped last.placed last.key did.others used step.changes.counter);
    goes_on = did.goes_on;
    others = λ q other. did.others q other;
    most = refl;
    imaged = last.imaged;
  }

-- so it is by the leaf's bit
module _ {B D : Type 0} (known : Limits → Known (Entry B) (Page B)) (said : List ℕ → B) (f : Format B) (passes : ℕ → Contents → Bool) (state : D → Device) (v : Volume D) (size : ℕ) (t : Shelf D)
    (IsKey : B → Type 0) (spelling : B → List ℕ) (hold : LeavesHold IsKey spelling f) (was : AreNodes f passes v.shelf) (right : AreNodes f passes t)
    (page : ℕ) (j : Journal) (did : Stepped passes state v size t page) (given : IsGiven (state t.disk).seen t page) (tx most : ℕ) (entry : Entry B)
    (made : IsSteady (state v.shelf.disk) v.shelf.frames → Appends most (tree_of (store_of f (state v.shelf.disk).seen v.shelf)) (tree_of (store_of f (state t.disk).seen t)) page entry) where
  pub logged_added : (small : Bool) → is_imaged v.imaged page ≡ small
      → IsLast known (reading_of said f) (add_said spelling small tx entry.row entry.key page (state t.disk).seen t) (journal_of v) j
      → IsLogged known (reading_of said f) f passes size (state v.shelf.disk) (state t.disk) v (volume j t v.most)
      (add_said spelling small tx entry.row entry.key page (state t.disk).seen t)
  logged_added true bit last = logged_add known said f passes state v size t IsKey spelling hold was right page j did given bit tx most entry did.goes_on.pages made last
  logged_added false bit last =
      logged_write known said f passes state v size t tx entry.row (spelling entry.key) true false page j did given right
      (λ steady. (let step = made steady in (tree_used f (state t.disk).seen (state v.shelf.disk).seen v.shelf t step.changes.used, step.changes.counter))) last
