-- A change with its record: the volume keeps the state with it.
use Rattle.std.proofs.Common.{◌≡◌, ◌∙◌, sym, ap, refl, subst, inl, inr, ℕ, ◌≤◌, Bool, true, false, ◌&&◌, ◌==◌, List, [], ◌∷◌, ◌++◌, Option, None, Some, arith}
use Rattle.std.specs.Prelude.{if◌then◌else◌, nat_le, nat_lt}
use Rattle.std.proofs.lemmas.Bool.{eqb-true, lt-ltb, le-leb}
use Rattle.gx_machine.specs.declared.entry.Entry.{Entry}
use Rattle.gx_disk.specs.Device.{Device}
use Rattle.gx_page.specs.Contents.{Contents}
use Rattle.gx_page.specs.Format.{image_of, IsWellFormed}
use Rattle.gx_page.specs.Reading.{read_of}
use Rattle.gx_page.proofs.Images.{made}
use Rattle.gx_pool.specs.Area.{IsPassing, bytes_of}
use Rattle.gx_pool.specs.Laws.{IsPassed}
use Rattle.gx_pool.specs.State.{State, Kept, kept}
use Rattle.gx_record.specs.Rec.{Rec}
use Rattle.gx_record.specs.Rec as rec
use Rattle.gx_record.specs.Format.{HasKey}
use Rattle.gx_node.specs.Reading.{Format, is_node}
use Rattle.gx_recovery.specs.Known.{Known, IsLawful}
use Rattle.gx_recovery.specs.Records.{Record, speaks_of}
use Rattle.gx_recovery.specs.Analysis.{Analysis, analysis}
use Rattle.gx_recovery.specs.Redo.{redo, tree_of}
use Rattle.gx_recovery.specs.Logged.{Logged, all_records, appended}
use Rattle.gx_recovery.proofs.Folds.{analysis-snoc}
use Rattle.gx_recovery.proofs.Logs.{and_all}
use Rattle.gx_recovery.proofs.Tests.{true_or_false}
use Rattle.gx_index_laws.specs.Classes.{Page}
use Rattle.gx_glog.specs.State.{Log}
use Rattle.gx_glog.specs.declared.filling.Appended.TheVariants.{At}
use Rattle.gx_durable.specs.Fitting.{PagesFit}
use Rattle.gx_durable.specs.Area.{is_given}
use Rattle.gx_durable.specs.Calls.{AppendPlaces, AppendStaysUp, AppendStaysStamped}
use Rattle.gx_durable.specs.Spelled.{Reading, record_read}
use Rattle.gx_durable.specs.Stored.{bytes_by, stored, IsStored}
use Rattle.gx_durable.proofs.Reading.{one_more, record_says}
use Rattle.gx_durable.proofs.Recording.{recording_stores}
use Rattle.gx_durable.specs.Classes.{reading_of}
use Rattle.gx_store.specs.Since.{GoesOn, IsAsItWas}
use Rattle.gx_store.specs.State.{IsInOrder, Shelf}
use Rattle.gx_storage.specs.Formed.{AreFormed}
use Rattle.gx_storage.specs.Imaged.{imaged_with, with_imaged}
use Rattle.gx_storage.specs.Keeps.{Keeps, StaysWith}
use Rattle.gx_storage.specs.State.{Volume}
use Rattle.gx_storage.proofs.Imaging.{given_last, imaged_more}
use Rattle.gx_storage.proofs.Moving.{now_formed, now_none_later, now_readable, now_said, now_seen, now_stamped, now_steady, now_stored, now_up, only_later}
use Rattle.gx_storage.proofs.Shown.{stored_shows}

-- what the log gives with one record more
pub told_more : {E P : Type 0} (k : Known E P) (s : Logged E P) (x : Record E P) → analysis k (all_records (appended x s)) ≡ analysis k (all_records s ++ x ∷ [])
told_more {E} {P} k s x = ap (λ (log : List (Record E P)). analysis k log) (one_more s x)

-- a page of the device that is in a frame is stored as that has it
pub stored_kept : {E P : Type 0} (r : Reading E P) (pages : ℕ) (frames : State) (seen : List ℕ) (p : ℕ) (j : Kept) → kept frames p ≡ Some j → 1 ≤ p → p ≤ pages
    → stored r pages frames seen p ≡ r.content (image_of j.page)
unfolding stored
stored_kept r pages frames seen p j is low high =
    let there : (nat_lt 0 p && nat_le p pages) ≡ true = and_all (nat_lt 0 p) (nat_le p pages) (lt-ltb 0 p low) (le-leb p pages high) in
    ap (λ b. if b then r.content (bytes_by (kept frames p) (bytes_of seen p)) else r.no_page) there ∙ ap (λ (o : Option Kept). r.content (bytes_by o (bytes_of seen p))) is

-- the bytes that a page is are those of a page that passes, whether it is in a frame or on the device
pub by_bytes : (passes : Contents → Bool) (page : ℕ) (o : Option Kept) (on_device : List ℕ) → (o ≡ None → IsPassing passes page on_device)
    → ((j : Kept) → o ≡ Some j → IsWellFormed j.page × ((j.page.number ≡ page) × (passes j.page ≡ true))) → IsPassing passes page (bytes_by o on_device)
by_bytes passes page None on_device device frame = device refl
by_bytes passes page (Some j) on_device device frame =
    let is = frame j refl in
    let has = made j.page is.0 (image_of j.page) refl in
    record { image = has.0; number = ap (λ (c : Contents). c.number) has.1 ∙ is.1.0; passing = ap passes has.1 ∙ is.1.1 }

pub stored_in_use : {E P : Type 0} (r : Reading E P) (pages : ℕ) (frames : State) (seen : List ℕ) (p : ℕ) → 1 ≤ p → p ≤ pages
    → stored r pages frames seen p ≡ r.content (bytes_by (kept frames p) (bytes_of seen p))
unfolding stored
stored_in_use r pages frames seen p low high =
    let there : (nat_lt 0 p && nat_le p pages) ≡ true = and_all (nat_lt 0 p) (nat_le p pages) (lt-ltb 0 p low) (le-leb p pages high) in
    ap (λ b. if b then r.content (bytes_by (kept frames p) (bytes_of seen p)) else r.no_page) there

-- the pages of a store are the device's, and each that is kept is a node
pub record AreNodes {B D : Type 0} (f : Format B) (passes : ℕ → Contents → Bool) (t : Shelf D) : Type 0 where
  pub taken : t.used ≤ t.pages
  pub passed : IsPassed (passes t.pages) t.frames
  pub nodes : (pages : ℕ) (c : Contents) → passes pages c ≡ true → is_node f pages c ≡ true

pub nodes_of : {B D : Type 0} (f : Format B) (sectors : ℕ) (t : Shelf D) → IsInOrder (is_node f t.pages) sectors t.frames t.used t.pages → AreNodes f (is_node f) t
nodes_of f sectors t order = record { taken = order.taken; passed = order.passed; nodes = λ pages c passes. passes }

module _ {B D : Type 0} (k : Known (Entry B) (Page B)) (said : List ℕ → B) (f : Format B) (passes : ℕ → Contents → Bool)
    (d e : Device) (v : Volume D) (batch : ℕ) (room : Bool) (t : Shelf D) (bodies : List (List (Record (Entry B) (Page B)))) (s : Logged (Entry B) (Page B))
    (l : IsLawful k) (keeps : Keeps k (reading_of said f) f passes d v bodies s) (on : GoesOn passes d e (record v.shelf { batch = batch; has_room = room }) t)
    (least : batch ≡ v.log.used) (right : AreNodes f passes t) where
  module _ (x : Rec) (log : Log) (most : ℕ) (imaged : List Bool) (bits : imaged ≡ imaged_with x v.imaged) (up : AppendStaysUp k (reading_of said f) x v.log log (At v.log.used)) (stamped : AppendStaysStamped (reading_of said f) x v.log log (At v.log.used))
      (placed : AppendPlaces v.log log (At v.log.used)) (key : HasKey f.key x)
      (others : (q : ℕ) → speaks_of q (record_read (reading_of said f) x) ≡ false → IsAsItWas d e v.shelf.frames t.frames q)
      (said_now : (q : ℕ) → speaks_of q (record_read (reading_of said f) x) ≡ true → is_given (all_records s ++ record_read (reading_of said f) x ∷ []) q ≡ true)
      (given : (q : ℕ) → speaks_of q (record_read (reading_of said f) x) ≡ true
      → stored (reading_of said f) k.pages t.frames e.seen q ≡ redo (stored (reading_of said f) k.pages v.shelf.frames d.seen) (record_read (reading_of said f) x) q)
      (beside : (q : ℕ) → speaks_of q (record_read (reading_of said f) x) ≡ false
      → redo (stored (reading_of said f) k.pages v.shelf.frames d.seen) (record_read (reading_of said f) x) q ≡ stored (reading_of said f) k.pages v.shelf.frames d.seen q)
      (formed : (q : ℕ) (j : Kept) → speaks_of q (record_read (reading_of said f) x) ≡ true → kept t.frames q ≡ Some j → IsWellFormed j.page)
      (used : (analysis k (all_records s ++ record_read (reading_of said f) x ∷ [])).used ≡ t.used)
      (counter : (analysis k (all_records s ++ record_read (reading_of said f) x ∷ [])).counter ≡ t.counter) where
    each_redone : (q : ℕ) → stored (reading_of said f) k.pages t.frames e.seen q ≡ redo (stored (reading_of said f) k.pages v.shelf.frames e.seen) (record_read (reading_of said f) x) q
    each_redone q =
        let back = ap (λ (seen : List ℕ). redo (stored (reading_of said f) k.pages v.shelf.frames seen) (record_read (reading_of said f) x) q)
        (sym (now_seen k (reading_of said f) f passes d e v batch room t bodies s l keeps on)) in
        elim (true_or_false (speaks_of q (record_read (reading_of said f) x))) [
          | inl is ↦ given q is ∙ back
          | inr other ↦ now_stored k (reading_of said f) f passes d e v batch room t bodies s l keeps on q (others q other) ∙ sym (beside q other) ∙ back
        ]

    stored_before : IsStored (reading_of said f) k.pages v.shelf.frames e.seen s
    stored_before q = ap (λ (seen : List ℕ). stored (reading_of said f) k.pages v.shelf.frames seen q) (now_seen k (reading_of said f) f passes d e v batch room t bodies s l keeps on) ∙ keeps.stored q

    all_stored : IsStored (reading_of said f) k.pages t.frames e.seen (appended (record_read (reading_of said f) x) s)
    all_stored = recording_stores (reading_of said f) k.pages e.seen v.shelf.frames t.frames s (record_read (reading_of said f) x) each_redone stored_before

    all_formed : AreFormed t.frames
    all_formed q j is = elim (true_or_false (speaks_of q (record_read (reading_of said f) x))) [
      | inl now ↦ formed q j now is
      | inr other ↦ now_formed k (reading_of said f) f passes d e v batch room t bodies s l keeps on q j is (others q other)
    ]

    tells_used : (analysis k (all_records (appended (record_read (reading_of said f) x) s))).used ≡ t.used
    tells_used = ap (λ (a : Analysis (Entry B)). a.used) (told_more k s (record_read (reading_of said f) x)) ∙ used

    tells_counter : (analysis k (all_records (appended (record_read (reading_of said f) x) s))).counter ≡ t.counter
    tells_counter = ap (λ (a : Analysis (Entry B)). a.counter) (told_more k s (record_read (reading_of said f) x)) ∙ counter

    has_pages : k.pages ≡ t.pages
    has_pages = keeps.pages ∙ sym on.pages

    -- each page in use can be read after all records
    fit_now : PagesFit (reading_of said f) (tree_of k s.area (all_records (appended (record_read (reading_of said f) x) s)))
    fit_now page low high =
        let in_use : page ≤ t.used = omega (arith, high, tells_used) in
        let on_device : page ≤ k.pages = (let fits = right.taken in omega (arith, in_use, fits, has_pages)) in
        let readable = now_readable k (reading_of said f) f passes d e v batch room t bodies s l keeps on in
        let is = by_bytes (passes t.pages) page (kept t.frames page) (bytes_of e.seen page) (λ none. readable page low (le-leb page t.used in_use) none)
        (λ j here. (all_formed page j here, right.passed page j here)) in
        subst (λ (c : Page B). (reading_of said f).fits page c) (sym (stored_in_use (reading_of said f) k.pages t.frames e.seen page low on_device) ∙ all_stored page)
        (t.pages, record { image = is.image; number = is.number; passing = right.nodes t.pages (read_of (bytes_by (kept t.frames page) (bytes_of e.seen page))) is.passing })

    pub stays_with : StaysWith k (reading_of said f) f passes d e (record { log = log; shelf = t; most = most; imaged = imaged }) bodies s (record_read (reading_of said f) x)
    stays_with =
        let steady = now_steady k (reading_of said f) f passes d e v batch room t bodies s l keeps on in
        let safely = now_up k (reading_of said f) f passes d e v batch room t bodies s l keeps on in
        record {
          shows = stored_shows said f k e (record { log = log; shelf = t; most = most; imaged = imaged }) (appended (record_read (reading_of said f) x) s) (let fits = right.taken in omega (arith, fits, has_pages)) steady.backed
              all_formed all_stored tells_used tells_counter;
          keeps = λ may. record {
            runs = record {
              up = up e.sectors e.seen e.pending bodies s l key may fit_now safely.0;
              stamped = stamped t.frames s (now_stamped k (reading_of said f) f passes d e v batch room t bodies s l keeps on
                  (only_later k (reading_of said f) f passes d e v batch room t bodies s l keeps on (omega (arith, least))));
            };
            said = record_says _ _ (λ q. speaks_of q (record_read (reading_of said f) x)) t.frames s (record_read (reading_of said f) x)
                said_now
                (now_said k (reading_of said f) f passes d e v batch room t bodies s l keeps on (λ q. speaks_of q (record_read (reading_of said f) x)) others);
            placed = placed t.frames (now_none_later k (reading_of said f) f passes d e v batch room t bodies s l keeps on (omega (arith, least)));
            steady = steady;
            readable = now_readable k (reading_of said f) f passes d e v batch room t bodies s l keeps on;
            stored = all_stored;
            used = tells_used;
            counter = tells_counter;
            pages = has_pages;
            formed = all_formed;
            imaged = imaged_more (reading_of said f) x v.imaged imaged s bits keeps.imaged;
          };
          leaves = safely.1.leaves;
        }

  -- one page, which a write gives
  module _ (tx row : ℕ) (key : List ℕ) (before after : Bool) (page : ℕ) (j : Kept) (log : Log) (most : ℕ) (imaged : List Bool)
      (bits : imaged ≡ with_imaged page v.imaged) (is : kept t.frames page ≡ Some j) (well : IsWellFormed j.page)
      (low : 1 ≤ page) (high : page ≤ t.used)
      (up : AppendStaysUp k (reading_of said f) (rec.Write tx row key before after page (image_of j.page)) v.log log (At v.log.used))
      (stamped : AppendStaysStamped (reading_of said f) (rec.Write tx row key before after page (image_of j.page)) v.log log (At v.log.used))
      (placed : AppendPlaces v.log log (At v.log.used)) (long : HasKey f.key (rec.Write tx row key before after page (image_of j.page)))
      (others : (q : ℕ) → (page == q) ≡ false → IsAsItWas d e v.shelf.frames t.frames q) (used : t.used ≡ v.shelf.used) (counter : t.counter ≡ v.shelf.counter) where
    on_device : page ≤ k.pages
    on_device = let fits = right.taken in omega (arith, high, fits, keeps.pages ∙ sym on.pages)

    stored_now : (q : ℕ) → (page == q) ≡ true → stored (reading_of said f) k.pages t.frames e.seen q ≡ (reading_of said f).content (image_of j.page)
    stored_now q this =
        ap (λ p. stored (reading_of said f) k.pages t.frames e.seen p) (sym (eqb-true page q this)) ∙ stored_kept (reading_of said f) k.pages t.frames e.seen page j is low on_device

    formed_now : (q : ℕ) (i : Kept) → (page == q) ≡ true → kept t.frames q ≡ Some i → IsWellFormed i.page
    formed_now q i this there =
        let both : ◌≡◌ {A = Option Kept} (Some j) (Some i) = sym is ∙ ap (λ p. kept t.frames p) (eqb-true page q this) ∙ there in
        let same : j ≡ i = cc in
        rw (← same) well

    pub write_stays_with : StaysWith k (reading_of said f) f passes d e (record { log = log; shelf = t; most = most; imaged = imaged }) bodies s
        (record_read (reading_of said f) (rec.Write tx row key before after page (image_of j.page)))
    write_stays_with = stays_with (rec.Write tx row key before after page (image_of j.page)) log most imaged bits up stamped placed long others
        (λ q this. given_last (all_records s) (record_read (reading_of said f) (rec.Write tx row key before after page (image_of j.page))) q this)
        (λ q this. stored_now q this ∙ sym (ap (λ b. if b then (reading_of said f).content (image_of j.page) else stored (reading_of said f) k.pages v.shelf.frames d.seen q) this))
        (λ q other. ap (λ b. if b then (reading_of said f).content (image_of j.page) else stored (reading_of said f) k.pages v.shelf.frames d.seen q) other)
        formed_now
        (ap (λ (a : Analysis (Entry B)). a.used) (analysis-snoc k (all_records s) (record_read (reading_of said f) (rec.Write tx row key before after page (image_of j.page)))) ∙ keeps.used ∙ sym used)
        (ap (λ (a : Analysis (Entry B)). a.counter) (analysis-snoc k (all_records s) (record_read (reading_of said f) (rec.Write tx row key before after page (image_of j.page)))) ∙ keeps.counter ∙ sym counter)
