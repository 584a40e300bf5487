-- A bound that was widened, with its record.
use Rattle.std.proofs.Common.{◌≡◌, ◌∙◌, sym, ap, refl, subst, ℕ, ◌^◌, ◌<◌, ◌≤◌, Bool, true, false, List, length, Some, arith}
use Rattle.std.specs.Prelude.{is_some, slice_get}
use Rattle.gx_machine.specs.declared.entry.Entry.{Entry}
use Rattle.gx_disk.specs.Device.{Device}
use Rattle.gx_page.specs.Contents.{Contents}
use Rattle.gx_page.specs.Format.{IsWellFormed}
use Rattle.gx_page.specs.Reading.{read_of}
use Rattle.gx_pool.specs.Area.{bytes_of}
use Rattle.gx_pool.specs.State.{kept}
use Rattle.gx_record.specs.Format.{IsInRange}
use Rattle.gx_record.specs.Rec.{Widen}
use Rattle.gx_node.specs.Reach.{TraversalItem}
use Rattle.gx_node.specs.Trees.{Child}
use Rattle.gx_node.specs.declared.items.TheConstants.{MAX_ENTRIES}
use Rattle.gx_node.specs.Laws.{InnersHold}
use Rattle.gx_node.specs.Reading.{Format}
use Rattle.gx_node.specs.Small.{bound_made}
use Rattle.gx_node.specs.Store.{tree_of}
use Rattle.gx_tree.specs.Descending.{SlotBelow, StepsDown, is_widened}
use Rattle.gx_tree.specs.declared.descent.Descended.{Descended}
use Rattle.gx_tree.specs.declared.descent.Descended.TheVariants as did
use Rattle.gx_recovery.specs.Given.{change_fits, given}
use Rattle.gx_recovery.specs.Known.{Known, Limits}
use Rattle.gx_recovery.specs.Logged.{Logged, all_records}
use Rattle.gx_recovery.specs.Records.{Record}
use Rattle.gx_index_laws.specs.Classes.{Page}
use Rattle.gx_durable.specs.Small.{SetKey}
use Rattle.gx_durable.specs.Spelled.{record_read}
use Rattle.gx_durable.specs.Stored.{bytes_by}
use Rattle.gx_durable.specs.Classes.{change_of, reading_of}
use Rattle.gx_store.specs.Standing.{store_of}
use Rattle.gx_store.specs.State.{IsSteady, Shelf}
use Rattle.gx_store.proofs.Changing.{there}
use Rattle.gx_store.proofs.Shown.{stands_kept}
use Rattle.gx_storage.specs.Changes.{IsLogged, has_room}
use Rattle.gx_storage.specs.Changing.{IfWidened}
use Rattle.gx_storage.specs.Giving.{IsGiven}
use Rattle.gx_storage.specs.Imaged.{is_imaged}
use Rattle.gx_storage.specs.Journal.{IsLast}
use Rattle.gx_storage.specs.Keeps.{Keeps}
use Rattle.gx_storage.specs.Small.{widen_said}
use Rattle.gx_storage.specs.State.{Journal, Volume, journal_of, volume}
use Rattle.gx_storage.proofs.Giving.{logged_page}
use Rattle.gx_storage.proofs.Recording.{AreNodes}
use Rattle.gx_storage.proofs.SmallFits.{small_fits}
use Rattle.gx_storage.proofs.SmallInner.{bound_in_slot, bound_takes}
use Rattle.gx_storage.proofs.SmallLeaf.{bytes_then, node_held, node_then, passing_then}
use Rattle.gx_storage.proofs.SmallRecords.{IsOfPage, small_stays_with}
use Rattle.gx_storage.proofs.Writing.{Stepped, tree_used}

pub widen_in_range : (page slot : ℕ) (key : List ℕ) → page < 2 ^ 32 → 1 ≤ page → slot < MAX_ENTRIES → IsInRange (Widen page slot key)
widen_in_range page slot key page_fits low few = ((low, page_fits), omega arith)

pub widen_is_of_page : {B : Type 0} (k : Known (Entry B) (Page B)) (said : List ℕ → B) (f : Format B) (page slot : ℕ) (key : List ℕ)
    → IsOfPage k said f page (bound_made f slot key) (record_read (reading_of said f) (Widen page slot key))
unfolding change_of
widen_is_of_page k said f page slot key = record { speaks = λ q. refl; redoes = λ area q. refl; used = λ a. refl; counter = λ a. refl }

module _ {B D : Type 0} (known : Limits → Known (Entry B) (Page B)) (said : List ℕ → B) (f : Format B) (passes : ℕ → Contents → Bool) (state : D → Device) (v : Volume D) (size : ℕ) (t : Shelf D)
    (IsKey : B → Type 0) (spelling : B → List ℕ) (long : (key : B) → IsKey key → length (spelling key) ≡ f.key) (hold : InnersHold IsKey spelling f) (was : AreNodes f passes v.shelf) (right : AreNodes f passes t)
    (cost : B → B → ℕ × ℕ) (joined : B → B → B) (most : ℕ) (item : TraversalItem) (coming : B) (next : TraversalItem) (slot : ℕ) (key : B)
    (made : IsSteady (state v.shelf.disk) v.shelf.frames
    → StepsDown cost joined most (store_of f (state v.shelf.disk).seen v.shelf) (store_of f (state t.disk).seen t) item coming (did.Widened next slot key))
    (j : Journal) (step : Stepped passes state v size t item.page) (given_now : IsGiven (state t.disk).seen t item.page) where
  logged_widen : is_imaged v.imaged item.page ≡ true → IsLast known (reading_of said f) (Widen item.page slot (spelling key)) (journal_of v) j
      → IsLogged known (reading_of said f) f passes size (state v.shelf.disk) (state t.disk) v (volume j t v.most) (Widen item.page slot (spelling key))
  logged_widen bit last = record {
    logs = last.logs;
    keeps = λ l bodies s lawful keeps.
        (let d = state v.shelf.disk in
        let e = state t.disk in
        let page = item.page in
        let down = made keeps.steady in
        let choice = down.0.1.1 in
        let child : Child B = record { key = down.0.1.0; page = next.page } in
        let changes = down.2 child choice.at in
        let used = tree_used f e.seen d.seen v.shelf t changes.used in
        let held = given_now.held in
        let one = there (kept t.frames page) held.kept in
        let stands = stands_kept t.frames e.seen page one.0 held.stays one.1 in
        let formed : IsWellFormed one.0.page = subst {A = Contents} IsWellFormed stands given_now.well in
        let high : page ≤ v.shelf.used = omega (arith, held.to, used) in
        let before = passing_then (known l) said f passes d v bodies s keeps was page held.from high in
        let passed = right.passed page one.0 one.1 in
        let node_now : passes v.shelf.pages one.0.page ≡ true = ap (λ n. passes n one.0.page) (sym step.goes_on.pages) ∙ passed.1 in
        let now = bound_in_slot f v.shelf.pages (read_of (bytes_by (kept v.shelf.frames page) (bytes_of d.seen page)))
        ((tree_of (store_of f d.seen v.shelf)).node page) slot child (right.nodes v.shelf.pages _ before.passing)
        (node_then (known l) said f passes d v bodies s keeps was page held.from high) choice.inner choice.at IsKey spelling long hold key before.image.well_formed
        one.0.page ((tree_of (store_of f e.seen t)).node page) formed (right.nodes v.shelf.pages one.0.page node_now) (passed.0 ∙ sym before.number)
        (node_held f e.seen t page one.0 held one.1) changes.changed in
        small_stays_with (known l) said f passes d e v v.log.used (has_room v.log size) t bodies s lawful keeps step.goes_on (omega arith) was right
        (Widen page slot (spelling key)) page (bound_made f slot (spelling key)) (widen_is_of_page (known l) said f page slot (spelling key))
        held.from high one.0 one.1 formed now j.log v.most j.imaged last.imaged bit (last.up l) last.stamped last.placed last.key step.others used changes.counter);
    goes_on = step.goes_on;
    others = λ q other. step.others q other;
    most = refl;
    imaged = last.imaged;
  }

  -- so it is by the page's bit
  pub logged_widened : (small : Bool) → is_imaged v.imaged item.page ≡ small
      → IsLast known (reading_of said f) (widen_said spelling small item.page slot key (state t.disk).seen t) (journal_of v) j
      → IsLogged known (reading_of said f) f passes size (state v.shelf.disk) (state t.disk) v (volume j t v.most)
      (widen_said spelling small item.page slot key (state t.disk).seen t)
  logged_widened true bit last = logged_widen bit last
  logged_widened false bit last = logged_page known said f passes state v size t item.page j step given_now right last

-- what the log gives of an inner node's page takes the bytes of a key as the bound in a slot
module _ {B D : Type 0} (k : Known (Entry B) (Page B)) (said : List ℕ → B) (f : Format B) (passes : ℕ → Contents → Bool) (d : Device) (v : Volume D)
    (bodies : List (List (Record (Entry B) (Page B)))) (s : Logged (Entry B) (Page B)) (keeps : Keeps k (reading_of said f) f passes d v bodies s) (was : AreNodes f passes v.shelf)
    (page : ℕ) (low : 1 ≤ page) (high : page ≤ v.shelf.used) (bit : is_imaged v.imaged page ≡ true) (slot : ℕ) (child : Child B)
    (above : 0 < ((tree_of (store_of f d.seen v.shelf)).node page).level) (at : slice_get ((tree_of (store_of f d.seen v.shelf)).node page).children slot ≡ Some child) where
  pub widen_fits : (bytes : List ℕ) → is_some (f.reading bytes) ≡ true → change_fits k (change_of f (SetKey slot bytes)) (given page (all_records s)) ≡ true
  unfolding change_of
  widen_fits bytes read =
      let passing = passing_then k said f passes d v bodies s keeps was page low high in
      small_fits k said f passes d v bodies s keeps was page low high bit (change_of f (SetKey slot bytes))
      (bound_takes f v.shelf.pages (read_of (bytes_then k said f passes d v bodies s keeps was page low high)) _ slot child (was.nodes v.shelf.pages _ passing.passing) (node_then k said f passes d v bodies s keeps was page low high) above at bytes read)

-- ---- whether a bound was widened

pub if_wide : {B : Type 0} (Wide : ℕ → B → Type 0) (Narrow : Type 0) (how : Descended B) (next : TraversalItem) (slot : ℕ) (key : B) → how ≡ did.Widened next slot key → Wide slot key → IfWidened Wide Narrow how
if_wide {B} Wide Narrow how next slot key is here = subst {A = Descended B} (λ x. IfWidened Wide Narrow x) (sym is) here

pub slot_of_wide : {B : Type 0} (most : ℕ) (how : Descended B) (next : TraversalItem) (slot : ℕ) (key : B) → how ≡ did.Widened next slot key → SlotBelow most how → slot < most
slot_of_wide {B} most how next slot key is below = subst {A = Descended B} (λ x. SlotBelow most x) is below

pub not_widened : {B : Type 0} (how : Descended B) → ((next : TraversalItem) (slot : ℕ) (key : B) → how ≡ did.Widened next slot key → ⊥) → is_widened how ≡ false
not_widened (did.Widened next slot key) never = absurd (never next slot key refl)
not_widened (did.Down next) never = refl
not_widened did.Again never = refl
not_widened did.Leaf never = refl
not_widened did.FullLeaf never = refl
not_widened did.FullInner never = refl

-- what follows from both
pub by_widened : {B : Type 0} (Wide : ℕ → B → Type 0) (Narrow P : Type 0) → ((slot : ℕ) (key : B) → Wide slot key → P) → (Narrow → P) → (how : Descended B) → IfWidened Wide Narrow how → P
by_widened Wide Narrow P wide narrow (did.Widened next slot key) is = wide slot key is
by_widened Wide Narrow P wide narrow (did.Down next) is = narrow is
by_widened Wide Narrow P wide narrow did.Again is = narrow is
by_widened Wide Narrow P wide narrow did.Leaf is = narrow is
by_widened Wide Narrow P wide narrow did.FullLeaf is = narrow is
by_widened Wide Narrow P wide narrow did.FullInner is = narrow is

-- what holds if none was
pub if_narrow : {B : Type 0} (Wide : ℕ → B → Type 0) (Narrow : Type 0) (how : Descended B) → is_widened how ≡ false → Narrow → IfWidened Wide Narrow how
if_narrow Wide Narrow (did.Widened next slot key) narrow is = cc
if_narrow Wide Narrow (did.Down next) narrow is = is
if_narrow Wide Narrow did.Again narrow is = is
if_narrow Wide Narrow did.Leaf narrow is = is
if_narrow Wide Narrow did.FullLeaf narrow is = is
if_narrow Wide Narrow did.FullInner narrow is = is
