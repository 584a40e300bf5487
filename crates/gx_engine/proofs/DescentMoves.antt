-- A descent's move by what its step did: what its page wants comes after pages were read.
use Rattle.std.proofs.Common.{◌≡◌, ◌∙◌, ap, sym, refl, subst, ℕ, ◌-◌, ◌<◌, ◌≤◌, Bool, true, false, ◌&&◌, Ok, List, length, map, arith}
use Rattle.std.specs.Prelude.{nat_lt, ◌==◌}
use Rattle.std.proofs.lemmas.Bool.{ne_eqb}
use Rattle.gx_machine.specs.declared.call.Call.TheVariants.{Insert}
use Rattle.gx_machine.specs.declared.entry.Entry.{Entry}
use Rattle.gx_machine.specs.Keys.{Keys}
use Rattle.gx_machine.specs.Machine.{is_session}
use Rattle.gx_disk.specs.Device.{Device}
use Rattle.gx_page.specs.Contents.{Contents}
use Rattle.gx_node.specs.Edits.{entry_of}
use Rattle.gx_node.specs.Reading.{Format}
use Rattle.gx_node.specs.Lists.{how_many}
use Rattle.gx_node.specs.Reach.{TraversalItem}
use Rattle.gx_node.specs.Trees.{Node, Used, size}
use Rattle.gx_node.specs.Writes.{is_sweepable}
use Rattle.gx_tree.specs.declared.descent.Descended.{Descended}
use Rattle.gx_node.specs.Store.{Store, tree_of}
use Rattle.gx_recovery.specs.Known.{Known, Limits}
use Rattle.gx_events.specs.Happenings.{Happening}
use Rattle.gx_index_laws.specs.Classes.{Class, IsLawful, Page}
use Rattle.gx_durable.specs.Spelled.{Reading}
use Rattle.gx_durable.specs.Classes.{reading_of}
use Rattle.gx_events.specs.declared.outcome.Outcome.{Outcome}
use Rattle.gx_phases.specs.declared.phase.Phase.TheVariants as phase
use Rattle.gx_phases.specs.States.{IsKept, held_at, note_of, phase_at}
use Rattle.gx_store.specs.Standing.{store_of}
use Rattle.gx_store.specs.State.{IsSteady}
use Rattle.gx_storage.specs.Bringing.{has_removable}
use Rattle.gx_storage.specs.State.{Volume}
use Rattle.gx_storage.proofs.Descending.{shown_descent}
use Rattle.gx_storage.proofs.Stepping.{shown_legal}
use Rattle.gx_engine.specs.declared.work.Work.TheVariants.{Descends}
use Rattle.gx_engine.specs.Descents.{HasNone, HasStepped, HasSwept, LeafSweeping}
use Rattle.gx_engine.specs.Moves.{Moves}
use Rattle.gx_engine.specs.States.{Parts}
use Rattle.gx_engine.specs.Sweeping.{is_held, node_shown}
use Rattle.gx_engine.proofs.LookMoves.{its_work, slot_now}

-- what a step did, and whether a leaf was swept
module _ {B D : Type 0} (known : Limits → Known (Entry B) (Page B)) (r : Reading (Entry B) (Page B)) (f : Format B) (passes : ℕ → Contents → Bool) (d e : Device) (v w : Volume D) where
  pub stepped_as : (cost : B → B → ℕ × ℕ) (joined : B → B → B) (spelling : B → List ℕ) (key : ℕ) (item : TraversalItem) (coming : B) (did given : Descended B) → did ≡ given
      → HasStepped known r f passes cost joined spelling key d e v w item coming did → HasStepped known r f passes cost joined spelling key d e v w item coming given
  stepped_as cost joined spelling key item coming did given is has = subst (λ (x : Descended B). HasStepped known r f passes cost joined spelling key d e v w item coming x) is has

  pub swept_true : (claimed : Entry B → Bool) (page : ℕ) (any : Bool) → any ≡ true → LeafSweeping known r f passes claimed d e v w page (Ok any) → HasSwept known r f passes claimed d e v w page
  swept_true claimed page any is has = subst (λ (b : Bool). LeafSweeping known r f passes claimed d e v w page (Ok b)) is has

  pub swept_false : (claimed : Entry B → Bool) (page : ℕ) (any : Bool) → any ≡ false → LeafSweeping known r f passes claimed d e v w page (Ok any) → HasNone known r f passes claimed d e v w page
  swept_false claimed page any is has = subst (λ (b : Bool). LeafSweeping known r f passes claimed d e v w page (Ok b)) is has

none_by : (b : Bool) → (b && false) ≡ false
none_by true = refl
none_by false = refl

-- a node of which a sweep takes nothing
module _ {B : Type 0} (claimed : Entry B → Bool) (node : Node B) where
  pub none_removable : how_many (is_sweepable (λ x. claimed (entry_of x))) node.pairs ≡ 0 → has_removable claimed node ≡ false
  none_removable none = ap (λ (n : ℕ). (node.level == 0) && nat_lt 0 n) none ∙ none_by (node.level == 0)

  pub inner_removable : 0 < node.level → has_removable claimed node ≡ false
  inner_removable inner =
      ap (λ (b : Bool). b && nat_lt 0 (how_many (is_sweepable (λ x. claimed (entry_of x))) node.pairs)) (ne_eqb node.level 0 (λ same. omega (arith, same, inner)))

-- The pages show what they showed.
module _ {B D : Type 0} (k : Keys B) (f : Format B) (d m : Device) (old mid : Parts B D) (only : mid ≡ record old { volume = mid.volume }) (most : mid.volume.most ≡ old.volume.most)
    (same : store_of f m.seen mid.volume.shelf ≡ store_of f d.seen old.volume.shelf) (page : ℕ) where
  -- so what is said of a node and of how many it may have is said again
  pub said_again : (P : ℕ → Store B → Type 0) → P old.volume.most (store_of f d.seen old.volume.shelf) → P mid.volume.most (store_of f m.seen mid.volume.shelf)
  said_again P said =
      subst (λ (n : ℕ). P n (store_of f m.seen mid.volume.shelf)) (sym most) (subst (λ (s : Store B). P old.volume.most s) (sym same) said)

  -- and of what a sweep would take
  pub removable_again : has_removable (is_held k old) (node_shown f d page old) ≡ false → has_removable (is_held k mid) (node_shown f m page mid) ≡ false
  removable_again none =
      ap (λ (x : Parts B D). has_removable (is_held k x) (node_shown f m page mid)) only
      ∙ ap (λ (s : Store B). has_removable (is_held k old) ((tree_of s).node page)) same ∙ none

-- a full node of which one kind of entries is as many as may be
pub full_leaf : {B : Type 0} (node : Node B) (most : ℕ) → most ≤ length node.pairs → most ≤ size node
full_leaf node most full = omega (arith, full)

pub full_inner : {B : Type 0} (node : Node B) (most : ℕ) → most ≤ length node.children → most ≤ size node
full_inner node most full = omega (arith, full)

-- the page of a descent is refused as none that is taken, or as one without entries: that is impossible
pub never_stepped : {B D : Type 0} (c : Class B) (lawful : 4 ≤ c.rules.most → IsLawful c) (said : List ℕ → B) (f : Format B) (passes : ℕ → Contents → Bool) (d e : Device)
    (old : Parts B D) (kept : IsKept c.keys old.sessions) (s : ℕ) (is : is_session s ≡ true) (entry : Entry B) (parent : ℕ) (item : TraversalItem)
    (at : phase_at (s - 1) old.sessions.phases ≡ phase.Open (Insert entry) (Descends parent item))
    → (IsSteady d old.volume.shelf.frames → Used (tree_of (store_of f d.seen old.volume.shelf)) item.page
    → (0 < ((tree_of (store_of f d.seen old.volume.shelf)).node item.page).level) × (length ((tree_of (store_of f d.seen old.volume.shelf)).node item.page).children ≡ 0))
    → (new : Parts B D) (o : Outcome B) (events : List (Happening B)) → Moves c (reading_of said f) f passes d e s old new o events
never_stepped c lawful said f passes d e old kept s is entry parent item at damaged new o events bodies i h =
    let l = lawful h.some in
    let r = reading_of said f in
    let held = held_at (s - 1) old.sessions.table in
    let slot = slot_now c l r f passes d old kept s is (Insert entry) (Descends parent item) at bodies i h in
    let work = its_work c l r f passes d old kept s is (Insert entry) (Descends parent item) at bodies i h in
    let there = (shown_descent c l said f passes d d old.volume old.volume bodies i h.whole s entry parent item work held.locks (map note_of held.notes) (Insert entry) slot h.keeps).there in
    let none = damaged h.keeps.steady there in
    let some = (((shown_legal c l said f passes d d old.volume old.volume bodies i h.whole h.keeps).pages item.page there).inner none.0).1 in
    let empty = none.1 in
    absurd (omega (arith, some, empty))
