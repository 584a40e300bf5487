-- The room that a write's move makes if it goes on: which pages were taken, and what was swept.
use Rattle.std.proofs.Common.{◌≡◌, ◌∙◌, ap, sym, refl, subst, inl, inr, ⊎_elim, ◌⊎◌, ℕ, ◌-◌, ◌<◌, true, false, List, length, arith}
use Rattle.gx_machine.specs.declared.call.Call.{Call}
use Rattle.gx_machine.specs.Keys.{Keys}
use Rattle.gx_disk.specs.Device.{Device}
use Rattle.gx_node.specs.Reading.{Format}
use Rattle.gx_node.specs.Reach.{TraversalItem}
use Rattle.gx_node.specs.Store.{Stays, Store, tree_of}
use Rattle.gx_tree.specs.declared.descent.Descended.{Descended}
use Rattle.gx_tree.specs.declared.descent.Descended.TheVariants as did
use Rattle.gx_tree.specs.Descending.{StepsDown}
use Rattle.gx_tree.specs.Writing.{Swept}
use Rattle.gx_phases.specs.declared.phase.Phase.{Phase}
use Rattle.gx_phases.specs.declared.phase.Phase.TheVariants as phase
use Rattle.gx_phases.specs.States.{phase_at}
use Rattle.gx_store.specs.Standing.{standing_node, store_of}
use Rattle.gx_store.specs.State.{IsSteady, Shelf}
use Rattle.gx_store.proofs.Listed.{nodes_long}
use Rattle.gx_storage.specs.Bringing.{has_removable}
use Rattle.gx_engine.specs.declared.work.Work.{Work}
use Rattle.gx_engine.specs.declared.work.Work.TheVariants.{Descends, Seeks}
use Rattle.gx_engine.specs.Slots.{is_held, node_shown}
use Rattle.gx_engine.specs.States.{Parts}
use Rattle.gx_engine.specs.Writes.{HasNoneToSweep, IsAtLook, IsFull, IsOnlySwept, IsToSplit, IsToSweep, LeftFew, MakesRoom, is_looking}
use Rattle.gx_engine.proofs.DescentMoves.{inner_removable}

-- as many pages are taken as there are nodes
module _ {B D : Type 0} (f : Format B) (seen later : List ℕ) (old new : Shelf D) where
  as_long : length (store_of f later new).nodes ≡ length (store_of f seen old).nodes → new.used ≡ old.used
  as_long same = sym (nodes_long (standing_node f new.frames later) new.used) ∙ same ∙ nodes_long (standing_node f old.frames seen) old.used

  pub same_used : store_of f later new ≡ store_of f seen old → new.used ≡ old.used
  same_used same = as_long (ap (λ (x : Store B). length x.nodes) same)

  pub stays_used : (steady : Type 0) → Stays steady (store_of f seen old) (store_of f later new) → new.used ≡ old.used
  stays_used steady stays = as_long stays.used

  pub changed_used : (tree_of (store_of f later new)).used ≡ (tree_of (store_of f seen old)).used → new.used ≡ old.used
  changed_used same = as_long same

-- an item at which a call's descent is, is the one at which it is
same_item : {B : Type 0} (call : Call B) (now : Phase B (Work B)) (parent parent' : ℕ) (item item' : TraversalItem) → now ≡ phase.Open call (Descends parent item)
    → now ≡ phase.Open call (Descends parent' item') → item ≡ item'
same_item {B} call now parent parent' item item' at at' =
    let both : ◌≡◌ {A = Phase B (Work B)} (phase.Open call (Descends parent item)) (phase.Open call (Descends parent' item')) = sym at ∙ at' in cc

-- No page was taken, and the call was at no descent.
module _ {B D : Type 0} (k : Keys B) (f : Format B) (d : Device) (s : ℕ) (call : Call B) (old : Parts B D) (e : Device) (new : Parts B D)
    (same : IsSteady d old.volume.shelf.frames → new.volume.shelf.used ≡ old.volume.shelf.used) where
  none_made : ((parent : ℕ) (item : TraversalItem) → phase_at (s - 1) old.sessions.phases ≡ phase.Open call (Descends parent item) → ⊥) → MakesRoom k f d s call old e new
  none_made never = record { splits = λ steady taken. absurd (taken (same steady)); sweeps = λ parent item at to. absurd (never parent item at) }

  pub look_made : IsAtLook s call old → MakesRoom k f d s call old e new
  look_made look =
      none_made (λ parent item at.
      let both : ◌≡◌ {A = Phase B (Work B)} (phase.Open call look.work) (phase.Open call (Descends parent item)) = sym look.at ∙ at in
      let is : look.work ≡ Descends parent item = cc in
      let no : false ≡ true = subst (λ (w : Work B). is_looking w ≡ true) is look.looks in cc)

  pub seek_made : (leaf : ℕ) → phase_at (s - 1) old.sessions.phases ≡ phase.Open call (Seeks leaf) → MakesRoom k f d s call old e new
  seek_made leaf seeks =
      none_made (λ parent item at.
      let both : ◌≡◌ {A = Phase B (Work B)} (phase.Open call (Seeks leaf)) (phase.Open call (Descends parent item)) = sym seeks ∙ at in cc)

-- A descent's step that neither adds a pair nor finds its node full.
module _ {B D : Type 0} (k : Keys B) (f : Format B) (d : Device) (s : ℕ) (call : Call B) (old : Parts B D) (e : Device) (new : Parts B D) (parent : ℕ) (item : TraversalItem)
    (at : phase_at (s - 1) old.sessions.phases ≡ phase.Open call (Descends parent item)) where
  step_made : (IsSteady d old.volume.shelf.frames → new.volume.shelf.used ≡ old.volume.shelf.used) → (IsToSweep k f d old item → ⊥) → MakesRoom k f d s call old e new
  step_made same never = record {
    splits = λ steady taken. absurd (taken (same steady));
    sweeps = λ parent' item' at' to.
        absurd (never (subst (λ (x : TraversalItem). IsToSweep k f d old x) (sym (same_item call (phase_at (s - 1) old.sessions.phases) parent parent' item item' at at')) to));
  }

  -- an inner node has nothing to sweep
  inner_never : (IsSteady d old.volume.shelf.frames → 0 < (node_shown f d item.page old).level) → IsToSweep k f d old item → ⊥
  inner_never inner to =
      let none = inner_removable (is_held k old) (node_shown f d item.page old) (inner to.steady) in
      let no : true ≡ false = sym to.some ∙ none in cc

  module _ (cost : B → B → ℕ × ℕ) (joined : B → B → B) (coming : B) where
    abbrev Steps : Descended B → Type 0
    Steps this = IsSteady d old.volume.shelf.frames → StepsDown cost joined old.volume.most (store_of f d.seen old.volume.shelf) (store_of f e.seen new.volume.shelf) item coming this

    pub again_made : Steps did.Again → MakesRoom k f d s call old e new
    again_made steps =
        step_made (λ steady. same_used f d.seen e.seen old.volume.shelf new.volume.shelf (steps steady).1)
        (λ to. let behind = (steps to.steady).0 in let since = to.since in omega (arith, behind, since))

    pub down_made : (next : TraversalItem) → Steps (did.Down next) → MakesRoom k f d s call old e new
    down_made next steps =
        step_made (λ steady. same_used f d.seen e.seen old.volume.shelf new.volume.shelf (steps steady).2)
        (inner_never (λ steady. (steps steady).0.1.1.1.inner))

    pub widened_made : (next : TraversalItem) (slot : ℕ) (key : B) → Steps (did.Widened next slot key) → MakesRoom k f d s call old e new
    widened_made next slot key steps =
        step_made (λ steady. changed_used f d.seen e.seen old.volume.shelf new.volume.shelf ((steps steady).2 _ (steps steady).0.1.1.at).used)
        (inner_never (λ steady. (steps steady).0.1.1.inner))

  -- A full node was found, which was swept, or had nothing to sweep and was split.
  module _ (full : IsFull f d old item.page) (to_split : HasNoneToSweep k f d old item.page → IsToSplit k f d s call old) where
    split_made : HasNoneToSweep k f d old item.page → MakesRoom k f d s call old e new
    split_made none = record {
      splits = λ steady taken. to_split none;
      sweeps = λ parent' item' at' to.
          let same = same_item call (phase_at (s - 1) old.sessions.phases) parent parent' item item' at at' in
          let here = subst (λ (x : TraversalItem). IsToSweep k f d old x) (sym same) to in
          absurd (let no : true ≡ false = sym here.some ∙ none here.steady in cc);
    }

    swept_made : IsOnlySwept k f d e item.page old new → MakesRoom k f d s call old e new
    swept_made only = record {
      splits = λ steady taken. absurd (taken (changed_used f d.seen e.seen old.volume.shelf new.volume.shelf ((only.swept steady).some refl).0.changes.used));
      sweeps = λ parent' item' at' to.
          let same = same_item call (phase_at (s - 1) old.sessions.phases) parent parent' item item' at at' in
          subst (λ (x : TraversalItem). IsOnlySwept k f d e x.page old new) same only;
    }

    pub room_made : IsOnlySwept k f d e item.page old new ⊎ HasNoneToSweep k f d old item.page → MakesRoom k f d s call old e new
    room_made made = ⊎_elim swept_made split_made made

    pub inner_made : (IsSteady d old.volume.shelf.frames → 0 < (node_shown f d item.page old).level) → MakesRoom k f d s call old e new
    inner_made inner = split_made (λ steady. inner_removable (is_held k old) (node_shown f d item.page old) (inner steady))

-- What is said of the pages after some were brought is said of them before.
module _ {B D : Type 0} (k : Keys B) (f : Format B) (d m : Device) (old mid : Parts B D) (only : mid ≡ record old { volume = mid.volume })
    (steady : IsSteady d old.volume.shelf.frames → IsSteady m mid.volume.shelf.frames)
    (same : IsSteady d old.volume.shelf.frames → store_of f m.seen mid.volume.shelf ≡ store_of f d.seen old.volume.shelf) (page : ℕ) where
  pub none_before : HasNoneToSweep k f m mid page → HasNoneToSweep k f d old page
  none_before none was =
      sym (ap (λ (x : Parts B D). has_removable (is_held k x) (node_shown f m page mid)) only
      ∙ ap (λ (s : Store B). has_removable (is_held k old) ((tree_of s).node page)) (same was)) ∙ none (steady was)

  swept_before : (e : Device) (new : Parts B D) → IsOnlySwept k f m e page mid new → IsOnlySwept k f d e page old new
  swept_before e new swept = record {
    only = swept.only ∙ ap (λ (x : Parts B D). record x { volume = new.volume }) only;
    swept = λ was.
        subst (λ (x : Parts B D). Swept (is_held k x) (store_of f d.seen old.volume.shelf) (store_of f e.seen new.volume.shelf) page true) only
        (subst (λ (s : Store B). Swept (is_held k mid) s (store_of f e.seen new.volume.shelf) page true) (same was) (swept.swept (steady was)));
  }

  pub made_before : (e : Device) (new : Parts B D) → IsOnlySwept k f m e page mid new ⊎ HasNoneToSweep k f m mid page → IsOnlySwept k f d e page old new ⊎ HasNoneToSweep k f d old page
  made_before e new made = ⊎_elim (λ swept. inl (swept_before e new swept)) (λ none. inr (none_before none)) made

  pub lacks_before : (LeftFew m mid page → LeftFew d old page) → LeftFew m mid page × HasNoneToSweep k f m mid page → LeftFew d old page × HasNoneToSweep k f d old page
  lacks_before few lacks = (few lacks.0, none_before lacks.1)
