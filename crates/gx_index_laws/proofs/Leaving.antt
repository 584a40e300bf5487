-- What a step leaves of what others are at.
use Rattle.std.proofs.Common.{◌≡◌, ◌≢◌, ℕ, Bool, true, false, not, List, [], refl, ap, sym, ◌∙◌, subst}
use Rattle.gx_machine.specs.declared.entry.Entry.{Entry}
use Rattle.gx_machine.specs.Sets.{has}
use Rattle.gx_node.specs.Trees.{Pair, Tree, Rules, is_entry}
use Rattle.gx_node.specs.Legal.{Legal}
use Rattle.gx_node.specs.Steps.{Step, Splits, SplitsRoot, Widens, Adds, Marks, Sweeps, IsStep, LeavesAlone}
use Rattle.gx_node.proofs.LookSteps.{look_step}
use Rattle.gx_node.proofs.DescentSteps.{descent_step}
use Rattle.gx_node.proofs.SeekSteps.{seek_step}
use Rattle.gx_events.specs.Slots.{Slot, locks_held, slot_at}
use Rattle.gx_events.specs.Engines.{Engine, IsSound}
use Rattle.gx_events.specs.Wants.{slot_wants, is_claimed}
use Rattle.gx_events.proofs.Apart.{claimed_is_unwanted, wanted_is_spared}
use Rattle.gx_index_laws.specs.Classes.{Class, IsLawful, entry_of, pair_of, is_of}
use Rattle.gx_index_laws.specs.Steps.{IsPageStep, SparesClaims, IsWriteOf}
use Rattle.gx_index_laws.specs.States.{Work, Rests, Looks, Descends, Seeks}
use Rattle.gx_index_laws.specs.Working.{wants_pair, DoesWork}
use Rattle.gx_index_laws.proofs.Above.{came_kept}
use Rattle.gx_index_laws.proofs.Living.{pair_is}

-- a step that leaves a test's pairs alone leaves those of a narrower one
narrower_pair : (p q : Bool) → (q ≡ true → p ≡ true) → p ≡ false → q ≡ false
narrower_pair p true h none = sym (h refl) ∙ none
narrower_pair p false h none = refl

pub leaves_narrower : {B : Type 0} (r : Rules B) (p q : Pair B → Bool) (step : Step B) → ((x : Pair B) → q x ≡ true → p x ≡ true)
    → LeavesAlone r p step → LeavesAlone r q step
leaves_narrower r p q (Splits n parent sides left right) h alone = tt
leaves_narrower r p q (SplitsRoot sides left right) h alone = tt
leaves_narrower r p q (Widens a x coming key) h alone = tt
leaves_narrower r p q (Adds a x) h alone = narrower_pair (p x) (q x) (h x) alone
leaves_narrower {B} r p q (Marks a row key mark) h alone = λ x is.
    let now : Pair B = record { row = x.row; key = x.key; marked = mark } in
    (narrower_pair (p x) (q x) (h x) (alone x is).0, narrower_pair (p now) (q now) (h now) (alone x is).1)
leaves_narrower r p q (Sweeps a claimed) h alone = λ x is marked. alone x (h x is) marked

module _ {B : Type 0} (c : Class B) (l : IsLawful c) where
  -- a write of an entry leaves a test alone that no pair of the entry passes
  pub write_spares : (e : Entry B) (test : Pair B → Bool) (step : Step B) → IsWriteOf e step → ((x : Pair B) → entry_of x ≡ e → test x ≡ false)
      → LeavesAlone c.rules test step
  write_spares e test (Splits n p sides left right) is none = absurd is
  write_spares e test (SplitsRoot sides left right) is none = absurd is
  write_spares e test (Widens a x coming key) is none = absurd is
  write_spares e test (Adds a x) is none = none x is
  write_spares e test (Marks a row key mark) is none = λ x of.
      let there : is_of c e x ≡ true = subst (λ k. is_entry c.rules e.row k x ≡ true) is.1 (subst (λ n. is_entry c.rules n key x ≡ true) is.0 of) in
      let at : entry_of x ≡ e = pair_is c l e x there in
      (none x at, none (record { row = x.row; key = x.key; marked = mark }) at)
  write_spares e test (Sweeps a claimed) is none = absurd is

  -- a page step leaves a test alone whose pairs, if they are marked, are claimed
  pub page_spares : (slots : List (Slot B)) (test : Pair B → Bool) (step : Step B) → IsPageStep step → SparesClaims c slots step
      → ((x : Pair B) → test x ≡ true → x.marked ≡ true → is_claimed c.keys (entry_of x) slots ≡ true) → LeavesAlone c.rules test step
  page_spares slots test (Splits n p sides left right) is spares claims = tt
  page_spares slots test (SplitsRoot sides left right) is spares claims = tt
  page_spares slots test (Widens a x coming key) is spares claims = tt
  page_spares slots test (Adds a x) is spares claims = absurd is
  page_spares slots test (Marks a row key mark) is spares claims = absurd is
  page_spares slots test (Sweeps a claimed) is spares claims = λ x passes marked. spares x (claims x passes marked)

  module _ (engine : Engine B) (i : IsSound c.keys engine) where
    -- what other sessions want
    pub write_leaves : (s : ℕ) (e : Entry B) (step : Step B) → IsWriteOf e step → has c.keys e (locks_held (slot_at s engine.slots)).claims ≡ true
        → (b : ℕ) → b ≢ s → LeavesAlone c.rules (wants_pair c (slot_at b engine.slots)) step
    write_leaves s e step is claimed b ne =
        write_spares e (wants_pair c (slot_at b engine.slots)) step is
        (λ x at. claimed_is_unwanted c.keys l.keys engine i s b (pair_of x) (λ p. ne (sym p))
        (subst (λ y. has c.keys y (locks_held (slot_at s engine.slots)).claims ≡ true) (sym at) claimed))

    pub page_leaves : (step : Step B) → IsPageStep step → SparesClaims c engine.slots step → (b : ℕ) → LeavesAlone c.rules (wants_pair c (slot_at b engine.slots)) step
    page_leaves step is spares b =
        page_spares engine.slots (wants_pair c (slot_at b engine.slots)) step is spares
        (λ x wanted marked. wanted_is_spared c.keys l.keys engine i b (pair_of x) (ap not marked) wanted)

  -- a step that leaves alone what a slot wants keeps the slot's work
  pub work_kept : (old new : Tree B) (step : Step B) (slot : Slot B) (work : Work B) → Legal c.rules old → IsStep c.rules old step new
      → LeavesAlone c.rules (wants_pair c slot) step → DoesWork c old slot work → DoesWork c new slot work
  work_kept old new step slot Rests legal is alone work = tt
  work_kept old new step slot (Looks stack found) legal is alone work = look_step c.rules l.rules (wants_pair c slot) stack found old new step legal is alone work
  work_kept old new step slot (Descends e parent item) legal is alone work = record {
    call = work.call;
    looked = look_step c.rules l.rules (wants_pair c slot) [] [] old new step legal is alone work.looked;
    descent = descent_step c.rules e.key l.rules item old new step legal is work.descent;
    apart = work.apart;
    came = came_kept c.rules l.rules old new legal step is parent item.page work.came;
  }
  work_kept old new step slot (Seeks e leaf) legal is alone work = record {
    wanted = work.wanted;
    seek = seek_step c.rules leaf e.row e.key l.rules old new step legal is
        (leaves_narrower c.rules (wants_pair c slot) (is_of c e) step
        (λ x of. subst (λ y. slot_wants c.keys slot (record { entry = y; live = not x.marked }) ≡ true) (sym (pair_is c l e x of)) (work.wanted (not x.marked))) alone)
        work.seek;
  }
