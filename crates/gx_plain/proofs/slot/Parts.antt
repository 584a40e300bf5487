-- What the parts of a session say of its value: short answers for what a call leaves.
use Rattle.std.proofs.Common.{◌≡◌, ℕ, inl, true, false, List, [], length, refl, sym, subst, ap, ◌∙◌}
use Rattle.std.specs.Prelude.{Option, None}
use Rattle.gx_geom.specs.declared.refusal.Refusal.TheVariants.{Present}
use Rattle.gx_machine.specs.declared.call.Call.{Call}
use Rattle.gx_machine.specs.declared.call.Call.TheVariants.{Begin}
use Rattle.gx_machine.specs.declared.entry.Entry.{Entry}
use Rattle.gx_machine.specs.declared.query.Query.{Query}
use Rattle.gx_machine.specs.declared.reply.Reply.{Reply}
use Rattle.gx_machine.specs.declared.reply.Reply.TheVariants as replies
use Rattle.gx_machine.specs.Keys.{Keys}
use Rattle.gx_machine.specs.Sets.{has, including, excluding}
use Rattle.gx_machine.specs.Sessions.{Locks, Changes, Session, Idle, Open, Aborting, Committing, locks_of, view, answer_insert, answer_delete, ask_idle}
use Rattle.gx_plain.specs.declared.slot.SlotPhase.{SlotPhase}
use Rattle.gx_plain.specs.declared.slot.SlotPhase.TheVariants as phase
use Rattle.gx_plain.specs.Slots.{session_of, changes_of, added_by, IsOpen, IsFree, IsDeleting, Closes, SlotAnswers}

free_is_open : {B : Type 0} (s : Session B) → IsFree s → IsOpen s
free_is_open Idle free = absurd free
free_is_open (Open locks changes call) free = tt
free_is_open (Aborting locks) free = absurd free
free_is_open (Committing number) free = absurd free

deleting_is_open : {B : Type 0} (e : Entry B) (s : Session B) → IsDeleting e s → IsOpen s
deleting_is_open e Idle deleting = absurd deleting
deleting_is_open e (Open locks changes call) deleting = tt
deleting_is_open e (Aborting locks) deleting = absurd deleting
deleting_is_open e (Committing number) deleting = absurd deleting

-- what holds of the parts of a session with a transaction holds of what it has
parts_here : {B : Type 0} (P : Locks B → Changes B → Type 0) (p : SlotPhase B) (locks : Locks B) (changes : Changes B) → P locks changes
    → IsOpen (session_of p locks changes) → P (locks_of (session_of p locks changes)) (changes_of (session_of p locks changes))
parts_here P phase.Idle locks changes h going = absurd going
parts_here P (phase.Open call) locks changes h going = h
parts_here P phase.Aborting locks changes h going = absurd going
parts_here P (phase.Committing number) locks changes h going = absurd going

module _ {B : Type 0} (p : SlotPhase B) (locks : Locks B) (changes : Changes B) (s : Session B) (is : session_of p locks changes ≡ s) where
  open_parts : (P : Locks B → Changes B → Type 0) → P locks changes → IsOpen s → P (locks_of s) (changes_of s)
  open_parts P h = subst (λ (x : Session B). IsOpen x → P (locks_of x) (changes_of x)) is (parts_here P p locks changes h)

  -- its abort is asked
  pub abort_asked : IsFree s → Aborting locks ≡ Aborting (locks_of s)
  abort_asked free = open_parts (λ (h : Locks B) (c : Changes B). Aborting locks ≡ Aborting h) refl (free_is_open s free)

  -- it has added as much with its call open as without
  pub adds_the_same : (pending : Option (Call B)) → p ≡ phase.Open pending → length changes.added ≡ added_by s
  adds_the_same pending at_open = sym (ap (λ (q : SlotPhase B). added_by (session_of q locks changes)) at_open) ∙ ap added_by is

  -- its commit is answered, sealed under a number
  pub commit_answered : (k : Keys B) (number : ℕ) (latest : List (Entry B)) (commits : ℕ) (reply : Reply B) (new : Session B) → p ≡ phase.Committing number
      → reply ≡ replies.Committed number → new ≡ Idle → SlotAnswers k s latest commits reply new latest commits
  commit_answered k number latest commits reply new committing said idle =
      subst (λ (x : Session B). SlotAnswers k x latest commits reply new latest commits)
      (sym (ap (λ (q : SlotPhase B). session_of q locks changes) committing) ∙ is) (said, idle, (refl, refl))

  module _ (k : Keys B) (e : Entry B) (latest : List (Entry B)) where
    -- an insert of an entry that is seen
    pub insert_seen : IsOpen s → has k e (view k latest changes) ≡ true
        → Closes (answer_insert k e latest (changes_of s)) s (replies.Refused Present) (Open locks changes None)
    insert_seen going there =
        let given : answer_insert k e latest changes ≡ (replies.Refused Present, changes) = rw there refl in
        inl (open_parts (λ (h : Locks B) (c : Changes B). (replies.Refused Present ≡ (answer_insert k e latest c).0) × (Open locks changes None ≡ Open h (answer_insert k e latest c).1 None))
        (sym (ap (λ (g : Reply B × Changes B). g.0) given), sym (ap (λ (g : Reply B × Changes B). Open locks g.1 None) given)) going)

    module _ (added taken : List (Entry B)) where
      -- an insert of one that isn't
      pub insert_unseen : IsOpen s → has k e (view k latest changes) ≡ false → added ≡ including k e changes.added → taken ≡ excluding k e changes.taken
          → Closes (answer_insert k e latest (changes_of s)) s replies.Inserted (Open locks (record { added = added; taken = taken }) None)
      insert_unseen going lacks more less =
          let after : Changes B = record { added = including k e changes.added; taken = excluding k e changes.taken } in
          let given : answer_insert k e latest changes ≡ (replies.Inserted, after) = rw lacks refl in
          let now : Changes B = record { added = added; taken = taken } in
          let same : now ≡ after = rw (more, less) refl in
          inl (open_parts (λ (h : Locks B) (c : Changes B). (replies.Inserted ≡ (answer_insert k e latest c).0)
          × (Open locks (record { added = added; taken = taken }) None ≡ Open h (answer_insert k e latest c).1 None))
          (sym (ap (λ (g : Reply B × Changes B). g.0) given), ap (λ (d : Changes B). Open locks d None) same ∙ sym (ap (λ (g : Reply B × Changes B). Open locks g.1 None) given)) going)

      -- a delete of an entry that is seen
      pub delete_seen : IsDeleting e s → has k e (view k latest changes) ≡ true → added ≡ excluding k e changes.added → taken ≡ including k e changes.taken
          → Open locks (record { added = added; taken = taken }) None ≡ Open (locks_of s) (answer_delete k e latest (changes_of s)).1 None
      delete_seen deleting there less more =
          let after : Changes B = record { added = excluding k e changes.added; taken = including k e changes.taken } in
          let given : answer_delete k e latest changes ≡ (replies.Deleted, after) = rw there refl in
          let now : Changes B = record { added = added; taken = taken } in
          let same : now ≡ after = rw (less, more) refl in
          open_parts (λ (h : Locks B) (c : Changes B). Open locks (record { added = added; taken = taken }) None ≡ Open h (answer_delete k e latest c).1 None)
          (ap (λ (d : Changes B). Open locks d None) same ∙ sym (ap (λ (g : Reply B × Changes B). Open locks g.1 None) given)) (deleting_is_open e s deleting)

-- a transaction begins with nothing
pub begun : {B : Type 0} (call : Call B) (claims : List (Entry B)) (predicates : List (Query B)) (added taken : List (Entry B)) → call ≡ Begin
    → claims ≡ [] → predicates ≡ [] → added ≡ [] → taken ≡ []
    → Open (record { claims = claims; predicates = predicates }) (record { added = added; taken = taken }) None ≡ (ask_idle call).1
begun call claims predicates added taken begins a b c d = rw (begins, a, b, c, d) refl
