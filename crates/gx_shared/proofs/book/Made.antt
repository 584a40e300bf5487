-- What a hold returns and records, for any engine.
use Rattle.std.proofs.Common.{arith, ◌≡◌, ℕ, ◌⊎◌, inl, inr, List, [], ◌∷◌, ◌++◌, refl, sym, subst}
use Rattle.gx_machine.specs.declared.call.Call.{Call}
use Rattle.gx_machine.specs.declared.item.Item.{Item}
use Rattle.gx_machine.specs.declared.item.Item.TheVariants.{Asked, Sealed}
use Rattle.gx_events.specs.declared.event.Event.{Event}
use Rattle.gx_events.specs.declared.event.Event.TheVariants.{Ask, Move, LogStep, WritePage, CheckpointStep, Sweep}
use Rattle.gx_events.specs.declared.outcome.Outcome.{Outcome}
use Rattle.gx_events.specs.declared.outcome.Outcome.TheVariants.{Replied, More, Help, Nothing, Refused}
use Rattle.gx_events.specs.Work.{replied}
use Rattle.gx_shared.specs.Books.{IsHandedOn, IsOf, IsRecorded}

module _ {B : Type 0} where
  -- what holds of a session's ask holds of an event of the session that is one
  pub as_asked : (P : Event B → Type 0) (s : ℕ) (event : Event B) (t : ℕ) (call : Call B) → IsOf s event → event ≡ Ask t call → P (Ask s call) → P event
  as_asked P s event t call own is p =
      let same : t ≡ s = subst (λ (x : Event B). IsOf s x) is own in
      subst P (sym is) (subst (λ (u : ℕ). P (Ask u call)) (sym same) p)

  -- and what holds of its move, of any other event of the session
  pub as_moved : (P : Event B → Type 0) (s : ℕ) (event : Event B) → IsOf s event → ((t : ℕ) (call : Call B) → event ≡ Ask t call → ⊥) → P (Move s) → P event
  as_moved P s (Ask t call) own other p = absurd (other t call refl)
  as_moved P s (Move t) own other p = subst (λ (u : ℕ). P (Move u)) (sym own) p
  as_moved P s LogStep own other p = absurd own
  as_moved P s (WritePage page) own other p = absurd own
  as_moved P s CheckpointStep own other p = absurd own
  as_moved P s (Sweep page) own other p = absurd own

  -- an outcome without a reply is returned unchanged
  pub told_alone : (o : Outcome B) → replied o ≡ 0 → IsHandedOn o o
  told_alone (Replied r) none = let no : ⊥ = omega (arith, none) in absurd no
  told_alone More none = refl
  told_alone (Help need) none = refl
  told_alone Nothing none = refl
  told_alone (Refused why) none = refl

  -- with it a call that is asked is recorded alone
  pub asked_alone : (calls ys : List (Item B)) (s : ℕ) (call : Call B) (o : Outcome B) → replied o ≡ 0 → ys ≡ calls ++ Asked s call ∷ [] → IsRecorded (Ask s call) o calls ys
  asked_alone calls ys s call (Replied r) none is = let no : ⊥ = omega (arith, none) in absurd no
  asked_alone calls ys s call More none is = is
  asked_alone calls ys s call (Help need) none is = is
  asked_alone calls ys s call Nothing none is = is
  asked_alone calls ys s call (Refused why) none is = is

  sealed_or_none : (calls ys : List (Item B)) (s number : ℕ) → (ys ≡ calls) ⊎ (ys ≡ calls ++ Sealed s number ∷ []) → (ys ≡ calls) ⊎ ((n : ℕ) × (ys ≡ calls ++ Sealed s n ∷ []))
  sealed_or_none calls ys s number (inl same) = inl same
  sealed_or_none calls ys s number (inr is) = inr (number, is)

  -- and a call that goes on adds the number of its commit, or nothing
  pub moved_alone : (calls ys : List (Item B)) (s number : ℕ) (o : Outcome B) → replied o ≡ 0 → (ys ≡ calls) ⊎ (ys ≡ calls ++ Sealed s number ∷ []) → IsRecorded (Move s) o calls ys
  moved_alone calls ys s number (Replied r) none is = let no : ⊥ = omega (arith, none) in absurd no
  moved_alone calls ys s number More none is = sealed_or_none calls ys s number is
  moved_alone calls ys s number (Help need) none is = sealed_or_none calls ys s number is
  moved_alone calls ys s number Nothing none is = sealed_or_none calls ys s number is
  moved_alone calls ys s number (Refused why) none is = sealed_or_none calls ys s number is
