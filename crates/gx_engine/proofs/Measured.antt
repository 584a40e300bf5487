-- A session's call comes to its end: what it has left falls by each move that goes on, and what there is to flush by each event that helps.
use Rattle.std.proofs.Common.{◌≡◌, ◌⊎◌, inl, inr, ℕ, ◌+◌, ◌*◌, ◌<◌, ◌≤◌, Option, None, Some, List, [], ◌∷◌, length, refl, subst, arith}
use Rattle.gx_geom.specs.declared.refusal.Refusal.{Refusal}
use Rattle.gx_machine.specs.declared.reply.Reply.{Reply}
use Rattle.gx_events.specs.declared.event.Event.{Event}
use Rattle.gx_events.specs.declared.event.Event.TheVariants.{Move}
use Rattle.gx_events.specs.declared.outcome.Need.{Need}
use Rattle.gx_events.specs.declared.outcome.Need.TheVariants as need
use Rattle.gx_events.specs.declared.outcome.Outcome.{Outcome}
use Rattle.gx_events.specs.declared.outcome.Outcome.TheVariants.{Replied, More, Help, Nothing, Refused}
use Rattle.gx_events.specs.declared.driver.Next.{Next}
use Rattle.gx_events.specs.declared.driver.Next.TheVariants.{Run, Done}
use Rattle.gx_events.specs.Driven.{next_of}
use Rattle.gx_engine.specs.Driven.{AreDriven}
use Rattle.gx_engine.specs.Helping.{event_of}
use Rattle.gx_engine.specs.Made.{AreMade}

next_is : {B : Type 0} (s : ℕ) (n : Need) → next_of {B = B} s (Help n) ≡ Run (event_of n)
next_is s need.Log = refl
next_is s (need.Write page) = refl
next_is s need.Checkpoint = refl

-- a call that has ended goes on with no event
pub done_rests : {B : Type 0} (s : ℕ) (r : Reply B) (steps : List (Event B × Outcome B)) (due : Event B) → AreDriven s (Done r) steps (Run due) → ⊥
done_rests s r [] due driven = cc
done_rests s r (step ∷ steps) due driven = let no = driven.0 in cc

-- What is due: the session's move; or the event that helps what it waits for. One event more than twice what is left to do may come with the move.
abbrev due_of : {B : Type 0} → ℕ → Option Need → Next B
due_of s None = Run (Move s)
due_of s (Some n) = Run (event_of n)

abbrev slack : Option Need → ℕ
slack None = 1
slack (Some n) = 0

abbrev Waits : {S : Type 0} → (Need → S → Type 0) → Option Need → S → Type 0
Waits Works None e = Unit {0}
Waits Works (Some n) e = Works n e

module _ {B S : Type 0} (makes : S → Event B → Outcome B → S → Type 0) (s : ℕ) (At : ℕ → ℕ → S → Type 0) (Works : Need → S → Type 0)
    (goes_on : (w h : ℕ) (old new : S) → At w h old → makes old (Move s) More new → (v : ℕ) × (f : ℕ) × At v f new × (v < w) × (f < 8192))
    (waits : (w h : ℕ) (old new : S) (n : Need) → At w h old → makes old (Move s) (Help n) new → (f : ℕ) × At w f new × (f ≤ h) × Works n new)
    (never_idle : (w h : ℕ) (old new : S) → At w h old → makes old (Move s) Nothing new → ⊥)
    (helps : (w h : ℕ) (old new : S) (n : Need) (given : Outcome B) → At w h old → Works n old → makes old (event_of n) given new
    → ((given ≡ More) × ((f : ℕ) × At w f new × (f < h))) ⊎ ((why : Refusal) × (given ≡ Refused why))) where
  -- so many events may come at most
  abbrev most : ℕ → ℕ → Option Need → ℕ
  most w h mode = 2 * (8192 * w + h) + slack mode

  abbrev FewFrom : S → List (Event B × Outcome B) → Event B → Type 0
  FewFrom e steps due = (mode : Option Need) (w h : ℕ) → At w h e → Waits Works mode e → AreDriven s (due_of s mode) steps (Run due) → length steps ≤ most w h mode

  after_move : (given : Outcome B) (steps : List (Event B × Outcome B)) (w h : ℕ) (old middle : S) (due : Event B) → At w h old → makes old (Move s) given middle
      → AreDriven s (next_of s given) steps (Run due) → FewFrom middle steps due → length steps + 1 ≤ most w h None
  after_move (Replied r) steps w h old middle due at one driven few = absurd (done_rests s r steps due driven)
  after_move More steps w h old middle due at one driven few =
      let next = goes_on w h old middle at one in
      let rest = few None next.0 next.1 next.2 tt driven in
      let less = next.3 in
      let below = next.4 in
      omega (arith, rest, less, below)
  after_move (Help n) steps w h old middle due at one driven few =
      let next = waits w h old middle n at one in
      let rest = few (Some n) w next.0 next.1 next.3 (subst (λ (x : Next B). AreDriven s x steps (Run due)) (next_is s n) driven) in
      let less = next.2 in
      omega (arith, rest, less)
  after_move Nothing steps w h old middle due at one driven few = absurd (never_idle w h old middle at one)
  after_move (Refused why) steps w h old middle due at one driven few = absurd (done_rests s _ steps due driven)

  after_help : (n : Need) (given : Outcome B) (steps : List (Event B × Outcome B)) (w h : ℕ) (old middle : S) (due : Event B) → At w h old → Works n old → makes old (event_of n) given middle
      → AreDriven s (next_of s given) steps (Run due) → FewFrom middle steps due → length steps + 1 ≤ most w h (Some n)
  after_help n given steps w h old middle due at works one driven few = elim (helps w h old middle n given at works one) [
    | inl more ↦
        (let rest = few None w more.1.0 more.1.1 tt (subst (λ (x : Outcome B). AreDriven s (next_of s x) steps (Run due)) more.0 driven) in
        let less = more.1.2 in
        omega (arith, rest, less))
    | inr refused ↦ absurd (done_rests s _ steps due (subst (λ (x : Outcome B). AreDriven s (next_of s x) steps (Run due)) refused.1 driven))
  ]

  pub few_driven : (steps : List (Event B × Outcome B)) (old new : S) (due : Event B) → AreMade makes old steps new → FewFrom old steps due
  few_driven [] old new due made mode w h at waits driven = omega arith
  few_driven (step ∷ steps) old new due made None w h at waits driven =
      let event : step.0 ≡ Move s = (let same = driven.0 in cc) in
      let few = after_move step.1 steps w h old made.0 due at (subst (λ (x : Event B). makes old x step.1 made.0) event made.1) driven.1 (few_driven steps made.0 new due made.2) in
      omega (arith, few)
  few_driven (step ∷ steps) old new due made (Some n) w h at works driven =
      let event : step.0 ≡ event_of n = (let same = driven.0 in cc) in
      let few = after_help n step.1 steps w h old made.0 due at works (subst (λ (x : Event B). makes old x step.1 made.0) event made.1) driven.1 (few_driven steps made.0 new due made.2) in
      omega (arith, few)
