-- Slots by the numbers of their sessions, and the sessions that they are seen as.
use Rattle.std.proofs.Common.{◌≡◌, ◌≢◌, ℕ, zero, suc, ◌-◌, ◌<◌, Bool, true, false, ◌&&◌, ◌⊎◌, inl, inr, List, [], ◌∷◌, length, map, replicate, refl, ap, sym, ◌∙◌, arith, get_or-set_same, get_or-set_other, lt-ltb, le-leb}
use Rattle.std.specs.Prelude.{if◌then◌else◌, nat_lt, nat_le, slice_set}
use Rattle.std.specs.List.{slice_index_or}
use Rattle.std.proofs.lemmas.List.{get_or-replicate, set-get_or}
use Rattle.std.proofs.Math.Decide.{ℕ_discrete}
use Rattle.gx_machine.specs.declared.limits.TheConstants.{SESSIONS}
use Rattle.gx_machine.specs.Machine.{is_session, session_at}
use Rattle.gx_machine.specs.declared.entry.Entry.{Entry}
use Rattle.gx_machine.specs.Keys.{Keys}
use Rattle.gx_machine.specs.Sessions.{Session, Idle}
use Rattle.gx_machine.proofs.Places.{session_bounds}
use Rattle.gx_events.specs.Slots.{Slot, Free, slot_at, with_slot}
use Rattle.gx_events.specs.Engines.{session_of, sessions_of}

-- the numbers of places
pub is_numbered : (j : ℕ) → j < 8 → is_session (suc j) ≡ true
is_numbered j low =
    let first : nat_lt 0 (suc j) ≡ true = lt-ltb 0 (suc j) (omega arith) in
    let second : nat_le (suc j) 8 ≡ true = le-leb (suc j) 8 (omega arith) in
    λ i. first i && second i

module _ {B : Type 0} where
  -- a place read if the number is a session's
  abbrev place : Bool → ℕ → List (Slot B) → Slot B
  place there s slots = if there then slice_index_or slots (s - 1) Free else Free

  at_place : (s : ℕ) (slots : List (Slot B)) → is_session s ≡ true → slot_at s slots ≡ slice_index_or slots (s - 1) Free
  at_place s slots is = ap (λ t. place t s slots) is

  there_by : (s : ℕ) (slots : List (Slot B)) → ¬ (slot_at s slots ≡ Free) → (there : Bool) → is_session s ≡ there → is_session s ≡ true
  there_by s slots busy true is = is
  there_by s slots busy false is = absurd (busy (ap (λ t. place t s slots) is))

  -- a slot that isn't free is one of the eight
  pub is_there : (s : ℕ) (slots : List (Slot B)) → ¬ (slot_at s slots ≡ Free) → is_session s ≡ true
  is_there s slots busy = there_by s slots busy (is_session s) refl

  pub by_place : (j : ℕ) (slots : List (Slot B)) → j < 8 → slot_at (suc j) slots ≡ slice_index_or slots j Free
  by_place j slots low =
      let back : suc j - 1 ≡ j = omega arith in
      at_place (suc j) slots (is_numbered j low) ∙ ap (λ n. slice_index_or slots n Free) back

  pub slot_same : (s : ℕ) (slots : List (Slot B)) (x : Slot B) → is_session s ≡ true → length slots ≡ 8 → slot_at s (with_slot s x slots) ≡ x
  slot_same s slots x is eight =
      let bounds : (0 < s) × (s < 9) = session_bounds s is in
      at_place s (with_slot s x slots) is ∙ get_or-set_same slots (s - 1) x Free (omega arith)

  other_by : (a s : ℕ) (slots : List (Slot B)) (x : Slot B) (there : Bool) → is_session a ≡ there → is_session s ≡ true → a ≢ s
      → place there a (with_slot s x slots) ≡ place there a slots
  other_by a s slots x true is_a is_s ne =
      let a_bounds : (0 < a) × (a < 9) = session_bounds a is_a in
      let s_bounds : (0 < s) × (s < 9) = session_bounds s is_s in
      get_or-set_other slots (s - 1) (a - 1) x Free (omega arith)
  other_by a s slots x false is_a is_s ne = refl

  pub slot_other : (a s : ℕ) (slots : List (Slot B)) (x : Slot B) → is_session s ≡ true → a ≢ s → slot_at a (with_slot s x slots) ≡ slot_at a slots
  slot_other a s slots x is ne = other_by a s slots x (is_session a) refl is ne

  -- the slots once one of them is changed
  pub slot_set : (a s : ℕ) (slots : List (Slot B)) (x : Slot B) → is_session s ≡ true → length slots ≡ 8
      → ((a ≡ s) × (slot_at a (with_slot s x slots) ≡ x)) ⊎ ((a ≢ s) × (slot_at a (with_slot s x slots) ≡ slot_at a slots))
  slot_set a s slots x is eight =
      elim (ℕ_discrete a s) [
        | yes e ↦ inl (e, ap (λ n. slot_at n (with_slot s x slots)) e ∙ slot_same s slots x is eight)
        | no ne ↦ inr (ne, slot_other a s slots x is ne)
      ]

  pub set_itself : (s : ℕ) (slots : List (Slot B)) → is_session s ≡ true → with_slot s (slot_at s slots) slots ≡ slots
  set_itself s slots is = ap (λ (x : Slot B). slice_set slots (s - 1) x) (at_place s slots is) ∙ set-get_or slots (s - 1) Free

  free_by : (a : ℕ) (there : Bool) → is_session a ≡ there → place there a (replicate SESSIONS Free) ≡ Free
  free_by a true is = let bounds : (0 < a) × (a < 9) = session_bounds a is in get_or-replicate SESSIONS (a - 1) Free Free (omega arith)
  free_by a false is = refl

  -- if all are free, each is
  pub slot_free : (a : ℕ) → ◌≡◌ {A = Slot B} (slot_at a (replicate SESSIONS Free)) Free
  slot_free a = free_by a (is_session a) refl

  pub place_below : (s : ℕ) (slots : List (Slot B)) → is_session s ≡ true → length slots ≡ 8 → s - 1 < length slots
  place_below s slots is eight = let bounds : (0 < s) × (s < 9) = session_bounds s is in omega arith

  -- Slots and sessions.

  maps_agree : (f g : Slot B → Session B) (slots : List (Slot B))
      → ((j : ℕ) → j < length slots → f (slice_index_or slots j Free) ≡ g (slice_index_or slots j Free)) → map f slots ≡ map g slots
  maps_agree f g [] agree = refl
  maps_agree f g (x ∷ xs) agree =
      let first : f x ≡ g x = agree 0 (omega arith) in
      let rest : map f xs ≡ map g xs = maps_agree f g xs (λ j low. agree (suc j) (omega arith)) in
      λ i. first i ∷ rest i

  set_agrees : (f g : Slot B → Session B) (slots : List (Slot B)) (n : ℕ) (x : Slot B) (y : Session B) → f x ≡ y
      → ((j : ℕ) → j < length slots → j ≢ n → f (slice_index_or slots j Free) ≡ g (slice_index_or slots j Free))
      → map f (slice_set slots n x) ≡ slice_set (map g slots) n y
  set_agrees f g [] n x y same others = refl
  set_agrees f g (z ∷ zs) zero x y same others =
      let rest : map f zs ≡ map g zs = maps_agree f g zs (λ j low. others (suc j) (omega arith) (omega arith)) in
      λ i. same i ∷ rest i
  set_agrees f g (z ∷ zs) (suc n) x y same others =
      let first : f z ≡ g z = others 0 (omega arith) (omega arith) in
      let rest : map f (slice_set zs n x) ≡ slice_set (map g zs) n y = set_agrees f g zs n x y same (λ j low ne. others (suc j) (omega arith) (omega arith)) in
      λ i. first i ∷ rest i

  module _ (k : Keys B) where
    image_at : (live : Entry B → Bool) (slots : List (Slot B)) (j : ℕ)
        → slice_index_or (sessions_of k live slots) j Idle ≡ session_of k live (slice_index_or slots j Free)
    image_at live [] j = refl
    image_at live (x ∷ xs) zero = refl
    image_at live (x ∷ xs) (suc j) = image_at live xs j

    image_by : (live : Entry B → Bool) (s : ℕ) (slots : List (Slot B)) (there : Bool)
        → (if there then slice_index_or (sessions_of k live slots) (s - 1) Idle else Idle) ≡ session_of k live (place there s slots)
    image_by live s slots true = image_at live slots (s - 1)
    image_by live s slots false = refl

    -- a slot's session by its number
    pub session_of_slot : (live : Entry B → Bool) (s : ℕ) (slots : List (Slot B))
        → session_at s (sessions_of k live slots) ≡ session_of k live (slot_at s slots)
    session_of_slot live s slots = image_by live s slots (is_session s)

    -- the sessions once one slot is changed, if the others are seen as before
    pub sessions_with : (old new : Entry B → Bool) (s : ℕ) (slots : List (Slot B)) (x : Slot B) (y : Session B) → length slots ≡ 8 → is_session s ≡ true
        → session_of k new x ≡ y
        → ((a : ℕ) → a ≢ s → session_of k new (slot_at a slots) ≡ session_of k old (slot_at a slots))
        → sessions_of k new (with_slot s x slots) ≡ slice_set (sessions_of k old slots) (s - 1) y
    sessions_with old new s slots x y eight is same others =
        let bounds : (0 < s) × (s < 9) = session_bounds s is in
        set_agrees (session_of k new) (session_of k old) slots (s - 1) x y same
        (λ j low ne.
        let below : j < 8 = omega arith in
        ap (session_of k new) (sym (by_place j slots below)) ∙ others (suc j) (omega arith) ∙ ap (session_of k old) (by_place j slots below))

    -- the same if no slot is
    pub sessions_alike : (old new : Entry B → Bool) (slots : List (Slot B)) → length slots ≡ 8
        → ((a : ℕ) → session_of k new (slot_at a slots) ≡ session_of k old (slot_at a slots)) → sessions_of k new slots ≡ sessions_of k old slots
    sessions_alike old new slots eight same =
        maps_agree (session_of k new) (session_of k old) slots
        (λ j low.
        let below : j < 8 = omega arith in
        ap (session_of k new) (sym (by_place j slots below)) ∙ same (suc j) ∙ ap (session_of k old) (by_place j slots below))
