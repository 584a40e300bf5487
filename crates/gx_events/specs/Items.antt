-- What an event adds to a record.
use Rattle.std.specs.Prelude.{ℕ, ◌+◌, nat_lt, if◌then◌else◌, List, [], ◌∷◌}
use Rattle.gx_machine.specs.declared.item.Item.{Item}
use Rattle.gx_machine.specs.declared.item.Item.TheVariants as item
use Rattle.gx_events.specs.declared.event.Event.{Event}
use Rattle.gx_events.specs.declared.event.Event.TheVariants.{Ask, Move, LogStep, WritePage, CheckpointStep, Sweep}
use Rattle.gx_events.specs.declared.outcome.Outcome.{Outcome}
use Rattle.gx_events.specs.declared.outcome.Outcome.TheVariants.{Replied}

-- a reply that ends a call
abbrev pub items_replied : {B : Type 0} → ℕ → Outcome B → List (Item B)
items_replied s (Replied r) = item.Replied s r ∷ []
items_replied s other = []

-- a commit that was sealed, if the number of the last commit rose
abbrev pub items_sealed : {B : Type 0} → ℕ → ℕ → ℕ → List (Item B)
items_sealed s before after = if nat_lt before after then item.Sealed s after ∷ [] else []

-- what a move adds: a reply, or a commit that was sealed
abbrev pub items_moved : {B : Type 0} → ℕ → ℕ → ℕ → Outcome B → List (Item B)
items_moved s before after (Replied r) = item.Replied s r ∷ []
items_moved s before after other = items_sealed s before after

-- what an event adds, where the number of the last commit was and is this
abbrev pub items_of : {B : Type 0} → ℕ → ℕ → Event B → Outcome B → List (Item B)
items_of before after (Ask s call) outcome = item.Asked s call ∷ items_replied s outcome
items_of before after (Move s) outcome = items_moved s before after outcome
items_of before after LogStep outcome = []
items_of before after (WritePage page) outcome = []
items_of before after CheckpointStep outcome = []
items_of before after (Sweep page) outcome = []

-- the finished calls of a record: its replies
abbrev pub finished : {B : Type 0} → List (Item B) → ℕ
finished [] = 0
finished (item.Asked s call ∷ items) = finished items
finished (item.Sealed s number ∷ items) = finished items
finished (item.Replied s r ∷ items) = finished items + 1
