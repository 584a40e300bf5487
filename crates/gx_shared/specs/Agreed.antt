-- The replies of one session in a record.
use Rattle.std.specs.Prelude.{ℕ, ◌==◌, if◌then◌else◌, List, [], ◌∷◌}
use Rattle.gx_machine.specs.declared.reply.Reply.{Reply}
use Rattle.gx_machine.specs.declared.item.Item.{Item}
use Rattle.gx_machine.specs.declared.item.Item.TheVariants.{Asked, Sealed, Replied}

-- in their order
abbrev pub replies_of : {B : Type 0} → ℕ → List (Item B) → List (Reply B)
replies_of s [] = []
replies_of s (Asked t call ∷ items) = replies_of s items
replies_of s (Sealed t number ∷ items) = replies_of s items
replies_of s (Replied t r ∷ items) = if t == s then r ∷ replies_of s items else replies_of s items
