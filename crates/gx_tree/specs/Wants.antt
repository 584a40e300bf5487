-- What a look wants.
use Rattle.std.specs.Prelude.{ℕ, Bool, not, ◌&&◌, ◌==◌, Option, Some, None}
use Rattle.gx_node.specs.Trees.{Pair}

-- whether a pair is live, or else has the row that is asked for
abbrev pub has_row : {B : Type 0} → Option ℕ → Pair B → Bool
has_row None x = not x.marked
has_row (Some row) x = x.row == row

-- whether the pair is wanted: it is live or has the row, and its key passes
abbrev pub wants : {B P : Type 0} → (P → B → Bool) → P → Option ℕ → Pair B → Bool
wants passes probe row x = has_row row x && passes probe x.key
