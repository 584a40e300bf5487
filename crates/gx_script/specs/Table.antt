-- Lines as the table has them.
use Rattle.std.specs.Prelude.{ℕ, List, map}
use Rattle.std.specs.Fmt.{signed_decimal}
use Rattle.gx_script.specs.Corners.{Grammar}

-- the corners of a key as words
abbrev pub corner_words : {B : Type 0} → Grammar B → B → List (List ℕ)
corner_words grammar key = map signed_decimal (grammar.corners key)
