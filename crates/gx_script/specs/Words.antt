-- The words of a line.
use Rattle.std.specs.Prelude.{ℕ, ◌≡◌, ◌<◌, length, ◌==◌, Bool, false, not, ◌||◌, if◌then◌else◌, List, [], ◌∷◌}
use Rattle.std.specs.List.{list_any}
use Rattle.gx_script.specs.Lines.{onto_first}

-- spaces and tabs separate words
abbrev pub is_separator : ℕ → Bool
is_separator b = b == 32 || b == 9

-- these bytes begin with a byte of a word
abbrev pub in_word : List ℕ → Bool
in_word [] = false
in_word (b ∷ bs) = not (is_separator b)

-- the longest runs of bytes without a separator, in order
abbrev pub words : List ℕ → List (List ℕ)
words [] = []
words (b ∷ bs) =
    if is_separator b then words bs
    else if in_word bs then onto_first b (words bs)
    else (b ∷ []) ∷ words bs

-- bytes that make one word
pub record IsWord (w : List ℕ) : Type 0 where
  pub some : 0 < length w
  pub whole : list_any is_separator w ≡ false
