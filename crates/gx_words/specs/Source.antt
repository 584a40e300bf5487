-- What the system replies when it is asked for the arguments of the program.
use Rattle.std.specs.Prelude.{◌≡◌, ℕ, Option, None, Some, Ok, Err, vec_len}
use Rattle.std.specs.declared.vec.Vec.{Vec}
use Rattle.std.specs.declared.env.FillError.TheVariants.{NotPresent}
use Rattle.gx_words.specs.declared.source.Answer.{Answer}
use Rattle.gx_words.specs.declared.source.WordsFault.{WordsFault}
use Rattle.gx_words.specs.declared.source.WordsFault.TheVariants.{NotText, Memory}

-- asked for the word at this place, it said that there is none
abbrev pub IsLast : ℕ → Option Answer → Type 0
IsLast place last = last ≡ Some (record { place = place; length = Err NotPresent })

-- it said that the word has so many bytes
abbrev pub IsLong : ℕ → ℕ → Option Answer → Type 0
IsLong place bytes last = last ≡ Some (record { place = place; length = Ok bytes })

-- the word at a place has as many bytes as it said, if it said that there is one
abbrev pub IsWord : {A : Type 0} → ℕ → Option Answer → Option (Vec ℕ A) → Type 0
IsWord place last None = IsLast place last
IsWord place last (Some bytes) = IsLong place (vec_len bytes) last

-- arguments aren't read to their end because of one that isn't text, which was the last that was asked for; or for lack
-- of memory
abbrev pub Stopped : WordsFault → Option Answer → Type 0
Stopped (NotText place) last = (bytes : ℕ) × IsLong place bytes last
Stopped Memory last = Unit {0}
