-- What the arguments ask for: the command that they name, and what is given to it.
use Rattle.std.specs.Prelude.{◌≡◌, ◌≢◌, ◌<◌, ◌≤◌, ◌^◌, ◌⊎◌, ℕ, List, [], Option, Some, None, pos, codes}
use Rattle.std.specs.Str.Parse.{IsNumeral, digits_value, without_leading_plus}
use Rattle.clap.specs.Words.{HasKind, IsSignedIn, Row, Text, fault_of, first_of, one_of, subcommand_of, without_minus}
use Rattle.clap.specs.declared.error.Error.{Error}
use Rattle.gx_words.specs.Program.{AreClasses, ClassWords, gist_app}
use Rattle.gx_words.specs.declared.asking.AskedCommand.{AskedCommand}
use Rattle.gx_words.specs.declared.asking.AskedCommand.TheVariants.{Plain, Format, Run, Dump, Verify, Migrate, Storm}
use Rattle.gx_words.specs.declared.asking.Dimensions.{Dimensions}
use Rattle.gx_words.specs.declared.asking.Dimensions.TheVariants.{Two, Three}

-- the word that was given under this name, or its default, is this number in decimal digits, and the number lies in
-- this range
pub record IsNumber (rows : List Row) (name : Text) (lowest highest number : ℕ) : Type 0 where
  pub word : Text
  pub given : one_of name rows ≡ Some word
  pub digits : IsNumeral 10 (without_leading_plus word)
  pub value : number ≡ digits_value 10 (without_leading_plus word)
  pub least : lowest ≤ number
  pub most : number ≤ highest

-- the word for a class of boxes
abbrev pub class_word : Dimensions → Text
class_word Two = codes "1"
class_word Three = codes "3"

-- the word of `--class`, or its default, is the one for boxes of so many dimensions
abbrev pub IsOfClass : List Row → Dimensions → Type 0
IsOfClass rows dimensions = first_of (codes "class") rows ≡ Some (class_word dimensions)

-- what is given to `format`
pub record IsFormat (rows : List Row) (file : Text) (pages most : ℕ) (dimensions : Dimensions) : Type 0 where
  pub file_is : first_of (codes "FILE") rows ≡ Some file
  pub pages_are : IsNumber rows (codes "PAGES") 8 65536 pages
  pub most_is : IsNumber rows (codes "M") 4 100 most
  pub class_is : IsOfClass rows dimensions

-- what is given to `run`
pub record IsRun (rows : List Row) (file : Text) (frames : ℕ) : Type 0 where
  pub file_is : first_of (codes "FILE") rows ≡ Some file
  pub frames_are : IsNumber rows (codes "frames") 16 4096 frames

-- what is given to `dump`, and to `verify`
abbrev pub IsDump : List Row → Text → Type 0
IsDump rows file = first_of (codes "FILE") rows ≡ Some file

-- what is given to `migrate`
pub record IsMigrate (rows : List Row) (old new : Text) (frames : ℕ) : Type 0 where
  pub old_is : first_of (codes "OLD") rows ≡ Some old
  pub new_is : first_of (codes "NEW") rows ≡ Some new
  pub frames_are : IsNumber rows (codes "frames") 16 4096 frames

-- what is given to `storm`
pub record IsStorm (rows : List Row) (seed sessions calls : ℕ) : Type 0 where
  pub seed_is : IsNumber rows (codes "SEED") 0 4294967295 seed
  pub sessions_are : IsNumber rows (codes "SESSIONS") 1 8 sessions
  pub calls_are : IsNumber rows (codes "CALLS") 1 2000 calls

-- the command of this name, with what is given to it, asks for this
abbrev pub Asks : Text → List Row → AskedCommand → Type 0
Asks name rows (Plain dimensions) = (name ≡ codes "plain") × IsOfClass rows dimensions
Asks name rows (Format file pages most dimensions) = (name ≡ codes "format") × IsFormat rows file.now pages most dimensions
Asks name rows (Run file frames) = (name ≡ codes "run") × IsRun rows file.now frames
Asks name rows (Dump file) = (name ≡ codes "dump") × IsDump rows file.now
Asks name rows (Verify file) = (name ≡ codes "verify") × IsDump rows file.now
Asks name rows (Migrate old new frames) = (name ≡ codes "migrate") × IsMigrate rows old.now new.now frames
Asks name rows (Storm seed sessions calls) = (name ≡ codes "storm") × IsStorm rows seed sessions calls

-- what is asked for, by the command that was found
abbrev pub IsAsked : Option (Text × List Row) → AskedCommand → Type 0
IsAsked None asked = ⊥
IsAsked (Some command) asked = Asks command.0 command.1 asked

-- the word under this name passed the test for a number in this range
pub record IsAccepted (rows : List Row) (name : Text) (lowest highest : ℕ) : Type 0 where
  pub word : Text
  pub given : one_of name rows ≡ Some (without_minus word)
  pub accepted : IsSignedIn (pos lowest) (pos highest) word
  pub fits : highest < 2 ^ 32

-- a class was given, or is the default: all that `plain` needs
abbrev pub HasClass : List Row → Type 0
HasClass rows = (dimensions : Dimensions) × IsOfClass rows dimensions

-- all that `format` wants was given
pub record HasFormat (rows : List Row) : Type 0 where
  pub file : Text
  pub file_is : first_of (codes "FILE") rows ≡ Some file
  pub pages : IsAccepted rows (codes "PAGES") 8 65536
  pub most : IsAccepted rows (codes "M") 4 100
  pub class : HasClass rows

-- all that `run` wants
pub record HasRun (rows : List Row) : Type 0 where
  pub file : Text
  pub file_is : first_of (codes "FILE") rows ≡ Some file
  pub frames : IsAccepted rows (codes "frames") 16 4096

-- all that `dump` wants, and `verify`
pub record HasDump (rows : List Row) : Type 0 where
  pub file : Text
  pub file_is : first_of (codes "FILE") rows ≡ Some file

-- all that `migrate` wants
pub record HasMigrate (rows : List Row) : Type 0 where
  pub old : Text
  pub old_is : first_of (codes "OLD") rows ≡ Some old
  pub new : Text
  pub new_is : first_of (codes "NEW") rows ≡ Some new
  pub frames : IsAccepted rows (codes "frames") 16 4096

-- all that `storm` wants
pub record HasStorm (rows : List Row) : Type 0 where
  pub seed : IsAccepted rows (codes "SEED") 0 4294967295
  pub sessions : IsAccepted rows (codes "SESSIONS") 1 8
  pub calls : IsAccepted rows (codes "CALLS") 1 2000

-- a command was found, with all that it wants
abbrev pub IsWhole : Option (Text × List Row) → Type 0
IsWhole None = ⊥
IsWhole (Some command) =
    ((command.0 ≡ codes "plain") × HasClass command.1) ⊎ ((command.0 ≡ codes "format") × HasFormat command.1) ⊎ ((command.0 ≡ codes "run") × HasRun command.1)
    ⊎ ((command.0 ≡ codes "dump") × HasDump command.1) ⊎ ((command.0 ≡ codes "verify") × HasDump command.1)
    ⊎ ((command.0 ≡ codes "migrate") × HasMigrate command.1) ⊎ ((command.0 ≡ codes "storm") × HasStorm command.1)

-- Nothing is wrong with the arguments, and they ask for this.
pub record WordsAsk (words : List Text) (asked : AskedCommand) : Type 0 where
  pub classes : ClassWords
  pub are : AreClasses classes
  pub right : fault_of (gist_app classes) words ≡ []
  pub asks : IsAsked (subcommand_of (gist_app classes) words) asked

-- An error is about memory, or says what is wrong with the arguments.
pub record IsErrorOf (words : List Text) (error : Error) : Type 0 where
  pub classes : ClassWords
  pub are : AreClasses classes
  pub kind : HasKind (fault_of (gist_app classes) words) error

-- Something is wrong with the arguments.
pub record AreWrong (words : List Text) : Type 0 where
  pub classes : ClassWords
  pub are : AreClasses classes
  pub wrong : fault_of (gist_app classes) words ≢ []
