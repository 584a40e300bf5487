-- How the program ends: its status, which file it has opened, what it has read, and what it has written.
use Rattle.std.specs.Prelude.{ℕ, ◌≡◌, ◌≢◌, ◌⊎◌, List, [], ◌++◌, codes, decimal}
use Rattle.clap.specs.Words.{Text}
use Rattle.gx_geom.specs.Rectangles.{Rectangle}
use Rattle.gx_geom.specs.Solids.{Solid}
use Rattle.gx_machine.specs.Keys.{Members, keys_of}
use Rattle.gx_class.specs.declared.class.KeyClass.{Ghosts}
use Rattle.gx_disk.specs.Device.{Device}
use Rattle.gx_disk.specs.declared.file.FileDisk.{FileDisk}
use Rattle.gx_commands.specs.Files.{EndsDump, EndsFormat, EndsMigration, EndsRun, EndsVerify}
use Rattle.gx_commands.specs.Scripts.{EndsScript, LacksMemory}
use Rattle.gx_commands.specs.Streams.{Outputs, Prints}
use Rattle.gx_commands.specs.declared.opener.Opener.{Opener}
use Rattle.gx_front.specs.Storms.{EndsStormed, MemoryEvents}
use Rattle.gx_front.specs.World.{IsUntouched, World}
use Rattle.gx_script.specs.Corners.{rectangle_grammar, solid_grammar}
use Rattle.gx_storm.specs.declared.threads.Storm.{Storm}
use Rattle.gx_words.specs.Asking.{AreWrong, WordsAsk}
use Rattle.gx_words.specs.declared.asking.AskedCommand.{AskedCommand}
use Rattle.gx_words.specs.declared.asking.AskedCommand.TheVariants as command
use Rattle.gx_words.specs.declared.asking.Dimensions.{Dimensions}
use Rattle.gx_words.specs.declared.asking.Dimensions.TheVariants.{Two, Three}
use Rattle.gx_words.specs.declared.source.WordsFault.{WordsFault}
use Rattle.gx_words.specs.declared.source.WordsFault.TheVariants.{NotText, Memory}

-- what is written for the user if the argument at this place isn't text
abbrev pub unread_text : ℕ → List ℕ
unread_text place = codes "error: word " ++ (decimal place ++ codes " isn't UTF-8 text\n")

-- The arguments are wrong or ask for help: no file was opened, nothing was read, and no reply was written. A text is
-- written for the user, of which this holds.
pub record HasWrongWords {F : Type 0} (is_told : List ℕ → Type 0) (from to : World F) (status : ℕ) : Type 0 where
  pub status_is : status ≡ 2
  pub untouched : IsUntouched from to
  pub unwritten : to.outputs.replies ≡ from.outputs.replies
  pub text : List ℕ
  pub text_is : is_told text
  pub told : Prints text from.outputs.person to.outputs.person

-- memory was refused, and no file opened
pub record LacksAll {F : Type 0} (from to : World F) (status : ℕ) : Type 0 where
  pub unopened : to.opener ≡ from.opener
  pub lacks : LacksMemory from.input to.input from.outputs to.outputs status

-- a format of a file for boxes of so many dimensions ended so
abbrev pub FormatsBoxes : {C E F : Type 0} → Ghosts C Rectangle → Ghosts E Solid → (FileDisk → Device) → Dimensions → List ℕ → Opener F → Opener F → ℕ → ℕ
    → Outputs → Outputs → ℕ → Type 0
FormatsBoxes plane space state Two file old new pages most from to status = EndsFormat plane 1 state file old new pages most from to status
FormatsBoxes plane space state Three file old new pages most from to status = EndsFormat space 3 state file old new pages most from to status

module _ {C E F : Type 0} (plane : Members Rectangle) (plane_class : Ghosts C Rectangle) (space : Members Solid) (space_class : Ghosts E Solid) (state : FileDisk → Device)
    (events : MemoryEvents) where
  -- how what was asked for may end: of files it opens those that are named, and no other
  abbrev pub EndsAsked : AskedCommand → World F → World F → ℕ → Type 0
  EndsAsked (command.Plain Two) from to status =
      (to.opener ≡ from.opener) × EndsScript rectangle_grammar (keys_of plane) from.input to.input from.outputs to.outputs status
  EndsAsked (command.Plain Three) from to status =
      (to.opener ≡ from.opener) × EndsScript solid_grammar (keys_of space) from.input to.input from.outputs to.outputs status
  EndsAsked (command.Format file pages most dimensions) from to status =
      (to.input ≡ from.input) × FormatsBoxes plane_class space_class state dimensions file.now from.opener to.opener pages most from.outputs to.outputs status
  EndsAsked (command.Run file frames) from to status =
      EndsRun plane plane_class space space_class state file.now from.opener to.opener frames from.input to.input from.outputs to.outputs status
  EndsAsked (command.Dump file) from to status =
      (to.input ≡ from.input) × EndsDump plane plane_class space space_class state file.now from.opener to.opener from.outputs to.outputs status
  EndsAsked (command.Verify file) from to status =
      (to.input ≡ from.input) × EndsVerify plane plane_class space space_class state file.now from.opener to.opener from.outputs to.outputs status
  EndsAsked (command.Migrate old new frames) from to status =
      (to.input ≡ from.input)
      × EndsMigration plane plane_class space space_class state old.now new.now from.opener to.opener frames from.outputs to.outputs status
  EndsAsked (command.Storm seed sessions calls) from to status =
      IsUntouched from to × EndsStormed (keys_of plane) events (record { seed = seed; sessions = sessions; calls = calls }) from.outputs to.outputs status

  -- nothing is wrong with the arguments, and what they ask for ended so
  pub record EndsAsWanted (words : List Text) (from to : World F) (status : ℕ) : Type 0 where
    pub asked : AskedCommand
    pub asks : WordsAsk words asked
    pub ends : EndsAsked asked from to status

  -- how the program may end on arguments that were read: they are wrong, and a text says so; or memory was refused; or
  -- what they ask for was done or refused
  abbrev pub EndsOnWords : List Text → World F → World F → ℕ → Type 0
  EndsOnWords words from to status =
      (AreWrong words × HasWrongWords (λ text. text ≢ []) from to status)
      ⊎ (LacksAll from to status ⊎ EndsAsWanted words from to status)

-- This storm is asked for, and no file was opened, and nothing read or written.
pub record WantsStorm {F : Type 0} (wanted : AskedCommand) (storm : Storm) (from to : World F) : Type 0 where
  pub wanted_is : wanted ≡ command.Storm storm.seed storm.sessions storm.calls
  pub untouched : to ≡ from

-- Nothing is wrong with the arguments, and they ask for this storm.
pub record AwaitsStorm {F : Type 0} (words : List Text) (storm : Storm) (from to : World F) : Type 0 where
  pub asks : WordsAsk words (command.Storm storm.seed storm.sessions storm.calls)
  pub untouched : to ≡ from

-- how the program ends if its arguments couldn't be read
abbrev pub EndsUnread : {F : Type 0} → WordsFault → World F → World F → ℕ → Type 0
EndsUnread (NotText place) from to status = HasWrongWords (λ text. text ≡ unread_text place) from to status
EndsUnread Memory from to status = LacksAll from to status
