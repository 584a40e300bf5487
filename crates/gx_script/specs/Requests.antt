-- What a line asks for.
use Rattle.std.specs.Prelude.{ℕ, ℤ, nat_lt, ◌==◌, ◌&&◌, if◌then◌else◌, codes, length, Option, None, Some, option_map, option_and_then, List, [], ◌∷◌}
use Rattle.std.specs.Option.{option_map_or}
use Rattle.std.specs.Str.{bytes_eq}
use Rattle.gx_machine.specs.declared.call.Call.{Call}
use Rattle.gx_machine.specs.declared.call.Call.TheVariants as call
use Rattle.gx_machine.specs.declared.query.Query.TheVariants as query
use Rattle.gx_machine.specs.declared.entry.Entry.{Entry}
use Rattle.gx_script.specs.declared.line.Line.{Line}
use Rattle.gx_script.specs.declared.line.Line.TheVariants.{Blank, Bad, Reversed, Asks}
use Rattle.gx_script.specs.declared.command.Command.{Command}
use Rattle.gx_script.specs.declared.command.Command.TheVariants.{Begin, Insert, Delete, Overlap, Within, Equal, Covers, Commit, Abort}
use Rattle.gx_script.specs.Lines.{without_cr}
use Rattle.gx_script.specs.Words.{words}
use Rattle.gx_script.specs.Numbers.{number_of, corner_of}
use Rattle.gx_script.specs.Corners.{Grammar}

-- the commands, in capitals
abbrev pub command_of : List ℕ → Option Command
command_of w =
    if bytes_eq w (codes "BEGIN") then Some Begin
    else if bytes_eq w (codes "INSERT") then Some Insert
    else if bytes_eq w (codes "DELETE") then Some Delete
    else if bytes_eq w (codes "OVERLAP") then Some Overlap
    else if bytes_eq w (codes "WITHIN") then Some Within
    else if bytes_eq w (codes "EQUAL") then Some Equal
    else if bytes_eq w (codes "COVERS") then Some Covers
    else if bytes_eq w (codes "COMMIT") then Some Commit
    else if bytes_eq w (codes "ABORT") then Some Abort
    else None

-- what the first word is read as, and the words after it
abbrev pub first_word : {A : Type 0} → (List ℕ → Option A) → List (List ℕ) → Option (A × List (List ℕ))
first_word read [] = None
first_word read (w ∷ ws) = option_map (λ a. (a, ws)) (read w)

-- the numbers that words say, each a corner
abbrev pub numbers_of : List (List ℕ) → Option (List ℤ)
numbers_of [] = Some []
numbers_of (w ∷ ws) = option_and_then (λ z. option_map (λ zs. z ∷ zs) (numbers_of ws)) (corner_of w)

-- as many corners as a key has, all of which may be corners, and the key that they make: none if they are reversed
abbrev pub key_of : {B : Type 0} → Grammar B → List ℤ → Option (Option B)
key_of grammar zs = if length zs == grammar.count && grammar.fit zs then Some (grammar.made zs) else None

-- words that are the corners of a key and no more, and that key
abbrev pub key_words : {B : Type 0} → Grammar B → List (List ℕ) → Option (Option B)
key_words grammar ws = option_and_then (key_of grammar) (numbers_of ws)

-- a row, the corners of a key and no other word, and the entry that they make: none if the corners are reversed
abbrev pub entry_words : {B : Type 0} → Grammar B → List (List ℕ) → Option (Option (Entry B))
entry_words grammar ws =
    option_and_then (λ row. option_map (λ made. option_map (λ key. record { row = row.0; key = key }) made) (key_words grammar row.1))
    (first_word number_of ws)

-- the call that a session makes of its arguments; reversed corners ask nothing
abbrev pub with_arguments : {A B : Type 0} → ℕ → (A → Call B) → Option (Option A) → Line B
with_arguments session make None = Bad
with_arguments session make (Some None) = Reversed session
with_arguments session make (Some (Some a)) = Asks session (make a)

-- a call without arguments
abbrev pub alone : {B : Type 0} → ℕ → Call B → List (List ℕ) → Line B
alone session call [] = Asks session call
alone session call (w ∷ ws) = Bad

-- each command with the words that follow it
abbrev pub command_line : {B : Type 0} → Grammar B → ℕ → Command → List (List ℕ) → Line B
command_line grammar session Begin ws = alone session call.Begin ws
command_line grammar session Insert ws = with_arguments session (λ e. call.Insert e) (entry_words grammar ws)
command_line grammar session Delete ws = with_arguments session (λ e. call.Delete e) (entry_words grammar ws)
command_line grammar session Overlap ws = with_arguments session (λ b. call.Search (query.Overlap b)) (key_words grammar ws)
command_line grammar session Within ws = with_arguments session (λ b. call.Search (query.Within b)) (key_words grammar ws)
command_line grammar session Equal ws = with_arguments session (λ b. call.Search (query.Equal b)) (key_words grammar ws)
command_line grammar session Covers ws = with_arguments session (λ b. call.Search (query.Covers b)) (key_words grammar ws)
command_line grammar session Commit ws = alone session call.Commit ws
command_line grammar session Abort ws = alone session call.Abort ws

-- a session's number, then a command
abbrev pub session_line : {B : Type 0} → Grammar B → List (List ℕ) → Line B
session_line grammar ws =
    option_map_or (λ session. option_map_or (λ command. command_line grammar session.0 command.0 command.1) (first_word command_of session.1) Bad)
    (first_word number_of ws) Bad

-- a line by its words: none is a blank line
abbrev pub words_line : {B : Type 0} → Grammar B → List (List ℕ) → Line B
words_line grammar [] = Blank
words_line grammar (w ∷ ws) = session_line grammar (w ∷ ws)

-- a line by its bytes, of which it may have 1,024
abbrev pub line_of : {B : Type 0} → Grammar B → List ℕ → Line B
line_of grammar bytes =
    let body = without_cr bytes in
    if nat_lt 1024 (length body) then Bad else words_line grammar (words body)
