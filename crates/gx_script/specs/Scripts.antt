-- What a script does: the text that it gives, and where it leaves the index.
use Rattle.std.specs.Prelude.{ℕ, ◌≡◌, ◌+◌, ◌<◌, ◌==◌, ◌⊎◌, nat_lt, Bool, true, false, if◌then◌else◌, length, map, Option, List, [], ◌∷◌, ◌++◌}
use Rattle.std.specs.List.{list_any}
use Rattle.std.specs.Io.KnownBytes.{Appends, Consumes, IsAtEnd}
use Rattle.gx_geom.specs.declared.refusal.Refusal.TheVariants.{BadBox}
use Rattle.gx_machine.specs.declared.call.Call.{Call}
use Rattle.gx_machine.specs.declared.reply.Reply.{Reply}
use Rattle.gx_machine.specs.declared.reply.Reply.TheVariants.{Refused}
use Rattle.gx_script.specs.declared.line.Line.{Line}
use Rattle.gx_script.specs.declared.line.Line.TheVariants.{Blank, Bad, Reversed, Asks}
use Rattle.gx_script.specs.declared.fault.ScriptFault.{ScriptFault}
use Rattle.gx_script.specs.declared.fault.ScriptFault.TheVariants.{Read, Write}
use Rattle.gx_script.specs.Corners.{Grammar}
use Rattle.gx_script.specs.Lines.{lines}
use Rattle.gx_script.specs.Requests.{line_of}
use Rattle.gx_script.specs.Replies.{reply_text, bad_line}

-- what the lines of a text ask for
abbrev pub asked : {B : Type 0} → Grammar B → List ℕ → List (Line B)
asked grammar bytes = map (line_of grammar) (lines bytes)

-- the number under which an index is asked: 0, which no session has, if it doesn't fit in eight bits
abbrev pub asked_as : ℕ → ℕ
asked_as session = if nat_lt session 256 then session else 0

-- a line that the index is asked for
abbrev pub is_asking : {B : Type 0} → Line B → Bool
is_asking Blank = false
is_asking Bad = false
is_asking (Reversed session) = false
is_asking (Asks session call) = true

-- the index is asked for none of these lines but the first
abbrev pub AsksFirst : {B : Type 0} → List (Line B) → Type 0
AsksFirst [] = Unit {0}
AsksFirst (line ∷ more) = list_any is_asking more ≡ false

-- these are the first lines of the text, whatever comes after it, and then those of the rest
abbrev pub FirstLines : {B : Type 0} → Grammar B → List ℕ → List (Line B) → List ℕ → Type 0
FirstLines grammar bytes done rest = (tail : List ℕ) → asked grammar (bytes ++ tail) ≡ done ++ asked grammar (rest ++ tail)

-- no line ends in these bytes
abbrev pub IsUnended : List ℕ → Type 0
IsUnended bytes = list_any (λ b. b == 10) bytes ≡ false

module _ {B I : Type 0} (grammar : Grammar B) (answered : I → ℕ → Call B → Reply B → I → Type 0) where
  -- From old, the line of this number gives this text and leads to new.
  abbrev pub IsTold : ℕ → Line B → I → List ℕ → I → Type 0
  IsTold number Blank old text new = (text ≡ []) × (new ≡ old)
  IsTold number Bad old text new = (text ≡ bad_line number) × (new ≡ old)
  IsTold number (Reversed session) old text new = (text ≡ reply_text grammar session (Refused BadBox)) × (new ≡ old)
  IsTold number (Asks session call) old text new =
      (reply : Reply B) × answered old (asked_as session) call reply new × (text ≡ reply_text grammar session reply)

  -- From old, these lines, the first of which has this number, give this text and lead to new.
  abbrev pub IsScript : ℕ → List (Line B) → I → List ℕ → I → Type 0
  IsScript number [] old text new = (text ≡ []) × (new ≡ old)
  IsScript number (line ∷ more) old text new =
      (first : List ℕ) × (rest : List ℕ) × (middle : I) × IsTold number line old first middle
      × IsScript (number + 1) more middle rest new × (text ≡ first ++ rest)

  -- These lines were done, of whose text all but the last part was written. The index was asked for no line before
  -- the text of all lines asked earlier was written.
  pub record IsWritten (number : ℕ) (done : List (Line B)) (old : I) (written unwritten : List ℕ) (new : I) : Type 0 where
    pub before : List (Line B)
    pub after : List (Line B)
    pub middle : I
    pub settled : List ℕ
    pub late : List ℕ
    pub parts : done ≡ before ++ after
    -- all of the text of the lines before is written
    pub ran : IsScript number before old settled middle
    -- of the lines after them only the first may have asked the index
    pub runs : IsScript (number + length before) after middle (late ++ unwritten) new
    pub asks_first : AsksFirst after
    pub wrote : written ≡ settled ++ late

  -- A whole script: the bytes that were read, up to the end, and the text that was written for them.
  pub record IsDone (had left held holds : Option (List ℕ)) (old new : I) : Type 0 where
    pub input : List ℕ
    pub text : List ℕ
    pub read : Consumes had left input
    pub at_end : IsAtEnd left
    pub wrote : Appends held holds text
    pub ran : IsScript 1 (asked grammar input) old text new

  -- Between two reads: each line that has ended was done and all of its text is written. No line ends in what follows.
  pub record IsStoppedByRead (had left held holds : Option (List ℕ)) (old new : I) : Type 0 where
    pub input : List ℕ
    pub text : List ℕ
    pub done : List (Line B)
    pub begun : List ℕ
    pub read : Consumes had left input
    pub wrote : Appends held holds text
    pub first : FirstLines grammar input done begun
    pub unended : IsUnended begun
    pub ran : IsScript 1 done old text new

  -- These lines of what was read were done: the first that have ended, or at the end of the input all of them.
  abbrev pub AreDone : Option (List ℕ) → List ℕ → List (Line B) → Type 0
  AreDone left input done = ((rest : List ℕ) × FirstLines grammar input done rest) ⊎ (IsAtEnd left × (asked grammar input ≡ done))

  -- While text was written: some of it isn't.
  pub record IsStoppedByWrite (had left held holds : Option (List ℕ)) (old new : I) : Type 0 where
    pub input : List ℕ
    pub done : List (Line B)
    pub written : List ℕ
    pub unwritten : List ℕ
    pub read : Consumes had left input
    pub wrote : Appends held holds written
    pub first : AreDone left input done
    pub ran : IsWritten 1 done old written unwritten new
    pub some : 0 < length unwritten

  -- where a fault leaves reader, writer and index
  abbrev pub IsStopped : Option (List ℕ) → Option (List ℕ) → Option (List ℕ) → Option (List ℕ) → I → I → ScriptFault → Type 0
  IsStopped had left held holds old new Read = IsStoppedByRead had left held holds old new
  IsStopped had left held holds old new Write = IsStoppedByWrite had left held holds old new
