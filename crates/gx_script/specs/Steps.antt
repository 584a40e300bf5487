-- What each step of the runner does: to one line, and to a piece of the script.
use Rattle.std.specs.Prelude.{ℕ, ◌≡◌, ◌+◌, ◌<◌, ◌⊎◌, true, length, take, Option, List, [], ◌++◌}
use Rattle.std.specs.Io.KnownBytes.{Appends}
use Rattle.gx_machine.specs.declared.call.Call.{Call}
use Rattle.gx_machine.specs.declared.reply.Reply.{Reply}
use Rattle.gx_script.specs.declared.line.Line.{Line}
use Rattle.gx_script.specs.Corners.{Grammar}
use Rattle.gx_script.specs.Writes.{IsCut}
use Rattle.gx_script.specs.Scripts.{asked, is_asking, IsTold, IsWritten, IsScript, FirstLines}

-- what is kept of a line: more bytes than a line may have, its carriage return and one more
unfoldable pub kept : List ℕ → List ℕ
kept bytes = take 1026 bytes

module _ {B I : Type 0} (grammar : Grammar B) (answered : I → ℕ → Call B → Reply B → I → Type 0) where
  -- A line was added after what waited: this is left of both, and the front was written.
  pub record IsToldWhole (number : ℕ) (line : Line B) (old new : I) (held holds : Option (List ℕ)) (waiting left : List ℕ) : Type 0 where
    pub text : List ℕ
    pub sent : List ℕ
    pub wrote : Appends held holds sent
    pub all : waiting ++ text ≡ sent ++ left
    pub told : IsTold grammar answered number line old text new
    -- all that waited was written before the index was asked
    pub in_time : is_asking line ≡ true → (late : List ℕ) × (sent ≡ waiting ++ late) × (text ≡ late ++ left)

  -- A write failed: before the line did anything, or with some of its text not written.
  abbrev pub IsToldPart : ℕ → Line B → I → I → Option (List ℕ) → Option (List ℕ) → List ℕ → Type 0
  IsToldPart number line old new held holds waiting =
      (IsCut held holds waiting × (new ≡ old))
      ⊎ ((lost : List ℕ) × (0 < length lost) × IsToldWhole number line old new held holds waiting lost)

  -- After these lines, more were done: those of the bytes except for a rest.
  pub record IsFed (number : ℕ) (done : List (Line B)) (start : I) (written bytes rest : List ℕ) (held holds : Option (List ℕ)) (left : List ℕ) (new : I) : Type 0 where
    pub more : List (Line B)
    pub sent : List ℕ
    pub wrote : Appends held holds sent
    pub ran : IsWritten grammar answered number (done ++ more) start (written ++ sent) left new
    pub first : FirstLines grammar bytes more rest

  -- A write failed: some text of the lines that were done is not written.
  abbrev pub IsFedPart : ℕ → List (Line B) → I → List ℕ → List ℕ → Option (List ℕ) → Option (List ℕ) → I → Type 0
  IsFedPart number done start written bytes held holds new =
      (rest : List ℕ) × (lost : List ℕ) × (0 < length lost) × IsFed number done start written bytes rest held holds lost new

  -- The same, however the script began.
  abbrev pub Feeds : ℕ → I → List ℕ → (ℕ → List (Line B) → I → List ℕ → Type 0) → Type 0
  Feeds at old waiting P =
      (number : ℕ) (done : List (Line B)) (start : I) (written : List ℕ)
      → IsWritten grammar answered number done start written waiting old → at ≡ number + length done → P number done start written

  -- At the end, the line that was begun was done too.
  pub record IsEnded (number : ℕ) (done : List (Line B)) (start : I) (written begun : List ℕ) (held holds : Option (List ℕ)) (new : I) : Type 0 where
    pub sent : List ℕ
    pub wrote : Appends held holds sent
    pub ran : IsScript grammar answered number (done ++ asked grammar begun) start (written ++ sent) new

  -- A write failed at the end: some text of the lines that were done is not written.
  pub record IsEndedPart (number : ℕ) (done : List (Line B)) (start : I) (written begun : List ℕ) (held holds : Option (List ℕ)) (new : I) : Type 0 where
    pub more : List (Line B)
    pub sent : List ℕ
    pub lost : List ℕ
    pub wrote : Appends held holds sent
    pub ran : IsWritten grammar answered number (done ++ more) start (written ++ sent) lost new
    pub some : 0 < length lost
    pub which : (more ≡ []) ⊎ (more ≡ asked grammar begun)
