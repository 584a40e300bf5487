-- How a reader's or a writer's last call ended.
use Rattle.std.specs.Prelude.{ℕ, ◌≡◌, ◌≢◌, ◌^◌, ◌≤◌, ◌==◌, ◌⊎◌, if◌then◌else◌, length, take, Option, Some, List, [], Result, MatchResult}
use Rattle.std.specs.Io.KnownBytes.{Appends, Consumes, Keeps, IsAtEnd}
use Rattle.gx_script.specs.declared.fault.ScriptFault.{ScriptFault}
use Rattle.gx_script.specs.declared.fault.ScriptFault.TheVariants.{Read, Write}
use Rattle.gx_script.specs.declared.noted.Noted.{Noted}
use Rattle.gx_script.specs.declared.noted.Transfer.{Transfer}
use Rattle.gx_script.specs.declared.noted.Transfer.TheVariants.{Interrupted, Nothing, Moved, Failed}

-- how often a reader is read by one script, and a writer asked to take one text
abbrev pub most_calls : ℕ
most_calls = 2 ^ 32

-- an error is a failure unless it is an interruption
abbrev pub IsError : {K : Type 0} → (interruption kind : K) → Transfer → Type 0
IsError interruption kind transfer =
    ((kind ≡ interruption) × (transfer ≡ Interrupted)) ⊎ ((kind ≢ interruption) × (transfer ≡ Failed))

-- how a call ended, by what it gave
abbrev pub IsTransfer : {E K : Type 0} → (E → K) → K → Result ℕ E → Transfer → Type 0
IsTransfer kind_of interruption ended transfer =
    MatchResult ended (λ n. transfer ≡ (if n == 0 then Nothing else Moved n)) (λ e. IsError interruption (kind_of e) transfer)

-- what a read gave: nothing; the end; or the bytes at the front of the buffer
abbrev pub IsGiven : Option (List ℕ) → Option (List ℕ) → List ℕ → Transfer → Type 0
IsGiven had left buffer Interrupted = Keeps had left
IsGiven had left buffer Nothing = Consumes had left [] × IsAtEnd left
IsGiven had left buffer (Moved count) = (count ≤ length buffer) × Consumes had left (take count buffer)
IsGiven had left buffer Failed = Keeps had left

-- what a write took: nothing, or a front of the bytes
abbrev pub IsTaken : Option (List ℕ) → Option (List ℕ) → List ℕ → Transfer → Type 0
IsTaken held holds bytes Interrupted = Keeps held holds
IsTaken held holds bytes Nothing = Appends held holds []
IsTaken held holds bytes (Moved count) = (count ≤ length bytes) × Appends held holds (take count bytes)
IsTaken held holds bytes Failed = Keeps held holds

-- its last call failed, or it was called too often
abbrev pub HasFailed : {T : Type 0} → Noted T → Type 0
HasFailed noted = (noted.last ≡ Some Failed) ⊎ (most_calls ≤ noted.calls)

-- so is a writer that its last call gave nothing to hold
abbrev pub TakesNoMore : {T : Type 0} → Noted T → Type 0
TakesNoMore noted = (noted.last ≡ Some Nothing) ⊎ HasFailed noted

-- a fault that the reader's or the writer's last call gave
abbrev pub IsFaultOf : {R W : Type 0} → Noted R → Noted W → ScriptFault → Type 0
IsFaultOf reader writer Read = HasFailed reader
IsFaultOf reader writer Write = TakesNoMore writer
