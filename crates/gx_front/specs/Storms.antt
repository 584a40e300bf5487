-- How a storm ends: its status, and what it has written.
use Rattle.std.specs.Prelude.{ℕ, ◌≡◌, ◌⊎◌, ◌*◌, codes, decimal, List, [], ◌∷◌, ◌++◌}
use Rattle.std.specs.Io.KnownBytes.{Appends}
use Rattle.gx_geom.specs.Rectangles.{Rectangle}
use Rattle.gx_geom.specs.declared.refusal.Refusal.TheVariants as refusal
use Rattle.gx_machine.specs.Keys.{Keys}
use Rattle.gx_machine.specs.Machine.{fresh_machine}
use Rattle.gx_events.specs.declared.engine.Events.{Ghosts}
use Rattle.gx_disk.specs.declared.ram.RamDisk.{RamDisk}
use Rattle.gx_engine.specs.States.{Parts}
use Rattle.gx_engine_events.specs.New.{IsNew}
use Rattle.gx_commands.specs.Scripts.{TellsFault}
use Rattle.gx_commands.specs.Streams.{Outputs, Prints, TakesNoMore, TellsPerson}
use Rattle.gx_script.specs.declared.fault.ScriptFault.TheVariants.{Write}
use Rattle.gx_script.specs.Writes.{IsCut}
use Rattle.gx_commands.specs.Refusing.{Refuses}
use Rattle.gx_storm.specs.Verdicts.{EndsStorm}
use Rattle.gx_storm.specs.declared.threads.Storm.{Storm}
use Rattle.gx_storm.specs.declared.verdict.Verdict.{Verdict}
use Rattle.gx_storm.specs.declared.verdict.Verdict.TheVariants as verdict

-- a storm of so many calls is sound
abbrev pub sound_line : ℕ → List ℕ
sound_line calls = codes "storm ok calls " ++ (decimal calls ++ (10 ∷ []))

-- it isn't: the place
abbrev pub differs_line : ℕ → List ℕ
differs_line place = codes "storm mismatch at " ++ (decimal place ++ (10 ∷ []))

-- A sound storm's line was written; or a beginning of it, if the writer takes no more, and then the user gets a
-- sentence.
abbrev pub TellsSound : ℕ → Outputs → Outputs → ℕ → Type 0
TellsSound calls old new status =
    ((status ≡ 0) × (Appends old.replies.bytes new.replies.bytes (sound_line calls) × (new.person ≡ old.person)))
    ⊎ ((status ≡ 1) × (IsCut old.replies.bytes new.replies.bytes (sound_line calls)
    × (TakesNoMore new.replies × TellsFault Write new.replies.kind old.person new.person)))

-- the user's sentence of it
abbrev pub differs_sentence : List ℕ
differs_sentence = codes "a reply isn't the one that the plain index gives"

-- the place is written, and the user's sentence says what it is
pub record TellsPlace (place : ℕ) (old new : Outputs) (status : ℕ) : Type 0 where
  pub status_is : status ≡ 1
  pub told : Prints (differs_line place) old.replies new.replies
  pub heard : TellsPerson differs_sentence old.person new.person

-- what is written of a verdict
abbrev pub TellsVerdict : Storm → Verdict → Outputs → Outputs → ℕ → Type 0
TellsVerdict storm verdict.Sound old new status = TellsSound (storm.sessions * storm.calls) old new status
TellsVerdict storm (verdict.Mismatch place) old new status = TellsPlace place old new status
TellsVerdict storm (verdict.Refused why) old new status = Refuses why old new status

-- what an engine of boxes over a device in memory is seen as, and what its events make of it
abbrev pub MemoryEvents : Type 1
MemoryEvents = Ghosts (Parts Rectangle RamDisk) Rectangle

-- A new index in memory, of 4,096 pages with at most 8 entries in a node, and with 64 frames. Nothing is committed.
pub record IsFresh (events : MemoryEvents) (e : Parts Rectangle RamDisk) : Type 0 where
  pub new : IsNew 4096 8 64 e
  pub seen : events.sees e fresh_machine

-- A storm over such an index was judged, which is reported. Nothing has to be granted of a device in memory.
pub record WasJudged (k : Keys Rectangle) (events : MemoryEvents) (storm : Storm) (old new : Outputs)
    (status : ℕ) : Type 0 where
  pub index : Parts Rectangle RamDisk
  pub fresh : IsFresh events index
  pub granted : events.granted
  pub said : Verdict
  pub after : Parts Rectangle RamDisk
  pub ends : EndsStorm k events (events.sees index) storm said after
  pub told : TellsVerdict storm said old new status

-- how a storm may end: memory is refused for it, which is reported; or it is judged
abbrev pub EndsStormed : Keys Rectangle → MemoryEvents → Storm → Outputs → Outputs → ℕ → Type 0
EndsStormed k events storm old new status =
    Refuses refusal.Memory old new status ⊎ WasJudged k events storm old new status
