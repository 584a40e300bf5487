-- The kept sets of a log, what each step of the log does to them, and lives: lists of such steps.
use Rattle.std.specs.Prelude.{◌≡◌, ℕ, ◌+◌, ◌≤◌, Bool, List, [], ◌∷◌}
use Rattle.gx_recovery.specs.Known.{Known}
use Rattle.gx_recovery.specs.Records.{Record, Pages, Adjust, Write, Commit, End, Counters, Note}
use Rattle.gx_recovery.specs.Analysis.{analysis}
use Rattle.gx_recovery.specs.Redo.{redone}
use Rattle.gx_recovery.specs.Standing.{view_of}
use Rattle.gx_recovery.specs.Coming.{MayCome}
use Rattle.gx_recovery.specs.Logged.{Logged, all_records, durable, latest, kept, appended, begun, gate_synced, AgreesBeside, IsLeft}
use Rattle.gx_recovery.specs.Renewal.{renewed, renewed_over, found}

-- kept sets from the number of the first one to that of the last, as tests of one entry
pub record Kept (E : Type 0) : Type 0 where
  pub first : ℕ
  pub last : ℕ
  pub set : ℕ → E → Bool

-- the kept sets of a log
abbrev pub kept_of : {E P : Type 0} → Known E P → Logged E P → Kept E
kept_of k s = record { first = durable k s; last = latest k s; set = kept k s }

-- What may become of kept sets: nothing; some go from the front; a set is added, the view of a commit; a crash leaves one.
pub data Move (E : Type 0) : Type 0 where
  Stays : Move E
  Durable : Move E
  Seals : (view : E → Bool) → Move E
  Crashes : Move E

-- the sets that both keep are the same
abbrev pub SameSets : {E : Type 0} → Kept E → Kept E → ℕ → ℕ → Type 0
SameSets {E} old new from to = (number : ℕ) → from ≤ number → number ≤ to → (e : E) → new.set number e ≡ old.set number e

pub record AreSame {E : Type 0} (old new : Kept E) : Type 0 where
  pub first : new.first ≡ old.first
  pub last : new.last ≡ old.last
  pub sets : SameSets old new old.first old.last

pub record AreFewer {E : Type 0} (old new : Kept E) : Type 0 where
  pub first : old.first ≤ new.first
  pub some_left : new.first ≤ new.last
  pub last : new.last ≡ old.last
  pub sets : SameSets old new new.first old.last

pub record IsAdded {E : Type 0} (view : E → Bool) (old new : Kept E) : Type 0 where
  pub first : new.first ≡ old.first
  pub last : new.last ≡ old.last + 1
  pub sets : SameSets old new old.first old.last
  pub added : (e : E) → new.set new.last e ≡ view e

pub record IsOneLeft {E : Type 0} (old new : Kept E) : Type 0 where
  pub one : new.first ≡ new.last
  pub at_least : old.first ≤ new.first
  pub at_most : new.last ≤ old.last
  pub set : (e : E) → new.set new.last e ≡ old.set new.last e

abbrev pub IsMove : {E : Type 0} → Kept E → Move E → Kept E → Type 0
IsMove old Stays new = AreSame old new
IsMove old Durable new = AreFewer old new
IsMove old (Seals view) new = IsAdded view old new
IsMove old Crashes new = IsOneLeft old new

-- What happens to a log: a record is appended; the filling batch begins; its gate is synced; pages are written; a
-- checkpoint puts a new log in its place; power is lost; or it is, and an opening puts a new log there.
pub data LogStep (E P : Type 0) : Type 0 where
  Appends : (r : Record E P) → LogStep E P
  Begins : LogStep E P
  Syncs : LogStep E P
  WritesPages : (area : ℕ → P) → LogStep E P
  Renews : (next : ℕ) → LogStep E P
  LosesPower : (area : ℕ → P) (log : List (Record E P)) → LogStep E P
  Restarts : (next : ℕ) (area : ℕ → P) (log : List (Record E P)) → LogStep E P

-- each page is as the log leaves it
abbrev pub AllWritten : {E P : Type 0} → Logged E P → Type 0
AllWritten s = (p : ℕ) → s.area p ≡ redone s.area s.gated p

-- Pages are written only if gated records give them whole, whatever a torn write leaves there. A checkpoint waits until
-- all is gated and all pages are written. The next transaction's number of a new log is at least that of the old one.
abbrev pub IsLogStep : {E P : Type 0} → Known E P → Logged E P → LogStep E P → Logged E P → Type 0
IsLogStep k old (Appends r) new = MayCome k old.area (all_records old) r × (new ≡ appended r old)
IsLogStep k old Begins new = (old.flight ≡ []) × (new ≡ begun old)
IsLogStep k old Syncs new = new ≡ gate_synced old
IsLogStep k old (WritesPages area) new = AgreesBeside old.gated old.area area × (new ≡ record old { area = area })
IsLogStep k old (Renews next) new =
    (old.flight ≡ []) × (old.filling ≡ []) × AllWritten old × ((analysis k old.gated).next ≤ next) × (new ≡ record old { gated = renewed k next old.gated })
IsLogStep k old (LosesPower area log) new = IsLeft old area log × (new ≡ found area log)
IsLogStep k old (Restarts next area log) new = IsLeft old area log × ((analysis k log).next ≤ next) × (new ≡ renewed_over k next area log)

-- what appending a record does to the kept sets: a commit adds the view of its transaction
abbrev pub append_move : {E P : Type 0} → Known E P → Logged E P → Record E P → Move E
append_move k s (Pages images counter used) = Stays
append_move k s (Adjust page change) = Stays
append_move k s (Write transaction entry before after leaf said) = Stays
append_move k s (Commit transaction number) = Seals (view_of k transaction s.area (all_records s))
append_move k s (End transaction) = Stays
append_move k s (Counters number counter used next) = Stays
append_move k s (Note transaction entry before leaf) = Stays

-- what each step does to them
abbrev pub move_of : {E P : Type 0} → Known E P → Logged E P → LogStep E P → Move E
move_of k s (Appends r) = append_move k s r
move_of k s Begins = Stays
move_of k s Syncs = Durable
move_of k s (WritesPages area) = Stays
move_of k s (Renews next) = Stays
move_of k s (LosesPower area log) = Crashes
move_of k s (Restarts next area log) = Crashes

-- a life: from old, these steps lead to new
abbrev pub IsLife : {E P : Type 0} → Known E P → Logged E P → List (LogStep E P) → Logged E P → Type 0
IsLife k old [] new = new ≡ old
IsLife {E} {P} k old (step ∷ steps) new = (middle : Logged E P) × IsLogStep k old step middle × IsLife k middle steps new

-- what the steps of a life do to the kept sets
abbrev pub moves_of : {E P : Type 0} → (k : Known E P) → (old : Logged E P) → (steps : List (LogStep E P)) → (new : Logged E P) → IsLife k old steps new → List (Move E)
moves_of k old [] new life = []
moves_of k old (step ∷ steps) new life = move_of k old step ∷ moves_of k life.0 steps new life.2

-- from old, these moves of the kept sets lead to new
abbrev pub AreMoves : {E : Type 0} → Kept E → List (Move E) → Kept E → Type 0
AreMoves old [] new = new ≡ old
AreMoves {E} old (move ∷ moves) new = (middle : Kept E) × IsMove old move middle × AreMoves middle moves new
