-- The notes that sessions keep, as what the log's transactions have touched.
use Rattle.std.specs.Prelude.{ℕ, ◌≡◌, ◌≤◌, ◌-◌, ◌==◌, nat_lt, Bool, true, false, filter, length, map, List, [], ◌∷◌}
use Rattle.std.specs.List.{AllByRecursion}
use Rattle.gx_machine.specs.declared.entry.Entry.{Entry}
use Rattle.gx_machine.specs.Machine.{is_session}
use Rattle.gx_machine.specs.declared.limits.TheConstants.{MAX_CLAIMS}
use Rattle.gx_recovery.specs.Records.{Touch}
use Rattle.gx_txn.specs.declared.note.Note.{Note}
use Rattle.gx_phases.specs.declared.phase.Phase.{Phase}
use Rattle.gx_phases.specs.declared.phase.Phase.TheVariants.{Free, Working, Open, Undoing, Waiting}
use Rattle.gx_phases.specs.Moves.{transaction_of}
use Rattle.gx_phases.specs.States.{State, held_at, phase_at}

-- a session has a transaction that is neither committed nor undone
abbrev pub has_transaction : {B W : Type 0} → Phase B W → Bool
has_transaction Free = false
has_transaction Working = true
has_transaction (Open call work) = true
has_transaction (Undoing restored work) = true
has_transaction (Waiting number) = false

-- a transaction's note, as a touch of the log
abbrev pub touch_by : {B : Type 0} → ℕ → Note B → Touch (Entry B)
touch_by t n = record { transaction = t; entry = n.entry; before = n.before; leaf = n.leaf }

-- what a transaction has touched, and what those before a number have
abbrev pub touched_by : {E : Type 0} → ℕ → List (Touch E) → List (Touch E)
touched_by t xs = filter (λ x. x.transaction == t) xs

abbrev pub touched_before : {E : Type 0} → ℕ → List (Touch E) → List (Touch E)
touched_before n xs = filter (λ x. nat_lt x.transaction n) xs

-- touches of transactions from this number on; and touches by transactions in turn
abbrev pub AreFrom : {E : Type 0} → ℕ → List (Touch E) → Type 0
AreFrom n [] = Unit {0}
AreFrom n (x ∷ xs) = (n ≤ x.transaction) × AreFrom n xs

abbrev pub AreInTurn : {E : Type 0} → List (Touch E) → Type 0
AreInTurn [] = Unit {0}
AreInTurn (x ∷ xs) = AreFrom x.transaction xs × AreInTurn xs

-- a session has the transaction of this number
pub record HasIt {B : Type 0} {W : Type 0} (sessions : State B W) (t : ℕ) (session : ℕ) : Type 0 where
  pub is : is_session session ≡ true
  pub busy : has_transaction (phase_at (session - 1) sessions.phases) ≡ true
  pub its : transaction_of session sessions ≡ t

-- each session's notes are what its transaction has touched
abbrev pub AreTold : {B W : Type 0} → State B W → List (Touch (Entry B)) → Type 0
AreTold sessions xs = (session : ℕ) → is_session session ≡ true → has_transaction (phase_at (session - 1) sessions.phases) ≡ true
    → touched_by (transaction_of session sessions) xs ≡ map (touch_by (transaction_of session sessions)) (held_at (session - 1) sessions.table).notes

-- The touches of a log are what sessions have noted: by transactions in turn, each of which some session has; and each session's
-- are its notes.
pub record AreNoted {B : Type 0} {W : Type 0} (sessions : State B W) (xs : List (Touch (Entry B))) : Type 0 where
  pub in_turn : AreInTurn xs
  pub had : AllByRecursion (λ x. (session : ℕ) × HasIt sessions x.transaction session) xs
  pub notes : AreTold sessions xs
  pub few : length xs ≤ MAX_CLAIMS
