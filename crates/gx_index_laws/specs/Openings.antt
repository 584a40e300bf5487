-- An index that is opened over what a crash left: the page area and the log that are found, and a session for each
-- transaction that was cut off, to undo it.
use Rattle.std.specs.Prelude.{◌≡◌, ◌≤◌, Bool, true, All, ℕ, zero, suc, ◌-◌, not, ◌||◌, ◌==◌, if◌then◌else◌, false, map, List, [], ◌∷◌}
use Rattle.std.specs.List.{list_any, slice_index_or, filter}
use Rattle.gx_machine.specs.declared.entry.Entry.{Entry}
use Rattle.gx_machine.specs.Sets.{IsSetOf}
use Rattle.gx_machine.specs.Machine.{Machine, newest, set_of}
use Rattle.gx_events.specs.Slots.{Note}
use Rattle.gx_events.specs.Happenings.{Happening, Durable, Fails}
use Rattle.gx_events.specs.Losers.{loser_slot, is_of_opening}
use Rattle.gx_recovery.specs.Records.{Record, Touch}
use Rattle.gx_recovery.specs.Analysis.{analysis, number_of}
use Rattle.gx_recovery.specs.Standing.{stands_for}
use Rattle.gx_recovery.specs.Redo.{tree_of}
use Rattle.gx_recovery.specs.Damage.{IsLog}
use Rattle.gx_recovery.specs.Coming.{IsGood}
use Rattle.gx_recovery.specs.Logged.{IsLeft}
use Rattle.gx_recovery.specs.Renewal.{found}
use Rattle.gx_index_laws.specs.Classes.{Class, Page, known_of}
use Rattle.gx_index_laws.specs.States.{State, Rests}
use Rattle.gx_index_laws.specs.Happening.{AreHappening}

-- the transactions of these touches, each once
abbrev pub numbers_of : {E : Type 0} → List (Touch E) → List ℕ
numbers_of [] = []
numbers_of (x ∷ xs) = if list_any (λ y. y.transaction == x.transaction) xs then numbers_of xs else x.transaction ∷ numbers_of xs

-- a touch as a note: a mark says whether the entry was marked or absent
abbrev pub note_of : {B : Type 0} → Touch (Entry B) → Note B
note_of x = record { entry = x.entry; was_live = not x.before }

-- what a transaction has to undo
abbrev pub notes_for : {B : Type 0} → List (Touch (Entry B)) → ℕ → List (Note B)
notes_for xs t = map note_of (filter (λ x. x.transaction == t) xs)

-- a list of so many: what each of these transactions has, and then none
abbrev pub listed_for : {X : Type 0} → ℕ → (ℕ → List X) → List ℕ → List (List X)
listed_for zero f ts = []
listed_for (suc n) f [] = [] ∷ listed_for n f []
listed_for (suc n) f (t ∷ ts) = f t ∷ listed_for n f ts

-- what each session undoes
abbrev pub losers_of : {B : Type 0} → List (Touch (Entry B)) → List (List (Note B))
losers_of xs = listed_for 8 (notes_for xs) (numbers_of xs)

-- the index that is found over an area and a log, with this as the next transaction's number
abbrev pub found_state : {B : Type 0} → Class B → ℕ → (ℕ → Page B) → List (Record (Entry B) (Page B)) → State B
found_state c next area log = record {
  log = found area log;
  next = next;
  slots = map loser_slot (losers_of (analysis (known_of c) log).touched);
  transaction = λ a. slice_index_or (numbers_of (analysis (known_of c) log).touched) (a - 1) 0;
  work = λ a. Rests;
  restored = λ a. [];
  older = [];
  oldest = number_of (known_of c) log;
  failed = false;
}

-- The events of an opening: its undo, and the log's. Its records are gated like any others, but nothing is durable then that
-- wasn't, since no commit is among them.
abbrev pub is_in_opening : {B : Type 0} → Happening B → Bool
is_in_opening (Durable number) = true
is_in_opening event = is_of_opening event

abbrev pub is_fault : {B : Type 0} → Happening B → Bool
is_fault Fails = true
is_fault event = false

-- what a crash left, the next transaction's number of the opening over it, and what that opening did
pub record Try (B : Type 0) : Type 0 where
  pub area : ℕ → Page B
  pub log : List (Record (Entry B) (Page B))
  pub next : ℕ
  pub events : List (Happening B)

-- An opening goes this far, over an undamaged log and pages that are good for it. Faults may have come.
pub record GoesOpening {B : Type 0} (c : Class B) (one : Try B) (s : State B) : Type 0 where
  pub is_log : IsLog (known_of c) one.log
  pub good : IsGood (known_of c) (tree_of (known_of c) one.area one.log) one.log
  pub covers : (analysis (known_of c) one.log).next ≤ one.next
  pub happening : AreHappening c (found_state c one.next one.area one.log) one.events s
  pub of_opening : All (λ event. (is_in_opening event || is_fault event) ≡ true) one.events

-- an opening over what a crash left of an index: no event is another than of an opening
pub record IsRestart {B : Type 0} (c : Class B) (old : State B) (one : Try B) (new : State B) : Type 0 where
  pub left : IsLeft old.log one.area one.log
  pub covers : (analysis (known_of c) one.log).next ≤ one.next
  pub happening : AreHappening c (found_state c one.next one.area one.log) one.events new
  pub of_opening : All (λ event. is_in_opening event ≡ true) one.events

-- openings one after another, of which a crash cuts off each but the last
abbrev pub AreRestarts : {B : Type 0} → Class B → State B → Try B → List (Try B) → State B → Type 0
AreRestarts c old one [] new = IsRestart c old one new
AreRestarts {B} c old one (again ∷ tries) new = (cut : State B) × IsRestart c old one cut × AreRestarts c cut again tries new

-- a page area with a log on it stands for the set that a machine keeps under the log's number
pub record IsKeptBy {B : Type 0} (c : Class B) (m : Machine B) (area : ℕ → Page B) (log : List (Record (Entry B) (Page B))) : Type 0 where
  pub at_least : m.oldest ≤ number_of (known_of c) log
  pub at_most : number_of (known_of c) log ≤ newest m
  pub set : IsSetOf c.keys (stands_for (known_of c) area log) (set_of (number_of (known_of c) log) m)
