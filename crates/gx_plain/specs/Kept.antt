-- What the plain index keeps.
use Rattle.std.specs.Prelude.{ℕ, ◌≡◌, ◌≤◌, ◌<◌, ◌+◌, sum_by, length, List}
use Rattle.std.specs.List.{slice_index_or}
use Rattle.gx_machine.specs.declared.entry.Entry.{Entry}
use Rattle.gx_machine.specs.declared.limits.TheConstants.{LAST_NUMBER, MAX_CLAIMS, SESSIONS}
use Rattle.gx_machine.specs.Keys.{Keys}
use Rattle.gx_machine.specs.Sessions.{Session, Idle}
use Rattle.gx_machine.specs.Sets.{InOrder}
use Rattle.gx_machine.specs.Machine.{claims_held}
use Rattle.gx_plain.specs.Slots.{CanAnswer, added_by, opened_by}

-- what the plain index keeps of its parts: eight sessions, claims within their places, room for all that was
-- added, numbers left for the open transactions, and the set in order
pub record IsKept {B : Type 0} (k : Keys B) (latest : List (Entry B)) (capacity commits next : ℕ) (sessions : List (Session B)) : Type 0 where
  pub eight : length sessions ≡ SESSIONS
  pub answerable : (place : ℕ) → CanAnswer commits (slice_index_or sessions place Idle)
  pub claims : claims_held sessions ≤ MAX_CLAIMS
  pub room : length latest + sum_by added_by sessions ≤ capacity
  pub commits_left : commits + sum_by opened_by sessions < LAST_NUMBER + SESSIONS
  pub next_left : next ≤ LAST_NUMBER
  pub in_order : InOrder k latest
