-- The parts of a log, in which other records may come.
use Rattle.std.specs.Prelude.{◌≡◌, Bool, true, List, [], ◌++◌, Result, Ok, Err}
use Rattle.gx_geom.specs.declared.refusal.Refusal.{Refusal}
use Rattle.gx_geom.specs.declared.refusal.Refusal.TheVariants.{Damaged}
use Rattle.gx_recovery.specs.Known.{Known}
use Rattle.gx_recovery.specs.Records.{Record}
use Rattle.gx_recovery.specs.Damage.{is_head, follow, IsLog}
use Rattle.gx_found_log.specs.declared.part.Part.{Part}
use Rattle.gx_found_log.specs.declared.part.Part.TheVariants.{Start, Head, Later}

-- the part of the record behind one of that part, as long as the body goes on
abbrev pub part_behind : Part → Part
part_behind Start = Head
part_behind Head = Head
part_behind Later = Later

-- a log is read so far that this part comes next
abbrev pub IsBegun : {E P : Type 0} → Part → Known E P → List (Record E P) → Type 0
IsBegun Start k log = log ≡ []
IsBegun Head k log = is_head k log ≡ true
IsBegun Later k log = IsLog k log

-- whether these records may come next, as the rest of a body of that part
abbrev pub may_go_on : {E P : Type 0} → Part → Known E P → (log more : List (Record E P)) → Bool
may_go_on Start k log more = is_head k (log ++ more)
may_go_on Head k log more = is_head k (log ++ more)
may_go_on Later k log more = follow k log more

-- the outcome of a body that ends where this part would go on: a first body has its counters
abbrev pub ended : Part → Result (Unit {0}) Refusal
ended Start = Err Damaged
ended Head = Ok tt
ended Later = Ok tt
