use Rattle.gx_engine.specs.Heads.{IsNextOf, from_of}
use Rattle.gx_engine.proofs.heads.next_noted.Given as goal

-- the next one of the sessions so far
abbrev pub invariant-loop-place : goal.invariant-loop-place
invariant-loop-place g l = IsNextOf l.sessions (from_of l.after) l.place l.next
