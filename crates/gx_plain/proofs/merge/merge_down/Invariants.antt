use Rattle.std.proofs.Common.{◌≡◌, ◌+◌, ◌≤◌, ◌++◌, length, take, drop}
use Rattle.gx_machine.specs.Keys.{keys}
use Rattle.gx_machine.specs.Sets.{including_all}
use Rattle.gx_plain.proofs.merge.merge_down.Given as goal

-- the entries from left on are put in, among those from end on; before end all is unchanged
abbrev pub invariant-loop-left : goal.invariant-loop-left
invariant-loop-left g l =
    let k = keys g.B.Ord.cmp g.B.Shape.overlap g.B.Shape.inside in
    (l.end ≤ l.count) × (l.left ≤ length l.more) × (take l.end l.set ≡ take l.end l.initial.set)
    × (including_all k l.more (take l.count l.initial.set) ≡ including_all k (take l.left l.more) (take l.end l.initial.set) ++ drop (l.end + l.left) l.set)

abbrev pub decreases-loop-left : goal.decreases-loop-left
decreases-loop-left g l = l.left
