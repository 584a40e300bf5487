use Rattle.std.proofs.Common.{◌≡◌, drop}
use Rattle.std.specs.List.{filter}
use Rattle.gx_machine.specs.Keys.{keys, matches}
use Rattle.gx_machine.specs.Sets.{including_all}
use Rattle.gx_plain.proofs.views.search.Given as goal

-- what is found so far, with what matches of the rest, is what is found in the end
abbrev pub invariant-loop-e : goal.invariant-loop-e
invariant-loop-e g l =
    let k = keys g.B.Ord.cmp g.B.Shape.overlap g.B.Shape.inside in
    including_all k (filter (matches k l.query) (drop l.e-index l.added)) l.out.items ≡ including_all k (filter (matches k l.query) l.added) l.initial.out.items
