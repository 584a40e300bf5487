use Rattle.std.proofs.Common.{◌≡◌, ◌+◌, ◌≤◌, drop, vec_len, vec_capacity}
use Rattle.gx_machine.specs.Keys.{keys}
use Rattle.gx_machine.specs.Sets.{including_all}
use Rattle.gx_machine.proofs.sets.include_all.Given as goal

-- the set so far, with the rest added, is the set in the end; and there is room for the rest
abbrev pub invariant-loop-e : goal.invariant-loop-e
invariant-loop-e g l =
    let k = keys g.B.Ord.cmp g.B.Shape.overlap g.B.Shape.inside in
    record {
      items : including_all k (drop l.e-index l.more) l.set.items ≡ including_all k l.more l.initial.set.items;
      grown : vec_len l.set ≤ vec_len l.initial.set + l.e-index;
      room : vec_capacity l.initial.set ≤ vec_capacity l.set;
    }
