use Rattle.std.proofs.Common.{arith}
use Rattle.gx_recovery.specs.declared.closed.TheConstants.{CLOSINGS}
use Rattle.gx_recovery.proofs.closed.Searching.{closes_behind, closes_sorted, closes_twice, few_joined}
use Rattle.gx_recovery.proofs.closed.Closed.add.Goals as goal

pub sort_among-requires-then-len : goal.sort_among-requires-then-len
sort_among-requires-then-len c =
    let i = c.self.inside in
    let room = rw (← c.self.view_is) at c.requires.room in
    let few = few_joined c.args.t i.others.items i.later.items i.recent.items c.put.new.numbers.items c.sort_among.new.others.items CLOSINGS c.put.ensures.one c.sort_among.ensures.all room in
    omega (arith, few, c.self.invariant.0)

pub returns-then-len : goal.returns-then-len
returns-then-len c =
    let i = c.self.inside in
    let later = closes_sorted c.args.t i.later.items i.recent.items c.put.new.numbers.items _ _ c.put.ensures.one c.sort_among.ensures.all c.sort_among.ensures.none in
    rw (← c.self.view_is) (closes_twice c.args.t i.others.items _ _ _ _ _ later c.sort_among.ensures.none c.sort_among-then-len.ensures.all c.sort_among-then-len.ensures.none)

pub returns-else-len : goal.returns-else-len
returns-else-len c =
    let i = c.self.inside in
    let later = closes_sorted c.args.t i.later.items i.recent.items c.put.new.numbers.items _ _ c.put.ensures.one c.sort_among.ensures.all c.sort_among.ensures.none in
    rw (← c.self.view_is) (closes_behind c.args.t i.others.items _ _ later)
