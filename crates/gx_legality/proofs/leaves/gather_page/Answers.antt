use Rattle.std.proofs.Common.{◌++◌, ◌∙◌, ◌+◌, map, drop}
use Rattle.gx_machine.specs.Keys.{entry_cmp}
use Rattle.gx_node.specs.Edits.{entry_of}
use Rattle.gx_node.specs.Reading.{format_of}
use Rattle.gx_node.specs.Store.{node_of}
use Rattle.gx_legality.proofs.leaves.Taken.{page_goes, page_ends, none_past}
use Rattle.gx_legality.proofs.leaves.gather_page.Goals as goal

pub returns-in_default-clause-gathers : goal.returns-in_default-clause-gathers
returns-in_default-clause-gathers g c = λ all rest was.
    let order = entry_cmp (record { cmp = g.K.Key.Ord.cmp; overlaps = g.K.Key.Shape.overlap; within = g.K.Key.Shape.inside }) in
    let pairs = (node_of (format_of g.K.KeyClass) c.args.page.now).pairs in
    page_ends order entry_of c.loop-slot.gather all rest pairs c.loop-slot.slot (none_past pairs c.loop-slot.slot c.in_default.ensures)
    (c.loop-slot.invariant.1 all rest was)

pub returns-then-not-offer-clause-gathers : goal.returns-then-not-offer-clause-gathers
returns-then-not-offer-clause-gathers g c = λ all rest was.
    let order = entry_cmp (record { cmp = g.K.Key.Ord.cmp; overlaps = g.K.Key.Shape.overlap; within = g.K.Key.Shape.inside }) in
    let pairs = (node_of (format_of g.K.KeyClass) c.args.page.now).pairs in
    let pair = c.in-Some.ensures in
    c.if-not-offer.ensures.gathers all (map entry_of (drop (c.loop-slot.slot + 1) pairs) ++ rest)
    (page_goes order entry_of c.loop-slot.gather all rest pairs c.loop-slot.slot pair.0 c.in-Some.entry pair.1 pair.2 (c.loop-slot.invariant.1 all rest was))

pub loop-slot-preserved : goal.loop-slot-preserved
loop-slot-preserved g c =
    let order = entry_cmp (record { cmp = g.K.Key.Ord.cmp; overlaps = g.K.Key.Shape.overlap; within = g.K.Key.Shape.inside }) in
    let pairs = (node_of (format_of g.K.KeyClass) c.args.page.now).pairs in
    let pair = c.in-Some.ensures in (
      c.offer.ensures.above ∙ c.loop-slot.invariant.0,
      λ all rest was. c.if-not-offer.ensures.gathers all (map entry_of (drop (c.loop-slot.slot + 1) pairs) ++ rest)
          (page_goes order entry_of c.loop-slot.gather all rest pairs c.loop-slot.slot pair.0 c.in-Some.entry pair.1 pair.2 (c.loop-slot.invariant.1 all rest was)),
    )
