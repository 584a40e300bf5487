use Rattle.std.proofs.Common.{◌≡◌, ◌<◌, ◌+◌, ◌-◌, ◌/◌, Some, length, arith, rules}
use Rattle.std.specs.Prelude.{slice_get}
use Rattle.std.specs.declared.cmp.Ordering.TheVariants.{Less, Equal, Greater}
use Rattle.gx_legality.proofs.notes.Noted.{note_at, before_middle, after_middle, only_noted}
use Rattle.gx_legality.proofs.notes.find.Goals as goal

pub loop-low-preserved-in-Less : goal.loop-low-preserved-in-Less
loop-low-preserved-in-Less g c =
    let notes = c.args.notes.now in
    let at = c.loop-low.low + (c.loop-low.high - c.loop-low.low) / 2 in
    let x = c.index-notes-middle.result in
    let high = c.loop-low.invariant.high in
    let there : slice_get notes at ≡ Some x = note_at notes at x (omega (arith, high)) c.index-notes-middle.is in
    let is : g.E.Ord.cmp x.entry c.args.entry.now ≡ Less = search rules in
    record {
      high = high;
      before = λ i m low here. before_middle g.E.Ord.cmp g.met.E.Ord.total notes c.args.entry.now at i x m c.requires there is low here;
      after = c.loop-low.invariant.after;
    }

pub returns-in-Equal : goal.returns-in-Equal
returns-in-Equal g c =
    let notes = c.args.notes.now in
    let at = c.loop-low.low + (c.loop-low.high - c.loop-low.low) / 2 in
    let x = c.index-notes-middle.result in
    let high = c.loop-low.invariant.high in
    let within : at < length notes = omega (arith, high) in
    let there : slice_get notes at ≡ Some x = note_at notes at x within c.index-notes-middle.is in
    let is : g.E.Ord.cmp x.entry c.args.entry.now ≡ Equal = search rules in
    (within, only_noted g.E.Ord.cmp g.met.E.Ord.total notes c.args.entry.now at x c.requires there is)

pub loop-low-preserved : goal.loop-low-preserved
loop-low-preserved g c =
    let notes = c.args.notes.now in
    let at = c.loop-low.low + (c.loop-low.high - c.loop-low.low) / 2 in
    let x = c.index-notes-middle.result in
    let high = c.loop-low.invariant.high in
    let there : slice_get notes at ≡ Some x = note_at notes at x (omega (arith, high)) c.index-notes-middle.is in
    let is : g.E.Ord.cmp x.entry c.args.entry.now ≡ Greater = search rules in
    record {
      high = omega (arith, high);
      before = c.loop-low.invariant.before;
      after = λ i m low here. after_middle g.E.Ord.cmp g.met.E.Ord.total notes c.args.entry.now at i x m c.requires there is low here;
    }
