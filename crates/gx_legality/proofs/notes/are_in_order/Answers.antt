use Rattle.std.proofs.Common.{◌≡◌, ◌≢◌, ◌-◌, ◌≤◌, Some, length, arith, rules}
use Rattle.std.specs.Prelude.{slice_get}
use Rattle.std.specs.declared.cmp.Ordering.TheVariants.{Less}
use Rattle.gx_legality.proofs.notes.Noted.{note_at, noted_less, rises_more, all_rise}
use Rattle.gx_legality.proofs.notes.are_in_order.Goals as goal

pub returns-then-ne : goal.returns-then-ne
returns-then-ne g c =
    let notes = c.args.notes.now in
    let at = c.loop-at.at in
    let x = c.index-notes-at.result in
    let y = c.index-notes-at-in-loop-at.result in
    let first : slice_get notes (at - 1) ≡ Some x = note_at notes (at - 1) x (omega arith) c.index-notes-at.is in
    let second : slice_get notes at ≡ Some y = note_at notes at y (omega arith) c.index-notes-at-in-loop-at.is in
    let ne : g.E.Ord.cmp x.entry y.entry ≢ Less = search rules in (
      λ no. absurd (cc),
      λ up. absurd (ne (noted_less g.E.Ord.cmp g.met.E.Ord.total notes (at - 1) at x y up (omega arith) first second)),
    )

pub loop-at-preserved : goal.loop-at-preserved
loop-at-preserved g c =
    let notes = c.args.notes.now in
    let at = c.loop-at.at in
    let x = c.index-notes-at.result in
    let y = c.index-notes-at-in-loop-at.result in
    let first : slice_get notes (at - 1) ≡ Some x = note_at notes (at - 1) x (omega arith) c.index-notes-at.is in
    let second : slice_get notes at ≡ Some y = note_at notes at y (omega arith) c.index-notes-at-in-loop-at.is in
    let less : g.E.Ord.cmp x.entry y.entry ≡ Less = search rules in
    rises_more g.E.Ord.cmp g.met.E.Ord.total notes at x y first second less c.loop-at.invariant

pub returns : goal.returns
returns g c =
    let all : length c.args.notes.now ≤ c.loop-at.at = omega arith in (
      λ yes. all_rise g.E.Ord.cmp g.met.E.Ord.total c.args.notes.now c.loop-at.at all c.loop-at.invariant,
      λ up. search rules,
    )
