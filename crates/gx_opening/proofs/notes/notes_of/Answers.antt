use Rattle.std.proofs.Common.{◌≡◌, Some, length, refl, arith, subst}
use Rattle.std.specs.Prelude.{slice_get}
use Rattle.std.proofs.lemmas.Option.{slice_get_read}
use Rattle.gx_legality.specs.declared.notes.NotedPair.{NotedPair}
use Rattle.gx_opening.specs.Noting.{AreNoted, IsPut, note_of}
use Rattle.gx_opening.proofs.notes.Noting.{noted_more}
use Rattle.gx_opening.proofs.notes.notes_of.Goals as goal

pub loop-at-preserved : goal.loop-at-preserved
loop-at-preserved g c =
    let touched = c.args.touched.now in
    let touch = c.index-touched-at.result in
    let cmp = g.E.Ord.cmp in
    let there : slice_get touched c.loop-at.at ≡ Some touch = slice_get_read touched (length touched) c.loop-at.at touch refl c.loop-at-test.true c.index-touched-at.is in
    let same : (record { entry = c.entry.result; leaf = c.leaf.result }) ≡ note_of touch = rw (c.entry.ensures, c.leaf.ensures) refl in
    noted_more cmp g.met.E.Ord.total touched c.loop-at.at touch c.loop-at.notes.items c.insert_note.new.notes.items there c.loop-at.invariant
    (subst (λ (x : NotedPair g.row.E.Denot). IsPut cmp x c.loop-at.notes.items c.insert_note.new.notes.items) same c.in_ok-insert_note.ensures)

pub returns : goal.returns
returns g c =
    let all : c.loop-at.at ≡ length c.args.touched.now = omega arith in
    subst (λ n. AreNoted g.E.Ord.cmp c.args.touched.now n c.loop-at.notes.items) all c.loop-at.invariant
