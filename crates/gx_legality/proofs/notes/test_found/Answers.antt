use Rattle.std.proofs.Common.{◌≡◌, Some, ap, arith, rules}
use Rattle.std.specs.Prelude.{slice_get}
use Rattle.std.proofs.lemmas.Option.{slice_get_within}
use Rattle.gx_legality.specs.declared.notes.NotedPair.{NotedPair}
use Rattle.gx_legality.proofs.notes.Noted.{note_at}
use Rattle.gx_legality.proofs.notes.test_found.Goals as goal

pub returns-then-not-is_found-clause-refused : goal.returns-then-not-is_found-clause-refused
returns-then-not-is_found-clause-refused g c =
    let notes = c.args.notes.now in
    let x = c.index-notes-at.result in
    let there : slice_get notes c.loop-at.at ≡ Some x = note_at notes c.loop-at.at x (omega arith) c.index-notes-at.is in
    (c.loop-at.at, x, there, ap (λ (n : NotedPair g.row.E.Denot). n.leaf) c.index-notes-at.is, search rules)

pub returns-clause-found : goal.returns-clause-found
returns-clause-found g c = λ i n here.
    let low = slice_get_within c.args.notes.now i n here in
    c.loop-at.invariant i (omega (arith, low))
