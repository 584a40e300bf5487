use Rattle.std.proofs.Common.{rules}
use Rattle.std.proofs.lemmas.List.Sorted.{answers_always}
use Rattle.gx_machine.specs.Keys.{keys, IsLawful}
use Rattle.gx_txn.proofs.Noted.{note_searched}
use Rattle.gx_txn.proofs.search.find_note.Goals as goal

-- the closure gives a note's entry
pub returns : goal.returns
returns g c =
    let k = keys g.B.Ord.cmp g.B.Shape.overlap g.B.Shape.inside in
    let lawful : IsLawful k = record { total = g.met.B.Ord.total; exact = g.met.B.Shape.same } in
    let facts = c.binary_search_by_key.ensures in
    let by_key = facts.position (λ n. n.entry) (answers_always _ _ _ (λ f a r g called. search rules)) in
    note_searched k lawful c.args.note.now c.args.notes.now c.binary_search_by_key.result c.requires facts.bound by_key
