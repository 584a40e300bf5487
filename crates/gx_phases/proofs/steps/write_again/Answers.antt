use Rattle.std.proofs.Common.{◌∙◌, ap, get_or, List}
use Rattle.gx_machine.specs.Keys.{keys, IsLawful}
use Rattle.gx_txn.specs.declared.note.Note.{Note}
use Rattle.gx_phases.proofs.Moved.{claims_noted, moved_in}
use Rattle.gx_phases.proofs.steps.write_again.Goals as goal

pub note-requires-clause-claimed : goal.note-requires-clause-claimed
note-requires-clause-claimed g c =
    let k = keys g.B.Ord.cmp g.B.Shape.overlap g.B.Shape.inside in
    let lawful : IsLawful k = record { total = g.met.B.Ord.total; exact = g.met.B.Shape.same } in
    let n = c.index-notes-place.result in
    let is = c.index-notes-place.is ∙ ap (λ (ns : List (Note g.row.B.Denot)). get_or ns c.args.place n) c.notes.ensures.notes in
    claims_noted k lawful c.args.session c.args.table.now c.notes.ensures.kept c.args.place c.requires.there n is

pub returns : goal.returns
returns g c =
    let k = keys g.B.Ord.cmp g.B.Shape.overlap g.B.Shape.inside in
    let lawful : IsLawful k = record { total = g.met.B.Ord.total; exact = g.met.B.Shape.same } in
    let n = c.index-notes-place.result in
    let is = c.index-notes-place.is ∙ ap (λ (ns : List (Note g.row.B.Denot)). get_or ns c.args.place n) c.notes.ensures.notes in
    moved_in k lawful c.args.session c.args.table.now c.notes.ensures.kept c.args.place c.requires.there n is c.args.leaf c.note.new.self c.note.ensures
