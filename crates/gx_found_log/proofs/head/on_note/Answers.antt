use Rattle.std.proofs.Common.{ap}
use Rattle.gx_record.specs.Rec as rec
use Rattle.gx_record.specs.Seen.{is_marked, rec_of}
use Rattle.gx_recovery.specs.Broken.{refused}
use Rattle.gx_found_log.specs.declared.part.Part.TheVariants.{Head}
use Rattle.gx_found_log.proofs.Told.{note_comes, no_entry_noted}
use Rattle.gx_found_log.proofs.Broken.{keyless, note_broken}
use Rattle.gx_found_log.proofs.head.on_note.Goals as goal

pub returns-in-Some-clause-told : goal.returns-in-Some-clause-told
returns-in-Some-clause-told g c = λ d ordered.
    let w = c.in-Note in
    note_comes (g.M.Meaning.known d) g.M.Spelled.reading (g.met.M.Readable.lawful d) g.M.Entry.Ord.cmp ordered (rec_of c.args.logged.now) w.tx w.row w.key.now
    (is_marked w.before) w.leaf (ap rec_of w.is) (c.in-Some.ensures.of_class d) c.in-Some.touch c.in-Some.ensures.touch c.args.analysis.now c.on_note.new.self (refused c.on_note.result) c.on_note.ensures.takes

pub returns-in-None-clause-told : goal.returns-in-None-clause-told
returns-in-None-clause-told g c = λ d ordered.
    let w = c.in-Note in
    no_entry_noted (g.M.Meaning.known d) g.M.Spelled.reading (g.met.M.Readable.lawful d) (rec_of c.args.logged.now) w.tx w.row w.key.now
    (is_marked w.before) w.leaf (ap rec_of w.is) (c.in-None.ensures.of_class d) c.args.analysis.now c.args.analysis.now

pub returns-in-Some-clause-broken : goal.returns-in-Some-clause-broken
returns-in-Some-clause-broken g c = λ d ordered.
    let w = c.in-Note in
    note_broken (g.M.Meaning.known d) g.M.Spelled.reading g.M.Entry.Ord.cmp ordered (rec_of c.args.logged.now) w.tx w.row w.key.now
    (is_marked w.before) w.leaf (ap rec_of w.is) c.in-Some.touch c.in-Some.ensures.touch c.args.analysis.now c.on_note.result c.on_note.ensures.rule

pub returns-in-None-clause-broken : goal.returns-in-None-clause-broken
returns-in-None-clause-broken g c = λ d ordered.
    let w = c.in-Note in
    keyless (g.M.Meaning.known d) g.M.Spelled.reading Head (rec_of c.args.logged.now) (rec.Note w.tx w.row w.key.now (is_marked w.before) w.leaf) c.args.analysis.now
    (ap rec_of w.is) (c.in-None.ensures.of_class d)
