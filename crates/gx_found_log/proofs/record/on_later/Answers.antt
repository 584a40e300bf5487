use Rattle.std.proofs.Common.{◌+◌, ◌≤◌, length, ap, arith, refl, subst}
use Rattle.gx_record.specs.Rec as rec
use Rattle.gx_record.specs.Seen.{is_marked, rec_of, images}
use Rattle.gx_recovery.specs.declared.closed.TheConstants.{CLOSINGS}
use Rattle.gx_recovery.specs.Broken.{refused, breaks_pages, breaks_commit, breaks_end}
use Rattle.gx_found_log.specs.declared.part.Part.TheVariants.{Later}
use Rattle.gx_found_log.specs.Told.{page_numbers, closings}
use Rattle.gx_found_log.proofs.Broken.{next_broken, write_broken, bit_broken, add_broken}
use Rattle.gx_found_log.proofs.Told.{pages_come, write_comes, bit_comes, add_comes, is_adjusting, adjust_comes, commit_comes, end_comes}
use Rattle.gx_found_log.proofs.record.on_later.Goals as goal

pub on_commit-requires : goal.on_commit-requires
on_commit-requires g c =
    let room = subst (λ (x : rec.Rec). length c.args.analysis.now.closed + closings x ≤ CLOSINGS) (ap rec_of c.in-Commit.is) c.requires.room in omega (arith, room)

pub on_end-requires : goal.on_end-requires
on_end-requires g c =
    let room = subst (λ (x : rec.Rec). length c.args.analysis.now.closed + closings x ≤ CLOSINGS) (ap rec_of c.in-End.is) c.requires.room in omega (arith, room)

pub returns-in-Pages-clause-told : goal.returns-in-Pages-clause-told
returns-in-Pages-clause-told g c = λ d ordered.
    pages_come (g.M.Meaning.known d) g.M.Spelled.reading (g.met.M.Readable.lawful d) (g.met.M.Readable.own d) (rec_of c.args.logged.now) c.in-Pages.counter c.in-Pages.used (images c.in-Pages.pages)
    (ap rec_of c.in-Pages.is) c.requires.is_record c.args.analysis.now c.on_pages.new.analysis (refused c.on_pages.result) c.on_pages.ensures.takes

pub returns-in-Write-clause-told : goal.returns-in-Write-clause-told
returns-in-Write-clause-told g c = λ d ordered.
    let w = c.in-Write in
    write_comes (g.M.Meaning.known d) g.M.Spelled.reading (g.met.M.Readable.lawful d) (g.met.M.Readable.own d) g.M.Entry.Ord.cmp ordered (rec_of c.args.logged.now) w.tx w.row w.key.now
    (is_marked w.before) (is_marked w.after) w.leaf w.image.now (ap rec_of w.is) c.requires.is_record c.args.analysis.now c.on_written.new.analysis c.on_written.result
    (c.on_written.ensures.takes d) (c.on_written.ensures.keyless d)

pub returns-in-Bit-clause-told : goal.returns-in-Bit-clause-told
returns-in-Bit-clause-told g c = λ d ordered.
    let w = c.in-Bit in
    bit_comes (g.M.Meaning.known d) g.M.Spelled.reading (g.met.M.Readable.lawful d) g.M.Entry.Ord.cmp ordered (rec_of c.args.logged.now) w.tx w.row w.key.now
    (is_marked w.before) (is_marked w.after) w.leaf (ap rec_of w.is) c.args.analysis.now c.on_written-in-Bit.new.analysis c.on_written-in-Bit.result
    (c.on_written-in-Bit.ensures.takes d) (c.on_written-in-Bit.ensures.keyless d)

pub returns-in-Add-clause-told : goal.returns-in-Add-clause-told
returns-in-Add-clause-told g c = λ d ordered.
    let w = c.in-Add in
    add_comes (g.M.Meaning.known d) g.M.Spelled.reading (g.met.M.Readable.lawful d) g.M.Entry.Ord.cmp ordered (rec_of c.args.logged.now) w.tx w.row w.key.now
    w.leaf (ap rec_of w.is) c.args.analysis.now c.on_written-in-Add.new.analysis c.on_written-in-Add.result (c.on_written-in-Add.ensures.takes d) (c.on_written-in-Add.ensures.keyless d)

pub returns-in-Widen-clause-told : goal.returns-in-Widen-clause-told
returns-in-Widen-clause-told g c = λ d ordered.
    adjust_comes (g.M.Meaning.known d) g.M.Spelled.reading (g.met.M.Readable.lawful d) (rec_of c.args.logged.now) (ap (λ x. is_adjusting (rec_of x)) c.in-Widen.is) c.args.analysis.now

pub returns-in-Sweep-clause-told : goal.returns-in-Sweep-clause-told
returns-in-Sweep-clause-told g c = λ d ordered.
    adjust_comes (g.M.Meaning.known d) g.M.Spelled.reading (g.met.M.Readable.lawful d) (rec_of c.args.logged.now) (ap (λ x. is_adjusting (rec_of x)) c.in-Sweep.is) c.args.analysis.now

pub returns-in-Commit-clause-told : goal.returns-in-Commit-clause-told
returns-in-Commit-clause-told g c = λ d ordered.
    commit_comes (g.M.Meaning.known d) g.M.Spelled.reading (g.met.M.Readable.lawful d) (rec_of c.args.logged.now) c.in-Commit.tx c.in-Commit.n (ap rec_of c.in-Commit.is)
    c.args.analysis.now c.on_commit.new.self (refused c.on_commit.result) c.on_commit.ensures.closes

pub returns-in-End-clause-told : goal.returns-in-End-clause-told
returns-in-End-clause-told g c = λ d ordered.
    end_comes (g.M.Meaning.known d) g.M.Spelled.reading (g.met.M.Readable.lawful d) (rec_of c.args.logged.now) c.in-End.tx (ap rec_of c.in-End.is)
    c.args.analysis.now c.on_end.new.self (refused c.on_end.result) c.on_end.ensures.closes

pub returns-in-Pages-clause-broken : goal.returns-in-Pages-clause-broken
returns-in-Pages-clause-broken g c = λ d ordered.
    let w = c.in-Pages in
    next_broken (g.M.Meaning.known d) g.M.Spelled.reading Later (rec_of c.args.logged.now) (rec.Pages w.counter w.used (images w.pages)) c.args.analysis.now
    (λ rule. breaks_pages w.counter w.used (page_numbers (images w.pages)) c.args.analysis.now rule) (ap rec_of w.is) (λ rule. refl) c.on_pages.result c.on_pages.ensures.rule

pub returns-in-Write-clause-broken : goal.returns-in-Write-clause-broken
returns-in-Write-clause-broken g c = λ d ordered.
    let w = c.in-Write in
    write_broken (g.M.Meaning.known d) g.M.Spelled.reading g.M.Entry.Ord.cmp ordered (rec_of c.args.logged.now) w.tx w.row w.key.now
    (is_marked w.before) (is_marked w.after) w.leaf w.image.now (ap rec_of w.is) c.args.analysis.now c.on_written.result (c.on_written.ensures.rule d)

pub returns-in-Bit-clause-broken : goal.returns-in-Bit-clause-broken
returns-in-Bit-clause-broken g c = λ d ordered.
    let w = c.in-Bit in
    bit_broken (g.M.Meaning.known d) g.M.Spelled.reading g.M.Entry.Ord.cmp ordered (rec_of c.args.logged.now) w.tx w.row w.key.now
    (is_marked w.before) (is_marked w.after) w.leaf (ap rec_of w.is) c.args.analysis.now c.on_written-in-Bit.result (c.on_written-in-Bit.ensures.rule d)

pub returns-in-Add-clause-broken : goal.returns-in-Add-clause-broken
returns-in-Add-clause-broken g c = λ d ordered.
    let w = c.in-Add in
    add_broken (g.M.Meaning.known d) g.M.Spelled.reading g.M.Entry.Ord.cmp ordered (rec_of c.args.logged.now) w.tx w.row w.key.now
    w.leaf (ap rec_of w.is) c.args.analysis.now c.on_written-in-Add.result (c.on_written-in-Add.ensures.rule d)

pub returns-in-Commit-clause-broken : goal.returns-in-Commit-clause-broken
returns-in-Commit-clause-broken g c = λ d ordered.
    let w = c.in-Commit in
    next_broken (g.M.Meaning.known d) g.M.Spelled.reading Later (rec_of c.args.logged.now) (rec.Commit w.tx w.n) c.args.analysis.now
    (λ rule. breaks_commit w.tx w.n c.args.analysis.now rule) (ap rec_of w.is) (λ rule. refl) c.on_commit.result c.on_commit.ensures.rule

pub returns-in-End-clause-broken : goal.returns-in-End-clause-broken
returns-in-End-clause-broken g c = λ d ordered.
    let w = c.in-End in
    next_broken (g.M.Meaning.known d) g.M.Spelled.reading Later (rec_of c.args.logged.now) (rec.End w.tx) c.args.analysis.now
    (λ rule. breaks_end w.tx c.args.analysis.now rule) (ap rec_of w.is) (λ rule. refl) c.on_end.result c.on_end.ensures.rule
