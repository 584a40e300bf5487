use Rattle.std.proofs.Common.{◌≡◌, ℕ, ◌<◌, ◌^◌, List, length, ap, subst, ◌∙◌, rules, arith}
use Rattle.gx_page.specs.Bytes.{AreBytes}
use Rattle.gx_page.specs.Format.{image_of}
use Rattle.gx_record.specs.Rec.{Rec, Write}
use Rattle.gx_record.specs.Seen.{is_marked}
use Rattle.gx_record.specs.Writing.{write_record}
use Rattle.gx_record.proofs.Writes.{spelling_size}
use Rattle.gx_node.specs.Reading.{format_of, is_node}
use Rattle.gx_storage.specs.State.{Journal}
use Rattle.gx_storage.proofs.Writing.{held_given, held_number, held_stands, is_last, write_in_range}
use Rattle.gx_storage.proofs.journal.Journal.write.Goals as goal

pub append-requires-clause-in_range : goal.append-requires-clause-in_range
append-requires-clause-in_range g c =
    let s = c.args.store.now in
    let row : c.args.entry.row < 2 ^ 64 = search rules in
    write_in_range c.args.transaction c.args.entry.row c.spell.new.spelled (is_marked c.args.before) (is_marked c.args.after) c.args.leaf c.image.result.now c.held_page-page.result.now
    c.ranges.transaction.fits row c.ranges.leaf.fits c.image.ensures.back.0 c.image.ensures.back.1
    (held_number (is_node (format_of g.K.KeyClass) s.pages) s c.args.leaf c.held_page-page.result.now c.in_order.ensures.passed c.requires.held c.held_page-page.ensures)

pub returns-clause-last : goal.returns-clause-last
returns-clause-last g c =
    let i = c.self.inside in
    let old : Journal = record { log = i.log; imaged = i.imaged } in
    let new : Journal = record { log = c.append.new.log; imaged = c.note.new.self } in
    let takes = rw (← c.self.view_is) at c.requires.takes in
    let s = c.args.store.now in
    let row : c.args.entry.row < 2 ^ 64 = search rules in
    let x : Rec = Write c.args.transaction c.args.entry.row c.spell.new.spelled (is_marked c.args.before) (is_marked c.args.after) c.args.leaf c.image.result.now in
    let stands = held_stands s (g.D.SectorDisk.state s.disk).seen c.args.leaf c.held_page-page.result.now c.requires.held c.held_page-page.ensures in
    let image = c.image.ensures.image ∙ ap image_of stands in
    let long : length c.spell.new.spelled ≡ g.K.KeyClass.KEY = ap length c.spell.ensures.spelled ∙ g.met.K.KeyClass.spelling_length c.args.entry.key c.known.ensures in
    let in_range = write_in_range c.args.transaction c.args.entry.row c.spell.new.spelled (is_marked c.args.before) (is_marked c.args.after) c.args.leaf c.image.result.now c.held_page-page.result.now
    c.ranges.transaction.fits row c.ranges.leaf.fits c.image.ensures.back.0 c.image.ensures.back.1
    (held_number (is_node (format_of g.K.KeyClass) s.pages) s c.args.leaf c.held_page-page.result.now c.in_order.ensures.passed c.requires.held c.held_page-page.ensures) in
    let size = spelling_size x in_range in
    let same = ap (λ (key : List ℕ). Write c.args.transaction c.args.entry.row key (is_marked c.args.before) (is_marked c.args.after) c.args.leaf c.image.result.now) c.spell.ensures.spelled
    ∙ ap (λ (bytes : List ℕ). Write c.args.transaction c.args.entry.row (g.K.KeyClass.spelling c.args.entry.key) (is_marked c.args.before) (is_marked c.args.after) c.args.leaf bytes) image in
    rw (← c.self.view_is) (is_last _ _ x _ (write_record g.K.KeyClass.KEY) old new c.append.result same c.append.ensures.appends takes (omega (arith, size, long)) long
    (λ l. c.append.ensures.up l) c.append.ensures.stamped c.note.ensures)

pub returns-clause-given : goal.returns-clause-given
returns-clause-given g c =
    let s = c.args.store.now in
    held_given (is_node (format_of g.K.KeyClass) s.pages) s (g.D.SectorDisk.state s.disk).seen c.args.leaf c.held_page-page.result.now c.in_order.ensures.passed c.requires.held c.held_page-page.ensures c.image.ensures.well_formed

pub returns-clause-entry : goal.returns-clause-entry
returns-clause-entry g c = record {
  row_fits = search rules;
  key_bytes = subst {A = List ℕ} AreBytes c.spell.ensures.spelled c.spell.ensures.bytes;
}
