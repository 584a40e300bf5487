use Rattle.std.proofs.Common.{ℕ, List, [], ◌∷◌, ap, ◌∙◌, arith}
use Rattle.gx_page.specs.Format.{image_of}
use Rattle.gx_record.specs.Rec.{Rec, Pages}
use Rattle.gx_record.specs.declared.sizes.TheConstants.{PAGE_RECORD}
use Rattle.gx_record.proofs.Writes.{spelling_size}
use Rattle.gx_node.specs.Reading.{format_of, is_node}
use Rattle.gx_store.specs.Standing.{standing_node}
use Rattle.gx_store.proofs.Listed.{nodes_long}
use Rattle.gx_storage.specs.State.{Journal}
use Rattle.gx_storage.proofs.Giving.{page_in_range}
use Rattle.gx_storage.proofs.Writing.{held_given, held_number, held_stands, is_last}
use Rattle.gx_storage.proofs.journal.Journal.give_page.Goals as goal

pub append-requires-clause-in_range : goal.append-requires-clause-in_range
append-requires-clause-in_range g c =
    let s = c.args.store.now in
    page_in_range c.counter-counter.result c.used-used.result c.args.page c.image.result.now c.held_page-held.result.now (omega (arith, c.counter-counter.type_inv)) (omega (arith, c.used-used.type_inv)) c.ranges.page.fits c.image.ensures.back.0 c.image.ensures.back.1
    (held_number (is_node (format_of g.K.KeyClass) s.pages) s c.args.page c.held_page-held.result.now c.in_order.ensures.passed c.requires.held c.held_page-held.ensures)

pub returns-clause-last : goal.returns-clause-last
returns-clause-last g c =
    let i = c.self.inside in
    let old : Journal = record { log = i.log; imaged = i.imaged } in
    let new : Journal = record { log = c.append.new.log; imaged = c.note.new.self } in
    let takes = rw (← c.self.view_is) at c.requires.takes in
    let s = c.args.store.now in
    let seen = (g.D.SectorDisk.state s.disk).seen in
    let page = c.args.page in
    let counter = c.counter-counter.result in
    let used = c.used-used.result in
    let x : Rec = Pages counter used ((page, c.image.result.now) ∷ []) in
    let image = c.image.ensures.image ∙ ap image_of (held_stands s seen page c.held_page-held.result.now c.requires.held c.held_page-held.ensures) in
    let in_range = page_in_range counter used page c.image.result.now c.held_page-held.result.now (omega (arith, c.counter-counter.type_inv)) (omega (arith, c.used-used.type_inv)) c.ranges.page.fits c.image.ensures.back.0 c.image.ensures.back.1
    (held_number (is_node (format_of g.K.KeyClass) s.pages) s page c.held_page-held.result.now c.in_order.ensures.passed c.requires.held c.held_page-held.ensures) in
    let size = spelling_size x in_range in
    let same = ap (λ n. Pages n used ((page, c.image.result.now) ∷ [])) c.counter-counter.ensures
    ∙ ap (λ n. Pages s.counter n ((page, c.image.result.now) ∷ [])) (c.used-used.ensures ∙ nodes_long (standing_node (format_of g.K.KeyClass) s.frames seen) s.used)
    ∙ ap (λ (bytes : List ℕ). Pages s.counter s.used ((page, bytes) ∷ [])) image in
    rw (← c.self.view_is) (is_last _ _ x _ PAGE_RECORD old new c.append.result same c.append.ensures.appends takes (omega (arith, size)) tt
    (λ l. c.append.ensures.up l) c.append.ensures.stamped c.note.ensures)

pub returns-clause-given : goal.returns-clause-given
returns-clause-given g c =
    let s = c.args.store.now in
    held_given (is_node (format_of g.K.KeyClass) s.pages) s (g.D.SectorDisk.state s.disk).seen c.args.page c.held_page-held.result.now c.in_order.ensures.passed c.requires.held c.held_page-held.ensures c.image.ensures.well_formed
