use Rattle.std.proofs.Common.{[], ◌∷◌, ◌∙◌, ap, arith}
use Rattle.gx_record.specs.Rec.{Rec, Pages}
use Rattle.gx_record.specs.Seen.{numbered}
use Rattle.gx_record.specs.declared.sizes.TheConstants.{SPLIT_RECORD}
use Rattle.gx_record.proofs.Writes.{spelling_size}
use Rattle.gx_node.specs.Reading.{format_of}
use Rattle.gx_store.specs.Standing.{standing_node}
use Rattle.gx_store.proofs.Listed.{nodes_long}
use Rattle.gx_storage.specs.Changes.{image_at}
use Rattle.gx_storage.specs.Imaged.{with_imaged}
use Rattle.gx_storage.specs.State.{Journal}
use Rattle.gx_storage.proofs.Splitting.{three_in_range, three_same}
use Rattle.gx_storage.proofs.Writing.{is_last}
use Rattle.gx_storage.proofs.journal.Journal.split.Goals as goal

pub append-requires-clause-in_range : goal.append-requires-clause-in_range
append-requires-clause-in_range g c =
    let low = c.held_image-low in
    let middle = c.held_image-middle in
    let high = c.held_image-high in
    three_in_range c.counter-counter.result c.used-used.result (numbered low.result) (numbered middle.result) (numbered high.result)
    (omega (arith, c.counter-counter.type_inv)) (omega (arith, c.used-used.type_inv))
    (omega (arith, low.ensures.number, middle.ensures.number, c.requires.rise)) (omega (arith, middle.ensures.number, high.ensures.number, c.requires.rise)) low.ensures.page middle.ensures.page high.ensures.page

pub returns-clause-last : goal.returns-clause-last
returns-clause-last g c =
    let i = c.self.inside in
    let old : Journal = record { log = i.log; imaged = i.imaged } in
    let new : Journal = record { log = c.append.new.log; imaged = c.note-3.new.self } in
    let takes = rw (← c.self.view_is) at c.requires.takes in
    let s = c.args.store.now in
    let seen = (g.D.SectorDisk.state s.disk).seen in
    let low = c.held_image-low in
    let middle = c.held_image-middle in
    let high = c.held_image-high in
    let in_range = three_in_range c.counter-counter.result c.used-used.result (numbered low.result) (numbered middle.result) (numbered high.result)
    (omega (arith, c.counter-counter.type_inv)) (omega (arith, c.used-used.type_inv))
    (omega (arith, low.ensures.number, middle.ensures.number, c.requires.rise)) (omega (arith, middle.ensures.number, high.ensures.number, c.requires.rise)) low.ensures.page middle.ensures.page high.ensures.page in
    let x : Rec = Pages c.counter-counter.result c.used-used.result (numbered low.result ∷ numbered middle.result ∷ numbered high.result ∷ []) in
    let size = spelling_size x in_range in
    let used = c.used-used.ensures ∙ nodes_long (standing_node (format_of g.K.KeyClass) s.frames seen) s.used in
    let same = three_same c.counter-counter.result c.used-used.result s.counter s.used (numbered low.result) (numbered middle.result) (numbered high.result)
    (c.args.first, image_at seen s c.args.first) (c.args.second, image_at seen s c.args.second) (c.args.third, image_at seen s c.args.third)
    c.counter-counter.ensures used low.ensures.lent middle.ensures.lent high.ensures.lent in
    let bits = c.note-3.ensures ∙ ap (with_imaged c.args.third) (c.note-2.ensures ∙ ap (with_imaged c.args.second) c.note.ensures) in
    rw (← c.self.view_is) (is_last _ _ x _ SPLIT_RECORD old new c.append.result same c.append.ensures.appends takes (omega (arith, size)) tt
    (λ l. c.append.ensures.up l) c.append.ensures.stamped bits)
