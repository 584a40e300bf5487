use Rattle.std.proofs.Common.{ℕ, List, ap, ◌∙◌}
use Rattle.gx_page.specs.Contents.{Contents}
use Rattle.gx_page.specs.Format.{image_of}
use Rattle.gx_node.specs.Reading.{format_of, is_node}
use Rattle.gx_storage.proofs.Writing.{held_given, held_number, held_stands}
use Rattle.gx_storage.proofs.journal.split.held_image.Goals as goal

pub returns-clause-lent : goal.returns-clause-lent
returns-clause-lent g c =
    let s = c.args.store.now in
    let stands = held_stands s (g.D.SectorDisk.state s.disk).seen c.args.page c.held_page-held.result.now c.requires c.held_page-held.ensures in
    ap (λ (image : List ℕ). (let x : ℕ × List ℕ = (c.args.page, image) in x)) (c.image.ensures.image ∙ ap image_of stands)

pub returns-clause-page : goal.returns-clause-page
returns-clause-page g c =
    let s = c.args.store.now in
    let number = held_number (is_node (format_of g.K.KeyClass) s.pages) s c.args.page c.held_page-held.result.now c.in_order.ensures.passed c.requires c.held_page-held.ensures in
    record {
      fits = c.ranges.page.fits;
      image = record { image = c.image.ensures.back.0; number = ap (λ (p : Contents). p.number) c.image.ensures.back.1 ∙ number };
    }

pub returns-clause-given : goal.returns-clause-given
returns-clause-given g c =
    let s = c.args.store.now in
    held_given (is_node (format_of g.K.KeyClass) s.pages) s (g.D.SectorDisk.state s.disk).seen c.args.page c.held_page-held.result.now c.in_order.ensures.passed c.requires c.held_page-held.ensures c.image.ensures.well_formed
