use Rattle.std.proofs.Common.{◌≡◌, ◌∙◌, ◌/◌, ◌<◌, length, get_or, arith}
use Rattle.std.proofs.lemmas.List.{get_or_default}
use Rattle.gx_pool.proofs.page_set.PageSets.{kept_grouped, read_zero, taken_grouped, taken_pages}
use Rattle.gx_pool.proofs.page_set.PageSet.take.Goals as goal

pub invariant_of-self : goal.invariant_of-self
invariant_of-self c =
    let out = c.take_out-then-index-eq0 in (
      c.take_out.ensures.size ∙ c.self.invariant.0,
      out.ensures.size ∙ c.self.invariant.1,
      taken_grouped c.self.inside.words.items c.self.inside.groups.items c.take_out.new.words.items out.new.words.items c.args.page c.self.invariant.2 c.take_out.ensures.others
          (read_zero c.take_out.new.words.items (c.args.page / 64) c.index.result.now c.index.ensures c.if-index-eq0.true) out.ensures.taken out.ensures.others,
      taken_pages c.self.inside.words.items c.take_out.new.words.items c.args.page c.self.invariant.3 c.take_out.ensures.taken c.take_out.ensures.others,
    )

pub invariant_of-self-else-index-eq0 : goal.invariant_of-self-else-index-eq0
invariant_of-self-else-index-eq0 c =
    let size = c.take_out.ensures.size ∙ c.self.invariant.0 in
    let inside : c.args.page / 64 < length c.take_out.new.words.items = omega (arith, c.requires, size) in
    let word : c.index.result.now ≡ get_or c.take_out.new.words.items (c.args.page / 64) 0 = c.index.ensures ∙ get_or_default c.take_out.new.words.items (c.args.page / 64) c.index.result.now 0 inside in (
      size,
      c.self.invariant.1,
      kept_grouped c.self.inside.words.items c.self.inside.groups.items c.take_out.new.words.items c.args.page c.self.invariant.2 c.take_out.ensures.taken c.take_out.ensures.others
          (omega (arith, word, c.if-index-eq0.false)) (omega (arith, word)),
      taken_pages c.self.inside.words.items c.take_out.new.words.items c.args.page c.self.invariant.3 c.take_out.ensures.taken c.take_out.ensures.others,
    )
