use Rattle.std.proofs.Common.{◌∙◌}
use Rattle.gx_pool.proofs.page_set.PageSets.{put_grouped, put_pages}
use Rattle.gx_pool.proofs.page_set.PageSet.put.Goals as goal

pub invariant_of-self : goal.invariant_of-self
invariant_of-self c = (
  c.put_in.ensures.size ∙ c.self.invariant.0,
  c.put_in-2.ensures.size ∙ c.self.invariant.1,
  put_grouped c.self.inside.words.items c.self.inside.groups.items c.put_in.new.words.items c.put_in-2.new.words.items c.args.page c.self.invariant.2 c.put_in.ensures.put c.put_in.ensures.others c.put_in-2.ensures.put
      c.put_in-2.ensures.others,
  put_pages c.self.inside.words.items c.put_in.new.words.items c.args.page c.self.invariant.3 c.requires c.put_in.ensures.others,
)
