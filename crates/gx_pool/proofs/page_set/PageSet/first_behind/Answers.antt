use Rattle.std.proofs.Common.{◌*◌, length}
use Rattle.gx_pool.proofs.page_set.PageSets.{least_later}
use Rattle.gx_pool.proofs.page_set.PageSet.first_behind.Goals as goal

pub returns-in-Some-clause-found : goal.returns-in-Some-clause-found
returns-in-Some-clause-found c = rw (← c.self.view_is) (least_later c.self.inside.words.items c.self.inside.groups.items c.args.from c.in-Some.word (64 * length c.self.inside.words.items) c.first_in_word.result c.self.invariant.2 c.self.invariant.3 (rw c.self.view_is c.requires.none) (rw c.deref.ensures.value at c.in-Some.ensures.found.0) (rw c.deref-in-Some.ensures.value at c.first_in_word.ensures.found))
