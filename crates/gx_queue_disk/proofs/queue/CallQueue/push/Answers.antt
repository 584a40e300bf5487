use Rattle.std.proofs.Common.{◌∙◌, ◌∷◌, ◌++◌, [], ap}
use Rattle.gx_queue_disk.proofs.queue.Outlines.{pushed_kept, pushed_is}
use Rattle.gx_queue_disk.proofs.queue.CallQueue.push.Goals as goal

pub invariant_of-self-2 : goal.invariant_of-self-2
invariant_of-self-2 c =
    let s = c.self.inside in
    let longer = c.push_reserved.ensures.items ∙ ap (λ calls. calls ++ c.args.call ∷ []) c.reserve.ensures.items in
    pushed_kept s.calls.items c.push_reserved.new.self.items s.bytes.items c.extend_from_slice.new.self.items c.args.bytes.now s.taken s.at c.args.call c.self.invariant c.requires longer
    c.in_ok-extend_from_slice.ensures.items

pub returns-clause-ok : goal.returns-clause-ok
returns-clause-ok c =
    let s = c.self.inside in
    let longer = c.push_reserved.ensures.items ∙ ap (λ calls. calls ++ c.args.call ∷ []) c.reserve.ensures.items in
    rw (← c.self.view_is) (pushed_is s.calls.items c.push_reserved.new.self.items s.bytes.items c.extend_from_slice.new.self.items c.args.bytes.now s.taken s.at c.args.call c.self.invariant c.requires longer
    c.in_ok-extend_from_slice.ensures.items)
