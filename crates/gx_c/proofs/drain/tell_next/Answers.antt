use Rattle.std.proofs.Common.{◌++◌, ◌∙◌, List, ap, subst, sym}
use Rattle.gx_queue_disk.specs.Calls.{Call}
use Rattle.gx_c.specs.Waiting.{Tells, queued_in}
use Rattle.gx_c.proofs.drain.Draining.{tells_all}
use Rattle.gx_c.proofs.drain.tell_next.Goals as goal

pub returns : goal.returns
returns c =
    let queue = queued_in c.refill.new.held.stage in
    record {
      tells =
          subst (λ (calls : List Call). Tells calls (c.tell.new.calls ++ queue) c.tell.new.call c.args.bytes.now c.tell.new.bytes c.tell.result) c.refill.ensures.same
          (tells_all c.refill.new.held.calls c.tell.new.calls queue c.tell.new.call c.args.bytes.now c.tell.new.bytes c.tell.result
          (λ none. ap (λ calls. calls ++ queue) (sym none) ∙ c.refill.ensures.all none) c.tell.ensures);
      rests = c.refill.ensures.rests;
    }
