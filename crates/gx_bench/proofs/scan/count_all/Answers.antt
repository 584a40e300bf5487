use Rattle.std.proofs.Common.{◌∙◌}
use Rattle.gx_bench.specs.Sent.{key_of}
use Rattle.gx_bench.specs.Scans.{hits_in_all}
use Rattle.std.proofs.lemmas.List.{length-set}
use Rattle.gx_bench.proofs.scan.Hits.{one_more_count}
use Rattle.gx_bench.proofs.scan.count_all.Goals as goal

pub loop-place-preserved : goal.loop-place-preserved
loop-place-preserved c =
    let inv = c.loop-place.invariant in
    record {
      as_many = length-set c.loop-place.counts c.loop-place.place c.hits_in_all.result ∙ inv.as_many;
      written = one_more_count (λ q. hits_in_all c.args.pages.now (key_of q)) c.loop-place.counts c.args.queries.now c.loop-place.place _ c.hits_in_all.result
          inv.as_many c.loop-place-test.true inv.written c.hits_in_all.ensures;
    }
