use Rattle.std.proofs.Common.{◌∙◌, arith}
use Rattle.gx_class.specs.Probes.{corners, are_between}
use Rattle.gx_bench.specs.Sent.{key_of}
use Rattle.gx_bench.proofs.scan.Hits.{leaf_at, same_hits, one_more_page, same_key}
use Rattle.gx_bench.proofs.scan.hits_in_all.Goals as goal

pub loop-page-preserved : goal.loop-page-preserved
loop-page-preserved c =
    let q = key_of c.args.sent.now in
    let page = c.page-item.result in
    let probe = c.probe_keys-probe.result in
    record {
      counted = one_more_page q c.args.pages.now c.loop-page.page-index page c.loop-page.hits c.live_hits-hits.result c.loop-page-test.true c.page-item.is
          c.loop-page.invariant.counted
          (c.live_hits-hits.ensures.hits ∙ same_hits q (λ key. are_between probe.low probe.high (corners key)) page c.leaves.ensures.hold c.live_hits-hits.ensures.well_formed
          (leaf_at c.args.pages.now c.loop-page.page-index page c.loop-page-test.true c.page-item.is c.requires.leaves)
          (same_key _ q c.key_of.result c.key_of.ensures c.probe_keys-probe.ensures));
      few = omega (arith, c.loop-page.invariant.few, c.live_hits-hits.ensures.few);
    }
