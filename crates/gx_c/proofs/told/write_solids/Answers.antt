use Rattle.std.proofs.Common.{◌∙◌, arith, length-set}
use Rattle.gx_c.specs.Sent.{sent_entry3}
use Rattle.gx_c.proofs.told.Writing.{written_more}
use Rattle.gx_c.proofs.told.write_solids.Goals as goal

pub loop-place-preserved : goal.loop-place-preserved
loop-place-preserved c = record {
  as_many = length-set _ _ _ ∙ c.loop-place.invariant.as_many;
  written =
      written_more sent_entry3 c.loop-place.out c.args.entries.now c.loop-place.place c.index-entries-place.result c.sent_entry3.result c.loop-place.invariant.written (omega arith) (omega arith)
      c.index-entries-place.is c.sent_entry3.ensures;
}
