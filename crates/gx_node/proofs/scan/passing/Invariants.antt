use Rattle.std.proofs.Common.{◌≤◌, take}
use Rattle.gx_node.specs.Reading.{format_of, key_of}
use Rattle.gx_node.proofs.Gathering.{IsGathering}
use Rattle.gx_node.proofs.scan.passing.Given as goal

abbrev pub invariant-loop-place : goal.invariant-loop-place
invariant-loop-place g l = record {
  gathering : IsGathering (λ item. g.K.Probing.passes l.probe (key_of (format_of g.K.KeyClass) item)) l.page.items l.from l.place l.rest (take l.found l.slots);
  few : l.found ≤ l.place;
}
