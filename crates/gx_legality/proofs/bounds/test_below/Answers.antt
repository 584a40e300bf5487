use Rattle.std.proofs.Common.{◌≡◌, true, refl, rules}
use Rattle.gx_legality.proofs.bounds.test_below.Goals as goal

pub returns-then-not-covers_node-clause-fails : goal.returns-then-not-covers_node-clause-fails
returns-then-not-covers_node-clause-fails g c = λ most. (refl, λ bounds. (let is : c.covers_node.result ≡ true = (c.covers_node.ensures most).1 bounds in cc))

pub returns-clause-fits : goal.returns-clause-fits
returns-clause-fits g c = λ most. record {
  level = search rules;
  bounds = (c.covers_node.ensures most).0 c.if-not-covers_node.false;
}
