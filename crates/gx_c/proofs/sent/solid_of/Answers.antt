use Rattle.std.proofs.Common.{arith, rules, to_z-of_z}
use Rattle.std.proofs.lemmas.Int.{ints}
use Rattle.gx_c.proofs.sent.solid_of.Goals as goal

pub returns : goal.returns
returns c = record {
  ok = first_of (search (rules, c.new.ensures), search (arith, ints, to_z-of_z, c.new.ensures));
  corners = first_of (search (rules, c.new.ensures), search (arith, ints, to_z-of_z, c.new.ensures));
  refused = c.new.ensures.refused;
}
