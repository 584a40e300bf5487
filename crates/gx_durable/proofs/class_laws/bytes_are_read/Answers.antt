use Rattle.std.proofs.Common.{◌∙◌, ap}
use Rattle.gx_durable.proofs.Nodes.{node_read}
use Rattle.gx_durable.proofs.class_laws.Sayings.{same_entry}
use Rattle.gx_durable.proofs.class_laws.bytes_are_read.Goals as goal

pub returns-clause-keys : goal.returns-clause-keys
returns-clause-keys g c = λ l row key is.
    (let back = g.met.K.ReadKeys.said_back key is in
    record { entry = same_entry row _ _ back; of_class = ap g.K.ReadKeys.is_proper back ∙ g.met.K.ReadKeys.key_is_proper key is })

pub returns-clause-only : goal.returns-clause-only
returns-clause-only g c = λ l row bytes long small is. g.met.K.ReadKeys.said_only bytes long small is

pub returns-clause-nodes : goal.returns-clause-nodes
returns-clause-nodes g c = λ l. node_read _ _ _ c.leaves.ensures.read c.inners.ensures.read
