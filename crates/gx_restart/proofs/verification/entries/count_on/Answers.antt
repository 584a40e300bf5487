use Rattle.std.proofs.Common.{ap, ◌∙◌}
use Rattle.gx_node.specs.Trees.{Node}
use Rattle.gx_restart.specs.Sizes.{live_on}
use Rattle.gx_restart.proofs.Telling.{node_told}
use Rattle.gx_restart.proofs.verification.entries.count_on.Goals as goal

pub returns-in-Ok-clause-live : goal.returns-in-Ok-clause-live
returns-in-Ok-clause-live g c = λ l bodies i h.
    c.count_page.ensures.live
    ∙ ap (λ (n : Node _). live_on n)
    (node_told _ g.K.ReadKeys.is_proper g.K.ReadKeys.said g.K.KeyClass _ l c.args.page c.args.engine.now c.bring.new.engine c.held_page.result.now c.requires.from c.requires.to c.in-Ok.ensures.brought
    (c.a_volume_shows_the_logs_tree.ensures l c.bring.new.engine.volume) c.held_page.ensures bodies i h)
