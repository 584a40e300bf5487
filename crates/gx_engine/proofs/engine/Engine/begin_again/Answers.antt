use Rattle.std.proofs.Common.{◌∙◌, ap}
use Rattle.gx_node.specs.Reach as reach
use Rattle.gx_engine.specs.declared.work.Work.TheVariants.{Descends}
use Rattle.gx_engine.specs.Moves.{calling}
use Rattle.gx_engine.specs.States.{Parts}
use Rattle.gx_engine.proofs.engine.Engine.begin_again.Goals as goal

pub returns-clause-outcome : goal.returns-clause-outcome
returns-clause-outcome g c = c.go_to.ensures.outcome

pub returns-clause-there : goal.returns-clause-there
returns-clause-there g c call was at =
    let old : Parts g.row.K-Key.Denot g.row.D.Denot = c.args.self.now in
    let counter = c.counter.ensures ∙ ap (λ (x : Parts g.row.K-Key.Denot g.row.D.Denot). x.volume.shelf.counter) c.self.view_is in
    let root = c.new-root.ensures ∙ ap (λ n. (let i : reach.TraversalItem = record { page = 1; seen = n } in i)) counter in
    c.go_to.ensures.there call was at ∙ ap (λ (i : reach.TraversalItem). calling c.args.session call (Descends 0 i) old) root
