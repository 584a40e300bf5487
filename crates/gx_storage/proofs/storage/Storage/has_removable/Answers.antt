use Rattle.std.proofs.Common.{◌≡◌, ◌∙◌, ◌==◌, sym, ap, subst, true, false}
use Rattle.std.specs.Prelude.{nat_lt}
use Rattle.std.proofs.lemmas.Bool.{eq-eqb, ne_eqb}
use Rattle.gx_node.specs.Reading.{format_of}
use Rattle.gx_node.specs.Edits.{entry_of}
use Rattle.gx_node.specs.Lists.{how_many}
use Rattle.gx_node.specs.Trees.{Node}
use Rattle.gx_node.specs.Writes.{is_sweepable}
use Rattle.gx_node.specs.Store.{node_of}
use Rattle.gx_storage.specs.Bringing.{has_removable}
use Rattle.gx_storage.proofs.storage.Storage.has_removable.Goals as goal
use Rattle.gx_storage.proofs.storage.Storage.has_removable.Goals.{then-level-eq0, else-level-eq0}

pub returns : goal.returns
returns g c test says =
    let page = c.held_page-held.result.now in
    let told : c.if-level-eq0.result ≡ has_removable test (node_of (format_of g.K.KeyClass) page) = elim c.if-level-eq0.branch [
      | then-level-eq0 w ↦
          let here : (page.level == 0) ≡ true = eq-eqb page.level 0 (sym c.level.ensures ∙ w.if-level-eq0.true) in
          let pairs = ap (λ (n : Node g.row.K-Key.Denot). nat_lt 0 (how_many (is_sweepable (λ x. test (entry_of x))) n.pairs)) w.of.ensures in
          rw here (rw here (w.result-is ∙ w.any_removable.ensures test says ∙ pairs))
      | else-level-eq0 w ↦
          let other : (page.level == 0) ≡ false = ne_eqb page.level 0 (λ is. w.if-level-eq0.false (c.level.ensures ∙ is)) in
          rw other (rw other (w.result-is ∙ ne_eqb c.level.result 0 w.if-level-eq0.false))
    ] in
    subst {A = Node g.row.K-Key.Denot} (λ n. c.if-level-eq0.result ≡ has_removable test n) c.held_page-held.ensures.node told
