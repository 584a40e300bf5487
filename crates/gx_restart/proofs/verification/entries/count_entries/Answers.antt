use Rattle.std.proofs.Common.{◌≡◌, ◌+◌, refl, ap, ◌∙◌, arith}
use Rattle.gx_index_laws.specs.States.{tree_now}
use Rattle.gx_durable.specs.Classes.{class_of}
use Rattle.gx_node.specs.Trees.{Tree}
use Rattle.gx_restart.specs.Sizes.{live_on, live_up_to}
use Rattle.gx_restart.proofs.Bringing.{all_used, brings, helps}
use Rattle.gx_restart.proofs.verification.entries.Counting.{one_page_more}
use Rattle.gx_restart.proofs.Telling.{later, one_more}
use Rattle.gx_restart.proofs.verification.entries.count_entries.Goals as goal

pub loop-last-init : goal.loop-last-init
loop-last-init g c = record { all = refl; live = λ l bodies i h. refl; few = omega arith }

pub count_on-requires-clause-to : goal.count_on-requires-clause-to
count_on-requires-clause-to g c =
    let used = all_used (record { partial_cmp = g.K.Key.PartialOrd.partial_cmp; eq = g.K.Key.PartialEq.eq; cmp = g.K.Key.Ord.cmp; overlap = g.K.Key.Shape.overlap; inside = g.K.Key.Shape.inside }) g.K.ReadKeys.is_proper g.K.ReadKeys.said g.K.KeyClass g.D.SectorDisk.state c.loop-last.last c.args.engine.now c.loop-last.engine c.loop-last.invariant.all in
    omega (arith, used, c.used-used.ensures, c.loop-last-test.true)

pub loop-last-preserved : goal.loop-last-preserved
loop-last-preserved g c =
    let few = c.in-Ok.ensures.few in
    let so_far = c.loop-last.invariant.few in
    record {
      all = one_more (brings (record { partial_cmp = g.K.Key.PartialOrd.partial_cmp; eq = g.K.Key.PartialEq.eq; cmp = g.K.Key.Ord.cmp; overlap = g.K.Key.Shape.overlap; inside = g.K.Key.Shape.inside }) g.K.ReadKeys.is_proper g.K.ReadKeys.said g.K.KeyClass g.D.SectorDisk.state)
          (helps (record { partial_cmp = g.K.Key.PartialOrd.partial_cmp; eq = g.K.Key.PartialEq.eq; cmp = g.K.Key.Ord.cmp; overlap = g.K.Key.Shape.overlap; inside = g.K.Key.Shape.inside }) g.K.ReadKeys.is_proper g.K.ReadKeys.said g.K.KeyClass g.D.SectorDisk.state) c.loop-last.last c.args.engine.now c.loop-last.engine c.count_on.new.engine
          c.loop-last.invariant.all c.in-Ok.ensures.brought;
      live = λ l bodies i h.
          one_page_more (tree_now (class_of (record { partial_cmp = g.K.Key.PartialOrd.partial_cmp; eq = g.K.Key.PartialEq.eq; cmp = g.K.Key.Ord.cmp; overlap = g.K.Key.Shape.overlap; inside = g.K.Key.Shape.inside }) g.K.ReadKeys.is_proper l) i).node c.loop-last.last c.loop-last.entries c.in-Ok.live (c.loop-last.invariant.live l bodies i h)
          (later (record { partial_cmp = g.K.Key.PartialOrd.partial_cmp; eq = g.K.Key.PartialEq.eq; cmp = g.K.Key.Ord.cmp; overlap = g.K.Key.Shape.overlap; inside = g.K.Key.Shape.inside }) g.K.ReadKeys.is_proper g.K.ReadKeys.said g.K.KeyClass g.D.SectorDisk.state l c.loop-last.last c.args.engine.now c.loop-last.engine
          (λ (t : Tree _). c.in-Ok.live ≡ live_on (t.node (c.loop-last.last + 1))) c.loop-last.invariant.all (c.in-Ok.ensures.live l) bodies i h);
      few = omega (arith, few, so_far);
    }

pub returns : goal.returns
returns g c = λ l bodies i h.
    (let used = h.keeps.used in
    c.loop-last.invariant.live l bodies i h ∙ ap (λ n. live_up_to (tree_now (class_of (record { partial_cmp = g.K.Key.PartialOrd.partial_cmp; eq = g.K.Key.PartialEq.eq; cmp = g.K.Key.Ord.cmp; overlap = g.K.Key.Shape.overlap; inside = g.K.Key.Shape.inside }) g.K.ReadKeys.is_proper l) i).node n) (let end : c.loop-last.last ≡ _ = omega (arith, used, c.used-used.ensures, c.loop-last-test.false, c.loop-last.auto.last-end) in end))
