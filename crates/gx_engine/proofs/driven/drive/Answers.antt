use Rattle.std.proofs.Common.{ap, sym, ◌∙◌, arith}
use Rattle.gx_machine.specs.Keys.{Members}
use Rattle.gx_class.specs.Traits.{traits_of}
use Rattle.gx_events.specs.Driven.{next_of}
use Rattle.gx_engine.specs.Made.{Makes}
use Rattle.gx_engine.proofs.driven.Driving.{driven_last, under_way_first, under_way_more}
use Rattle.gx_engine.proofs.CallsEnd.{starts_end}
use Rattle.gx_engine.proofs.Failing.{done_told, named_told}
use Rattle.gx_engine.proofs.driven.drive.Goals as goal

pub loop-turn-init : goal.loop-turn-init
loop-turn-init g c = record { driver = c.new-driver.ensures; way = under_way_first _ _ _ _; told = omega arith }

pub loop-turn-preserved : goal.loop-turn-preserved
loop-turn-preserved g c = record {
  driver = c.in-Run.ensures.same ∙ c.loop-turn.invariant.driver;
  way =
      under_way_more (Makes (record { partial_cmp = g.K.Key.PartialOrd.partial_cmp; eq = g.K.Key.PartialEq.eq; cmp = g.K.Key.Ord.cmp; overlap = g.K.Key.Shape.overlap; inside = g.K.Key.Shape.inside }) (traits_of g.K.ReadKeys.is_proper g.K.ReadKeys.said g.K.KeyClass) g.D.SectorDisk.state) c.args.session c.args.first c.args.engine.now c.loop-turn._turn c.loop-turn.next c.in-Run.event c.step.result c.loop-turn.engine c.step.new.self
      c.loop-turn.invariant.way (record { comes = c.step.ensures.comes; steps = c.step.ensures.steps; calls = c.step.ensures.calls; told = c.step.ensures.told; order = c.step.ensures.order })
      (c.in-Run.ensures.next ∙ ap (λ s. next_of s c.step.result) c.loop-turn.invariant.driver);
  told = named_told g.D.SectorDisk.state c.args.engine.now c.loop-turn.engine c.step.new.self c.args.session c.step.result c.in-Run.event
      (sym (c.in-Run.ensures.next ∙ ap (λ s. next_of s c.step.result) c.loop-turn.invariant.driver)) c.loop-turn.invariant.told c.step.ensures.told;
}

pub returns-in-Done-clause-told : goal.returns-in-Done-clause-told
returns-in-Done-clause-told g c =
    done_told g.D.SectorDisk.state c.args.engine.now c.loop-turn.engine c.step.new.self c.args.session c.step.result c.in-Done.reply
    (sym (c.in-Done.ensures.next ∙ ap (λ s. next_of s c.step.result) c.loop-turn.invariant.driver)) c.loop-turn.invariant.told c.step.ensures.told

pub returns-in-Done-clause-made : goal.returns-in-Done-clause-made
returns-in-Done-clause-made g c =
    driven_last (Makes (record { partial_cmp = g.K.Key.PartialOrd.partial_cmp; eq = g.K.Key.PartialEq.eq; cmp = g.K.Key.Ord.cmp; overlap = g.K.Key.Shape.overlap; inside = g.K.Key.Shape.inside }) (traits_of g.K.ReadKeys.is_proper g.K.ReadKeys.said g.K.KeyClass) g.D.SectorDisk.state) c.args.session c.args.first c.args.engine.now c.loop-turn._turn c.loop-turn.next c.step.result c.loop-turn.engine c.step.new.self c.in-Done.reply
    c.loop-turn.invariant.way (record { comes = c.step.ensures.comes; steps = c.step.ensures.steps; calls = c.step.ensures.calls; told = c.step.ensures.told; order = c.step.ensures.order })
    (c.in-Done.ensures.next ∙ ap (λ s. next_of s c.step.result) c.loop-turn.invariant.driver) (omega arith)

pub returns-clause-ends : goal.returns-clause-ends
returns-clause-ends g c = λ l bodies i holds starts.
    (let shape : Members g.row.K-Key.Denot = record { partial_cmp = g.K.Key.PartialOrd.partial_cmp; eq = g.K.Key.PartialEq.eq; cmp = g.K.Key.Ord.cmp; overlap = g.K.Key.Shape.overlap; inside = g.K.Key.Shape.inside } in
    let short = g.met.K.KeyClass.key_is_short in
    let few = starts_end shape g.K.ReadKeys.is_proper g.K.ReadKeys.said g.K.KeyClass g.D.SectorDisk.state (omega (arith, short)) l (λ some. c.a_class_is_lawful.ensures l some) c.what_a_call_has_left_is_bounded.ensures
    c.args.engine.now c.loop-turn.engine c.args.session c.loop-turn._turn c.args.first c.loop-turn.next bodies i holds starts c.loop-turn.invariant.way in
    let past = c.loop-turn-test.false in
    let no : ⊥ = omega (arith, few, past) in absurd no)
