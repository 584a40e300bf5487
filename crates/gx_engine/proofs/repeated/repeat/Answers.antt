use Rattle.std.proofs.Common.{inl, inr, subst, sym, arith}
use Rattle.gx_engine.specs.Made.{Makes}
use Rattle.gx_engine.specs.Repeated.{GoesOn}
use Rattle.gx_engine.proofs.Lessening.{going_on_few}
use Rattle.gx_engine.proofs.Repeating.{going_on_first, going_on_more}
use Rattle.gx_engine.proofs.repeated.repeat.Goals as goal
use Rattle.gx_class.specs.Traits.{traits_of}

pub loop-turn-init : goal.loop-turn-init
loop-turn-init g c = going_on_first _ _ _

pub returns-in-Nothing-clause-made : goal.returns-in-Nothing-clause-made
returns-in-Nothing-clause-made g c = record {
  count = c.loop-turn._turn;
  middle = c.loop-turn.engine;
  before = c.loop-turn.invariant;
  last_made = record { comes = c.in-Nothing.ensures.comes; steps = c.in-Nothing.ensures.steps; calls = c.in-Nothing.ensures.calls; told = c.in-Nothing.ensures.told; order = c.in-Nothing.ensures.order };
  few = omega arith;
}

pub returns-in-Refused-clause-made : goal.returns-in-Refused-clause-made
returns-in-Refused-clause-made g c = record {
  count = c.loop-turn._turn;
  middle = c.loop-turn.engine;
  before = c.loop-turn.invariant;
  last_made = record { comes = c.in-Refused.ensures.comes; steps = c.in-Refused.ensures.steps; calls = c.in-Refused.ensures.calls; told = c.in-Refused.ensures.told; order = c.in-Refused.ensures.order };
  few = omega arith;
}

pub loop-turn-preserved : goal.loop-turn-preserved
loop-turn-preserved g c =
    let on : GoesOn c.step.result =
    elim c.in-Replied.is [
      | inl r ↦ subst GoesOn (sym r.1) tt
      | inr rest ↦ elim rest [ inl m ↦ subst GoesOn (sym m) tt | inr h ↦ subst GoesOn (sym h.1) tt ]
    ] in
    going_on_more (Makes (record { partial_cmp = g.K.Key.PartialOrd.partial_cmp; eq = g.K.Key.PartialEq.eq; cmp = g.K.Key.Ord.cmp; overlap = g.K.Key.Shape.overlap; inside = g.K.Key.Shape.inside }) (traits_of g.K.ReadKeys.is_proper g.K.ReadKeys.said g.K.KeyClass) g.D.SectorDisk.state) c.args.event c.args.engine.now c.loop-turn._turn c.step.result c.loop-turn.engine c.step.new.self c.loop-turn.invariant
    (record { comes = c.step.ensures.comes; steps = c.step.ensures.steps; calls = c.step.ensures.calls; told = c.step.ensures.told; order = c.step.ensures.order }) on

pub returns-clause-ends : goal.returns-clause-ends
returns-clause-ends g c = λ flushes.
    (let many = going_on_few (record { partial_cmp = g.K.Key.PartialOrd.partial_cmp; eq = g.K.Key.PartialEq.eq; cmp = g.K.Key.Ord.cmp; overlap = g.K.Key.Shape.overlap; inside = g.K.Key.Shape.inside }) g.K.ReadKeys.is_proper g.K.ReadKeys.said g.K.KeyClass g.D.SectorDisk.state c.args.event c.loop-turn._turn c.args.engine.now c.loop-turn.engine flushes c.loop-turn.invariant in
    let past = c.loop-turn-test.false in
    let no : ⊥ = omega (arith, many, past) in absurd no)
