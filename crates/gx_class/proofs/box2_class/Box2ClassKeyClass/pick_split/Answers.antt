use Rattle.gx_class.proofs.box2_class.Box2ClassKeyClass.pick_split.Goals as goal

pub returns : goal.returns
returns c = c.split.ensures.sides
