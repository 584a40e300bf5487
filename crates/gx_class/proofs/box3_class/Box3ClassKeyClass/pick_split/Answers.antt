use Rattle.gx_class.proofs.box3_class.Box3ClassKeyClass.pick_split.Goals as goal

pub returns : goal.returns
returns c = c.split.ensures.sides
