use Rattle.gx_tree.proofs.laws.union_is_a_bound.Goals as goal

pub returns-clause-first : goal.returns-clause-first
returns-clause-first g c = λ most a b isa isb. g.met.K.KeyClass.union_covers_first a b isa isb

pub returns-clause-second : goal.returns-clause-second
returns-clause-second g c = λ most a b isa isb. g.met.K.KeyClass.union_covers_second a b isa isb

pub returns-clause-least : goal.returns-clause-least
returns-clause-least g c = λ most a b d isa isb first second. g.met.K.KeyClass.union_is_least a b d isa isb first second
