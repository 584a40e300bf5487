use Rattle.gx_script.specs.Corners.{grammar}
use Rattle.gx_restart.proofs.laws.Decided.{index_text, opened_rests, opened_seen, same_text}
use Rattle.gx_restart.proofs.laws.texts_are_decided_by_calls.Goals as goal

pub returns-clause-decided : goal.returns-clause-decided
returns-clause-decided g c = λ l number lines old new text script goes bodies i h m seen rests.
    index_text (grammar g.B.Corners.COUNT g.B.Corners.corners g.B.Corners.fit g.B.Corners.made) _ g.K.ReadKeys.is_proper g.K.ReadKeys.said g.K.KeyClass _ l (c.no_call_is_given_up.ensures l) (c.a_class_is_lawful.ensures l h.some) number lines old new text script goes bodies i h m seen rests

pub returns-clause-same : goal.returns-clause-same
returns-clause-same g c = λ l number lines old new text script first last other plain so goes bodies i h m seen rests same.
    same_text (grammar g.B.Corners.COUNT g.B.Corners.corners g.B.Corners.fit g.B.Corners.made) _ g.K.ReadKeys.is_proper g.K.ReadKeys.said g.K.KeyClass _ l (c.no_call_is_given_up.ensures l) (c.a_class_is_lawful.ensures l h.some) number lines old new text script first last other plain so goes bodies i h m seen rests same

pub returns-clause-opened : goal.returns-clause-opened
returns-clause-opened g c = λ number set. (opened_rests number set, opened_seen number set)
