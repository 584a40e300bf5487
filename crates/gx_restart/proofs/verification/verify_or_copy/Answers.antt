use Rattle.std.proofs.Common.{refl}
use Rattle.gx_node.specs.Reading.{format_of}
use Rattle.gx_restart.proofs.Copied.{few_there, left_there, uncopied_undamaged, uncopied_unverified, unverified_there, verified_there}
use Rattle.gx_restart.proofs.verification.Verified.{counted_refused, counted_then, refused_then}
use Rattle.gx_restart.proofs.verification.verify_or_copy.Goals as goal

pub returns-in-Ok-verify_copy-clause-verified : goal.returns-in-Ok-verify_copy-clause-verified
returns-in-Ok-verify_copy-clause-verified g c = λ honest.
    (let copy = (c.in-Ok.ensures.copy honest).0 in
    verified_there (record { partial_cmp = g.K.Key.PartialOrd.partial_cmp; eq = g.K.Key.PartialEq.eq; cmp = g.K.Key.Ord.cmp; overlap = g.K.Key.Shape.overlap; inside = g.K.Key.Shape.inside }) g.K.ReadKeys.is_proper g.K.ReadKeys.said (format_of g.K.KeyClass) _ _ _ copy c.in-Ok-verify_copy.report (c.in-Ok-verify_copy.ensures.verified copy.honest))

pub returns-in-Ok-verify_copy-clause-counted : goal.returns-in-Ok-verify_copy-clause-counted
returns-in-Ok-verify_copy-clause-counted g c = counted_then _ _ c.in-Ok.copy c.in-Ok-verify_copy.report c.in-Ok.ensures.counted

pub returns-in-Err-verify_copy-clause-counted : goal.returns-in-Err-verify_copy-clause-counted
returns-in-Err-verify_copy-clause-counted g c = refused_then _ _ c.in-Ok.copy c.in-Err-verify_copy.refused.why c.in-Ok.ensures.counted c.in-Err-verify_copy.ensures.device

pub returns-in-Err-verify_copy-clause-refused : goal.returns-in-Err-verify_copy-clause-refused
returns-in-Err-verify_copy-clause-refused g c = λ honest few many large.
    (let copy = (c.in-Ok.ensures.copy honest).0 in
    unverified_there (record { partial_cmp = g.K.Key.PartialOrd.partial_cmp; eq = g.K.Key.PartialEq.eq; cmp = g.K.Key.Ord.cmp; overlap = g.K.Key.Shape.overlap; inside = g.K.Key.Shape.inside }) g.K.ReadKeys.is_proper g.K.ReadKeys.said (format_of g.K.KeyClass) _ _ _ copy (c.in-Ok.ensures.copy honest).1 c.in-Err-verify_copy.refused.why c.in-Err-verify_copy.ensures.device (c.in-Err-verify_copy.ensures.refused copy.honest))

pub returns-in-Err-clause-counted : goal.returns-in-Err-clause-counted
returns-in-Err-clause-counted g c = counted_refused _ _ c.in-Err.why c.in-Err.ensures.counted

pub returns-in-Err-clause-refused : goal.returns-in-Err-clause-refused
returns-in-Err-clause-refused g c = λ honest few many large.
    uncopied_unverified (record { partial_cmp = g.K.Key.PartialOrd.partial_cmp; eq = g.K.Key.PartialEq.eq; cmp = g.K.Key.Ord.cmp; overlap = g.K.Key.Shape.overlap; inside = g.K.Key.Shape.inside }) g.K.ReadKeys.is_proper g.K.ReadKeys.said (format_of g.K.KeyClass) _ _ c.in-Err.why (c.in-Err.ensures.refused honest)

pub returns-in-Err-verify_copy-clause-damaged : goal.returns-in-Err-verify_copy-clause-damaged
returns-in-Err-verify_copy-clause-damaged g c = λ honest is.
    (let copy = (c.in-Ok.ensures.copy honest).0 in
    left_there (record { partial_cmp = g.K.Key.PartialOrd.partial_cmp; eq = g.K.Key.PartialEq.eq; cmp = g.K.Key.Ord.cmp; overlap = g.K.Key.Shape.overlap; inside = g.K.Key.Shape.inside }) g.K.ReadKeys.is_proper g.K.ReadKeys.said (format_of g.K.KeyClass) g.K.KeyClass.CLASS _ _ copy _ (c.in-Err-verify_copy.ensures.damaged copy.honest is))

pub returns-in-Err-verify_copy-clause-few : goal.returns-in-Err-verify_copy-clause-few
returns-in-Err-verify_copy-clause-few g c = λ honest is.
    (let copy = (c.in-Ok.ensures.copy honest).0 in
    few_there (record { partial_cmp = g.K.Key.PartialOrd.partial_cmp; eq = g.K.Key.PartialEq.eq; cmp = g.K.Key.Ord.cmp; overlap = g.K.Key.Shape.overlap; inside = g.K.Key.Shape.inside }) g.K.ReadKeys.is_proper g.K.ReadKeys.said (format_of g.K.KeyClass) g.K.KeyClass.CLASS _ _ copy _ (c.in-Err-verify_copy.ensures.damaged copy.honest is))

pub returns-in-Err-verify_copy-clause-copy : goal.returns-in-Err-verify_copy-clause-copy
returns-in-Err-verify_copy-clause-copy g c = λ honest is. (c.in-Err-verify_copy.refused.disk, (refl, c.in-Err-verify_copy.ensures.left refl is))

pub returns-in-Err-clause-copy : goal.returns-in-Err-clause-copy
returns-in-Err-clause-copy g c = λ honest is.
    absurd
    (uncopied_undamaged (record { partial_cmp = g.K.Key.PartialOrd.partial_cmp; eq = g.K.Key.PartialEq.eq; cmp = g.K.Key.Ord.cmp; overlap = g.K.Key.Shape.overlap; inside = g.K.Key.Shape.inside }) g.K.ReadKeys.is_proper g.K.ReadKeys.said (format_of g.K.KeyClass) _ _ c.in-Err.why (c.in-Err.ensures.refused honest) is)
