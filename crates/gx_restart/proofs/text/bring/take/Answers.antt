use Rattle.std.proofs.Common.{inl, inr}
use Rattle.std.proofs.lemmas.Result.{err_from_is_err_and}
use Rattle.gx_restart.proofs.Bringing.{told_as}
use Rattle.gx_restart.proofs.text.bring.take.Goals as goal

pub returns-in_err-help-in-Err-Help-clause-taken : goal.returns-in_err-help-in-Err-Help-clause-taken
returns-in_err-help-in-Err-Help-clause-taken g c =
    let p = err_from_is_err_and c.from_residual.result c.from_residual.ensures.1 in
    rw (p.1, p.2) (inr (record {
      named = c.in-Err-Help.named;
      middle = c.bring_page.new.self;
      waits = told_as _ g.K.ReadKeys.is_proper g.K.ReadKeys.said g.K.KeyClass _ c.args.page _ _ _ _ c.in-Err-Help.field-0-is (record { comes = c.in-Err-Help.ensures.comes; stays = c.in-Err-Help.ensures.stays; leads = c.in-Err-Help.ensures.leads; order = c.in-Err-Help.ensures.order });
      refused = c.in_err-help-in-Err-Help.ensures;
    }))

pub returns-in-Err-Help-clause-taken : goal.returns-in-Err-Help-clause-taken
returns-in-Err-Help-clause-taken g c = record {
  named = c.in-Err-Help.named;
  middle = c.bring_page.new.self;
  outcome = c.in_ok-help-in-Err-Help.ensures.0;
  waits = told_as _ g.K.ReadKeys.is_proper g.K.ReadKeys.said g.K.KeyClass _ c.args.page _ _ _ _ c.in-Err-Help.field-0-is (record { comes = c.in-Err-Help.ensures.comes; stays = c.in-Err-Help.ensures.stays; leads = c.in-Err-Help.ensures.leads; order = c.in-Err-Help.ensures.order });
  helped = c.in_ok-help-in-Err-Help.ensures.1;
  made = c.in_ok-help-in-Err-Help.ensures.2;
}

pub returns-in-Err-Refused-clause-taken : goal.returns-in-Err-Refused-clause-taken
returns-in-Err-Refused-clause-taken g c =
    inl (told_as _ g.K.ReadKeys.is_proper g.K.ReadKeys.said g.K.KeyClass _ c.args.page _ _ _ _ c.in-Err-Refused.field-0-is (record { comes = c.in-Err-Refused.ensures.comes; stays = c.in-Err-Refused.ensures.stays; leads = c.in-Err-Refused.ensures.leads; order = c.in-Err-Refused.ensures.order }))
