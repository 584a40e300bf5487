use Rattle.gx_shared.proofs.laws.an_idle_engine_may_be_shared.Goals as goal

pub returns : goal.returns
returns g c = λ engine m seen eight none. record {
  start = m;
  at = record { starts_here = seen; only = λ other too. g.met.E.Events.one engine other m too seen };
  seen = seen;
  eight = eight;
  none_open = none;
}
