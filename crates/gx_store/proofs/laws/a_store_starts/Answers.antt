use Rattle.std.proofs.Common.{sym, ◌∙◌}
use Rattle.std.proofs.lemmas.Option.{none-some}
use Rattle.gx_store.proofs.laws.a_store_starts.Goals as goal

pub returns-clause-order : goal.returns-clause-order
returns-clause-order g c = λ disk frames count used pages empty few inside taken. record {
  few = few;
  inside = inside;
  taken = taken;
  passed = λ page k is. absurd (none-some k (sym (empty.none page) ∙ is));
  none_above = λ page above. empty.none page;
}

pub returns-clause-steady : goal.returns-clause-steady
returns-clause-steady g c = λ disk frames count empty honest. record { honest = honest; backed = λ page k is clean. absurd (none-some k (sym (empty.none page) ∙ is)) }
