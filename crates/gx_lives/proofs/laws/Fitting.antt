-- What an index of a class may be formatted for fits its fields.
use Rattle.std.proofs.Common.{sym, subst, ℕ, ◌<◌, arith}
use Rattle.std.specs.Prelude.{◌^◌}
use Rattle.gx_glog.specs.Parameters.{Fit}
use Rattle.gx_glog.specs.declared.parameters.Parameters.{Parameters}
use Rattle.gx_opening.specs.Formatted.{IsAllowed}

pub fit_of : (code : ℕ) (p : Parameters) → code < 2 ^ 16 → IsAllowed code p → Fit p
fit_of code p few allowed = record {
  pages = (let most = allowed.range.most_pages in omega (arith, most));
  most = (let most = allowed.range.most_entries in omega (arith, most));
  class = subst (λ n. n < 2 ^ 16) (sym allowed.class_is) few;
}
