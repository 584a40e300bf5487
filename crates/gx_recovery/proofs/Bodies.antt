-- Bodies that are undamaged, with one more.
use Rattle.std.proofs.Common.{◌≡◌, ℕ, true, List, [], ◌∷◌, ◌++◌, refl, ap, ◌∙◌}
use Rattle.gx_recovery.specs.Known.{Known, IsLawful}
use Rattle.gx_recovery.specs.Records.{Record}
use Rattle.gx_recovery.specs.Damage.{follows, follow, is_head, records_of, is_undamaged, IsLog}
use Rattle.gx_recovery.specs.Coming.{MayComeAll}
use Rattle.gx_recovery.specs.Renewal.{renewed}
use Rattle.gx_recovery.proofs.Tests.{and_first, and_second}
use Rattle.gx_recovery.proofs.Logs.{and_all, follow-append}
use Rattle.gx_recovery.proofs.DamageItems.{records_append}
use Rattle.gx_recovery.proofs.Renewals.{renewed_is_head}

module _ {E P : Type 0} (k : Known E P) where
  coming_follow : (area : ℕ → P) (log rs : List (Record E P)) → MayComeAll k area log rs → follow k log rs ≡ true
  coming_follow area log [] come = refl
  coming_follow area log (r ∷ rs) come =
      and_all (follows k log r) (follow k (log ++ r ∷ []) rs) come.0.follows (coming_follow area (log ++ r ∷ []) rs come.1)

  pub batch_undamaged : IsLawful k → (area : ℕ → P) (bodies : List (List (Record E P))) (body : List (Record E P)) → is_undamaged k bodies ≡ true
      → MayComeAll k area (records_of bodies) body → is_undamaged k (bodies ++ body ∷ []) ≡ true
  batch_undamaged l area [] body h come = cc
  batch_undamaged l area (head ∷ bodies) body h come =
      and_all (is_head k head) (follow k head (records_of (bodies ++ body ∷ []))) (and_first (is_head k head) (follow k head (records_of bodies)) h)
      (ap (follow k head) (records_append k bodies body)
      ∙ follow-append k l head (records_of bodies) body (and_second (is_head k head) (follow k head (records_of bodies)) h)
      (coming_follow area (head ++ records_of bodies) body come))

  pub renewed_undamaged : IsLawful k → (next : ℕ) (area : ℕ → P) (log : List (Record E P)) → IsLog k log → is_undamaged k (renewed k next log ∷ []) ≡ true
  renewed_undamaged l next area log is = and_all (is_head k (renewed k next log)) true (renewed_is_head k l next area log is) refl
