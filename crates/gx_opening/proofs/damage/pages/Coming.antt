-- A page that came into a frame can be read.
use Rattle.std.proofs.Common.{◌≡◌, ◌⊎◌, inl, inr, ℕ, Bool, true, Option, Some, None, IsSome, arith, Ok, ap, ◌∙◌}
use Rattle.gx_disk.specs.Device.{Device}
use Rattle.gx_page.specs.Contents.{Contents}
use Rattle.gx_pool.specs.Area.{IsPassing, bytes_of}
use Rattle.gx_pool.specs.Bringing.{BringsOne, Came, Left}
use Rattle.gx_pool.specs.State.{Kept, State, kept}

none_there : (o : Option Kept) → IsSome o → o ≡ None → ⊥
none_there None is none = absurd (grind (arith, is))
none_there (Some k) is none = cc

module _ (passes : Contents → Bool) (d e : Device) (old new : State) (page : ℕ) (honest : d.honest ≡ true) where
  by_fate : kept old page ≡ None → IsSome (kept new page) → (kept new page ≡ kept old page) ⊎ (Left old new page ⊎ Came passes d.honest d.seen old new page) → IsPassing passes page (bytes_of d.seen page)
  by_fate none is (inl same) = absurd (none_there (kept new page) is (same ∙ none))
  by_fate none is (inr (inl left)) = absurd (none_there (kept new page) is left.is)
  by_fate none is (inr (inr came)) =
      let image = came.backed honest in
      record {
        image = image.image;
        number = ap (λ (c : Contents). c.number) image.read ∙ came.number;
        passing = ap passes image.read ∙ came.passing;
      }

  pub came_passes : (done : Unit {0}) → kept old page ≡ None → BringsOne {A = Unit {0}} passes d e old new page (Ok done) → IsPassing passes page (bytes_of d.seen page)
  came_passes done none one = by_fate none one.answer (one.brings.fates page)
