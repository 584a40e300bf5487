-- Sixteen bytes as ends, which are an interval's if they aren't reversed.
use Rattle.std.proofs.Common.{◌≡◌, ℕ, ◌<◌, Bool, true, ◌&&◌, ◌==◌, refl, List, length, Some}
use Rattle.std.specs.Prelude.{slice_index, int_le}
use Rattle.std.proofs.lemmas.Bool.{and_from, eq-eqb}
use Rattle.gx_geom.specs.Spans.{Span, IsInterval}
use Rattle.gx_geom.specs.BoxLaws.{tests_at_most}
use Rattle.gx_class.specs.Intervals.{spelling, ends_of, reading}
use Rattle.gx_class.specs.BoxReadings.{chosen, told}
use Rattle.gx_class.specs.IntervalReadings.{reading_back, reading_only}

abbrev pub in_order : Span → Bool
in_order a = int_le a.lo a.hi

pub ends_in_order : (a : Span) → IsInterval a → in_order a ≡ true
ends_in_order a is = tests_at_most a.lo a.hi is.in_order

pub ends_back : (a : Span) → IsInterval a → ends_of (spelling a) ≡ a
unfolding reading
ends_back a is = (told ((length (spelling a) == 16) && in_order (ends_of (spelling a))) (ends_of (spelling a)) a (reading_back a is)).1

reads : (bytes : List ℕ) → length bytes ≡ 16 → in_order (ends_of bytes) ≡ true → reading bytes ≡ Some (ends_of bytes)
unfolding reading
reads bytes long is =
    chosen ((length bytes == 16) && in_order (ends_of bytes)) (ends_of bytes) (ends_of bytes)
    (and_from (length bytes == 16) (in_order (ends_of bytes)) (eq-eqb (length bytes) 16 long) is) refl

pub ends_only : (bytes : List ℕ) → length bytes ≡ 16 → ((i : ℕ) → slice_index bytes i < 256) → in_order (ends_of bytes) ≡ true → IsInterval (ends_of bytes) × (bytes ≡ spelling (ends_of bytes))
ends_only bytes long small is = reading_only bytes (ends_of bytes) small (reads bytes long is)
