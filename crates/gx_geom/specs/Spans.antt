-- Intervals of whole numbers, given by two ends, and the relations between them.
use Rattle.std.specs.Prelude.{ℕ, ℤ, ◌-ℤ◌, ◌≤ℤ◌, int_le, unsigned_abs, FitsSigned, Bool, ◌&&◌, List, ◌∷◌, ◌++◌}
use Rattle.std.specs.Int.{w64, int_min, int_max}
use Rattle.std.specs.Fmt.{signed_decimal}
use Rattle.std.specs.Ordering.{int_cmp, ordering_then}
use Rattle.std.specs.declared.cmp.Ordering.{Ordering}

-- the ends of an interval: its least number and its greatest
pub record Span : Type 0 where
  pub lo : ℤ
  pub hi : ℤ

-- ends that make an interval: they aren't reversed, and each fits in 64 bits
pub record IsInterval (a : Span) : Type 0 where
  pub in_order : a.lo ≤ℤ a.hi
  pub lo_fits : FitsSigned w64 a.lo
  pub hi_fits : FitsSigned w64 a.hi

-- neither ends before the other begins
pub record Meet (a b : Span) : Type 0 where
  pub left : a.lo ≤ℤ b.hi
  pub right : b.lo ≤ℤ a.hi

-- a begins no earlier than b and ends no later
pub record LieIn (a b : Span) : Type 0 where
  pub from : b.lo ≤ℤ a.lo
  pub to : a.hi ≤ℤ b.hi

-- the same relations as tests
abbrev pub meets : Span → Span → Bool
meets a b = int_le a.lo b.hi && int_le b.lo a.hi

abbrev pub lies_in : Span → Span → Bool
lies_in a b = int_le b.lo a.lo && int_le a.hi b.hi

-- by the least number, then the greatest
abbrev pub span_cmp : Span → Span → Ordering
span_cmp a b = ordering_then (int_cmp a.lo b.lo) (int_cmp a.hi b.hi)

-- the ends of the least interval round two
abbrev pub hull : Span → Span → Span
hull a b = record { lo = int_min a.lo b.lo; hi = int_max a.hi b.hi }

-- how far the ends are apart
abbrev pub size : Span → ℕ
size a = unsigned_abs (a.hi -ℤ a.lo)

-- the two numbers in decimal, with a space between
abbrev pub ends_text : Span → List ℕ
ends_text a = signed_decimal a.lo ++ 32 ∷ signed_decimal a.hi

abbrev pub span_of : ℤ → ℤ → Span
span_of lo hi = record { lo = lo; hi = hi }

-- the number is in the interval, its ends included
pub record HasNumber (a : Span) (n : ℤ) : Type 0 where
  pub from_lo : a.lo ≤ℤ n
  pub to_hi : n ≤ℤ a.hi

-- some number is in both
abbrev pub ShareNumber : Span → Span → Type 0
ShareNumber a b = (n : ℤ) × HasNumber a n × HasNumber b n

-- each number of a is in b
abbrev pub HasEachOf : Span → Span → Type 0
HasEachOf b a = (n : ℤ) → HasNumber a n → HasNumber b n
