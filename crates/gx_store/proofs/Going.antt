-- How goings-on of a store join.
use Rattle.std.proofs.Common.{◌≡◌, ◌⊎◌, inl, inr, ⊎_elim, ℕ, refl, sym, ap, subst, ◌∙◌, Bool, Option, Some, None, IsSome, arith}
use Rattle.gx_disk.specs.Device as disk
use Rattle.gx_page.specs.Contents.{Contents}
use Rattle.gx_pool.specs.Edits.{later}
use Rattle.gx_pool.specs.State.{State, kept, stamp_of}
use Rattle.gx_pool.proofs.Bringing.{only_read_nothing, only_read_joined}
use Rattle.gx_store.specs.declared.fault.StoreFault.{StoreFault}
use Rattle.gx_store.specs.declared.fault.StoreFault.TheVariants.{NoRoom, TooFewFrames, Device, Damaged}
use Rattle.gx_store.specs.Faults.{IsWhy}
use Rattle.gx_store.specs.Since.{IsAsItWas, IsStamped, GoesOn, IsSince}
use Rattle.gx_store.specs.State.{Shelf, IsSteady}

pub as_it_is : (d : disk.Device) (s : State) (page : ℕ) → IsAsItWas d d s s page
as_it_is d s page = record { stamp = refl; dirty = λ is. refl; stands = λ steady. refl }

pub as_it_was_joined : (d e f : disk.Device) (s t u : State) (page : ℕ) → (IsSteady d s → IsSteady e t) → IsAsItWas d e s t page → IsAsItWas e f t u page → IsAsItWas d f s u page
as_it_was_joined d e f s t u page steady one two = record {
  stamp = two.stamp ∙ one.stamp;
  dirty = λ is. two.dirty (subst {A = Option ℕ} (λ o. IsSome o) (sym one.stamp) is) ∙ one.dirty is;
  stands = λ is. two.stands (steady is) ∙ one.stands is;
}

-- a second change of a batch leaves its stamp
later_twice : (batch : ℕ) (o : Option ℕ) → later batch (Some (later batch o)) ≡ later batch o
later_twice batch None = omega arith
later_twice batch (Some was) = omega arith

each_joined : (d e f : disk.Device) (s t u : State) (batch page : ℕ) → (IsSteady d s → IsSteady e t)
    → IsAsItWas d e s t page ⊎ IsStamped batch s t page → IsAsItWas e f t u page ⊎ IsStamped batch t u page → IsAsItWas d f s u page ⊎ IsStamped batch s u page
each_joined d e f s t u batch page steady one two = ⊎_elim
    (λ same. ⊎_elim
    (λ still. inl (as_it_was_joined d e f s t u page steady same still))
    (λ changed. inr (changed ∙ ap (λ o. Some (later batch o)) same.stamp))
    two)
    (λ changed. ⊎_elim
    (λ still. inr (still.stamp ∙ changed))
    (λ again. inr (again ∙ ap (λ o. Some (later batch o)) changed ∙ ap (λ n. Some n) (later_twice batch (stamp_of (kept s page)))))
    two)
    one

module _ {D : Type 0} (passes : ℕ → Contents → Bool) where
  pub goes_on_nothing : (d : disk.Device) (s : Shelf D) → GoesOn passes d d s s
  goes_on_nothing d s = record {
    device = only_read_nothing d;
    faults = omega arith;
    used = omega arith;
    counter = omega arith;
    pages = refl;
    batch = refl;
    has_room = refl;
    gated = refl;
    frames = refl;
    each = λ page. inl (as_it_is d s.frames page);
    steady = λ is. is;
    readable = λ steady is. is;
  }

  pub goes_on_joined : (d e f : disk.Device) (s t u : Shelf D) → GoesOn passes d e s t → GoesOn passes e f t u → GoesOn passes d f s u
  goes_on_joined d e f s t u one two = record {
    device = only_read_joined d e f one.device two.device;
    faults = omega (arith, one.faults, two.faults);
    used = omega (arith, one.used, two.used);
    counter = omega (arith, one.counter, two.counter);
    pages = two.pages ∙ one.pages;
    batch = two.batch ∙ one.batch;
    has_room = two.has_room ∙ one.has_room;
    gated = two.gated ∙ one.gated;
    frames = two.frames ∙ one.frames;
    each = λ page. each_joined d e f s.frames t.frames u.frames s.batch page one.steady (one.each page)
        (subst {A = ℕ} (λ batch. IsAsItWas e f t.frames u.frames page ⊎ IsStamped batch t.frames u.frames page) one.batch (two.each page));
    steady = λ is. two.steady (one.steady is);
    readable = λ steady is. two.readable (one.steady steady) (one.readable steady is);
  }

  pub begins : (d : disk.Device) (s : Shelf D) (page : ℕ) → IsSince passes d d s s page
  begins d s page = record { goes_on = goes_on_nothing d s; same = as_it_is d s.frames page }

  pub since_joined : (d e f : disk.Device) (s t u : Shelf D) (page : ℕ) → IsSince passes d e s t page → GoesOn passes e f t u → IsAsItWas e f t.frames u.frames page → IsSince passes d f s u page
  since_joined d e f s t u page one two same = record {
    goes_on = goes_on_joined d e f s t u one.goes_on two;
    same = as_it_was_joined d e f s.frames t.frames u.frames page one.goes_on.steady one.same same;
  }

  -- why pages are refused from later on is why they are from before on
  pub why_later : (d e f : disk.Device) (s t u : Shelf D) (fault : StoreFault) → GoesOn passes d e s t → IsWhy passes e f t u fault → IsWhy passes d f s u fault
  why_later d e f s t u NoRoom on is = sym on.has_room ∙ is
  why_later d e f s t u (TooFewFrames wanted) on is = is
  why_later d e f s t u Device on is = omega (arith, on.faults, is)
  why_later d e f s t u Damaged on is = λ steady readable. is (on.steady steady) (on.readable steady readable)
