-- What numbers make a key.
use Rattle.std.proofs.Common.{◌≡◌, ◌≢◌, ℤ, List, Bool, true, false, cond, eqb, length, refl, None, Some, inl, inr}
use Rattle.std.specs.Prelude.{◌&&◌}
use Rattle.std.proofs.lemmas.Bool.{eq-eqb, ne_eqb}
use Rattle.gx_script.specs.Corners.{Grammar, MakesNoKey}
use Rattle.gx_script.specs.Requests.{key_of}

module _ {B : Type 0} (k : Grammar B) where
  other_count : (t : Bool) (zs : List ℤ) → length zs ≢ k.count → cond (eqb (length zs) k.count && t) (Some (k.made zs)) None ≡ None
  other_count t zs other = let never : eqb (length zs) k.count ≡ false = ne_eqb (length zs) k.count other in rw never refl

  unfit : (t : Bool) (zs : List ℤ) → k.fit zs ≡ false → cond (t && k.fit zs) (Some (k.made zs)) None ≡ None
  unfit true zs e = rw e refl
  unfit false zs e = refl

  -- too few numbers or too many, or one that can't be a corner
  pub makes_none : (zs : List ℤ) → MakesNoKey k zs → key_of k zs ≡ None
  makes_none zs (inl other) = other_count (k.fit zs) zs other
  makes_none zs (inr bad) = unfit (eqb (length zs) k.count) zs bad

  fit_case : (t u : Bool) (zs : List ℤ) → t ≡ true → k.fit zs ≡ u → cond (t && k.fit zs) (Some (k.made zs)) None ≡ cond u (Some (k.made zs)) None
  fit_case t u zs e f = rw (e, f) refl

  -- as many as a key has
  pub so_many : (zs : List ℤ) (u : Bool) → length zs ≡ k.count → k.fit zs ≡ u → key_of k zs ≡ cond u (Some (k.made zs)) None
  so_many zs u many fit = fit_case (eqb (length zs) k.count) u zs (eq-eqb (length zs) k.count many) fit
