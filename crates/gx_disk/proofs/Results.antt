-- Facts of an answer that is Ok, as callers of a device have them.
use Rattle.std.proofs.Common.{Result, Ok, Err}
use Rattle.std.specs.Prelude.{OnOk, IfOk}

-- two facts of an Ok are one
pub ok_both : {T E : Type 0} (P Q : Type 0) (result : Result T E) → OnOk result P → OnOk result Q → OnOk result (P × Q)
ok_both P Q (Ok x) p q = (p, q)
ok_both P Q (Err e) p q = tt

-- what holds of an Ok under a premise, such as that the device is honest, holds of the Ok under that premise
pub ok_when : {T E : Type 0} (A P : Type 0) (result : Result T E) → (A → OnOk result P) → OnOk result (A → P)
ok_when A P (Ok x) when = when
ok_when A P (Err e) when = tt

pub ok_value_when : {T E : Type 0} (A : Type 0) (P : T → Type 0) (result : Result T E) → (A → IfOk result P) → IfOk result (λ x. A → P x)
ok_value_when A P (Ok x) when = when
ok_value_when A P (Err e) when = tt
