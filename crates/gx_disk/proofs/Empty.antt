-- How a value that takes no bytes is made. Assumes `Logic`.
use Rattle.std.proofs.Common.{List, [], ◌∷◌, refl}
use seplogic.Ra.Ura.{Ura}
use mir.Val.{Val, vstruct, vnil}
use types.Logic.{Logic}
use types.Kit.{Goal, Step, step, Item, ‵, ◌$◌, fjoin, fpack, feq_i}
use denote.RattleType.{RattleType, Valss}
use denote.Steps.{nothing}
use denote.Struct.Struct.{Struct, within}

-- as the machine holds it
abbrev pub no_bytes : Val
no_bytes = vstruct vnil

-- the struct of no fields, as a type of the logic
abbrev pub Empty : RattleType
Empty = Struct (record { name = []; args = []; types = []; fields = [] })

-- what it owns comes from nothing
pub empty_made : {M : Type 1} {𝓤 : Ura M} {𝓛 : Logic 𝓤} {K : Type 0} {Γ : List (Item 𝓤)} {G : Goal 𝓤 𝓛.H} → K → Step K 𝓛 (‵ (Empty.own_val tt (no_bytes ∷ [])) ∷ Γ) G Γ G
empty_made k = step (λ rest.
    nothing k $ feq_i k (List Val) (no_bytes ∷ []) (no_bytes ∷ []) refl $ fjoin k $
    fpack k (Valss []) (within (record { name = []; args = []; types = []; fields = [] }) tt (no_bytes ∷ [])) tt $ rest)
