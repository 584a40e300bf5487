-- An error that isn't about memory says that something is wrong with the arguments.
use Rattle.std.proofs.Common.{◌≡◌, ◌∙◌, ap, inl, inr, [], false, true}
use denote.Enum.Bare.{sameb}
use Rattle.clap.specs.Kinds.{HasKind, IsAmong, Kinds}
use Rattle.clap.specs.Values.{kind_of}
use Rattle.clap.specs.contracts.error.kind.ErrorKind.{the_type}
use Rattle.clap.specs.declared.error.Error.{Error}
use Rattle.clap.specs.declared.error.kind.ErrorKind.{ErrorKind}
use Rattle.clap.specs.declared.error.kind.ErrorKind.TheVariants.{OutOfMemory}

-- a test for memory that failed is right
pub no_memory_fault : (k : ErrorKind) → false ≡ sameb the_type k OutOfMemory → k ≡ OutOfMemory → ⊥
no_memory_fault k other same =
    let bad : false ≡ true = other ∙ ap (λ (it : ErrorKind). sameb the_type it OutOfMemory) same in
    cc

pub some_fault : (kinds : Kinds) (error : Error) → HasKind kinds error → (kind_of error ≡ OutOfMemory → ⊥) → kinds ≡ [] → ⊥
some_fault kinds error has other none = elim has [
  | inl memory ↦ other memory
  | inr among ↦
      let bad : IsAmong (kind_of error) [] = rw none at among in
      bad
]
