-- What a device is formatted for, as what is read of its first two sectors.
use Rattle.std.proofs.Common.{◌≡◌, ◌∙◌, sym, ap, refl, ℕ, ◌+◌, ◌≤◌, ◌++◌, List, get_or, length, take, drop, length-append, arith}
use Rattle.std.proofs.lemmas.List.{take_at, drop_at, length-take}
use Rattle.gx_disk.specs.Sectors.{sector_of}
use Rattle.gx_durable.specs.Head.{head_in}
use Rattle.gx_format.specs.Fresh.{HasMagic, HasOldMagic, magic_bytes}
use Rattle.gx_glog.specs.Parameters.{Fit, parameters_bytes}
use Rattle.gx_glog.specs.declared.parameters.Parameters.{Parameters}
use Rattle.gx_opening.specs.Formatted.{Says, head_of}

-- a device that is formatted so reads so
pub head_read : (image : List ℕ) (p : Parameters) → HasMagic image → take 8 (sector_of image 1) ≡ parameters_bytes p → head_in image ≡ head_of p
head_read image p magic told = ap (λ (bytes : List ℕ). bytes ++ take 8 (sector_of image 1)) magic ∙ ap (λ (bytes : List ℕ). magic_bytes ++ bytes) told

pub formatted_head : (image : List ℕ) (p : Parameters) → HasMagic image → Says image p → head_in image ≡ head_of p
formatted_head image p magic says = head_read image p magic says.bytes

-- no device has both magics
pub one_magic : (image : List ℕ) → HasMagic image → HasOldMagic image → ⊥
one_magic image magic old = (let last : 0x32 ≡ 0x31 = ap (λ (bytes : List ℕ). get_or bytes 7 0) (sym magic ∙ old) in omega (arith, last))

-- no more bytes are taken than asked for
taken : (n : ℕ) (xs : List ℕ) → length (take n xs) ≤ n
taken n xs = omega (arith, length-take n xs)

sixteen : (p : Parameters) → length (head_of p) ≡ 16
sixteen p = refl

-- and one that reads so is formatted so
module _ (image : List ℕ) (p : Parameters) (reads : head_in image ≡ head_of p) where
  abbrev first : List ℕ
  first = take 8 (sector_of image 0)

  abbrev second : List ℕ
  second = take 8 (sector_of image 1)

  eight : length first ≡ 8
  eight =
      let all : length (first ++ second) ≡ 16 = ap (λ (bytes : List ℕ). length bytes) reads ∙ sixteen p in
      let parts : length (first ++ second) ≡ length first + length second = length-append first second in
      let one : length first ≤ 8 = taken 8 (sector_of image 0) in
      let other : length second ≤ 8 = taken 8 (sector_of image 1) in
      omega (arith, all, parts, one, other)

  pub head_magic : HasMagic image
  head_magic = sym (take_at first second 8 eight) ∙ ap (λ (bytes : List ℕ). take 8 bytes) reads

  pub head_says : Fit p → Says image p
  head_says fit = record { bytes = sym (drop_at first second 8 eight) ∙ ap (λ (bytes : List ℕ). drop 8 bytes) reads; fit = fit }
