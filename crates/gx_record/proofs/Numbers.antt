-- Numbers as bytes and back.
use Rattle.std.proofs.Common.{◌≡◌, ℕ, ◌^◌, ◌<◌, List, length, refl, arith}
use Rattle.std.proofs.lemmas.Nat.{be_bytes_2, be_bytes_4, be_bytes_8, from_be_bytes-to_be_bytes_2, from_be_bytes-to_be_bytes_4, from_be_bytes-to_be_bytes_8}
use Rattle.gx_page.specs.Bytes.{AreBytes}
use Rattle.gx_record.specs.Bytes.{u64_bytes, u32_bytes, u16_bytes, u64_of, u32_of, u16_of}

pub length-u64_bytes : (n : ℕ) → length (u64_bytes n) ≡ 8
unfolding u64_bytes
length-u64_bytes n = refl

pub length-u32_bytes : (n : ℕ) → length (u32_bytes n) ≡ 4
unfolding u32_bytes
length-u32_bytes n = refl

pub length-u16_bytes : (n : ℕ) → length (u16_bytes n) ≡ 2
unfolding u16_bytes
length-u16_bytes n = refl

pub u64_again : (n : ℕ) → n < 2 ^ 64 → u64_of (u64_bytes n) ≡ n
unfolding u64_of u64_bytes
u64_again n fits = from_be_bytes-to_be_bytes_8 n fits

pub u32_again : (n : ℕ) → n < 2 ^ 32 → u32_of (u32_bytes n) ≡ n
unfolding u32_of u32_bytes
u32_again n fits = from_be_bytes-to_be_bytes_4 n fits

pub u16_again : (n : ℕ) → n < 2 ^ 16 → u16_of (u16_bytes n) ≡ n
unfolding u16_of u16_bytes
u16_again n fits = from_be_bytes-to_be_bytes_2 n fits

pub u64_back : (bytes : List ℕ) → length bytes ≡ 8 → AreBytes bytes → u64_bytes (u64_of bytes) ≡ bytes
unfolding u64_of u64_bytes
u64_back bytes size are = be_bytes_8 bytes _ size are refl

pub u32_back : (bytes : List ℕ) → length bytes ≡ 4 → AreBytes bytes → u32_bytes (u32_of bytes) ≡ bytes
unfolding u32_of u32_bytes
u32_back bytes size are = be_bytes_4 bytes _ size are refl

pub u16_back : (bytes : List ℕ) → length bytes ≡ 2 → AreBytes bytes → u16_bytes (u16_of bytes) ≡ bytes
unfolding u16_of u16_bytes
u16_back bytes size are = be_bytes_2 bytes _ size are refl

pub u64_below : (bytes : List ℕ) → AreBytes bytes → u64_of bytes < 2 ^ 64
unfolding u64_of
u64_below bytes are = omega (arith, are 0, are 1, are 2, are 3, are 4, are 5, are 6, are 7)

pub u32_below : (bytes : List ℕ) → AreBytes bytes → u32_of bytes < 2 ^ 32
unfolding u32_of
u32_below bytes are = omega (arith, are 0, are 1, are 2, are 3)

pub u16_below : (bytes : List ℕ) → AreBytes bytes → u16_of bytes < 2 ^ 16
unfolding u16_of
u16_below bytes are = omega (arith, are 0, are 1)
