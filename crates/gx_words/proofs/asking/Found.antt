-- What is read of the matches that a parse found.
use Rattle.std.proofs.Common.{◌≡◌, ◌∙◌, ◌≤◌, ℕ, Option, Some, Result, Ok, sym, ap, arith, is_some}
use Rattle.std.specs.Str.Parse.{ParsesUnsigned}
use Rattle.clap.specs.Words.{ReadsOne, Text, first_of, first_value, one_text, rows_of, without_minus}
use Rattle.clap.specs.declared.parser.matches.Found.{Found}
use Rattle.clap.proofs.CallerReads.{signed_reads}
use Rattle.clap.proofs.WalkLemmas.{first_value-rows, one_text-rows}
use Rattle.gx_words.specs.Asking.{IsAccepted, IsNumber}

module _ {E : Type 0} (G : Text → Result ℕ E → Type 0) (only : (u : Text) (x : Result ℕ E) → G u x → ParsesUnsigned 32 10 u x) (f : Found) (name : Text) (lowest highest : ℕ)
    (accepted : IsAccepted (rows_of f) name lowest highest) where
  -- a word that passed the test is read as a number in the range
  pub number_in : (r : Option ℕ) → ((t : Text) → one_text f name ≡ Some t → ReadsOne G t r) → (n : ℕ) × (r ≡ Some n) × (lowest ≤ n) × (n ≤ highest)
  number_in r reads =
      signed_reads E G 32 lowest highest accepted.word r (reads (without_minus accepted.word) (one_text-rows f name ∙ accepted.given)) only accepted.fits accepted.accepted

  -- and that is the number that was given
  pub number_read : (v : ℕ) → ((t : Text) → one_text f name ≡ Some t → ReadsOne G t (Some v)) → IsNumber (rows_of f) name lowest highest v
  number_read v reads =
      let its = number_in (Some v) reads in
      let same : its.0 ≡ v = cc in
      let parsed = only (without_minus accepted.word) (Ok v) (reads (without_minus accepted.word) (one_text-rows f name ∙ accepted.given)) in
      record {
        word = without_minus accepted.word;
        given = accepted.given;
        digits = parsed.0.0;
        value = parsed.1;
        least = omega (arith, same, its.2);
        most = omega (arith, same, its.3);
      }

-- a word that was given was found
pub word_found : (f : Found) (name word : Text) → first_of name (rows_of f) ≡ Some word → is_some (first_value f name) ≡ is_some (Some word)
word_found f name word given = ap is_some (first_value-rows f name ∙ given)

-- the word that was found is the one that was given
pub a_word : (f : Found) (name word : Text) → Some word ≡ first_value f name → first_of name (rows_of f) ≡ Some word
a_word f name word found = sym (first_value-rows f name) ∙ sym found
