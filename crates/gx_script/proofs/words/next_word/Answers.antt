use Rattle.std.proofs.Common.{◌≡◌, List, ℕ, sym, ◌∙◌, drop, true, inl, inr, subst, ap, length}
use Rattle.std.proofs.lemmas.Bool.{eqb-true, eqb-false}
use Rattle.std.proofs.lemmas.List.{nil_from_length}
use Rattle.std.specs.List.{prefix_len}
use Rattle.gx_script.specs.Words.{is_separator, words, in_word}
use Rattle.gx_script.proofs.WordLemmas.{words-skipped, words-first, begins}
use Rattle.gx_script.proofs.words.next_word.Goals as goal

pub returns-then-is_empty : goal.returns-then-is_empty
returns-then-is_empty c =
    let none = nil_from_length c.split_at.result.1.now (eqb-true _ _ (sym c.is_empty.ensures ∙ c.if-is_empty.true)) in
    words-skipped c.args.bytes.now
    ∙ ap words (ap (λ (n : ℕ). drop n c.args.bytes.now) (sym c.word_start.ensures.value) ∙ sym c.split_at.ensures.back ∙ none)

pub returns : goal.returns
returns c =
    let text_is : drop (prefix_len is_separator c.args.bytes.now) c.args.bytes.now ≡ c.split_at.result.1.now =
    ap (λ (n : ℕ). drop n c.args.bytes.now) (sym c.word_start.ensures.value) ∙ sym c.split_at.ensures.back in
    let skipped = words-skipped c.args.bytes.now in
    elim (begins c.args.bytes.now) [
      | inl none ↦ absurd (eqb-false _ _ (sym c.is_empty.ensures ∙ c.if-is_empty.false) (ap (λ (bs : List ℕ). length bs) (sym text_is ∙ none)))
      | inr some ↦
          let first = words-first c.split_at.result.1.now (subst (λ (bs : List ℕ). in_word bs ≡ true) text_is some) in
          cc (skipped, text_is, first, c.word_end.ensures.value, c.split_at-2.ensures.front, c.split_at-2.ensures.back)
    ]
