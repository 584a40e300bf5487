use Rattle.std.proofs.Common.{◌≡◌, ℕ, ◌∷◌, ◌++◌, sym, ap, eqb, ◌∙◌, drop, take}
use Rattle.std.specs.List.{list_any, position_or_len}
use Rattle.std.proofs.lemmas.List.{nil_from_length}
use Rattle.gx_script.proofs.LineLemmas.{line-none, line-found, none-before_first}
use Rattle.gx_script.proofs.runner.next_line.Goals as goal

pub returns-in-None : goal.returns-in-None
returns-in-None c =
    line-none c.args.bytes.now
    (ap (λ (n : ℕ). drop n c.args.bytes.now) (sym c.line_end.ensures.value) ∙ sym c.split_at.ensures.back
    ∙ nil_from_length c.split_at.result.1.now c.in-None.ensures.cases)

pub returns-in-Some : goal.returns-in-Some
returns-in-Some c =
    let front : c.split_at.result.0.now ≡ take (position_or_len (λ b. eqb b 10) c.args.bytes.now) c.args.bytes.now =
    c.split_at.ensures.front ∙ ap (λ (n : ℕ). take n c.args.bytes.now) c.line_end.ensures.value in
    let found = line-found c.args.bytes.now c.in-Some.field-0-0.now c.in-Some.more.now
    (ap (λ (n : ℕ). drop n c.args.bytes.now) (sym c.line_end.ensures.value) ∙ sym c.split_at.ensures.back ∙ c.in-Some.ensures.cases.0) in (
      ap (λ v. list_any (λ b. eqb b 10) v) front ∙ none-before_first (λ b. eqb b 10) c.args.bytes.now,
      found ∙ ap (λ v. v ++ (10 ∷ c.in-Some.more.now)) (sym front),
    )
