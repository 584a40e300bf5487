-- A page that begins anew on a level above.
use Rattle.std.proofs.Common.{◌≡◌, ℕ, suc, ◌+◌, [], refl, ap, ◌∙◌, arith, true}
use Rattle.std.specs.Prelude.{not, ◌&&◌}
use Rattle.std.proofs.lemmas.Bool.{ne_eqb}
use Rattle.gx_page.specs.Contents.{Contents}
use Rattle.gx_page.specs.Edits.{blank}
use Rattle.gx_node.specs.Reading.{Format, is_inner, inner_of, are_children}

module _ {B : Type 0} (f : Format B) where
  -- a page without items of a level above 0, with its sequence number and its rightlink
  pub record IsRaised (room level number right : ℕ) (page : Contents) : Type 0 where
    pub inner : is_inner f room page ≡ true
    pub node : inner_of f page ≡ record { level = level; nsn = number; right = right; pairs = []; children = [] }

  pub raised : (room level number nsn right : ℕ) → IsRaised room (suc level) nsn right (record (blank (suc level) number) { nsn = nsn; right = right })
  unfolding are_children
  raised room level number nsn right = record { inner = ap (λ b. not b && true) (ne_eqb (suc level) 0 (λ z. omega arith)); node = refl }

  pub raised_page : (room level own nsn right : ℕ) (page reset numbered : Contents) → reset ≡ blank (level + 1) own → numbered ≡ record reset { nsn = nsn }
      → page ≡ record numbered { right = right } → IsRaised room (suc level) nsn right page
  raised_page room level own nsn right page reset numbered a b c =
      let next : level + 1 ≡ suc level = omega arith in
      let is : page ≡ record (blank (suc level) own) { nsn = nsn; right = right } =
      c ∙ ap (λ (p : Contents). record p { right = right }) b ∙ ap (λ (p : Contents). record p { nsn = nsn; right = right }) (a ∙ ap (λ l. blank l own) next) in
      let all = raised room level own nsn right in
      record { inner = ap (is_inner f room) is ∙ all.inner; node = ap (inner_of f) is ∙ all.node }
