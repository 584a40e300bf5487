use Rattle.std.proofs.Common.{◌≡◌, ℕ, List, [], ◌∷◌, ◌++◌, append_assoc, codes}
use Rattle.std.specs.Prelude.{decimal}
use Rattle.gx_restart.proofs.text.lines.Lines.add_page.Goals as goal

joined : (o a p b l c n d r e k z : List ℕ) → ((((((((((o ++ a) ++ p) ++ b) ++ l) ++ c) ++ n) ++ d) ++ r) ++ e) ++ k) ++ z
    ≡ o ++ (a ++ (p ++ (b ++ (l ++ (c ++ (n ++ (d ++ (r ++ (e ++ (k ++ z))))))))))
joined o a p b l c n d r e k z = simp append_assoc

pub returns : goal.returns
returns c =
    let all = joined c.args.self.now (codes "page ") (decimal c.args.page) (codes " level ") (decimal c.args.level) (codes " nsn ") (decimal c.args.nsn) (codes " right ") (decimal c.args.right)
    (codes " count ") (decimal c.args.count) (10 ∷ []) in
    cc (
      all,
      c.add.ensures.text,
      c.add_number.ensures.text,
      c.add-2.ensures.text,
      c.add_number-2.ensures.text,
      c.add-3.ensures.text,
      c.add_number-3.ensures.text,
      c.add-4.ensures.text,
      c.add_number-4.ensures.text,
      c.add-5.ensures.text,
      c.add_number-5.ensures.text,
      c.add-6.ensures.text,
      c.from.ensures,
      c.from-2.ensures,
      c.from-3.ensures,
    )
