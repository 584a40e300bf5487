-- The slot before says where these bytes end.
use Rattle.std.proofs.Common.{◌≡◌, ℕ, suc, ◌+◌, ◌-◌, [], length, take, get_or, sym, ap, ◌∙◌, arith}
use Rattle.gx_page.specs.Format.{total}
use Rattle.gx_page.specs.Reading.{read_of}
use Rattle.gx_page.proofs.Parts.{total-take-suc}
use Rattle.gx_page.proofs.Slots.{total-take-le}
use Rattle.gx_page.proofs.directory.end_of.Goals as goal

pub returns-else-slot-eq0-clause-end : goal.returns-else-slot-eq0-clause-end
returns-else-slot-eq0-clause-end c =
    let items = (read_of c.args.block.now.bytes).items in let j = c.args.slot - 1 in let again : suc j ≡ c.args.slot = omega arith in
    let next : total (take c.args.slot items) ≡ total (take j items) + length (get_or items j []) = ap (λ (n : ℕ). total (take n items)) (sym again) ∙ total-take-suc items j in
    omega (arith, c.place_of.ensures, next)

pub returns-else-slot-eq0-clause-within : goal.returns-else-slot-eq0-clause-within
returns-else-slot-eq0-clause-within c = total-take-le (read_of c.args.block.now.bytes).items c.args.slot
