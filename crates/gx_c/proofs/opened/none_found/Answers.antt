use Rattle.gx_c.proofs.opened.none_found.Goals as goal

pub returns : goal.returns
returns g c =
    rw (c.none.ensures, c.none-2.ensures, c.none-3.ensures, c.none-4.ensures, c.none-5.ensures, c.none-6.ensures, c.none-7.ensures, c.none-8.ensures) at c.in_ok-from_array.ensures.items
