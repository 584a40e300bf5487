use Rattle.gx_shared.proofs.book.Book.stands.Goals as goal

pub returns : goal.returns
returns g c = rw (← c.self.view_is) (λ granted.
    let f = c.self.invariant.facts granted in
    record { start = f.start; at = f.at; machine = f.book.machine; seen = f.book.seen; replays = f.book.replays })
