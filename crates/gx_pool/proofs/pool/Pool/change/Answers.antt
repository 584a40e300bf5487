use Rattle.std.proofs.Common.{refl}
use Rattle.gx_pool.proofs.pool.Pool.change.Goals as goal

pub returns : goal.returns
returns g c =
    let one = c.in_ok-bring_one.ensures.brought in (
      (
        refl,
        λ w is. record {
          between = c.bring_one.new.self.frames;
          brought = record { brings = one.brings; alone = one.alone; first = one.first; others = one.others; few = one.few; only_read = one.only_read; faults = one.faults; answer = one.answer };
          lent = c.change_kept.ensures.page;
          changed = refl;
          test = c.bring_one.ensures.test;
        },
        tt,
      ),
      record { changed = tt; idle = λ there. (c.bring_one.ensures.idle there).1 },
    )
