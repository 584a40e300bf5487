use Rattle.gx_pool.specs.Marks.{clean, empty}
use Rattle.gx_pool.proofs.Counting.{some_counted}
use Rattle.gx_pool.proofs.Creating.{none_clean_counted}
use Rattle.gx_pool.proofs.Numbers.{all_but_held, clean_dirty_apart, none_dirty_zero, zero_none_dirty}
use Rattle.gx_pool.proofs.laws.counting.Goals as goal

pub returns : goal.returns
returns c = record { some = λ s positive. some_counted (clean s.held) s.marks empty positive; none = none_clean_counted; apart = clean_dirty_apart; all = all_but_held; none_dirty = none_dirty_zero; zero = zero_none_dirty }
