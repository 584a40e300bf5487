use Rattle.gx_pool.proofs.Numbers.{change_keeps_clean, change_leaves, change_raises, change_takes_clean}
use Rattle.gx_pool.proofs.laws.change_counts.Goals as goal

pub returns : goal.returns
returns c = record { raises = change_raises; leaves = change_leaves; keeps_clean = change_keeps_clean; takes_clean = change_takes_clean }
