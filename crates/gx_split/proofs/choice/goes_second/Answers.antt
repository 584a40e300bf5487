use Rattle.std.proofs.Common.{ℕ, ◌+◌, Bool, true, false, length, ap, sym, ◌∙◌}
use Rattle.std.specs.Prelude.{nat_le, nat_lt, if◌then◌else◌}
use Rattle.std.proofs.lemmas.List.{length-map}
use Rattle.gx_split.specs.Split.{second_less}
use Rattle.gx_split.specs.Waiting.{slot_of}
use Rattle.gx_split.proofs.choice.goes_second.Goals as goal

-- the side by numbers alone: how many keys each group has and needs, the growths, the covers' sizes, and how many wait
abbrev side : ℕ → ℕ → ℕ → ℕ → ℕ → ℕ → ℕ → ℕ → Bool
side in_first in_second least grows grows' size size' waits =
    if nat_le (in_first + waits) least then false
    else (if nat_le (in_second + waits) least then true else second_less grows grows' (second_less size size' (nat_lt in_second in_first)))

pub returns : goal.returns
returns g c =
    let covers = c.args.covers.now in
    let waiting = c.args.waiting.now in
    let size = g.M.Measure.extent in
    let by = side covers.in_first covers.in_second c.args.least c.args.next.now.first c.args.next.now.second in
    c.takes_second.ensures ∙ ap (λ n. by n c.size-2.result (length waiting)) c.size.ensures.value
    ∙ ap (λ n. by (size covers.first) n (length waiting)) c.size-2.ensures.value
    ∙ ap (by (size covers.first) (size covers.second)) (sym (length-map waiting slot_of))
