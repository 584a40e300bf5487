use Rattle.std.proofs.Common.{◌≡◌, ℕ, ◌+◌, ◌<◌, ◌≤◌, Bool, true, false, ap, sym, ◌∙◌}
use Rattle.std.specs.Prelude.{nat_le, nat_lt, if◌then◌else◌}
use Rattle.std.proofs.lemmas.Bool.{le-leb, lt-leb}
use Rattle.gx_split.specs.Split.{second_less}
use Rattle.gx_split.specs.declared.choice.Offer.{Offer}
use Rattle.gx_split.proofs.choice.takes_second.Goals as goal

-- whether the first group needs all that wait, whether the second does, and what the rule says
abbrev chosen : Bool → Bool → Bool → Bool
chosen first second rule = if first then false else (if second then true else rule)

abbrev preferred : Offer → Offer → Bool
preferred first second = second_less first.grows second.grows (second_less first.size second.size (nat_lt second.keys first.keys))

first_gets : (x l : ℕ) (second rule : Bool) → x ≤ l → false ≡ chosen (nat_le x l) second rule
first_gets x l second rule h = ap (λ t. chosen t second rule) (sym (le-leb x l h))

second_gets : (x y l : ℕ) (rule : Bool) → l < x → y ≤ l → true ≡ chosen (nat_le x l) (nat_le y l) rule
second_gets x y l rule h k = ap (λ t. chosen t true rule) (sym (lt-leb x l h)) ∙ ap (λ t. chosen (nat_le x l) t rule) (sym (le-leb y l k))

rule_decides : (x y l : ℕ) (rule : Bool) → l < x → l < y → rule ≡ chosen (nat_le x l) (nat_le y l) rule
rule_decides x y l rule h k = ap (λ t. chosen t false rule) (sym (lt-leb x l h)) ∙ ap (λ t. chosen (nat_le x l) t rule) (sym (lt-leb y l k))

pub returns-then-first-waiting : goal.returns-then-first-waiting
returns-then-first-waiting c =
    let first = c.args.first in let second = c.args.second in let waits = c.args.waiting in let least = c.args.least in
    first_gets (first.keys + waits) least (nat_le (second.keys + waits) least) (preferred first second) c.if-first-waiting.true

pub returns-then-second-waiting : goal.returns-then-second-waiting
returns-then-second-waiting c =
    let first = c.args.first in let second = c.args.second in let waits = c.args.waiting in
    second_gets (first.keys + waits) (second.keys + waits) c.args.least (preferred first second) c.if-first-waiting.false c.if-second-waiting.true

pub returns-else-second-waiting : goal.returns-else-second-waiting
returns-else-second-waiting c =
    let first = c.args.first in let second = c.args.second in let waits = c.args.waiting in
    c.prefers_second.ensures ∙ rule_decides (first.keys + waits) (second.keys + waits) c.args.least (preferred first second) c.if-first-waiting.false c.if-second-waiting.false
