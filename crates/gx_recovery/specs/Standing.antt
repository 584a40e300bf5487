-- What a log over a page area stands for, and the set of each commit: tests of one entry.
use Rattle.std.specs.Prelude.{ℕ, Bool, not, ◌&&◌, nat_le, ◌==◌, if◌then◌else◌, Option, None, Some, is_some, List, [], ◌∷◌}
use Rattle.std.specs.Option.{option_or}
use Rattle.gx_recovery.specs.Known.{Known, same}
use Rattle.gx_recovery.specs.Records.{Record, Touch, touch_of, settled, any_number}
use Rattle.gx_recovery.specs.Analysis.{number_of}
use Rattle.gx_recovery.specs.Redo.{tree_of}

-- the mark before, of a touch of the entry by a transaction that counts
abbrev pub mark_before : {E P : Type 0} → Known E P → (ℕ → Bool) → E → Option (Touch E) → Option Bool
mark_before k counts e None = None
mark_before k counts e (Some t) = if counts t.transaction && same k e t.entry then Some t.before else None

-- the first mark before, of the entry's touches by transactions that count
abbrev pub first_before : {E P : Type 0} → Known E P → (ℕ → Bool) → E → List (Record E P) → Option Bool
first_before k counts e [] = None
first_before k counts e (r ∷ rs) = option_or (mark_before k counts e (touch_of r)) (first_before k counts e rs)

-- an entry is in the set by its first mark before, or, where it has none, if it is live
abbrev pub by_mark : Option Bool → Bool → Bool
by_mark None live = live
by_mark (Some before) live = not before

-- a transaction counts until it is closed, where a commit closes it if its number passes
abbrev pub counting : {E P : Type 0} → (ℕ → Bool) → List (Record E P) → ℕ → Bool
counting passes log t = not (settled passes t log)

-- whether an entry is in the set: by its first mark before among the transactions that count, or else if it is live
abbrev pub stands : {E P : Type 0} → Known E P → (ℕ → Bool) → (ℕ → P) → List (Record E P) → E → Bool
stands k passes area log e = by_mark (first_before k (counting passes log) e log) (k.live (tree_of k area log) e)

-- what a log stands for: transactions count that have neither committed nor ended
abbrev pub stands_for : {E P : Type 0} → Known E P → (ℕ → P) → List (Record E P) → E → Bool
stands_for k area log e = stands k any_number area log e

-- the set of a commit's number: transactions count that haven't ended, nor committed with a number up to this
abbrev pub set_of : {E P : Type 0} → Known E P → ℕ → (ℕ → P) → List (Record E P) → E → Bool
set_of k number area log e = stands k (λ n. nat_le n number) area log e

-- the first mark before of a transaction's own touches of the entry
abbrev pub own_before : {E P : Type 0} → Known E P → ℕ → E → List (Record E P) → Option Bool
own_before k t e log = first_before k (λ u. u == t) e log

-- the view of a transaction: what it touched is in it if it is live, all else if it is in the last set
abbrev pub view_of : {E P : Type 0} → Known E P → ℕ → (ℕ → P) → List (Record E P) → E → Bool
view_of k t area log e = if is_some (own_before k t e log) then k.live (tree_of k area log) e else set_of k (number_of k log) area log e
