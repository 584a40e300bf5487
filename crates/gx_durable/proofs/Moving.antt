-- What a call in the log's sectors leaves of the page area, and how moves of the kept sets join.
use Rattle.std.proofs.Common.{◌≡◌, ◌∙◌, sym, refl, inl, inr, ℕ, ◌+◌, ◌≤◌, Bool, true, false, ◌||◌, List, [], ◌++◌, arith}
use Rattle.std.proofs.lemmas.List.Folds.{list_any-append}
use Rattle.gx_disk.specs.declared.layout.TheConstants.{PAGES_AT, PAGE_SECTORS}
use Rattle.gx_disk.specs.Device.{Device, Touches}
use Rattle.gx_disk.proofs.Spans.{touched_span}
use Rattle.gx_pool.specs.Area.{first_of}
use Rattle.gx_recovery.specs.Known.{Known, IsLawful}
use Rattle.gx_recovery.specs.Records.{Record, gives}
use Rattle.gx_recovery.specs.Logged.{Logged, IsHealthy, begun, gate_synced}
use Rattle.gx_recovery.specs.Life.{AreSame, AreFewer, kept_of}
use Rattle.gx_recovery.proofs.Tests.{or_none_first}
use Rattle.gx_recovery.proofs.Lives.{begun_stays, synced_moves}
use Rattle.gx_durable.specs.Spelled.{Reading}
use Rattle.gx_durable.specs.Area.{area_of, HasPages, is_given, IsSettledBut}
use Rattle.gx_durable.specs.Steps.{GoesOn}
use Rattle.gx_durable.proofs.Areas.{page_same}

module _ {E P : Type 0} (r : Reading E P) (pages sectors : ℕ) (has : HasPages pages sectors) where
  -- a call in front of the pages leaves each
  pub area_elsewhere : (first n : ℕ) (old new : Device) → first + n ≤ PAGES_AT → Touches first n old new → (p : ℕ) → area_of r pages new.seen p ≡ area_of r pages old.seen p
  area_elsewhere first n old new front touches p =
      page_same r pages sectors has p new.seen old.seen (λ is. touched_span first n (first_of p) PAGE_SECTORS old new touches (inl (omega arith)))

pub settled_elsewhere : (first n sectors : ℕ) (old new : Device) → first + n ≤ PAGES_AT → Touches first n old new → (named : ℕ → Bool) → IsSettledBut named sectors old.pending → IsSettledBut named sectors new.pending
settled_elsewhere first n sectors old new front touches named settled p s is unnamed within =
    touches.settled s (inr (omega (arith, within.from))) (settled p s is unnamed within)

-- a page that more records don't give, fewer don't
pub given_fewer : {E P : Type 0} → (xs ys : List (Record E P)) (p : ℕ) → is_given (xs ++ ys) p ≡ false → is_given xs p ≡ false
given_fewer xs ys p none = or_none_first (is_given xs p) (is_given ys p) (sym (list_any-append (gives p) xs ys) ∙ none)

or_first : (a b : Bool) → a ≡ true → (a || b) ≡ true
or_first true b is = refl
or_first false b is = cc

-- and one that fewer give, more do
pub given_more : {E P : Type 0} → (xs ys : List (Record E P)) (p : ℕ) → is_given xs p ≡ true → is_given (xs ++ ys) p ≡ true
given_more xs ys p is = list_any-append (gives p) xs ys ∙ or_first (is_given xs p) (is_given ys p) is

module _ {E P : Type 0} (k : Known E P) where
  pub goes_nowhere : (s : Logged E P) → GoesOn k s s
  goes_nowhere s = record { rises = omega arith; same_latest = refl; same_sets = record { sets = λ number e from to. refl } }

  pub goes_joined : (a b c : Logged E P) → GoesOn k a b → GoesOn k b c → GoesOn k a c
  goes_joined a b c first next = record {
    rises = omega (arith, first.rises, next.rises);
    same_latest = next.same_latest ∙ first.same_latest;
    same_sets = record {
      sets = λ number e from to. next.same_sets.sets number e from (omega (arith, first.same_latest, to)) ∙ first.same_sets.sets number e (omega (arith, next.rises, from)) to;
    };
  }

  pub same_goes : (s t : Logged E P) → AreSame (kept_of k s) (kept_of k t) → GoesOn k s t
  same_goes s t same = record {
    rises = omega (arith, same.first);
    same_latest = same.last;
    same_sets = record { sets = λ number e from to. same.sets number (omega (arith, same.first, from)) to e };
  }

  pub fewer_goes : (s t : Logged E P) → AreFewer (kept_of k s) (kept_of k t) → GoesOn k s t
  fewer_goes s t fewer = record { rises = fewer.first; same_latest = fewer.last; same_sets = record { sets = λ number e from to. fewer.sets number from to e } }

  pub begun_goes : (s : Logged E P) → IsHealthy k s → s.flight ≡ [] → GoesOn k s (begun s)
  begun_goes s h none = same_goes s (begun s) (begun_stays k s h none)

  pub synced_goes : IsLawful k → (s : Logged E P) → IsHealthy k s → GoesOn k s (gate_synced s)
  synced_goes l s h = fewer_goes s (gate_synced s) (synced_moves k l s h)
