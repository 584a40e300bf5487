-- The committed set can be listed, if what is live can.
use Rattle.std.proofs.Common.{◌≡◌, ℕ, Bool, true, false, ◌&&◌, ◌||◌, List, [], ◌∷◌, ◌++◌, Option, Some, None, refl, sym, ◌∙◌}
use Rattle.std.specs.Prelude.{filter, if◌then◌else◌}
use Rattle.std.specs.Option.{option_or}
use Rattle.std.proofs.lemmas.List.Folds.{list_any-append}
use Rattle.gx_machine.specs.declared.entry.Entry.{Entry}
use Rattle.gx_machine.specs.Keys as keys
use Rattle.gx_machine.specs.Sets.{has, including_all, IsSetOf}
use Rattle.gx_machine.proofs.SetLaws.{has-filter}
use Rattle.gx_machine.proofs.SetsByTests.{set_that_is_gathered}
use Rattle.gx_recovery.specs.Known.{Known, IsLawful, same}
use Rattle.gx_recovery.specs.Records.{Record, Touch, touch_of}
use Rattle.gx_recovery.specs.Redo.{tree_of}
use Rattle.gx_recovery.specs.Standing.{mark_before, first_before, by_mark, counting, stands}
use Rattle.gx_recovery.proofs.MachineSteps.{same_test}
use Rattle.gx_recovery.proofs.Tests.{or_second}

both_or_none : (test among : Bool) → (test ≡ true → among ≡ true) → (test && among) ≡ test
both_or_none true among h = h refl
both_or_none false among h = refl

or_first : (a b : Bool) → a ≡ true → (a || b) ≡ true
or_first true b h = refl
or_first false b h = cc

in_either : (o : Option Bool) (live a b : Bool) → (live ≡ true → a ≡ true) → ((x : Bool) → o ≡ Some x → b ≡ true) → by_mark o live ≡ true → (a || b) ≡ true
in_either None live a b by_live by_touch h = or_first a b (by_live h)
in_either (Some x) live a b by_live by_touch h = or_second a b (by_touch x refl)

hit_same : (c is before x : Bool) → (if c && is then Some before else None) ≡ Some x → is ≡ true
hit_same true true before x h = refl
hit_same true false before x h = let no : ⊥ = cc in absurd no
hit_same false is before x h = let no : ⊥ = cc in absurd no

either_listed : (a b : Option Bool) (x first later : Bool) → ((y : Bool) → a ≡ Some y → first ≡ true) → ((y : Bool) → b ≡ Some y → later ≡ true)
    → option_or a b ≡ Some x → (first || later) ≡ true
either_listed None b x first later f g h = or_second first later (g x h)
either_listed (Some y) b x first later f g h = or_first first later (f y refl)

module _ {B P : Type 0} (k : keys.Keys B) (l : keys.IsLawful k) (known : Known (Entry B) P) (kl : IsLawful known) (cmp : known.cmp ≡ keys.entry_cmp k) where
  entry_of : Option (Touch (Entry B)) → List (Entry B)
  entry_of None = []
  entry_of (Some t) = t.entry ∷ []

  touched_in : List (Record (Entry B) P) → List (Entry B)
  touched_in [] = []
  touched_in (r ∷ rs) = entry_of (touch_of r) ++ touched_in rs

  hit_listed : (c : ℕ → Bool) (e : Entry B) (o : Option (Touch (Entry B))) (x : Bool) → mark_before known c e o ≡ Some x → has k e (entry_of o) ≡ true
  unfolding entry_of
  hit_listed c e None x h = let no : ⊥ = cc in absurd no
  hit_listed c e (Some t) x h =
      or_first (keys.same_entry k e t.entry) false (sym (same_test k l known kl cmp e t.entry) ∙ hit_same (c t.transaction) (same known e t.entry) t.before x h)

  -- an entry with a first mark before is one of those that are touched
  first_listed : (c : ℕ → Bool) (e : Entry B) (log : List (Record (Entry B) P)) (x : Bool) → first_before known c e log ≡ Some x → has k e (touched_in log) ≡ true
  unfolding touched_in
  first_listed c e [] x h = let no : ⊥ = cc in absurd no
  first_listed c e (r ∷ rs) x h =
      list_any-append (keys.same_entry k e) (entry_of (touch_of r)) (touched_in rs)
      ∙ either_listed (mark_before known c e (touch_of r)) (first_before known c e rs) x (has k e (entry_of (touch_of r))) (has k e (touched_in rs))
      (λ y g. hit_listed c e (touch_of r) y g) (λ y g. first_listed c e rs y g) h

  pub listed_set : (area : ℕ → P) (log : List (Record (Entry B) P)) (live : List (Entry B)) → ((e : Entry B) → has k e live ≡ known.live (tree_of known area log) e)
      → (passes : ℕ → Bool) → (set : List (Entry B)) × IsSetOf k (stands known passes area log) set
  listed_set area log live are passes =
      let test : Entry B → Bool = stands known passes area log in
      let all : List (Entry B) = live ++ touched_in log in
      let set = set_that_is_gathered k l (filter test all) in (
        including_all k (filter test all) [],
        record {
          in_order = set.in_order;
          members = λ e. set.members e ∙ has-filter k l test e all
              ∙ both_or_none (test e) (has k e all) (λ h. list_any-append (keys.same_entry k e) live (touched_in log)
              ∙ in_either (first_before known (counting passes log) e log) (known.live (tree_of known area log) e) (has k e live) (has k e (touched_in log))
              (λ g. are e ∙ g) (λ x g. first_listed (counting passes log) e log x g) h);
        },
      )
