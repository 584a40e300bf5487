-- A record, item by item.
use Rattle.std.proofs.Common.{arith, ◌≡◌, ℕ, suc, ◌+◌, ◌<◌, ◌≤◌, Bool, true, false, ◌||◌, List, [], ◌∷◌, ◌++◌, length, take, drop, get_or, Option, Some, None, refl, ap, sym, ◌∙◌, subst}
use Rattle.std.specs.Prelude.{nat_le}
use Rattle.std.proofs.lemmas.Bool.{lt-leb}
use Rattle.std.proofs.lemmas.List.{take_more, take_all, drop_all}
use Rattle.std.proofs.lemmas.List.Elements.{All-get_or}
use Rattle.std.proofs.Math.Seq.{drop-cons}
use Rattle.gx_machine.specs.declared.call.Call.{Call}
use Rattle.gx_machine.specs.declared.item.Item.{Item}
use Rattle.gx_machine.specs.Keys.{Keys}
use Rattle.gx_machine.specs.Machine.{newest}
use Rattle.gx_events.specs.Replay.{Point, At, Fits, Leads, EndsAt, ReplaysAs}
use Rattle.gx_events.proofs.Follows.{stands_itself}
use Rattle.gx_events.proofs.Goes.{leads_join}
use Rattle.gx_plain.specs.Index.{Index, is_used_up}
use Rattle.gx_storm.specs.Following.{Follows, GoesAlong, EndsWith, HasNumber, StandsAt, asked_of, is_faultless, waiting, waits}
use Rattle.gx_storm.specs.Mismatches.{AreFaultless, GoesNowhere, HasNumbersFor, StopsAt}

module _ {B : Type 0} (k : Keys B) (items : List (Item B)) (start : Index B) where
  -- The replay goes up to this place, where the index has gone along.
  pub record IsUpTo (place : ℕ) (asking : Option (ℕ × Call B)) (index : Index B) : Type 0 where
    pub point : Point B
    pub leads : Leads k (At start.machine) (take place items) point
    pub waits_is : waits point ≡ asking
    pub stands : StandsAt point index
    pub commits : newest index.machine + waiting asking ≤ newest start.machine + place
    pub next : index.next + waiting asking ≤ start.next + place

  pub begins : IsUpTo 0 None start
  begins = record {
    point = At start.machine;
    leads = refl;
    waits_is = refl;
    stands = stands_itself start.machine;
    commits = omega arith;
    next = omega arith;
  }

  -- numbers are left while the record goes on
  numbers_last : (index : Index B) → newest index.machine < 18446744073709551607 → index.next < 18446744073709551607 → is_used_up index ≡ false
  numbers_last index few less =
      ap (λ (t : Bool). t || nat_le 18446744073709551607 index.next) (lt-leb 18446744073709551607 (newest index.machine) few) ∙ lt-leb 18446744073709551607 index.next less

  pub has_number : (place : ℕ) (asking : Option (ℕ × Call B)) (index : Index B) → place ≤ length items → HasNumbersFor (length items) start → IsUpTo place asking index
      → HasNumber asking index
  has_number place None index within numbers up = tt
  has_number place (Some ask) index within numbers up =
      let commits = up.commits in let next = up.next in
      let room = numbers.commits in let left = numbers.transactions in
      numbers_last index (omega (arith, commits, room, within)) (omega (arith, next, left, within))

  module _ (place : ℕ) (within : place < length items) (asking : Option (ℕ × Call B)) (item : Item B) (item_is : item ≡ get_or items place item)
      (index new : Index B) (up : IsUpTo place asking index) where
    -- an item on
    pub goes_on : GoesAlong (Fits k up.point item) (waiting asking) item index new → IsUpTo (place + 1) (asked_of item) new
    goes_on along =
        let taken : take (place + 1) items ≡ take place items ++ item ∷ [] =
        take_more items place item within ∙ ap (λ (x : Item B). take place items ++ x ∷ []) (sym item_is) in
        let commits = up.commits in let next = up.next in
        let rise = along.commits in let later = along.next in
        record {
          point = along.point;
          leads = subst (λ (xs : List (Item B)). Leads k (At start.machine) xs along.point) (sym taken)
              (leads_join k (At start.machine) (take place items) (item ∷ []) up.point along.point up.leads (along.point, along.fits, refl));
          waits_is = along.waits_is;
          stands = along.stands;
          commits = omega (arith, commits, rise);
          next = omega (arith, next, later);
        }

    -- no further
    pub stops : ((p : Point B) → Fits k up.point item p → ⊥) → StopsAt k start.machine items place
    stops nowhere =
        let left : drop place items ≡ item ∷ drop (place + 1) items =
        drop-cons items place item within ∙ (λ i. sym item_is i ∷ drop (next i) items) in
        record {
          within = omega arith;
          point = up.point;
          leads = up.leads;
          nowhere = subst (GoesNowhere k up.point) (sym left) nowhere;
        }
      where
        next : suc place ≡ place + 1
        next = omega arith

  -- at the record's end
  module _ (place : ℕ) (past : length items ≤ place) (few : place ≤ length items) (asking : Option (ℕ × Call B)) (index new : Index B) (up : IsUpTo place asking index) where
    pub ends : EndsWith (EndsAt k up.point) true new → ReplaysAs k start.machine items new.machine
    ends end = (
      end.0,
      (up.point, subst (λ (xs : List (Item B)). Leads k (At start.machine) xs up.point) (take_all place items past) up.leads, end.1),
      end.2,
    )

    pub stops_at_end : EndsWith (EndsAt k up.point) false new → StopsAt k start.machine items (length items)
    stops_at_end nowhere =
        let at : place ≡ length items = omega arith in
        let whole : length items ≤ length items = omega arith in
        record {
          within = omega arith;
          point = up.point;
          leads = subst (λ (n : ℕ). Leads k (At start.machine) (take n items) up.point) at up.leads;
          nowhere = subst (GoesNowhere k up.point) (sym (drop_all (length items) items whole)) nowhere;
        }

  -- The same, from what the calls say.

  -- the replay goes up to this place, of a record without faults for which there are numbers
  abbrev pub Holds : ℕ → Option (ℕ × Call B) → Index B → Type 0
  Holds place asking index = AreFaultless items → HasNumbersFor (length items) start → IsUpTo place asking index

  module _ (place : ℕ) (within : place < length items) (asking : Option (ℕ × Call B)) (item : Item B) (item_is : item ≡ get_or items place item)
      (index new : Index B) (holds : Holds place asking index) (b : Bool)
      (tried : is_faultless item ≡ true → HasNumber asking index → (p : Point B) → waits p ≡ asking → StandsAt p index
      → Follows (Fits k p item) (waiting asking) item index b new) where
    tried_at : (faultless : AreFaultless items) (numbers : HasNumbersFor (length items) start) → Follows (Fits k (holds faultless numbers).point item) (waiting asking) item index b new
    tried_at faultless numbers =
        let up = holds faultless numbers in
        let few : place ≤ length items = omega arith in
        let own : is_faultless item ≡ true = ap is_faultless item_is ∙ All-get_or (λ (x : Item B). is_faultless x ≡ true) items place item within faultless in
        tried own (has_number place asking index few numbers up) up.point up.waits_is up.stands

    pub holds_on : b ≡ true → (then : Option (ℕ × Call B)) → then ≡ asked_of item → Holds (place + 1) then new
    holds_on fits then then_is = λ faultless numbers.
        let up = holds faultless numbers in
        let along : GoesAlong (Fits k up.point item) (waiting asking) item index new =
        subst (λ (c : Bool). Follows (Fits k up.point item) (waiting asking) item index c new) fits (tried_at faultless numbers) in
        subst (λ (o : Option (ℕ × Call B)). IsUpTo (place + 1) o new) (sym then_is) (goes_on place within asking item item_is index new up along)

    pub stops_here : b ≡ false → AreFaultless items → HasNumbersFor (length items) start → StopsAt k start.machine items place
    stops_here differs = λ faultless numbers.
        let up = holds faultless numbers in
        stops place within asking item item_is index new up
        (subst (λ (c : Bool). Follows (Fits k up.point item) (waiting asking) item index c new) differs (tried_at faultless numbers))

  module _ (place : ℕ) (past : length items ≤ place) (few : place ≤ length items) (asking : Option (ℕ × Call B)) (index new : Index B) (holds : Holds place asking index) (b : Bool)
      (tried : HasNumber asking index → (p : Point B) → waits p ≡ asking → StandsAt p index → EndsWith (EndsAt k p) b new) where
    tried_end : (faultless : AreFaultless items) (numbers : HasNumbersFor (length items) start) → EndsWith (EndsAt k (holds faultless numbers).point) b new
    tried_end faultless numbers =
        let up = holds faultless numbers in
        tried (has_number place asking index few numbers up) up.point up.waits_is up.stands

    pub replayed : b ≡ true → AreFaultless items → HasNumbersFor (length items) start → ReplaysAs k start.machine items new.machine
    replayed may = λ faultless numbers.
        ends place past few asking index new (holds faultless numbers)
        (subst (λ (c : Bool). EndsWith (EndsAt k (holds faultless numbers).point) c new) may (tried_end faultless numbers))

    pub cut_short : b ≡ false → AreFaultless items → HasNumbersFor (length items) start → StopsAt k start.machine items (length items)
    cut_short maynt = λ faultless numbers.
        stops_at_end place past few asking index new (holds faultless numbers)
        (subst (λ (c : Bool). EndsWith (EndsAt k (holds faultless numbers).point) c new) maynt (tried_end faultless numbers))
