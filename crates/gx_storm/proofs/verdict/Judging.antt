-- What follows from the least refusal that is reported, and from a replay.
use Rattle.std.proofs.Common.{arith, ◌≡◌, ◌∙◌, ◌<◌, ◌≤◌, ◌+◌, ℕ, Bool, true, false, List, [], ◌∷◌, Option, None, Some, refl, sym, subst, length, inl, inr, below_more}
use Rattle.std.specs.Prelude.{if◌then◌else◌, nat_le, slice_get}
use Rattle.std.proofs.lemmas.List.Elements.{All-cons, All-nil}
use Rattle.std.proofs.lemmas.Option.{slice_get_within}
use Rattle.std.specs.List.{fold}
use Rattle.gx_geom.specs.declared.refusal.Refusal.{Refusal}
use Rattle.gx_geom.specs.declared.refusal.Refusal.TheVariants as refusal
use Rattle.gx_geom.specs.Refusals.{refusal_number}
use Rattle.gx_machine.specs.declared.reply.Reply.{Reply}
use Rattle.gx_machine.specs.declared.reply.Reply.TheVariants as reply
use Rattle.gx_machine.specs.declared.item.Item.{Item}
use Rattle.gx_machine.specs.declared.item.Item.TheVariants.{Asked, Sealed, Replied}
use Rattle.gx_machine.specs.Keys.{Keys}
use Rattle.gx_machine.specs.Machine.{Machine, fresh_machine}
use Rattle.gx_events.specs.Replay.{ReplaysAs}
use Rattle.gx_shared.specs.declared.record.TheConstants.{RECORD}
use Rattle.gx_plain.specs.Index.{Index, fresh_index}
use Rattle.gx_storm.specs.Following.{is_faultless, is_faultless_reply}
use Rattle.gx_storm.specs.Mismatches.{AreFaultless, HasNumbersFor, IsMismatch, StopsAt}
use Rattle.gx_storm.specs.declared.items.Mismatch.{Mismatch}
use Rattle.gx_storm.specs.declared.items.Mismatch.TheVariants as mismatch
use Rattle.gx_storm.specs.Refusals.{least_told, lesser, told_of, told_reply}
use Rattle.gx_storm.specs.Verdicts.{Agrees, HasAll, HasReplies, Says}
use Rattle.gx_storm.specs.declared.handed.Handed.{Handed}
use Rattle.gx_storm.specs.declared.verdict.Verdict.{Verdict}
use Rattle.gx_storm.specs.declared.verdict.Verdict.TheVariants as verdict

-- the lesser of a refusal and another is one
lesser_some : (a : Refusal) (o : Option Refusal) → (b : Refusal) × (lesser (Some a) o ≡ Some b)
lesser_some a None = (a, refl)
lesser_some a (Some b) = go (nat_le (refusal_number a) (refusal_number b))
  where
    go : (x : Bool) → (c : Refusal) × ((if x then Some a else Some b) ≡ Some c)
    go true = (a, refl)
    go false = (b, refl)

-- if neither exists, the lesser doesn't
pub lesser_none : (x y : Option Refusal) → lesser x y ≡ None → (x ≡ None) × (y ≡ None)
lesser_none None y e = (refl, e)
lesser_none (Some a) y e = absurd (let more = lesser_some a y in let bad : Some more.0 ≡ None = rw more.1 at e in cc)

faultless_refusal : (B : Type 0) (why : Refusal) → told_reply {B = B} (reply.Refused why) ≡ None → is_faultless_reply {B = B} (reply.Refused why) ≡ true
faultless_refusal B refusal.NoTransaction e = refl
faultless_refusal B refusal.InTransaction e = refl
faultless_refusal B refusal.Present e = refl
faultless_refusal B refusal.Absent e = refl
faultless_refusal B (refusal.Busy s) e = refl
faultless_refusal B refusal.BadBox e = refl
faultless_refusal B refusal.PagesFull e = refl
faultless_refusal B refusal.ClaimsFull e = refl
faultless_refusal B refusal.PredicatesFull e = refl
faultless_refusal B refusal.Memory e = refl
faultless_refusal B refusal.Device e = absurd (let bad : Some refusal.Device ≡ None = e in cc)
faultless_refusal B refusal.Failed e = absurd (let bad : Some refusal.Failed ≡ None = e in cc)
faultless_refusal B refusal.Damaged e = absurd (let bad : Some refusal.Damaged ≡ None = e in cc)
faultless_refusal B refusal.NotFormatted e = refl
faultless_refusal B refusal.BadSession e = refl
faultless_refusal B refusal.CallOpen e = refl
faultless_refusal B refusal.TooSmall e = refl
faultless_refusal B refusal.BadParameter e = refl
faultless_refusal B refusal.NoCall e = refl
faultless_refusal B refusal.OldVersion e = refl
faultless_refusal B refusal.HistoryFull e = absurd (let bad : Some refusal.HistoryFull ≡ None = e in cc)

same_some : {A : Type 0} (x y : A) → Some x ≡ Some y → x ≡ y
same_some x y e = cc

module _ {B : Type 0} where
  -- a refusal that was found stays
  some_stays : (a : Refusal) (items : List (Item B)) → fold (λ least item. lesser least (told_of item)) (Some a) items ≡ None → ⊥
  some_stays a [] e = cc
  some_stays a (item ∷ items) e = let more = lesser_some a (told_of item) in some_stays more.0 items (rw more.1 at e)

  faultless_reply : (r : Reply B) → told_reply r ≡ None → is_faultless_reply r ≡ true
  faultless_reply reply.Ok e = refl
  faultless_reply reply.Inserted e = refl
  faultless_reply reply.Deleted e = refl
  faultless_reply (reply.Found entries) e = refl
  faultless_reply (reply.Committed number) e = refl
  faultless_reply reply.Aborted e = refl
  faultless_reply (reply.Refused why) e = faultless_refusal B why e

  faultless_item : (item : Item B) → told_of item ≡ None → is_faultless item ≡ true
  faultless_item (Asked s call) e = refl
  faultless_item (Sealed s number) e = refl
  faultless_item (Replied s r) e = faultless_reply r e

  -- a record without such a refusal has no fault
  pub are_faultless : (items : List (Item B)) → least_told items ≡ None → AreFaultless items
  are_faultless [] e = All-nil (λ item. is_faultless item ≡ true)
  are_faultless (item ∷ items) e = go (told_of item) refl e (are_faultless items)
    where
      go : (o : Option Refusal) → told_of item ≡ o → fold (λ least next. lesser least (told_of next)) (lesser None o) items ≡ None
          → (least_told items ≡ None → AreFaultless items) → AreFaultless (item ∷ items)
      go None is e rest = All-cons (λ next. is_faultless next ≡ true) item items (faultless_item item is) (rest e)
      go (Some a) is e rest = absurd (some_stays a items e)

  -- a fresh index has numbers for any record
  pub has_numbers : (items : List (Item B)) → length items ≤ RECORD → HasNumbersFor (length items) (fresh_index {B = B})
  has_numbers items few = record { commits = omega (arith, few); transactions = omega (arith, few) }

  -- the record has the replies of the first so many sessions
  abbrev pub HasBelow : ℕ → ℕ → List (Item B) → List (Handed B) → Type 0
  HasBelow n calls items all = (i : ℕ) → i < n → (h : Handed B) → slice_get all i ≡ Some h → HasReplies calls items (i + 1) h

  -- and of one more
  pub has_more : (n calls : ℕ) (items : List (Item B)) (all : List (Handed B)) (x : Handed B) → slice_get all n ≡ Some x → HasBelow n calls items all
      → HasReplies calls items (n + 1) x → HasBelow (n + 1) calls items all
  has_more n calls items all x at below here =
      below_more _ _ below (λ h is. subst (λ (y : Handed B). HasReplies calls items (n + 1) y) (same_some x h (sym at ∙ is)) here)

  -- of all
  pub has_every : (n calls : ℕ) (items : List (Item B)) (all : List (Handed B)) → length all ≤ n → HasBelow n calls items all → HasAll calls items all
  has_every n calls items all past below i h is = let inside = slice_get_within all i h is in below i (omega (arith, past, inside)) h is

  module _ (k : Keys B) (calls : ℕ) (items read : List (Item B)) (all : List (Handed B)) (old : Index B) (same : read ≡ items) (fresh : old ≡ fresh_index) (few : length items ≤ RECORD) where
    -- what a replay from nothing committed gives of a record that has been read
    on_items : (P : Machine B → List (Item B) → Type 0) → (AreFaultless read → HasNumbersFor (length read) old → P old.machine read)
        → AreFaultless items → P fresh_machine items
    on_items P gives faultless =
        let at_fresh : AreFaultless read → HasNumbersFor (length read) (fresh_index {B = B}) → P fresh_machine read =
        subst (λ (i : Index B). AreFaultless read → HasNumbersFor (length read) i → P i.machine read) fresh gives in
        let at_items : AreFaultless items → HasNumbersFor (length items) (fresh_index {B = B}) → P fresh_machine items =
        subst (λ (xs : List (Item B)). AreFaultless xs → HasNumbersFor (length xs) (fresh_index {B = B}) → P fresh_machine xs) same at_fresh in
        at_items faultless (has_numbers items few)

    -- what is said if the replay was defined
    pub replayed : (end : Machine B) (said : Verdict) → (AreFaultless read → HasNumbersFor (length read) old → ReplaysAs k old.machine read end)
        → Agrees calls items all said → Says k calls items all said
    replayed end verdict.Sound replays agrees =
        let none = lesser_none _ _ agrees.1 in
        let faultless = are_faultless items none.0 in
        record {
          faultless = faultless;
          end = end;
          replays = on_items (λ m xs. ReplaysAs k m xs end) replays faultless;
          replies = agrees.0;
          none = none.1;
        }
    replayed end (verdict.Mismatch place) replays agrees = inr agrees
    replayed end (verdict.Refused why) replays agrees = inr (inr agrees)

    -- and if it wasn't
    pub stopped : (place : ℕ) (why : Mismatch) → why ≡ mismatch.At place → (AreFaultless read → HasNumbersFor (length read) old → IsMismatch k old.machine read why)
        → Says k calls items all (verdict.Mismatch place)
    stopped place why is stops =
        inl (on_items (λ m xs. StopsAt k m xs place) (subst (λ (w : Mismatch). AreFaultless read → HasNumbersFor (length read) old → IsMismatch k old.machine read w) is stops))
