-- Sessions that are made, and the holds of a call.
use Rattle.std.proofs.Common.{arith, ◌≡◌, ℕ, ◌+◌, ◌≤◌, ◌<◌, ◌⊎◌, inl, inr, Bool, true, false, Option, Some, None, List, [], ◌∷◌, length, refl, ap, sym, ◌∙◌, subst}
use Rattle.std.proofs.Common.{get_or, suc, ◌++◌, if◌then◌else◌}
use Rattle.std.specs.List.{remove}
use Rattle.std.proofs.lemmas.List.Sums.{sum_by-remove}
use Rattle.std.proofs.lemmas.List.Edits.{length-remove}
use Rattle.gx_geom.specs.declared.refusal.Refusal.{Refusal}
use Rattle.gx_geom.specs.declared.refusal.Refusal.TheVariants as refusal
use Rattle.gx_machine.specs.declared.item.Item.{Item}
use Rattle.gx_machine.specs.declared.call.Call.{Call}
use Rattle.gx_machine.specs.declared.reply.Reply.{Reply}
use Rattle.gx_machine.specs.Keys.{Keys}
use Rattle.gx_machine.specs.Machine.{Machine, fresh_machine}
use Rattle.gx_events.specs.declared.engine.Events.{Ghosts}
use Rattle.gx_events.specs.declared.event.Event.{Event}
use Rattle.gx_events.specs.declared.event.Event.TheVariants.{Ask, Move, LogStep, WritePage, CheckpointStep, Sweep}
use Rattle.gx_events.specs.declared.outcome.Outcome.{Outcome}
use Rattle.gx_events.specs.declared.outcome.Outcome.TheVariants.{Replied, More, Help, Nothing, Refused}
use Rattle.gx_events.specs.declared.outcome.Need.TheVariants as need
use Rattle.gx_events.specs.declared.driver.Next.{Next}
use Rattle.gx_events.specs.declared.driver.Next.TheVariants.{Run, Done}
use Rattle.gx_events.specs.Driven.{next_of}
use Rattle.gx_events.specs.Replay.{At}
use Rattle.gx_events.specs.Work.{is_work, replied}
use Rattle.gx_events.proofs.Follows.{stands_itself}
use Rattle.gx_shared.specs.declared.hold.Hold.{Hold}
use Rattle.gx_shared.specs.declared.record.TheConstants.{RECORD}
use Rattle.gx_shared.specs.declared.flush.Part.{Part}
use Rattle.gx_shared.specs.declared.flush.Part.TheVariants as part
use Rattle.gx_shared.specs.Books.{IsHold, IsKept, IsMade, IsOf, IsWorked, MayBeShared}
use Rattle.gx_shared.specs.Sharing.{RefusesToGiveUp, InCall, ComesBehind, Known, Follows, IsCalled, IsRun, after_hold, after_reply, hold_of, flusher_event, given_up, shares_of, fresh_sessions, stops}
use Rattle.gx_shared.proofs.Opening.{owed_by_open}

-- an engine that is seen as the machine with nothing committed may be shared by a run that starts at it
pub fresh_may_be_shared : {B E : Type 0} (sees : E → Machine B → Type 0) (engine : E) → sees engine fresh_machine → MayBeShared sees (λ m. m ≡ fresh_machine) engine
fresh_may_be_shared sees engine seen = record {
  start = fresh_machine;
  at = record { starts_here = refl; only = λ other is. is };
  seen = seen;
  eight = refl;
  none_open = refl;
}

-- a book begins with an empty record
pub begun : {B E : Type 0} (k : Keys B) (granted : Type 0) (sees : E → Machine B → Type 0) (starts : Machine B → Type 0) (engine : E) (calls : List (Item B)) (capacity total : ℕ)
    → (granted → MayBeShared sees starts engine) → calls ≡ [] → RECORD ≤ capacity → total ≡ 0
    → IsKept k granted sees starts engine calls 0 capacity total
begun {B} k granted sees starts engine calls capacity total may empty room counted =
    subst (λ (xs : List (Item B)). IsKept k granted sees starts engine xs 0 capacity total) (sym empty)
    record {
      fits = omega arith;
      has_capacity = room;
      counted_is = counted;
      facts = λ grant.
          let m = may grant in
          let start : Machine B = m.start in
          let none = m.none_open in
          record {
            start = start;
            at = m.at;
            book = record {
              machine = start;
              seen = m.seen;
              replays = (start, (At start, refl, refl), stands_itself start);
              eight = m.eight;
              opened_is = sym none;
              fits = omega arith;
              owes = λ works. let few = owed_by_open start.sessions in omega (arith, few, none);
              has_capacity = room;
              counted_is = counted;
            };
          };
    }

-- no reply changes no share
none_more : (n m : ℕ) → n ≡ 0 → m + n ≡ m
none_more n m none = omega (arith, none)

-- an event that isn't work is the session's own
pub own_event : {B : Type 0} (s : ℕ) (event : Event B) → InCall s event → is_work event ≡ false → IsOf s event
own_event s event (inl own) none = own
own_event s event (inr work) none = let both : true ≡ false = sym work ∙ none in let no : ⊥ = cc in absurd no

abbrev is_work_of : {B : Type 0} → Option (Event B) → Bool
is_work_of None = true
is_work_of (Some event) = is_work event

-- a flusher's events are no session's
pub flusher_works : {B : Type 0} (which : Part) (round used : ℕ) (dirty : Option ℕ) (event : Event B) → flusher_event which round used dirty ≡ Some event → is_work event ≡ true
flusher_works {B} part.Checkpoint round used dirty event h = subst (λ (e : Option (Event B)). is_work_of e ≡ true) h refl
flusher_works {B} part.Log round used dirty event h = subst (λ (e : Option (Event B)). is_work_of e ≡ true) h refl
flusher_works {B} part.Page round used None event h = let no : ⊥ = cc in absurd no
flusher_works {B} part.Page round used (Some page) event h = subst (λ (e : Option (Event B)). is_work_of e ≡ true) h refl
flusher_works {B} part.Leaf round used dirty event h = subst (λ (e : Option (Event B)). is_work_of e ≡ true) h refl

-- only the part of a page may have no event
pub only_pages_lack : {B : Type 0} (which : Part) (round used : ℕ) (dirty : Option ℕ) → flusher_event {B = B} which round used dirty ≡ None → which ≡ part.Page
only_pages_lack part.Checkpoint round used dirty h = let no : ⊥ = cc in absurd no
only_pages_lack part.Log round used dirty h = let no : ⊥ = cc in absurd no
only_pages_lack part.Page round used dirty h = refl
only_pages_lack part.Leaf round used dirty h = let no : ⊥ = cc in absurd no

-- the first session is taken from the front
pub taken_first : {B : Type 0} (xs ys : List (Known B)) (x : Known B) → 0 < length xs → x ≡ get_or xs 0 x → ys ≡ remove xs 0
    → (length ys + 1 ≡ length xs) × (shares_of ys + x.0.1 ≡ shares_of xs)
taken_first {B} xs ys x some is rest =
    let l : length ys ≡ length (remove xs 0) = ap length rest in
    let s : shares_of ys ≡ shares_of (remove xs 0) = ap shares_of rest in
    let v : x.0.1 ≡ (get_or xs 0 x).0.1 = ap (λ (p : Known B). p.0.1) is in
    (omega (arith, l, length-remove xs 0 some), omega (arith, s, v, sum_by-remove (λ (p : Known B). p.0.1) xs 0 x some))

-- a total that is the same
pub kept_total : {B E : Type 0} (k : Keys B) (granted : Type 0) (sees : E → Machine B → Type 0) (starts : Machine B → Type 0) (engine : E) (calls : List (Item B)) (opened capacity total total' : ℕ)
    → IsKept k granted sees starts engine calls opened capacity total → total' ≡ total → IsKept k granted sees starts engine calls opened capacity total'
kept_total k granted sees starts engine calls opened capacity total total' b same = subst (IsKept k granted sees starts engine calls opened capacity) (sym same) b

abbrev stopped : {B : Type 0} → Refusal → Bool → Outcome B
stopped why b = if b then Refused why else Refused refusal.Damaged

stopped_replies : (B : Type 0) (why : Refusal) (b : Bool) → replied (stopped {B = B} why b) ≡ 0
stopped_replies B why true = refl
stopped_replies B why false = refl

-- an outcome that is given up replies as the one that came
replies_as : {B : Type 0} (o : Outcome B) → replied (given_up o) ≡ replied o
replies_as (Replied r) = refl
replies_as More = refl
replies_as (Help need) = refl
replies_as Nothing = refl
replies_as (Refused why) = stopped_replies _ why (stops why)

stopped_refuses : (B : Type 0) (why : Refusal) (b : Bool) → stops why ≡ b → RefusesToGiveUp (stopped {B = B} why b)
stopped_refuses B why true is = is
stopped_refuses B why false is = refl

refuses_as : {B : Type 0} (o : Outcome B) → RefusesToGiveUp (given_up o)
refuses_as (Replied r) = tt
refuses_as More = tt
refuses_as (Help need) = tt
refuses_as Nothing = tt
refuses_as (Refused why) = stopped_refuses _ why (stops why) refl

-- it refuses to give the call up
pub given_up_refuses : {B : Type 0} (o ended given : Outcome B) → ended ≡ given_up o → given ≡ ended → RefusesToGiveUp given
given_up_refuses o ended given is same = subst RefusesToGiveUp (sym (same ∙ is)) (refuses_as o)

-- after an event that is no session's, whose outcome has no reply, a session notes the hold alone
pub share_of_work : {B : Type 0} (event : Event B) (o ended given : Outcome B) (old new : Known B) → replied o ≡ 0 → ended ≡ given_up o → given ≡ ended
    → new ≡ (old.0, hold_of event given ∷ old.1) → new ≡ after_hold old event given
share_of_work event o ended given old new none is same noted =
    let n : old.0.1 + replied given ≡ old.0.1 = none_more (replied given) old.0.1 (ap replied (same ∙ is) ∙ replies_as o ∙ none) in
    noted ∙ sym (λ i. ((old.0.0, n i), hold_of event given ∷ old.1))

-- and after one of its own, it has finished a call too if that was replied to
pub share_of_own : {B : Type 0} (event : Event B) (old middle new : Known B) (o ended given : Outcome B) → middle ≡ after_reply old o → ended ≡ given_up o → given ≡ ended
    → new ≡ (middle.0, hold_of event given ∷ middle.1) → new ≡ after_hold old event given
share_of_own event old middle new o ended given share is same noted =
    let n : replied o ≡ replied given = sym (replies_as o) ∙ ap replied (sym (same ∙ is)) in
    noted ∙ (λ i. ((share i).0, hold_of event given ∷ (share i).1)) ∙ (λ i. ((old.0.0, old.0.1 + n i), hold_of event given ∷ old.1))

pub own_of : {B : Type 0} (s : ℕ) (event : Event B) (b : Bool) → InCall s event → b ≡ is_work event → b ≡ false → IsOf s event
own_of s event b call is none = own_event s event call (sym is ∙ none)

pub work_of : {B : Type 0} (event : Event B) (b : Bool) → b ≡ is_work event → b ≡ true → is_work event ≡ true
work_of event b is work = sym is ∙ work

-- a hold of a call that made an event as `apply` does
pub run_by_work : {B E : Type 0} (k : Keys B) (engine : Ghosts E B) (old new : E × List (Item B)) (event : Event B) (o ended given : Outcome B) (b : Bool)
    → b ≡ is_work event → b ≡ true → IsWorked k engine old event o new → ended ≡ given_up o → given ≡ ended → IsRun k engine old event given new
run_by_work k engine old new event o ended given b is work worked becomes same =
    let other : is_work event ≡ false → ⊥ = λ none. let both : true ≡ false = sym work ∙ is ∙ none in cc in
    record { given = o; outcome_is = same ∙ becomes; worked = λ _. worked; made = λ none. absurd (other none); hold = λ none. absurd (other none) }

-- and as `apply_for` does
pub run_by_own : {B E : Type 0} (k : Keys B) (engine : Ghosts E B) (old new : E × List (Item B)) (event : Event B) (o ended given : Outcome B) (b : Bool)
    → b ≡ is_work event → b ≡ false → IsMade engine.makes old event o new → (engine.granted → IsHold k engine.sees old event o new) → ended ≡ given_up o
    → given ≡ ended → IsRun k engine old event given new
run_by_own k engine old new event o ended given b is own made hold becomes same =
    let other : is_work event ≡ true → ⊥ = λ work. let both : true ≡ false = sym work ∙ sym is ∙ own in cc in
    record { given = o; outcome_is = same ∙ becomes; worked = λ work. absurd (other work); made = λ _. made; hold = λ _. hold }

-- what follows a hold, as the driver says it
pub follows_next : {B : Type 0} (old new : Known B) (event : Event B) (o : Outcome B) (driver : ℕ) (next : Next B) → next ≡ next_of driver o → driver ≡ old.0.0
    → new ≡ after_hold old event o → RefusesToGiveUp o → Follows old event next new
follows_next old new event o driver next is leads share refuses =
    record { outcome = o; refuses = refuses; next_is = is ∙ ap (λ (s : ℕ). next_of s o) leads; new_is = share }

-- what an outcome names is in the call, and it replies nothing
abbrev Names : {B : Type 0} → ℕ → ℕ → Next B → Type 0
Names s replies (Run event) = InCall s event × (replies ≡ 0)
Names s replies (Done r) = Unit {0}

names : {B : Type 0} (s : ℕ) (o : Outcome B) → Names s (replied o) (next_of s o)
names s (Replied r) = tt
names s More = (inl refl, refl)
names s (Help need.Log) = (inr refl, refl)
names s (Help (need.Write page)) = (inr refl, refl)
names s (Help need.Checkpoint) = (inr refl, refl)
names s Nothing = (inl refl, refl)
names s (Refused why) = tt

-- so is a move in its place
own_next : {B : Type 0} (s : ℕ) (named next : Event B) → InCall s named → (next ≡ named) ⊎ (next ≡ Move s) → InCall s next
own_next s named next own (inl same) = subst (λ e. InCall s e) (sym same) own
own_next s named next own (inr move) = subst (λ e. InCall s e) (sym move) (inl refl)

-- Amid a call: the holds up to now are noted after those of before, and this event comes after them.
pub record IsAmid {B : Type 0} (start : Known B) (call : Call B) (now : Known B) (event : Event B) : Type 0 where
  pub earlier : List (Hold B)
  pub now_is : now ≡ (start.0, earlier ++ start.1)
  pub comes : ComesBehind start.0.0 call earlier event
  pub own : InCall start.0.0 event

-- it is asked
pub asked_first : {B : Type 0} (start : Known B) (call : Call B) (s : ℕ) → s ≡ start.0.0 → IsAmid start call start (Ask s call)
asked_first start call s is = record { earlier = []; now_is = refl; comes = ap (λ (n : ℕ). Ask n call) is; own = inl is }

-- what the outcome of a hold amid a call names
leads_to : {B : Type 0} (start old new : Known B) (call : Call B) (event : Event B) (next : Next B) (f : Follows old event next new) → IsAmid start call old event
    → next_of start.0.0 f.outcome ≡ next
leads_to {B} start old new call event next f amid = ap (λ (x : Known B). next_of x.0.0 f.outcome) (sym amid.now_is) ∙ sym f.next_is

-- a call that ends, and one that goes on
pub done_of : {B : Type 0} (start old new : Known B) (call : Call B) (event : Event B) (next : Next B) (r : Reply B) → Follows old event next new → next ≡ Done r → IsAmid start call old event
    → IsCalled start call r new
done_of {B} start old new call event next r f is amid = record {
  earlier = amid.earlier;
  last = hold_of event f.outcome;
  comes = amid.comes;
  ends = leads_to start old new call event next f amid ∙ is;
  refuses = f.refuses;
  new_is = f.new_is ∙ ap (λ (x : Known B). after_hold x event f.outcome) amid.now_is;
}

pub run_of : {B : Type 0} (start old new : Known B) (call : Call B) (event named next : Event B) (ran : Next B) → Follows old event ran new → ran ≡ Run named → IsAmid start call old event
    → (next ≡ named) ⊎ (next ≡ Move start.0.0) → IsAmid start call new next
run_of {B} start old new call event named next ran f is amid either =
    let o = f.outcome in
    let leads : next_of start.0.0 o ≡ Run named = leads_to start old new call event ran f amid ∙ is in
    let own : InCall start.0.0 named × (replied o ≡ 0) = subst (λ (x : Next B). Names start.0.0 (replied o) x) leads (names start.0.0 o) in
    let more : start.0.1 + replied o ≡ start.0.1 = none_more (replied o) start.0.1 own.1 in
    record {
      earlier = hold_of event o ∷ amid.earlier;
      now_is = f.new_is ∙ ap (λ (x : Known B). after_hold x event o) amid.now_is ∙ (λ i. ((start.0.0, more i), hold_of event o ∷ (amid.earlier ++ start.1)));
      comes = ((named, leads, either), amid.comes);
      own = own_next start.0.0 named next own.0 either;
    }

pub call_of : {B : Type 0} (start old : Known B) (call : Call B) (event : Event B) → IsAmid start call old event → InCall old.0.0 event
call_of {B} start old call event amid = subst (λ (x : Known B). InCall x.0.0 event) (sym amid.now_is) amid.own

-- no sessions, no shares
pub none_shared : {B : Type 0} (xs : List (Known B)) → length xs ≡ 0 → shares_of xs ≡ 0
none_shared [] none = refl
none_shared (x ∷ xs) none = let away : ⊥ = omega (arith, none) in absurd away

-- one session more
pub next_sessions : {B : Type 0} (n m : ℕ) (old new : List (Known B)) (s : Known B) → m ≡ suc n → s ≡ ((m, 0), []) → old ≡ fresh_sessions n → new ≡ old ++ s ∷ []
    → new ≡ fresh_sessions m
next_sessions n m old new s next is before after =
    after ∙ (λ i. before i ++ (is ∙ ap (λ (k : ℕ). ((k, 0), [])) next) i ∷ []) ∙ ap fresh_sessions (sym next)
