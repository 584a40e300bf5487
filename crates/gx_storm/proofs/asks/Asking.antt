-- An ask, put to the plain index once the item after it is looked at.
use Rattle.std.proofs.Common.{arith, ◌≡◌, ℕ, ◌+◌, ◌≤◌, Bool, true, false, ◌&&◌, Some, None, refl, ap, sym, ◌∙◌, subst}
use Rattle.std.specs.Prelude.{if◌then◌else◌, MatchBool, ◌==◌}
use Rattle.gx_geom.specs.declared.refusal.Refusal.TheVariants as refusal
use Rattle.gx_machine.specs.declared.call.Call.{Call}
use Rattle.gx_machine.specs.declared.reply.Reply.{Reply}
use Rattle.gx_machine.specs.declared.reply.Reply.TheVariants as reply
use Rattle.gx_machine.specs.declared.reply.Asked.{Asked as Given}
use Rattle.gx_machine.specs.declared.reply.Asked.TheVariants as asked
use Rattle.gx_machine.specs.declared.item.Item.{Item}
use Rattle.gx_machine.specs.declared.item.Item.TheVariants.{Asked, Sealed, Replied}
use Rattle.gx_machine.specs.Keys.{Keys}
use Rattle.gx_machine.specs.Machine.{Machine, newest, ask}
use Rattle.gx_machine.proofs.SessionMoves.{value_of}
use Rattle.gx_events.specs.Replay.{Point, At, Asking, StandsFor, Fits, FitsAt, FitsAsked, FitsEither, FitsGiven, EndsAt, refuses_ask}
use Rattle.gx_events.proofs.Follows.{works, stands_with, ask_alike}
use Rattle.gx_plain.specs.Index.{Index, ask_index, is_used_up, has_begun}
use Rattle.gx_plain.specs.Runs.{IsPlain}
use Rattle.gx_storm.specs.Following.{Follows, EndsWith, StandsAt, asked_of, is_faultless, waiting, waits}

module _ {B : Type 0} (k : Keys B) where
  -- what the index is given is what the replay is given
  pub record IsAsked (s : ℕ) (call : Call B) (r : Machine B) (old mid : Index B) (given : Given B) : Type 0 where
    pub machine : Machine B
    pub working : r.failed ≡ false
    pub asks : ask k s call r ≡ (given, machine)
    pub stands : StandsFor machine mid.machine
    pub commits : newest mid.machine ≡ newest old.machine
    pub next : mid.next ≤ old.next + 1

  lasting : (begun used : Bool) → used ≡ false → (begun && used) ≡ false
  lasting true used is = is
  lasting false used is = refl

  one_more : (begun : Bool) (next : ℕ) → next + (if begun then 1 else 0) ≤ next + 1
  one_more true next = omega arith
  one_more false next = omega arith

  -- asking, if the numbers last
  ask_is : (s : ℕ) (call : Call B) (old : Index B) → is_used_up old ≡ false
      → ask_index k s call old ≡ (
        (ask k s call old.machine).0,
        record {
          machine = (ask k s call old.machine).1;
          next = old.next + (if has_begun (ask k s call old.machine).0 then 1 else 0);
        },
      )
  ask_is s call old lasts =
      ap (λ (t : Bool). if t then (asked.Now (reply.Refused refusal.HistoryFull), old) else (
        (ask k s call old.machine).0,
        record {
          machine = (ask k s call old.machine).1;
          next = old.next + (if has_begun (ask k s call old.machine).0 then 1 else 0);
        },
      )) (lasting (has_begun (ask k s call old.machine).0) (is_used_up old) lasts)

  pub is_asked : (s : ℕ) (call : Call B) (r : Machine B) (old mid : Index B) (given : Given B) → IsPlain old → StandsFor r old.machine → is_used_up old ≡ false
      → given ≡ (ask_index k s call old).0 → mid ≡ (ask_index k s call old).1 → IsAsked s call r old mid given
  is_asked s call r old mid given plain st lasts given_is mid_is =
      let is = ask_is s call old lasts in
      let same : old.machine.sessions ≡ r.sessions = st.sessions (works r old.machine st plain.runs) in
      let g : Given B = (ask k s call old.machine).0 in
      let n : Machine B = (ask k s call old.machine).1 in
      let given_at : given ≡ g = given_is ∙ ap (λ (p : Given B × Index B). p.0) is in
      let mid_at : mid ≡ record { machine = n; next = old.next + (if has_begun g then 1 else 0) } = mid_is ∙ ap (λ (p : Given B × Index B). p.1) is in
      let along = ask_alike k s call old.machine r n g same refl in
      let more = one_more (has_begun g) old.next in
      let next_is : mid.next ≡ old.next + (if has_begun g then 1 else 0) = ap (λ (i : Index B). i.next) mid_at in
      record {
        machine = record r { sessions = n.sessions };
        working = works r old.machine st plain.runs;
        asks = along.1 ∙ ap (λ (x : Given B). (x, record r { sessions = n.sessions })) (sym given_at);
        stands = subst (StandsFor (record r { sessions = n.sessions })) (sym (ap (λ (i : Index B). i.machine) mid_at ∙ along.0)) (stands_with r old.machine n.sessions st);
        commits = ap (λ (i : Index B). newest i.machine) mid_at ∙ ap newest along.0;
        next = omega (arith, more, next_is);
      }

  -- a record without faults: what comes after an ask isn't the refusal of it for a cause outside of the machine

  refuses_none : (x : Reply B) (call : Call B) → is_faultless {B = B} (Replied 0 x) ≡ true → refuses_ask x call ≡ false
  refuses_none (reply.Refused refusal.Failed) call is = let no : ⊥ = cc in absurd no
  refuses_none (reply.Refused refusal.HistoryFull) call is = let no : ⊥ = cc in absurd no
  refuses_none other call is = refl

  no_refusal : (own refuses : Bool) → refuses ≡ false → (own && refuses) ≡ false
  no_refusal true refuses is = is
  no_refusal false refuses is = refl

  asked_fits : (s : ℕ) (call : Call B) (r : Machine B) (item : Item B) (p : Point B) → is_faultless item ≡ true → Fits k (Asking s call r) item p → FitsAsked k s call r item p
  asked_fits s call r (Asked t next) p is h = h
  asked_fits s call r (Sealed t number) p is h = h
  asked_fits s call r (Replied t x) p is h =
      subst (λ (b : Bool). FitsEither k s call r t x b p) (no_refusal (t == s) (refuses_ask x call) (refuses_none x call is)) h

  fits_asked : (s : ℕ) (call : Call B) (r : Machine B) (item : Item B) (p : Point B) → is_faultless item ≡ true → FitsAsked k s call r item p → Fits k (Asking s call r) item p
  fits_asked s call r (Asked t next) p is h = h
  fits_asked s call r (Sealed t number) p is h = h
  fits_asked s call r (Replied t x) p is h =
      subst (λ (b : Bool). FitsEither k s call r t x b p) (sym (no_refusal (t == s) (refuses_ask x call) (refuses_none x call is))) h

  module _ (s : ℕ) (call : Call B) (r : Machine B) (item : Item B) (old mid : Index B) (faultless : is_faultless item ≡ true) where
    -- the reply came at once, and must be the item
    pub at_once : (x : Reply B) (b : Bool) → IsAsked s call r old mid (asked.Now x) → MatchBool b (item ≡ Replied s x) (item ≡ Replied s x → ⊥)
        → Follows (Fits k (Asking s call r) item) 1 item old b mid
    at_once x true a is =
        let none : asked_of item ≡ None = ap asked_of is in
        let nobody : waiting (asked_of item) ≡ 0 = ap waiting none in
        let commits = a.commits in let next = a.next in
        record {
          point = At a.machine;
          fits = fits_asked s call r item (At a.machine) faultless
              (a.working, subst (λ (g : Given B × Machine B). FitsGiven k s g item (At a.machine)) (sym a.asks) (is, refl));
          waits_is = sym none;
          stands = a.stands;
          commits = omega (arith, nobody, commits);
          next = omega (arith, nobody, next);
        }
    at_once x false a isnt = λ p fits.
        isnt (subst (λ (g : Given B × Machine B). FitsGiven k s g item p) a.asks (asked_fits s call r item p faultless fits).1).0

    -- the call is open, and the item follows
    pub then_here : (new : Index B) (b : Bool) (a : IsAsked s call r old mid asked.Open) → Follows (FitsAt k a.machine item) 0 item mid b new
        → Follows (Fits k (Asking s call r) item) 1 item old b new
    then_here new true a here =
        let before = a.commits in let later = a.next in
        let commits = here.commits in let next = here.next in
        record {
          point = here.point;
          fits = fits_asked s call r item here.point faultless
              (a.working, subst (λ (g : Given B × Machine B). FitsGiven k s g item here.point) (sym a.asks) here.fits);
          waits_is = here.waits_is;
          stands = here.stands;
          commits = omega (arith, before, commits);
          next = omega (arith, later, next);
        }
    then_here new false a nowhere = λ p fits.
        nowhere p (subst (λ (g : Given B × Machine B). FitsGiven k s g item p) a.asks (asked_fits s call r item p faultless fits).1)

  -- a record that ends with an ask

  pub ends_by : (s : ℕ) (call : Call B) (r : Machine B) (old mid : Index B) (given : Given B) (b : Bool) → IsAsked s call r old mid given
      → MatchBool b (given ≡ asked.Open) (given ≡ asked.Open → ⊥) → EndsWith (EndsAt k (Asking s call r)) b mid
  ends_by s call r old mid given true a is = (a.machine, (a.working, a.asks ∙ ap (λ (x : Given B). (x, a.machine)) is), a.stands)
  ends_by s call r old mid given false a isnt = λ m ends. isnt (ap (λ (p : Given B × Machine B). p.0) (sym a.asks ∙ ends.1))

  -- a place of a replay, by the ask that waits there

  pub behind : (s : ℕ) (call : Call B) (item : Item B) (old new : Index B) (b : Bool)
      → ((r : Machine B) → StandsFor r old.machine → Follows (Fits k (Asking s call r) item) 1 item old b new)
      → (p : Point B) → waits p ≡ Some (s, call) → StandsAt p old → Follows (Fits k p item) 1 item old b new
  behind s call item old new b h (At m) waits_is st = let no : ⊥ = cc in absurd no
  behind s call item old new b h (Asking t c m) waits_is st =
      subst (λ (q : ℕ × Call B). Follows (Fits k (Asking q.0 q.1 m) item) 1 item old b new) (sym (value_of waits_is)) (h m st)

  pub here : (item : Item B) (old new : Index B) (b : Bool) → ((r : Machine B) → StandsFor r old.machine → Follows (FitsAt k r item) 0 item old b new)
      → (p : Point B) → waits p ≡ None → StandsAt p old → Follows (Fits k p item) 0 item old b new
  here item old new b h (At m) waits_is st = h m st
  here item old new b h (Asking t c m) waits_is st = let no : ⊥ = cc in absurd no

  pub ends_behind : (s : ℕ) (call : Call B) (old new : Index B) (b : Bool)
      → ((r : Machine B) → StandsFor r old.machine → EndsWith (EndsAt k (Asking s call r)) b new)
      → (p : Point B) → waits p ≡ Some (s, call) → StandsAt p old → EndsWith (EndsAt k p) b new
  ends_behind s call old new b h (At m) waits_is st = let no : ⊥ = cc in absurd no
  ends_behind s call old new b h (Asking t c m) waits_is st =
      subst (λ (q : ℕ × Call B). EndsWith (EndsAt k (Asking q.0 q.1 m)) b new) (sym (value_of waits_is)) (h m st)

  pub ends_here : (old : Index B) (p : Point B) → waits p ≡ None → StandsAt p old → EndsWith (EndsAt k p) true old
  ends_here old (At m) waits_is st = (m, refl, st)
  ends_here old (Asking t c m) waits_is st = let no : ⊥ = cc in absurd no
