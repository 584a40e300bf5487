-- Each event goes on with a record's replay.
use Rattle.std.proofs.Common.{arith, ◌≡◌, ℕ, ◌+◌, ◌⊎◌, inl, inr, Bool, true, false, ◌&&◌, List, [], ◌∷◌, ◌++◌, refl, ap, sym, ◌∙◌, subst}
use Rattle.std.specs.Prelude.{if◌then◌else◌, nat_lt, ◌==◌}
use Rattle.std.proofs.lemmas.List.{append-nil}
use Rattle.std.proofs.lemmas.Bool.Decides.{nat_tests}
use Rattle.gx_geom.specs.declared.refusal.Refusal.{Refusal}
use Rattle.gx_geom.specs.declared.refusal.Refusal.TheVariants as refusal
use Rattle.gx_machine.specs.declared.call.Call.{Call}
use Rattle.gx_machine.specs.declared.reply.Reply.{Reply}
use Rattle.gx_machine.specs.declared.reply.Reply.TheVariants as reply
use Rattle.gx_machine.specs.declared.reply.Asked.{Asked as Given}
use Rattle.gx_machine.specs.declared.reply.Asked.TheVariants as asked
use Rattle.gx_machine.specs.Keys.{Keys}
use Rattle.gx_machine.specs.declared.item.Item.{Item}
use Rattle.gx_machine.specs.declared.item.Item.TheVariants.{Asked, Sealed, Replied}
use Rattle.gx_machine.specs.Sessions.{Session, is_unanswered}
use Rattle.gx_machine.specs.Machine.{Machine, newest, session_at, ask, failed_machine}
use Rattle.gx_machine.specs.Runs.{Asks, Answers, Seals, Closes, RefusesAsk, IsStep}
use Rattle.gx_events.specs.declared.event.Event.{Event}
use Rattle.gx_events.specs.declared.event.Event.TheVariants.{Ask, Move, LogStep, WritePage, CheckpointStep, Sweep}
use Rattle.gx_events.specs.declared.outcome.Outcome.{Outcome}
use Rattle.gx_events.specs.declared.outcome.Outcome.TheVariants as outcome
use Rattle.gx_events.specs.Happens.{AskRefused, Ends, MeetsFault, AskHappens, MoveHappens, WorkHappens, SyncHappens, Happens}
use Rattle.gx_events.specs.Items.{items_of, items_sealed}
use Rattle.gx_events.specs.Replay.{Point, At, Asking, Fits, FitsReply, FitsGiven, FitsEither, Leads, EndsAt, StandsFor, ReplaysAs, refuses_ask}
use Rattle.gx_events.proofs.Replies.{given_refuses_none}
use Rattle.gx_events.proofs.Follows.{is_committed, stands_with, stands_failed, stands_ended, stands_unseen, stands_durable, works, ask_alike, answer_alike, committed_alike, close_alike, seal_alike, true_or_false}

and_false : (a b : Bool) → b ≡ false → (a && b) ≡ false
and_false true b is = is
and_false false b is = refl

same_number : (s : ℕ) → (s == s) ≡ true
same_number s = grind (arith, nat_tests)

pub not_less : (a b : ℕ) → b ≡ a → nat_lt a b ≡ false
not_less a b is = grind (arith, nat_tests)

pub is_less : (a b : ℕ) → b ≡ a + 1 → nat_lt a b ≡ true
is_less a b is = grind (arith, nat_tests)

module _ {B : Type 0} (k : Keys B) where
  pub leads_join : (p : Point B) (xs ys : List (Item B)) (q z : Point B) → Leads k p xs q → Leads k q ys z → Leads k p (xs ++ ys) z
  leads_join p [] ys q z h l = subst (λ (x : Point B). Leads k x ys z) h l
  leads_join p (item ∷ xs) ys q z h l = (h.0, h.1, leads_join h.0 xs ys q z h.2 l)

  -- Items at the end of a record.

  fits_asked : (q : Point B) (r : Machine B) (s : ℕ) (call : Call B) → EndsAt k q r → Fits k q (Asked s call) (Asking s call r)
  fits_asked (At m) r s call e = ap (λ (z : Machine B). Asking s call z) e
  fits_asked (Asking t c m) r s call e = (e.0, subst (λ (g : Given B × Machine B). FitsGiven k t g (Asked s call) (Asking s call r)) (sym e.1) refl)

  fits_sealed : (q : Point B) (r end : Machine B) (s number : ℕ) → EndsAt k q r → IsStep k r (Seals s number) end → Fits k q (Sealed s number) (At end)
  fits_sealed (At m) r end s number e step = (end, subst (λ (z : Machine B). IsStep k z (Seals s number) end) e step, refl)
  fits_sealed (Asking t c m) r end s number e step =
      (e.0, subst (λ (g : Given B × Machine B). FitsGiven k t g (Sealed s number) (At end)) (sym e.1) (end, step, refl))

  fits_reply : (q : Point B) (r end : Machine B) (s : ℕ) (x : Reply B) → EndsAt k q r → ((c : Call B) → refuses_ask x c ≡ false) → FitsReply k s x r end
      → Fits k q (Replied s x) (At end)
  fits_reply (At m) r end s x e quiet f = (end, subst (λ (z : Machine B). FitsReply k s x z end) e f, refl)
  fits_reply (Asking t c m) r end s x e quiet f =
      subst (λ (b : Bool). FitsEither k t c m s x b (At end)) (sym (and_false (s == t) (refuses_ask x c) (quiet c)))
      (e.0, subst (λ (g : Given B × Machine B). FitsGiven k t g (Replied s x) (At end)) (sym e.1) (end, f, refl))

  -- a reply at once
  fits_at_once : (r end : Machine B) (s : ℕ) (call : Call B) (x : Reply B) → r.failed ≡ false → ask k s call r ≡ (asked.Now x, end)
      → Fits k (Asking s call r) (Replied s x) (At end)
  fits_at_once r end s call x working h =
      subst (λ (b : Bool). FitsEither k s call r s x b (At end)) (sym (and_false (s == s) (refuses_ask x call) (given_refuses_none k s call r end x h)))
      (working, subst (λ (g : Given B × Machine B). FitsGiven k s g (Replied s x) (At end)) (sym h) (refl, refl))

  -- an ask that was refused
  fits_refused : (r end : Machine B) (s : ℕ) (call : Call B) (why : Refusal) → refuses_ask (reply.Refused why) call ≡ true → IsStep k r (RefusesAsk s call why) end
      → Fits k (Asking s call r) (Replied s (reply.Refused why)) (At end)
  fits_refused r end s call why refuses step =
      subst (λ (b : Bool). FitsEither k s call r s (reply.Refused why) b (At end))
      (sym (ap (λ (b : Bool). b && refuses_ask (reply.Refused why) call) (same_number s) ∙ refuses)) (end, step, refl)

  -- if an engine had ended, a call is refused for it; the replay makes one of this and of an ask just before it
  fits_failed : (q : Point B) (r m : Machine B) (s : ℕ) → EndsAt k q r → StandsFor r m → m.failed ≡ true
      → ((r.failed ≡ true) ⊎ (is_unanswered (session_at s r.sessions) ≡ true))
      → (end : Machine B) × Fits k q (Replied s (reply.Refused refusal.Failed)) (At end) × StandsFor end m
  fits_failed (At z) r m s e st ended why =
      (failed_machine r, (failed_machine r, subst (λ (y : Machine B). FitsReply k s (reply.Refused refusal.Failed) y (failed_machine r)) e (why, refl), refl), stands_ended r m r.sessions st ended)
  fits_failed (Asking t c z) r m s e st ended why =
      elim (true_or_false (s == t)) [
        | inl p ↦ (
            let a = ask_alike k t c z z r asked.Open refl e.1 in
            let back : record r { sessions = z.sessions; failed = true } ≡ failed_machine z = ap (λ (y : Machine B). record y { sessions = z.sessions; failed = true }) a.0 in (
              failed_machine z,
              subst (λ (b : Bool). FitsEither k t c z s (reply.Refused refusal.Failed) b (At (failed_machine z))) (sym (ap (λ (b : Bool). b && true) p))
                  (failed_machine z, refl, refl),
              subst (λ (y : Machine B). StandsFor y m) back (stands_ended r m z.sessions st ended),
            )
            )
        | inr p ↦ (
          failed_machine r,
          subst (λ (b : Bool). FitsEither k t c z s (reply.Refused refusal.Failed) b (At (failed_machine r))) (sym (ap (λ (b : Bool). b && true) p)) (
            e.0,
            subst (λ (g : Given B × Machine B). FitsGiven k t g (Replied s (reply.Refused refusal.Failed)) (At (failed_machine r))) (sym e.1)
                (failed_machine r, (why, refl), refl),
          ),
          stands_ended r m r.sessions st ended,
        )
      ]

  module _ (start r old : Machine B) (items : List (Item B)) (q : Point B) (l : Leads k (At start) items q) (e : EndsAt k q r) (st : StandsFor r old) where
    one : (item : Item B) (end new : Machine B) → Fits k q item (At end) → StandsFor end new → ReplaysAs k start (items ++ item ∷ []) new
    one item end new f st' = (end, (At end, leads_join (At start) items (item ∷ []) q (At end) l (At end, f, refl), refl), st')

    none : (new : Machine B) → StandsFor r new → ReplaysAs k start (items ++ []) new
    none new st' = subst (λ (xs : List (Item B)). ReplaysAs k start xs new) (sym (append-nil items)) (r, (q, l, e), st')

    stays : (new : Machine B) → new ≡ old → ReplaysAs k start (items ++ []) new
    stays new is = none new (subst (λ (z : Machine B). StandsFor r z) (sym is) st)

    two : (s : ℕ) (call : Call B) (x : Reply B) (end new : Machine B) → Fits k (Asking s call r) (Replied s x) (At end) → StandsFor end new
        → ReplaysAs k start (items ++ Asked s call ∷ Replied s x ∷ []) new
    two s call x end new f st' = (
      end,
      (At end, leads_join (At start) items (Asked s call ∷ Replied s x ∷ []) q (At end) l (Asking s call r, fits_asked q r s call e, (At end, f, refl)), refl),
      st',
    )

    -- Asks.

    with_sessions : (new : Machine B) → new ≡ record old { sessions = new.sessions } → StandsFor (record r { sessions = new.sessions }) new
    with_sessions new is = subst (λ (z : Machine B). StandsFor (record r { sessions = new.sessions }) z) (sym is) (stands_with r old new.sessions st)

    ask_open : (s : ℕ) (call : Call B) (new : Machine B) → IsStep k old (Asks s call asked.Open) new → ReplaysAs k start (items ++ Asked s call ∷ []) new
    ask_open s call new h =
        let w = works r old st h.0 in
        let a = ask_alike k s call old r new asked.Open (st.sessions w) h.1 in (
          record r { sessions = new.sessions },
          (Asking s call r, leads_join (At start) items (Asked s call ∷ []) q (Asking s call r) l (Asking s call r, fits_asked q r s call e, refl), (w, a.1)),
          with_sessions new a.0,
        )

    ask_answered : (s : ℕ) (call : Call B) (x : Reply B) (new : Machine B) → IsStep k old (Asks s call (asked.Now x)) new
        → ReplaysAs k start (items ++ Asked s call ∷ Replied s x ∷ []) new
    ask_answered s call x new h =
        let w = works r old st h.0 in
        let a = ask_alike k s call old r new (asked.Now x) (st.sessions w) h.1 in
        two s call x (record r { sessions = new.sessions }) new (fits_at_once r (record r { sessions = new.sessions }) s call x w a.1) (with_sessions new a.0)

    ask_refused : (s : ℕ) (call : Call B) (x : Reply B) (new : Machine B) → AskRefused k s call x old new
        → ReplaysAs k start (items ++ Asked s call ∷ Replied s x ∷ []) new
    ask_refused s call (reply.Refused refusal.Failed) new h =
        two s call (reply.Refused refusal.Failed) (failed_machine r) new (fits_refused r (failed_machine r) s call refusal.Failed refl refl)
        (subst (λ (z : Machine B). StandsFor (failed_machine r) z) (sym h.1) (stands_ended r old r.sessions st h.0))
    ask_refused s call (reply.Refused refusal.HistoryFull) new h =
        let w = works r old st h.1.0 in
        let a = ask_alike k s call old r (ask k s call old).1 (ask k s call old).0 (st.sessions w) refl in
        two s call (reply.Refused refusal.HistoryFull) r new
        (fits_refused r r s call refusal.HistoryFull h.0 (w, ap (λ (p : Given B × Machine B). p.0) a.1 ∙ h.1.1, refl))
        (subst (λ (z : Machine B). StandsFor r z) (sym h.1.2) st)
    ask_refused s call other new h = absurd h

    asks : (s : ℕ) (call : Call B) (o : Outcome B) (new : Machine B) → AskHappens k s call old o new
        → ReplaysAs k start (items ++ items_of (newest old) (newest new) (Ask s call) o) new
    asks s call (outcome.Replied x) new h = elim h [
      | inl p ↦ ask_answered s call x new p
      | inr p ↦ ask_refused s call x new p
    ]
    asks s call outcome.More new h = ask_open s call new h
    asks s call other new h = absurd h

    -- Moves.

    answered : (s : ℕ) (x : Reply B) (new : Machine B) → is_committed x ≡ false → ((c : Call B) → refuses_ask x c ≡ false)
        → ((end : Machine B) → IsStep k r (Answers s x) end → FitsReply k s x r end) → IsStep k old (Answers s x) new
        → ReplaysAs k start (items ++ Replied s x ∷ []) new
    answered s x new plain quiet fits h =
        let a = answer_alike k s r old st h.0 x new plain h.1 in
        one (Replied s x) (record r { sessions = new.sessions }) new
        (fits_reply q r (record r { sessions = new.sessions }) s x e quiet (fits (record r { sessions = new.sessions }) (works r old st h.0, a.0))) (with_sessions new a.1)

    closed : (s : ℕ) (why : Refusal) (new : Machine B) → ((c : Call B) → refuses_ask (reply.Refused why) c ≡ false)
        → ((end : Machine B) → IsStep k r (Closes s why) end → FitsReply k s (reply.Refused why) r end) → IsStep k old (Closes s why) new
        → ReplaysAs k start (items ++ Replied s (reply.Refused why) ∷ []) new
    closed s why new quiet fits h =
        let a = close_alike k s r old st h.0 new h.2 in
        one (Replied s (reply.Refused why)) (record r { sessions = new.sessions }) new
        (fits_reply q r (record r { sessions = new.sessions }) s (reply.Refused why) e quiet (fits (record r { sessions = new.sessions }) (works r old st h.0, h.1, a.0)))
        (with_sessions new a.1)

    ended : (s : ℕ) (x : Reply B) (new : Machine B) → Ends k s x old new → ReplaysAs k start (items ++ Replied s x ∷ []) new
    ended s (reply.Refused refusal.Present) new h = answered s (reply.Refused refusal.Present) new refl (λ c. refl) (λ end f. f) h
    ended s (reply.Refused refusal.Absent) new h = answered s (reply.Refused refusal.Absent) new refl (λ c. refl) (λ end f. f) h
    ended s (reply.Refused refusal.PagesFull) new h = closed s refusal.PagesFull new (λ c. refl) (λ end f. f) h.1
    ended s (reply.Refused refusal.Memory) new h = closed s refusal.Memory new (λ c. refl) (λ end f. f) h.1
    ended s (reply.Refused refusal.Device) new h =
        let w = works r old st h.1.0 in
        let here : is_unanswered (session_at s r.sessions) ≡ true = ap (λ (xs : List (Session B)). is_unanswered (session_at s xs)) (sym (st.sessions w)) ∙ h.0 in
        one (Replied s (reply.Refused refusal.Device)) (failed_machine r) new
        (fits_reply q r (failed_machine r) s (reply.Refused refusal.Device) e (λ c. refl) (here, (w, refl)))
        (subst (λ (z : Machine B). StandsFor (failed_machine r) z) (sym h.1.1) (stands_failed r old st))
    ended s (reply.Refused refusal.Failed) new h =
        let why : (r.failed ≡ true) ⊎ (is_unanswered (session_at s r.sessions) ≡ true) =
        elim (true_or_false r.failed) [
          | inl p ↦ inl p
          | inr p ↦ inr (ap (λ (xs : List (Session B)). is_unanswered (session_at s xs)) (sym (st.sessions p)) ∙ h.0)
        ] in
        let f = fits_failed q r old s e st h.1.0 why in
        one (Replied s (reply.Refused refusal.Failed)) f.0 new f.1 (subst (λ (z : Machine B). StandsFor f.0 z) (sym h.1.1) f.2)
    ended s (reply.Refused other) new h = absurd h.1
    ended s reply.Ok new h = answered s reply.Ok new refl (λ c. refl) (λ end f. f) h
    ended s reply.Inserted new h = answered s reply.Inserted new refl (λ c. refl) (λ end f. f) h
    ended s reply.Deleted new h = answered s reply.Deleted new refl (λ c. refl) (λ end f. f) h
    ended s (reply.Found entries) new h = answered s (reply.Found entries) new refl (λ c. refl) (λ end f. f) h
    ended s reply.Aborted new h = answered s reply.Aborted new refl (λ c. refl) (λ end f. f) h
    ended s (reply.Committed c) new h =
        let a = committed_alike k s r old st h.0 c new h.1 in
        one (Replied s (reply.Committed c)) a.0 new (fits_reply q r a.0 s (reply.Committed c) e (λ c'. refl) a.1) a.2

    sealed_none : (s : ℕ) (new : Machine B) → new ≡ old → ReplaysAs k start (items ++ items_sealed s (newest old) (newest new)) new
    sealed_none s new is =
        subst (λ (b : Bool). ReplaysAs k start (items ++ (if b then Sealed s (newest new) ∷ [] else [])) new)
        (sym (not_less (newest old) (newest new) (ap newest is))) (stays new is)

    sealed_one : (s : ℕ) (new : Machine B) → IsStep k old (Seals s (newest new)) new → ReplaysAs k start (items ++ items_sealed s (newest old) (newest new)) new
    sealed_one s new h =
        let w = works r old st h.0 in
        let a = seal_alike k s r old st h.0 new h.2 in
        subst (λ (b : Bool). ReplaysAs k start (items ++ (if b then Sealed s (newest new) ∷ [] else [])) new)
        (sym (is_less (newest old) (newest new) h.1))
        (one (Sealed s (newest new)) a.0 new (fits_sealed q r a.0 s (newest new) e (w, h.1 ∙ ap (λ (j : ℕ). j + 1) st.number, a.1)) a.2)

    moves : (s : ℕ) (o : Outcome B) (new : Machine B) → MoveHappens k s old o new
        → ReplaysAs k start (items ++ items_of (newest old) (newest new) (Move s) o) new
    moves s (outcome.Replied x) new h = ended s x new h
    moves s outcome.More new h = elim h [
      | inl p ↦ sealed_none s new p.1
      | inr p ↦ sealed_one s new p
    ]
    moves s (outcome.Help need) new h = sealed_none s new h.1
    moves s outcome.Nothing new h = absurd h
    moves s (outcome.Refused why) new h = sealed_none s new h.1

    -- Events that are no session's.

    fails : (new : Machine B) → new ≡ failed_machine old → ReplaysAs k start (items ++ []) new
    fails new is = none new (subst (λ (z : Machine B). StandsFor r z) (sym is) (stands_unseen r old st))

    work_refused : (why : Refusal) (new : Machine B) → MeetsFault why old new → ReplaysAs k start (items ++ []) new
    work_refused refusal.Device new h = fails new h.1
    work_refused refusal.Failed new h = stays new h.1
    work_refused other new h = absurd h

    worked : (o : Outcome B) (new : Machine B) → WorkHappens old o new → ReplaysAs k start (items ++ []) new
    worked (outcome.Replied x) new h = absurd h
    worked outcome.More new h = stays new h.1
    worked (outcome.Help need) new h = stays new h.1
    worked outcome.Nothing new h = stays new h.1
    worked (outcome.Refused why) new h = work_refused why new h

    synced : (o : Outcome B) (new : Machine B) → SyncHappens k old o new → ReplaysAs k start (items ++ []) new
    synced outcome.More new h =
        none new (subst (λ (z : Machine B). StandsFor r z) (sym h.3) (stands_durable r old new.oldest st h.1 h.2))
    synced (outcome.Replied x) new h = absurd h
    synced (outcome.Help need) new h = stays new h.1
    synced outcome.Nothing new h = stays new h.1
    synced (outcome.Refused why) new h = work_refused why new h

    happened : (event : Event B) (o : Outcome B) (new : Machine B) → Happens k old event o new
        → ReplaysAs k start (items ++ items_of (newest old) (newest new) event o) new
    happened (Ask s call) o new h = asks s call o new h
    happened (Move s) o new h = moves s o new h
    happened LogStep o new h = synced o new h
    happened (WritePage page) o new h = worked o new h
    happened CheckpointStep o new h = synced o new h
    happened (Sweep page) o new h = worked o new h

  pub goes_on : (start old new : Machine B) (items : List (Item B)) (event : Event B) (o : Outcome B) → ReplaysAs k start items old → Happens k old event o new
      → ReplaysAs k start (items ++ items_of (newest old) (newest new) event o) new
  goes_on start old new items event o w h = happened start w.0 old items w.1.0 w.1.1 w.1.2 w.2 event o new h
