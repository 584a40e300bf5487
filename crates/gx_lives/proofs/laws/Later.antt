-- A search after an opening.
use Rattle.std.proofs.Common.{◌≡◌, inl, inr, ℕ, ◌-◌, ◌≤◌, Bool, true, false, ◌&&◌, ◌||◌, List, [], ◌∷◌, ◌++◌, refl, ap, sym, ◌∙◌, subst}
use Rattle.std.specs.Prelude.{length, slice_set}
use Rattle.std.specs.List.{list_any}
use Rattle.std.proofs.lemmas.Bool.{or_parts}
use Rattle.std.proofs.lemmas.List.{length-set}
use Rattle.gx_geom.specs.declared.refusal.Refusal.TheVariants.{BadSession}
use Rattle.gx_events.specs.declared.event.Event.{Event}
use Rattle.gx_events.specs.declared.event.Event.TheVariants.{Ask, Move, LogStep, WritePage, CheckpointStep, Sweep}
use Rattle.gx_events.specs.declared.outcome.Outcome.{Outcome}
use Rattle.gx_events.specs.declared.outcome.Outcome.TheVariants.{Replied, More, Help, Nothing, Refused}
use Rattle.gx_machine.specs.declared.call.Call.TheVariants.{Search}
use Rattle.gx_machine.specs.declared.entry.Entry.{Entry}
use Rattle.gx_machine.specs.declared.query.Query.{Query}
use Rattle.gx_machine.specs.declared.reply.Asked.{Asked}
use Rattle.gx_machine.specs.declared.reply.Asked.TheVariants as asked
use Rattle.gx_machine.specs.declared.reply.Reply.{Reply}
use Rattle.gx_machine.specs.declared.reply.Reply.TheVariants as reply
use Rattle.gx_machine.specs.Invariants.{KeptInOrder, SameSets, changes_sets}
use Rattle.gx_machine.specs.Keys.{Keys, matches}
use Rattle.gx_machine.specs.Machine.{Machine, claims_held, crash, is_session, least_conflicting, newest, session_at, set_of}
use Rattle.gx_machine.specs.Outcomes.{IsAnswered, IsSealed}
use Rattle.gx_machine.specs.Runs.{Answers, Asks, Closes, Crashes, Durable, Fails, IsRun, IsStep, RefusesAsk, RefusesCall, Seals, Step}
use Rattle.gx_machine.specs.Sessions.{Changes, no_changes, view}
use Rattle.gx_machine.specs.Sets.{has}
use Rattle.gx_machine.proofs.Places.{at_set}
use Rattle.gx_machine.proofs.StepEffects.{asked_session, asked_there}
use Rattle.gx_lives.specs.Bearing.{AreOf}
use Rattle.gx_lives.specs.Later.{AreMatching, IsSearched, asks, changes, is_change}
use Rattle.gx_lives.specs.Lives.{Turn}
use Rattle.gx_lives.specs.Lives as life
use Rattle.gx_lives.specs.Told.{TellsEvent, TellsReply, TellsTurn, TellsUpkeep, TellsWork}
use Rattle.gx_lives.proofs.laws.Kept.{AllAre, idle_are, step_asks, step_changes, step_keeps_all}
use Rattle.gx_lives.proofs.laws.Told.{told, turn_told}
use Rattle.gx_lives.proofs.laws.Unchanged.{HoldsOnly, OpenFor, Unchanged, of_another, only_kept, open_kept, open_search, view_of_none}

-- What steps say of a turn.

one_step : {B : Type 0} (test : Step B → Bool) (steps : List (Step B)) (step : Step B) → steps ≡ step ∷ [] → test step ≡ false → list_any test steps ≡ false
one_step test steps step is quiet = ap (list_any test) is ∙ ap (λ b. b || false) quiet

no_step : {B : Type 0} (test : Step B → Bool) (steps : List (Step B)) → steps ≡ [] → list_any test steps ≡ false
no_step test steps is = ap (list_any test) is

module _ {B : Type 0} where
  -- steps of work are no session's
  of_work : (test : Step B → Bool) → ((number : ℕ) → test (Durable number) ≡ false) → test Fails ≡ false
      → (outcome : Outcome B) (steps : List (Step B)) → TellsWork outcome steps → list_any test steps ≡ false
  of_work test durable fails More steps (inl none) = no_step test steps none
  of_work test durable fails More steps (inr (number, is)) = one_step test steps (Durable number) is (durable number)
  of_work test durable fails (Refused why) steps (inl none) = no_step test steps none
  of_work test durable fails (Refused why) steps (inr is) = one_step test steps Fails is fails
  of_work test durable fails (Replied r) steps none = no_step test steps none
  of_work test durable fails (Help need) steps none = no_step test steps none
  of_work test durable fails Nothing steps none = no_step test steps none

  of_upkeep : (test : Step B → Bool) → ((number : ℕ) → test (Durable number) ≡ false) → test Fails ≡ false → (steps : List (Step B)) → TellsUpkeep steps
      → list_any test steps ≡ false
  of_upkeep test durable fails [] told = refl
  of_upkeep test durable fails (Durable number ∷ steps) told = ap (λ b. b || list_any test steps) (durable number) ∙ of_upkeep test durable fails steps told
  of_upkeep test durable fails (Fails ∷ steps) told = ap (λ b. b || list_any test steps) fails ∙ of_upkeep test durable fails steps told
  of_upkeep test durable fails (other ∷ steps) told = absurd told

  -- steps of turns without a change report none
  of_reply : (s : ℕ) (r : Reply B) (steps : List (Step B)) → is_change r ≡ false → TellsReply s r steps → list_any step_changes steps ≡ false
  of_reply s r steps quiet (inl is) = one_step step_changes steps (Answers s r) is quiet
  of_reply s r steps quiet (inr (why, refused, inl is)) = one_step step_changes steps (Closes s why) is refl
  of_reply s r steps quiet (inr (why, refused, inr is)) = one_step step_changes steps (RefusesCall s why) is refl

  event_changes : (e : Event B) (o : Outcome B) (steps : List (Step B)) → changes (life.Happens e o) ≡ false → TellsEvent e o steps → list_any step_changes steps ≡ false
  event_changes (Ask s call) (Replied r) steps quiet (inl is) = one_step step_changes steps (Asks s call (asked.Now r)) is refl
  event_changes (Ask s call) (Replied r) steps quiet (inr (why, refused, is)) = one_step step_changes steps (RefusesAsk s call why) is refl
  event_changes (Ask s call) other steps quiet is = one_step step_changes steps (Asks s call asked.Open) is refl
  event_changes (Move s) (Replied r) steps quiet told = of_reply s r steps quiet told
  event_changes (Move s) More steps quiet (inl is) = no_step step_changes steps is
  event_changes (Move s) More steps quiet (inr (number, is)) = one_step step_changes steps (Seals s number) is refl
  event_changes (Move s) other steps quiet is = no_step step_changes steps is
  event_changes LogStep o steps quiet told = of_work step_changes (λ number. refl) refl o steps told
  event_changes (WritePage page) o steps quiet told = of_work step_changes (λ number. refl) refl o steps told
  event_changes CheckpointStep o steps quiet told = of_work step_changes (λ number. refl) refl o steps told
  event_changes (Sweep page) o steps quiet told = of_work step_changes (λ number. refl) refl o steps told

  turn_changes : (turn : Turn B) (steps : List (Step B)) → changes turn ≡ false → TellsTurn turn steps → list_any step_changes steps ≡ false
  turn_changes (life.Happens e o) steps quiet told = event_changes e o steps quiet told
  turn_changes life.Opens steps quiet (number, is) = one_step step_changes steps (Crashes number) is refl
  turn_changes life.Crashes steps quiet is = no_step step_changes steps is
  turn_changes life.GivesUp steps quiet is = no_step step_changes steps is
  turn_changes (life.Refuses why) steps quiet is = no_step step_changes steps is
  turn_changes life.Reads steps quiet told = of_upkeep step_changes (λ number. refl) refl steps told

  -- and of turns in which a session asks nothing, in none it asks
  reply_asks : (a s : ℕ) (r : Reply B) (steps : List (Step B)) → TellsReply s r steps → list_any (step_asks a) steps ≡ false
  reply_asks a s r steps (inl is) = one_step (step_asks a) steps (Answers s r) is refl
  reply_asks a s r steps (inr (why, refused, inl is)) = one_step (step_asks a) steps (Closes s why) is refl
  reply_asks a s r steps (inr (why, refused, inr is)) = one_step (step_asks a) steps (RefusesCall s why) is refl

  event_asks : (a : ℕ) (e : Event B) (o : Outcome B) (steps : List (Step B)) → asks a (life.Happens e o) ≡ false → TellsEvent e o steps → list_any (step_asks a) steps ≡ false
  event_asks a (Ask s call) (Replied r) steps quiet (inl is) = one_step (step_asks a) steps (Asks s call (asked.Now r)) is quiet
  event_asks a (Ask s call) (Replied r) steps quiet (inr (why, refused, is)) = one_step (step_asks a) steps (RefusesAsk s call why) is refl
  event_asks a (Ask s call) other steps quiet is = one_step (step_asks a) steps (Asks s call asked.Open) is quiet
  event_asks a (Move s) (Replied r) steps quiet told = reply_asks a s r steps told
  event_asks a (Move s) More steps quiet (inl is) = no_step (step_asks a) steps is
  event_asks a (Move s) More steps quiet (inr (number, is)) = one_step (step_asks a) steps (Seals s number) is refl
  event_asks a (Move s) other steps quiet is = no_step (step_asks a) steps is
  event_asks a LogStep o steps quiet told = of_work (step_asks a) (λ number. refl) refl o steps told
  event_asks a (WritePage page) o steps quiet told = of_work (step_asks a) (λ number. refl) refl o steps told
  event_asks a CheckpointStep o steps quiet told = of_work (step_asks a) (λ number. refl) refl o steps told
  event_asks a (Sweep page) o steps quiet told = of_work (step_asks a) (λ number. refl) refl o steps told

  turn_asks : (a : ℕ) (turn : Turn B) (steps : List (Step B)) → asks a turn ≡ false → TellsTurn turn steps → list_any (step_asks a) steps ≡ false
  turn_asks a (life.Happens e o) steps quiet told = event_asks a e o steps quiet told
  turn_asks a life.Opens steps quiet (number, is) = one_step (step_asks a) steps (Crashes number) is refl
  turn_asks a life.Crashes steps quiet is = no_step (step_asks a) steps is
  turn_asks a life.GivesUp steps quiet is = no_step (step_asks a) steps is
  turn_asks a (life.Refuses why) steps quiet is = no_step (step_asks a) steps is
  turn_asks a life.Reads steps quiet told = of_upkeep (step_asks a) (λ number. refl) refl steps told

module _ {B : Type 0} (k : Keys B) where
  -- what each step without a mark keeps, each turn without one keeps
  run_keeps : (P : Machine B → Type 0) (test : Step B → Bool) → ((step : Step B) (old new : Machine B) → test step ≡ false → IsStep k old step new → P old → P new)
      → (steps : List (Step B)) (old new : Machine B) → list_any test steps ≡ false → IsRun k old steps new → P old → P new
  run_keeps P test each [] old new none same p = subst P (sym same) p
  run_keeps P test each (step ∷ steps) old new none run p =
      let both = or_parts (test step) (list_any test steps) none in
      run_keeps P test each steps run.0 new both.1 run.2 (each step old run.0 both.0 run.1 p)

  turns_keep : (P : Machine B → Type 0) (test : Step B → Bool) (mark : Turn B → Bool) → ((step : Step B) (old new : Machine B) → test step ≡ false → IsStep k old step new → P old → P new)
      → ((turn : Turn B) (steps : List (Step B)) → mark turn ≡ false → TellsTurn turn steps → list_any test steps ≡ false)
      → (turns : List (Turn B)) (old new : Machine B) → list_any mark turns ≡ false → AreOf k old turns new → P old → P new
  turns_keep P test mark each of [] old new none same p = subst P (sym same) p
  turns_keep P test mark each of (turn ∷ turns) old new none (middle, is, others) p =
      let both = or_parts (mark turn) (list_any mark turns) none in
      let run = turn_told k turn old middle is in
      turns_keep P test mark each of turns middle new both.1 others (run_keeps P test each run.0 old middle (of turn run.0 both.0 run.1) run.2 p)

  split : (before after : List (Turn B)) (old new : Machine B) → AreOf k old (before ++ after) new → (middle : Machine B) × AreOf k old before middle × AreOf k middle after new
  split [] after old new are = (old, refl, are)
  split (turn ∷ before) after old new (next, is, others) =
      let rest = split before after next new others in (rest.0, (next, is, rest.1), rest.2)

  -- a search that is open after its ask
  search_open : (s : ℕ) (q : Query B) (old new : Machine B) (there : Bool) → is_session s ≡ there → asked_there k s (Search q) old there ≡ (asked.Open, new)
      → length old.sessions ≡ 8 → AllAre k (OpenFor s q) new.sessions
  search_open s q old new true there h eight =
      let made = asked_session k s (Search q) old in
      let so : OpenFor s q s made.1 =
      open_search k s q (least_conflicting k (Search q) s 1 old.sessions) (claims_held old.sessions) (session_at s old.sessions) (ap (λ (p : Asked B × Machine B). p.0) h) in
      subst (λ (m : Machine B). AllAre k (OpenFor s q) m.sessions) (ap (λ (p : Asked B × Machine B). p.1) h) (record {
        eight = length-set old.sessions (s - 1) made.1 ∙ eight;
        each = λ a. elim (at_set a s old.sessions made.1 there eight) [
          | inl p ↦ subst (OpenFor s q a) (sym p.1) (subst (λ n. OpenFor s q n made.1) (sym p.0) so)
          | inr p ↦ of_another k s q a p.0 (session_at a (slice_set old.sessions (s - 1) made.1))
        ];
      })
  search_open s q old new false there h eight =
      let no : ◌≡◌ {A = Asked B} (asked.Now (reply.Refused BadSession)) asked.Open = ap (λ (p : Asked B × Machine B). p.0) h in let never : ⊥ = cc in absurd never

  -- an opening alone is a crash of the machine to a set that it keeps
  pub record IsOpening (m opened : Machine B) : Type 0 where
    pub number : ℕ
    pub at_least : m.oldest ≤ number
    pub at_most : number ≤ newest m
    pub is : opened ≡ crash number m

  pub one_opening : (m opened : Machine B) → AreOf k m (life.Opens ∷ []) opened → IsOpening m opened
  one_opening m opened (middle, (number, step), same) = record { number = number; at_least = step.0; at_most = step.1; is = same ∙ step.2 }

  -- and leaves a machine that holds only that set
  opened_only : (m : Machine B) (number : ℕ) → HoldsOnly k (set_of number m) (crash number m)
  opened_only m number = record { latest = refl; older = tt; sessions = idle_are k Unchanged (λ s. tt) }

  module _ (keeps_sets : (old new : Machine B) (step : Step B) → changes_sets step ≡ false → IsStep k old step new → SameSets old new)
      (seals : (old new : Machine B) (s number : ℕ) → length old.sessions ≡ 8 → IsStep k old (Seals s number) new → IsSealed k s number old new)
      (in_order : (old new : Machine B) (steps : List (Step B)) → KeptInOrder k old → IsRun k old steps new → KeptInOrder k new)
      (found : (old new : Machine B) (s : ℕ) (entries : List (Entry B)) → KeptInOrder k old → IsStep k old (Answers s (reply.Found entries)) new → IsAnswered k s old entries) where
    are_in_order : (turns : List (Turn B)) (old new : Machine B) → AreOf k old turns new → KeptInOrder k old → KeptInOrder k new
    are_in_order turns old new are kept = let run = told k turns old new are in in_order old new run.0 kept run.2

    module _ (set : List (Entry B)) where
      abbrev Only : Machine B → Type 0
      Only = HoldsOnly k set

      only_step : (step : Step B) (old new : Machine B) → step_changes step ≡ false → IsStep k old step new → Only old → Only new
      only_step = only_kept k keeps_sets seals set

      only_turns : (turns : List (Turn B)) (old new : Machine B) → list_any changes turns ≡ false → AreOf k old turns new → Only old → Only new
      only_turns = turns_keep Only step_changes changes only_step turn_changes

      matching : (s : ℕ) (q : Query B) (m : Machine B) (entries : List (Entry B)) → Only m → AllAre k (OpenFor s q) m.sessions → IsAnswered k s m entries → AreMatching k q set entries
      matching s q m entries only waits is =
          let none : is.changes ≡ no_changes = subst (Unchanged s) is.asked (only.sessions.each s) in
          let call : Search is.query ≡ Search q = subst (OpenFor s q s) is.asked (waits.each s) refl in
          let same : is.query ≡ q = cc in
          record {
            in_order = is.in_order;
            exact = λ e.
                is.exact e ∙ ap (λ (query : Query B). matches k query e && has k e (view k m.latest is.changes)) same
                ∙ ap (λ (done : Changes B). matches k q e && has k e (view k m.latest done)) none
                ∙ ap (λ (x : List (Entry B)). matches k q e && has k e x) (view_of_none k m.latest ∙ only.latest);
          }

      -- a search, while nothing is inserted or deleted, finds what matches in the set
      finds_later : (turns : List (Turn B)) (opened new : Machine B) → AreOf k opened turns new → Only opened → KeptInOrder k opened
          → (s : ℕ) (q : Query B) (entries : List (Entry B)) → IsSearched s q entries turns → AreMatching k q set entries
      finds_later turns opened new are only kept s q entries is =
          let answered : List (Turn B) = life.Happens (Move s) (Replied (reply.Found entries)) ∷ is.after in
          let asked_then : List (Turn B) = life.Happens (Ask s (Search q)) More ∷ (is.between ++ answered) in
          let first = split is.before asked_then opened new (subst (λ (all : List (Turn B)). AreOf k opened all new) is.parts are) in
          let asking = first.2 in
          let second = split is.between answered asking.0 new asking.2 in
          let before : Only first.0 = only_turns is.before opened first.0 is.unchanged first.1 only in
          let begun : Only asking.0 = only_step (Asks s (Search q) asked.Open) first.0 asking.0 refl asking.1 before in
          let waits : AllAre k (OpenFor s q) asking.0.sessions = search_open s q first.0 asking.0 (is_session s) refl asking.1.1 before.sessions.eight in
          let stays : AllAre k (OpenFor s q) second.0.sessions =
          turns_keep (λ (m : Machine B). AllAre k (OpenFor s q) m.sessions) (step_asks s) (asks s)
          (λ step old after quiet h all. step_keeps_all k (OpenFor s q) step (open_kept k s q step quiet) old after h all)
          (turn_asks s) is.between asking.0 second.0 is.asks_nothing second.1 waits in
          let in_step : KeptInOrder k asking.0 = in_order first.0 asking.0 (Asks s (Search q) asked.Open ∷ []) (are_in_order is.before opened first.0 first.1 kept) (asking.0, asking.1, refl) in
          matching s q second.0 entries (only_turns is.between asking.0 second.0 is.unchanged_since second.1 begun) stays
          (found second.0 second.2.0 s entries (are_in_order is.between asking.0 second.0 second.1 in_step) second.2.1)

    -- so it does from an opening on
    pub finds_opened : (m opened : Machine B) (o : IsOpening m opened) → KeptInOrder k m → (later : List (Turn B)) (new : Machine B) → AreOf k opened later new
        → (s : ℕ) (q : Query B) (entries : List (Entry B)) → IsSearched s q entries later → AreMatching k q (set_of o.number m) entries
    finds_opened m opened o kept later new are s q entries is =
        let number : ℕ = o.number in
        let opens : IsRun k m (Crashes number ∷ []) (crash number m) = (crash number m, (o.at_least, o.at_most, refl), refl) in
        let in_step : KeptInOrder k (crash number m) = in_order m (crash number m) (Crashes number ∷ []) kept opens in
        finds_later (set_of number m) later opened new are (subst (λ (x : Machine B). HoldsOnly k (set_of number m) x) (sym o.is) (opened_only m number))
        (subst (λ (x : Machine B). KeptInOrder k x) (sym o.is) in_step) s q entries is
