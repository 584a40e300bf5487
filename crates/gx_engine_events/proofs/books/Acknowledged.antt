-- Commits that a record acknowledges are durable in the machine that it replays as.
use Rattle.std.proofs.Common.{◌≡◌, inl, inr, ◌∙◌, sym, ap, refl, subst, ℕ, ◌≤◌, ◌==◌, ◌&&◌, Bool, true, false, List, [], ◌∷◌, arith}
use Rattle.std.specs.Prelude.{nat_le, if◌then◌else◌}
use Rattle.std.specs.List.{list_any}
use Rattle.std.proofs.lemmas.Bool.{eqb-true, leb-false}
use Rattle.gx_geom.specs.declared.refusal.Refusal.{Refusal}
use Rattle.gx_geom.specs.declared.refusal.Refusal.TheVariants as refusal
use Rattle.gx_machine.specs.declared.call.Call.{Call}
use Rattle.gx_machine.specs.declared.item.Item.{Item}
use Rattle.gx_machine.specs.declared.item.Item.TheVariants.{Asked, Sealed, Replied}
use Rattle.gx_machine.specs.declared.reply.Reply.{Reply}
use Rattle.gx_machine.specs.declared.reply.Reply.TheVariants as reply
use Rattle.gx_machine.specs.declared.reply.Asked.{Asked as Given}
use Rattle.gx_machine.specs.declared.reply.Asked.TheVariants as asked
use Rattle.gx_machine.specs.Keys.{Keys}
use Rattle.gx_machine.specs.Machine.{Machine, ask, durable, failed_machine}
use Rattle.gx_machine.specs.Runs.{Answers, Asks, Closes, RefusesAsk, RefusesCall, Seals}
use Rattle.gx_machine.proofs.SessionMoves.{or_either}
use Rattle.gx_machine.proofs.Survival.{acknowledged, oldest_rises}
use Rattle.gx_events.specs.Replay.{Point, At, Asking, Fits, FitsAt, FitsEither, FitsGiven, FitsRefusal, FitsReply, Leads, EndsAt, ReplaysAs, refuses_ask, settled}
use Rattle.gx_engine_events.specs.Books.{acknowledges, is_commit}
use Rattle.gx_engine_events.proofs.books.AtOnce.{given_commits_none}

-- the number of the oldest kept set at a place of a replay
abbrev oldest_at : {B : Type 0} → Point B → ℕ
oldest_at (At m) = m.oldest
oldest_at (Asking s call m) = m.oldest

module _ {B : Type 0} (k : Keys B) where
  there : (m n : Machine B) (p : Point B) → m.oldest ≤ n.oldest → p ≡ At n → m.oldest ≤ oldest_at p
  there m n p rises is = subst (λ (q : Point B). m.oldest ≤ oldest_at q) (sym is) rises

  settled_by : (number : ℕ) (m : Machine B) (late : Bool) → nat_le number m.oldest ≡ late
      → (m.oldest ≤ (if late then m else durable number m).oldest) × ((if late then m else durable number m).failed ≡ m.failed)
  settled_by number m true is = (omega arith, refl)
  settled_by number m false is = (let above = leb-false number m.oldest is in omega (arith, above), refl)

  committed_rises : (s number : ℕ) (m n : Machine B) → FitsReply k s (reply.Committed number) m n → m.oldest ≤ n.oldest
  committed_rises s number m n h =
      let by = settled_by number m (nat_le number m.oldest) refl in
      let later = oldest_rises k (settled number m) n (Answers s (reply.Committed number)) (by.1 ∙ h.0, h.2) in
      omega (arith, by.0, later)

  failed_rises : (m n : Machine B) → n ≡ failed_machine m → m.oldest ≤ n.oldest
  failed_rises m n is = subst (λ (z : Machine B). m.oldest ≤ z.oldest) (sym is) (omega arith)

  refused_rises : (s : ℕ) (why : Refusal) (m n : Machine B) → FitsReply k s (reply.Refused why) m n → m.oldest ≤ n.oldest
  refused_rises s refusal.PagesFull m n h = oldest_rises k m n (Closes s refusal.PagesFull) h
  refused_rises s refusal.Memory m n h = oldest_rises k m n (Closes s refusal.Memory) h
  refused_rises s refusal.Device m n h = oldest_rises k m n (RefusesCall s refusal.Device) h
  refused_rises s refusal.Failed m n h = failed_rises m n h.1
  refused_rises s other m n h = oldest_rises k m n (Answers s (reply.Refused other)) h

  reply_rises : (s : ℕ) (r : Reply B) (m n : Machine B) → FitsReply k s r m n → m.oldest ≤ n.oldest
  reply_rises s (reply.Committed number) m n h = committed_rises s number m n h
  reply_rises s (reply.Refused why) m n h = refused_rises s why m n h
  reply_rises s reply.Ok m n h = oldest_rises k m n (Answers s reply.Ok) h
  reply_rises s reply.Inserted m n h = oldest_rises k m n (Answers s reply.Inserted) h
  reply_rises s reply.Deleted m n h = oldest_rises k m n (Answers s reply.Deleted) h
  reply_rises s (reply.Found entries) m n h = oldest_rises k m n (Answers s (reply.Found entries)) h
  reply_rises s reply.Aborted m n h = oldest_rises k m n (Answers s reply.Aborted) h

  at_rises : (m : Machine B) (item : Item B) (p : Point B) → FitsAt k m item p → m.oldest ≤ oldest_at p
  at_rises m (Asked s call) p is = subst (λ (q : Point B). m.oldest ≤ oldest_at q) (sym is) (omega arith)
  at_rises m (Sealed s number) p h = there m h.0 p (oldest_rises k m h.0 (Seals s number) h.1) h.2
  at_rises m (Replied s r) p h = there m h.0 p (reply_rises s r m h.0 h.1) h.2

  -- an acknowledged commit is durable from its item on
  at_covers : (number : ℕ) (m : Machine B) (item : Item B) (p : Point B) → FitsAt k m item p → acknowledges number item ≡ true → number ≤ oldest_at p
  at_covers number m (Asked s call) p h is = absurd (let no : false ≡ true = is in let none : ⊥ = cc in none)
  at_covers number m (Sealed s n) p h is = absurd (let no : false ≡ true = is in let none : ⊥ = cc in none)
  at_covers number m (Replied s (reply.Committed n)) p h is =
      let same : n ≡ number = eqb-true n number is in
      let durable : n ≤ h.0.oldest = acknowledged k s n (settled n m) h.0 h.1.2 in
      subst (λ (q : Point B). number ≤ oldest_at q) (sym h.2) (omega (arith, same, durable))
  at_covers number m (Replied s other) p h is = absurd (let no : false ≡ true = is in let none : ⊥ = cc in none)

  given_rises : (s : ℕ) (call : Call B) (m : Machine B) (given : Given B × Machine B) (item : Item B) (p : Point B) → m.failed ≡ false → ask k s call m ≡ given → FitsGiven k s given item p
      → m.oldest ≤ oldest_at p
  given_rises s call m (asked.Now r, n) item p works is h = there m n p (oldest_rises k m n (Asks s call (asked.Now r)) (works, is)) h.1
  given_rises s call m (asked.Open, n) item p works is h =
      let first : m.oldest ≤ n.oldest = oldest_rises k m n (Asks s call asked.Open) (works, is) in
      let next = at_rises n item p h in omega (arith, first, next)

  given_covers : (number s : ℕ) (call : Call B) (m : Machine B) (given : Given B × Machine B) (item : Item B) (p : Point B) → ask k s call m ≡ given → FitsGiven k s given item p
      → acknowledges number item ≡ true → number ≤ oldest_at p
  given_covers number s call m (asked.Now r, n) item p is h told =
      let none : is_commit number r ≡ false = given_commits_none k number s call m n r is in
      let some : is_commit number r ≡ true = sym (ap (acknowledges number) h.0) ∙ told in
      absurd (let no : true ≡ false = sym some ∙ none in let nothing : ⊥ = cc in nothing)
  given_covers number s call m (asked.Open, n) item p is h told = at_covers number n item p h told

  refusal_rises : (s : ℕ) (call : Call B) (m : Machine B) (r : Reply B) (p : Point B) → FitsRefusal k s call m r p → m.oldest ≤ oldest_at p
  refusal_rises s call m (reply.Refused why) p h = there m h.0 p (oldest_rises k m h.0 (RefusesAsk s call why) h.1) h.2
  refusal_rises s call m other p h = absurd h

  refusal_covers : (number s : ℕ) (call : Call B) (m : Machine B) (t : ℕ) (r : Reply B) (p : Point B) → FitsRefusal k s call m r p → is_commit number r ≡ true → number ≤ oldest_at p
  refusal_covers number s call m t (reply.Refused why) p h told = absurd (let no : false ≡ true = told in let none : ⊥ = cc in none)
  refusal_covers number s call m t other p h told = absurd h

  either_rises : (s : ℕ) (call : Call B) (m : Machine B) (t : ℕ) (r : Reply B) (refuses : Bool) (p : Point B) → FitsEither k s call m t r refuses p → m.oldest ≤ oldest_at p
  either_rises s call m t r true p h = refusal_rises s call m r p h
  either_rises s call m t r false p h = given_rises s call m (ask k s call m) (Replied t r) p h.0 refl h.1

  either_covers : (number s : ℕ) (call : Call B) (m : Machine B) (t : ℕ) (r : Reply B) (refuses : Bool) (p : Point B) → FitsEither k s call m t r refuses p → is_commit number r ≡ true
      → number ≤ oldest_at p
  either_covers number s call m t r true p h told = refusal_covers number s call m t r p h told
  either_covers number s call m t r false p h told = given_covers number s call m (ask k s call m) (Replied t r) p refl h.1 told

  item_rises : (p : Point B) (item : Item B) (q : Point B) → Fits k p item q → oldest_at p ≤ oldest_at q
  item_rises (At m) item q h = at_rises m item q h
  item_rises (Asking s call m) (Replied t r) q h = either_rises s call m t r ((t == s) && refuses_ask r call) q h
  item_rises (Asking s call m) (Asked t next) q h = given_rises s call m (ask k s call m) (Asked t next) q h.0 refl h.1
  item_rises (Asking s call m) (Sealed t n) q h = given_rises s call m (ask k s call m) (Sealed t n) q h.0 refl h.1

  item_covers : (number : ℕ) (p : Point B) (item : Item B) (q : Point B) → Fits k p item q → acknowledges number item ≡ true → number ≤ oldest_at q
  item_covers number (At m) item q h told = at_covers number m item q h told
  item_covers number (Asking s call m) (Replied t r) q h told = either_covers number s call m t r ((t == s) && refuses_ask r call) q h told
  item_covers number (Asking s call m) (Asked t next) q h told = absurd (let no : false ≡ true = told in let none : ⊥ = cc in none)
  item_covers number (Asking s call m) (Sealed t n) q h told = absurd (let no : false ≡ true = told in let none : ⊥ = cc in none)

  items_rise : (items : List (Item B)) (p q : Point B) → Leads k p items q → oldest_at p ≤ oldest_at q
  items_rise [] p q same = subst (λ (x : Point B). oldest_at p ≤ oldest_at x) (sym same) (omega arith)
  items_rise (item ∷ items) p q h =
      let first = item_rises p item h.0 h.1 in let rest = items_rise items h.0 q h.2 in omega (arith, first, rest)

  items_cover : (number : ℕ) (items : List (Item B)) (p q : Point B) → Leads k p items q → list_any (acknowledges number) items ≡ true → number ≤ oldest_at q
  items_cover number [] p q same told = absurd (let no : false ≡ true = told in let none : ⊥ = cc in none)
  items_cover number (item ∷ items) p q h told =
      elim (or_either (acknowledges number item) (list_any (acknowledges number) items) told) [
        | inl here ↦ (let first = item_covers number p item h.0 h.1 here in let rest = items_rise items h.0 q h.2 in omega (arith, first, rest))
        | inr later ↦ items_cover number items h.0 q h.2 later
      ]

  ends_rise : (p : Point B) (m : Machine B) → EndsAt k p m → oldest_at p ≤ m.oldest
  ends_rise (At m) n is = subst (λ (z : Machine B). m.oldest ≤ z.oldest) (sym is) (omega arith)
  ends_rise (Asking s call m) n is = oldest_rises k m n (Asks s call asked.Open) is

  pub all_covered : (start : Machine B) (items : List (Item B)) (m : Machine B) → ReplaysAs k start items m → (number : ℕ) → list_any (acknowledges number) items ≡ true → number ≤ m.oldest
  all_covered start items m h number told =
      let far = items_cover number items (At start) h.1.0 h.1.1 told in
      let end = ends_rise h.1.0 h.0 h.1.2 in
      let up = h.2.rises in
      omega (arith, far, end, up)
