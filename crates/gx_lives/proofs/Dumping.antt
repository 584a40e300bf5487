-- A dump of an index is readings.
use Rattle.std.proofs.Common.{◌≡◌, refl, ap, sym, subst, inl, inr, ℕ, Bool, true, false, List, [], ◌∷◌, ◌++◌}
use Rattle.std.specs.Prelude.{Result, Ok, Err}
use Rattle.gx_geom.specs.declared.refusal.Refusal.{Refusal}
use Rattle.gx_geom.specs.declared.refusal.Refusal.TheVariants as refusal
use Rattle.gx_class.specs.Traits.{traits_of}
use Rattle.gx_class.specs.declared.class.KeyClass.{Ghosts}
use Rattle.gx_disk.specs.Device.{Device}
use Rattle.gx_engine.specs.States.{Parts}
use Rattle.gx_engine.specs.Sweeping.{bring_events}
use Rattle.gx_events.specs.Happenings as laws
use Rattle.gx_events.specs.Steps.{IsJust, IsSync}
use Rattle.gx_events.specs.declared.outcome.Need.{Need}
use Rattle.gx_events.specs.declared.outcome.Outcome.{Outcome}
use Rattle.gx_events.specs.declared.outcome.Outcome.TheVariants.{Help, More, Nothing, Refused, Replied}
use Rattle.gx_machine.specs.Keys.{Members}
use Rattle.gx_restart.specs.Bringing.{Brings, Helps, IsRead}
use Rattle.gx_restart.specs.Dumped.{Dumps, DumpsBy}
use Rattle.gx_restart.specs.States.{State}
use Rattle.gx_restart.specs.declared.fault.DumpFault.{DumpFault}
use Rattle.gx_restart.specs.declared.fault.DumpFault.TheVariants as fault
use Rattle.gx_restart.specs.declared.text.stop.Stop.{Stop}
use Rattle.gx_restart.specs.declared.text.stop.Stop.TheVariants as stop
use Rattle.gx_restart.proofs.Bringing.{read_so}
use Rattle.gx_lives.specs.Calling.{AreReads, LivesByReading}
use Rattle.gx_lives.specs.Lives.{AreUpkeep, IsReading, Lives, Stage, Turn, Works}
use Rattle.gx_lives.specs.Lives as life

-- What a page that is brought, and an event that gives it a frame, are of the index.
away_upkeep : (B : Type 0) (why : Refusal) → AreUpkeep (bring_events {A = Unit {0}} {B = B} (Err (Refused why)))
away_upkeep B refusal.Device = tt
away_upkeep B why = tt

module _ {B : Type 0} where
  these_are : (events given : List (laws.Happening B)) → events ≡ given → AreUpkeep given → AreUpkeep events
  these_are events given is upkeep = subst (λ (xs : List (laws.Happening B)). AreUpkeep xs) (sym is) upkeep

  fault_upkeep : (events : List (laws.Happening B)) → IsJust laws.Fails events → AreUpkeep events
  fault_upkeep events (inl is) = these_are events (laws.Fails ∷ []) is tt
  fault_upkeep events (inr is) = these_are events (laws.Works ∷ laws.Fails ∷ []) is tt

  refused_upkeep : (failed : Bool) (why : Refusal) (events : List (laws.Happening B)) → IsSync failed (Refused why) events → AreUpkeep events
  refused_upkeep failed refusal.Device events are = fault_upkeep events are.1
  refused_upkeep failed refusal.Failed events are = these_are events [] are.1 tt
  refused_upkeep failed why events are = absurd are

  sync_upkeep : (failed : Bool) (outcome : Outcome B) (events : List (laws.Happening B)) → IsSync failed outcome events → AreUpkeep events
  sync_upkeep failed More events (works, inl is) = these_are events [] is tt
  sync_upkeep failed More events (works, inr (inl is)) = these_are events (laws.Works ∷ []) is tt
  sync_upkeep failed More events (works, inr (inr (number, is))) = these_are events (laws.Durable number ∷ []) is tt
  sync_upkeep failed (Help need) events are = these_are events [] are.1 tt
  sync_upkeep failed Nothing events are = these_are events [] are.1 tt
  sync_upkeep failed (Refused why) events are = refused_upkeep failed why events are
  sync_upkeep failed (Replied r) events are = absurd are

  pub brought_upkeep : (result : Result (Unit {0}) (Outcome B)) → AreUpkeep (bring_events result)
  brought_upkeep (Ok done) = tt
  brought_upkeep (Err More) = tt
  brought_upkeep (Err (Refused why)) = away_upkeep B why
  brought_upkeep (Err (Help need)) = tt
  brought_upkeep (Err Nothing) = tt
  brought_upkeep (Err (Replied r)) = tt

  reads_joined : (one other : List (Turn B)) → AreReads one → AreReads other → AreReads (one ++ other)
  reads_joined [] other first next = next
  reads_joined (life.Reads ∷ one) other first next = reads_joined one other first next
  reads_joined (turn ∷ one) other first next = absurd first

module _ {C B D : Type 0} (shape : Members B) (proper : B → Bool) (said : List ℕ → B) (class : Ghosts C B) (state : D → Device) where
  -- a life and then another are one
  pub lives_joined : (one other : List (Turn B)) (old middle new : Stage B D) → Lives shape (traits_of proper said class) state old one middle → Lives shape (traits_of proper said class) state middle other new
      → Lives shape (traits_of proper said class) state old (one ++ other) new
  lives_joined [] other old middle new same next = subst (λ (x : Stage B D). Lives shape (traits_of proper said class) state x other new) same next
  lives_joined (turn ∷ one) other old middle new (first, on, rest) next = (first, on, lives_joined one other first middle new rest next)

  abbrev Reading : Parts B D → Parts B D → Type 0
  Reading = LivesByReading shape (traits_of proper said class) state

  abbrev brings : ℕ → Parts B D → Result (Unit {0}) (Outcome B) → Parts B D → Type 0
  brings page old result new = Brings shape (traits_of proper said class) state page old result new

  abbrev helps : Need → Parts B D → Outcome B → Parts B D → Type 0
  helps = Helps shape (traits_of proper said class) state

  -- a page that is brought, and an event that gives one a frame, are readings
  pub page_read : (page : ℕ) (old : Parts B D) (result : Result (Unit {0}) (Outcome B)) (new : Parts B D) → brings page old result new
      → IsReading shape (traits_of proper said class) state old new
  page_read page old result new is l bodies i holds = (bring_events result, brought_upkeep result, is.leads l bodies i holds)

  help_read : (named : Need) (old : Parts B D) (outcome : Outcome B) (new : Parts B D) → helps named old outcome new → IsReading shape (traits_of proper said class) state old new
  help_read named old outcome new is l bodies i holds =
      let one = is.spares l bodies i holds in (one.0, sync_upkeep old.sessions.failed outcome one.0 one.1, one.2.led)

  one_reading : (old new : Parts B D) → IsReading shape (traits_of proper said class) state old new → Reading old new
  one_reading old new reading = record { turns = life.Reads ∷ []; reads = tt; lives = (Works new, reading, refl) }

  no_reading : (old new : Parts B D) → new ≡ old → Reading old new
  no_reading old new same = record { turns = []; reads = tt; lives = ap (λ (e : Parts B D). Works e) same }

  readings_joined : (old middle new : Parts B D) → Reading old middle → Reading middle new → Reading old new
  readings_joined old middle new first next = record {
    turns = first.turns ++ next.turns;
    reads = reads_joined first.turns next.turns first.reads next.reads;
    lives = lives_joined first.turns next.turns (Works old) (Works middle) (Works new) first.lives next.lives;
  }

  all_read : (result : Result (Unit {0}) Stop) (old new : Parts B D) → IsRead brings helps old result new → Reading old new
  all_read =
      read_so brings helps Reading (λ e. no_reading e e refl) readings_joined
      (λ page named old new is. one_reading old new (page_read page old (Err (Help named)) new is))
      (λ page old new is. one_reading old new (page_read page old (Ok tt) new is))
      (λ named outcome old new made is. one_reading old new (help_read named old outcome new is))
      Reading (λ old new is. is) readings_joined
      (λ page why old new is. one_reading old new (page_read page old (Err (Refused why)) new is))
      (λ named why old new is. one_reading old new (help_read named old (Refused why) new is))

  dump_by : (ended : Bool) (old : State B D) (result : Result (Unit {0}) DumpFault) (new : State B D) → DumpsBy brings helps ended old result new → Reading old.engine new.engine
  dump_by true old result new same = no_reading old.engine new.engine (ap (λ (i : State B D). i.engine) same.1)
  dump_by false old (Ok done) new on = all_read (Ok tt) old.engine new.engine on.0
  dump_by false old (Err fault.Write) new on = all_read (Err stop.Write) old.engine new.engine on.0
  dump_by false old (Err (fault.Refused why)) new (inl on) = all_read (Err (stop.Refused why)) old.engine new.engine on.0
  dump_by false old (Err (fault.Refused why)) new (inr on) = all_read (Err stop.GivenUp) old.engine new.engine on.0

  pub dump_so : (old : State B D) (result : Result (Unit {0}) DumpFault) (new : State B D) → Dumps brings helps old result new → Reading old.engine new.engine
  dump_so old result new dumps = dump_by old.ended old result new dumps
