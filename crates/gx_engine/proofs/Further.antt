-- A move that goes on, and what comes in the same move: the root is read as a look begins, and the last page's look is the answer.
use Rattle.std.proofs.Common.{◌≡◌, ◌∙◌, sym, refl, subst, inl, inr, ℕ, ◌-◌, ◌≤◌, Bool, true, false, List, [], ◌∷◌, arith}
use Rattle.gx_machine.specs.declared.entry.Entry.{Entry}
use Rattle.gx_machine.specs.declared.call.Call.{Call}
use Rattle.gx_machine.specs.declared.reply.Reply.{Reply}
use Rattle.gx_machine.specs.Keys.{Keys}
use Rattle.gx_machine.specs.Machine.{is_session}
use Rattle.gx_disk.specs.Device.{Device}
use Rattle.gx_disk.proofs.Leaving.{leaves_joined}
use Rattle.gx_disk.specs.Moments.{Leaves}
use Rattle.gx_disk.specs.declared.layout.TheConstants.{MAX_PAGES}
use Rattle.gx_page.specs.Contents.{Contents}
use Rattle.gx_node.specs.Reading.{Format}
use Rattle.gx_tree.specs.declared.look.Look.{Look}
use Rattle.gx_recovery.specs.Records.{Record}
use Rattle.gx_recovery.specs.Logged.{Logged}
use Rattle.gx_events.specs.Engines.{IsSame}
use Rattle.gx_events.specs.Happenings.{Happening, Works}
use Rattle.gx_events.proofs.EventRuns.{run_follows}
use Rattle.gx_index_laws.specs.Classes.{Class, IsLawful, Page, known_of}
use Rattle.gx_index_laws.specs.Happening.{Happens}
use Rattle.gx_index_laws.specs.States as index
use Rattle.gx_index_laws.specs.States.{engine_of}
use Rattle.gx_index_laws.specs.Whole.{IsWhole}
use Rattle.gx_durable.specs.Spelled.{Reading}
use Rattle.gx_durable.specs.Standing.{Stands}
use Rattle.gx_events.specs.declared.outcome.Outcome.{Outcome}
use Rattle.gx_events.specs.declared.outcome.Outcome.TheVariants.{Replied, More}
use Rattle.gx_events.specs.Steps.{IsJust}
use Rattle.gx_phases.specs.declared.phase.Phase.TheVariants as phase
use Rattle.gx_phases.specs.States.{State, IsKept, phase_at, with_phase_of}
use Rattle.gx_engine.specs.declared.work.Work.{Work}
use Rattle.gx_engine.specs.declared.work.Work.TheVariants.{Looks, Rests}
use Rattle.gx_engine.specs.Holds.{Holds, MayHaveFound}
use Rattle.gx_engine.specs.Looks.{IsFirst, IsFirstUnless, Reaches, work_before}
use Rattle.gx_engine.specs.Moves.{Moved, Moves, MovesOn, MovesSo, calling}
use Rattle.gx_engine.specs.States.{Parts}
use Rattle.gx_engine.specs.Writes.{brought}
use Rattle.gx_engine.proofs.LookMoves.{at_work, begins_moves, phase_again, put_kept}
use Rattle.gx_engine.proofs.AtWork.{read_is, same_again}

-- work that decides nothing, twice, is such work
pub works_joined : {B : Type 0} (c : Class B) → IsLawful c → (old mid new : index.State B) → IsWhole c old → Happens c old Works mid → Happens c mid Works new → Happens c old Works new
works_joined c l old mid new w first second =
    let one : IsSame (engine_of c mid) (engine_of c old) = first.is_event in
    let two : IsSame (engine_of c new) (engine_of c mid) = second.is_event in
    let both : IsSame (engine_of c new) (engine_of c old) =
    record { live = λ e. two.live e ∙ one.live e; slots = two.slots ∙ one.slots; older = two.older ∙ one.older; oldest = two.oldest ∙ one.oldest; failed = two.failed ∙ one.failed } in
    record {
      is_event = both;
      steps = λ m seen. run_follows c.keys l.keys (Works ∷ []) (engine_of c old) (engine_of c new) m w.sound seen (engine_of c new, both, refl);
      whole = second.whole;
    }

-- A move that goes on and leaves the log's state, and what comes then.
module _ {B D : Type 0} (c : Class B) (lawful : 4 ≤ c.rules.most → IsLawful c) (r : Reading (Entry B) (Page B)) (f : Format B) (passes : ℕ → Contents → Bool)
    (d m e : Device) (s : ℕ) (old mid new : Parts B D) where
  module _ (bodies : List (List (Record (Entry B) (Page B)))) (i : index.State B) (h : Holds c r f passes d old bodies i)
      (one : Moved c r f passes d m s old mid More i (Works ∷ [])) (same : one.led.index.log ≡ i.log) where
    works_there : Happens c i Works one.led.index
    works_there = subst (λ (x : index.State B). Happens c i Works x) (sym one.led.happening.2) one.led.happening.1

    leaves_so : Leaves (Stands (known_of c) r one.led.index.log) m e → Leaves (Stands (known_of c) r i.log) d e
    leaves_so then =
        leaves_joined (Stands (known_of c) r i.log) d m e one.led.leaves
        (subst (λ (x : Logged (Entry B) (Page B)). Leaves (Stands (known_of c) r x) m e) same then)

    more_joined : Moved c r f passes m e s mid new More one.led.index (Works ∷ []) → Moved c r f passes d e s old new More i (Works ∷ [])
    more_joined two = record {
      led = record {
        bodies = two.led.bodies;
        index = two.led.index;
        happening = (
          two.led.index,
          works_joined c (lawful h.some) i one.led.index two.led.index h.whole works_there
              (subst (λ (x : index.State B). Happens c one.led.index Works x) (sym two.led.happening.2) two.led.happening.1),
          refl,
        );
        holds = two.led.holds;
        leaves = leaves_so two.led.leaves;
      };
      lowers = (let first = one.lowers in let next = two.lowers in omega (arith, first, next));
    }

    reply_joined : (reply : Reply B) (event : Happening B) → Moved c r f passes m e s mid new (Replied reply) one.led.index (event ∷ [])
        → Moved c r f passes d e s old new (Replied reply) i (Works ∷ event ∷ [])
    reply_joined reply event two = record {
      led = record {
        bodies = two.led.bodies;
        index = two.led.index;
        happening = (one.led.index, works_there, two.led.happening);
        holds = two.led.holds;
        leaves = leaves_so two.led.leaves;
      };
      lowers = tt;
    }

  pub then_on : MovesOn c r f passes d m s old mid → MovesOn c r f passes m e s mid new → MovesOn c r f passes d e s old new
  unfolding more_joined
  then_on first next bodies i h =
      let one = first bodies i h in
      let two = next one.0.led.bodies one.0.led.index one.0.led.holds in
      (more_joined bodies i h one.0 one.1 two.0, two.1 ∙ one.1)

  pub then_more : MovesOn c r f passes d m s old mid → Moves c r f passes m e s mid new More (Works ∷ []) → Moves c r f passes d e s old new More (Works ∷ [])
  then_more first next bodies i h =
      let one = first bodies i h in
      more_joined bodies i h one.0 one.1 (next one.0.led.bodies one.0.led.index one.0.led.holds)

  pub then_replies : MovesOn c r f passes d m s old mid → (reply : Reply B) (event : Happening B) → Moves c r f passes m e s mid new (Replied reply) (event ∷ [])
      → Moves c r f passes d e s old new (Replied reply) (Works ∷ event ∷ [])
  then_replies first reply event next bodies i h =
      let one = first bodies i h in
      reply_joined bodies i h one.0 one.1 reply event (next one.0.led.bodies one.0.led.index one.0.led.holds)

-- The same if the engine held the look that is at hand, or has read a page for it.
module _ {B D : Type 0} (c : Class B) (lawful : 4 ≤ c.rules.most → IsLawful c) (r : Reading (Entry B) (Page B)) (f : Format B) (passes : ℕ → Contents → Bool)
    (state : D → Device) (e : Device) (s : ℕ) (old mid new : Parts B D) where
  abbrev was : Device
  was = state old.volume.shelf.disk

  pub reached_more : Reaches c r f passes state s old mid → Moves c r f passes (state mid.volume.shelf.disk) e s mid new More (Works ∷ []) → Moves c r f passes was e s old new More (Works ∷ [])
  reached_more (inl same) next = subst (λ (x : Parts B D). Moves c r f passes (state x.volume.shelf.disk) e s x new More (Works ∷ [])) (sym same) next
  reached_more (inr on) next = then_more c lawful r f passes was (state mid.volume.shelf.disk) e s old mid new on next

  pub reached_reply : Reaches c r f passes state s old mid → (reply : Reply B) (event : Happening B) → Moves c r f passes (state mid.volume.shelf.disk) e s mid new (Replied reply) (event ∷ [])
      → MovesSo c r f passes was e s old new (Replied reply) (IsJust event)
  reached_reply (inl same) reply event next bodies i h =
      (event ∷ [], inl refl, subst (λ (x : Parts B D). Moves c r f passes (state x.volume.shelf.disk) e s x new (Replied reply) (event ∷ [])) (sym same) next bodies i h)
  reached_reply (inr on) reply event next bodies i h =
      (Works ∷ event ∷ [], inr refl, then_replies c lawful r f passes was (state mid.volume.shelf.disk) e s old mid new on reply event next bodies i h)

-- A look that is at hand, of a call that may not have begun.
module _ {B D : Type 0} (c : Class B) (lawful : 4 ≤ c.rules.most → IsLawful c) (r : Reading (Entry B) (Page B)) (f : Format B) (passes : ℕ → Contents → Bool)
    (d : Device) (e : Parts B D) (kept : IsKept c.keys e.sessions) (s : ℕ) (is : is_session s ≡ true) (call : Call B) (rest : Work B)
    (at : phase_at (s - 1) e.sessions.phases ≡ phase.Open call rest) (look : Look B) (may : MayHaveFound call []) (small : e.volume.shelf.pages ≤ MAX_PAGES) (few : e.volume.most ≤ 100) where
  abbrev rested : Parts B D
  rested = calling s call Rests e

  begun_on : IsFirst e look → MovesOn c r f passes d d s rested (calling s call (Looks look) e)
  begun_on first =
      subst (λ (x : State B (Work B)). MovesOn c r f passes d d s rested (record e { sessions = x }))
      (phase_again c.keys e kept s is call rest at Rests (phase.Open call (Looks look)))
      (begins_moves c lawful r f passes d rested (put_kept c.keys e kept s is call rest at Rests) s is call Rests (at_work c.keys e kept s is call rest at Rests)
      refl may small few look first.0 first.1)

  -- what it goes on to from the look it goes on to from what it was at
  pub hand_on : (begun : Bool) → IsFirstUnless begun e look → (m : Device) (new : Parts B D) → MovesOn c r f passes d m s (calling s call (Looks look) e) new
      → MovesOn c r f passes d m s (calling s call (work_before begun look) e) new
  hand_on true first m new on = on
  hand_on false first m new on = then_on c lawful r f passes d d m s rested (calling s call (Looks look) e) new (begun_on first) on

  -- what no engine at the look holds, none at what it was holds
  pub none_at_hand : (begun : Bool) → IsFirstUnless begun e look → ((bodies : List (List (Record (Entry B) (Page B)))) (i : index.State B) → Holds c r f passes d (calling s call (Looks look) e) bodies i → ⊥)
      → (m : Device) (new : Parts B D) (outcome : Outcome B) (events : List (Happening B)) → Moves c r f passes d m s (calling s call (work_before begun look) e) new outcome events
  none_at_hand true first none m new outcome events bodies i h = absurd (none bodies i h)
  none_at_hand false first none m new outcome events bodies i h =
      let one = begun_on first bodies i h in
      absurd (none one.0.led.bodies one.0.led.index one.0.led.holds)

-- a look that read a page, in its session
pub read_there : {B D : Type 0} (c : Class B) (r : Reading (Entry B) (Page B)) (f : Format B) (passes : ℕ → Contents → Bool) (d m : Device) (s : ℕ) (call : Call B) (work : Work B) (old e there : Parts B D)
    → there ≡ calling s call work (brought e there) → MovesOn c r f passes d m s old (calling s call work (record e { volume = there.volume })) → MovesOn c r f passes d m s old there
read_there c r f passes d m s call work old e there only on = subst (λ (x : Parts _ _). MovesOn c r f passes d m s old x) (sym (read_is s call work e there only)) on

-- and turned then
pub turned_there : {B D : Type 0} (c : Class B) (r : Reading (Entry B) (Page B)) (f : Format B) (passes : ℕ → Contents → Bool) (d : Device) (state : D → Device) (s : ℕ) (call : Call B) (was work : Work B)
    (old e mid new : Parts B D) → mid ≡ calling s call was (brought e mid) → new ≡ calling s call work mid
    → MovesOn c r f passes d (state mid.volume.shelf.disk) s old (calling s call work (record e { volume = mid.volume })) → MovesOn c r f passes d (state new.volume.shelf.disk) s old new
turned_there {B} {D} c r f passes d state s call was work old e mid new only turned on =
    subst (λ (x : Parts B D). MovesOn c r f passes d (state x.volume.shelf.disk) s old x) (sym (turned ∙ same_again s call work was e mid only)) on

-- what is said of an engine is said of the same
pub moves_as : {B D : Type 0} {new : Parts B D} {outcome : Outcome B} {events : List (Happening B)} (c : Class B) (r : Reading (Entry B) (Page B)) (f : Format B) (passes : ℕ → Contents → Bool) (d e : Device) (s : ℕ)
    (was old : Parts B D) → was ≡ old → Moves c r f passes d e s was new outcome events → Moves c r f passes d e s old new outcome events
moves_as {B} {D} {new} {outcome} {events} c r f passes d e s was old is moves = subst (λ (x : Parts B D). Moves c r f passes d e s x new outcome events) is moves

pub on_as : {B D : Type 0} {new : Parts B D} (c : Class B) (r : Reading (Entry B) (Page B)) (f : Format B) (passes : ℕ → Contents → Bool) (d e : Device) (s : ℕ)
    (was old : Parts B D) → was ≡ old → MovesOn c r f passes d e s was new → MovesOn c r f passes d e s old new
on_as {B} {D} {new} c r f passes d e s was old is on = subst (λ (x : Parts B D). MovesOn c r f passes d e s x new) is on
