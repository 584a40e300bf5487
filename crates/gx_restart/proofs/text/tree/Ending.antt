-- A dump over an engine that holds an index comes to its end: each turn leaves less to flush.
use Rattle.std.proofs.Common.{◌≡◌, inl, inr, ℕ, suc, ◌<◌, ◌≤◌, Bool, true, false, List, [], ◌∷◌, length, subst, arith}
use Rattle.std.specs.Prelude.{Result, Ok, Err, IfErr}
use Rattle.gx_geom.specs.declared.refusal.Refusal.{Refusal}
use Rattle.gx_class.specs.Traits.{traits_of}
use Rattle.gx_class.specs.declared.class.KeyClass.{Ghosts}
use Rattle.gx_disk.specs.Device.{Device}
use Rattle.gx_machine.specs.declared.entry.Entry.{Entry}
use Rattle.gx_machine.specs.Keys.{Members}
use Rattle.gx_page.specs.Contents.{Contents}
use Rattle.gx_recovery.specs.Known.{Limits}
use Rattle.gx_recovery.specs.Records.{Record}
use Rattle.gx_index_laws.specs.Classes.{Page}
use Rattle.gx_index_laws.specs.States as index
use Rattle.gx_events.specs.declared.outcome.Need.{Need}
use Rattle.gx_events.specs.declared.outcome.Outcome.{Outcome}
use Rattle.gx_events.specs.declared.outcome.Outcome.TheVariants.{Help, Refused}
use Rattle.gx_engine.specs.Lending.{BringPageComes}
use Rattle.gx_engine.specs.States.{IsOrderly, Parts}
use Rattle.gx_engine.specs.Sweeping.{BringComes}
use Rattle.gx_engine.specs.Backlog.{backlog}
use Rattle.gx_engine.specs.Helping.{DoesWork, HasWork, HelpComes, HoldsIndex, PageNamesWork}
use Rattle.gx_restart.specs.declared.text.stop.Stop.{Stop}
use Rattle.gx_restart.specs.declared.text.stop.Stop.TheVariants as stop
use Rattle.gx_restart.specs.Bringing.{AreTurns, HasTurned, IsMade, IsRead, IsTurn}
use Rattle.gx_restart.specs.Reading.{IsNotGivenUp}
use Rattle.gx_restart.proofs.Bringing.{all_read, brings, helps}

-- a page that waits was to be brought by an engine that hasn't failed
waited : {B D : Type 0} (passes : ℕ → Contents → Bool) (d e : Device) (old new : Parts B D) (n : Need) (failed : Bool) → BringPageComes {A = Unit {0}} passes d e old new failed (Err (Help n))
    → BringComes {A = Unit {0}} passes d e old new (Err (Help n))
waited passes d e old new n true comes = let refused = comes.0 in let no : ⊥ = cc in absurd no
waited passes d e old new n false comes = comes

not_made : {B : Type 0} (given : Outcome B) (why : Refusal) → given ≡ Refused why → IsMade given → ⊥
not_made given why is made = subst IsMade is made

-- what was written or not, but wasn't given up
pub only_write : (A : Type 0) (result : Result (Unit {0}) Stop) → IfErr result (λ e. (e ≡ stop.Write) × A) → IsNotGivenUp result
only_write A (Ok done) is = tt
only_write A (Err stop.Write) is = tt
only_write A (Err (stop.Refused why)) is = tt
only_write A (Err stop.GivenUp) is = let writes = is.0 in let no : ⊥ = cc in absurd no

module _ {C B D : Type 0} (shape : Members B) (proper : B → Bool) (said : List ℕ → B) (class : Ghosts C B) (state : D → Device) (l : Limits)
    (names : PageNamesWork shape (traits_of proper said class) state l)
    (works : (old new : Parts B D) (n : Need) (given : Outcome B) → HasWork n old → HelpComes (state old.volume.shelf.disk) (state new.volume.shelf.disk) n old new given → DoesWork given old new)
    (few : (e : Parts B D) → IsOrderly e → backlog e < 8192) where
  abbrev bringing : ℕ → Parts B D → Result (Unit {0}) (Outcome B) → Parts B D → Type 0
  bringing = brings shape proper said class state

  abbrev helping : Need → Parts B D → Outcome B → Parts B D → Type 0
  helping = helps shape proper said class state

  -- an engine holds an index
  record Held (e : Parts B D) : Type 0 where
    bodies : List (List (Record (Entry B) (Page B)))
    is : index.State B
    holds : HoldsIndex shape (traits_of proper said class) state l e bodies is

  turn_less : (page : ℕ) (old new : Parts B D) → IsTurn (bringing page) helping old new → Held old → Held new × (backlog new < backlog old)
  turn_less page old new turn held =
      let led = turn.waits.leads l held.bodies held.is held.holds in
      let named =
      names old turn.middle turn.named led.bodies led.index led.holds turn.waits.order.0 turn.waits.order.1 (waited _ _ _ old turn.middle turn.named old.sessions.failed turn.waits.comes)
      in
      let spared = (turn.helped.spares l led.bodies led.index led.holds).2.led in
      let no_more = named.1 in
      let less : backlog new < backlog turn.middle = elim (works turn.middle new turn.named turn.outcome named.0 turn.helped.comes) [
        | inl did ↦ did.1
        | inr refused ↦ absurd (not_made turn.outcome refused.0 refused.1 turn.made)
      ] in
      (record { bodies = spared.bodies; is = spared.index; holds = spared.holds }, omega (arith, less, no_more))

  turns_few : (page : ℕ) (engines : List (Parts B D)) (old new : Parts B D) → AreTurns (bringing page) helping old engines new → Held old → length engines ≤ backlog old
  turns_few page [] old new turns held = omega arith
  turns_few page (middle ∷ engines) old new turns held =
      let one = turn_less page old middle turns.0 held in
      let less = one.1 in
      let rest = turns_few page engines middle new turns.1 one.0 in
      omega (arith, less, rest)

  few_turns : (page : ℕ) (engines : List (Parts B D)) (old new : Parts B D) → AreTurns (bringing page) helping old engines new → Held old → length engines < 8192
  few_turns page [] old new turns held = omega arith
  few_turns page (middle ∷ engines) old new turns held =
      let all = turns_few page (middle ∷ engines) old new turns held in
      let bound = few old turns.0.waits.order.0 in
      omega (arith, all, bound)

  never_turned : (page : ℕ) (old new : Parts B D) → HasTurned (bringing page) helping old 72057594037927936 new → Held old → ⊥
  never_turned page old new turned held =
      let bound = few_turns page turned.engines old new turned.turns held in
      let many = turned.many in
      omega (arith, bound, many)

  pub read_ends : (result : Result (Unit {0}) Stop) (old new : Parts B D) → IsRead bringing helping old result new → (bodies : List (List (Record (Entry B) (Page B)))) (i : index.State B)
      → HoldsIndex shape (traits_of proper said class) state l old bodies i → IsNotGivenUp result
  read_ends (Ok done) old new read bodies i holds = tt
  read_ends (Err stop.Write) old new read bodies i holds = tt
  read_ends (Err (stop.Refused why)) old new read bodies i holds = tt
  read_ends (Err stop.GivenUp) old new to bodies i holds =
      let ran = (all_read shape proper said class state l to.count old to.middle to.brought bodies i holds).ran in
      never_turned (suc to.count) to.middle new to.next (record { bodies = ran.bodies; is = ran.index; holds = ran.holds })
