-- What bringing pages keeps: the sessions, how many pages are taken, and the tree.
use Rattle.std.proofs.Common.{◌≡◌, inl, inr, ℕ, zero, suc, ◌+◌, Bool, true, false, List, [], ◌∷◌, ◌++◌, length-append, refl, ap, sym, ◌∙◌, subst}
use Rattle.std.specs.Prelude.{Result, Ok, Err}
use Rattle.gx_geom.specs.declared.refusal.Refusal.{Refusal}
use Rattle.gx_class.specs.Traits.{traits_of}
use Rattle.gx_class.specs.declared.class.KeyClass.{Ghosts}
use Rattle.gx_disk.specs.Device.{Device}
use Rattle.gx_machine.specs.Keys.{Members}
use Rattle.gx_page.specs.Contents.{Contents}
use Rattle.gx_node.specs.Reading.{format_of, is_node}
use Rattle.gx_recovery.specs.Known.{Limits}
use Rattle.gx_durable.specs.Classes.{class_of, reading_of}
use Rattle.gx_store.specs.Standing.{standing_node}
use Rattle.gx_store.proofs.Listed.{nodes_long}
use Rattle.gx_events.specs.declared.outcome.Need.{Need}
use Rattle.gx_events.specs.declared.outcome.Need.TheVariants as need
use Rattle.gx_events.specs.declared.outcome.Outcome.{Outcome}
use Rattle.gx_events.specs.declared.outcome.Outcome.TheVariants.{Replied, More, Help, Nothing, Refused}
use Rattle.gx_events.specs.Happenings as laws
use Rattle.gx_events.specs.Steps.{IsSync, IsWork}
use Rattle.gx_engine.specs.declared.checkpoint.Checkpoint.{Checkpoint}
use Rattle.gx_engine.specs.declared.checkpoint.Checkpoint.TheVariants.{Off, Running, Turning}
use Rattle.gx_engine.specs.Checkpoints.{CheckpointSteps, HeadComes, RunsOn, StepsFrom, StepsOff, SyncComes}
use Rattle.gx_engine.specs.Flushing.{LogSteps, PageIsWritten}
use Rattle.gx_engine.specs.Holds.{Leads}
use Rattle.gx_engine.specs.Lending.{BringPageComes}
use Rattle.gx_engine.specs.States.{Parts, runs}
use Rattle.gx_engine.specs.Sweeping.{BringComes}
use Rattle.gx_engine.specs.Resting.{KeepsSessions}
use Rattle.gx_engine.proofs.Resting.{checkpoint_keeps, keeps_all, keeps_joined, log_steps_keep, page_keeps}
use Rattle.gx_restart.specs.declared.text.stop.Stop.{Stop}
use Rattle.gx_restart.specs.declared.text.stop.Stop.TheVariants as stop
use Rattle.gx_engine.specs.Helping.{HelpComes}
use Rattle.gx_restart.specs.Bringing.{AreBrought, AreTurns, Brings, HasTurned, Helps, IsBrought, IsMade, IsRead, IsRefused, IsTurn}
use Rattle.gx_restart.specs.Reading.{Reads, Runs}
use Rattle.gx_restart.proofs.Reading.{leads_read, leads_run, nothing_read, read_joined, read_runs, run_joined, spares_read}

-- work is an event by which commits may become durable
pub work_sync : {B : Type 0} (failed : Bool) (outcome : Outcome B) (events : List (laws.Happening B)) → IsWork failed outcome events → IsSync failed outcome events
work_sync failed More events is = (is.0, inr (inl is.1))
work_sync failed (Replied r) events is = is
work_sync failed (Help named) events is = is
work_sync failed Nothing events is = is
work_sync failed (Refused why) events is = is

-- Turns, one more at a time.
module _ {B D : Type 0} (brings : Parts B D → Result (Unit {0}) (Outcome B) → Parts B D → Type 0) (helps : Need → Parts B D → Outcome B → Parts B D → Type 0) where
  turns_more : (engines : List (Parts B D)) (old middle new : Parts B D) → AreTurns brings helps old engines middle → IsTurn brings helps middle new
      → AreTurns brings helps old (engines ++ new ∷ []) new
  turns_more [] old middle new same turn = (subst (λ (x : Parts B D). IsTurn brings helps x new) same turn, refl)
  turns_more (first ∷ engines) old middle new turns turn = (turns.0, turns_more engines first middle new turns.1 turn)

  pub turned_first : (old : Parts B D) → HasTurned brings helps old 0 old
  turned_first old = record { engines = []; turns = refl; many = refl }

  pub turned_more : (old : Parts B D) (count : ℕ) (middle new : Parts B D) → HasTurned brings helps old count middle → IsTurn brings helps middle new → HasTurned brings helps old (count + 1) new
  turned_more old count middle new turned turn = record {
    engines = turned.engines ++ new ∷ [];
    turns = turns_more turned.engines old middle new turned.turns turn;
    many = length-append turned.engines (new ∷ []) ∙ ap (λ n. n + 1) turned.many;
  }

-- Something that holds of an engine with itself, from one to the next and on, and of whatever is made when pages are brought and nothing
-- is refused.
module _ {B D : Type 0} (brings : ℕ → Parts B D → Result (Unit {0}) (Outcome B) → Parts B D → Type 0) (helps : Need → Parts B D → Outcome B → Parts B D → Type 0)
    (R : Parts B D → Parts B D → Type 0) (itself : (e : Parts B D) → R e e) (joined : (old middle new : Parts B D) → R old middle → R middle new → R old new)
    (waits : (page : ℕ) (named : Need) (old new : Parts B D) → brings page old (Err (Help named)) new → R old new)
    (comes : (page : ℕ) (old new : Parts B D) → brings page old (Ok tt) new → R old new)
    (helped : (named : Need) (outcome : Outcome B) (old new : Parts B D) → IsMade outcome → helps named old outcome new → R old new) where
  turn_so : (page : ℕ) (old new : Parts B D) → IsTurn (brings page) helps old new → R old new
  turn_so page old new turn = joined old turn.middle new (waits page turn.named old turn.middle turn.waits) (helped turn.named turn.outcome turn.middle new turn.made turn.helped)

  turns_so : (page : ℕ) (engines : List (Parts B D)) (old new : Parts B D) → AreTurns (brings page) helps old engines new → R old new
  turns_so page [] old new same = subst (λ (x : Parts B D). R old x) (sym same) (itself old)
  turns_so page (middle ∷ engines) old new turns = joined old middle new (turn_so page old middle turns.0) (turns_so page engines middle new turns.1)

  pub turned_so : (page : ℕ) (old : Parts B D) (count : ℕ) (new : Parts B D) → HasTurned (brings page) helps old count new → R old new
  turned_so page old count new turned = turns_so page turned.engines old new turned.turns

  pub brought_so : (page : ℕ) (old new : Parts B D) → IsBrought (brings page) helps old (Ok tt) new → R old new
  brought_so page old new brought = joined old brought.middle new (turned_so page old brought.count brought.middle brought.turned) (comes page brought.middle new brought.last)

  pub all_so : (n : ℕ) (old new : Parts B D) → AreBrought brings helps old n new → R old new
  all_so zero old new same = subst (λ (x : Parts B D). R old x) (sym same) (itself old)
  all_so (suc n) old new brought = joined old brought.0 new (all_so n old brought.0 brought.1) (brought_so (suc n) brought.0 new brought.2)

  -- and then something weaker, which holds of what is refused too
  module _ (Q : Parts B D → Parts B D → Type 0) (weaker : (old new : Parts B D) → R old new → Q old new) (then : (old middle new : Parts B D) → R old middle → Q middle new → Q old new)
      (fails : (page : ℕ) (why : Refusal) (old new : Parts B D) → brings page old (Err (Refused why)) new → Q old new)
      (unhelped : (named : Need) (why : Refusal) (old new : Parts B D) → helps named old (Refused why) new → Q old new) where
    refused_so : (page : ℕ) (why : Refusal) (old new : Parts B D) → IsRefused (brings page) helps old why new → Q old new
    refused_so page why old new (inl refused) = fails page why old new refused
    refused_so page why old new (inr u) = then old u.middle new (waits page u.named old u.middle u.waits) (unhelped u.named why u.middle new u.refused)

    pub any_so : (page : ℕ) (result : Result (Unit {0}) Stop) (old new : Parts B D) → IsBrought (brings page) helps old result new → Q old new
    any_so page (Ok done) old new brought = weaker old new (brought_so page old new brought)
    any_so page (Err stop.Write) old new brought = absurd brought
    any_so page (Err (stop.Refused why)) old new after =
        then old after.middle new (turned_so page old after.count after.middle after.turned) (refused_so page why after.middle new after.last)
    any_so page (Err stop.GivenUp) old new turned = weaker old new (turned_so page old _ new turned)

    pub read_so : (result : Result (Unit {0}) Stop) (old new : Parts B D) → IsRead brings helps old result new → Q old new
    read_so (Ok done) old new brought = weaker old new (all_so old.volume.shelf.used old new brought)
    read_so (Err stop.Write) old new some = weaker old new (all_so some.0 old new some.2)
    read_so (Err (stop.Refused why)) old new to =
        then old to.middle new (all_so to.count old to.middle to.brought) (any_so (suc to.count) (Err (stop.Refused why)) to.middle new to.next)
    read_so (Err stop.GivenUp) old new to =
        then old to.middle new (all_so to.count old to.middle to.brought) (any_so (suc to.count) (Err stop.GivenUp) to.middle new to.next)

-- How many pages are taken.
module _ {B D : Type 0} where
  abbrev pub SameUsed : Parts B D → Parts B D → Type 0
  SameUsed old new = new.volume.shelf.used ≡ old.volume.shelf.used

  used_of : Parts B D → ℕ
  used_of e = e.volume.shelf.used

  pub as_used : (old new other : Parts B D) → new ≡ other → SameUsed old other → SameUsed old new
  as_used old new other same used = ap (λ (e : Parts B D). e.volume.shelf.used) same ∙ used

  pub page_used : (page : ℕ) (d e : Device) (old new : Parts B D) (failed : Bool) (outcome : Outcome B) → PageIsWritten page d e old new failed outcome → SameUsed old new
  page_used page d e old new true outcome comes = as_used old new old comes.1 refl
  page_used page d e old new false outcome comes = ap (λ v. v.shelf.used) comes.1.only

  pub log_used : (d e : Device) (old new : Parts B D) (failed running : Bool) (outcome : Outcome B) → LogSteps d e old new failed running outcome → SameUsed old new
  log_used d e old new true running outcome comes = as_used old new old comes.1 refl
  log_used d e old new false true outcome comes = as_used old new old comes.1 refl
  log_used d e old new false false outcome comes = ap (λ v. v.shelf.used) comes.1.only

  head_used : (old new : Parts B D) (outcome : Outcome B) (put : _) → HeadComes old new outcome put → SameUsed old new
  head_used old new outcome (Ok done) comes = as_used old new _ comes.1 refl
  head_used old new outcome (Err fault) comes = as_used old new _ comes.1 refl

  sync_used : (old new : Parts B D) (outcome : Outcome B) (result : _) → SyncComes old new outcome result → SameUsed old new
  sync_used old new outcome (Ok done) comes = head_used old new outcome comes.0 comes.1
  sync_used old new outcome (Err why) comes = as_used old new _ comes.1 refl

  runs_used : (d e : Device) (old new : Parts B D) (outcome : Outcome B) → RunsOn d e old new outcome → SameUsed old new
  runs_used d e old new outcome (inl gates) = ap (λ v. v.shelf.used) gates.goes.only
  runs_used d e old new outcome (inr (inl (inl writes))) = page_used writes.page d e old new false outcome writes.writes
  runs_used d e old new outcome (inr (inl (inr none))) = as_used old new _ none.broken.1 refl
  runs_used d e old new outcome (inr (inr begins)) = sync_used old new outcome begins.result begins.comes

  off_used : (d e : Device) (old new : Parts B D) (due : Bool) (outcome : Outcome B) → StepsOff d e old new due outcome → SameUsed old new
  off_used d e old new false outcome comes = as_used old new old comes.1 refl
  off_used d e old new true outcome comes = runs_used d e (record old { checkpoint = Running }) new outcome comes

  from_used : (d e : Device) (old new : Parts B D) (at : Checkpoint) (outcome : Outcome B) → StepsFrom d e old new at outcome → SameUsed old new
  from_used d e old new Off outcome comes = off_used d e old new _ outcome comes
  from_used d e old new Running outcome comes = runs_used d e old new outcome comes
  from_used d e old new Turning outcome comes = ap (λ v. v.shelf.used) comes.only

  pub checkpoint_used : (d e : Device) (old new : Parts B D) (failed : Bool) (outcome : Outcome B) → CheckpointSteps d e old new failed outcome → SameUsed old new
  checkpoint_used d e old new true outcome comes = as_used old new old comes.1 refl
  checkpoint_used d e old new false outcome comes = from_used d e old new old.checkpoint outcome comes

  help_used : (d e : Device) (named : Need) (old new : Parts B D) (outcome : Outcome B) → HelpComes d e named old new outcome → SameUsed old new
  help_used d e need.Log old new outcome comes = log_used d e old new old.sessions.failed (runs old.checkpoint) outcome comes
  help_used d e (need.Write page) old new outcome comes = page_used page d e old new old.sessions.failed outcome comes
  help_used d e need.Checkpoint old new outcome comes = checkpoint_used d e old new old.sessions.failed outcome comes

-- The sessions.
module _ {B D : Type 0} where
  abbrev as_kept : (old new other : Parts B D) → new ≡ other → KeepsSessions old other → KeepsSessions old new
  as_kept old new other same keeps = subst (λ (x : Parts B D). KeepsSessions old x) (sym same) keeps

  brought_keeps : (passes : ℕ → Contents → Bool) (d e : Device) (old new : Parts B D) (result : Result (Unit {0}) (Outcome B)) → BringComes passes d e old new result → KeepsSessions old new
  brought_keeps passes d e old new (Ok done) comes = as_kept old new _ comes refl
  brought_keeps passes d e old new (Err (Help named)) comes = as_kept old new _ comes.1 refl
  brought_keeps passes d e old new (Err (Refused why)) comes = as_kept old new _ comes.1 refl
  brought_keeps passes d e old new (Err (Replied reply)) comes = absurd comes
  brought_keeps passes d e old new (Err More) comes = absurd comes
  brought_keeps passes d e old new (Err Nothing) comes = absurd comes

  bring_keeps : (passes : ℕ → Contents → Bool) (d e : Device) (old new : Parts B D) (failed : Bool) (result : Result (Unit {0}) (Outcome B)) → BringPageComes passes d e old new failed result
      → KeepsSessions old new
  bring_keeps passes d e old new true result comes = keeps_all old new comes.1
  bring_keeps passes d e old new false result comes = brought_keeps passes d e old new result comes

  written_keeps : (page : ℕ) (d e : Device) (old new : Parts B D) (failed : Bool) (outcome : Outcome B) → PageIsWritten page d e old new failed outcome → KeepsSessions old new
  written_keeps page d e old new true outcome comes = keeps_all old new comes.1
  written_keeps page d e old new false outcome comes = page_keeps old new outcome comes.0 comes.2

  help_keeps : (d e : Device) (named : Need) (old new : Parts B D) (outcome : Outcome B) → HelpComes d e named old new outcome → KeepsSessions old new
  help_keeps d e need.Log old new outcome comes = log_steps_keep d e old new old.sessions.failed (runs old.checkpoint) outcome comes
  help_keeps d e (need.Write page) old new outcome comes = written_keeps page d e old new old.sessions.failed outcome comes
  help_keeps d e need.Checkpoint old new outcome comes = checkpoint_keeps d e old new old.sessions.failed outcome comes

module _ {C B D : Type 0} (shape : Members B) (proper : B → Bool) (said : List ℕ → B) (class : Ghosts C B) (state : D → Device) where
  abbrev pub brings : ℕ → Parts B D → Result (Unit {0}) (Outcome B) → Parts B D → Type 0
  brings page old result new = Brings shape (traits_of proper said class) state page old result new

  abbrev pub helps : Need → Parts B D → Outcome B → Parts B D → Type 0
  helps = Helps shape (traits_of proper said class) state

  -- a page that was brought, with what came of it named otherwise
  pub told_as : (page : ℕ) (old new : Parts B D) (given named : Outcome B) → given ≡ named → brings page old (Err given) new → brings page old (Err named) new
  told_as page old new given named same is = subst (λ (o : Outcome B). brings page old (Err o) new) same is

  bring_used : (page : ℕ) (old : Parts B D) (result : Result (Unit {0}) (Outcome B)) (new : Parts B D) → brings page old result new → SameUsed old new
  bring_used page old result new is =
      sym (nodes_long (standing_node (format_of class) new.volume.shelf.frames (state new.volume.shelf.disk).seen) new.volume.shelf.used) ∙ is.stays.used
      ∙ nodes_long (standing_node (format_of class) old.volume.shelf.frames (state old.volume.shelf.disk).seen) old.volume.shelf.used

  -- as many pages are taken after turns, and after pages were brought
  pub turned_used : (page : ℕ) (old : Parts B D) (count : ℕ) (new : Parts B D) → HasTurned (brings page) helps old count new → new.volume.shelf.used ≡ old.volume.shelf.used
  turned_used =
      turned_so brings helps SameUsed (λ e. refl) (λ old middle new first next. next ∙ first) (λ page named old new is. bring_used page old (Err (Help named)) new is)
      (λ page old new is. bring_used page old (Ok tt) new is) (λ named outcome old new made is. help_used _ _ named old new outcome is.comes)

  pub all_used : (n : ℕ) (old new : Parts B D) → AreBrought brings helps old n new → new.volume.shelf.used ≡ old.volume.shelf.used
  all_used =
      all_so brings helps SameUsed (λ e. refl) (λ old middle new first next. next ∙ first) (λ page named old new is. bring_used page old (Err (Help named)) new is)
      (λ page old new is. bring_used page old (Ok tt) new is) (λ named outcome old new made is. help_used _ _ named old new outcome is.comes)

  pub read_keeps : (result : Result (Unit {0}) Stop) (old new : Parts B D) → IsRead brings helps old result new → KeepsSessions old new
  read_keeps =
      read_so brings helps KeepsSessions (λ e. refl) keeps_joined (λ page named old new is. bring_keeps _ _ _ old new old.sessions.failed (Err (Help named)) is.comes)
      (λ page old new is. bring_keeps _ _ _ old new old.sessions.failed (Ok tt) is.comes) (λ named outcome old new made is. help_keeps _ _ named old new outcome is.comes)
      KeepsSessions (λ old new is. is) keeps_joined (λ page why old new is. bring_keeps _ _ _ old new old.sessions.failed (Err (Refused why)) is.comes)
      (λ named why old new is. help_keeps _ _ named old new (Refused why) is.comes)

  module _ (l : Limits) where
    abbrev ReadsSo : Parts B D → Parts B D → Type 0
    ReadsSo = Reads (class_of shape proper l) (reading_of said (format_of class)) (format_of class) (is_node (format_of class)) state

    abbrev RunsSo : Parts B D → Parts B D → Type 0
    RunsSo = Runs (class_of shape proper l) (reading_of said (format_of class)) (format_of class) (is_node (format_of class)) state

    none_read : (old new : Parts B D) → Leads (class_of shape proper l) (reading_of said (format_of class)) (format_of class) (is_node (format_of class)) (state old.volume.shelf.disk) (state new.volume.shelf.disk) old new []
        → ReadsSo old new
    none_read = leads_read (class_of shape proper l) (reading_of said (format_of class)) (format_of class) (is_node (format_of class)) state

    joined_read : (old middle new : Parts B D) → ReadsSo old middle → ReadsSo middle new → ReadsSo old new
    joined_read = read_joined (class_of shape proper l) (reading_of said (format_of class)) (format_of class) (is_node (format_of class)) state

    help_read : (named : Need) (outcome : Outcome B) (old new : Parts B D) → IsMade outcome → helps named old outcome new → ReadsSo old new
    help_read named outcome old new made is =
        spares_read (class_of shape proper l) (reading_of said (format_of class)) (format_of class) (is_node (format_of class)) state old new (IsSync old.sessions.failed outcome) (is.spares l)

    pub brought_read : (page : ℕ) (old new : Parts B D) → IsBrought (brings page) helps old (Ok tt) new → ReadsSo old new
    brought_read =
        brought_so brings helps ReadsSo (nothing_read (class_of shape proper l) (reading_of said (format_of class)) (format_of class) (is_node (format_of class)) state) joined_read
        (λ page named old new is. none_read old new (is.leads l)) (λ page old new is. none_read old new (is.leads l)) help_read

    pub all_read : (n : ℕ) (old new : Parts B D) → AreBrought brings helps old n new → ReadsSo old new
    all_read =
        all_so brings helps ReadsSo (nothing_read (class_of shape proper l) (reading_of said (format_of class)) (format_of class) (is_node (format_of class)) state) joined_read
        (λ page named old new is. none_read old new (is.leads l)) (λ page old new is. none_read old new (is.leads l)) help_read

    pub read_run : (result : Result (Unit {0}) Stop) (old new : Parts B D) → IsRead brings helps old result new → RunsSo old new
    read_run =
        read_so brings helps ReadsSo (nothing_read (class_of shape proper l) (reading_of said (format_of class)) (format_of class) (is_node (format_of class)) state) joined_read
        (λ page named old new is. none_read old new (is.leads l)) (λ page old new is. none_read old new (is.leads l)) help_read
        RunsSo (read_runs (class_of shape proper l) (reading_of said (format_of class)) (format_of class) (is_node (format_of class)) state)
        (run_joined (class_of shape proper l) (reading_of said (format_of class)) (format_of class) (is_node (format_of class)) state)
        (λ page why old new is. leads_run (class_of shape proper l) (reading_of said (format_of class)) (format_of class) (is_node (format_of class)) state old new _ (is.leads l))
        (λ named why old new is.
        read_runs (class_of shape proper l) (reading_of said (format_of class)) (format_of class) (is_node (format_of class)) state old new
        (spares_read (class_of shape proper l) (reading_of said (format_of class)) (format_of class) (is_node (format_of class)) state old new (IsSync old.sessions.failed (Refused why)) (is.spares l)))
