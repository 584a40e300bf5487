-- A look that was to read a page in its session, as the engine's parts.
use Rattle.std.proofs.Common.{◌≡◌, ◌≢◌, ◌∙◌, ap, sym, ℕ, ◌-◌, Bool, List, [], ◌∷◌, ◌++◌}
use Rattle.std.proofs.lemmas.List.{set-get_or}
use Rattle.std.specs.Prelude.{Result, Err}
use Rattle.gx_machine.specs.declared.call.Call.{Call}
use Rattle.gx_node.specs.declared.fault.LookFault.{LookFault}
use Rattle.gx_node.specs.declared.fault.LookFault.TheVariants as fault
use Rattle.gx_node.specs.declared.fault.StepFault.TheVariants as step
use Rattle.gx_node.specs.Reach.{TraversalItem}
use Rattle.gx_node.specs.Trees.{Pair, Tree, Used}
use Rattle.gx_store.specs.declared.fault.StoreFault.{StoreFault}
use Rattle.gx_tree.specs.declared.look.Look.{Look}
use Rattle.gx_phases.specs.declared.phase.Phase.{Phase}
use Rattle.gx_phases.specs.declared.phase.Phase.TheVariants as phase
use Rattle.gx_phases.specs.States.{State, phase_at, with_phase_of}
use Rattle.gx_storage.specs.State.{Volume}
use Rattle.gx_engine.specs.declared.work.Work.{Work}
use Rattle.gx_engine.specs.declared.work.Work.TheVariants.{Looks}
use Rattle.gx_engine.specs.Looks.{ReadsIn, ReadsOn, RefusesIn, RefusesLook}
use Rattle.gx_engine.specs.States.{Parts}
use Rattle.gx_engine.specs.Writes.{brought}
use Rattle.gx_engine.proofs.Reading.{only_shelf}

abbrev look_or : {B : Type 0} → Look B → Work B → Look B
look_or other (Looks look) = look
look_or other work = other

-- what is lent is the look
pub one_look : {B : Type 0} (work : Work B) (look another : Look B) → work ≡ Looks look → work ≡ Looks another → look ≡ another
one_look {B} work look another is there = ap (λ (w : Work B). look_or look w) (sym is ∙ there)

-- a look that was refused its page is kept unchanged, unless memory was refused to it
module _ {B : Type 0} (t : Tree B) (s : ℕ) (call : Call B) (look after : Look B) (old new : State B (Work B)) (at : phase_at (s - 1) old.phases ≡ phase.Open call (Looks look))
    (only : new ≡ with_phase_of s (phase.Open call (Looks after)) old) (result : Result (Unit {0}) (LookFault StoreFault)) (same : result ≢ Err fault.Memory → after ≡ look)
    (damaged : result ≡ Err (fault.Step step.Damaged) → (rest : List TraversalItem) (item : TraversalItem) → look.stack.items ≡ rest ++ item ∷ [] → ¬ Used t item.page) where
  as_it_was : after ≡ look → new ≡ old
  as_it_was is =
      only ∙ ap (λ (x : Look B). with_phase_of s (phase.Open call (Looks x)) old) is
      ∙ ap (λ (p : Phase B (Work B)). with_phase_of s p old) (sym at)
      ∙ ap (λ (ps : List (Phase B (Work B))). record old { phases = ps }) (set-get_or old.phases (s - 1) phase.Free)

  pub refuses_in : (why : LookFault StoreFault) → result ≡ Err why → RefusesIn t s call look old new why
  refuses_in fault.Memory is = (after, only)
  refuses_in (fault.Step (step.Pages n)) is =
      as_it_was (same (λ m. (let both : ◌≡◌ {A = Result (Unit {0}) (LookFault StoreFault)} (Err (fault.Step (step.Pages n))) (Err fault.Memory) = sym is ∙ m in cc)))
  refuses_in (fault.Step step.Damaged) is = (
    as_it_was (same (λ m. (let both : ◌≡◌ {A = Result (Unit {0}) (LookFault StoreFault)} (Err (fault.Step step.Damaged)) (Err fault.Memory) = sym is ∙ m in cc))),
    damaged is,
  )

module _ {B D : Type 0} (t : Tree B) (s : ℕ) (call : Call B) (look : Look B) (e : Parts B D) (w : Volume D) (sessions : State B (Work B))
    (log : w.log ≡ e.volume.log) (most : w.most ≡ e.volume.most) (imaged : w.imaged ≡ e.volume.imaged) where
  abbrev new : Parts B D
  new = record e { volume = w; sessions = sessions }

  only_read : (now : State B (Work B)) → sessions ≡ now → new ≡ record (brought e new) { sessions = now }
  only_read now is =
      ap (λ (v : Volume D). record e { volume = v; sessions = sessions }) (only_shelf e.volume w log most imaged)
      ∙ ap (λ (x : State B (Work B)). record (brought e new) { sessions = x }) is

  pub reads_there : (takes : Pair B → Bool) (leads : B → Bool) (done : Bool) → ReadsIn t takes leads s call look e.sessions sessions done → ReadsOn t takes leads s call look e new done
  reads_there takes leads done it = record { after = it.after; only = only_read _ it.only; ends = it.ends; step = it.step }

  pub refuses_there : (why : LookFault StoreFault) → RefusesIn t s call look e.sessions sessions why → RefusesLook t s call look e new why
  refuses_there fault.Memory it = (it.0, only_read _ it.1)
  refuses_there (fault.Step (step.Pages n)) it = only_read e.sessions it
  refuses_there (fault.Step step.Damaged) it = (only_read e.sessions it.0, it.1)
