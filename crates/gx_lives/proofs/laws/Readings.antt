-- What readings of pages, and of a device, leave of the sets of a machine.
use Rattle.std.proofs.Common.{◌≡◌, ℕ, ◌≤◌, Bool, true, List, [], ◌∷◌, refl, sym, ◌∙◌, subst, arith}
use Rattle.gx_class.specs.Traits.{traits_of}
use Rattle.gx_class.specs.declared.class.KeyClass.{Ghosts}
use Rattle.gx_disk.specs.Device.{Device, MayLeave}
use Rattle.gx_disk.specs.Moments.{Leaves}
use Rattle.gx_disk.proofs.Leaving.{each_has, leaves_weaker, rested_image}
use Rattle.gx_durable.specs.Classes.{class_of, reading_of}
use Rattle.gx_durable.specs.Standing as durable
use Rattle.gx_engine.specs.States.{Parts}
use Rattle.gx_events.specs.Engines.{SeenAs}
use Rattle.gx_events.specs.Happenings as laws
use Rattle.gx_glog.specs.declared.parameters.Parameters.{Parameters}
use Rattle.gx_index_laws.specs.Classes.{Class, IsLawful, known_of}
use Rattle.gx_index_laws.specs.Happening.{AreHappening}
use Rattle.gx_index_laws.specs.States as index
use Rattle.gx_index_laws.specs.States.{engine_of}
use Rattle.gx_machine.specs.Keys.{Members, keys_of}
use Rattle.gx_machine.specs.Machine.{Machine}
use Rattle.gx_machine.specs.Runs.{Durable, Fails, IsRun, Step}
use Rattle.gx_node.specs.Reading.{format_of}
use Rattle.gx_opening.specs.Standing.{limits_of}
use Rattle.gx_lives.specs.Bearing.{HasSet, HasSets, IsSeen}
use Rattle.gx_lives.specs.Lives.{AreUpkeep, IsRead, IsReading}
use Rattle.gx_lives.specs.Told.{TellsUpkeep}
use Rattle.gx_lives.proofs.Images.{image_of_index, left_of_engine}

-- Upkeep of an index, as steps of the machine that it is seen as.
module _ {B : Type 0} (c : Class B) where
  record IsKeptUp (m : Machine B) (j : index.State B) : Type 0 where
    machine : Machine B
    steps : List (Step B)
    told : TellsUpkeep steps
    runs : IsRun c.keys m steps machine
    seen : SeenAs c.keys (engine_of c j) machine

  kept_up : (events : List (laws.Happening B)) (i j : index.State B) → AreUpkeep events → AreHappening c i events j → (m : Machine B) → SeenAs c.keys (engine_of c i) m → IsKeptUp m j
  kept_up [] i j upkeep same m seen = record {
    machine = m;
    steps = [];
    told = tt;
    runs = refl;
    seen = subst (λ (x : index.State B). SeenAs c.keys (engine_of c x) m) (sym same) seen;
  }
  kept_up (laws.Works ∷ events) i j upkeep (middle, happens, others) m seen =
      let first = happens.steps m seen in
      let same : first.end ≡ m = first.runs.2 ∙ first.runs.1 in
      kept_up events middle j upkeep others m (subst (λ (n : Machine B). SeenAs c.keys (engine_of c middle) n) same first.seen)
  kept_up (laws.Durable number ∷ events) i j upkeep (middle, happens, others) m seen =
      let first = happens.steps m seen in
      let rest = kept_up events middle j upkeep others first.end first.seen in
      record {
        machine = rest.machine;
        steps = Durable number ∷ rest.steps;
        told = rest.told;
        runs = (first.runs.0, first.runs.1, subst (λ (n : Machine B). IsRun c.keys n rest.steps rest.machine) first.runs.2 rest.runs);
        seen = rest.seen;
      }
  kept_up (laws.Fails ∷ events) i j upkeep (middle, happens, others) m seen =
      let first = happens.steps m seen in
      let rest = kept_up events middle j upkeep others first.end first.seen in
      record {
        machine = rest.machine;
        steps = Fails ∷ rest.steps;
        told = rest.told;
        runs = (first.runs.0, first.runs.1, subst (λ (n : Machine B). IsRun c.keys n rest.steps rest.machine) first.runs.2 rest.runs);
        seen = rest.seen;
      }
  kept_up (other ∷ events) i j upkeep happening m seen = absurd upkeep

module _ {C B D : Type 0} (shape : Members B) (proper : B → Bool) (said : List ℕ → B) (class : Ghosts C B) (state : D → Device) (p : Parameters)
    (lawful : IsLawful (class_of shape proper (limits_of p))) where
  abbrev at : Parts B D → Device
  at e = state e.volume.shelf.disk

  abbrev Has : Machine B → List ℕ → Type 0
  Has = HasSet shape (traits_of proper said class) state p

  abbrev Seen : Machine B → Parts B D → Type 0
  Seen = IsSeen shape (traits_of proper said class) state p

  abbrev Sets : Machine B → Device → Type 0
  Sets = HasSets shape (traits_of proper said class) state p

  -- A reading leads to an engine that is seen as what upkeep does to the machine; at each moment of it each image has a set of the machine of before.
  pub record ReadsOn (m : Machine B) (old new : Parts B D) : Type 0 where
    pub machine : Machine B
    pub steps : List (Step B)
    pub told : TellsUpkeep steps
    pub runs : IsRun (keys_of shape) m steps machine
    pub seen : Seen machine new
    pub leaves : Leaves (Has m) (at old) (at new)

  pub read_on : (m : Machine B) (old new : Parts B D) → IsReading shape (traits_of proper said class) state old new → Seen m old → ReadsOn m old new
  read_on m old new reading s =
      let one = reading (limits_of p) s.bodies s.index s.holds in
      let kept = kept_up (class_of shape proper (limits_of p)) one.0 s.index one.2.index one.1 one.2.happening m s.seen in
      record {
        machine = kept.machine;
        steps = kept.steps;
        told = kept.told;
        runs = kept.runs;
        seen = record { bodies = one.2.bodies; index = one.2.index; holds = one.2.holds; seen = kept.seen };
        leaves =
            leaves_weaker (durable.Stands (known_of (class_of shape proper (limits_of p))) (reading_of said (format_of class)) s.index.log) (Has m) (at old) (at new)
            (image_of_index shape proper said class state p lawful m old s) one.2.leaves;
      }

  -- a device that was read has the sets that it had
  pub read_sets : (m : Machine B) (old new : D) → Sets m (state old) → IsRead (state old) (state new) → Sets m (state new)
  read_sets m old new sets read = record {
    honest = read.same.1 ∙ sets.honest;
    large = (let same = read.same.0 in let was = sets.large in omega (arith, same, was));
    sets = λ image may. sets.sets image (rested_image (state old) (state new) read.only.rests image may);
  }

  module _ (counts_now : (d : D) (t : ℕ) (image : List ℕ) → (state d).honest ≡ true → t ≤ (state d).moment → MayLeave (state d) image → (state d).left_since t image)
      (only_now : (d : D) (image : List ℕ) → (state d).honest ≡ true → (state d).left_since (state d).moment image → MayLeave (state d) image) where
    -- each image since the start of a reading of pages, and of a device
    pub since_reading : (m : Machine B) (old new : Parts B D) → IsReading shape (traits_of proper said class) state old new → Seen m old
        → (image : List ℕ) → (at new).left_since (at old).moment image → Has m image
    since_reading m old new reading s =
        each_has (Has m) (at old) (at new) (read_on m old new reading s).leaves
        (λ image left. left_of_engine shape proper said class state p lawful m old s image (only_now old.volume.shelf.disk image s.holds.keeps.steady.honest left))

    pub since_read : (m : Machine B) (old new : D) → Sets m (state old) → IsRead (state old) (state new) → (image : List ℕ) → (state new).left_since (state old).moment image → Has m image
    since_read m old new sets read =
        each_has (Has m) (state old) (state new) (leaves_weaker (MayLeave (state old)) (Has m) (state old) (state new) sets.sets read.only.leaves)
        (λ image left. sets.sets image (only_now old image sets.honest left))
