-- What an image of a device has of a machine, along events, crashes and openings.
use Rattle.std.proofs.Common.{◌≡◌, ⊎_elim, ℕ, ◌*◌, ◌≤◌, Bool, true, false, List, length, refl, ap, sym, ◌∙◌, subst, arith}
use Rattle.std.proofs.lemmas.List.{take_all}
use Rattle.gx_class.specs.Traits.{traits_of}
use Rattle.gx_class.specs.declared.class.KeyClass.{Ghosts}
use Rattle.gx_disk.specs.Device.{Device, IsImage, MayLeave}
use Rattle.gx_disk.specs.Moments.{Leaves}
use Rattle.gx_disk.specs.Sectors.{span_of}
use Rattle.gx_disk.proofs.Leaving.{each_has, leaves_weaker}
use Rattle.gx_disk.proofs.Spans.{image_span}
use Rattle.gx_durable.specs.Area.{area_of}
use Rattle.gx_durable.specs.Fitting.{AreGood}
use Rattle.gx_durable.specs.Spelled.{Reading}
use Rattle.gx_durable.specs.Standing as durable
use Rattle.gx_durable.proofs.BodyLists.{bodies_one_way}
use Rattle.gx_durable.proofs.Crashes.{crash_leaves}
use Rattle.gx_engine.specs.States.{Parts}
use Rattle.gx_engine.proofs.Machines.{event_happens}
use Rattle.gx_engine_events.proofs.Crashes.{set_of_image}
use Rattle.gx_events.specs.declared.event.Event.{Event}
use Rattle.gx_events.specs.declared.outcome.Outcome.{Outcome}
use Rattle.gx_events.specs.Happens.{Happens}
use Rattle.gx_format.specs.Formatting.{sectors_of}
use Rattle.gx_format.specs.Fresh.{HasMagic}
use Rattle.gx_glog.specs.declared.extent.TheConstants.{PLACES}
use Rattle.gx_found_log.specs.Found.{HasUndamaged}
use Rattle.gx_glog.specs.Cuts.{bodies_in, open_bodies}
use Rattle.gx_glog.specs.Layout.{open_run, selected_of}
use Rattle.gx_glog.specs.Parameters.{Fit}
use Rattle.gx_glog.specs.declared.parameters.Parameters.{Parameters}
use Rattle.gx_index_laws.specs.Classes.{Class, IsLawful, Page, known_of}
use Rattle.gx_index_laws.specs.Openings.{IsKeptBy}
use Rattle.gx_machine.specs.declared.entry.Entry.{Entry}
use Rattle.gx_machine.specs.Keys.{Members, keys_of}
use Rattle.gx_machine.specs.Machine.{Machine, newest, set_of}
use Rattle.gx_machine.specs.Sets.{IsSetOf}
use Rattle.gx_machine.proofs.SetsByTests.{set_of_a_test_that_agrees}
use Rattle.gx_node.specs.Reading.{format_of}
use Rattle.gx_opening.specs.Formatted.{Says}
use Rattle.gx_opening.specs.Standing.{limits_of}
use Rattle.gx_opening.proofs.Heads.{head_magic, head_says}
use Rattle.gx_durable.specs.Classes.{class_of, reading_of}
use Rattle.gx_durable.proofs.Used.{known_lawful}
use Rattle.gx_recovery.specs.Analysis.{number_of}
use Rattle.gx_recovery.specs.Damage.{IsLog, records_of}
use Rattle.gx_recovery.specs.Known.{Known}
use Rattle.gx_recovery.specs.Logged.{StandsForKept, durable as durable_number, kept}
use Rattle.gx_recovery.specs.Records.{Record}
use Rattle.gx_recovery.specs.Renewal.{found}
use Rattle.gx_recovery.specs.Standing.{stands_for}
use Rattle.gx_recovery.proofs.DamageItems.{bodies_log}
use Rattle.gx_recovery.proofs.Moves.{found_latest, found_set}
use Rattle.gx_engine.specs.Made.{Makes}
use Rattle.gx_restart.specs.Keeping.{ArePagesGood, StandsForFound}
use Rattle.gx_lives.specs.Bearing.{HasSet, HasSets, IsSeen}
use Rattle.gx_lives.specs.Lives.{ComesUp, IsTried}

-- of a device that is settled each image is as it reads
settled_image : (seen : List ℕ) (pending : ℕ → Bool) (sectors : ℕ) (image : List ℕ) → length seen ≡ 512 * sectors → ((s : ℕ) → pending s ≡ false) → IsImage seen pending image → image ≡ seen
unfolding span_of
settled_image seen pending sectors image long settled may =
    let all : (bytes : List ℕ) → length bytes ≡ 512 * sectors → span_of bytes 0 (512 * sectors) ≡ bytes = λ bytes is. take_all (512 * sectors) bytes (omega (arith, is)) in
    sym (all image (may.size ∙ long)) ∙ image_span sectors 0 seen pending image may (λ s within. settled s) ∙ all seen long

module _ {C B D : Type 0} (shape : Members B) (proper : B → Bool) (said : List ℕ → B) (class : Ghosts C B) (state : D → Device) (p : Parameters)
    (lawful : IsLawful (class_of shape proper (limits_of p))) where
  abbrev c : Class B
  c = class_of shape proper (limits_of p)

  abbrev k : Known (Entry B) (Page B)
  k = known_of c

  abbrev r : Reading (Entry B) (Page B)
  r = reading_of said (format_of class)

  abbrev at : Parts B D → Device
  at e = state e.volume.shelf.disk

  abbrev Has : Machine B → List ℕ → Type 0
  Has = HasSet shape (traits_of proper said class) state p

  abbrev Seen : Machine B → Parts B D → Type 0
  Seen = IsSeen shape (traits_of proper said class) state p

  abbrev Sets : Machine B → Device → Type 0
  Sets = HasSets shape (traits_of proper said class) state p

  -- an image that stands for a kept set of the index that an engine holds
  pub image_of_index : (m : Machine B) (e : Parts B D) (s : Seen m e) (image : List ℕ) → durable.Stands k r s.index.log image → Has m image
  image_of_index m e s image stands =
      let set = set_of_image c lawful r s.index s.holds.whole m s.seen image stands in
      let same : stands.bodies ≡ set.bodies = bodies_one_way r (open_bodies image) stands.bodies set.bodies stands.told set.told in
      record {
        head = stands.head;
        stands = set;
        sizes = stands.sizes;
        good = subst (λ (bodies : List (List (Record (Entry B) (Page B)))). AreGood k r (area_of r p.pages image) (records_of bodies)) same (record { good = stands.stands.good; fit = stands.fit });
      }

  -- what a crash may leave of an engine's device
  pub left_of_engine : (m : Machine B) (e : Parts B D) → Seen m e → (image : List ℕ) → MayLeave (at e) image → Has m image
  left_of_engine m e s image may =
      let d = at e in
      image_of_index m e s image
      (crash_leaves k r (known_lawful c lawful.keys) e.volume.log d.sectors d.seen d.pending s.bodies s.index.log image s.holds.keeps.runs.up may)

  -- an event leads to an engine that is seen as what it does to the machine; at each moment of it each image has a set of the machine of before
  pub record Went (m : Machine B) (old new : Parts B D) (event : Event B) (outcome : Outcome B) : Type 0 where
    pub machine : Machine B
    pub happens : Happens (keys_of shape) m event outcome machine
    pub seen : Seen machine new
    pub leaves : Leaves (Has m) (at old) (at new)

  pub event_went : (m : Machine B) (old new : Parts B D) (event : Event B) (outcome : Outcome B) → Makes shape (traits_of proper said class) state old event outcome new → Seen m old
      → Went m old new event outcome
  event_went m old new event outcome made s =
      let one = made.steps (limits_of p) s.bodies s.index s.holds in
      let led = event_happens c lawful s.index one.led.index s.holds.whole event outcome one.events one.are one.led.happening m s.seen in
      record {
        machine = led.0;
        happens = led.1;
        seen = record { bodies = one.led.bodies; index = one.led.index; holds = one.led.holds; seen = led.2 };
        leaves = leaves_weaker (durable.Stands k r s.index.log) (Has m) (at old) (at new) (image_of_index m old s) one.led.leaves;
      }

  -- a device that is given up has the sets of its engine's machine
  pub given_up : (m : Machine B) (e : Parts B D) → Seen m e → Sets m (at e)
  given_up m e s = record {
    honest = s.holds.keeps.steady.honest;
    large = s.holds.keeps.runs.up.carries.has_pages.inside;
    sets = left_of_engine m e s;
  }

  -- what stands for the set that a log keeps has that set
  module _ (start : ℕ → Page B) (told : List (Record (Entry B) (Page B))) (is_log : IsLog k told) (area : ℕ → Page B) (records : List (Record (Entry B) (Page B)))
      (s : StandsForKept k (found start told) area records) where
    same_number : number_of k records ≡ number_of k told
    same_number = (let low = s.at_least in let high = s.at_most in let last = found_latest k start told in let first : durable_number k (found start told) ≡ number_of k told = refl in omega (arith, low, high, last, first))

    same_set : (e : Entry B) → stands_for k start told e ≡ stands_for k area records e
    same_set e =
        sym (found_set k start told (known_lawful c lawful.keys) is_log e) ∙ ap (λ n. kept k (found start told) n e) (sym same_number) ∙ sym (s.same_set e)

    kept_alike : (m : Machine B) → IsKeptBy c m start told → IsKeptBy c m area records
    kept_alike m was = record {
      at_least = subst (λ n. m.oldest ≤ n) (sym same_number) was.at_least;
      at_most = subst (λ n. n ≤ newest m) (sym same_number) was.at_most;
      set = set_of_a_test_that_agrees c.keys lawful.keys (stands_for k start told) (stands_for k area records) (set_of (number_of k records) m) same_set
          (subst (λ n. IsSetOf c.keys (stands_for k start told) (set_of n m)) (sym same_number) was.set);
    }

  -- an image that stands for the set of a log that was found has that set of a machine
  pub found_with : (m : Machine B) (seen image : List ℕ) (log : HasUndamaged k r seen) → durable.Stands k r (found (area_of r p.pages seen) (records_of log.bodies)) image
      → IsKeptBy c m (area_of r p.pages seen) (records_of log.bodies) → Has m image
  found_with m seen image log stands was = record {
    head = stands.head;
    stands = record {
      bodies = stands.bodies;
      told = stands.told;
      undamaged = stands.undamaged;
      kept = kept_alike (area_of r p.pages seen) (records_of log.bodies) (bodies_log k log.bodies log.undamaged) (area_of r p.pages image) (records_of stands.bodies) stands.stands m was;
    };
    sizes = stands.sizes;
    good = record { good = stands.stands.good; fit = stands.fit };
  }

  module _ (m : Machine B) (d : Device) (sets : Sets m d) where
    pub own : Has m d.seen
    own = sets.sets d.seen (record { size = refl; settled = λ s is. refl })

    -- the log of what is seen has the bodies of the image that it is
    same_bodies : (log : HasUndamaged k r d.seen) → own.stands.bodies ≡ log.bodies
    unfolding open_bodies
    same_bodies log = bodies_one_way r (bodies_in d.seen (selected_of d.seen) (open_run d.seen (selected_of d.seen) 0 PLACES)) own.stands.bodies log.bodies own.stands.told log.told

    -- so the pages are good for it, and it stands for a set of the machine
    pub good_log : (log : HasUndamaged k r d.seen) → AreGood k r (area_of r p.pages d.seen) (records_of log.bodies)
    good_log log =
        subst (λ (bodies : List (List (Record (Entry B) (Page B)))). AreGood k r (area_of r p.pages d.seen) (records_of bodies)) (same_bodies log) own.good

    pub pages_good : ArePagesGood shape proper said (format_of class) p d.seen
    pages_good = good_log

    pub kept_log : (log : HasUndamaged k r d.seen) → IsKeptBy c m (area_of r p.pages d.seen) (records_of log.bodies)
    kept_log log =
        subst (λ (bodies : List (List (Record (Entry B) (Page B)))). IsKeptBy c m (area_of r p.pages d.seen) (records_of bodies)) (same_bodies log) own.stands.kept

    pub found_has : (image : List ℕ) → StandsForFound shape proper said (format_of class) p d.seen image → Has m image
    found_has image f = found_with m d.seen image f.log f.stands (kept_log f.log)

    -- the device says what it was formatted for
    pub magic : HasMagic d.seen
    magic = head_magic d.seen p own.head

    module _ (fit : Fit p) where
      pub says : Says d.seen p
      says = head_says d.seen p own.head fit

      -- at each moment of an opening each image has a set of the machine
      pub tried_leaves : (e : Device) → IsTried shape (traits_of proper said class) d e → Leaves (Has m) d e
      tried_leaves e tried =
          leaves_weaker _ (Has m) d e (λ image. ⊎_elim (sets.sets image) (found_has image)) (tried.keeps p magic says pages_good)

  -- after a crash
  pub come_up : (m : Machine B) (IsLeft : List ℕ → Type 0) (d : Device) → length d.seen ≡ 512 * d.sectors → ((image : List ℕ) → IsLeft image → Has m image) → (sectors : ℕ) → sectors_of p.pages ≤ sectors
      → ComesUp sectors IsLeft d → Sets m d
  come_up m IsLeft d long each sectors large up = record {
    honest = up.honest;
    large = (let same = up.sectors in omega (arith, same, large));
    sets = λ image may. subst (λ (bytes : List ℕ). Has m bytes) (sym (settled_image d.seen d.pending d.sectors image long up.settled may)) (each d.seen up.left);
  }

  module _ (counts_now : (d : D) (t : ℕ) (image : List ℕ) → (state d).honest ≡ true → t ≤ (state d).moment → MayLeave (state d) image → (state d).left_since t image)
      (only_now : (d : D) (image : List ℕ) → (state d).honest ≡ true → (state d).left_since (state d).moment image → MayLeave (state d) image) where
    -- each image since the start of an event, and of an opening
    pub since_event : (m : Machine B) (old new : Parts B D) (event : Event B) (outcome : Outcome B) → Makes shape (traits_of proper said class) state old event outcome new → Seen m old
        → (image : List ℕ) → (at new).left_since (at old).moment image → Has m image
    since_event m old new event outcome made s =
        each_has (Has m) (at old) (at new) (event_went m old new event outcome made s).leaves
        (λ image left. left_of_engine m old s image (only_now old.volume.shelf.disk image s.holds.keeps.steady.honest left))

    module _ (fit : Fit p) where
      tried_so : (m : Machine B) (old new : D) → Sets m (state old) → IsTried shape (traits_of proper said class) (state old) (state new) → Leaves (Has m) (state old) (state new)
      tried_so m old new sets tried = tried_leaves m (state old) sets fit (state new) tried

      pub since_opening : (m : Machine B) (old new : D) → Sets m (state old) → IsTried shape (traits_of proper said class) (state old) (state new)
          → (image : List ℕ) → (state new).left_since (state old).moment image → Has m image
      since_opening m old new sets tried =
          each_has (Has m) (state old) (state new) (tried_so m old new sets tried) (λ image left. sets.sets image (only_now old image sets.honest left))

      -- what an opening that was refused leaves of the device
      pub refused_sets : (m : Machine B) (old new : D) → Sets m (state old) → IsTried shape (traits_of proper said class) (state old) (state new) → Sets m (state new)
      refused_sets m old new sets tried =
          let honest : (state new).honest ≡ true = tried.same.1 ∙ sets.honest in
          let later = (tried_so m old new sets tried).later in
          record {
            honest = honest;
            large = (let same = tried.same.0 in let was = sets.large in omega (arith, same, was));
            sets = λ image may. since_opening m old new sets tried image (counts_now new (state old).moment image honest later may);
          }
