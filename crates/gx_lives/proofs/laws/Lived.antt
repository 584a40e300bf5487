-- A life is the machine's, turn by turn.
use Rattle.std.proofs.Common.{◌≡◌, inl, inr, ℕ, ◌*◌, ◌≤◌, Bool, true, List, [], ◌∷◌, length, refl, sym, subst}
use Rattle.gx_class.specs.Traits.{traits_of}
use Rattle.gx_class.specs.declared.class.KeyClass.{Ghosts}
use Rattle.gx_disk.specs.Device.{Device, MayLeave}
use Rattle.gx_durable.specs.Area.{area_of}
use Rattle.gx_engine.specs.States.{Parts}
use Rattle.gx_events.specs.Engines.{SeenAs, opened_machine}
use Rattle.gx_format.specs.Formatting.{sectors_of}
use Rattle.gx_glog.specs.Parameters.{Fit}
use Rattle.gx_glog.specs.declared.parameters.Parameters.{Parameters}
use Rattle.gx_index_laws.specs.Classes.{IsLawful}
use Rattle.gx_index_laws.specs.States.{engine_of}
use Rattle.gx_machine.specs.declared.entry.Entry.{Entry}
use Rattle.gx_machine.specs.Keys.{Members, keys_of}
use Rattle.gx_machine.specs.Machine.{Machine, crash, set_of}
use Rattle.gx_machine.specs.Sets.{IsSetOf}
use Rattle.gx_node.specs.Reading.{format_of}
use Rattle.gx_opening.specs.Standing.{known_for, limits_of, reading}
use Rattle.gx_opening.proofs.Stood.{one_saying}
use Rattle.gx_durable.specs.Classes.{class_of}
use Rattle.gx_recovery.specs.Analysis.{number_of}
use Rattle.gx_recovery.specs.Damage.{records_of}
use Rattle.gx_recovery.specs.Standing.{stands_for}
use Rattle.gx_restart.specs.Beginning.{HoldsFound}
use Rattle.gx_restart.specs.Opened.{IsOpened}
use Rattle.gx_lives.specs.Bearing.{AreOf, Bears, HasSet, HasSets, IsOf, IsSeen}
use Rattle.gx_lives.specs.Lives.{ComesUp, GoesOn, Lies, LiesOn, Lives, MayBeLeft, Stage, Turn, Works, WorksOn}
use Rattle.gx_lives.specs.Lives as life
use Rattle.gx_lives.proofs.Images.{come_up, event_went, given_up, kept_log, left_of_engine, refused_sets, says, since_event, since_opening}
use Rattle.gx_lives.proofs.laws.Readings.{read_on, read_sets, since_read, since_reading}

module _ {C B D : Type 0} (shape : Members B) (proper : B → Bool) (said : List ℕ → B) (class : Ghosts C B) (state : D → Device) (p : Parameters) (fit : Fit p)
    (lawful : IsLawful (class_of shape proper (limits_of p)))
    (whole : (d : D) → (state d).honest ≡ true → length (state d).seen ≡ 512 * (state d).sectors)
    (counts_now : (d : D) (t : ℕ) (image : List ℕ) → (state d).honest ≡ true → t ≤ (state d).moment → MayLeave (state d) image → (state d).left_since t image)
    (only_now : (d : D) (image : List ℕ) → (state d).honest ≡ true → (state d).left_since (state d).moment image → MayLeave (state d) image) where
  abbrev at : Parts B D → Device
  at e = state e.volume.shelf.disk

  abbrev Bear : Machine B → Stage B D → Type 0
  Bear = Bears shape (traits_of proper said class) state p

  abbrev Went : Machine B → Turn B → Stage B D → Type 0
  Went m turn new = (n : Machine B) × IsOf (keys_of shape) m turn n × Bear n new

  -- what a crash may leave of either stage, also within what begins there
  left_working : (m : Machine B) (e : Parts B D) → IsSeen shape (traits_of proper said class) state p m e → (image : List ℕ) → MayBeLeft shape (traits_of proper said class) state (Works e) image
      → HasSet shape (traits_of proper said class) state p m image
  left_working m e s image (inl may) = left_of_engine shape proper said class state p lawful m e s image may
  left_working m e s image (inr (new, inl (event, outcome, made), left)) =
      since_event shape proper said class state p lawful counts_now only_now m e new event outcome made s image left
  left_working m e s image (inr (new, inr reading, left)) = since_reading shape proper said class state p lawful counts_now only_now m e new reading s image left

  left_lying : (m : Machine B) (d : D) → HasSets shape (traits_of proper said class) state p m (state d) → (image : List ℕ) → MayBeLeft shape (traits_of proper said class) state (Lies d) image
      → HasSet shape (traits_of proper said class) state p m image
  left_lying m d sets image (inl may) = sets.sets image may
  left_lying m d sets image (inr (new, inl tried, left)) = since_opening shape proper said class state p lawful counts_now only_now fit m d new sets tried image left
  left_lying m d sets image (inr (new, inr read, left)) = since_read shape proper said class state p lawful counts_now only_now m d new sets read image left

  up_again : (m : Machine B) (IsLeft : List ℕ → Type 0) (d : D) → ((image : List ℕ) → IsLeft image → HasSet shape (traits_of proper said class) state p m image)
      → (sectors : ℕ) → sectors_of p.pages ≤ sectors → ComesUp sectors IsLeft (state d) → HasSets shape (traits_of proper said class) state p m (state d)
  up_again m IsLeft d each sectors large up =
      come_up shape proper said class state p lawful m IsLeft (state d) (whole d up.honest) each sectors large up

  -- an opening that ends well is the machine's crash to the set of the log
  abbrev Began : Machine B → Device → Parts B D → Parameters → Type 0
  Began m d e q = (h : HoldsFound shape proper said (format_of class) q d.seen (at e) e)
      → ((set : List (Entry B)) → IsSetOf (class_of shape proper (limits_of q)).keys (stands_for (known_for shape proper said (format_of class) q)
      (area_of (reading shape proper said (format_of class)) q.pages d.seen) (records_of h.found.log.bodies)) set
      → SeenAs (class_of shape proper (limits_of q)).keys (engine_of (class_of shape proper (limits_of q)) h.index)
      (opened_machine (number_of (known_for shape proper said (format_of class) q) (records_of h.found.log.bodies)) set))
      → Went m life.Opens (Works e)

  began : (m : Machine B) (d : Device) (e : Parts B D) → HasSets shape (traits_of proper said class) state p m d → Began m d e p
  began m d e sets h seen =
      let kept = kept_log shape proper said class state p lawful m d sets h.found.log in
      let number = number_of (known_for shape proper said (format_of class) p) (records_of h.found.log.bodies) in (
        crash number m,
        (number, (kept.at_least, kept.at_most, refl)),
        record { bodies = h.bodies; index = h.index; holds = h.holds; seen = seen (set_of number m) kept.set },
      )

  opened : (m : Machine B) (d : Device) (e : Parts B D) → HasSets shape (traits_of proper said class) state p m d → IsOpened shape proper said (format_of class) class.CLASS d (at e) e
      → Went m life.Opens (Works e)
  opened m d e sets is =
      subst (λ (q : Parameters). Began m d e q) (one_saying d.seen p is.parameters (says shape proper said class state p lawful m d sets fit) is.formatted.says) (began m d e sets) is.holds is.seen

  goes_working : (m : Machine B) (e : Parts B D) (turn : Turn B) (new : Stage B D) → WorksOn shape (traits_of proper said class) state e turn new
      → IsSeen shape (traits_of proper said class) state p m e → Went m turn new
  goes_working m e (life.Happens event outcome) (Works new) made s =
      let went = event_went shape proper said class state p lawful m e new event outcome made s in (went.machine, went.happens, went.seen)
  goes_working m e (life.Happens event outcome) (Lies d) made s = absurd made
  goes_working m e life.Crashes (Works new) up s = absurd up
  goes_working m e life.Crashes (Lies d) up s = (
    m,
    refl,
    up_again m (MayBeLeft shape (traits_of proper said class) state (Works e)) d (left_working m e s) (at e).sectors
        s.holds.keeps.runs.up.carries.has_pages.inside up,
  )
  goes_working m e life.GivesUp (Works new) same s = absurd same
  goes_working m e life.GivesUp (Lies d) same s =
      (m, refl, subst (λ (x : D). HasSets shape (traits_of proper said class) state p m (state x)) (sym same) (given_up shape proper said class state p lawful m e s))
  goes_working m e life.Reads (Works new) reading s =
      let on = read_on shape proper said class state p lawful m e new reading s in (on.machine, (on.steps, on.told, on.runs), on.seen)
  goes_working m e life.Reads (Lies d) none s = absurd none
  goes_working m e life.Opens new none s = absurd none
  goes_working m e (life.Refuses why) new none s = absurd none

  goes_lying : (m : Machine B) (d : D) (turn : Turn B) (new : Stage B D) → LiesOn shape (traits_of proper said class) state d turn new
      → HasSets shape (traits_of proper said class) state p m (state d) → Went m turn new
  goes_lying m d (life.Happens event outcome) new none sets = absurd none
  goes_lying m d life.Crashes (Works e) up sets = absurd up
  goes_lying m d life.Crashes (Lies new) up sets = (m, refl, up_again m (MayBeLeft shape (traits_of proper said class) state (Lies d)) new (left_lying m d sets) (state d).sectors sets.large up)
  goes_lying m d life.GivesUp new none sets = absurd none
  goes_lying m d life.Opens (Works e) opens sets = opened m (state d) e sets opens.1
  goes_lying m d life.Opens (Lies new) none sets = absurd none
  goes_lying m d (life.Refuses why) (Works e) none sets = absurd none
  goes_lying m d (life.Refuses why) (Lies new) tried sets =
      (m, refl, refused_sets shape proper said class state p lawful counts_now only_now fit m d new sets tried)
  goes_lying m d life.Reads (Works e) none sets = absurd none
  goes_lying m d life.Reads (Lies new) read sets = (m, ([], tt, refl), read_sets shape proper said class state p lawful m d new sets read)

  goes : (m : Machine B) (old : Stage B D) (turn : Turn B) (new : Stage B D) → GoesOn shape (traits_of proper said class) state old turn new → Bear m old → Went m turn new
  goes m (Works e) turn new on bears = goes_working m e turn new on bears
  goes m (Lies d) turn new on bears = goes_lying m d turn new on bears

  pub lived : (turns : List (Turn B)) (m : Machine B) (old new : Stage B D) → Lives shape (traits_of proper said class) state old turns new → Bear m old
      → (n : Machine B) × AreOf (keys_of shape) m turns n × Bear n new
  lived [] m old new same bears = (m, refl, subst (λ (x : Stage B D). Bear m x) (sym same) bears)
  lived (turn ∷ turns) m old new (middle, on, others) bears =
      let first = goes m old turn middle on bears in
      let rest = lived turns first.0 middle new others first.2 in
      (rest.0, (first.0, first.1, rest.1), rest.2)

  -- what a crash may leave of either stage
  pub left_of_stage : (m : Machine B) (now : Stage B D) → Bear m now → (image : List ℕ) → MayBeLeft shape (traits_of proper said class) state now image
      → HasSet shape (traits_of proper said class) state p m image
  left_of_stage m (Works e) s image left = left_working m e s image left
  left_of_stage m (Lies d) sets image left = left_lying m d sets image left
