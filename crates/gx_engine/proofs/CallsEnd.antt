-- A session's call comes to its end.
use Rattle.std.proofs.Common.{◌≡◌, ◌⊎◌, inl, inr, ℕ, ◌+◌, ◌<◌, ◌≤◌, Bool, true, false, None, List, [], ◌∷◌, length, refl, sym, ◌∙◌, subst, arith}
use Rattle.std.specs.Prelude.{◌-◌, ◌^◌}
use Rattle.gx_class.specs.Traits.{traits_of}
use Rattle.gx_class.specs.declared.class.KeyClass.{Ghosts}
use Rattle.gx_geom.specs.declared.refusal.Refusal.{Refusal}
use Rattle.gx_disk.specs.Device.{Device}
use Rattle.gx_disk.specs.declared.layout.TheConstants.{MAX_PAGES}
use Rattle.gx_machine.specs.declared.call.Call.{Call}
use Rattle.gx_machine.specs.declared.entry.Entry.{Entry}
use Rattle.gx_machine.specs.Keys.{Members}
use Rattle.gx_node.specs.Reading.{format_of, is_node}
use Rattle.gx_recovery.specs.Known.{Limits}
use Rattle.gx_recovery.specs.Records.{Record}
use Rattle.gx_index_laws.specs.Classes.{Class, IsLawful, Page}
use Rattle.gx_index_laws.specs.Measures.{work_left}
use Rattle.gx_index_laws.specs.States as index
use Rattle.gx_index_laws.specs.Whole.{IsWhole}
use Rattle.gx_durable.specs.Classes.{class_of, reading_of}
use Rattle.gx_glog.specs.declared.extent.TheConstants.{BODY_ROOM}
use Rattle.gx_record.specs.Writing.{write_record}
use Rattle.gx_events.specs.declared.event.Event.{Event}
use Rattle.gx_events.specs.declared.driver.Next.TheVariants.{Run}
use Rattle.gx_events.specs.declared.event.Event.TheVariants.{Ask, Move}
use Rattle.gx_events.specs.Driven.{next_of}
use Rattle.gx_events.specs.declared.outcome.Need.{Need}
use Rattle.gx_events.specs.declared.outcome.Need.TheVariants as need
use Rattle.gx_events.specs.declared.outcome.Outcome.{Outcome}
use Rattle.gx_events.specs.declared.outcome.Outcome.TheVariants.{Help, More, Nothing, Refused, Replied}
use Rattle.gx_phases.specs.declared.phase.Phase.{Phase}
use Rattle.gx_phases.specs.declared.phase.Phase.TheVariants as phase
use Rattle.gx_phases.specs.States.{phase_at}
use Rattle.gx_engine.specs.declared.work.Work.{Work}
use Rattle.gx_engine.specs.declared.work.Work.TheVariants.{Descends, Looks, Rests, Seeks}
use Rattle.gx_engine.specs.Ending.{LeavesAll}
use Rattle.gx_engine.specs.Flushing.{PageIsWritten}
use Rattle.gx_engine.specs.Moves as moves
use Rattle.gx_engine.specs.Moves.{left_by}
use Rattle.gx_engine.specs.States.{IsOrderly, Parts}
use Rattle.gx_engine.specs.Stepping.{Stepped}
use Rattle.gx_engine.specs.Backlog.{backlog}
use Rattle.gx_engine.specs.Driven.{AreDriven, IsUnderWay}
use Rattle.gx_engine.specs.Helping.{CallEnds, HasWork, HoldsIndex, StartsCall, event_of}
use Rattle.gx_engine.specs.Made.{AreMade, Makes}
use Rattle.gx_engine.specs.Resting.{KeepsSessions}
use Rattle.gx_engine.proofs.Helping.{helps}
use Rattle.gx_engine.proofs.Lessening.{few_left, few_orderly}
use Rattle.gx_engine.proofs.Measured.{done_rests, few_driven}
use Rattle.gx_engine.proofs.Resting.{keeps_all, page_keeps}
use Rattle.gx_engine.proofs.Waits.{names_work, waiting_flushes, waiting_leaves}

left_by_few : {B : Type 0} (p : Phase B (Work B)) (n : ℕ) → n < 2 ^ 39 → left_by p n ≤ 2 ^ 39
left_by_few phase.Free n few = omega (arith, few)
left_by_few phase.Working n few = omega (arith, few)
left_by_few (phase.Open call Rests) n few = omega arith
left_by_few (phase.Open call (Looks look)) n few = omega (arith, few)
left_by_few (phase.Open call (Descends parent item)) n few = omega (arith, few)
left_by_few (phase.Open call (Seeks leaf)) n few = omega (arith, few)
left_by_few (phase.Undoing restored work) n few = omega (arith, few)
left_by_few (phase.Waiting number) n few = omega (arith, few)

-- a page's write leaves the sessions unchanged, but for a fault
write_keeps : {B D : Type 0} (d e : Device) (old new : Parts B D) (page : ℕ) (failed : Bool) (given : Outcome B) → PageIsWritten page d e old new failed given → KeepsSessions old new
write_keeps d e old new page true given comes = keeps_all old new comes.1
write_keeps d e old new page false given comes = page_keeps old new given comes.0 comes.2

module _ {C B D : Type 0} (shape : Members B) (proper : B → Bool) (said : List ℕ → B) (class : Ghosts C B) (state : D → Device) (short : write_record class.KEY ≤ BODY_ROOM) (l : Limits) (s : ℕ) where
  abbrev c : Class B
  c = class_of shape proper l

  abbrev left : Parts B D → index.State B → ℕ
  left e i = moves.left c (reading_of said (format_of class)) (format_of class) (is_node (format_of class)) s e i

  abbrev makes : Parts B D → Event B → Outcome B → Parts B D → Type 0
  makes = Makes shape (traits_of proper said class) state

  -- An engine holds an index, in which the session's call has so much left to do; and so much is left to flush.
  record At (w h : ℕ) (e : Parts B D) : Type 0 where
    bodies : List (List (Record (Entry B) (Page B)))
    is : index.State B
    holds : HoldsIndex shape (traits_of proper said class) state l e bodies is
    work : left e is ≡ w
    flush : backlog e ≡ h

  goes_on : (w h : ℕ) (old new : Parts B D) → At w h old → makes old (Move s) More new → (v : ℕ) × (f : ℕ) × At v f new × (v < w) × (f < 8192)
  goes_on w h old new at one =
      let stepped = one.steps l at.bodies at.is at.holds in
      let led = stepped.led in
      let less : left new led.index < w = subst (λ n. left new led.index < n) at.work stepped.lowers in (
        left new led.index,
        backlog new,
        record {
          bodies = led.bodies;
          is = led.index;
          holds = led.holds;
          work = refl;
          flush = refl;
        },
        less,
        few_left new (few_orderly new one.order.1),
      )

  waits : (w h : ℕ) (old new : Parts B D) (n : Need) → At w h old → makes old (Move s) (Help n) new → (f : ℕ) × At w f new × (f ≤ h) × HasWork n new
  waits w h old new n at one =
      let led = (one.steps l at.bodies at.is at.holds).led in
      let was = at.flush in
      let no_more = waiting_flushes shape proper said class state short l old new s n one in (
        backlog new,
        record {
          bodies = led.bodies;
          is = led.index;
          holds = led.holds;
          work = waiting_leaves shape proper said class state short l old new s n at.bodies at.is at.holds one s ∙ at.work;
          flush = refl;
        },
        omega (arith, no_more, was),
        names_work shape proper said class state short l old new s n at.bodies at.is at.holds one,
      )

  never_idle : (w h : ℕ) (old new : Parts B D) → At w h old → makes old (Move s) Nothing new → ⊥
  never_idle w h old new at one = (one.steps l at.bodies at.is at.holds).are

  leaves_all : (n : Need) (given : Outcome B) (old new : Parts B D) (i : index.State B)
      → (stepped : Stepped c (reading_of said (format_of class)) (format_of class) (is_node (format_of class)) (state old.volume.shelf.disk) (state new.volume.shelf.disk) (event_of n) old new given i)
      → LeavesAll c (reading_of said (format_of class)) (format_of class) (is_node (format_of class)) old new i stepped.led.index
  leaves_all need.Log given old new i stepped = stepped.lowers
  leaves_all (need.Write page) given old new i stepped = stepped.lowers
  leaves_all need.Checkpoint given old new i stepped = stepped.lowers

  helped : (w h : ℕ) (old new : Parts B D) (n : Need) (given : Outcome B) → At w h old → HasWork n old → makes old (event_of n) given new
      → ((given ≡ More) × ((f : ℕ) × At w f new × (f < h))) ⊎ ((why : Refusal) × (given ≡ Refused why))
  helped w h old new n given at has one = elim (helps shape proper said class state old new n given has one) [
    | inl did ↦
        (let stepped = one.steps l at.bodies at.is at.holds in
        let less = did.1 in
        let was = at.flush in
        inl (
          did.0,
          (
            backlog new,
            record {
              bodies = stepped.led.bodies;
              is = stepped.led.index;
              holds = stepped.led.holds;
              work = leaves_all n given old new at.is stepped s ∙ at.work;
              flush = refl;
            },
            omega (arith, less, was),
          ),
        ))
    | inr refused ↦ inr refused
  ]

-- a session's call alone
module _ {C B D : Type 0} (shape : Members B) (proper : B → Bool) (said : List ℕ → B) (class : Ghosts C B) (state : D → Device) (short : write_record class.KEY ≤ BODY_ROOM) (l : Limits)
    (lawful : 4 ≤ l.most → IsLawful (class_of shape proper l))
    (bounded : (c : Class B) → IsLawful c → (old : index.State B) → IsWhole c old → c.pages ≤ MAX_PAGES → c.rules.most ≤ 100 → (s : ℕ) → work_left c old s < 2 ^ 39) where
  few_from : (old new : Parts B D) (s : ℕ) (due : Event B) (steps : List (Event B × Outcome B)) (bodies : List (List (Record (Entry B) (Page B)))) (i : index.State B)
      → HoldsIndex shape (traits_of proper said class) state l old bodies i → AreDriven s (Run (Move s)) steps (Run due)
      → AreMade (Makes shape (traits_of proper said class) state) old steps new → IsOrderly old → length steps < 2 ^ 55
  few_from old new s due steps bodies i holds driven made order =
      let small : l.pages ≤ MAX_PAGES = subst (λ n. n ≤ MAX_PAGES) (sym holds.keeps.pages) order.pages in
      let most : l.most ≤ 100 = subst (λ n. n ≤ 100) holds.most order.most in
      let work = bounded (class_of shape proper l) (lawful holds.some) i holds.whole small most s in
      let left_few = left_by_few (phase_at (s - 1) old.sessions.phases) (work_left (class_of shape proper l) i s) work in
      let flush_few = few_left old (few_orderly old order) in
      let all = few_driven (Makes shape (traits_of proper said class) state) s (At shape proper said class state short l s) HasWork (goes_on shape proper said class state short l s)
      (waits shape proper said class state short l s) (never_idle shape proper said class state short l s) (helped shape proper said class state short l s) steps old new due made None
      (left shape proper said class state short l s old i) (backlog old) (record { bodies = bodies; is = i; holds = holds; work = refl; flush = refl }) tt driven in
      omega (arith, all, left_few, flush_few)

  few_steps : (old new : Parts B D) (s : ℕ) (due : Event B) (steps : List (Event B × Outcome B)) (bodies : List (List (Record (Entry B) (Page B)))) (i : index.State B)
      → HoldsIndex shape (traits_of proper said class) state l old bodies i → AreDriven s (Run (Move s)) steps (Run due)
      → AreMade (Makes shape (traits_of proper said class) state) old steps new → length steps < 2 ^ 55
  few_steps old new s due [] bodies i holds driven made = omega arith
  few_steps old new s due (step ∷ steps) bodies i holds driven made =
      few_from old new s due (step ∷ steps) bodies i holds driven made made.1.order.0

  pub call_ends : CallEnds shape (traits_of proper said class) state l
  call_ends old new s count due bodies i holds way =
      let few = few_steps old new s due way.steps bodies i holds way.driven way.made in
      let many = way.many in
      omega (arith, few, many)

  -- from an ask on
  few_asked : (old new : Parts B D) (s : ℕ) (call : Call B) (due : Event B) (steps : List (Event B × Outcome B)) (bodies : List (List (Record (Entry B) (Page B)))) (i : index.State B)
      → HoldsIndex shape (traits_of proper said class) state l old bodies i → AreDriven s (Run (Ask s call)) steps (Run due)
      → AreMade (Makes shape (traits_of proper said class) state) old steps new → length steps < 2 ^ 56
  few_asked old new s call due [] bodies i holds driven made = omega arith
  few_asked old new s call due (step ∷ steps) bodies i holds driven made =
      let event : step.0 ≡ Ask s call = (let same = driven.0 in cc) in
      let few = few_after step.1 steps made.0 (subst (λ (x : Event B). Makes shape (traits_of proper said class) state old x step.1 made.0) event made.1) driven.1 made.2 in
      omega (arith, few)
    where
      few_after : (given : Outcome B) (rest : List (Event B × Outcome B)) (middle : Parts B D) → Makes shape (traits_of proper said class) state old (Ask s call) given middle
          → AreDriven s (next_of s given) rest (Run due) → AreMade (Makes shape (traits_of proper said class) state) middle rest new → 1 + length rest < 2 ^ 56
      few_after (Replied reply) rest middle one driven made = absurd (done_rests s reply rest due driven)
      few_after More rest middle one driven made =
          let led = (one.steps l bodies i holds).led in
          let few = few_steps middle new s due rest led.bodies led.index led.holds driven made in
          omega (arith, few)
      few_after given rest middle one driven made = absurd one.comes

  -- so a call from its first event on
  pub starts_end : (old new : Parts B D) (s count : ℕ) (first due : Event B) (bodies : List (List (Record (Entry B) (Page B)))) (i : index.State B)
      → HoldsIndex shape (traits_of proper said class) state l old bodies i → StartsCall s first → IsUnderWay (Makes shape (traits_of proper said class) state) s first old count due new → count < 2 ^ 56
  starts_end old new s count (Ask t call) due bodies i holds starts way =
      let driven = subst (λ n. AreDriven s (Run (Ask n call)) way.steps (Run due)) starts way.driven in
      let few = few_asked old new s call due way.steps bodies i holds driven way.made in
      let many = way.many in
      omega (arith, few, many)
  starts_end old new s count (Move t) due bodies i holds starts way =
      let driven = subst (λ n. AreDriven s (Run (Move n)) way.steps (Run due)) starts way.driven in
      let few = few_steps old new s due way.steps bodies i holds driven way.made in
      let many = way.many in
      omega (arith, few, many)
  starts_end old new s count event due bodies i holds starts way = absurd starts
