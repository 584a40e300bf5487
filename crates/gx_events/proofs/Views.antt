-- One machine for an engine; a new engine; what looks find; the committed set.
use Rattle.std.proofs.Common.{◌≡◌, ℕ, Bool, true, false, ◌&&◌, List, Some, refl, ap, sym, ◌∙◌, subst}
use Rattle.std.proofs.lemmas.List.Elements.{All-nil}
use Rattle.gx_machine.specs.declared.entry.Entry.{Entry}
use Rattle.gx_machine.specs.declared.query.Query.{Query}
use Rattle.gx_machine.specs.declared.call.Call.TheVariants.{Search}
use Rattle.gx_machine.specs.Keys.{Keys, IsLawful, matches}
use Rattle.gx_machine.specs.Sets.{has, found, InOrder}
use Rattle.gx_machine.specs.Sessions.{Locks, view}
use Rattle.gx_machine.specs.Machine.{Machine}
use Rattle.gx_machine.specs.Runs.{IsStep}
use Rattle.gx_machine.proofs.SetsByTests.{one_set_of_a_test, set_that_is_gathered}
use Rattle.gx_events.specs.Slots.{Note, Slot, Working, locks_held, slot_at}
use Rattle.gx_events.specs.Engines.{Engine, SeenAs, IsSound, HoldsItsLocks, opened_engine, opened_machine, stood, gathered, changes_of}
use Rattle.gx_events.specs.Happenings.{Happening, IsHappening, step_of}
use Rattle.gx_events.specs.Wants.{HasLooked}
use Rattle.gx_events.proofs.Places.{slot_free}
use Rattle.gx_events.proofs.Follow.{Follows, finds_live}
use Rattle.gx_events.proofs.Faults.{event_follows}

both_ways : (h m v : Bool) → (h ≡ true → (m ≡ true) × (v ≡ true)) → (m ≡ true → v ≡ true → h ≡ true) → h ≡ (m && v)
both_ways true true true right whole = refl
both_ways true true false right whole = sym (right refl).1
both_ways true false v right whole = sym (right refl).0
both_ways false true true right whole = whole refl refl
both_ways false true false right whole = refl
both_ways false false v right whole = refl

module _ {B : Type 0} (k : Keys B) where
  pub opened_sound : (number : ℕ) (set : List (Entry B)) → IsSound k (opened_engine k number set)
  opened_sound number set = record {
    eight = refl;
    holds = λ s. subst (HoldsItsLocks k) (sym (slot_free s)) tt;
    apart = λ a b ne e h.
        let none : has k e (locks_held (slot_at a (opened_engine k number set).slots)).claims ≡ false = ap (λ (x : Slot B). has k e (locks_held x).claims) (slot_free a) in
        let both : true ≡ false = sym h ∙ none in
        absurd (let no : ⊥ = cc in no);
    in_order = All-nil (InOrder k);
  }

  pub opened_seen : (number : ℕ) (set : List (Entry B)) → InOrder k set → SeenAs k (opened_engine k number set) (opened_machine number set)
  opened_seen number set o = record {
    sessions = refl;
    latest = record { in_order = o; members = λ e. refl };
    older = refl;
    oldest = refl;
    failed = refl;
  }

  module _ (l : IsLawful k) where
    pub one_machine : (engine : Engine B) (m n : Machine B) → SeenAs k engine m → SeenAs k engine n → m ≡ n
    one_machine engine m n x y =
        let sessions : m.sessions ≡ n.sessions = x.sessions ∙ sym y.sessions in
        let latest : m.latest ≡ n.latest = one_set_of_a_test k l (stood k engine) m.latest n.latest x.latest y.latest in
        let older : m.older ≡ n.older = x.older ∙ sym y.older in
        let oldest : m.oldest ≡ n.oldest = x.oldest ∙ sym y.oldest in
        let failed : m.failed ≡ n.failed = x.failed ∙ sym y.failed in
        λ i. record { older = older i; latest = latest i; oldest = oldest i; sessions = sessions i; failed = failed i }

    pub event_is_step : (old new : Engine B) (m n : Machine B) (event : Happening B) → IsSound k old → SeenAs k old m → IsHappening k old event new → SeenAs k new n
        → IsStep k m (step_of event) n
    event_is_step old new m n event i seen is then_seen =
        let f : Follows k m (step_of event) new = event_follows k l old m i seen event new is in
        subst (λ (z : Machine B). IsStep k m (step_of event) z) (one_machine new f.next n f.seen then_seen) f.is_step

    pub look_found : (engine : Engine B) (m : Machine B) (s : ℕ) (locks : Locks B) (notes : List (Note B)) (query : Query B) (seen : List (Entry B))
        → (i : IsSound k engine) → (sees : SeenAs k engine m) → slot_at s engine.slots ≡ Working locks notes (Some (Search query)) → HasLooked k query engine.live seen
        → gathered k seen ≡ found k query (view k m.latest (changes_of k engine.live notes))
    look_found engine m s locks notes query seen i sees at look =
        let held : HoldsItsLocks k (Working locks notes (Some (Search query))) = subst (HoldsItsLocks k) at (i.holds s) in
        let set = set_that_is_gathered k l seen in
        finds_live k l engine m i sees s locks notes query (gathered k seen) at held.1 (record {
          in_order = set.in_order;
          members = λ e. set.members e ∙ both_ways (has k e seen) (matches k query e) (engine.live e) (look.right e) (look.whole e);
        })
