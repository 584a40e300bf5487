-- The indexes that one engine holds are seen as one machine.
use Rattle.std.proofs.Common.{◌≡◌, ◌∙◌, sym, ap, refl, subst, ℕ, suc, ◌+◌, ◌<◌, Bool, List, [], ◌∷◌, length, arith}
use Rattle.std.specs.List.{slice_index_or}
use Rattle.gx_machine.specs.declared.entry.Entry.{Entry}
use Rattle.gx_machine.specs.Keys.{IsLawful, Members, keys_of}
use Rattle.gx_machine.specs.Machine.{Machine, newest}
use Rattle.gx_machine.specs.Sets.{IsSetOf}
use Rattle.gx_machine.proofs.SetsByTests.{one_set_of_a_test}
use Rattle.gx_disk.specs.Device.{Device}
use Rattle.gx_page.specs.Contents.{Contents}
use Rattle.gx_node.specs.Reading.{Format}
use Rattle.gx_glog.specs.Cuts.{bodies_in}
use Rattle.gx_recovery.specs.Damage.{records_of}
use Rattle.gx_recovery.specs.Known.{Known}
use Rattle.gx_recovery.specs.Logged.{Logged, kept, latest}
use Rattle.gx_recovery.specs.Records.{Record}
use Rattle.gx_events.specs.Engines.{Engine, SeenAs}
use Rattle.gx_events.proofs.Views.{one_machine}
use Rattle.gx_index_laws.specs.Classes.{Class, Page, is_live, known_of}
use Rattle.gx_index_laws.specs.States as index
use Rattle.gx_index_laws.specs.States.{engine_of, tree_after}
use Rattle.gx_durable.specs.Spelled.{Reading}
use Rattle.gx_durable.specs.Standing.{Tells, batch_of}
use Rattle.gx_durable.proofs.BodyLists.{bodies_one_way}
use Rattle.gx_durable.proofs.Spellings.{one_way}
use Rattle.gx_engine.specs.Holds.{Holds}
use Rattle.gx_engine.specs.States.{Parts}
use Rattle.gx_engine_events.specs.Seen.{Sees}

-- lists of the same length with the same items are one
same_items : {X : Type 0} (d : X) (xs ys : List X) → length xs ≡ length ys → ((n : ℕ) → n < length xs → slice_index_or xs n d ≡ slice_index_or ys n d) → xs ≡ ys
same_items d [] [] long each = refl
same_items d [] (y ∷ ys) long each = absurd (omega (arith, long))
same_items d (x ∷ xs) [] long each = absurd (omega (arith, long))
same_items d (x ∷ xs) (y ∷ ys) long each =
    let first : x ≡ y = each 0 (omega arith) in
    let rest : xs ≡ ys = same_items d xs ys (omega (arith, long)) (λ n low. each (suc n) (omega (arith, low))) in
    λ t. first t ∷ rest t

module _ {B D : Type 0} (c : Class B) (r : Reading (Entry B) (Page B)) (f : Format B) (passes : ℕ → Contents → Bool) (d : Device) (e : Parts B D) (one other : List (List (Record (Entry B) (Page B))))
    (i j : index.State B) (h : Holds c r f passes d e one i) (w : Holds c r f passes d e other j) where
  k : Known (Entry B) (Page B)
  k = known_of c

  told : Tells r e.volume.log d.seen one i.log
  told = h.keeps.runs.up.carries.told

  again : Tells r e.volume.log d.seen other j.log
  again = w.keeps.runs.up.carries.told

  same_bodies : one ≡ other
  same_bodies = bodies_one_way r (bodies_in d.seen e.volume.log.extent e.volume.log.gated) one other told.gated_bodies again.gated_bodies

  gated : i.log.gated ≡ j.log.gated
  gated = sym told.gated ∙ ap records_of same_bodies ∙ again.gated

  flight : i.log.flight ≡ j.log.flight
  flight = one_way r (batch_of e.volume.log.stage e.volume.log.flight) i.log.flight j.log.flight told.flight again.flight

  filling : i.log.filling ≡ j.log.filling
  filling = one_way r e.volume.log.filling i.log.filling j.log.filling told.filling again.filling

  area : (p : ℕ) → i.log.area p ≡ j.log.area p
  area p = h.keeps.runs.up.carries.area p ∙ sym (w.keeps.runs.up.carries.area p)

  same_log : i.log ≡ j.log
  same_log = λ t. record { area = λ p. area p t; gated = gated t; flight = flight t; filling = filling t }

  oldest : i.oldest ≡ j.oldest
  oldest = h.sessions.oldest ∙ sym w.sessions.oldest

  module _ (l : IsLawful c.keys) where
    long : length i.older ≡ length j.older
    long =
        let first = h.whole.sets.last in let second = w.whole.sets.last in
        let same : latest (known_of c) i.log ≡ latest (known_of c) j.log = ap (latest (known_of c)) same_log in
        omega (arith, first, second, same, oldest)

    older : i.older ≡ j.older
    older = same_items [] i.older j.older long (λ n low.
        let theirs : IsSetOf c.keys (kept (known_of c) j.log (j.oldest + n)) (slice_index_or j.older n []) = w.whole.sets.sets n (omega (arith, low, long)) in
        one_set_of_a_test c.keys l (kept (known_of c) i.log (i.oldest + n)) (slice_index_or i.older n []) (slice_index_or j.older n []) (h.whole.sets.sets n low)
        (subst (λ (x : Logged (Entry B) (Page B)). IsSetOf c.keys (kept (known_of c) x (i.oldest + n)) (slice_index_or j.older n [])) (sym same_log)
        (subst (λ (o : ℕ). IsSetOf c.keys (kept (known_of c) j.log (o + n)) (slice_index_or j.older n [])) (sym oldest) theirs)))

    slots : i.slots ≡ j.slots
    slots = h.sessions.slots ∙ sym w.sessions.slots

    failed : i.failed ≡ j.failed
    failed = h.sessions.failed ∙ sym w.sessions.failed

    same_engine : engine_of c i ≡ engine_of c j
    same_engine = λ t. record { live = is_live c (tree_after c (same_log t)); slots = slots t; older = older t; oldest = oldest t; failed = failed t }

    pub one_of_indexes : (m n : Machine B) → SeenAs c.keys (engine_of c i) m → SeenAs c.keys (engine_of c j) n → m ≡ n
    one_of_indexes m n a b = one_machine c.keys l (engine_of c j) m n (subst (λ (x : Engine B). SeenAs c.keys x m) same_engine a) b

module _ {B D : Type 0} (shape : Members B) (proper : B → Bool) (said : List ℕ → B) (f : Format B) (state : D → Device) (l : IsLawful (keys_of shape)) where
  -- so an engine is seen as one machine
  pub one_seen : (e : Parts B D) (m n : Machine B) → Sees shape proper said f state e m → Sees shape proper said f state e n → m ≡ n
  one_seen e m n a b = one_of_indexes _ _ _ _ _ e a.bodies b.bodies a.index b.index a.holds b.holds l m n a.seen b.seen

  -- and the number of its last commit is the machine's
  pub number_seen : (e : Parts B D) (m : Machine B) → Sees shape proper said f state e m → e.sessions.latest ≡ newest m
  number_seen e m a =
      let last = a.holds.whole.sets.last in let is = a.holds.latest in
      let oldest : m.oldest ≡ a.index.oldest = a.seen.oldest in
      let older : length m.older ≡ length a.index.older = ap length a.seen.older in
      omega (arith, last, is, oldest, older)
