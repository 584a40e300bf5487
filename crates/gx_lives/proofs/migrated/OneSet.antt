-- A device of the first version holds one set.
use Rattle.std.proofs.Common.{◌≡◌, ◌∙◌, sym, ap, subst, ℕ, Bool, List}
use Rattle.gx_class.specs.Traits.{traits_of}
use Rattle.gx_class.specs.declared.class.KeyClass.{Ghosts}
use Rattle.gx_disk.specs.Device.{Device}
use Rattle.gx_durable.specs.Area.{area_of}
use Rattle.gx_durable.proofs.BodyLists.{bodies_one_way}
use Rattle.gx_durable.specs.Classes.{reading_of}
use Rattle.gx_durable.specs.Spelled.{Reading}
use Rattle.gx_glog.specs.declared.parameters.Parameters.{Parameters}
use Rattle.gx_index_laws.specs.Classes.{Page}
use Rattle.gx_machine.specs.declared.entry.Entry.{Entry}
use Rattle.gx_machine.specs.Keys.{IsLawful, Members, keys_of}
use Rattle.gx_machine.specs.Sets.{IsSetOf}
use Rattle.gx_machine.proofs.SetsByTests.{one_set_of_a_test}
use Rattle.gx_node.specs.Reading.{format_of}
use Rattle.gx_older.specs.Renumbered.{renumbered}
use Rattle.gx_older.specs.Told.{Tells}
use Rattle.gx_opening.specs.Formatted.{Says}
use Rattle.gx_opening.specs.Standing.{known_for}
use Rattle.gx_opening.proofs.Stood.{one_saying}
use Rattle.gx_recovery.specs.Analysis.{number_of}
use Rattle.gx_recovery.specs.Damage.{records_of}
use Rattle.gx_recovery.specs.Known.{Known}
use Rattle.gx_recovery.specs.Records.{Record}
use Rattle.gx_recovery.specs.Standing.{stands_for}
use Rattle.gx_lives.specs.Migrated.{HoldsOlder}

module _ {C B : Type 0} (shape : Members B) (lawful : IsLawful (keys_of shape)) (proper : B → Bool) (said : List ℕ → B) (class : Ghosts C B) (d : Device) where
  abbrev Holds : Parameters → ℕ → List (Entry B) → Type 0
  Holds p n set = HoldsOlder shape (traits_of proper said class) p d n set

  abbrev r : Reading (Entry B) (Page B)
  r = reading_of said (format_of class)

  -- under the same parameters its log is one
  one_of : (p : Parameters) (m n : ℕ) (xs ys : List (Entry B)) → Holds p m xs → Holds p n ys → (m ≡ n) × (xs ≡ ys)
  one_of p m n xs ys one other =
      let k : Known (Entry B) (Page B) = known_for shape proper said (format_of class) p in
      let area : ℕ → Page B = area_of r p.pages (renumbered p.pages d.seen) in
      let same : one.log.bodies ≡ other.log.bodies = bodies_one_way r _ one.log.bodies other.log.bodies one.log.told other.log.told in
      let test : Entry B → Bool = stands_for k area (records_of one.log.bodies) in
      let its : IsSetOf (keys_of shape) test ys =
      subst (λ (bodies : List (List (Record (Entry B) (Page B)))). IsSetOf (keys_of shape) (stands_for k area (records_of bodies)) ys) (sym same) other.set_is in (
        one.number_is ∙ ap (λ (bodies : List (List (Record (Entry B) (Page B)))). number_of k (records_of bodies)) same ∙ sym other.number_is,
        one_set_of_a_test (keys_of shape) lawful test xs ys one.set_is its,
      )

  -- a device's bytes say what it is formatted for
  says : (p : Parameters) → Tells d.seen p → Says d.seen p
  says p tells = record { bytes = tells.bytes; fit = tells.fit }

  -- which is one index
  pub one_set : (p q : Parameters) (m n : ℕ) (xs ys : List (Entry B)) → Holds p m xs → Holds q n ys → (p ≡ q) × ((m ≡ n) × (xs ≡ ys))
  one_set p q m n xs ys one other =
      let same : p ≡ q = one_saying d.seen p q (says p one.older.1.0) (says q other.older.1.0) in
      (same, one_of p m n xs ys one (subst (λ (t : Parameters). Holds t n ys) (sym same) other))
