-- A device that an older index was migrated to bears the machine with its set alone.
use Rattle.std.proofs.Common.{◌≡◌, refl, sym, subst, ℕ, ◌+◌, ◌-◌, ◌*◌, ◌≤◌, Bool, true, List, [], ◌∷◌, length, Result, Ok, Err, arith}
use Rattle.std.specs.List.{slice_index_or}
use Rattle.std.specs.Prelude.{IfOk}
use Rattle.gx_class.specs.Traits.{traits_of}
use Rattle.gx_class.specs.declared.class.KeyClass.{Ghosts}
use Rattle.gx_disk.specs.Device.{Device, IsSettled}
use Rattle.gx_durable.specs.Area.{area_of}
use Rattle.gx_durable.specs.Classes.{class_of, reading_of}
use Rattle.gx_durable.specs.Spelled.{Reading}
use Rattle.gx_events.specs.Engines.{opened_machine}
use Rattle.gx_format.specs.Formatting.{sectors_of}
use Rattle.gx_glog.specs.declared.parameters.Parameters.{Parameters}
use Rattle.gx_index_laws.specs.Classes.{Class, IsLawful, Page, known_of}
use Rattle.gx_index_laws.specs.Openings.{IsKeptBy}
use Rattle.gx_machine.specs.declared.entry.Entry.{Entry}
use Rattle.gx_machine.specs.Keys.{Members}
use Rattle.gx_machine.specs.Machine.{Machine}
use Rattle.gx_machine.specs.Sets.{IsSetOf}
use Rattle.gx_migrate.specs.Migrated.{HasMovedBy, IsMigrated}
use Rattle.gx_node.specs.Reading.{format_of}
use Rattle.gx_older.specs.Renumbered.{renumbered}
use Rattle.gx_opening.specs.Standing.{limits_of}
use Rattle.gx_recovery.specs.Analysis.{number_of}
use Rattle.gx_recovery.specs.Damage.{records_of}
use Rattle.gx_recovery.specs.Known.{Limits}
use Rattle.gx_recovery.specs.Records.{Record}
use Rattle.gx_recovery.specs.Standing.{stands_for}
use Rattle.gx_lives.specs.Bearing.{HasSet, HasSets}
use Rattle.gx_lives.specs.Migrated.{BearsMigrated}
use Rattle.gx_lives.proofs.Images.{come_up, found_with}

-- a log is kept by the machine that has what it stands for alone, under its number
kept_alone : {B : Type 0} (c : Class B) (area : ℕ → Page B) (log : List (Record (Entry B) (Page B))) (number : ℕ) (set : List (Entry B)) → number ≡ number_of (known_of c) log
    → IsSetOf c.keys (stands_for (known_of c) area log) set → IsKeptBy c (opened_machine number set) area log
kept_alone c area log number set same is =
    let none : number_of (known_of c) log - number ≡ 0 = omega (arith, same) in
    let last : number_of (known_of c) log ≤ number + 0 = omega (arith, same) in
    record {
      at_least = omega (arith, same);
      at_most = last;
      set = subst (λ (n : ℕ). IsSetOf c.keys (stands_for (known_of c) area log) (slice_index_or (set ∷ []) n [])) (sym none) is;
    }

module _ {C B D : Type 0} (shape : Members B) (proper : B → Bool) (said : List ℕ → B) (class : Ghosts C B) (state : D → Device) where
  abbrev r : Reading (Entry B) (Page B)
  r = reading_of said (format_of class)

  -- a settled device that has moved so has that set alone
  has_moved : (p : Parameters) → IsLawful (class_of shape proper (limits_of p)) → (d : Device) → length d.seen ≡ 512 * d.sectors → d.honest ≡ true → sectors_of p.pages ≤ d.sectors → IsSettled d
      → (seen : List ℕ) (told : ℕ × ℕ) (moved : HasMovedBy shape proper said (format_of class) p seen d.seen told) (set : List (Entry B))
      → IsSetOf (class_of shape proper (limits_of p)).keys (stands_for (known_of (class_of shape proper (limits_of p))) (area_of r p.pages seen) (records_of moved.moved.1.log.bodies)) set
      → HasSets shape (traits_of proper said class) state p (opened_machine told.0 set) d
  has_moved p lawful d long honest large settled seen told moved set is =
      let m : Machine B = opened_machine told.0 set in
      let log = moved.moved.1.log in
      let kept = kept_alone (class_of shape proper (limits_of p)) (area_of r p.pages seen) (records_of log.bodies) told.0 set moved.commits is in
      let has : HasSet shape (traits_of proper said class) state p m d.seen = found_with shape proper said class state p lawful m seen d.seen log moved.moved.1.stands kept in
      come_up shape proper said class state p lawful m (HasSet shape (traits_of proper said class) state p m) d long (λ image has. has) d.sectors large
      (record { honest = honest; sectors = refl; left = has; settled = settled })

  -- so a migration begins a life: what a log stands for can be listed
  pub begun : ((l : Limits) → 4 ≤ l.most → IsLawful (class_of shape proper l))
      → ((c : Class B) → IsLawful c → (area : ℕ → Page B) (log : List (Record (Entry B) (Page B))) → (set : List (Entry B)) × IsSetOf c.keys (stands_for (known_of c) area log) set)
      → (old : Device) (new : D) (told : ℕ × ℕ) → length (state new).seen ≡ 512 * (state new).sectors → (state new).honest ≡ true
      → IsMigrated shape proper said (format_of class) class.CLASS old (state new) told → BearsMigrated shape (traits_of proper said class) state old new told
  begun lawful listed old new told long honest is =
      let p : Parameters = is.parameters in
      let c : Class B = class_of shape proper (limits_of p) in
      let its : IsLawful c = lawful (limits_of p) is.older.1.1.0.range.least_entries in
      let seen : List ℕ = renumbered p.pages old.seen in
      let log = is.moved.moved.1.log in
      let set = listed c its (area_of r p.pages seen) (records_of log.bodies) in
      record {
        parameters = p;
        set = set.0;
        held = record { older = is.older; log = log; number_is = is.moved.commits; set_is = set.1 };
        bears = has_moved p its (state new) long honest is.large is.settled seen told is.moved set.0 set.1;
      }

-- so of whatever a migration comes to
pub if_ok : {T E : Type 0} (P Q : T → Type 0) → ((x : T) → P x → Q x) → (result : Result T E) → IfOk result P → IfOk result Q
if_ok P Q so (Ok x) is = so x is
if_ok P Q so (Err e) is = tt
