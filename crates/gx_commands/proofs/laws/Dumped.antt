-- A dump with status 0 over an honest device writes the set that the log kept.
use Rattle.std.proofs.Common.{◌≡◌, ℕ, Bool, true, List, inl, inr, ap, sym, subst, length, arith}
use Rattle.std.specs.Prelude.{Result, Ok, Err, OnOk}
use Rattle.std.specs.Io.KnownBytes.{Appends}
use Rattle.gx_machine.specs.declared.entry.Entry.{Entry}
use Rattle.gx_machine.specs.Keys.{Members}
use Rattle.gx_script.specs.Corners.{Grammar}
use Rattle.gx_class.specs.Traits.{traits_of}
use Rattle.gx_class.specs.declared.class.KeyClass.{Ghosts}
use Rattle.gx_disk.specs.Device.{Device}
use Rattle.gx_node.specs.Reading.{format_of}
use Rattle.gx_glog.specs.declared.parameters.Parameters.{Parameters}
use Rattle.gx_recovery.specs.Analysis.{number_of}
use Rattle.gx_recovery.specs.Damage.{records_of}
use Rattle.gx_index_laws.specs.States.{tree_now}
use Rattle.gx_durable.specs.Classes.{class_of}
use Rattle.gx_engine.specs.States.{Parts}
use Rattle.gx_opening.specs.Standing.{known_for, limits_of}
use Rattle.gx_restart.specs.Beginning.{HoldsFound}
use Rattle.gx_restart.specs.Text.{dump_text}
use Rattle.gx_restart.specs.declared.fault.DumpFault.{DumpFault}
use Rattle.gx_restart.specs.declared.fault.DumpFault.TheVariants as fault
use Rattle.gx_commands.specs.Streams.{Outputs}
use Rattle.gx_commands.specs.Dumping.{DumpsOver, OfTree, TellsDump, TellsKept}
use Rattle.gx_commands.proofs.Refusing.{refused_status}

module _ {B C D : Type 0} (grammar : Grammar B) (shape : Members B) (is_key : B → Bool) (said : List ℕ → B) (class : Ghosts C B) (state : D → Device) where
  zero_not : {A : Type 0} → ◌≡◌ {A = ℕ} 0 1 → A
  zero_not is = absurd (let bad : ⊥ = omega arith in bad)

  -- with status 0 the dump ended well
  dumped_well : {P : Type 0} (result : Result (Unit {0}) DumpFault) (from to : Outputs) → OnOk result P → TellsDump result from to 0 → P × (to ≡ from)
  dumped_well (Ok done) from to well told = (well, told.1)
  dumped_well (Err fault.Write) from to well told = zero_not told.0
  dumped_well (Err (fault.Refused why)) from to well told = zero_not told.status_is

  -- the last commit of an engine that was opened has the number of the set that the log keeps
  last_is : (p : Parameters) (seen : List ℕ) (e : Device) (engine : Parts B D) (kept : HoldsFound shape is_key said (format_of class) p seen e engine)
      → engine.sessions.latest ≡ number_of (known_for shape is_key said (format_of class) p) (records_of kept.found.log.bodies)
  last_is p seen e engine kept =
      let none : length kept.index.older ≡ 0 = ap (λ (sets : List (List (Entry B))). length sets) kept.set.older in
      omega (arith, kept.holds.latest, kept.holds.whole.sets.last, kept.set.oldest, none)

  pub tells_kept : (number frames : ℕ) (disk after : D) (from to : Outputs) → (state disk).honest ≡ true
      → DumpsOver grammar shape (traits_of is_key said class) state number frames disk after from to 0 → TellsKept grammar shape (traits_of is_key said class) state number disk from to
  tells_kept number frames disk after from to honest (inl refused) =
      zero_not (refused_status shape is_key said class state number refused.refused.why refused.refused.disk after from to 0 refused.told)
  tells_kept number frames disk after from to honest (inr dumped) =
      let dump = dumped.dump in
      let engine = dumped.engine in
      let is = dumped.opening.opened honest in
      let p = is.parameters in
      let kept = is.holds in
      let well = dumped_well {P = OfTree shape (traits_of is_key said class) state engine (λ t. Appends from.replies.bytes dump.between.replies.bytes (dump_text grammar engine.sessions.latest t))}
      dump.result dump.between to dump.text dump.told in
      let tree = tree_now (class_of shape is_key (limits_of p)) kept.index in
      let text = dump_text grammar (number_of (known_for shape is_key said (format_of class) p) (records_of kept.found.log.bodies)) tree in
      let wrote : Appends from.replies.bytes dump.between.replies.bytes text =
      subst (λ (n : ℕ). Appends from.replies.bytes dump.between.replies.bytes (dump_text grammar n tree)) (last_is p (state disk).seen (state engine.volume.shelf.disk) engine kept)
      (well.0 (limits_of p) kept.bodies kept.index kept.holds) in
      record {
        parameters = p;
        formatted = is.formatted;
        found = kept.found;
        index = kept.index;
        whole = kept.holds.whole;
        set = kept.set;
        wrote = subst (λ (o : Outputs). Appends from.replies.bytes o.replies.bytes text) (sym well.1) wrote;
      }
