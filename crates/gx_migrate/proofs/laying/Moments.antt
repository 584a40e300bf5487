-- What a crash may leave at each moment of a migration.
use Rattle.std.proofs.Common.{◌≡◌, ◌∙◌, sym, ap, refl, subst, ⊎_elim, ℕ, ◌+◌, ◌*◌, ◌<◌, ◌≤◌, Bool, true, false, List, [], ◌∷◌, ◌++◌, append_assoc, length, take, drop, replicate, Result, Ok, Err, ◌-◌, arith}
use Rattle.std.proofs.lemmas.List.{drop-replicate, take-replicate}
use Rattle.gx_geom.specs.declared.refusal.Refusal.{Refusal}
use Rattle.gx_disk.specs.declared.layout.TheConstants.{MIN_SECTORS, PAGES_AT}
use Rattle.gx_disk.specs.Device.{Device, MayLeave, IsSettled}
use Rattle.gx_disk.specs.Moments.{Leaves}
use Rattle.gx_disk.specs.Sectors.{sector_of, span_of}
use Rattle.gx_disk.proofs.Leaving.{leaves_weaker, nothing_leaves}
use Rattle.gx_format.specs.Calls.{Call, Write, Sync, Makes, HasRun, HasFailed, Runs}
use Rattle.gx_format.specs.Formatting.{IsCleared, IsOldBeside, clearing, naming, sectors_of}
use Rattle.gx_format.specs.Fresh.{HasMagic, IsUnnamed, magic_bytes}
use Rattle.gx_format.proofs.Keeping.{all_are, call_touches, is_first, keeps, spares_one}
use Rattle.gx_format.proofs.Running.{failed_split}
use Rattle.gx_format.proofs.laws.LayingPhases.{beyond_first, cleared_kept, cleared_shows, clearing_leaves, err_ok}
use Rattle.gx_format.proofs.laws.Wrote.{run_honest, run_spares, run_split, synced, wrote, wrote_all, zero_sector}
use Rattle.gx_glog.specs.declared.extent.TheConstants.{BODIES_A, BODY_SECTORS, GATES_A, GATES_B, PLACES, SELECTOR}
use Rattle.gx_glog.specs.declared.extent.Extent.TheVariants.{A}
use Rattle.gx_glog.specs.declared.parameters.Parameters.{Parameters}
use Rattle.gx_glog.specs.declared.turn.TheConstants.{GATES_SIZE}
use Rattle.gx_glog.specs.First.{closed_gates_bytes, open_gate_bytes, selector_bytes}
use Rattle.gx_glog.specs.Parameters.{parameters_bytes}
use Rattle.gx_pool.specs.Area.{first_of}
use Rattle.gx_migrate.specs.Migrating.{log_writes, migrating, page_writes}
use Rattle.gx_migrate.specs.Moved.{LeavesInPhases}
use Rattle.gx_migrate.proofs.CallLists.{all_joined, log_leaves, log_spares, pages_read, pages_spare}
use Rattle.gx_migrate.proofs.laying.Counted.{runs_calls}
use Rattle.gx_migrate.proofs.laying.LaidOut.{IsLaidOut, laid_same}

module _ {D : Type 0} (state : D → Device) (whole : (d : D) → (state d).honest ≡ true → length (state d).seen ≡ 512 * (state d).sectors)
    (parameters : Parameters) (bytes : List ℕ) (used : ℕ) (body : List ℕ) where
  abbrev middle : List Call
  middle = page_writes bytes used ++ log_writes parameters body

  -- all but the magic is laid out and settled
  record IsDown (d : Device) : Type 0 where
    pub laid : IsLaidOut parameters bytes used body d.seen
    pub settled : (s : ℕ) → 1 ≤ s → d.pending s ≡ false

  module _ (a b : D) (honest : (state a).honest ≡ true) (room : MIN_SECTORS ≤ (state a).sectors) (pages_room : sectors_of used ≤ (state a).sectors)
      (run : HasRun state middle a b) where
    parts : (c : D) × (HasRun state (page_writes bytes used) a c × HasRun state (log_writes parameters body) c b)
    parts = run_split state whole (page_writes bytes used) (log_writes parameters body) a b run

    on : ((state parts.0).honest ≡ (state a).honest) × ((state parts.0).sectors ≡ (state a).sectors)
    on = run_honest state whole (page_writes bytes used) a parts.0 parts.1.0

    still : (state parts.0).honest ≡ true
    still = on.0 ∙ honest

    after : ((state b).honest ≡ (state parts.0).honest) × ((state b).sectors ≡ (state parts.0).sectors)
    after = run_honest state whole (log_writes parameters body) parts.0 b parts.1.1

    log : HasRun state (log_writes parameters body) parts.0 b
    log = parts.1.1

    abbrev calls : List Call
    calls = log_writes parameters body

    first_closed : span_of (state b).seen (GATES_A + 1) (512 * (PLACES - 1)) ≡ take (512 * (PLACES - 1)) (drop (512 * 1) closed_gates_bytes)
    first_closed =
        wrote state whole (take 2 calls) (drop 3 calls) GATES_A PLACES closed_gates_bytes parts.0 b log still (omega (arith, on.1, room)) 1 (PLACES - 1) (omega arith) refl

    zeros : take (512 * (PLACES - 1)) (drop (512 * 1) closed_gates_bytes) ≡ replicate (512 * (PLACES - 1)) 0
    zeros = ap (λ (ys : List ℕ). take (512 * (PLACES - 1)) ys) (drop-replicate (512 * 1) GATES_SIZE 0) ∙ take-replicate (512 * (PLACES - 1)) (GATES_SIZE - 512 * 1) 0 (omega arith)

    laid_out : IsLaidOut parameters bytes used body (state b).seen
    unfolding sector_of span_of
    laid_out = record {
      size = omega (arith, whole b (after.0 ∙ still), after.1, on.1, room);
      told = wrote_all state whole [] (drop 1 calls) 1 1 (parameters_bytes parameters ++ replicate 504 0) parts.0 b log still (omega (arith, on.1, room)) refl;
      selector = wrote_all state whole (take 1 calls) (drop 2 calls) 2 1 (selector_bytes A) parts.0 b log still (omega (arith, on.1, room)) refl;
      opened = wrote_all state whole (take 6 calls) (drop 7 calls) GATES_A 1 open_gate_bytes parts.0 b log still (omega (arith, on.1, room)) refl;
      closed = λ s from below. zero_sector (state b).seen (GATES_A + 1) (PLACES - 1) s (first_closed ∙ zeros) (omega (arith, from)) (omega (arith, below));
      body_is = wrote_all state whole (take 4 calls) (drop 5 calls) BODIES_A BODY_SECTORS body parts.0 b log still (omega (arith, on.1, room)) refl;
      pages = λ p low high.
          run_spares state whole (first_of p) 8 calls parts.0 b (log_leaves parameters body (first_of p) 8 (omega arith)) still log
          ∙ pages_read state whole bytes used p a parts.0 honest pages_room low high parts.1.0;
    }

    down : IsDown (state b)
    down = record { laid = laid_out; settled = λ s from. synced state whole (take 7 calls) parts.0 b log still s }

  -- calls of sector 0 keep it
  down_kept : (call : Call) (d e : Device) (result : Result (Unit {0}) Refusal) → is_first call ≡ true → d.honest ≡ true → IsDown d → Makes call d e result → IsDown e
  down_kept call d e result first honest was makes =
      let touches = call_touches call d e result honest makes in
      record {
        laid = laid_same parameters bytes used body d.seen e.seen touches.size (λ s from. touches.bytes s (beyond_first call s first from)) was.laid;
        settled = λ s from. touches.settled s (beyond_first call s first from) (was.settled s from);
      }

  -- what a crash leaves then has the same
  abbrev IsLaid : List ℕ → Type 0
  IsLaid image = IsLaidOut parameters bytes used body image

  down_shows : (d : Device) → IsDown d → (image : List ℕ) → MayLeave d image → IsLaid image
  down_shows d was image may = laid_same parameters bytes used body d.seen image may.size (λ s from. may.settled s (was.settled s from)) was.laid

  -- in the end it has the magic too
  abbrev pub IsNamed : Device → Type 0
  IsNamed d = HasMagic d.seen × (IsLaid d.seen × IsSettled d)

  magic_read : (a b : D) → (state a).honest ≡ true → MIN_SECTORS ≤ (state a).sectors → HasRun state naming a b → HasMagic (state b).seen
  unfolding sector_of span_of
  magic_read a b honest room run = ap (take 8) (wrote_all state whole [] (Sync ∷ []) 0 1 (magic_bytes ++ replicate 504 0) a b run honest (omega (arith, room)) refl)

  abbrev UnlessUnnamed : List ℕ → Type 0
  UnlessUnnamed image = HasMagic image → IsLaid image

  -- the magic is written
  last_leaves : (a b : D) (result : Result (Unit {0}) Refusal) → (state a).honest ≡ true → MIN_SECTORS ≤ (state a).sectors → IsDown (state a) → Runs state naming a b result
      → Leaves UnlessUnnamed (state a) (state b) × (result ≡ Ok tt → IsNamed (state b))
  last_leaves a b result honest room was runs =
      let kept = keeps state is_first IsDown IsLaid down_kept down_shows naming a b result refl honest was runs in (
        leaves_weaker IsLaid UnlessUnnamed (state a) (state b) (λ image is magic. is) kept.0,
        λ is.
            let run : HasRun state naming a b = subst (λ r. Runs state naming a b r) is runs in
            (magic_read a b honest room run, (kept.1.laid, synced state whole (Write 0 1 (magic_bytes ++ replicate 504 0) ∷ []) a b run honest)),
      )

  middle_leaves : (a b : D) (result : Result (Unit {0}) Refusal) → (state a).honest ≡ true → IsCleared (state a) → Runs state middle a b result → Leaves IsUnnamed (state a) (state b)
  middle_leaves a b result honest was runs =
      (keeps state (spares_one 0 1) IsCleared IsUnnamed cleared_kept cleared_shows middle a b result
      (all_joined (spares_one 0 1) (page_writes bytes used) (log_writes parameters body) (pages_spare bytes used) (log_spares parameters body)) honest was runs).0

  module _ (old : D) (honest : (state old).honest ≡ true) (room : MIN_SECTORS ≤ (state old).sectors) (pages_room : sectors_of used ≤ (state old).sectors) where
    -- at each moment, and in the end
    abbrev Ends : D → Result (Unit {0}) Refusal → Type 0
    Ends new result = LeavesInPhases state IsLaid old new × (result ≡ Ok tt → IsNamed (state new))

    -- the clearing failed
    uncleared : (c : D) (why : Refusal) → Runs state clearing old c (Err why) → Ends c (Err why)
    uncleared c why fails = (
      record {
        cleared = c;
        laid = c;
        first = (clearing_leaves state whole old c (Err why) honest (omega (arith, room)) fails).0;
        first_calls = runs_calls state clearing old c (Err why) fails;
        middle = nothing_leaves IsUnnamed (state c);
        last = nothing_leaves UnlessUnnamed (state c);
        last_calls = omega arith;
      },
      λ is. absurd (err_ok why (Err why) refl is),
    )

    module _ (a : D) (clears : HasRun state clearing old a) where
      begun : ((state a).honest ≡ (state old).honest) × ((state a).sectors ≡ (state old).sectors)
      begun = run_honest state whole clearing old a clears

      cleared_still : (state a).honest ≡ true
      cleared_still = begun.0 ∙ honest

      first : Leaves (IsOldBeside (state old)) (state old) (state a) × IsCleared (state a)
      first = (let one = clearing_leaves state whole old a (Ok tt) honest (omega (arith, room)) clears in (one.0, one.1 refl))

      first_calls : (state a).calls ≤ (state old).calls + 2
      first_calls = runs_calls state clearing old a (Ok tt) clears

      -- what comes between failed
      unlaid : (c : D) (why : Refusal) → Runs state middle a c (Err why) → Ends c (Err why)
      unlaid c why fails = (
        record {
          cleared = a;
          laid = c;
          first = first.0;
          first_calls = first_calls;
          middle = middle_leaves a c (Err why) cleared_still first.1 fails;
          last = nothing_leaves UnlessUnnamed (state c);
          last_calls = omega arith;
        },
        λ is. absurd (err_ok why (Err why) refl is),
      )

      -- all else was written, and then the magic
      named : (b c : D) (result : Result (Unit {0}) Refusal) → HasRun state middle a b → Runs state naming b c result → Ends c result
      named b c result run runs =
          let after = run_honest state whole middle a b run in
          let last = last_leaves b c result (after.0 ∙ cleared_still) (omega (arith, after.1, begun.1, room)) (down a b cleared_still (omega (arith, begun.1, room)) (omega (arith, begun.1, pages_room)) run) runs in (
            record {
              cleared = a;
              laid = b;
              first = first.0;
              first_calls = first_calls;
              middle = middle_leaves a b (Ok tt) cleared_still first.1 run;
              last = last.0;
              last_calls = runs_calls state naming b c result runs;
            },
            last.1,
          )

      behind : (c : D) (result : Result (Unit {0}) Refusal) → Runs state (middle ++ naming) a c result → Ends c result
      behind c (Ok x) run = (let parts = run_split state whole middle naming a c run in named parts.0 c (Ok x) parts.1.0 parts.1.1)
      behind c (Err why) fails =
          ⊎_elim (λ early. unlaid c why (fails.0, early)) (λ later. named later.0 c (Err why) later.1.0 (fails.0, later.1.1)) (failed_split state middle naming a c fails.1)

    all_leaves : (c : D) (result : Result (Unit {0}) Refusal) → Runs state (clearing ++ (middle ++ naming)) old c result → Ends c result
    all_leaves c (Ok x) run = (let first = run_split state whole clearing (middle ++ naming) old c run in behind first.0 first.1.0 c (Ok x) first.1.1)
    all_leaves c (Err why) fails =
        ⊎_elim (λ early. uncleared c why (fails.0, early)) (λ later. behind later.0 later.1.0 c (Err why) (fails.0, later.1.1)) (failed_split state clearing (middle ++ naming) old c fails.1)

    pub migration_leaves : (c : D) (result : Result (Unit {0}) Refusal) → Runs state (migrating parameters bytes used body) old c result → Ends c result
    migration_leaves c result runs =
        all_leaves c result (subst (λ (calls : List Call). Runs state (clearing ++ calls) old c result) (sym (append_assoc (page_writes bytes used) (log_writes parameters body) naming)) runs)
