-- A life may begin on a device that was formatted.
use Rattle.std.proofs.Common.{◌≡◌, ℕ, ◌≤◌, Bool, true, List, [], refl, sym, ap, subst, ◌∙◌, take}
use Rattle.std.specs.Prelude.{OnOk, Result, Ok, Err, replicate, ◌++◌}
use Rattle.std.proofs.lemmas.List.{take_at}
use Rattle.gx_geom.specs.declared.refusal.Refusal.{Refusal}
use Rattle.gx_class.specs.Traits.{traits_of}
use Rattle.gx_class.specs.declared.class.KeyClass.{Ghosts}
use Rattle.gx_disk.specs.Device.{Device, IsSettled}
use Rattle.gx_disk.specs.Sectors.{sector_of}
use Rattle.gx_engine.specs.States.{Parts}
use Rattle.gx_durable.specs.Head.{head_in}
use Rattle.gx_engine.specs.Holds.{Holds}
use Rattle.gx_engine_events.specs.Seen.{Sees, limits_in}
use Rattle.gx_events.specs.Engines.{SeenAs}
use Rattle.gx_format.specs.Formatting.{Formats, formatting, sectors_of}
use Rattle.gx_format.specs.Fresh.{IsFresh, fresh_root}
use Rattle.gx_glog.specs.Parameters.{Fit, parameters_bytes}
use Rattle.gx_glog.specs.declared.parameters.Parameters.{Parameters}
use Rattle.gx_index_laws.specs.Classes.{IsLawful}
use Rattle.gx_index_laws.specs.States.{engine_of}
use Rattle.gx_machine.specs.Keys.{Members, keys_of}
use Rattle.gx_machine.specs.Machine.{fresh_machine}
use Rattle.gx_node.specs.Laws.{HeldPairsAreRead, HeldChildrenAreRead}
use Rattle.gx_node.specs.Reading.{Format, format_of, is_node}
use Rattle.gx_opening.specs.Formatted.{head_of}
use Rattle.gx_opening.specs.Standing.{IsFormatted, limits_of}
use Rattle.gx_opening.proofs.Heads.{head_read}
use Rattle.gx_page.specs.Contents.{Contents}
use Rattle.gx_page.specs.Format.{IsWellFormed}
use Rattle.gx_pool.specs.State.{IsEmpty, State, kept}
use Rattle.gx_durable.specs.Classes.{class_of, reading_of}
use Rattle.gx_recovery.specs.Known.{Limits}
use Rattle.gx_engine_events.specs.New as new_index
use Rattle.gx_engine_events.specs.New.{new_parts}
use Rattle.gx_engine_events.proofs.New.{if_new_sees, run_sectors}
use Rattle.gx_lives.specs.Bearing.{Bears, HasSets}
use Rattle.gx_lives.specs.Lives.{Lies}
use Rattle.gx_lives.specs.OneRun.{IsNew}
use Rattle.gx_lives.proofs.Images.{given_up}

-- the first eight bytes of sector 1 say what a fresh index is formatted for
eight : (p : Parameters) → take 8 (parameters_bytes p ++ replicate 504 0) ≡ parameters_bytes p
eight p = take_at (parameters_bytes p) (replicate 504 0) 8 refl

told_fresh : (p : Parameters) (root : Contents) (seen : List ℕ) → IsFresh p root seen → take 8 (sector_of seen 1) ≡ parameters_bytes p
told_fresh p root seen fresh = ap (λ bytes. take 8 bytes) fresh.laid.told ∙ eight p

-- no frames
abbrev no_frames : State
no_frames = record { pages = []; marks = []; places = []; held = []; gated = 0 }

none_in : IsEmpty 0 no_frames
unfolding kept
none_in = record { count = refl; none = λ page. refl; held = refl; gated = refl }

module _ {C B D : Type 0} (shape : Members B) (proper : B → Bool) (said : List ℕ → B) (class : Ghosts C B) (start : B) (state : D → Device)
    (pairs_read : HeldPairsAreRead class.is_key class.spelling (format_of class)) (children_read : HeldChildrenAreRead class.is_key class.spelling (format_of class))
    (start_is : class.is_key start) (lawful : (l : Limits) → 4 ≤ l.most → IsLawful (class_of shape proper l)) (p : Parameters) (old new : D) (honest : (state old).honest ≡ true) where
  -- an engine that could begin there is seen as the machine with nothing committed
  bears_nothing : Formats state p (fresh_root class.spelling start) old new (Ok tt) → IsWellFormed (fresh_root class.spelling start) → IsFresh p (fresh_root class.spelling start) (state new).seen
      → IsSettled (state new) → HasSets shape (traits_of proper said class) state p fresh_machine (state new)
  bears_nothing formats formed fresh settled =
      let e : Parts B D = new_parts p.pages p.most no_frames new in
      let is_new : new_index.IsNew p.pages p.most 0 e = record { parts = refl; empty = none_in } in
      let made : Result (Parts B D) Refusal = Ok e in
      let sees : Sees shape proper said (format_of class) state e fresh_machine =
      if_new_sees shape proper class.is_key class.spelling said (format_of class) start state pairs_read children_read start_is lawful p old new honest formats formed fresh settled 0 made (refl, is_new) in
      let says : head_in (state new).seen ≡ head_of p =
      head_read (state new).seen p fresh.magic (told_fresh p (fresh_root class.spelling start) (state new).seen fresh) in
      let same : limits_in state e ≡ limits_of p = λ t. record { most = p.most; pages = p.pages; head = says t } in
      given_up shape proper said class state p (lawful (limits_of p) formats.0.least_entries) fresh_machine e (record {
        bodies = sees.bodies;
        index = sees.index;
        holds =
            subst (λ (l : Limits). Holds (class_of shape proper l) (reading_of said (format_of class)) (format_of class) (is_node (format_of class)) (state new) e sees.bodies sees.index)
            same sees.holds;
        seen = subst (λ (l : Limits). SeenAs (keys_of shape) (engine_of (class_of shape proper l) sees.index) fresh_machine) same sees.seen;
      })

  pub begins : (result : Result (Unit {0}) Refusal) → Formats state p (fresh_root class.spelling start) old new result → OnOk result (IsWellFormed (fresh_root class.spelling start))
      → OnOk result (IsFresh p (fresh_root class.spelling start) (state new).seen × IsSettled (state new)) → OnOk result (Bears shape (traits_of proper said class) state p fresh_machine (Lies new))
  begins (Ok done) formats formed fresh = bears_nothing formats formed fresh.0 fresh.1
  begins (Err why) formats formed fresh = tt

-- so a device that was formatted is formatted for them
module _ {B D : Type 0} (shape : Members B) (proper : B → Bool) (said : List ℕ → B) (f : Format B) (root : Contents) (state : D → Device) (p : Parameters) (old new : D) where
  is_formatted : Formats state p root old new (Ok tt) → Fit p → IsFresh p root (state new).seen → IsFormatted shape proper said f p.class (state new) p
  is_formatted formats fit fresh =
      let size : (state new).sectors ≡ (state old).sectors = run_sectors state (formatting p root) old new formats.1.1 in
      record {
        magic = fresh.magic;
        says = record { bytes = told_fresh p root (state new).seen fresh; fit = fit };
        allowed = record { range = formats.0; class_is = refl };
        large = subst (λ (n : ℕ). sectors_of p.pages ≤ n) (sym size) formats.1.0;
      }

  pub formatted : (settled : Type 0) (result : Result (Unit {0}) Refusal) → Formats state p root old new result → Fit p → OnOk result (IsFresh p root (state new).seen × settled)
      → OnOk result (IsFormatted shape proper said f p.class (state new) p)
  formatted settled (Ok done) formats fit fresh = is_formatted formats fit fresh.0
  formatted settled (Err why) formats fit fresh = tt

-- and it is new
pub is_new : {C B D : Type 0} (class : Ghosts C B) (start : B) (state : D → Device) (p : Parameters) (old new : D) → (state old).honest ≡ true → (result : Result (Unit {0}) Refusal)
    → Formats state p (fresh_root class.spelling start) old new result → OnOk result (IsWellFormed (fresh_root class.spelling start)) → OnOk result (IsNew class start state p new)
is_new class start state p old new honest (Ok done) formats formed = record { before = old; honest = honest; formats = formats; root = formed }
is_new class start state p old new honest (Err why) formats formed = tt
