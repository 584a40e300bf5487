-- In which order the index on a device was found: a sync, what is laid, and reads.
use Rattle.std.proofs.Common.{◌≡◌, ◌∙◌, inl, inr, ℕ, ◌+◌, ◌≤◌, Bool, true, List, Result, Ok, Err, sym, subst}
use Rattle.std.specs.Prelude.{IfErr}
use Rattle.gx_disk.specs.Device.{Device, MayLeave}
use Rattle.gx_disk.specs.Moments.{Leaves}
use Rattle.gx_geom.specs.declared.refusal.Refusal.{Refusal}
use Rattle.gx_glog.specs.declared.parameters.Parameters.{Parameters}
use Rattle.gx_found_log.specs.declared.found.FoundLog.{FoundLog}
use Rattle.gx_machine.specs.declared.entry.Entry.{Entry}
use Rattle.gx_machine.specs.Keys.{Members}
use Rattle.gx_node.specs.Reading.{Format}
use Rattle.gx_pool.specs.Bringing.{OnlyRead}
use Rattle.gx_found_log.specs.Laid.{Spares}
use Rattle.gx_opening.specs.Formatted.{Counted, Says, Settles}
use Rattle.gx_opening.specs.Laid.{IsKeptOrFound, IsSpared, LaysLog}
use Rattle.gx_opening.specs.Sound.{IsCause}
use Rattle.gx_opening.specs.Standing.{FindsInOrder, LaysSafely, known_for, reading}
use Rattle.gx_opening.specs.Writing.{IsSynced, IsUnfit, IsUnwritten, SyncsFirst}
use Rattle.gx_opening.specs.declared.standing.Standing.{Standing}
use Rattle.gx_opening.proofs.Sparing.{spared_read}
use Rattle.gx_opening.proofs.Stood.{one_saying, read_safe}

-- what was read after a sync
pub synced_so : (class : ℕ) (a b : Device) (p : Parameters) → Counted 1 a b (Ok p) → b.calls ≡ a.calls + 1 → Settles class a b (Ok p) → IsSynced a b
synced_so class a b p counted calls settles = record { sectors = counted.sectors; honest = counted.honest; calls = calls; only = settles.only; settled = settles.settled }

-- what was refused there
pub unwritten_so : (class : ℕ) (a b : Device) (why : Refusal) → Counted {T = Parameters} 1 a b (Err why) → Settles class a b (Err why) → IsUnwritten a b
unwritten_so class a b why counted settles = record { calls = counted.to; only = settles.only }

-- a device whose log is read, or whose pages are tested, is one of the class
fit : (why : Refusal) → IsCause why → IsUnfit why → ⊥
fit why (inl device) (inl other) = cc
fit why (inl device) (inr (inl other)) = cc
fit why (inl device) (inr (inr (inl other))) = cc
fit why (inl device) (inr (inr (inr other))) = cc
fit why (inr (inl memory)) (inl other) = cc
fit why (inr (inl memory)) (inr (inl other)) = cc
fit why (inr (inl memory)) (inr (inr (inl other))) = cc
fit why (inr (inl memory)) (inr (inr (inr other))) = cc
fit why (inr (inr damaged)) (inl other) = cc
fit why (inr (inr damaged)) (inr (inl other)) = cc
fit why (inr (inr damaged)) (inr (inr (inl other))) = cc
fit why (inr (inr damaged)) (inr (inr (inr other))) = cc

module _ {B : Type 0} (shape : Members B) (is_key : B → Bool) (said : List ℕ → B) (f : Format B) where
  -- what is laid after it
  pub laid_safely : (a b c : Device) (p : Parameters) (result : Result (FoundLog (Entry B)) Refusal) → Says a.seen p → IsSynced a b
      → LaysLog (known_for shape is_key said f p) (reading shape is_key said f) b c result → LaysSafely shape is_key said f b c
  laid_safely a b c p result says synced lays =
      let there : Says b.seen p = subst (λ (s : List ℕ). Says s p) (sym synced.only.rests.seen) says in
      record {
        safe = λ q so. subst (λ (x : Parameters). Leaves (IsKeptOrFound (known_for shape is_key said f x) (reading shape is_key said f) b) b c) (one_saying b.seen p q there so) lays.leaves;
        spares = λ q so. subst (λ (x : Parameters). Spares (IsSpared (known_for shape is_key said f x) (reading shape is_key said f) b.seen) b c) (one_saying b.seen p q there so) lays.spares;
      }

  module _ {D : Type 0} (state : D → Device)
      (counts_now : (d : D) (t : ℕ) (image : List ℕ) → (state d).honest ≡ true → t ≤ (state d).moment → MayLeave (state d) image → (state d).left_since t image)
      (only_now : (d : D) (image : List ℕ) → (state d).honest ≡ true → (state d).left_since (state d).moment image → MayLeave (state d) image) (a : Device) where
    -- and is then read
    read_safely : (b c e : D) → (state b).honest ≡ true → (state c).honest ≡ true → OnlyRead (state c) (state e) → LaysSafely shape is_key said f (state b) (state c)
        → LaysSafely shape is_key said f (state b) (state e)
    read_safely b c e one other read lays = record {
      safe = λ p so. read_safe (known_for shape is_key said f p) (reading shape is_key said f) state counts_now only_now b c e one other (lays.safe p so) read;
      spares = λ p so.
          spared_read (IsSpared (known_for shape is_key said f p) (reading shape is_key said f) (state b).seen) (state b) (state c) (state e) (lays.spares p so) (read.rests other) (read.time other);
    }

    read_first : (c e : D) → a.honest ≡ true → (state c).honest ≡ true → OnlyRead (state c) (state e) → SyncsFirst state (LaysSafely shape is_key said f) a (state c)
        → SyncsFirst state (LaysSafely shape is_key said f) a (state e)
    read_first c e honest other read first = record {
      middle = first.middle;
      synced = first.synced;
      later = read_safely first.middle c e (first.synced.honest ∙ honest) other read first.later;
    }

    pub tested_in_order : (c e : D) → a.honest ≡ true → (state c).honest ≡ true → OnlyRead (state c) (state e) → SyncsFirst state (LaysSafely shape is_key said f) a (state c)
        → (result : Result (Standing B) Refusal) → IfErr result IsCause → FindsInOrder shape is_key said f state a (state e) result
    tested_in_order c e honest other read first (Ok s) cause = read_first c e honest other read first
    tested_in_order c e honest other read first (Err why) cause = (inr (read_first c e honest other read first), λ unfit. absurd (fit why cause unfit))

  -- the log was laid, or was refused
  module _ {D : Type 0} (state : D → Device) (a c : Device) (b : D) (p : Parameters) (says : Says a.seen p) (synced : IsSynced a (state b)) where
    abbrev LogIs : Result (FoundLog (Entry B)) Refusal → Type 0
    LogIs result = LaysLog (known_for shape is_key said f p) (reading shape is_key said f) (state b) c result

    pub laid_in_order : (log : FoundLog (Entry B)) → LogIs (Ok log) → SyncsFirst state (LaysSafely shape is_key said f) a c
    laid_in_order log lays = record { middle = b; synced = synced; later = laid_safely a (state b) c p (Ok log) says synced lays }

    pub unlaid_in_order : (why : Refusal) → IsCause why → LogIs (Err why) → FindsInOrder shape is_key said f state a c (Err why)
    unlaid_in_order why cause lays =
        (inr (record { middle = b; synced = synced; later = laid_safely a (state b) c p (Err why) says synced lays }), λ unfit. absurd (fit why cause unfit))
