-- In which order an opening's calls were made, from its parts.
use Rattle.std.proofs.Common.{inl, inr, ℕ, Bool, List, Result, Ok, Err, refl, sym, subst, arith}
use Rattle.std.specs.Prelude.{MatchResult}
use Rattle.gx_class.specs.Traits.{traits_of}
use Rattle.gx_class.specs.declared.class.KeyClass.{Ghosts}
use Rattle.gx_geom.specs.declared.refusal.Refusal.{Refusal}
use Rattle.gx_disk.specs.Device.{Device, MayLeave}
use Rattle.gx_disk.specs.Moments.{Leaves}
use Rattle.gx_disk.proofs.Leaving.{nothing_leaves}
use Rattle.gx_engine.specs.declared.start.NotOpened.{NotOpened}
use Rattle.gx_engine.specs.States.{Parts}
use Rattle.gx_machine.specs.Keys.{Members}
use Rattle.gx_node.specs.Reading.{Format, format_of}
use Rattle.gx_opening.specs.Formatted.{Says}
use Rattle.gx_opening.specs.Standing.{FindsInOrder, LaysSafely, Stands}
use Rattle.gx_opening.specs.Writing.{IsInOrder, IsUnfit, IsUnwritten, SyncsFirst}
use Rattle.gx_opening.specs.declared.standing.Standing.{Standing}
use Rattle.gx_restart.specs.Beginning.{HasBegun, HasFailed, HasNotBegun}
use Rattle.gx_restart.specs.Keeping.{OpensSafely, StandsForFound}
use Rattle.gx_restart.specs.Order.{RefusedInOrder}
use Rattle.gx_restart.proofs.Ends.{safe_only, safe_then}

-- where no call was made
unwritten_here : (d : Device) → IsUnwritten d d
unwritten_here d = record {
  calls = omega arith;
  only = record { rests = record { seen = refl; settled = λ s was. was }; leaves = nothing_leaves (MayLeave d) d };
}

-- a refusal of these isn't one of those
never_unfit : (why : Refusal) → HasFailed why → IsUnfit why → ⊥
never_unfit why (inl device) (inl other) = cc
never_unfit why (inl device) (inr (inl other)) = cc
never_unfit why (inl device) (inr (inr (inl other))) = cc
never_unfit why (inl device) (inr (inr (inr other))) = cc
never_unfit why (inr memory) (inl other) = cc
never_unfit why (inr memory) (inr (inl other)) = cc
never_unfit why (inr memory) (inr (inr (inl other))) = cc
never_unfit why (inr memory) (inr (inr (inr other))) = cc

module _ {C B D : Type 0} (shape : Members B) (proper : B → Bool) (said : List ℕ → B) (class : Ghosts C B) (state : D → Device) where
  abbrev f : Format B
  f = format_of class

  abbrev Safely : Device → Device → Type 0
  Safely = OpensSafely shape proper said f

  abbrev Lays : Device → Device → Type 0
  Lays = LaysSafely shape proper said f

  pub refused_here : (why : Refusal) (d : D) → RefusedInOrder shape (traits_of proper said class) state why (state d) (state d)
  refused_here why d = record { first = inl (unwritten_here (state d)); unfit = λ is. unwritten_here (state d); laid = λ works. inl (unwritten_here (state d)) }

  lays_first : (d e : Device) → SyncsFirst state Lays d e → SyncsFirst state Safely d e
  lays_first d e first = record { middle = first.middle; synced = first.synced; later = safe_only shape proper said f (state first.middle) e first.later.safe }

  lays_either : (d e : Device) → IsInOrder state Lays d e → IsInOrder state Safely d e
  lays_either d e (inl unwritten) = inl unwritten
  lays_either d e (inr first) = inr (lays_first d e first)

  -- where nothing was found
  pub not_found : (d e : Device) (why : Refusal) → FindsInOrder shape proper said f state d e (Err why) → RefusedInOrder shape (traits_of proper said class) state why d e
  not_found d e why finds = record { first = lays_either d e finds.0; unfit = finds.1; laid = λ works. finds.0 }

  -- what was found, and was then opened or not
  module _ (number : ℕ) (a m : D) (s : Standing B) (st : Stands shape proper said f number (state a) (state m) s)
      (first : SyncsFirst state Lays (state a) (state m)) where
    goes_later : (e : Device) → Leaves (StandsForFound shape proper said f s.parameters (state a).seen) (state m) e → SyncsFirst state Safely (state a) e
    goes_later e leaves =
        let b = state first.middle in
        record {
          middle = first.middle;
          synced = first.synced;
          later = safe_then shape proper said f b (state m) e s.parameters (subst (λ (x : List ℕ). Says x s.parameters) (sym first.synced.only.rests.seen) st.formatted.says) first.later.safe
              (subst (λ (x : List ℕ). Leaves (StandsForFound shape proper said f s.parameters x) (state m) e) (sym first.synced.only.rests.seen) leaves);
        }

    pub found_in_order : (result : Result (Parts B D) (NotOpened D))
        → MatchResult result (λ engine. HasBegun shape proper said f s.parameters (state a).seen (state m) (state engine.volume.shelf.disk) engine)
        (λ n. HasNotBegun shape proper said f s.parameters (state a).seen (state m) (state n.disk) n.why)
        → MatchResult result (λ engine. SyncsFirst state Safely (state a) (state engine.volume.shelf.disk)) (λ n. RefusedInOrder shape (traits_of proper said class) state n.why (state a) (state n.disk))
    found_in_order (Ok engine) came = goes_later (state engine.volume.shelf.disk) came.leaves
    found_in_order (Err n) came = record {
      first = inr (goes_later (state n.disk) came.leaves);
      unfit = λ unfit. absurd (never_unfit n.why came.cause unfit);
      laid = λ works. absurd (works came.cause);
    }
