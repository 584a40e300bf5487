-- A transaction takes away only what it claims, so that there is room for it.
use Rattle.std.proofs.Common.{◌≡◌, ℕ, ◌≤◌, true, List, length, refl, sym, subst, arith}
use Rattle.std.specs.Prelude.{None, Some}
use Rattle.gx_machine.specs.declared.entry.Entry.{Entry}
use Rattle.gx_machine.specs.declared.call.Call.TheVariants.{Begin, Insert, Delete, Search, Commit, Abort}
use Rattle.gx_machine.specs.Keys.{Keys, IsLawful}
use Rattle.gx_machine.specs.Sets.{has, including, excluding}
use Rattle.gx_machine.specs.Sessions.{Locks, Changes, Session, claims_of}
use Rattle.gx_machine.proofs.SetLaws.{in_order_including, in_order_filter}
use Rattle.gx_machine.proofs.SessionMoves.{covered_including, covered_excluding}
use Rattle.gx_machine.proofs.Covers.{length-covered}
use Rattle.gx_plain.specs.declared.slot.SlotPhase.{SlotPhase}
use Rattle.gx_plain.specs.declared.slot.SlotPhase.TheVariants as phase
use Rattle.gx_plain.specs.Slots.{session_of, DeleteIsClaimed, TakesClaimed, IsDeleting}

-- the entry of an open delete is claimed, and the claims are the session's
claimed_by : {B : Type 0} (k : Keys B) (e : Entry B) (p : SlotPhase B) (h : Locks B) (c : Changes B) → IsDeleting e (session_of p h c) → DeleteIsClaimed k p h.claims
    → (has k e h.claims ≡ true) × (claims_of (session_of p h c) ≡ length h.claims)
claimed_by k e phase.Idle h c deleting asked = absurd deleting
claimed_by k e (phase.Open None) h c deleting asked = absurd deleting
claimed_by k e (phase.Open (Some Begin)) h c deleting asked = absurd deleting
claimed_by k e (phase.Open (Some (Insert d))) h c deleting asked = absurd deleting
claimed_by k e (phase.Open (Some (Delete d))) h c deleting asked = (subst (λ (x : Entry _). has k x h.claims ≡ true) deleting asked, refl)
claimed_by k e (phase.Open (Some (Search q))) h c deleting asked = absurd deleting
claimed_by k e (phase.Open (Some Commit)) h c deleting asked = absurd deleting
claimed_by k e (phase.Open (Some Abort)) h c deleting asked = absurd deleting
claimed_by k e phase.Aborting h c deleting asked = absurd deleting
claimed_by k e (phase.Committing number) h c deleting asked = absurd deleting

module _ {B : Type 0} (k : Keys B) (l : IsLawful k) (e : Entry B) (p : SlotPhase B) (claims taken : List (Entry B)) (takes : TakesClaimed k p claims taken) where
  -- with an entry more that is claimed
  pub takes_more : has k e claims ≡ true → TakesClaimed k (phase.Open None) claims (including k e taken)
  takes_more there = record {
    in_order = in_order_including k l e taken takes.in_order;
    claimed = covered_including k l e taken claims there takes.claimed;
    asked = tt;
  }

  -- with an entry less
  pub takes_less : TakesClaimed k (phase.Open None) claims (excluding k e taken)
  takes_less = record {
    in_order = in_order_filter k l _ taken takes.in_order;
    claimed = covered_excluding k l e taken claims takes.claimed;
    asked = tt;
  }

  -- there is room for the entry of an open delete
  pub delete_fits : has k e claims ≡ true → (places : ℕ) → length claims ≤ places → length (including k e taken) ≤ places
  delete_fits there places few =
      let more = takes_more there in omega (arith, length-covered k l (including k e taken) claims more.in_order more.claimed)

-- the entry of an open delete is claimed by the session, which has no more claims than these places
pub delete_claimed : {B : Type 0} (k : Keys B) (e : Entry B) (p : SlotPhase B) (h : Locks B) (c : Changes B) (x : Session B) (places : ℕ) → session_of p h c ≡ x → IsDeleting e x → DeleteIsClaimed k p h.claims
    → claims_of x ≤ places → (has k e h.claims ≡ true) × (length h.claims ≤ places)
delete_claimed k e p h c x places is deleting asked few =
    let both = claimed_by k e p h c (subst (λ (y : Session _). IsDeleting e y) (sym is) deleting) asked in
    (both.0, subst (λ (n : ℕ). n ≤ places) both.1 (subst (λ (y : Session _). claims_of y ≤ places) (sym is) few))
