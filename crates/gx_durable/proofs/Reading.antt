-- Reads, syncs, changes and creations: what they leave of a log that is up and of a pool's stamps.
use Rattle.std.proofs.Common.{◌≡◌, ◌≢◌, ◌∙◌, sym, ap, refl, subst, ◌⊎◌, inl, inr, ⊎_elim, ℕ, ◌≤◌, true, false, List, [], ◌∷◌, ◌++◌, Option, None, Some, append_assoc, arith}
use Rattle.std.specs.Prelude.{◌==◌}
use Rattle.std.proofs.lemmas.Bool.{eqb-true}
use Rattle.gx_disk.specs.Device.{Device, Elapses, Rests}
use Rattle.gx_page.specs.Contents.{Contents}
use Rattle.gx_glog.specs.State.{Log}
use Rattle.gx_glog.proofs.Keeping.{on_kept, rested_leaves}
use Rattle.gx_glog.specs.Cuts.{bodies_in}
use Rattle.gx_pool.specs.State.{State, Kept, kept, stamp_of, IsSound}
use Rattle.gx_pool.specs.Edits.{changed, changed_at, later}
use Rattle.gx_pool.proofs.Places.{changed_kept, changed_other, place_none, some-injective}
use Rattle.gx_recovery.specs.Known.{Known}
use Rattle.gx_recovery.specs.Records.{Record}
use Rattle.gx_recovery.specs.Logged.{Logged, all_records, appended}
use Rattle.gx_recovery.proofs.Tests.{true_or_false, clash, itself}
use Rattle.gx_durable.specs.Spelled.{Reading}
use Rattle.gx_durable.specs.Bodies.{AreBodies}
use Rattle.gx_durable.specs.Area.{area_of, is_given}
use Rattle.gx_durable.specs.Standing.{Up}
use Rattle.gx_durable.specs.PoolLaws.{LaterStampsStay, BringingIsClean, CreatingIsLater, ChangeIsLater, RecordSays, StaysUp, ReadsStayUp}
use Rattle.gx_durable.proofs.Heads.{rested_head}
use Rattle.gx_durable.proofs.Moving.{given_more, goes_nowhere}
use Rattle.gx_durable.proofs.Stepping.{call_stands}

pub later_stamps : {E P : Type 0} → LaterStampsStay E P
later_stamps log old new s same only stamped = record {
  behind = omega (arith, same, stamped.behind);
  gated = λ p place is less. ⊎_elim (λ (was : stamp_of (kept old p) ≡ Some place). stamped.gated p place was less)
      (λ (later : log.used ≤ place). absurd (omega (arith, later, less, stamped.places))) (only p place is);
  flight = λ p place is less. ⊎_elim (λ (was : stamp_of (kept old p) ≡ Some place). stamped.flight p place was less)
      (λ (later : log.used ≤ place). absurd (omega (arith, later, less))) (only p place is);
  places = stamped.places;
}

pub bringing_clean : BringingIsClean
bringing_clean passes honest seen old new place brings p stamp is = elim (brings.fates p) [
  | inl same ↦ inl (sym (ap stamp_of same) ∙ is)
  | inr went ↦ elim went [
    | inl left ↦ absurd (let never : ◌≡◌ {A = Option ℕ} None (Some stamp) = sym (ap stamp_of left.is) ∙ is in cc)
    | inr came ↦ absurd (let never : ◌≡◌ {A = Option ℕ} None (Some stamp) = sym (ap stamp_of came.is) ∙ is in cc)
  ]
]

pub unequal : (p q : ℕ) → p ≡ q → (p == q) ≡ false → ⊥
unequal p q same not_so = clash (p == q) (ap (λ n. p == n) (sym same) ∙ itself p) not_so

equal_or_not : (p q : ℕ) → (p ≡ q) ⊎ (p ≢ q)
equal_or_not p q = elim (true_or_false (p == q)) [
  | inl is ↦ inl (eqb-true p q is)
  | inr not_so ↦ inr (λ e. unequal p q e not_so)
]

pub creating_later : CreatingIsLater
creating_later old new page level batch place creates after p stamp is = elim (equal_or_not p page) [
  | inl this ↦ inr (let some : ◌≡◌ {A = Option ℕ} (Some batch) (Some stamp) = sym (ap stamp_of creates.made) ∙ (sym (ap (λ q. stamp_of (kept new q)) this) ∙ is) in
      let same : batch ≡ stamp = some-injective batch stamp some in omega (arith, same, after))
  | inr other ↦ elim (creates.others p other) [
    | inl same ↦ inl (sym (ap stamp_of same) ∙ is)
    | inr left ↦ absurd (let never : ◌≡◌ {A = Option ℕ} None (Some stamp) = sym (ap stamp_of left.is) ∙ is in cc)
  ]
]

later_least : (batch : ℕ) (was : Option ℕ) → batch ≤ later batch was
later_least batch None = omega arith
later_least batch (Some stamp) = omega arith

changed_none : (s : State) (page batch : ℕ) (contents : Contents) → kept s page ≡ None → changed s page batch contents ≡ s
changed_none s page batch contents none = ap (λ o. changed_at s o batch contents) (place_none s page none)

module _ (s : State) (page batch place : ℕ) (contents : Contents) (sound : IsSound s) (least : place ≤ batch) (stamp : ℕ) (is : stamp_of (kept (changed s page batch contents) page) ≡ Some stamp) where
  this_changed : (o : Option Kept) → kept s page ≡ o → (stamp_of (kept s page) ≡ Some stamp) ⊎ (place ≤ stamp)
  this_changed None was = inl (sym (ap (λ (t : State). stamp_of (kept t page)) (changed_none s page batch contents was)) ∙ is)
  this_changed (Some k) was =
      let some : ◌≡◌ {A = Option ℕ} (Some (later batch k.stamp)) (Some stamp) = sym (ap stamp_of (changed_kept s page batch contents k sound was)) ∙ is in
      let same : later batch k.stamp ≡ stamp = some-injective (later batch k.stamp) stamp some in
      inr (omega (arith, same, least, later_least batch k.stamp))

pub change_later : ChangeIsLater
change_later s page batch place contents sound least p stamp is = elim (equal_or_not p page) [
  | inl this ↦ (let same : stamp_of (kept s p) ≡ stamp_of (kept s page) = ap (λ q. stamp_of (kept s q)) this in
      ⊎_elim (λ (was : stamp_of (kept s page) ≡ Some stamp). inl (same ∙ was)) (λ (after : place ≤ stamp). inr after)
      (this_changed s page batch place contents sound least stamp (sym (ap (λ q. stamp_of (kept (changed s page batch contents) q)) this) ∙ is) (kept s page) refl))
  | inr other ↦ inl (sym (ap stamp_of (changed_other s page p batch contents sound other)) ∙ is)
]

module _ {E P : Type 0} where
  pub one_more : (s : Logged E P) (r : Record E P) → all_records (appended r s) ≡ all_records s ++ r ∷ []
  one_more s r = ap (λ (x : List (Record E P)). s.gated ++ x) (sym (append_assoc s.flight s.filling (r ∷ []))) ∙ sym (append_assoc s.gated (s.flight ++ s.filling) (r ∷ []))

pub record_says : (E P : Type 0) → RecordSays E P
record_says E P changed frames s r gives_them said p place is =
    let all : is_given (all_records (appended r s)) p ≡ is_given (all_records s ++ r ∷ []) p = ap (λ (x : List (Record E P)). is_given x p) (one_more s r) in
    elim (true_or_false (changed p)) [
      | inl was ↦ all ∙ gives_them p was
      | inr other ↦ all ∙ given_more (all_records s) (r ∷ []) p (said p place is other)
    ]

-- a device of which nothing reads otherwise, and nothing that was settled is pending, carries what it carried
pub rests_up : {E P : Type 0} → (k : Known E P) (r : Reading E P) (d e : Device) (log : Log) (bodies : List (List (Record E P))) (s : Logged E P) → e.sectors ≡ d.sectors → Rests d e
    → Up k r log d.sectors d.seen d.pending bodies s → Up k r log e.sectors e.seen e.pending bodies s
rests_up {E} {P} k r d e log bodies s sectors rests up =
    let c = up.carries in
    let B : List ℕ → Type 0 = λ seen. AreBodies r (bodies_in seen log.extent log.gated) bodies in
    let S : ℕ → Type 0 = λ n. Up k r log n e.seen e.pending bodies s in
    subst S (sym sectors) (record {
      on = on_kept d.seen e.seen d.pending e.pending log (rested_leaves d e rests) up.on;
      carries = record {
        told = record { gated_bodies = subst B (sym rests.seen) c.told.gated_bodies; gated = c.told.gated; flight = c.told.flight; filling = c.told.filling };
        undamaged = c.undamaged;
        healthy = c.healthy;
        fit = c.fit;
        has_pages = c.has_pages;
        head = rested_head k.head d e rests c.head;
        area = λ p. c.area p ∙ sym (ap (λ (seen : List ℕ). area_of r k.pages seen p) rests.seen);
        settled = λ p n is unnamed within. rests.settled n (c.settled p n is unnamed within);
        turn = λ turns. (let t = c.turn turns in record {
          no_flight = t.no_flight;
          no_filling = t.no_filling;
          written = t.written;
          settled = λ p n is unnamed within. rests.settled n (t.settled p n is unnamed within);
          next = t.next;
          covers = t.covers;
          head_is = t.head_is;
        });
      };
    })

-- so does a call that touches nothing
pub rests_safely : {E P : Type 0} → (k : Known E P) (r : Reading E P) (d e : Device) → e.sectors ≡ d.sectors → (d.honest ≡ true → Rests d e) → (d.honest ≡ true → Elapses d e) → StaysUp k r d e
rests_safely k r d e sectors rests time log bodies s l honest up =
    let after = rests_up k r d e log bodies s sectors (rests honest) up in
    (after, record { goes = goes_nowhere k s; leaves = call_stands k l r log d e bodies s s (time honest) (goes_nowhere k s) after })

pub reads_up : {E P : Type 0} → (k : Known E P) (r : Reading E P) (d e : Device) → ReadsStayUp k r d e
reads_up k r d e reads = rests_safely k r d e reads.sectors reads.rests reads.time
