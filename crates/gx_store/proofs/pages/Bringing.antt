-- What bringing leaves of a store.
use Rattle.std.proofs.Common.{◌≡◌, inl, ⊎_elim, ℕ, ◌+◌, ◌≤◌, ◌<◌, List, length, get_or, refl, sym, ap, subst, ◌∙◌, Bool, true, false, Option, Some, None, IsSome, Ok, Err, Result, IfErr, OnOk, arith}
use Rattle.std.proofs.lemmas.Bool.Decides.{nat_tests}
use Rattle.gx_disk.specs.Device as disk
use Rattle.gx_page.specs.Contents.{Contents}
use Rattle.gx_page.specs.Reading.{read_of}
use Rattle.gx_node.specs.Reading.{Format}
use Rattle.gx_node.specs.Lists.{Each}
use Rattle.gx_node.specs.Owner.{CountsFaults}
use Rattle.gx_node.specs.Store.{Stays, node_of}
use Rattle.gx_pool.specs.declared.fault.PoolFault.{PoolFault}
use Rattle.gx_pool.specs.declared.fault.PoolFault.TheVariants as pool
use Rattle.gx_pool.specs.Area.{bytes_of, IsPage}
use Rattle.gx_pool.specs.Bringing.{Brings, BringsAll, OnlyRead, faults_of}
use Rattle.gx_pool.specs.Laws.{shown, shown_of, IsBacked, IsPassed}
use Rattle.gx_pool.specs.Marks.{is_held}
use Rattle.gx_pool.specs.State.{State, holding, kept, stamp_of}
use Rattle.gx_pool.proofs.Bringing.{same_held_kept}
use Rattle.gx_pool.proofs.Creating.{none_clean_counted}
use Rattle.gx_pool.proofs.Readable.{bringing_readable, some_not_damaged}
use Rattle.gx_pool.proofs.Shown.{brings_backed, brings_shown, brings_passed}
use Rattle.gx_store.specs.Faults.{IsWhy, told_of, store_fails, is_taken, CanBeRead}
use Rattle.gx_store.specs.Since.{IsAsItWas, GoesOn}
use Rattle.gx_store.specs.Standing.{standing, standing_node, store_of}
use Rattle.gx_store.specs.State.{Shelf, IsHeld, IsInOrder, IsSteady}
use Rattle.gx_store.proofs.Listed.{among_held, beyond_held, each_at, each_from, nodes_long, same_nodes}
use Rattle.gx_store.proofs.Shown.{held_stays, stands_shown}

some_none : (o : Option ℕ) → IsSome o → o ≡ None → ⊥
some_none None is none = absurd (grind (arith, is))
some_none (Some n) is none = absurd (grind (arith, none))

-- so is what is held in place of what was
pub holding_backed : (s : State) (pages seen : List ℕ) → IsBacked s seen → IsBacked (holding s pages) seen
holding_backed s pages seen backed = λ p k is clean. backed p k (sym (same_held_kept s pages p) ∙ is) clean

pub holding_passed : (passes : Contents → Bool) (s : State) (pages : List ℕ) → IsPassed passes s → IsPassed passes (holding s pages)
holding_passed passes s pages passed = λ p k is. passed p k (sym (same_held_kept s pages p) ∙ is)

module _ (passes : Contents → Bool) (d e : disk.Device) (s t : State) (pages : List ℕ) (brings : Brings passes d.honest d.seen (holding s pages) t) (read : OnlyRead d e) where
  honestly : d.honest ≡ true → Brings passes true d.seen (holding s pages) t
  honestly honest = subst {A = Bool} (λ h. Brings passes h d.seen (holding s pages) t) honest brings

  same_seen : d.honest ≡ true → e.seen ≡ d.seen
  same_seen honest = (read.rests honest).seen

  pub brought_steady : IsSteady d s → IsSteady e t
  brought_steady steady = record {
    honest = read.honest ∙ steady.honest;
    backed = subst {A = List ℕ} (λ seen. IsBacked t seen) (sym (same_seen steady.honest)) (brings_backed passes d.seen (holding s pages) t (honestly steady.honest) (holding_backed s pages d.seen steady.backed));
  }

  brought_stands : (p : ℕ) → IsSteady d s → standing t e.seen p ≡ standing s d.seen p
  brought_stands p steady =
      let after = brought_steady steady in
      let here : Contents = read_of (bytes_of d.seen p) in
      stands_shown t e.seen p after.backed
      ∙ ap (λ seen. shown t seen p) (same_seen steady.honest)
      ∙ brings_shown passes d.seen (holding s pages) t p (honestly steady.honest) (holding_backed s pages d.seen steady.backed)
      ∙ ap (λ o. shown_of o here) (same_held_kept s pages p)
      ∙ sym (stands_shown s d.seen p steady.backed)

  clean_was : (p : ℕ) → stamp_of (kept (holding s pages) p) ≡ None → stamp_of (kept s p) ≡ None
  clean_was p is = ap stamp_of (sym (same_held_kept s pages p)) ∙ is

  -- whether it came, went, or stayed, a page is unchanged
  pub brought_as_it_was : (p : ℕ) → IsAsItWas d e s t p
  brought_as_it_was p = ⊎_elim
      (λ same. record { stamp = ap stamp_of (same ∙ same_held_kept s pages p); dirty = λ is. same ∙ same_held_kept s pages p; stands = brought_stands p })
      (λ rest. ⊎_elim
      (λ left.
      let was = clean_was p left.was.clean in
      record { stamp = ap stamp_of left.is ∙ sym was; dirty = λ is. absurd (some_none (stamp_of (kept s p)) is was); stands = brought_stands p })
      (λ came.
      let was = clean_was p (⊎_elim (λ absent. ap stamp_of absent) (λ spare. spare.clean) came.was) in
      record { stamp = ap stamp_of came.is ∙ sym was; dirty = λ is. absurd (some_none (stamp_of (kept s p)) is was); stands = brought_stands p })
      rest)
      (brings.fates p)

module _ {D : Type 0} (passes : ℕ → Contents → Bool) (d e : disk.Device) (s : Shelf D) (disk' : D) (t : State) (pages : List ℕ) where
  pub bringing_goes_on : Brings (passes s.pages) d.honest d.seen (holding s.frames pages) t → OnlyRead d e → d.faults ≤ e.faults → IsPassed (passes s.pages) s.frames
      → GoesOn passes d e s (record s { disk = disk'; frames = t })
  bringing_goes_on brings read faults passed = record {
    device = read;
    faults = faults;
    used = omega arith;
    counter = omega arith;
    pages = refl;
    batch = refl;
    has_room = refl;
    gated = brings.gated;
    frames = brings.frames;
    each = λ p. inl (brought_as_it_was (passes s.pages) d e s.frames t pages brings read p);
    steady = brought_steady (passes s.pages) d e s.frames t pages brings read;
    readable = λ steady is. subst {A = List ℕ} (λ seen. CanBeRead passes (record d { seen = seen }) (record s { disk = disk'; frames = t })) (sym (read.rests steady.honest).seen)
        (bringing_readable (passes s.pages) (is_taken s.used) d.seen (holding s.frames pages) t (subst {A = Bool} (λ h. Brings (passes s.pages) h d.seen (holding s.frames pages) t) steady.honest brings)
        (holding_backed s.frames pages d.seen steady.backed) (holding_passed (passes s.pages) s.frames pages passed) (λ p from taken gone. is p from taken (sym (same_held_kept s.frames pages p) ∙ gone)));
  }

  brought_damaged : Each (λ p. (1 ≤ p) × (p ≤ s.used)) pages → BringsAll {A = Unit {0}} (passes s.pages) d e (holding s.frames pages) t pages (Err pool.Damaged) → IsSteady d s.frames → CanBeRead passes d s → ⊥
  brought_damaged taken brought steady readable =
      some_not_damaged d e (passes s.pages) (is_taken s.used) s.frames t pages (Err pool.Damaged) steady.honest
      (λ k below. (each_at (λ p. (1 ≤ p) × (p ≤ s.used)) pages k taken below).0)
      (λ k below. below_taken (get_or pages k 0) (each_at (λ p. (1 ≤ p) × (p ≤ s.used)) pages k taken below).1)
      readable brought refl
    where
      below_taken : (p : ℕ) → p ≤ s.used → is_taken s.used p ≡ true
      below_taken p is = grind (arith, nat_tests)

  -- why pages were refused
  pub bringing_why : (result : Result (Unit {0}) PoolFault) → Each (λ p. (1 ≤ p) × (p ≤ s.used)) pages → BringsAll (passes s.pages) d e (holding s.frames pages) t pages result
      → IfErr (told_of result) (IsWhy passes d e s (record s { disk = disk'; frames = t }))
  bringing_why (Ok done) taken brought = tt
  bringing_why (Err pool.NoCleanFrame) taken brought = let none = none_clean_counted t brought.answer.2 in record { more = omega (arith, none); few = omega arith; two = omega arith }
  bringing_why (Err pool.Device) taken brought = omega (arith, brought.faults)
  bringing_why (Err pool.Damaged) taken brought = brought_damaged taken brought

  more_faults : (result : Result (Unit {0}) PoolFault) → e.faults ≡ d.faults + faults_of result → d.faults ≤ e.faults
  more_faults result is = omega (arith, is)

  pub brought_goes_on : (result : Result (Unit {0}) PoolFault) → BringsAll (passes s.pages) d e (holding s.frames pages) t pages result → IsInOrder (passes s.pages) d.sectors s.frames s.used s.pages
      → GoesOn passes d e s (record s { disk = disk'; frames = t })
  brought_goes_on result brought order = bringing_goes_on brought.brings brought.only_read (more_faults result brought.faults) order.passed

  -- a page that is brought or isn't is unchanged
  pub brought_same : (result : Result (Unit {0}) PoolFault) (q : ℕ) → BringsAll (passes s.pages) d e (holding s.frames pages) t pages result → IsAsItWas d e s.frames t q
  brought_same result q brought = brought_as_it_was (passes s.pages) d e s.frames t pages brought.brings brought.only_read q

  -- each taken page that is brought is one of the device
  pub fits_device : Each (λ p. (1 ≤ p) × (p ≤ s.used)) pages → IsInOrder (passes s.pages) d.sectors s.frames s.used s.pages → (k : ℕ) → k < length pages → IsPage d.sectors (get_or pages k 0)
  fits_device taken order k below =
      let there = each_at (λ p. (1 ≤ p) × (p ≤ s.used)) pages k taken below in
      record { from = there.0; to = omega (arith, there.1, order.taken, order.few); inside = omega (arith, there.1, order.taken, order.inside) }

  -- no page beyond those that are taken has come
  brought_none_above : Each (λ p. (1 ≤ p) × (p ≤ s.used)) pages → ((q : ℕ) → is_held pages (Some q) ≡ false → kept (holding s.frames pages) q ≡ None → kept t q ≡ None)
      → ((q : ℕ) → s.used < q → kept s.frames q ≡ None) → (q : ℕ) → s.used < q → kept t q ≡ None
  brought_none_above taken alone none q above =
      alone q (beyond_held pages s.used q (each_from (λ p. p ≤ s.used) pages (λ k below. (each_at (λ p. (1 ≤ p) × (p ≤ s.used)) pages k taken below).1)) above) (same_held_kept s.frames pages q ∙ none q above)

  pub brought_in_order : {A : Type 0} (result : Result A PoolFault) → Each (λ p. (1 ≤ p) × (p ≤ s.used)) pages → BringsAll (passes s.pages) d e (holding s.frames pages) t pages result
      → IsInOrder (passes s.pages) d.sectors s.frames s.used s.pages → IsInOrder (passes s.pages) e.sectors t s.used s.pages
  brought_in_order result taken brought order = record {
    few = order.few;
    inside = omega (arith, order.inside, brought.only_read.sectors);
    taken = order.taken;
    passed = brings_passed (passes s.pages) d.honest d.seen (holding s.frames pages) t brought.brings (holding_passed (passes s.pages) s.frames pages order.passed);
    none_above = brought_none_above taken brought.alone order.none_above;
  }

  -- each page that was brought is held
  pub brought_held : (result : Result (Unit {0}) PoolFault) → Each (λ p. (1 ≤ p) × (p ≤ s.used)) pages → BringsAll (passes s.pages) d e (holding s.frames pages) t pages result
      → OnOk (told_of result) (Each (IsHeld (record s { disk = disk'; frames = t })) pages)
  brought_held (Ok done) taken brought = each_from (IsHeld (record s { disk = disk'; frames = t })) pages (λ k below.
      let there = each_at (λ p. (1 ≤ p) × (p ≤ s.used)) pages k taken below in
      let held : is_held t.held (Some (get_or pages k 0)) ≡ true = ap (λ held. is_held held (Some (get_or pages k 0))) brought.brings.held ∙ among_held pages k below in
      record { from = there.0; to = there.1; kept = brought.answer k below; stays = held_stays t (get_or pages k 0) held })
  brought_held (Err pool.NoCleanFrame) taken brought = tt
  brought_held (Err pool.Device) taken brought = tt
  brought_held (Err pool.Damaged) taken brought = tt

-- what holds, holds where a call succeeds
pub on_ok : {A E : Type 0} (result : Result A E) (P : Type 0) → P → OnOk result P
on_ok (Ok done) P is = is
on_ok (Err why) P is = tt

-- a device that was only read has the same nodes
pub brought_nodes : {B D : Type 0} (f : Format B) (passes : ℕ → Contents → Bool) (d e : disk.Device) (s : Shelf D) (disk' : D) (t : State) (pages : List ℕ) → Brings (passes s.pages) d.honest d.seen (holding s.frames pages) t → OnlyRead d e
    → Stays (IsSteady d s.frames) (store_of f d.seen s) (store_of f e.seen (record s { disk = disk'; frames = t }))
brought_nodes f passes d e s disk' t pages brings read = record {
  nodes = λ steady. same_nodes (standing_node f t e.seen) (standing_node f s.frames d.seen) s.used (λ p low high. ap (node_of f) (brought_stands (passes s.pages) d e s.frames t pages brings read p steady));
  used = nodes_long (standing_node f t e.seen) s.used ∙ sym (nodes_long (standing_node f s.frames d.seen) s.used);
  counter = refl;
  room = refl;
}

-- how many calls have failed
bringing_told : (before after : ℕ) (result : Result (Unit {0}) PoolFault) → after ≡ before + faults_of result → CountsFaults store_fails before after (told_of result)
bringing_told before after (Ok done) is = omega (arith, is)
bringing_told before after (Err pool.NoCleanFrame) is = is
bringing_told before after (Err pool.Device) is = is
bringing_told before after (Err pool.Damaged) is = is

-- what a bringing leaves of a store, in one statement
pub record Fetched {D : Type 0} (passes : ℕ → Contents → Bool) (d e : disk.Device) (s t : Shelf D) (pages : List ℕ) (result : Result (Unit {0}) PoolFault) : Type 0 where
  pub goes_on : GoesOn passes d e s t
  pub same : (q : ℕ) → IsAsItWas d e s.frames t.frames q
  pub held : OnOk (told_of result) (Each (IsHeld t) pages)
  pub why : IfErr (told_of result) (IsWhy passes d e s t)
  pub told : CountsFaults store_fails d.faults e.faults (told_of result)

pub fetched : {D : Type 0} (passes : ℕ → Contents → Bool) (d e : disk.Device) (s : Shelf D) (disk' : D) (t : State) (pages : List ℕ) (result : Result (Unit {0}) PoolFault) (n : ℕ) → n ≡ s.pages
    → Each (λ p. (1 ≤ p) × (p ≤ s.used)) pages → BringsAll (passes n) d e (holding s.frames pages) t pages result → IsInOrder (passes s.pages) d.sectors s.frames s.used s.pages
    → Fetched passes d e s (record s { disk = disk'; frames = t }) pages result
fetched passes d e s disk' t pages result n same taken first order =
    let brought = subst {A = ℕ} (λ n. BringsAll (passes n) d e (holding s.frames pages) t pages result) same first in
    record {
      goes_on = brought_goes_on passes d e s disk' t pages result brought order;
      same = λ q. brought_same passes d e s disk' t pages result q brought;
      held = brought_held passes d e s disk' t pages result taken brought;
      why = bringing_why passes d e s disk' t pages result taken brought;
      told = bringing_told d.faults e.faults result brought.faults;
    }
