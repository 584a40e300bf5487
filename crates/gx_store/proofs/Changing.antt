-- What a change of a page, and the taking of one, leave of a store.
use Rattle.std.proofs.Common.{◌≡◌, ◌≢◌, ◌⊎◌, inl, inr, ⊎_elim, ℕ, zero, suc, ◌+◌, ◌-◌, ◌≤◌, ◌<◌, List, [], ◌∷◌, ◌++◌, length, set, refl, sym, ap, subst, ◌∙◌, Bool, true, false, Option, Some, None, IsSome, arith}
use Rattle.std.specs.Prelude.{not, ◌&&◌, is_none, cond, min}
use Rattle.std.proofs.Math.Decide.{ℕ_discrete}
use Rattle.std.proofs.lemmas.Bool.Decides.{nat_tests}
use Rattle.std.proofs.lemmas.List.{length-set}
use Rattle.gx_disk.specs.Device as disk
use Rattle.gx_page.specs.Contents.{Contents}
use Rattle.gx_page.specs.Reading.{read_of}
use Rattle.gx_node.specs.Reading.{Format}
use Rattle.gx_node.specs.Store.{node_at, node_of, with_node, with_page}
use Rattle.gx_pool.specs.Area.{bytes_of}
use Rattle.gx_pool.specs.Bringing.{Left}
use Rattle.gx_pool.specs.Creating.{Makes}
use Rattle.gx_pool.specs.Edits.{changed, changed_at, later, numbered}
use Rattle.gx_pool.specs.Laws.{IsPassed}
use Rattle.gx_pool.specs.Marks.{is_held}
use Rattle.gx_pool.specs.State.{State, Kept, IsSound, clean_count, kept, place_of, stamp_of}
use Rattle.gx_pool.proofs.Bringing.{only_read_nothing}
use Rattle.gx_pool.proofs.Numbers.{change_keeps_clean}
use Rattle.gx_pool.proofs.Places.{changed_kept, changed_other}
use Rattle.gx_pool.proofs.Readable.{changing_readable, creating_readable}
use Rattle.gx_pool.proofs.Shown.{changes_backed, changes_passed, creates_backed, creates_passed}
use Rattle.gx_store.specs.Changing.{ready_pages}
use Rattle.gx_store.specs.Faults.{AreWanted, is_taken}
use Rattle.gx_store.specs.Since.{IsAsItWas, IsStamped, GoesOn}
use Rattle.gx_store.specs.Standing.{standing, standing_by, standing_node, nodes_to, store_of}
use Rattle.gx_store.specs.State.{Shelf, IsHeld, IsInOrder, may_go}
use Rattle.gx_store.proofs.Listed.{more_nodes, node_there, set_nodes}
use Rattle.gx_store.proofs.Shown.{dirty_stays, held_node, not_spare, stands_kept, stays_for}

-- a page that is kept with the same contents, or isn't kept, is shown alike
pub same_stands : (s t : State) (seen : List ℕ) (page : ℕ) → kept t page ≡ kept s page → t.held ≡ s.held → standing t seen page ≡ standing s seen page
unfolding standing
same_stands s t seen page same held =
    ap (λ o. standing_by (is_none (stamp_of o) && not (is_held t.held (Some page))) o (read_of (bytes_of seen page))) same
    ∙ ap (λ h. standing_by (is_none (stamp_of (kept s page)) && not (is_held h (Some page))) (kept s page) (read_of (bytes_of seen page))) held

goes_by : (goes : Bool) (o : Option Kept) (on_device : Contents) → goes ≡ true → standing_by goes o on_device ≡ on_device
goes_by goes None on_device is = refl
goes_by goes (Some k) on_device is = rw is refl

-- an evicted page is shown as before
pub gone_stands : (s t : State) (seen : List ℕ) (page : ℕ) → Left s t page → standing t seen page ≡ standing s seen page
unfolding standing
gone_stands s t seen page left =
    let goes : may_go s page ≡ true = rw (left.was.clean, left.was.free) refl in
    ap (λ o. standing_by (may_go t page) o (read_of (bytes_of seen page))) left.is ∙ sym (goes_by (may_go s page) (kept s page) (read_of (bytes_of seen page)) goes)

pub kept_alike : (d : disk.Device) (s t : State) (page : ℕ) → kept t page ≡ kept s page → t.held ≡ s.held → IsAsItWas d d s t page
kept_alike d s t page same held = record { stamp = ap stamp_of same; dirty = λ is. same; stands = λ steady. same_stands s t d.seen page same held }

some_none : (o : Option ℕ) → IsSome o → o ≡ None → ⊥
some_none None is none = absurd (grind (arith, is))
some_none (Some n) is none = absurd (grind (arith, none))

pub gone_alike : (d : disk.Device) (s t : State) (page : ℕ) → Left s t page → IsAsItWas d d s t page
gone_alike d s t page left = record {
  stamp = ap stamp_of left.is ∙ sym left.was.clean;
  dirty = λ is. absurd (some_none (stamp_of (kept s page)) is left.was.clean);
  stands = λ steady. gone_stands s t d.seen page left;
}

pub there : (o : Option Kept) → IsSome o → (k : Kept) × (o ≡ Some k)
there None is = absurd (grind arith)
there (Some k) is = (k, refl)

-- ---- a change

changed_at_held : (s : State) (o : Option ℕ) (batch : ℕ) (w : Contents) → (changed_at s o batch w).held ≡ s.held
changed_at_held s None batch w = refl
changed_at_held s (Some i) batch w = refl

pub changed_held : (s : State) (page batch : ℕ) (w : Contents) → (changed s page batch w).held ≡ s.held
changed_held s page batch w = changed_at_held s (place_of s page) batch w

changed_at_gated : (s : State) (o : Option ℕ) (batch : ℕ) (w : Contents) → (changed_at s o batch w).gated ≡ s.gated
changed_at_gated s None batch w = refl
changed_at_gated s (Some i) batch w = refl

changed_at_frames : (s : State) (o : Option ℕ) (batch : ℕ) (w : Contents) → length (changed_at s o batch w).marks ≡ length s.marks
changed_at_frames s None batch w = refl
changed_at_frames s (Some i) batch w = length-set s.marks i _

-- each other page is unchanged
pub change_as_it_was : (d : disk.Device) (s : State) (page q batch : ℕ) (w : Contents) → IsSound s → q ≢ page → IsAsItWas d d s (changed s page batch w) q
change_as_it_was d s page q batch w sound ne = kept_alike d s (changed s page batch w) q (changed_other s page q batch w sound ne) (changed_held s page batch w)

change_each : (d : disk.Device) (s : State) (page q batch : ℕ) (w : Contents) → IsSound s → IsSome (kept s page) → IsAsItWas d d s (changed s page batch w) q ⊎ IsStamped batch s (changed s page batch w) q
change_each d s page q batch w sound is = elim (ℕ_discrete q page) [
  | yes e ↦
      let k = there (kept s page) is in
      inr (subst {A = ℕ} (λ p. IsStamped batch s (changed s page batch w) p) (sym e) (ap stamp_of (changed_kept s page batch w k.0 sound k.1) ∙ ap (λ o. Some (later batch (stamp_of o))) (sym k.1)))
  | no ne ↦ inl (change_as_it_was d s page q batch w sound ne)
]

-- what is held is held after a change
pub change_keeps_held : {D : Type 0} (s : Shelf D) (page : ℕ) (w : Contents) (q : ℕ) → IsSound s.frames → IsSome (kept s.frames page) → IsHeld s q → IsHeld (record s { frames = changed s.frames page s.batch w }) q
change_keeps_held s page w q sound is held = elim (ℕ_discrete q page) [
  | yes e ↦
      let k = there (kept s.frames page) is in
      let now = changed_kept s.frames page s.batch w k.0 sound k.1 in
      record {
        from = held.from;
        to = held.to;
        kept = rw (e, now) refl;
        stays = dirty_stays (changed s.frames page s.batch w) q (later s.batch k.0.stamp) (rw (e, now) refl);
      }
  | no ne ↦
      let same = changed_other s.frames page q s.batch w sound ne in
      record {
        from = held.from;
        to = held.to;
        kept = rw same held.kept;
        stays = ap (λ o. is_none (stamp_of o) && not (is_held (changed s.frames page s.batch w).held (Some q))) same
            ∙ ap (λ h. is_none (stamp_of (kept s.frames q)) && not (is_held h (Some q))) (changed_held s.frames page s.batch w) ∙ held.stays;
      }
]

module _ {D : Type 0} (passes : ℕ → Contents → Bool) (d : disk.Device) (s : Shelf D) (page : ℕ) (w : Contents) where
  pub change_goes_on : IsSound s.frames → IsSome (kept s.frames page) → GoesOn passes d d s (record s { frames = changed s.frames page s.batch w })
  change_goes_on sound is = record {
    device = only_read_nothing d;
    faults = omega arith;
    used = omega arith;
    counter = omega arith;
    pages = refl;
    batch = refl;
    has_room = refl;
    gated = changed_at_gated s.frames (place_of s.frames page) s.batch w;
    frames = changed_at_frames s.frames (place_of s.frames page) s.batch w;
    each = λ q. change_each d s.frames page q s.batch w sound is;
    steady = λ is. record { honest = is.honest; backed = changes_backed d.seen s.frames page s.batch w sound is.backed };
    readable = λ steady is. changing_readable (passes s.pages) (is_taken s.used) d.seen s.frames page s.batch w sound is;
  }

  change_none_above : (q : ℕ) → IsSound s.frames → page ≤ s.used → ((p : ℕ) → s.used < p → kept s.frames p ≡ None) → s.used < q → kept (changed s.frames page s.batch w) q ≡ None
  change_none_above q sound to none above = changed_other s.frames page q s.batch w sound (omega (arith, to, above)) ∙ none q above

  pub change_in_order : (sectors : ℕ) → IsSound s.frames → page ≤ s.used → w.number ≡ page → passes s.pages w ≡ true
      → IsInOrder (passes s.pages) sectors s.frames s.used s.pages → IsInOrder (passes s.pages) sectors (changed s.frames page s.batch w) s.used s.pages
  change_in_order sectors sound to number passing order = record {
    few = order.few;
    inside = order.inside;
    taken = order.taken;
    passed = changes_passed (passes s.pages) s.frames page s.batch w sound number passing order.passed;
    none_above = λ q above. change_none_above q sound to order.none_above above;
  }

-- ---- a page is taken

module _ {D : Type 0} (passes : ℕ → Contents → Bool) (d : disk.Device) (s : Shelf D) (t : State) (w : Contents) (makes : Makes s.frames t (s.used + 1) w s.batch) where
  pub take_as_it_was : (q : ℕ) → q ≢ s.used + 1 → IsAsItWas d d s.frames t q
  take_as_it_was q ne = ⊎_elim (λ same. kept_alike d s.frames t q same makes.held) (λ left. gone_alike d s.frames t q left) (makes.others q ne)

  take_each : (q : ℕ) → kept s.frames (s.used + 1) ≡ None → IsAsItWas d d s.frames t q ⊎ IsStamped s.batch s.frames t q
  take_each q absent = elim (ℕ_discrete q (s.used + 1)) [
    | yes e ↦ inr (subst {A = ℕ} (λ p. IsStamped s.batch s.frames t p) (sym e) (ap stamp_of makes.made ∙ ap (λ o. Some (later s.batch (stamp_of o))) (sym absent)))
    | no ne ↦ inl (take_as_it_was q ne)
  ]

  more_taken : (q : ℕ) → q ≢ s.used + 1 → is_taken (s.used + 1) q ≡ true → is_taken s.used q ≡ true
  more_taken q ne is = grind (arith, nat_tests, ne, is)

  pub take_goes_on : kept s.frames (s.used + 1) ≡ None → IsPassed (passes s.pages) s.frames → GoesOn passes d d s (record s { frames = t; used = s.used + 1 })
  take_goes_on absent passed = record {
    device = only_read_nothing d;
    faults = omega arith;
    used = omega arith;
    counter = omega arith;
    pages = refl;
    batch = refl;
    has_room = refl;
    gated = makes.gated;
    frames = makes.frames;
    each = λ q. take_each q absent;
    steady = λ is. record { honest = is.honest; backed = creates_backed d.seen s.frames t (s.used + 1) s.batch w makes is.backed };
    readable = λ steady is. creating_readable (passes s.pages) (is_taken s.used) (is_taken (s.used + 1)) d.seen s.frames t (s.used + 1) s.batch w makes (λ q ne taken. more_taken q ne taken) steady.backed passed is;
  }

  pub take_keeps_held : (q : ℕ) → IsHeld s q → IsHeld (record s { frames = t; used = s.used + 1 }) q
  take_keeps_held q held =
      let ne : q ≢ s.used + 1 = omega (arith, held.to) in
      let same : kept t q ≡ kept s.frames q = ⊎_elim (λ same. same) (λ left. absurd (not_left q held left)) (makes.others q ne) in
      record {
        from = held.from;
        to = omega (arith, held.to);
        kept = rw same held.kept;
        stays = ap (λ o. is_none (stamp_of o) && not (is_held t.held (Some q))) same ∙ ap (λ h. is_none (stamp_of (kept s.frames q)) && not (is_held h (Some q))) makes.held ∙ held.stays;
      }
    where
      not_left : (p : ℕ) → IsHeld s p → Left s.frames t p → ⊥
      not_left p is left = not_spare s.frames p is.stays left.was

  pub take_holds : IsHeld (record s { frames = t; used = s.used + 1 }) (s.used + 1)
  take_holds = record { from = omega arith; to = omega arith; kept = rw makes.made refl; stays = dirty_stays t (s.used + 1) s.batch (ap stamp_of makes.made) }

  take_none_above : (q : ℕ) → ((p : ℕ) → s.used < p → kept s.frames p ≡ None) → s.used + 1 < q → kept t q ≡ None
  take_none_above q none above = ⊎_elim (λ same. same ∙ none q (omega (arith, above))) (λ left. left.is) (makes.others q (omega (arith, above)))

  pub take_in_order : (sectors : ℕ) → s.used < s.pages → w.number ≡ s.used + 1 → passes s.pages w ≡ true
      → IsInOrder (passes s.pages) sectors s.frames s.used s.pages → IsInOrder (passes s.pages) sectors t (s.used + 1) s.pages
  take_in_order sectors more number passing order = record {
    few = order.few;
    inside = order.inside;
    taken = omega (arith, more);
    passed = creates_passed (passes s.pages) s.frames t (s.used + 1) s.batch w makes number passing order.passed;
    none_above = λ q above. take_none_above q order.none_above above;
  }

-- ---- what can be changed

-- an event that has room may take as many pages as frames are clean
pub is_ready : {D : Type 0} (s : Shelf D) (taken : ℕ) → s.has_room ≡ true → taken ≤ clean_count s.frames → (0 < taken → s.used + taken ≤ s.pages) → taken ≤ ready_pages s
is_ready s zero room clean pages = omega arith
is_ready s (suc n) room clean pages = let fits = pages (omega arith) in rw room (omega (arith, clean, fits))

-- an event with too few frames is refused with no more than it may take
pub are_wanted : {D : Type 0} (s : Shelf D) (taken : ℕ) → taken ≤ 2 → clean_count s.frames < taken → (0 < taken → s.used + taken ≤ s.pages) → AreWanted s taken
are_wanted s taken two more pages = let fits = pages (omega (arith, more)) in record { more = more; few = omega (arith, fits); two = two }

pub record CanTake {D : Type 0} (s : Shelf D) : Type 0 where
  pub room : s.has_room ≡ true
  pub clean : 0 < clean_count s.frames
  pub more : s.used < s.pages

can_by : {D : Type 0} (s : Shelf D) (b : Bool) → s.has_room ≡ b → 0 < cond b (min (clean_count s.frames) (s.pages - s.used)) 0 → CanTake s
can_by s true room some = record { room = room; clean = omega (arith, some); more = omega (arith, some) }
can_by s false room some = absurd (omega (arith, some))

pub can_take : {D : Type 0} (s : Shelf D) → 0 < ready_pages s → CanTake s
can_take s some = can_by s s.has_room refl some

-- a page that is taken takes a clean frame and a page
pub take_lowers_ready : {D : Type 0} (s : Shelf D) (t : State) (w : Contents) → Makes s.frames t (s.used + 1) w s.batch → CanTake s → ready_pages s ≡ suc (ready_pages (record s { frames = t; used = s.used + 1 }))
take_lowers_ready s t w makes can = rw can.room (omega (arith, makes.fewer, can.more, can.clean))

-- a change of a page that is held leaves the clean frames
pub change_leaves_ready : {D : Type 0} (s : Shelf D) (page : ℕ) (w : Contents) → IsSound s.frames → IsHeld s page → ready_pages (record s { frames = changed s.frames page s.batch w }) ≡ ready_pages s
change_leaves_ready s page w sound held =
    let k = there (kept s.frames page) held.kept in
    ap (λ n. cond s.has_room (min n (s.pages - s.used)) 0) (change_keeps_clean s.frames page s.batch w k.0 sound k.1 (stays_for s.frames page k.0 k.1 held.stays))

-- ---- the nodes

-- the changed page has its new node, and each other the one that it had
pub change_nodes : {B D : Type 0} (f : Format B) (seen : List ℕ) (s : Shelf D) (page : ℕ) (w : Contents) → IsSound s.frames → IsHeld s page
    → node_of f w ≡ node_at (store_of f seen (record s { frames = changed s.frames page s.batch w })).nodes page
change_nodes f seen s page w sound held =
    let k = there (kept s.frames page) held.kept in
    held_node f seen (record s { frames = changed s.frames page s.batch w }) page w (change_keeps_held s page w page sound held.kept held)
    (record { k = record { page = w; stamp = Some (later s.batch k.0.stamp) }; is = changed_kept s.frames page s.batch w k.0 sound k.1; same = refl })

pub change_others : {B D : Type 0} (f : Format B) (seen : List ℕ) (s : Shelf D) (page : ℕ) (w : Contents) → IsSound s.frames → IsHeld s page
    → store_of f seen (record s { frames = changed s.frames page s.batch w })
    ≡ with_node (store_of f seen s) page (node_at (store_of f seen (record s { frames = changed s.frames page s.batch w })).nodes page)
change_others f seen s page w sound held =
    let new = changed s.frames page s.batch w in
    let one = set_nodes (standing_node f s.frames seen) (standing_node f new seen) s.used page held.from held.to
    (λ q ne. ap (node_of f) (same_stands s.frames new seen q (changed_other s.frames page q s.batch w sound ne) (changed_held s.frames page s.batch w))) in
    let here = node_there (standing_node f new seen) s.used page held.from held.to in
    ap (λ ns. record { nodes = ns; counter = s.counter; room = s.pages }) (one ∙ ap (λ n. set (nodes_to (standing_node f s.frames seen) s.used) (page - 1) n) (sym here))

pub take_nodes : {B D : Type 0} (f : Format B) (seen : List ℕ) (s : Shelf D) (t : State) (from : ℕ) (k : Kept) → (makes : Makes s.frames t (s.used + 1) (numbered k.page (s.used + 1)) s.batch)
    → kept s.frames from ≡ Some k → IsHeld s from
    → store_of f seen (record s { frames = t; used = s.used + 1 }) ≡ with_page (store_of f seen s) (node_at (store_of f seen s).nodes from)
take_nodes f seen s t from k makes is held =
    let old = standing_node f s.frames seen in
    let new = standing_node f t seen in
    let more = more_nodes old new s.used (λ q low. ap (node_of f) (⊎_elim (λ same. same_stands s.frames t seen q same makes.held) (λ left. gone_stands s.frames t seen q left) (makes.others q (omega (arith, low))))) in
    let stays = dirty_stays t (s.used + 1) s.batch (ap stamp_of makes.made) in
    let here : new (s.used + 1) ≡ node_of f k.page = ap (node_of f) (stands_kept t seen (s.used + 1) (record { page = numbered k.page (s.used + 1); stamp = Some s.batch }) stays makes.made) in
    let there = held_node f seen s from k.page held (record { k = k; is = is; same = refl }) in
    ap (λ ns. record { nodes = ns; counter = s.counter; room = s.pages }) (more ∙ ap (λ n. nodes_to old s.used ++ n ∷ []) (here ∙ there))
