-- Pages as the store shows them.
use Rattle.std.proofs.Common.{◌≡◌, ◌⊎◌, inl, inr, ℕ, List, refl, sym, ap, ◌∙◌, Bool, true, false, Option, Some, None, IsSome, IfSome, arith}
use Rattle.std.specs.Prelude.{not, ◌&&◌, is_none}
use Rattle.std.proofs.lemmas.Bool.{and_parts}
use Rattle.gx_page.specs.Contents.{Contents}
use Rattle.gx_page.specs.Reading.{read_of}
use Rattle.gx_pool.specs.Area.{bytes_of}
use Rattle.gx_pool.specs.Bringing.{HasImage}
use Rattle.gx_pool.specs.Laws.{shown, shown_of, IsBacked}
use Rattle.gx_pool.specs.Marks.{is_held}
use Rattle.gx_pool.specs.State.{State, Kept, IsSpare, kept, stamp_of}
use Rattle.gx_node.specs.Reading.{Format}
use Rattle.gx_node.specs.Store.{node_at, node_of}
use Rattle.gx_store.specs.Standing.{standing, standing_by, standing_node, store_of}
use Rattle.gx_store.specs.State.{Shelf, IsHeld, may_go}
use Rattle.gx_store.proofs.Listed.{node_there}

pub none_of : {A : Type 0} (o : Option A) → is_none o ≡ true → o ≡ None
none_of None is = refl
none_of (Some x) is = absurd (grind (arith, is))

-- a page that may go is clean
pub goes_clean : (frames : State) (page : ℕ) → may_go frames page ≡ true → stamp_of (kept frames page) ≡ None
goes_clean frames page goes = none_of (stamp_of (kept frames page)) (and_parts (is_none (stamp_of (kept frames page))) (not (is_held frames.held (Some page))) goes).0

by_shown : (goes : Bool) (o : Option Kept) (bytes : List ℕ) → (goes ≡ true → (k : Kept) → o ≡ Some k → HasImage bytes k.page) → standing_by goes o (read_of bytes) ≡ shown_of o (read_of bytes)
by_shown goes None bytes backed = refl
by_shown true (Some k) bytes backed = (backed refl k refl).read
by_shown false (Some k) bytes backed = refl

-- if each clean page is what the device has, a page is what the pool shows
pub stands_shown : (frames : State) (seen : List ℕ) (page : ℕ) → IsBacked frames seen → standing frames seen page ≡ shown frames seen page
unfolding standing
stands_shown frames seen page backed = by_shown (may_go frames page) (kept frames page) (bytes_of seen page)
    (λ goes k is. backed page k is (ap stamp_of (sym is) ∙ goes_clean frames page goes))

by_kept : (goes : Bool) (o : Option Kept) (k : Kept) (on_device : Contents) → goes ≡ false → o ≡ Some k → standing_by goes o on_device ≡ k.page
by_kept goes o k on_device stays is = rw (stays, is) refl

-- a page that may not be evicted is what is kept of it
pub stands_kept : (frames : State) (seen : List ℕ) (page : ℕ) (k : Kept) → may_go frames page ≡ false → kept frames page ≡ Some k → standing frames seen page ≡ k.page
unfolding standing
stands_kept frames seen page k stays is = by_kept (may_go frames page) (kept frames page) k (read_of (bytes_of seen page)) stays is

-- a page that may not go isn't spare
pub not_spare : (frames : State) (page : ℕ) → may_go frames page ≡ false → ¬ IsSpare frames page
not_spare frames page stays = λ spare.
    let goes : may_go frames page ≡ true = rw (spare.clean, spare.free) refl in
    absurd (grind (arith, goes, stays))

-- a page that is held may not go
pub held_stays : (frames : State) (page : ℕ) → is_held frames.held (Some page) ≡ true → may_go frames page ≡ false
held_stays frames page held = rw held (by_stamp (stamp_of (kept frames page)))
  where
    by_stamp : (o : Option ℕ) → (is_none o && not true) ≡ false
    by_stamp None = refl
    by_stamp (Some n) = refl

-- nor may one that is dirty
pub dirty_stays : (frames : State) (page stamp : ℕ) → stamp_of (kept frames page) ≡ Some stamp → may_go frames page ≡ false
dirty_stays frames page stamp dirty = rw dirty refl

-- what is lent of a page that is kept
pub record Lent (frames : State) (page : ℕ) (r : Contents) : Type 0 where
  pub k : Kept
  pub is : kept frames page ≡ Some k
  pub same : r ≡ k.page

lent_by : (o : Option Kept) (r : Contents) → IsSome o → IfSome o (λ k. r ≡ k.page) → (k : Kept) × (o ≡ Some k) × (r ≡ k.page)
lent_by None r is same = absurd (grind (arith, is))
lent_by (Some k) r is same = (k, refl, same)

pub lent : (frames : State) (page : ℕ) (r : Contents) → IsSome (kept frames page) → IfSome (kept frames page) (λ k. r ≡ k.page) → Lent frames page r
lent frames page r is same =
    let one = lent_by (kept frames page) r is same in
    record { k = one.0; is = one.1; same = one.2 }

-- the node of a page that is held is that of what is kept of it
pub held_node : {B D : Type 0} (f : Format B) (seen : List ℕ) (s : Shelf D) (page : ℕ) (r : Contents) → IsHeld s page → Lent s.frames page r → node_of f r ≡ node_at (store_of f seen s).nodes page
held_node f seen s page r held is = ap (node_of f) (is.same ∙ sym (stands_kept s.frames seen page is.k held.stays is.is)) ∙ sym (node_there (standing_node f s.frames seen) s.used page held.from held.to)

held_or_dirty : (frames : State) (page : ℕ) (held : Bool) (o : Option ℕ) → (is_none o && not held) ≡ false → (held ≡ true) ⊎ IsSome o
held_or_dirty frames page true o stays = inl refl
held_or_dirty frames page false None stays = absurd (grind (arith, stays))
held_or_dirty frames page false (Some n) stays = inr refl

-- a page that may not go is held or dirty
pub stays_for : (frames : State) (page : ℕ) (k : Kept) → kept frames page ≡ Some k → may_go frames page ≡ false → (is_held frames.held (Some page) ≡ true) ⊎ IsSome k.stamp
stays_for frames page k is stays = held_or_dirty frames page (is_held frames.held (Some page)) k.stamp (ap (λ o. is_none (stamp_of o) && not (is_held frames.held (Some page))) (sym is) ∙ stays)
