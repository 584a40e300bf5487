-- The tree that a store shows which keeps no page is the tree of its device's pages.
use Rattle.std.proofs.Common.{◌≡◌, ℕ, ◌<◌, ◌≤◌, Bool, true, false, List, [], ◌∷◌, None, Result, Err, refl, sym, ap, subst, ◌∙◌, arith}
use Rattle.std.specs.Prelude.{nat_le, nat_lt, ◌&&◌}
use Rattle.std.proofs.lemmas.Bool.{le-leb, lt-ltb}
use Rattle.gx_disk.specs.Device.{Device}
use Rattle.gx_machine.specs.declared.entry.Entry.{Entry}
use Rattle.gx_page.specs.Contents.{Contents}
use Rattle.gx_page.specs.Reading.{read_of}
use Rattle.gx_pool.specs.Area.{bytes_of}
use Rattle.gx_pool.specs.State.{State as Frames, kept, stamp_of}
use Rattle.gx_node.specs.Reading.{Format}
use Rattle.gx_recovery.specs.Analysis.{Analysis}
use Rattle.gx_recovery.specs.Coming.{Placed}
use Rattle.gx_recovery.specs.Records.{Touch}
use Rattle.gx_recovery.proofs.Logs.{and_all}
use Rattle.gx_durable.specs.Area.{area_of}
use Rattle.gx_index_laws.specs.Classes.{Class, known_of, tree_in}
use Rattle.gx_geom.specs.declared.refusal.Refusal.{Refusal}
use Rattle.gx_machine.specs.Keys.{Members}
use Rattle.gx_recovery.specs.Known.{Limits}
use Rattle.gx_durable.specs.Classes.{class_of, node_of, reading_of}
use Rattle.gx_node.specs.Keyed.{rules_of}
use Rattle.gx_store.specs.Standing.{standing, standing_node}
use Rattle.gx_store.specs.State.{IsSteady, Shelf}
use Rattle.gx_store.proofs.Listed.{node_there, nodes_long}
use Rattle.gx_node.specs.Alike.{AgreeOnUsed}
use Rattle.gx_node.specs.Trees.{Tree}
use Rattle.gx_node.proofs.AlikeTrees.{agree_back, legal_too, seek_too}
use Rattle.gx_opening.specs.Sound.{AllInPlace, AreSound, CanAllBeRead, IsShownSound, IsSoundStore, IsSteadyStore, AreClean, Tells, shown_tree, tree_read}
use Rattle.gx_opening.proofs.Sounding.{tells_so}

-- a page that isn't kept is as the device has it
stands_read : (frames : Frames) (seen : List ℕ) (page : ℕ) → kept frames page ≡ None → standing frames seen page ≡ read_of (bytes_of seen page)
unfolding standing
stands_read frames seen page none = rw none refl

module _ {B D : Type 0} (said : List ℕ → B) (f : Format B) (passes : ℕ → Contents → Bool) (state : D → Device) (c : Class B) (s : Shelf D) (a : Analysis (Entry B))
    (none : (page : ℕ) → kept s.frames page ≡ None) (used : s.used ≡ a.used) (counter : s.counter ≡ a.counter) (pages : s.pages ≡ c.pages) (fits : s.used ≤ s.pages) where
  abbrev seen : List ℕ
  seen = (state s.disk).seen

  abbrev read_tree : Tree B
  read_tree = tree_in (tree_read (known_of c) (reading_of said f) (passes s.pages) a seen)

  abbrev shown : Tree B
  shown = shown_tree f passes state s

  area_there : (p : ℕ) → 1 ≤ p → p ≤ c.pages → (area_of (reading_of said f) c.pages seen p).node ≡ node_of f (read_of (bytes_of seen p))
  unfolding area_of
  area_there p low high =
      let there : (nat_lt 0 p && nat_le p c.pages) ≡ true = and_all (nat_lt 0 p) (nat_le p c.pages) (lt-ltb 0 p low) (le-leb p c.pages high) in
      rw there refl

  agree : AgreeOnUsed read_tree shown
  agree = record {
    used = nodes_long (standing_node f s.frames seen) s.used ∙ used;
    counter = counter;
    nodes = λ q u.
        (let within : q ≤ s.used = omega (arith, used, u.1) in
        node_there (standing_node f s.frames seen) s.used q u.0 within
        ∙ ap (node_of f) (stands_read s.frames seen q (none q))
        ∙ sym (area_there q u.0 (omega (arith, within, fits, pages))));
  }

  back : AgreeOnUsed shown read_tree
  back = agree_back read_tree shown agree

  placed_there : (touched : List (Touch (Entry B))) → AllInPlace c.rules shown touched → Placed (known_of c) (tree_read (known_of c) (reading_of said f) (passes s.pages) a seen) touched
  placed_there [] all = tt
  placed_there (x ∷ touched) all = (seek_too c.rules shown read_tree back x.leaf x.entry.row x.entry.key all.0, placed_there touched all.1)

  placed_here : (touched : List (Touch (Entry B))) → Placed (known_of c) (tree_read (known_of c) (reading_of said f) (passes s.pages) a seen) touched → AllInPlace c.rules shown touched
  placed_here [] all = tt
  placed_here (x ∷ touched) all = (seek_too c.rules read_tree shown agree x.leaf x.entry.row x.entry.key all.0, placed_here touched all.1)

  -- a store's pages are sound: so are the device's
  pub sound_there : IsSoundStore f passes state c.rules a.touched s → AreSound (known_of c) (reading_of said f) (passes s.pages) a seen
  sound_there is = record {
    fits = omega (arith, used, fits, pages);
    read = subst (λ n. CanAllBeRead (passes s.pages) n seen) used is.read;
    sound = legal_too c.rules shown read_tree back is.shown.legal;
    placed = placed_there a.touched is.shown.placed;
  }

  -- and the other way round
  pub sound_here : AreSound (known_of c) (reading_of said f) (passes s.pages) a seen → IsSoundStore f passes state c.rules a.touched s
  sound_here is = record {
    read = subst (λ n. CanAllBeRead (passes s.pages) n seen) (sym used) is.read;
    shown = record { legal = legal_too c.rules read_tree shown agree is.sound; placed = placed_here a.touched is.placed };
  }

-- what tests of a store that starts say of its device's pages
module _ {B D : Type 0} (shape : Members B) (is_key : B → Bool) (l : Limits) (said : List ℕ → B) (f : Format B) (passes : ℕ → Contents → Bool) (state : D → Device) (disk : D) (frames : Frames) (a : Analysis (Entry B))
    (none : (page : ℕ) → kept frames page ≡ None) (pages : ℕ) (pages_are : l.pages ≡ pages) (most : ℕ) (most_is : l.most ≡ most) (fits : a.used ≤ pages) where
  abbrev first : Shelf D
  first = record { disk = disk; frames = frames; used = a.used; counter = a.counter; pages = pages; batch = 0; has_room = false }

  abbrev sound : Type 0
  sound = AreSound (known_of (class_of shape is_key l)) (reading_of said f) (passes pages) a (state disk).seen

  pub first_told : (s : Shelf D) (result : Result (Unit {0}) Refusal) → s ≡ first → IsSteady (state disk) frames
      → (others : List (Touch (Entry B)) → Type 0) → (xs : List (Touch (Entry B))) → xs ≡ a.touched → others a.touched
      → (IsSteadyStore f passes state s → AreClean s.frames → others xs → Tells {T = Unit {0}} (IsSoundStore f passes state (rules_of shape most) xs s) result) → Tells {T = Unit {0}} sound result
  first_told s result is steady others xs same apart tested =
      let clean : AreClean frames = λ page. ap stamp_of (none page) in
      let told : Tells {T = Unit {0}} (IsSoundStore f passes state (rules_of shape most) a.touched s) result =
      subst (λ (ys : List (Touch (Entry B))). Tells {T = Unit {0}} (IsSoundStore f passes state (rules_of shape most) ys s) result) same
      (tested (subst (λ (x : Shelf D). IsSteadyStore f passes state x) (sym is) steady) (subst (λ (x : Shelf D). AreClean x.frames) (sym is) clean) (subst others (sym same) apart)) in
      tells_so (IsSoundStore f passes state (rules_of shape l.most) a.touched first) sound result
      (sound_there said f passes state (class_of shape is_key l) first a none refl refl (sym pages_are) fits)
      (sound_here said f passes state (class_of shape is_key l) first a none refl refl (sym pages_are) fits)
      (subst (λ n. Tells {T = Unit {0}} (IsSoundStore f passes state (rules_of shape n) a.touched first) result) (sym most_is)
      (subst (λ (x : Shelf D). Tells {T = Unit {0}} (IsSoundStore f passes state (rules_of shape most) a.touched x) result) is told))

  -- if they can be read, and its tree is legal with what was touched in its place, they are sound
  pub first_sound : (s : Shelf D) → s ≡ first → CanAllBeRead (passes pages) a.used (state disk).seen → IsShownSound (rules_of shape most) a.touched (shown_tree f passes state s) → sound
  first_sound s is can shown =
      sound_there said f passes state (class_of shape is_key l) first a none refl refl (sym pages_are) fits (record {
        read = can;
        shown = subst (λ n. IsShownSound (rules_of shape n) a.touched (shown_tree f passes state first)) (sym most_is)
            (subst (λ (x : Shelf D). IsShownSound (rules_of shape most) a.touched (shown_tree f passes state x)) is shown);
      })

  -- more pages in use than there are aren't sound
  pub too_many : pages < a.used → (is : Refusal) → Tells {T = Unit {0}} sound (Err is)
  too_many more is = λ damaged so. (let there = so.fits in absurd (omega (arith, more, there, pages_are)))
