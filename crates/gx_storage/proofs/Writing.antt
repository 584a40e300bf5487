-- A step of the tree with the record of its write.
use Rattle.std.proofs.Common.{◌≡◌, ◌≢◌, ◌∙◌, sym, ap, refl, subst, inl, inr, ℕ, suc, ◌+◌, ◌^◌, ◌<◌, ◌≤◌, Bool, true, false, ◌==◌, List, [], ◌∷◌, ◌++◌, length, length-append, IfSome, Result, Ok, Err, OnErr, arith}
use Rattle.std.specs.Prelude.{nat_le, nat_lt}
use Rattle.std.proofs.lemmas.Bool.{and_parts, eq-eqb, leb-true, ltb-true}
use Rattle.gx_machine.specs.declared.entry.Entry.{Entry}
use Rattle.gx_disk.specs.Device.{Device}
use Rattle.gx_page.specs.Contents.{Contents}
use Rattle.gx_page.proofs.Images.{read-image}
use Rattle.gx_page.specs.Format.{image_of, IsWellFormed}
use Rattle.gx_page.specs.Reading.{IsImage, read_of}
use Rattle.gx_pool.specs.Laws.{IsPassed}
use Rattle.gx_pool.specs.State.{kept}
use Rattle.gx_record.specs.Rec.{Rec, Write, Add}
use Rattle.gx_record.specs.Format.{HasKey, IsInRange, spelling}
use Rattle.gx_node.specs.Trees.{Node, Tree}
use Rattle.gx_node.specs.Reading.{Format}
use Rattle.gx_node.specs.Store.{Store, node_of, tree_of}
use Rattle.gx_tree.specs.Writing.{live, Appends as AppendsPair}
use Rattle.gx_recovery.specs.Known.{Known, Limits}
use Rattle.gx_recovery.proofs.Tests.{clash}
use Rattle.gx_index_laws.specs.Classes.{Page}
use Rattle.gx_glog.specs.State.{Log, turning}
use Rattle.gx_glog.specs.Appending.{Appends}
use Rattle.gx_glog.specs.declared.filling.Appended.{Appended}
use Rattle.gx_glog.specs.declared.filling.Appended.TheVariants.{At, NoRoom}
use Rattle.gx_glog.specs.declared.stage.Turn.TheVariants.{Closed}
use Rattle.gx_glog.specs.declared.extent.TheConstants.{BODY_ROOM, PLACES}
use Rattle.gx_durable.specs.Calls.{AppendStaysUp, AppendStaysStamped}
use Rattle.gx_durable.specs.Spelled.{Reading, record_read}
use Rattle.gx_durable.proofs.Appending.{append_placed}
use Rattle.gx_durable.specs.Classes.{reading_of}
use Rattle.gx_store.specs.Since.{GoesOn, IsAsItWas, IsSince, IsStamped}
use Rattle.gx_store.specs.Standing.{standing, standing_node, store_of}
use Rattle.gx_store.specs.State.{Shelf, IsHeld, IsSteady}
use Rattle.gx_store.proofs.Changing.{there}
use Rattle.gx_store.proofs.Listed.{node_there, nodes_long}
use Rattle.gx_store.proofs.Shown.{lent, stands_kept}
use Rattle.gx_storage.specs.Changes.{IsLogged, IsUnlogged, begun, has_room}
use Rattle.gx_storage.specs.Giving.{IsGiven}
use Rattle.gx_storage.specs.Imaged.{imaged_with}
use Rattle.gx_storage.specs.Journal.{CanTake, IsLast}
use Rattle.gx_storage.specs.Keeps.{KeepsWith, StaysWith}
use Rattle.gx_storage.specs.Numbers.{HasOwnNumber}
use Rattle.gx_storage.specs.State.{Journal, Volume, journal_of, volume}
use Rattle.gx_storage.proofs.Moving.{stays_same}
use Rattle.gx_storage.proofs.OnlyReads.{since_begun}
use Rattle.gx_storage.proofs.Recording.{AreNodes, write_stays_with}

pub on_err : {A E : Type 0} (result : Result A E) (P : Type 0) → P → OnErr result P
on_err (Ok done) P is = tt
on_err (Err why) P is = is

-- ---- the record

-- a record that fits is appended, while no turn is under way
appended_at : (bytes : List ℕ) (old new : Log) (result : Appended) → Appends bytes old new result → old.turn ≡ Closed → length old.filling + length bytes ≤ BODY_ROOM → result ≡ At old.used
appended_at bytes old new (At place) is still room = ap (λ n. At n) is.1
appended_at bytes old new NoRoom is still room = absurd (elim is.0 [
  | inl more ↦ omega (arith, more, room)
  | inr turns ↦ (let rests : turning old.turn ≡ 0 = ap turning still in omega (arith, rests, turns))
])

module _ {B : Type 0} (known : Limits → Known (Entry B) (Page B)) (r : Reading (Entry B) (Page B)) where
  last_at : (x : Rec) (size : ℕ) (old new : Journal) → Appends (spelling x) old.log new.log (At old.log.used) → CanTake old.log size → HasKey r.key x
      → ((l : Limits) → AppendStaysUp (known l) r x old.log new.log (At old.log.used)) → AppendStaysStamped r x old.log new.log (At old.log.used) → new.imaged ≡ imaged_with x old.imaged → IsLast known r x old new
  last_at x size old new is takes key up stamped bits = record {
    logs = record { place = takes.place; still = takes.still; fits = is.0; log = is.2 };
    key = key;
    up = up;
    stamped = stamped;
    placed = append_placed x old.log new.log (At old.log.used) is;
    imaged = bits;
  }

  -- a record that was appended is the journal's last
  pub is_last : (x y : Rec) (size : ℕ) (old new : Journal) (result : Appended) → x ≡ y → Appends (spelling x) old.log new.log result → CanTake old.log size → length (spelling x) ≤ size
      → HasKey r.key x → ((l : Limits) → AppendStaysUp (known l) r x old.log new.log result) → AppendStaysStamped r x old.log new.log result → new.imaged ≡ imaged_with y old.imaged → IsLast known r y old new
  is_last x y size old new result same appends takes fits key up stamped bits =
      let at = appended_at (spelling x) old.log new.log result appends takes.still (omega (arith, takes.room, fits)) in
      subst {A = Rec} (λ z. IsLast known r z old new) same
      (last_at x size old new (subst {A = Appended} (λ a. Appends (spelling x) old.log new.log a) at appends) takes key
      (λ l. subst {A = Appended} (λ a. AppendStaysUp (known l) r x old.log new.log a) at (up l)) (subst {A = Appended} (λ a. AppendStaysStamped r x old.log new.log a) at stamped) (bits ∙ ap (λ z. imaged_with z old.imaged) (sym same)))

-- ---- a page that is held

-- what is lent of it is its contents
pub held_stands : {D : Type 0} (s : Shelf D) (seen : List ℕ) (page : ℕ) (c : Contents) → IsHeld s page → IfSome (kept s.frames page) (λ k. c ≡ k.page) → c ≡ standing s.frames seen page
held_stands s seen page c held is = let one = lent s.frames page c held.kept is in one.same ∙ sym (stands_kept s.frames seen page one.k held.stays one.is)

-- and has its number
pub held_number : {D : Type 0} (passes : Contents → Bool) (s : Shelf D) (page : ℕ) (c : Contents) → IsPassed passes s.frames → IsHeld s page → IfSome (kept s.frames page) (λ k. c ≡ k.page) → c.number ≡ page
held_number passes s page c passed held is = let one = lent s.frames page c held.kept is in ap (λ (p : Contents). p.number) one.same ∙ (passed page one.k one.is).0

-- so its present image has that number as its own
held_own : {D : Type 0} (passes : Contents → Bool) (s : Shelf D) (seen : List ℕ) (page : ℕ) (c : Contents) → IsPassed passes s.frames → IsHeld s page → IfSome (kept s.frames page) (λ k. c ≡ k.page)
    → IsWellFormed c → HasOwnNumber seen s page
held_own passes s seen page c passed held is well =
    let same : c ≡ standing s.frames seen page = held_stands s seen page c held is in
    ap (λ (x : Contents). x.number) (read-image _ (subst {A = Contents} IsWellFormed same well)) ∙ (ap (λ (x : Contents). x.number) (sym same) ∙ held_number passes s page c passed held is)

-- and it is given
pub held_given : {D : Type 0} (passes : Contents → Bool) (s : Shelf D) (seen : List ℕ) (page : ℕ) (c : Contents) → IsPassed passes s.frames → IsHeld s page → IfSome (kept s.frames page) (λ k. c ≡ k.page)
    → IsWellFormed c → IsGiven seen s page
held_given passes s seen page c passed held is well =
    record { held = held; well = subst {A = Contents} IsWellFormed (held_stands s seen page c held is) well; own = held_own passes s seen page c passed held is well }

-- a write of it is in range
pub write_in_range : (tx row : ℕ) (key : List ℕ) (before after : Bool) (leaf : ℕ) (image : List ℕ) (c : Contents) → tx < 2 ^ 64 → row < 2 ^ 64 → leaf < 2 ^ 32 → IsImage image → read_of image ≡ c
    → c.number ≡ leaf → IsInRange (Write tx row key before after leaf image)
write_in_range tx row key before after leaf image c tx_fits row_fits leaf_fits is reads number =
    (tx_fits, row_fits, record { fits = leaf_fits; image = record { image = is; number = ap (λ (p : Contents). p.number) reads ∙ number } })

-- so is the small record of a pair that was added
pub add_in_range : (tx row : ℕ) (key : List ℕ) (leaf : ℕ) → tx < 2 ^ 64 → row < 2 ^ 64 → leaf < 2 ^ 32 → 1 ≤ leaf → IsInRange (Add tx row key leaf)
add_in_range tx row key leaf tx_fits row_fits leaf_fits low = (tx_fits, row_fits, (low, leaf_fits))

-- ---- the room

takes_if : (log : Log) (size : ℕ) → has_room log size ≡ true → log.turn ≡ Closed → CanTake log size
takes_if log size is still =
    let both = and_parts (nat_lt log.used PLACES) (nat_le (length log.filling + size) BODY_ROOM) is in
    record { place = ltb-true log.used PLACES both.0; still = still; room = leb-true (length log.filling + size) BODY_ROOM both.1 }

pub begun_with : {D : Type 0} (s u : Shelf D) (l : Log) (size used : ℕ) (room : Bool) → u ≡ record s { batch = used; has_room = room } → used ≡ l.used → room ≡ has_room l size
    → u ≡ record s { batch = l.used; has_room = has_room l size }
begun_with {D} s u l size used room is place has =
    is ∙ ap (λ n. (let x : Shelf D = record s { batch = n; has_room = room } in x)) place
    ∙ ap (λ b. (let x : Shelf D = record s { batch = l.used; has_room = b } in x)) has

pub begun_is : {D : Type 0} (v : Volume D) (u : Shelf D) (size said : ℕ) → u ≡ begun v said → said ≡ size → u ≡ begun v size
begun_is v u size said is same = is ∙ ap (λ n. begun v n) same

-- ---- what a step leaves

module _ {D : Type 0} (passes : ℕ → Contents → Bool) (state : D → Device) (v : Volume D) (size : ℕ) (t : Shelf D) where
  -- a store has gone on since its event began, with each page unchanged but one
  pub record Stepped (page : ℕ) : Type 0 where
    pub goes_on : GoesOn passes (state v.shelf.disk) (state t.disk) (begun v size) t
    pub others : (q : ℕ) → (page == q) ≡ false → IsAsItWas (state v.shelf.disk) (state t.disk) v.shelf.frames t.frames q

  apart : (page q : ℕ) → (page == q) ≡ false → q ≢ page
  apart page q other = λ same. clash (page == q) (eq-eqb page q (sym same)) other

  pub stepped : (u : Shelf D) (page : ℕ) → u ≡ begun v size
      → ((was : Shelf D) (q : ℕ) → q ≢ page → IsSince passes (state was.disk) (state u.disk) was u q → IsSince passes (state was.disk) (state t.disk) was t q) → Stepped page
  stepped u page is keeps = record {
    goes_on = (since_begun passes state v t u v.log.used (suc page) (has_room v.log size) is (λ was. keeps was (suc page) (omega arith))).goes_on;
    others = λ q other. (since_begun passes state v t u v.log.used q (has_room v.log size) is (λ was. keeps was q (apart page q other))).same;
  }

  -- the same, since the event began
  pub stepped_since : (page : ℕ) → ((q : ℕ) → q ≢ page → IsSince passes (state v.shelf.disk) (state t.disk) (begun v size) t q) → Stepped page
  stepped_since page since = record {
    goes_on = (since (suc page) (omega arith)).goes_on;
    others = λ q other. (since q (apart page q other)).same;
  }

  -- each page is unchanged
  pub unstepped : (u : Shelf D) → u ≡ begun v size → ((was : Shelf D) (q : ℕ) → IsSince passes (state was.disk) (state u.disk) was u q → IsSince passes (state was.disk) (state t.disk) was t q)
      → (q : ℕ) → IsSince passes (state v.shelf.disk) (state t.disk) (begun v size) t q
  unstepped u is keeps q = since_begun passes state v t u v.log.used q (has_room v.log size) is (λ was. keeps was q)

  pub steady_begun : (u : Shelf D) → u ≡ begun v size → IsSteady (state v.shelf.disk) v.shelf.frames → IsSteady (state u.disk) u.frames
  steady_begun u is steady = subst {A = Shelf D} (λ x. IsSteady (state x.disk) x.frames) (sym is) steady

  -- the event's record has room, if the store says so
  pub takes_then : has_room v.log size ≡ t.has_room → t.has_room ≡ true → v.log.turn ≡ Closed → CanTake v.log size
  takes_then same is still = takes_if v.log size (same ∙ is) still

-- what a step says of pages when its event begins, it says of the pages before
pub over_begun : {B D : Type 0} (f : Format B) (state : D → Device) (Tells : Type 0 → Store B → Store B → Type 0) (s u t : Shelf D) (batch : ℕ) (room : Bool) → u ≡ record s { batch = batch; has_room = room }
    → Tells (IsSteady (state u.disk) u.frames) (store_of f (state u.disk).seen u) (store_of f (state t.disk).seen t)
    → Tells (IsSteady (state s.disk) s.frames) (store_of f (state s.disk).seen s) (store_of f (state t.disk).seen t)
over_begun f state Tells s u t batch room is did =
    subst {A = Shelf _} (λ x. Tells (IsSteady (state x.disk) x.frames) (store_of f (state x.disk).seen x) (store_of f (state t.disk).seen t)) is did

-- a store has as many pages as its tree
pub tree_used : {B D : Type 0} (f : Format B) (one other : List ℕ) (s t : Shelf D) → (tree_of (store_of f one t)).used ≡ (tree_of (store_of f other s)).used → t.used ≡ s.used
tree_used f one other s t same = sym (nodes_long (standing_node f t.frames one) t.used) ∙ same ∙ nodes_long (standing_node f s.frames other) s.used

-- ---- with its record

module _ {B D : Type 0} (known : Limits → Known (Entry B) (Page B)) (said : List ℕ → B) (f : Format B) (passes : ℕ → Contents → Bool) (state : D → Device) (v : Volume D) (size : ℕ) (t : Shelf D) where
  pub unlogged : ((q : ℕ) → IsSince passes (state v.shelf.disk) (state t.disk) (begun v size) t q)
      → (IsSteady (state v.shelf.disk) v.shelf.frames → store_of f (state t.disk).seen t ≡ store_of f (state v.shelf.disk).seen v.shelf)
      → IsUnlogged known (reading_of said f) f passes (begun v size) (state v.shelf.disk) (state t.disk) v (record { log = v.log; shelf = t; most = v.most; imaged = v.imaged })
  unlogged since stays = record {
    log = refl;
    keeps = λ l bodies s lawful keeps.
        (let one = stays keeps.steady in
        stays_same (known l) (reading_of said f) f passes (state v.shelf.disk) (state t.disk) v v.log.used (has_room v.log size) t bodies s lawful keeps (since 0).goes_on v.most (λ q. (since q).same)
        (tree_used f (state t.disk).seen (state v.shelf.disk).seen v.shelf t (ap (λ (x : Store B). length x.nodes) one)) (ap (λ (x : Store B). x.counter) one));
    since = since;
    most = refl;
    imaged = refl;
  }

  module _ (tx row : ℕ) (key : List ℕ) (before after : Bool) (page : ℕ) (j : Journal) (did : Stepped passes state v size t page) (given : IsGiven (state t.disk).seen t page) (right : AreNodes f passes t)
      (numbers : IsSteady (state v.shelf.disk) v.shelf.frames → (t.used ≡ v.shelf.used) × (t.counter ≡ v.shelf.counter)) where
    keeps_write : (c : Contents) → c ≡ standing t.frames (state t.disk).seen page → IsLast known (reading_of said f) (Write tx row key before after page (image_of c)) (journal_of v) j → IsWellFormed c → (l : Limits)
        → KeepsWith (known l) (reading_of said f) f passes (state v.shelf.disk) (state t.disk) v (volume j t v.most) (Write tx row key before after page (image_of c))
    keeps_write c is last well l bodies s lawful keeps =
        let held = given.held in
        let one = there (kept t.frames page) held.kept in
        let same : one.0.page ≡ c = sym (is ∙ stands_kept t.frames (state t.disk).seen page one.0 held.stays one.1) in
        let now = numbers keeps.steady in
        let P : Contents → Type 0 = λ x. IsLast known (reading_of said f) (Write tx row key before after page (image_of x)) (journal_of v) j in
        let last_now = subst P (sym same) last in
        subst {A = Contents} (λ x. StaysWith (known l) (reading_of said f) f passes (state v.shelf.disk) (state t.disk) (volume j t v.most) bodies s
        (record_read (reading_of said f) (Write tx row key before after page (image_of x)))) same
        (write_stays_with (known l) said f passes (state v.shelf.disk) (state t.disk) v v.log.used (has_room v.log size) t bodies s lawful keeps did.goes_on (omega arith) right
        tx row key before after page one.0 j.log v.most j.imaged last_now.imaged one.1 (subst {A = Contents} IsWellFormed (sym same) well) held.from held.to (last_now.up l) last_now.stamped last_now.placed last_now.key did.others now.0 now.1)

    pub logged_write : IsLast known (reading_of said f) (Write tx row key before after page (image_of (standing t.frames (state t.disk).seen page))) (journal_of v) j
        → IsLogged known (reading_of said f) f passes size (state v.shelf.disk) (state t.disk) v (volume j t v.most)
        (Write tx row key before after page (image_of (standing t.frames (state t.disk).seen page)))
    logged_write last = record {
      logs = last.logs;
      keeps = λ l. keeps_write (standing t.frames (state t.disk).seen page) refl last given.well l;
      goes_on = did.goes_on;
      others = λ q other. did.others q other;
      most = refl;
      imaged = last.imaged;
    }

-- ---- the stamp of an added pair

-- an unchanged page has the node that it had
pub same_node : {B D : Type 0} (f : Format B) (one other : List ℕ) (s t : Shelf D) (page : ℕ) → 1 ≤ page → page ≤ s.used → page ≤ t.used → standing t.frames one page ≡ standing s.frames other page
    → (tree_of (store_of f one t)).node page ≡ (tree_of (store_of f other s)).node page
same_node f one other s t page low high now same =
    node_there (standing_node f t.frames one) t.used page low now ∙ ap (λ (c : Contents). node_of f c) same ∙ sym (node_there (standing_node f s.frames other) s.used page low high)

-- a leaf that has a pair more doesn't
longer : {B : Type 0} (most : ℕ) (old new : Tree B) (a : ℕ) (entry : Entry B) → AppendsPair most old new a entry → new.node a ≡ old.node a → ⊥
longer {B} most old new a entry made same =
    let one : length ((old.node a).pairs ++ live entry ∷ []) ≡ length (old.node a).pairs = sym (ap (λ (n : Node B). length n.pairs) made.changes.changed) ∙ ap (λ (n : Node B). length n.pairs) same in
    let more = length-append (old.node a).pairs (live entry ∷ []) in
    absurd (omega (arith, one, more))

-- so the leaf has the batch as its stamp
pub added_stamped : {B D : Type 0} (f : Format B) (passes : ℕ → Contents → Bool) (state : D → Device) (v : Volume D) (size : ℕ) (t : Shelf D) (page most : ℕ) (entry : Entry B) → Stepped passes state v size t page
    → IsHeld t page → IsSteady (state v.shelf.disk) v.shelf.frames
    → AppendsPair most (tree_of (store_of f (state v.shelf.disk).seen v.shelf)) (tree_of (store_of f (state t.disk).seen t)) page entry → IsStamped v.log.used v.shelf.frames t.frames page
added_stamped f passes state v size t page most entry did held steady made = elim (did.goes_on.each page) [
  | inl same ↦
      let high : page ≤ v.shelf.used = omega (arith, made.changes.there.1, nodes_long (standing_node f v.shelf.frames (state v.shelf.disk).seen) v.shelf.used) in
      absurd (longer most _ _ page entry made (same_node f (state t.disk).seen (state v.shelf.disk).seen v.shelf t page held.from high held.to (same.stands steady)))
  | inr changed ↦ changed
]

pub added_since : {B D : Type 0} (f : Format B) (state : D → Device) (v : Volume D) (size : ℕ) (u : Shelf D) (most : ℕ) (new : Tree B) (page : ℕ) (entry : Entry B) → u ≡ begun v size
    → AppendsPair most (tree_of (store_of f (state u.disk).seen u)) new page entry → AppendsPair most (tree_of (store_of f (state v.shelf.disk).seen v.shelf)) new page entry
added_since f state v size u most new page entry is made = subst {A = Shelf _} (λ x. AppendsPair most (tree_of (store_of f (state x.disk).seen x)) new page entry) is made
