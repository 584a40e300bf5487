-- What small changes leave can be written on a page.
use Rattle.std.proofs.Common.{◌≡◌, ℕ, zero, suc, ◌+◌, ◌<◌, ◌≤◌, Bool, true, false, List, [], ◌∷◌, ◌++◌, length, get_or, set, drop, refl, ap, subst, arith}
use Rattle.std.specs.List.{All, insert}
use Rattle.std.proofs.lemmas.List.{length-append, length-set, length-drop}
use Rattle.std.proofs.lemmas.List.Edits.{insert_end}
use Rattle.std.proofs.lemmas.List.Elements.{All-nil, All-cons, All-head, All-tail, All-append, All-set}
use Rattle.gx_page.specs.Bytes.{AreBytes, spell_64}
use Rattle.gx_page.specs.Contents.{Contents}
use Rattle.gx_page.specs.Edits.{with_items}
use Rattle.gx_page.specs.Format.{IsItem, IsWellFormed, Fits, total}
use Rattle.gx_page.specs.Sizes.{NoneLonger}
use Rattle.gx_page.proofs.Rooms.{few_fit}
use Rattle.gx_class.specs.declared.class.TheConstants.{MAX_KEY}
use Rattle.gx_node.specs.Lists.{staying}
use Rattle.gx_node.specs.declared.items.TheConstants.{MAX_ENTRIES}
use Rattle.gx_node.specs.Entries.{mark_byte}
use Rattle.gx_node.specs.Reading.{Format, leaf_size, is_leaf}
use Rattle.gx_node.specs.Small.{item_marked, live_item, pair_made, item_bounded}
use Rattle.gx_node.proofs.Parts.{small-drop}
use Rattle.gx_node.proofs.Slots.{leaf_is_keyed}

formed : (page : Contents) (items : List (List ℕ)) → IsWellFormed page → All IsItem items → Fits items → IsWellFormed (with_items page items)
formed page items w all fits = record { level = w.level; nsn = w.nsn; right = w.right; number = w.number; items = all; fits = fits }

-- ---- bytes

bytes_set : (bytes : List ℕ) (i b : ℕ) → AreBytes bytes → b < 256 → AreBytes (set bytes i b)
bytes_set [] i b are small k = are k
bytes_set (x ∷ bytes) zero b are small zero = small
bytes_set (x ∷ bytes) zero b are small (suc k) = are (suc k)
bytes_set (x ∷ bytes) (suc i) b are small zero = are zero
bytes_set (x ∷ bytes) (suc i) b are small (suc k) = bytes_set bytes i b (λ m. are (suc m)) small k

bytes_append : (xs ys : List ℕ) → AreBytes xs → AreBytes ys → AreBytes (xs ++ ys)
bytes_append [] ys xs-are ys-are k = ys-are k
bytes_append (x ∷ xs) ys xs-are ys-are zero = xs-are zero
bytes_append (x ∷ xs) ys xs-are ys-are (suc k) = bytes_append xs ys (λ m. xs-are (suc m)) ys-are k

bytes_row : (row : ℕ) → AreBytes (spell_64 row)
bytes_row row zero = omega arith
bytes_row row (suc zero) = omega arith
bytes_row row (suc (suc zero)) = omega arith
bytes_row row (suc (suc (suc zero))) = omega arith
bytes_row row (suc (suc (suc (suc zero)))) = omega arith
bytes_row row (suc (suc (suc (suc (suc zero))))) = omega arith
bytes_row row (suc (suc (suc (suc (suc (suc zero)))))) = omega arith
bytes_row row (suc (suc (suc (suc (suc (suc (suc zero))))))) = omega arith
bytes_row row (suc (suc (suc (suc (suc (suc (suc (suc k)))))))) = omega arith

mark_below : (marked : Bool) → mark_byte marked < 256
mark_below true = omega arith
mark_below false = omega arith

-- ---- one item for another as long

total-set : (items : List (List ℕ)) (i : ℕ) (y : List ℕ) → length y ≡ length (get_or items i []) → total (set items i y) ≡ total items
total-set [] i y h = refl
total-set (x ∷ items) zero y h = ap (λ n. n + total items) h
total-set (x ∷ items) (suc i) y h = ap (λ n. length x + n) (total-set items i y h)

as_long : (page : Contents) (i : ℕ) (y : List ℕ) → IsWellFormed page → IsItem y → length y ≡ length (get_or page.items i []) → IsWellFormed (with_items page (set page.items i y))
as_long page i y w is h =
    let fits : Fits page.items = w.fits in
    formed page (set page.items i y) w (All-set IsItem page.items i y is w.items) (omega (arith, fits, length-set page.items i y, total-set page.items i y h))

pub mark_formed : {B : Type 0} (f : Format B) (page : Contents) (i : ℕ) (marked : Bool) → IsWellFormed page → i < length page.items
    → IsWellFormed (with_items page (set page.items i (item_marked f marked (get_or page.items i []))))
mark_formed f page i marked w h =
    let item = get_or page.items i [] in
    let was : IsItem item = w.items i [] h in
    let long : length (item_marked f marked item) ≡ length item = length-set item (f.key + 8) (mark_byte marked) in
    as_long page i (item_marked f marked item) w (omega (arith, long, was.0), bytes_set item (f.key + 8) (mark_byte marked) was.1 (mark_below marked)) long

pub bound_formed : {B : Type 0} (f : Format B) (page : Contents) (i : ℕ) (key : List ℕ) → IsWellFormed page → AreBytes key → length key ≡ f.key
    → i < length page.items → length (get_or page.items i []) ≡ f.key + 4 → IsWellFormed (with_items page (set page.items i (item_bounded f key (get_or page.items i []))))
bound_formed f page i key w are size h four =
    let item = get_or page.items i [] in
    let was : IsItem item = w.items i [] h in
    let long : length (item_bounded f key item) ≡ length item = omega (arith, length-append key (drop f.key item), length-drop f.key item, size, four) in
    as_long page i (item_bounded f key item) w (omega (arith, long, was.0), bytes_append key (drop f.key item) are (small-drop item f.key was.1)) long

-- ---- one item more

pub pair_formed : {B : Type 0} (f : Format B) (page : Contents) (row : ℕ) (key : List ℕ) → f.key ≤ MAX_KEY → IsWellFormed page → is_leaf f page ≡ true → length page.items < MAX_ENTRIES
    → AreBytes key → length key ≡ f.key → IsWellFormed (with_items page (pair_made row key page.items))
pair_formed f page row key short w leaf few are size =
    let items = page.items in
    let item = live_item row key in
    let keyed = leaf_is_keyed f page leaf in
    let long : length item ≡ leaf_size f = omega (arith, length-append key (spell_64 row ++ mark_byte false ∷ []), length-append (spell_64 row) (mark_byte false ∷ []), size) in
    let none : NoneLonger (leaf_size f) items = λ k d h. omega (arith, (keyed k d h).long) in
    let fit : Fits (insert items (length items) item) = few_fit items item (length items) MAX_ENTRIES (leaf_size f) (omega arith) none (omega (arith, long)) few (omega (arith, short)) in
    let zero_is : AreBytes (mark_byte false ∷ []) = one in
    let bytes : AreBytes item = bytes_append key (spell_64 row ++ mark_byte false ∷ []) are (bytes_append (spell_64 row) (mark_byte false ∷ []) (bytes_row row) zero_is) in
    formed page (items ++ item ∷ []) w
    (All-append IsItem items (item ∷ []) w.items (All-cons IsItem item [] (omega (arith, long), bytes) (All-nil IsItem)))
    (subst Fits (insert_end items item) fit)
  where
    one : AreBytes (mark_byte false ∷ [])
    one zero = omega arith
    one (suc k) = omega arith

-- ---- items taken out

staying_fewer : (sides : List Bool) (items : List (List ℕ)) → (length (staying sides items) ≤ length items) × (total (staying sides items) ≤ total items)
staying_fewer sides [] = (omega arith, omega arith)
staying_fewer [] (x ∷ items) = (omega arith, omega arith)
staying_fewer (true ∷ sides) (x ∷ items) = let rest = staying_fewer sides items in (omega (arith, rest.0), omega (arith, rest.1))
staying_fewer (false ∷ sides) (x ∷ items) = let rest = staying_fewer sides items in (omega (arith, rest.0), omega (arith, rest.1))

staying_all : {X : Type 0} (P : X → Type 0) (sides : List Bool) (xs : List X) → All P xs → All P (staying sides xs)
staying_all P sides [] all = All-nil P
staying_all P [] (x ∷ xs) all = all
staying_all P (true ∷ sides) (x ∷ xs) all = staying_all P sides xs (All-tail P x xs all)
staying_all P (false ∷ sides) (x ∷ xs) all = All-cons P x (staying sides xs) (All-head P x xs all) (staying_all P sides xs (All-tail P x xs all))

pub staying_formed : (page : Contents) (sides : List Bool) → IsWellFormed page → IsWellFormed (with_items page (staying sides page.items))
staying_formed page sides w =
    let fits : Fits page.items = w.fits in
    let fewer = staying_fewer sides page.items in
    formed page (staying sides page.items) w (staying_all IsItem sides page.items w.items) (omega (arith, fits, fewer.0, fewer.1))
