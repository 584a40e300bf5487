-- What an opening's sessions undo: by touches, by the notes of the renewed log, and by the committed set.
use Rattle.std.proofs.Common.{◌≡◌, ℕ, zero, suc, ◌-◌, ◌<◌, ◌≤◌, Bool, true, false, not, ◌&&◌, ◌||◌, inl, inr, cond, List, [], ◌∷◌, length, Option, Some, None, refl, ap, sym, ◌∙◌, arith}
use Rattle.std.specs.Prelude.{◌==◌, if◌then◌else◌, is_some, option_map, map, sum_by}
use Rattle.std.specs.List.{slice_index_or, filter}
use Rattle.std.specs.Option.{option_or}
use Rattle.std.specs.Ordering.{is_eq}
use Rattle.std.proofs.lemmas.List.{length-map}
use Rattle.std.proofs.Math.Path.{fun_ext}
use Rattle.gx_machine.specs.declared.entry.Entry.{Entry}
use Rattle.gx_machine.specs.Keys.{Keys, same_entry, entry_cmp}
use Rattle.gx_machine.specs.Sets.{has}
use Rattle.gx_machine.specs.Machine.{is_session}
use Rattle.gx_machine.proofs.Places.{session_bounds}
use Rattle.gx_node.specs.Lists.{sum_over}
use Rattle.gx_events.specs.Slots.{Note, notes_kept, entries_of, noted, noted_in}
use Rattle.gx_events.specs.Asking.{claims_held}
use Rattle.gx_events.specs.Losers.{loser_slot, loser_at, AreLosers}
use Rattle.gx_events.proofs.Claims.{losers_hold}
use Rattle.gx_events.proofs.Noted.{noted_has}
use Rattle.gx_recovery.specs.Known.{Known, same}
use Rattle.gx_recovery.specs.Records.{Touch}
use Rattle.gx_recovery.specs.Analysis.{lists}
use Rattle.gx_recovery.specs.Standing.{first_before, own_before}
use Rattle.gx_recovery.specs.Renewal.{notes_of}
use Rattle.gx_recovery.proofs.Tests.{true_or_false, and_first, either_of, or_second, itself}
use Rattle.gx_recovery.proofs.Touches.{Apart}
use Rattle.gx_index_laws.specs.Openings.{numbers_of, note_of, notes_for, losers_of}
use Rattle.gx_index_laws.proofs.Numbered.{or_first, touches, touching_in, numbers_distinct, IsAt, placed_in, one_place, listed_at, listed_there, so_many, listed_sum, touched_by_each}

not_both : {A : Type 0} → (b : Bool) → b ≡ true → b ≡ false → A
not_both b t f = let no : ⊥ = cc in absurd no

none_of : (o : Option Bool) → is_some o ≡ false → o ≡ None
none_of None h = refl
none_of (Some b) h = let no : ⊥ = cc in absurd no

some_or : (o rest : Option Bool) → is_some o ≡ true → is_some (option_or o rest) ≡ true
some_or None rest h = let no : ⊥ = cc in absurd no
some_or (Some b) rest h = refl

or_some : (o rest : Option Bool) → is_some rest ≡ true → is_some (option_or o rest) ≡ true
or_some None rest h = h
or_some (Some b) rest h = refl

some_mapped : (o : Option Bool) → is_some (option_map not o) ≡ is_some o
some_mapped None = refl
some_mapped (Some b) = refl

record IsSome (o : Option Bool) : Type 0 where
  value : Bool
  is : o ≡ Some value

some_value : (o : Option Bool) → is_some o ≡ true → IsSome o
some_value None h = let no : ⊥ = cc in absurd no
some_value (Some b) h = record { value = b; is = refl }

pub notes_of_loser : {B : Type 0} → (notes : List (Note B)) → notes_kept (loser_slot notes) ≡ notes
notes_of_loser [] = refl
notes_of_loser (n ∷ notes) = refl

module _ {B P : Type 0} (keys : Keys B) (k : Known (Entry B) P) (cmp : k.cmp ≡ entry_cmp keys) where
  as_same : (a b : Entry B) → same_entry keys a b ≡ same k a b
  as_same a b = ap (λ (f : Entry B → Entry B → _). is_eq (f a b)) (sym cmp)

  -- a transaction has to undo what it is listed with
  pub has_for : (e : Entry B) (t : ℕ) (xs : List (Touch (Entry B))) → has keys e (entries_of (notes_for xs t)) ≡ lists k t e xs
  has_for e t [] = refl
  has_for e t (x ∷ xs) =
      elim (x.transaction == t) as (λ b. has keys e (entries_of (map note_of (cond b (x ∷ filter (λ y. y.transaction == t) xs) (filter (λ y. y.transaction == t) xs))))
      ≡ ((b && same k e x.entry) || lists k t e xs)) [
        | true ↦ ap (λ b. b || has keys e (entries_of (notes_for xs t))) (as_same e x.entry) ∙ ap (λ b. same k e x.entry || b) (has_for e t xs)
        | false ↦ has_for e t xs
      ]

  noted_if : (s before : Bool) (rest : Option Bool) (own : Option Bool) → rest ≡ option_map not own
      → (if s then Some (not before) else rest) ≡ option_map not (option_or (if s then Some before else None) own)
  noted_if true before rest own h = refl
  noted_if false before rest own h = h

  -- its notes are the first marks of the log that is written anew
  pub noted_for : (e : Entry B) (t : ℕ) (xs : List (Touch (Entry B))) → noted keys e (notes_for xs t) ≡ option_map not (own_before k t e (notes_of xs))
  noted_for e t [] = refl
  noted_for e t (x ∷ xs) =
      elim (x.transaction == t) as (λ b. noted keys e (map note_of (cond b (x ∷ filter (λ y. y.transaction == t) xs) (filter (λ y. y.transaction == t) xs)))
      ≡ option_map not (option_or (if b && same k e x.entry then Some x.before else None) (own_before k t e (notes_of xs)))) [
        | true ↦
            ap (λ b. if b then Some (not x.before) else noted keys e (notes_for xs t)) (as_same e x.entry)
            ∙ noted_if (same k e x.entry) x.before (noted keys e (notes_for xs t)) (own_before k t e (notes_of xs)) (noted_for e t xs)
        | false ↦ noted_for e t xs
      ]

  marked_alike : (a s before : Bool) (rest own : Option Bool) → (s ≡ true → a ≡ true) → rest ≡ own
      → option_or (if s then Some before else None) rest ≡ option_or (if a && s then Some before else None) own
  marked_alike true s before rest own f h = ap (option_or (if s then Some before else None)) h
  marked_alike false true before rest own f h = let no : false ≡ true = f refl in cc
  marked_alike false false before rest own f h = h

  -- the first mark of an entry that one transaction alone has touched is its own
  pub first_is_own : (e : Entry B) (t : ℕ) (xs : List (Touch (Entry B))) → ((u : ℕ) → lists k u e xs ≡ true → u ≡ t)
      → first_before k (λ u. true) e (notes_of xs) ≡ own_before k t e (notes_of xs)
  first_is_own e t [] alone = refl
  first_is_own e t (x ∷ xs) alone =
      marked_alike (x.transaction == t) (same k e x.entry) x.before (first_before k (λ u. true) e (notes_of xs)) (own_before k t e (notes_of xs))
      (λ is.
      let listed : lists k x.transaction e (x ∷ xs) ≡ true =
      ap (λ b. (b && same k e x.entry) || lists k x.transaction e xs) (itself x.transaction) ∙ ap (λ b. b || lists k x.transaction e xs) is in
      ap (λ u. x.transaction == u) (sym (alone x.transaction listed)) ∙ itself x.transaction)
      (first_is_own e t xs (λ u h. alone u (or_second (x.transaction == u && same k e x.entry) (lists k u e xs) h)))

  pub own_listed : (e : Entry B) (t : ℕ) (xs : List (Touch (Entry B))) → is_some (own_before k t e (notes_of xs)) ≡ lists k t e xs
  own_listed e t xs =
      sym (some_mapped (own_before k t e (notes_of xs))) ∙ ap is_some (sym (noted_for e t xs)) ∙ noted_has keys e (notes_for xs t) ∙ has_for e t xs

  listed_touches : (e : Entry B) (t : ℕ) (xs : List (Touch (Entry B))) → lists k t e xs ≡ true → touches t xs ≡ true
  listed_touches e t [] h = cc
  listed_touches e t (x ∷ xs) h =
      elim (either_of (x.transaction == t && same k e x.entry) (lists k t e xs) h) [
        | inl here ↦ or_first (x.transaction == t) (touches t xs) (and_first (x.transaction == t) (same k e x.entry) here)
        | inr later ↦ or_second (x.transaction == t) (touches t xs) (listed_touches e t xs later)
      ]

  module _ (xs : List (Touch (Entry B))) (apart : Apart k xs) (few : length (numbers_of xs) ≤ 8) where
    abbrev ts : List ℕ
    ts = numbers_of xs

    abbrev losers : List (List (Note B))
    losers = losers_of xs

    -- what a session undoes is nothing, or what the transaction at its place has touched
    pub record IsOf (a : ℕ) : Type 0 where
      pub there : is_session a ≡ true
      pub low : a - 1 < length ts
      pub notes : loser_at a losers ≡ notes_for xs (slice_index_or ts (a - 1) 0)

    loser_by : (a : ℕ) (there : Bool) → is_session a ≡ there → (e : Entry B)
        → has keys e (entries_of (if there then slice_index_or losers (a - 1) [] else [])) ≡ true → IsOf a
    loser_by a false is e h = let no : ⊥ = cc in absurd no
    loser_by a true is e h =
        let same : loser_at a losers ≡ slice_index_or losers (a - 1) [] = ap (λ b. if b then slice_index_or losers (a - 1) [] else []) is in
        elim (listed_at (notes_for xs) 8 (a - 1) ts) [
          | inl none ↦ (let no : ⊥ = not_both (has keys e (entries_of (slice_index_or losers (a - 1) []))) h (ap (λ (ns : List (Note B)). has keys e (entries_of ns)) none) in absurd no)
          | inr some ↦ record { there = is; low = some.0; notes = same ∙ some.1 }
        ]

    pub loser_is_of : (a : ℕ) (e : Entry B) → has keys e (entries_of (loser_at a losers)) ≡ true → IsOf a
    loser_is_of a e h = loser_by a (is_session a) refl e h

    one_session : (a b : ℕ) → (0 < a) × (a < 9) → (0 < b) × (b < 9) → a - 1 ≡ b - 1 → a ≡ b
    one_session a b p q same = omega arith

    -- and what it undoes is listed
    pub listed_with : (a : ℕ) (e : Entry B) (is : IsOf a) → has keys e (entries_of (loser_at a losers)) ≡ true → lists k (slice_index_or ts (a - 1) 0) e xs ≡ true
    listed_with a e is h =
        sym (has_for e (slice_index_or ts (a - 1) 0) xs) ∙ ap (λ (ns : List (Note B)). has keys e (entries_of ns)) (sym is.notes) ∙ h

    pub losers_apart : AreLosers keys losers
    losers_apart = record {
      eight = so_many (notes_for xs) 8 ts;
      apart = λ a b ne e h.
          elim (true_or_false (has keys e (entries_of (loser_at b losers)))) [
            | inl both ↦
                (let first : IsOf a = loser_is_of a e h in
                let second : IsOf b = loser_is_of b e both in
                let one : slice_index_or ts (a - 1) 0 ≡ slice_index_or ts (b - 1) 0 =
                apart (slice_index_or ts (a - 1) 0) (slice_index_or ts (b - 1) 0) e (listed_with a e first h) (listed_with b e second both) in
                absurd (ne (one_session a b (session_bounds a first.there) (session_bounds b second.there)
                (one_place ts (a - 1) (b - 1) (numbers_distinct xs) first.low second.low one))))
            | inr other ↦ other
          ];
    }

    -- the session of a transaction
    pub record IsHeldBy (t : ℕ) : Type 0 where
      pub place : ℕ
      pub low : place < length ts
      pub below : place < 8
      pub number : slice_index_or ts place 0 ≡ t
      pub notes : slice_index_or losers place [] ≡ notes_for xs t

    pub held_by : (t : ℕ) (e : Entry B) → lists k t e xs ≡ true → IsHeldBy t
    held_by t e h =
        let at : IsAt t ts = placed_in t ts (touching_in t xs (listed_touches e t xs h)) in
        let low = at.low in
        let below : at.place < 8 = omega (arith, low, few) in
        record { place = at.place; low = at.low; below = below; number = at.at; notes = listed_there (notes_for xs) 8 at.place ts below at.low ∙ ap (notes_for xs) at.at }

    noted_some : (e : Entry B) (ls : List (List (Note B))) (i : ℕ) → is_some (noted keys e (slice_index_or ls i [])) ≡ true → is_some (noted_in keys e (map loser_slot ls)) ≡ true
    noted_some e [] i h = let no : ⊥ = cc in absurd no
    noted_some e (notes ∷ ls) zero h =
        some_or (noted keys e (notes_kept (loser_slot notes))) (noted_in keys e (map loser_slot ls)) (ap (λ (ns : List (Note B)). is_some (noted keys e ns)) (notes_of_loser notes) ∙ h)
    noted_some e (notes ∷ ls) (suc i) h = or_some (noted keys e (notes_kept (loser_slot notes))) (noted_in keys e (map loser_slot ls)) (noted_some e ls i h)

    -- what is noted in any slot is noted in one
    found_in : (e : Entry B) (ls : List (List (Note B))) (was : Bool) → noted_in keys e (map loser_slot ls) ≡ Some was → (j : ℕ) × (noted keys e (slice_index_or ls j []) ≡ Some was)
    found_in e [] was h = let no : ⊥ = cc in absurd no
    found_in e (notes ∷ ls) was h =
        elim (true_or_false (is_some (noted keys e notes))) [
          | inl some ↦
              (let value : IsSome (noted keys e notes) = some_value (noted keys e notes) some in
              (0, value.is ∙ sym (ap (λ o. option_or o (noted_in keys e (map loser_slot ls))) (ap (noted keys e) (notes_of_loser notes) ∙ value.is)) ∙ h))
          | inr none ↦
              (let rest = found_in e ls was (sym (ap (λ o. option_or o (noted_in keys e (map loser_slot ls))) (ap (noted keys e) (notes_of_loser notes) ∙ none_of (noted keys e notes) none)) ∙ h) in
              (suc rest.0, rest.1))
        ]

    -- what is noted in any slot is the first mark of the log that is written anew
    pub noted_as_first : (e : Entry B) → noted_in keys e (map loser_slot losers) ≡ option_map not (first_before k (λ u. true) e (notes_of xs))
    noted_as_first e =
        elim (true_or_false (is_some (noted_in keys e (map loser_slot losers)))) [
          | inl some ↦
              (let value : IsSome (noted_in keys e (map loser_slot losers)) = some_value (noted_in keys e (map loser_slot losers)) some in
              let found = found_in e losers value.value value.is in
              let here : noted keys e (slice_index_or losers found.0 []) ≡ Some value.value = found.1 in
              let held : has keys e (entries_of (slice_index_or losers found.0 [])) ≡ true = sym (noted_has keys e (slice_index_or losers found.0 [])) ∙ ap is_some here in
              elim (listed_at (notes_for xs) 8 found.0 ts) [
                | inl none ↦ (let no : ⊥ = not_both (has keys e (entries_of (slice_index_or losers found.0 []))) held (ap (λ (ns : List (Note B)). has keys e (entries_of ns)) none) in absurd no)
                | inr at ↦
                    (let t : ℕ = slice_index_or ts found.0 0 in
                    let listed : lists k t e xs ≡ true = sym (has_for e t xs) ∙ ap (λ (ns : List (Note B)). has keys e (entries_of ns)) (sym at.1) ∙ held in
                    value.is ∙ sym here ∙ ap (noted keys e) at.1 ∙ noted_for e t xs
                    ∙ ap (option_map not) (sym (first_is_own e t xs (λ u h. apart u t e h listed))))
              ])
          | inr nothing ↦
              (let unlisted : (t : ℕ) → lists k t e xs ≡ false = λ t.
              elim (true_or_false (lists k t e xs)) [
                | inl is ↦
                    (let held : IsHeldBy t = held_by t e is in
                    let some : is_some (noted keys e (slice_index_or losers held.place [])) ≡ true =
                    ap (λ (ns : List (Note B)). is_some (noted keys e ns)) held.notes ∙ noted_has keys e (notes_for xs t) ∙ has_for e t xs ∙ is in
                    not_both (is_some (noted_in keys e (map loser_slot losers))) (noted_some e losers held.place some) nothing)
                | inr other ↦ other
              ] in
              none_of (noted_in keys e (map loser_slot losers)) nothing
              ∙ ap (option_map not) (sym (first_is_own e 0 xs (λ u h. not_both (lists k u e xs) h (unlisted u))
              ∙ none_of (own_before k 0 e (notes_of xs)) (own_listed e 0 xs ∙ unlisted 0))))
        ]

    notes_counted : (t : ℕ) → length (notes_for xs t) ≡ length (filter (λ x. x.transaction == t) xs)
    notes_counted t = length-map (filter (λ x. x.transaction == t) xs) note_of

    -- no more is claimed than was touched
    pub claims_few : claims_held (map loser_slot losers) ≤ length xs
    claims_few =
        let claims : claims_held (map loser_slot losers) ≡ sum_by length losers = losers_hold losers in
        let sizes : sum_by length losers ≤ sum_over (λ t. length (notes_for xs t)) ts = listed_sum (notes_for xs) 8 ts in
        let counts : sum_over (λ t. length (notes_for xs t)) ts ≡ sum_over (λ t. length (filter (λ x. x.transaction == t) xs)) ts =
        ap (λ (f : ℕ → ℕ). sum_over f ts) (fun_ext notes_counted) in
        let all = touched_by_each xs ts (numbers_distinct xs) in
        omega (arith, claims, sizes, counts, all)
