-- Moves of kept sets are steps of the set machine.
use Rattle.std.proofs.Common.{◌≡◌, ℕ, ◌+◌, ◌-◌, ◌<◌, ◌≤◌, Bool, true, false, not, cond, ◌&&◌, ◌||◌, ◌⊎◌, inl, inr, List, [], ◌∷◌, ◌++◌, Some, length, get_or, map, refl, ap, sym, ◌∙◌, subst, le_refl, arith}
use Rattle.std.specs.Prelude.{option_map, filter, ◌==◌, if◌then◌else◌, is_some, slice_set}
use Rattle.std.specs.declared.cmp.Ordering.{Ordering}
use Rattle.std.specs.declared.cmp.Ordering.TheVariants.{Less}
use Rattle.std.specs.Cmp.{nat_cmp_total}
use Rattle.std.proofs.lemmas.Cmp.{tied_itself}
use Rattle.std.proofs.lemmas.Bool.{eqb-true}
use Rattle.std.specs.Ordering.{is_eq, ordering_then, nat_cmp}
use Rattle.std.proofs.Math.Nat.{eq-or-lt_of_le}
use Rattle.std.proofs.Math.ListN.{get_or-append}
use Rattle.std.proofs.Math.Seq.{get_or-append_seam}
use Rattle.std.proofs.lemmas.List.{get_or-drop, drop-append-le, length-drop, length-append}
use Rattle.gx_machine.specs.declared.entry.Entry.{Entry}
use Rattle.gx_machine.specs.Keys as keys
use Rattle.gx_machine.specs.Sets.{has, InOrder, Before, IsSetOf}
use Rattle.gx_machine.specs.Sessions as sessions
use Rattle.gx_machine.specs.Machine as machine
use Rattle.gx_machine.proofs.SetLaws.{has-view, has-filter, in_order_filter}
use Rattle.gx_machine.proofs.StepsKeep.{view_in_order}
use Rattle.gx_recovery.specs.Known.{Known, IsLawful, same}
use Rattle.gx_recovery.specs.Records.{Record, Touch, settled, any_number}
use Rattle.gx_recovery.specs.Analysis.{analysis, number_of, lists, touch_cmp}
use Rattle.gx_recovery.specs.Redo.{tree_of}
use Rattle.gx_recovery.specs.Standing.{own_before, set_of, view_of}
use Rattle.gx_recovery.specs.Damage.{IsLog}
use Rattle.gx_recovery.specs.Life.{Kept, Move, Stays, Durable, Seals, Crashes, IsMove, AreSame, AreFewer, IsAdded, IsOneLeft}
use Rattle.gx_recovery.specs.Machines.{KeepsSets, is_working, IsMachineStep, entries_of, changes_of}
use Rattle.gx_recovery.proofs.Tests.{true_or_false}
use Rattle.gx_recovery.proofs.Touches as touches
use Rattle.gx_recovery.proofs.Told.{Told}
use Rattle.gx_recovery.proofs.Logs.{told_log}

nothing_past : (number first : ℕ) → first ≤ number → number ≤ first → number - first ≡ 0
nothing_past number first low high = omega arith

nothing_more : (n : ℕ) → n + 0 ≡ n
nothing_more n = omega arith

one_longer : (oldest older len new last : ℕ) → oldest + older ≡ last → len ≡ older + 1 → new ≡ last + 1 → oldest + len ≡ new
one_longer oldest older len new last a b c = omega arith

place_of_last : (oldest older last : ℕ) → oldest + older ≡ last → last - oldest ≡ older
place_of_last oldest older last h = omega arith

place_below : (oldest older number last len : ℕ) → oldest ≤ number → number ≤ last → oldest + older ≡ last → len ≡ older + 1 → number - oldest < len
place_below oldest older number last len low high h e = omega arith

up_to : (oldest older first last : ℕ) → oldest + older ≡ last → oldest ≡ first → first ≤ last
up_to oldest older first last h e = omega arith

only_left : (number first last : ℕ) → first ≤ number → number ≤ last → first ≡ last → number ≡ last
only_left number first last low high e = omega arith

raised : (a b c : ℕ) → a ≤ b → b ≤ c → a ≤ c
raised a b c p q = omega arith

view_of_changes : (live touched latest : Bool) → ((live && touched) || (not (not live && touched) && latest)) ≡ (if touched then live else latest)
view_of_changes true true latest = refl
view_of_changes true false latest = refl
view_of_changes false true latest = refl
view_of_changes false false latest = refl

within : (oldest number n len : ℕ) → oldest ≤ n → n ≤ oldest + len → n - oldest ≤ len
within oldest number n len low high = omega arith

fewer : (oldest n len : ℕ) → oldest ≤ n → n ≤ oldest + len → n + (len - (n - oldest)) ≡ oldest + len
fewer oldest n len low high = omega arith

past : (oldest n number : ℕ) → oldest ≤ n → n ≤ number → (n - oldest) + (number - n) ≡ number - oldest
past oldest n number low high = omega arith

below : (low number last n : ℕ) → number ≤ n → n ≡ last → number ≤ last
below low number last n h e = omega arith

lifted : (a b c : ℕ) → a ≡ b → b ≤ c → a ≤ c
lifted a b c e h = omega arith

split_last : (number last new : ℕ) → number ≤ new → new ≡ last + 1 → (number ≤ last) ⊎ (number ≡ new)
split_last number last new h e = elim (eq-or-lt_of_le {n = number} {m = new} h) [ inl is ↦ inr is | inr less ↦ inl (omega arith) ]

module _ {B : Type 0} (k : keys.Keys B) where
  as_set : (p q : Entry B → Bool) (x y : List (Entry B)) → x ≡ y → ((e : Entry B) → q e ≡ p e) → IsSetOf k p y → IsSetOf k q x
  as_set p q x y is same set = record { in_order = subst (InOrder k) (sym is) set.in_order; members = λ e. ap (has k e) is ∙ set.members e ∙ sym (same e) }

  -- sets that become durable keep their numbers
  dropped_set : (m : machine.Machine B) (n number : ℕ) → m.oldest ≤ n → n ≤ machine.newest m → n ≤ number
      → machine.set_of number (machine.durable n m) ≡ machine.set_of number m
  dropped_set m n number low high at =
      let few : n - m.oldest ≤ length m.older = within m.oldest number n (length m.older) low high in
      ap (λ xs. get_or xs (number - n) []) (sym (drop-append-le (n - m.oldest) m.older (m.latest ∷ []) few))
      ∙ get_or-drop (n - m.oldest) (m.older ++ m.latest ∷ []) (number - n) [] ∙ ap (λ i. get_or (m.older ++ m.latest ∷ []) i []) (past m.oldest n number low at)

  stays : (old new : Kept (Entry B)) (m : machine.Machine B) → KeepsSets k old m → AreSame old new → KeepsSets k new m
  stays old new m keeps same = record {
    oldest = keeps.oldest ∙ sym same.first;
    newest = keeps.newest ∙ sym same.last;
    sets = λ number low high.
        let from : old.first ≤ number = lifted old.first new.first number (sym same.first) low in
        let to : number ≤ old.last = below old.first number old.last new.last high same.last in
        as_set (old.set number) (new.set number) (machine.set_of number m) (machine.set_of number m) refl (same.sets number from to) (keeps.sets number from to);
  }

  fewer_sets : (old new : Kept (Entry B)) (m : machine.Machine B) → m.failed ≡ false → KeepsSets k old m → AreFewer old new → IsMachineStep k m Durable new
  fewer_sets old new m works keeps few =
      let low : m.oldest ≤ new.first = lifted m.oldest old.first new.first keeps.oldest few.first in
      let high : new.first ≤ machine.newest m = subst (λ n. new.first ≤ n) (few.last ∙ sym keeps.newest) few.some_left in (
        (works, low, high, refl),
        record {
          oldest = refl;
          newest = ap (λ n. new.first + n) (length-drop (new.first - m.oldest) m.older) ∙ fewer m.oldest new.first (length m.older) low high ∙ keeps.newest ∙ sym few.last;
          sets = λ number from to.
              let at_most : number ≤ old.last = below old.first number old.last new.last to few.last in
              as_set (old.set number) (new.set number) (machine.set_of number (machine.durable new.first m)) (machine.set_of number m)
              (dropped_set m new.first number low high from) (few.sets number from at_most) (keeps.sets number (raised old.first new.first number few.first from) at_most);
        },
      )

  one_left : (old new : Kept (Entry B)) (m : machine.Machine B) → KeepsSets k old m → IsOneLeft old new → IsMachineStep k m Crashes new
  one_left old new m keeps one =
      let high : new.first ≤ old.last = lifted new.first new.last old.last one.one one.at_most in (
        (lifted m.oldest old.first new.first keeps.oldest one.at_least, subst (λ n. new.first ≤ n) (sym keeps.newest) high, refl),
        record {
          oldest = refl;
          newest = nothing_more new.first ∙ one.one;
          sets = λ number from to.
              let is : number ≡ new.last = only_left number new.first new.last from to one.one in
              let first : number - new.first ≡ 0 = nothing_past number new.first from (subst (λ n. number ≤ n) (sym one.one) to) in
              as_set (old.set new.first) (new.set number) (machine.set_of number (machine.crash new.first m)) (machine.set_of new.first m)
              (ap (λ i. get_or (machine.set_of new.first m ∷ []) i []) first)
              (λ e. ap (λ n. new.set n e) is ∙ one.set e ∙ ap (λ n. old.set n e) (sym one.one)) (keeps.sets new.first one.at_least high);
        },
      )

  module _ (l : keys.IsLawful k) where
    last_set : (old : Kept (Entry B)) (m : machine.Machine B) → KeepsSets k old m → IsSetOf k (old.set old.last) m.latest
    last_set old m keeps =
        let at : machine.set_of old.last m ≡ m.latest =
        ap (λ i. get_or (m.older ++ m.latest ∷ []) i []) (place_of_last m.oldest (length m.older) old.last keeps.newest) ∙ get_or-append_seam m.older m.latest [] [] in
        as_set (old.set old.last) (old.set old.last) m.latest (machine.set_of old.last m) (sym at) (λ e. refl)
        (keeps.sets old.last (up_to m.oldest (length m.older) old.first old.last keeps.newest keeps.oldest) (le_refl old.last))

    added_set : (old new : Kept (Entry B)) (m : machine.Machine B) (view : Entry B → Bool) → m.failed ≡ false → KeepsSets k old m → IsAdded view old new → IsMachineStep k m (Seals view) new
    added_set old new m view works keeps added s asks =
        let next : machine.Machine B = record m {
          older = machine.kept_sets m;
          latest = sessions.view k m.latest asks.changes;
          sessions = slice_set m.sessions (s - 1) (sessions.Committing (machine.newest m + 1));
        } in
        let longer : length (m.older ++ m.latest ∷ []) ≡ length m.older + 1 = length-append m.older (m.latest ∷ []) in
        let number_is : new.last ≡ machine.newest m + 1 = added.last ∙ ap (λ n. n + 1) (sym keeps.newest) in
        let newest_is : machine.newest next ≡ new.last = one_longer m.oldest (length m.older) (length (m.older ++ m.latest ∷ [])) new.last old.last keeps.newest longer added.last in
        let sealed : machine.seal k s m ≡ Some next =
        ap (λ (x : sessions.Session B). option_map (λ (set : List (Entry B)). record m {
          older = machine.kept_sets m;
          latest = set;
          sessions = slice_set m.sessions (s - 1) (sessions.Committing (machine.newest m + 1));
        }) (sessions.sealed_set k m.latest x)) asks.session in (
          next,
          (works, number_is, sealed),
          record {
            oldest = keeps.oldest ∙ sym added.first;
            newest = newest_is;
            sets = λ number from to.
                elim (split_last number old.last new.last to added.last) [
                  | inl kept ↦
                      let low : old.first ≤ number = lifted old.first new.first number (sym added.first) from in
                      as_set (old.set number) (new.set number) (machine.set_of number next) (machine.set_of number m)
                      (get_or-append (m.older ++ m.latest ∷ []) (sessions.view k m.latest asks.changes ∷ []) [] (number - m.oldest)
                      (place_below m.oldest (length m.older) number old.last (length (m.older ++ m.latest ∷ [])) (lifted m.oldest old.first number keeps.oldest low) kept keeps.newest longer))
                      (added.sets number low kept) (keeps.sets number low kept)
                  | inr last ↦
                      as_set view (new.set number) (machine.set_of number next) (sessions.view k m.latest asks.changes)
                      (ap (λ i. get_or ((m.older ++ m.latest ∷ []) ++ sessions.view k m.latest asks.changes ∷ []) i [])
                      (ap (λ n. n - m.oldest) last ∙ place_of_last m.oldest (length (m.older ++ m.latest ∷ [])) new.last newest_is)
                      ∙ get_or-append_seam (m.older ++ m.latest ∷ []) (sessions.view k m.latest asks.changes) [] [])
                      (λ e. ap (λ n. new.set n e) last ∙ added.added e)
                      (record { in_order = view_in_order k l m.latest asks.changes (last_set old m keeps).in_order; members = asks.view })
                ];
          },
        )

    -- each move of the kept sets is a step of the machine
    pub machine_step : (old new : Kept (Entry B)) (move : Move (Entry B)) (m : machine.Machine B) → (is_working move ≡ true → m.failed ≡ false) → KeepsSets k old m → IsMove old move new → IsMachineStep k m move new
    machine_step old new Stays m works keeps is = (refl, stays old new m keeps is)
    machine_step old new Durable m works keeps is = fewer_sets old new m (works refl) keeps is
    machine_step old new (Seals view) m works keeps is = added_set old new m view (works refl) keeps is
    machine_step old new Crashes m works keeps is = one_left old new m keeps is

module _ {B P : Type 0} (k : keys.Keys B) (l : keys.IsLawful k) (known : Known (Entry B) P) (kl : IsLawful known) (cmp : known.cmp ≡ keys.entry_cmp k) where
  pub same_test : (a b : Entry B) → same known a b ≡ keys.same_entry k a b
  same_test a b = ap (λ (c : Entry B → Entry B → Ordering). is_eq (c a b)) cmp

  entry_listed : (t : ℕ) (e : Entry B) (xs : List (Touch (Entry B))) → has k e (entries_of t xs) ≡ lists known t e xs
  entry_listed t e [] = refl
  entry_listed t e (x ∷ xs) =
      elim (x.transaction == t) as (λ b. has k e (map (λ (y : Touch (Entry B)). y.entry) (cond b (x ∷ filter (λ (y : Touch (Entry B)). y.transaction == t) xs) (filter (λ (y : Touch (Entry B)). y.transaction == t) xs)))
      ≡ ((b && same known e x.entry) || lists known t e xs)) [
        | true ↦ ap (λ b. b || has k e (entries_of t xs)) (sym (same_test e x.entry)) ∙ ap (λ b. same known e x.entry || b) (entry_listed t e xs)
        | false ↦ entry_listed t e xs
      ]

  less_then : (a b : Touch (Entry B)) → a.transaction ≡ b.transaction → touch_cmp known a b ≡ Less → keys.entry_cmp k a.entry b.entry ≡ Less
  less_then a b one h =
      ap (λ (c : Entry B → Entry B → Ordering). c a.entry b.entry) (sym cmp)
      ∙ sym (ap (λ (o : Ordering). ordering_then o (known.cmp a.entry b.entry)) (ap (λ n. nat_cmp n b.transaction) one ∙ tied_itself nat_cmp_total b.transaction)) ∙ h

  before_entries : (t : ℕ) (x : Touch (Entry B)) (xs : List (Touch (Entry B))) → x.transaction ≡ t → touches.Before known x xs → Before k x.entry (entries_of t xs)
  before_entries t x [] is b = tt
  before_entries t x (y ∷ ys) is b =
      elim (true_or_false (y.transaction == t)) [
        | inl one ↦
            subst (λ c. Before k x.entry (map (λ (z : Touch (Entry B)). z.entry) (cond c (y ∷ filter (λ (z : Touch (Entry B)). z.transaction == t) ys) (filter (λ (z : Touch (Entry B)). z.transaction == t) ys)))) (sym one)
            (less_then x y (is ∙ sym (eqb-true y.transaction t one)) b.0, before_entries t x ys is b.1)
        | inr other ↦
            subst (λ c. Before k x.entry (map (λ (z : Touch (Entry B)). z.entry) (cond c (y ∷ filter (λ (z : Touch (Entry B)). z.transaction == t) ys) (filter (λ (z : Touch (Entry B)). z.transaction == t) ys)))) (sym other)
            (before_entries t x ys is b.1)
      ]

  entries_in_order : (t : ℕ) (xs : List (Touch (Entry B))) → touches.InOrder known xs → InOrder k (entries_of t xs)
  entries_in_order t [] o = tt
  entries_in_order t (x ∷ xs) o =
      elim (true_or_false (x.transaction == t)) [
        | inl one ↦
            subst (λ c. InOrder k (map (λ (z : Touch (Entry B)). z.entry) (cond c (x ∷ filter (λ (z : Touch (Entry B)). z.transaction == t) xs) (filter (λ (z : Touch (Entry B)). z.transaction == t) xs)))) (sym one)
            (before_entries t x xs (eqb-true x.transaction t one) o.0, entries_in_order t xs o.1)
        | inr other ↦
            subst (λ c. InOrder k (map (λ (z : Touch (Entry B)). z.entry) (cond c (x ∷ filter (λ (z : Touch (Entry B)). z.transaction == t) xs) (filter (λ (z : Touch (Entry B)). z.transaction == t) xs)))) (sym other)
            (entries_in_order t xs o.1)
      ]

  module _ (area : ℕ → P) (log : List (Record (Entry B) P)) (i : IsLog known log) (t : ℕ) (open_yet : settled any_number t log ≡ false) where
    told : Told known log
    told = told_log known kl log i

    entries : List (Entry B)
    entries = entries_of t (analysis known log).touched

    pub added_in_order : InOrder k (changes_of known t area log).added
    added_in_order = in_order_filter k l (λ e. known.live (tree_of known area log) e) (entries_of t (analysis known log).touched) (entries_in_order t (analysis known log).touched told.in_order)

    pub taken_in_order : InOrder k (changes_of known t area log).taken
    taken_in_order = in_order_filter k l (λ e. not (known.live (tree_of known area log) e)) (entries_of t (analysis known log).touched) (entries_in_order t (analysis known log).touched told.in_order)

    touched_own : (e : Entry B) → has k e (entries_of t (analysis known log).touched) ≡ is_some (own_before known t e log)
    touched_own e = entry_listed t e (analysis known log).touched ∙ told.listed t e ∙ ap (λ b. not b && is_some (own_before known t e log)) open_yet

    pub added_members : (e : Entry B) → has k e (changes_of known t area log).added ≡ (known.live (tree_of known area log) e && is_some (own_before known t e log))
    added_members e =
        has-filter k l (λ x. known.live (tree_of known area log) x) e (entries_of t (analysis known log).touched) ∙ ap (λ b. known.live (tree_of known area log) e && b) (touched_own e)

    pub taken_members : (e : Entry B) → has k e (changes_of known t area log).taken ≡ (not (known.live (tree_of known area log) e) && is_some (own_before known t e log))
    taken_members e =
        has-filter k l (λ x. not (known.live (tree_of known area log) x)) e (entries_of t (analysis known log).touched) ∙ ap (λ b. not (known.live (tree_of known area log) e) && b) (touched_own e)

    -- the machine's view by what was added and taken away is the view by touches
    pub view_as_set : (latest : List (Entry B)) → IsSetOf k (set_of known (number_of known log) area log) latest
        → IsSetOf k (view_of known t area log) (sessions.view k latest (changes_of known t area log))
    view_as_set latest set = record {
      in_order = view_in_order k l latest (changes_of known t area log) set.in_order;
      members = λ e.
          has-view k l e latest (changes_of known t area log).added (changes_of known t area log).taken
          ∙ ap (λ b. b || (not (has k e (changes_of known t area log).taken) && has k e latest)) (added_members e)
          ∙ ap (λ b. (known.live (tree_of known area log) e && is_some (own_before known t e log)) || (not b && has k e latest)) (taken_members e)
          ∙ ap (λ b. (known.live (tree_of known area log) e && is_some (own_before known t e log)) || (not (not (known.live (tree_of known area log) e) && is_some (own_before known t e log)) && b)) (set.members e)
          ∙ view_of_changes (known.live (tree_of known area log) e) (is_some (own_before known t e log)) (set_of known (number_of known log) area log e);
    }
