-- Transactions that a crash cut off, each held with a session: one note more, and all.
use Rattle.std.proofs.Common.{◌≡◌, ℕ, suc, ◌+◌, ◌-◌, ◌<◌, ◌≤◌, true, false, Option, Some, None, Result, Err, List, [], ◌∷◌, ◌++◌, length, take, drop, get_or, ap, sym, ◌∙◌, subst, arith, take-append-drop}
use Rattle.std.specs.Prelude.{◌==◌, if◌then◌else◌, IfSome, IsOk}
use Rattle.std.specs.List.{AllByRecursion}
use Rattle.std.proofs.lemmas.List.{length-append, take_more}
use Rattle.gx_geom.specs.declared.refusal.Refusal.{Refusal}
use Rattle.gx_machine.specs.declared.call.Call.TheVariants.{Insert}
use Rattle.gx_machine.specs.declared.entry.Entry.{Entry}
use Rattle.gx_machine.specs.Keys.{Keys, IsLawful}
use Rattle.gx_machine.specs.Machine.{is_session}
use Rattle.gx_events.proofs.Places.{is_numbered}
use Rattle.gx_recovery.specs.Records.{Touch}
use Rattle.gx_index_laws.specs.Openings.{numbers_of}
use Rattle.gx_txn.specs.declared.note.Note.{Note}
use Rattle.gx_txn.specs.Tables.{locks_for}
use Rattle.gx_phases.specs.Moves.{TakesUp}
use Rattle.gx_phases.specs.States.{State}
use Rattle.gx_engine.specs.declared.work.Work.{Work}
use Rattle.gx_engine.specs.declared.work.Work.TheVariants.{Rests}
use Rattle.gx_engine.specs.Losing.{AreCutOff, AreHeld, ComesBefore, ComeInOrder, note_in, session_after}
use Rattle.gx_engine.proofs.Losing.{last_of, last_more, numbers_longer}
use Rattle.gx_engine.proofs.LosingStates.{IsNext, IsSoFar, next_session, taken_up, took}
use Rattle.gx_engine.proofs.LosingEnds.{all_held}

-- a transaction's session is one of the eight
pub after_one : (last : Option ℕ) (session t : ℕ) → IfSome last (λ u. 1 ≤ session) → 1 ≤ session_after session last t
after_one None session t some = omega arith
after_one (Some u) session t some =
    elim (u == t) as (λ b. 1 ≤ (if b then session else session + 1)) [ true ↦ some | false ↦ omega arith ]

pub is_one : (s : ℕ) → 1 ≤ s → s ≤ 8 → is_session s ≡ true
is_one s first last =
    let back : suc (s - 1) ≡ s = omega (arith, first) in
    subst (λ n. is_session n ≡ true) back (is_numbered (s - 1) (omega (arith, first, last)))

pub not_refused : (why : Refusal) → IsOk {T = Unit {0}} (Err why) → ⊥
not_refused why ok = let no : ⊥ = cc in no

all_cut : {X : Type 0} (P : X → Type 0) (ys : List X) (x : X) (zs : List X) → AllByRecursion P ((ys ++ x ∷ []) ++ zs) → AllByRecursion P ys × P x
all_cut P [] x zs all = (tt, all.0)
all_cut P (y ∷ ys) x zs all = let rest = all_cut P ys x zs all.1 in ((all.0, rest.0), rest.1)

order_cut : {B : Type 0} (k : Keys B) (ys : List (Touch (Entry B))) (x : Touch (Entry B)) (zs : List (Touch (Entry B))) → ComeInOrder k ((ys ++ x ∷ []) ++ zs)
    → ComeInOrder k ys × AllByRecursion (λ y. ComesBefore k y x) ys
order_cut k [] x zs order = (tt, tt)
order_cut k (y ∷ ys) x zs order =
    let first = all_cut (ComesBefore k y) ys x zs order.0 in
    let rest = order_cut k ys x zs order.1 in
    ((first.0, rest.0), (first.1, rest.1))

module _ {B : Type 0} (k : Keys B) (l : IsLawful k) (losers : List (Touch (Entry B))) (cut : AreCutOff k losers) (old : State B (Work B)) where
  module _ (i : ℕ) (x : Touch (Entry B)) (low : i < length losers) (is : x ≡ get_or losers i x) where
    abbrev ys : List (Touch (Entry B))
    ys = take i losers

    abbrev zs : List (Touch (Entry B))
    zs = drop (i + 1) losers

    more : take (i + 1) losers ≡ ys ++ x ∷ []
    more = take_more losers i x low ∙ ap (λ (y : Touch (Entry B)). ys ++ y ∷ []) (sym is)

    all : losers ≡ (ys ++ x ∷ []) ++ zs
    all = sym (take-append-drop (i + 1) losers) ∙ ap (λ (us : List (Touch (Entry B))). us ++ zs) more

    orders : ComeInOrder k ys × AllByRecursion (λ y. ComesBefore k y x) ys
    orders = order_cut k ys x zs (subst (ComeInOrder k) all cut.in_order)

    eight : length (numbers_of (ys ++ x ∷ [])) ≤ 8
    eight =
        let longer = numbers_longer zs (ys ++ x ∷ []) in
        let most : length (numbers_of ((ys ++ x ∷ []) ++ zs)) ≤ 8 = subst (λ (us : List (Touch (Entry B))). length (numbers_of us) ≤ 8) all cut.eight in
        omega (arith, longer, most)

    few : length ys < 512
    few =
        let most : length ((ys ++ x ∷ []) ++ zs) ≤ 512 = subst (λ (us : List (Touch (Entry B))). length us ≤ 512) all cut.few in
        let first : length ((ys ++ x ∷ []) ++ zs) ≡ length (ys ++ x ∷ []) + length zs = length-append (ys ++ x ∷ []) zs in
        let second : length (ys ++ x ∷ []) ≡ length ys + 1 = length-append ys (x ∷ []) in
        omega (arith, most, first, second)

    module _ (session : ℕ) (last : Option ℕ) (now : State B (Work B)) (so : IsSoFar old ys session last now) (t : ℕ) (its : t ≡ x.transaction) (s : ℕ) (after : s ≡ session_after session last t) where
      next : IsNext k l x ys s
      next =
          subst (λ n. IsNext k l x ys n) (sym (after ∙ ap (session_after session last) its))
          (next_session k l x ys orders.0 orders.1 eight last so.ends session so.count)

      -- there is a session for it
      pub next_low : s < 9
      next_low = next.is.1

      -- it is not refused, and its note is taken up
      pub next_taken : (n : Note B) → n ≡ note_in x → (result : Result (Unit {0}) Refusal) (new : State B (Work B))
          → TakesUp k (locks_for k (Insert n.entry) s now.table) s t n Rests now result new
          → IsOk result × IsSoFar old (take (i + 1) losers) s (Some t) new
      next_taken n noted result new takes =
          let numbered = subst (λ (u : ℕ). TakesUp k (locks_for k (Insert n.entry) s now.table) s u n Rests now result new) its takes in
          let own = subst (λ (m : Note B). TakesUp k (locks_for k (Insert m.entry) s now.table) s x.transaction m Rests now result new) noted numbered in
          let up = subst (λ (o : State B (Work B)). TakesUp k (locks_for k (Insert x.entry) s o.table) s x.transaction (note_in x) Rests o result new) so.state own in
          let done : IsOk result × (new ≡ taken_up old (ys ++ x ∷ [])) = took k l x ys orders.1 few s next.placed old result new up in (
            done.0,
            record {
              ends = ap (λ u. Some u) its ∙ sym (ap last_of more ∙ last_more x ys);
              count = next.count ∙ ap (λ (us : List (Touch (Entry B))). length (numbers_of us)) (sym more);
              state = done.1 ∙ ap (taken_up old) (sym more);
            },
          )

  -- once all are taken up
  pub all_taken : (n session : ℕ) (last : Option ℕ) (now : State B (Work B)) → take n losers ≡ losers → IsSoFar old (take n losers) session last now
      → AreHeld losers now
  all_taken n session last now whole so =
      let is : now ≡ taken_up old losers = so.state ∙ ap (taken_up old) whole in
      subst (λ (s : State B (Work B)). AreHeld losers s) (sym is) (all_held k losers cut old)
