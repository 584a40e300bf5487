-- The table's decisions are the set machine's on sessions with the same locks.
use Rattle.std.proofs.Common.{◌≡◌, ℕ, ◌+◌, ◌-◌, Bool, true, not, ◌&&◌, List, [], ◌∷◌, map, length, Option, None, Some, refl, ap, sym, ◌∙◌}
use Rattle.std.specs.Prelude.{if◌then◌else◌, ◌==◌, sum_by}
use Rattle.std.specs.List.{slice_index_or, fold}
use Rattle.std.proofs.Math.ListN.{get_or-map}
use Rattle.gx_machine.specs.declared.entry.Entry.{Entry}
use Rattle.gx_machine.specs.declared.call.Call.{Call}
use Rattle.gx_machine.specs.declared.call.Call.TheVariants.{Insert, Delete}
use Rattle.gx_machine.specs.Keys.{Keys}
use Rattle.gx_machine.specs.Machine.{is_session, session_at, least_conflicting, claims_held}
use Rattle.gx_machine.specs.Sessions.{Session, Idle, Locks, no_locks, locks_of, conflicts, lock_for}
use Rattle.gx_txn.specs.Tables.{Held, nothing_held, held_by, least_in, claims_in, locks_for}

abbrev locks : {B : Type 0} → List (Held B) → List (Locks B)
locks table = map (λ h. h.locks) table

abbrev claims_among : {B : Type 0} → List (Locks B) → ℕ
claims_among all = sum_by (λ x. length x.claims) all

module _ {B : Type 0} (k : Keys B) (call : Call B) (s : ℕ) where
  abbrev least_among : ℕ → List (Locks B) → Option ℕ
  least_among n [] = None
  least_among n (x ∷ all) = if not (n == s) && conflicts k call x then Some n else least_among (n + 1) all

  least_of_table : (n : ℕ) (table : List (Held B)) → least_in k call s n table ≡ least_among n (locks table)
  least_of_table n [] = refl
  least_of_table n (h ∷ table) = ap (λ (o : Option ℕ). if not (n == s) && conflicts k call h.locks then Some n else o) (least_of_table (n + 1) table)

  least_of_sessions : (n : ℕ) (sessions : List (Session B)) → least_conflicting k call s n sessions ≡ least_among n (map locks_of sessions)
  least_of_sessions n [] = refl
  least_of_sessions n (x ∷ sessions) =
      ap (λ (o : Option ℕ). if not (n == s) && conflicts k call (locks_of x) then Some n else o) (least_of_sessions (n + 1) sessions)

module _ {B : Type 0} where
  -- a sum over what locks are taken from is the sum over the locks
  among_map : {X : Type 0} (f : X → Locks B) (a : ℕ) (xs : List X)
      → fold (λ n x. n + length (f x).claims) a xs ≡ fold (λ n x. n + length x.claims) a (map f xs)
  among_map f a [] = refl
  among_map f a (x ∷ xs) = among_map f (a + length (f x).claims) xs

  claims_of_table : (table : List (Held B)) → claims_in table ≡ claims_among (locks table)
  claims_of_table table = among_map (λ (h : Held B). h.locks) 0 table

  claims_of_sessions : (sessions : List (Session B)) → claims_held sessions ≡ claims_among (map locks_of sessions)
  claims_of_sessions sessions = among_map locks_of 0 sessions

  abbrev placed : Bool → ℕ → List (Session B) → Session B
  placed there s sessions = if there then slice_index_or sessions (s - 1) Idle else Idle

  pub same_decision : (k : Keys B) (call : Call B) (s : ℕ) (sessions : List (Session B)) (table : List (Held B))
      → is_session s ≡ true → map locks_of sessions ≡ map (λ h. h.locks) table
      → locks_for k call s table ≡ lock_for k call (least_conflicting k call s 1 sessions) (claims_held sessions) (locks_of (session_at s sessions))
  same_decision k call s sessions table there same =
      let least : least_in k call s 1 table ≡ least_conflicting k call s 1 sessions =
      least_of_table k call s 1 table ∙ sym (ap (least_among k call s 1) same) ∙ sym (least_of_sessions k call s 1 sessions) in
      let spent : claims_in table ≡ claims_held sessions =
      claims_of_table table ∙ sym (ap claims_among same) ∙ sym (claims_of_sessions sessions) in
      let own : (held_by s table).locks ≡ locks_of (session_at s sessions) =
      sym (get_or-map (λ (h : Held B). h.locks) table (s - 1) nothing_held)
      ∙ sym (ap (λ (all : List (Locks B)). slice_index_or all (s - 1) no_locks) same)
      ∙ get_or-map locks_of sessions (s - 1) Idle
      ∙ sym (ap (λ (b : Bool). locks_of (placed b s sessions)) there) in
      (λ i. lock_for k call (least i) (spent i) (own i))

  least_of_delete : (k : Keys B) (e : Entry B) (s n : ℕ) (table : List (Held B)) → least_in k (Delete e) s n table ≡ least_in k (Insert e) s n table
  least_of_delete k e s n [] = refl
  least_of_delete k e s n (h ∷ table) =
      ap (λ (o : Option ℕ). if not (n == s) && conflicts k (Insert e) h.locks then Some n else o) (least_of_delete k e s (n + 1) table)

  delete_match : (k : Keys B) (e : Entry B) (spent : ℕ) (own : Locks B) (o : Option ℕ) → lock_for k (Delete e) o spent own ≡ lock_for k (Insert e) o spent own
  delete_match k e spent own None = refl
  delete_match k e spent own (Some other) = refl

  pub deletes_as_inserts : (k : Keys B) (e : Entry B) (s : ℕ) (table : List (Held B)) → locks_for k (Delete e) s table ≡ locks_for k (Insert e) s table
  deletes_as_inserts k e s table =
      ap (λ (o : Option ℕ). lock_for k (Delete e) o (claims_in table) (held_by s table).locks) (least_of_delete k e s 1 table)
      ∙ delete_match k e (claims_in table) (held_by s table).locks (least_in k (Insert e) s 1 table)
