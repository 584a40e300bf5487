-- A search's answer that is given up.
use Rattle.std.proofs.Common.{◌≡◌, ℕ, Bool, true, false, List, Option, Some, None, refl, ap, sym, ◌∙◌}
use Rattle.std.specs.Prelude.{if◌then◌else◌, nat_le, option_map}
use Rattle.gx_geom.specs.declared.refusal.Refusal.TheVariants as refusal
use Rattle.gx_machine.specs.declared.entry.Entry.{Entry}
use Rattle.gx_machine.specs.declared.call.Call.TheVariants.{Begin, Insert, Delete, Search, Commit, Abort}
use Rattle.gx_machine.specs.declared.reply.Reply.{Reply}
use Rattle.gx_machine.specs.declared.reply.Reply.TheVariants as reply
use Rattle.gx_machine.specs.Keys.{Keys}
use Rattle.gx_machine.specs.Sets.{has, including, excluding}
use Rattle.gx_machine.specs.Sessions.{Session, Changes, view, Idle, Open, Aborting, Committing, answer_session, closed_session}
use Rattle.gx_machine.specs.Machine.{Machine, session_at, with_session}
use Rattle.gx_machine.specs.Runs.{Answers, IsStep}
use Rattle.gx_machine.proofs.StepEffects.{mapped}
use Rattle.gx_machine.proofs.SessionMoves.{value_of}
use Rattle.gx_events.specs.Happens.{Ends, Lacks}

abbrev is_found : {B : Type 0} → Reply B → Bool
is_found (reply.Found entries) = true
is_found reply.Ok = false
is_found reply.Inserted = false
is_found reply.Deleted = false
is_found (reply.Committed number) = false
is_found reply.Aborted = false
is_found (reply.Refused why) = false

module _ {B : Type 0} (k : Keys B) where
  either_none : (b : Bool) (p q y : Reply B × Changes B) → (if b then p else q) ≡ y → is_found p.0 ≡ false → is_found q.0 ≡ false → is_found y.0 ≡ false
  either_none true p q y h one two = sym (ap (λ (z : Reply B × Changes B). is_found z.0) h) ∙ one
  either_none false p q y h one two = sym (ap (λ (z : Reply B × Changes B). is_found z.0) h) ∙ two

  committing_none : (b : Bool) (number : ℕ) (y : Reply B × Session B) → (if b then Some (reply.Committed number, Idle) else None) ≡ Some y → is_found y.0 ≡ false
  committing_none true number y h = sym (ap (λ (z : Reply B × Session B). is_found z.0) (value_of h))
  committing_none false number y h = let no : ⊥ = cc in absurd no

  closed_at : (latest : List (Entry B)) (oldest : ℕ) (x : Session B) (y : Reply B × Session B) → answer_session k latest oldest x ≡ Some y
      → is_found y.0 ≡ true → (closed_session x ≡ Some y.1) × Lacks refusal.Memory x
  closed_at latest oldest Idle y h is = let no : ⊥ = cc in absurd no
  closed_at latest oldest (Open locks changes None) y h is = let no : ⊥ = cc in absurd no
  closed_at latest oldest (Open locks changes (Some (Insert e))) y h is =
      let p : Reply B × Changes B = if has k e (view k latest changes) then (reply.Refused refusal.Present, changes) else (reply.Inserted, record { added = including k e changes.added; taken = excluding k e changes.taken }) in
      let none : is_found p.0 ≡ false = either_none (has k e (view k latest changes)) (reply.Refused refusal.Present, changes) (reply.Inserted, record { added = including k e changes.added; taken = excluding k e changes.taken }) p refl refl refl in
      let same : is_found p.0 ≡ is_found y.0 = ap (λ (z : Reply B × Session B). is_found z.0) (value_of h) in
      let no : ⊥ = cc in absurd no
  closed_at latest oldest (Open locks changes (Some (Delete e))) y h is =
      let p : Reply B × Changes B = if has k e (view k latest changes) then (reply.Deleted, record { added = excluding k e changes.added; taken = including k e changes.taken }) else (reply.Refused refusal.Absent, changes) in
      let none : is_found p.0 ≡ false = either_none (has k e (view k latest changes)) (reply.Deleted, record { added = excluding k e changes.added; taken = including k e changes.taken }) (reply.Refused refusal.Absent, changes) p refl refl refl in
      let same : is_found p.0 ≡ is_found y.0 = ap (λ (z : Reply B × Session B). is_found z.0) (value_of h) in
      let no : ⊥ = cc in absurd no
  closed_at latest oldest (Open locks changes (Some (Search q))) y h is = (ap (λ (z : Reply B × Session B). Some z.1) (value_of h), refl)
  closed_at latest oldest (Open locks changes (Some Begin)) y h is = let no : ⊥ = cc in absurd no
  closed_at latest oldest (Open locks changes (Some Commit)) y h is = let no : ⊥ = cc in absurd no
  closed_at latest oldest (Open locks changes (Some Abort)) y h is = let no : ⊥ = cc in absurd no
  closed_at latest oldest (Aborting locks) y h is =
      let same : false ≡ is_found y.0 = ap (λ (z : Reply B × Session B). is_found z.0) (value_of h) in
      let no : ⊥ = cc in absurd no
  closed_at latest oldest (Committing number) y h is =
      let none : is_found y.0 ≡ false = committing_none (nat_le number oldest) number y h in
      let no : ⊥ = cc in absurd no

  pub given_up : (old new : Machine B) (s : ℕ) (entries : List (Entry B)) → IsStep k old (Answers s (reply.Found entries)) new → Ends k s (reply.Refused refusal.Memory) old new
  given_up old new s entries h =
      let f = mapped (λ (p : Reply B × Session B). (p.0, with_session s p.1 old)) (answer_session k old.latest old.oldest (session_at s old.sessions)) (reply.Found entries, new) h.1 in
      let is : is_found f.0.0 ≡ true = ap (λ (p : Reply B × Machine B). is_found p.0) f.2 in
      let closed = closed_at old.latest old.oldest (session_at s old.sessions) f.0 f.1 is in (
        closed.1,
        (
          h.0,
          refl,
          ap (λ (o : Option (Session B)). option_map (λ (x : Session B). with_session s x old) o) closed.0
              ∙ ap (λ (p : Reply B × Machine B). Some p.1) f.2,
        ),
      )
