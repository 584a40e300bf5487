-- A call's work, where its session keeps it.
use Rattle.std.proofs.Common.{◌≡◌, ◌∙◌, sym, ap, refl, subst, ℕ, ◌-◌, true, false, None, Some, List, [], ◌∷◌, length}
use Rattle.std.proofs.lemmas.List.{set-get_or, set-set}
use Rattle.gx_machine.specs.declared.call.Call.{Call}
use Rattle.gx_machine.specs.Keys.{Keys}
use Rattle.gx_machine.specs.Machine.{is_session}
use Rattle.gx_tree.specs.declared.found.Found.{Found}
use Rattle.gx_tree.specs.declared.look.Look.{Look}
use Rattle.gx_phases.specs.declared.phase.Phase.{Phase}
use Rattle.gx_phases.specs.declared.phase.Phase.TheVariants as phase
use Rattle.gx_phases.specs.Moves as moves
use Rattle.gx_phases.specs.Moves.{answered_state}
use Rattle.gx_phases.specs.States.{State, IsKept, phase_at, with_phase_of}
use Rattle.gx_engine.specs.declared.work.Work.{Work}
use Rattle.gx_engine.specs.declared.work.Work.TheVariants.{Descends, Looks, Rests, Seeks}
use Rattle.gx_engine.specs.Looks.{HasEnded, is_at_rest, leaf_found, turned_by}
use Rattle.gx_engine.specs.Moves.{calling}
use Rattle.gx_engine.specs.States.{Parts}
use Rattle.gx_engine.specs.Writes.{OnlyReads, brought, only_read}
use Rattle.gx_engine.proofs.LookMoves.{put_there, replaced}

-- a session's phase that is set twice
phase_twice : {B : Type 0} (s : ℕ) (p q : Phase B (Work B)) (sessions : State B (Work B)) → with_phase_of s q (with_phase_of s p sessions) ≡ with_phase_of s q sessions
phase_twice {B} s p q sessions = ap (λ (ps : List (Phase B (Work B))). record sessions { phases = ps }) (set-set sessions.phases (s - 1) p q)

module _ {B D : Type 0} (s : ℕ) (e : Parts B D) where
  -- the engine with a call at the work that it is at
  pub as_kept : (call : Call B) (work : Work B) → phase_at (s - 1) e.sessions.phases ≡ phase.Open call work → calling s call work e ≡ e
  as_kept call work at =
      ap (λ (p : Phase B (Work B)). record e { sessions = with_phase_of s p e.sessions }) (sym at)
      ∙ ap (λ (ps : List (Phase B (Work B))). record e { sessions = record e.sessions { phases = ps } }) (set-get_or e.sessions.phases (s - 1) phase.Free)

  -- and at other work twice
  pub calling_twice : (call other : Call B) (now work : Work B) → calling s call work (calling s other now e) ≡ calling s call work e
  calling_twice call other now work = ap (λ (x : State B (Work B)). record e { sessions = x }) (phase_twice s (phase.Open other now) (phase.Open call work) e.sessions)

  -- a call that rested, and has other work now
  pub rested : (call other : Call B) (work : Work B) → phase_at (s - 1) e.sessions.phases ≡ phase.Open call Rests → calling s call Rests (calling s other work e) ≡ e
  rested call other work at = calling_twice call other work Rests ∙ as_kept call Rests at

  -- only pages were brought
  pub brought_phase : (new : Parts B D) → new ≡ brought e new → (p : Phase B (Work B)) → phase_at (s - 1) e.sessions.phases ≡ p → phase_at (s - 1) new.sessions.phases ≡ p
  brought_phase new only p at = ap (λ (x : Parts B D). phase_at (s - 1) x.sessions.phases) only ∙ at

  -- its phase is what it was put in
  pub put_phase : (k : Keys B) → IsKept k e.sessions → is_session s ≡ true → (call : Call B) (work : Work B) (new : Parts B D) → new ≡ calling s call work (brought e new)
      → phase_at (s - 1) new.sessions.phases ≡ phase.Open call work
  put_phase k kept is call work new only =
      ap (λ (x : Parts B D). phase_at (s - 1) x.sessions.phases) only ∙ put_there k e.sessions kept s is (phase.Open call work)

  -- its call is answered then
  pub answered_there : (call : Call B) (work : Work B) (m new : Parts B D) → m ≡ calling s call work (brought e m) → new ≡ record m { sessions = answered_state s m.sessions }
      → new ≡ record e { volume = m.volume; sessions = answered_state s e.sessions }
  answered_there call work m new only closed =
      closed
      ∙ ap (λ (x : Parts B D). record x { volume = m.volume; sessions = answered_state s x.sessions }) only
      ∙ ap (λ (x : State B (Work B)). record e { volume = m.volume; sessions = x }) (phase_twice s (phase.Open call work) phase.Working e.sessions)

-- the look that a call is at
abbrev look_or : {B : Type 0} → Look B → Phase B (Work B) → Look B
look_or other (phase.Open call (Looks look)) = look
look_or other p = other

-- it is one
pub same_look : {B : Type 0} (p : Phase B (Work B)) (call other : Call B) (look another : Look B) → p ≡ phase.Open call (Looks look) → p ≡ phase.Open other (Looks another) → look ≡ another
same_look {B} p call other look another at there = ap (λ (q : Phase B (Work B)). look_or look q) (sym at ∙ there)

abbrev call_or : {B : Type 0} → Call B → Phase B (Work B) → Call B
call_or other (phase.Open call work) = call
call_or other p = other

-- and its call the one that is open
pub look_there : {B : Type 0} (p seen : Phase B (Work B)) (call : Call B) (was : Work B) (other : Call B) (look : Look B) → seen ≡ p → p ≡ phase.Open call was → seen ≡ phase.Open other (Looks look)
    → p ≡ phase.Open call (Looks look)
look_there {B} p seen call was other look is at there =
    let both : p ≡ phase.Open other (Looks look) = sym is ∙ there in
    both ∙ ap (λ (q : Phase B (Work B)). phase.Open (call_or other q) (Looks look)) (sym both ∙ at)

-- a call that is open and hasn't begun
rests_so : {B : Type 0} (call : Call B) (was : Work B) → is_at_rest (phase.Open call was) ≡ true → was ≡ Rests
rests_so call Rests is = refl
rests_so call (Looks look) is = absurd (let no : false ≡ true = is in cc)
rests_so call (Descends parent item) is = absurd (let no : false ≡ true = is in cc)
rests_so call (Seeks leaf) is = absurd (let no : false ≡ true = is in cc)

pub rests_there : {B : Type 0} (p : Phase B (Work B)) (call : Call B) (was : Work B) → p ≡ phase.Open call was → is_at_rest p ≡ true → p ≡ phase.Open call Rests
rests_there {B} p call was at is =
    at ∙ ap (λ (w : Work B). phase.Open call w) (rests_so call was (ap (λ (q : Phase B (Work B)). is_at_rest q) (sym at) ∙ is))

-- what a look turns into
pub turned_none : {B : Type 0} (found : List (Found B)) → leaf_found found ≡ None → found ≡ []
turned_none [] is = refl
turned_none (one ∷ found) is = absurd (let no : ⊥ = cc in no)

pub turned_some : {B : Type 0} (found : List (Found B)) (look : Look B) (leaf : ℕ) → leaf_found found ≡ Some leaf → turned_by found look ≡ Seeks leaf
turned_some [] look leaf is = absurd (let no : ⊥ = cc in no)
turned_some {B} (one ∷ found) look leaf is = let same : one.leaf ≡ leaf = cc in ap (λ (n : ℕ). Seeks n) same

-- what is an engine of which only pages were brought
pub reads_of : {B D : Type 0} (old new known : Parts B D) → new ≡ known → known ≡ only_read old known → OnlyReads old new
reads_of old new known is reads = is ∙ reads ∙ sym (ap (λ (x : Parts _ _). only_read old x) is)

-- the engine with a call's work, if only pages were brought since
pub same_calling : {B D : Type 0} (s : ℕ) (call : Call B) (work : Work B) (e there : Parts B D) → there ≡ brought e there → calling s call work there ≡ calling s call work (record e { volume = there.volume })
same_calling {B} {D} s call work e there only = ap (λ (x : Parts B D). calling s call work (record x { volume = there.volume })) only

pub read_is : {B D : Type 0} (s : ℕ) (call : Call B) (work : Work B) (e there : Parts B D) → there ≡ calling s call work (brought e there) → there ≡ calling s call work (record e { volume = there.volume })
read_is {B} {D} s call work e there only = ap (λ (x : Parts B D). record x { volume = there.volume }) only

-- as it had other work before
pub read_before : {B D : Type 0} (s : ℕ) (call : Call B) (before work : Work B) (e there : Parts B D) → there ≡ calling s call work (brought e there)
    → there ≡ calling s call work (brought (calling s call before e) there)
read_before {B} {D} s call before work e there only =
    only ∙ sym (ap (λ (x : State B (Work B)). record (brought e there) { sessions = x }) (phase_twice s (phase.Open call before) (phase.Open call work) e.sessions))

-- and if its work was other since
pub same_again : {B D : Type 0} (s : ℕ) (call : Call B) (work now : Work B) (e there : Parts B D) → there ≡ calling s call now (brought e there)
    → calling s call work there ≡ calling s call work (record e { volume = there.volume })
same_again {B} {D} s call work now e there only =
    ap (λ (x : Parts B D). calling s call work (record x { volume = there.volume })) only
    ∙ ap (λ (x : State B (Work B)). record e { volume = there.volume; sessions = x }) (phase_twice s (phase.Open call now) (phase.Open call work) e.sessions)

-- a session whose work was other, and whose call is answered then
pub answered_anew : {B : Type 0} (s : ℕ) (p : Phase B (Work B)) (sessions : State B (Work B)) → answered_state s (with_phase_of s p sessions) ≡ answered_state s sessions
answered_anew s p sessions = phase_twice s p phase.Working sessions

-- what an engine comes to, in the move that read a page for its look, as its call is answered
pub answered_so : {B D : Type 0} (s : ℕ) (call : Call B) (work : Work B) (old mid new : Parts B D) → mid ≡ calling s call work (brought old mid) → new ≡ record mid { sessions = answered_state s mid.sessions }
    → new ≡ record (brought old new) { sessions = answered_state s old.sessions }
answered_so {B} {D} s call work old mid new at is =
    let known : new ≡ record (brought old mid) { sessions = answered_state s old.sessions } =
    is ∙ ap (λ (x : Parts B D). record x { sessions = answered_state s x.sessions }) at
    ∙ ap (λ (x : State B (Work B)). record (brought old mid) { sessions = x }) (answered_anew s (phase.Open call work) old.sessions) in
    known ∙ sym (ap (λ (x : Parts B D). record (brought old x) { sessions = answered_state s old.sessions }) known)

-- and as it goes on with other work
pub worked_so : {B D : Type 0} (s : ℕ) (call : Call B) (was work : Work B) (old mid new : Parts B D) → mid ≡ calling s call was (brought old mid) → new ≡ calling s call work mid
    → new ≡ calling s call work (brought old mid)
worked_so {B} {D} s call was work old mid new at is =
    is ∙ ap (λ (x : Parts B D). calling s call work x) at
    ∙ ap (λ (x : State B (Work B)). record (brought old mid) { sessions = x }) (phase_twice s (phase.Open call was) (phase.Open call work) old.sessions)

-- a look that has ended since it began has ended since the call rested
pub ended_since : {B D : Type 0} (s : ℕ) (call : Call B) (work : Work B) (e new : Parts B D) → HasEnded s call (calling s call work e) new → HasEnded s call e new
ended_since {B} {D} s call work e new ends = record {
  look = ends.look;
  done = ends.done;
  at = ends.at;
  only = ends.only ∙ ap (λ (x : State B (Work B)). record (brought e new) { sessions = x }) (phase_twice s (phase.Open call work) (phase.Open call (Looks ends.look)) e.sessions);
}

-- a look that has ended, and turns into nothing
pub ended_turned : {B D : Type 0} (s : ℕ) (call : Call B) (look : Look B) (e mid new : Parts B D) → mid ≡ calling s call (Looks look) (brought e mid)
    → phase_at (s - 1) mid.sessions.phases ≡ phase.Open call (Looks look) → new ≡ calling s call (turned_by look.found.items look) mid → look.found.items ≡ [] → length look.stack.items ≡ 0 → HasEnded s call e new
ended_turned {B} {D} s call look e mid new only at turned none done =
    let same : new ≡ mid = turned ∙ ap (λ (fs : List (Found B)). calling s call (turned_by fs look) mid) none ∙ as_kept s mid call (Looks look) at in
    subst (λ (x : Parts B D). HasEnded s call e x) (sym same) (record { look = look; done = done; at = at; only = only })
