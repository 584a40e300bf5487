use Rattle.std.proofs.Common.{◌≡◌, ◌+◌, ℕ, not, ◌&&◌, List, [], ◌∷◌, refl, ap, ◌∙◌}
use Rattle.std.specs.Prelude.{Option, Some, ◌==◌, if◌then◌else◌}
use Rattle.gx_machine.specs.declared.call.Call.{Call}
use Rattle.gx_machine.specs.Keys.{Keys, keys}
use Rattle.gx_machine.specs.Sessions.{Session, session_conflicts}
use Rattle.gx_machine.specs.Machine.{least_conflicting}
use Rattle.gx_machine.specs.Least.{least_barring}
use Rattle.gx_plain.proofs.index.least_conflicting.Goals as goal

-- the machine's least session is the least that bars
least_is : {B : Type 0} (k : Keys B) (call : Call B) (s n : ℕ) (sessions : List (Session B))
    → least_barring (λ x. session_conflicts k call x) s n sessions ≡ least_conflicting k call s n sessions
least_is k call s n [] = refl
least_is k call s n (x ∷ sessions) =
    ap (λ (o : Option ℕ). if not (n == s) && session_conflicts k call x then Some n else o) (least_is k call s (n + 1) sessions)

pub returns : goal.returns
returns g c =
    let k = keys g.B.Ord.cmp g.B.Shape.overlap g.B.Shape.inside in
    c.least_conflicting.ensures ∙ least_is k c.args.call.now c.args.session 1 c.args.slots.now
