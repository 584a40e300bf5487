-- Records of a log's parts, one in front of others.
use Rattle.std.proofs.Common.{◌≡◌, Bool, true, false, ◌&&◌, List, [], ◌∷◌, ◌++◌, refl, ap, sym, ◌∙◌, append_assoc}
use Rattle.gx_recovery.specs.Known.{Known, IsLawful}
use Rattle.gx_recovery.specs.Records.{Record, Pages, Adjust, Write, Commit, End, Counters, Note}
use Rattle.gx_recovery.specs.Damage.{follows, follow, is_head}
use Rattle.gx_recovery.proofs.Tests.{and_first, clash}
use Rattle.gx_recovery.proofs.Logs.{log_goes_on}
use Rattle.gx_recovery.proofs.Heads.{heads_begin}
use Rattle.gx_found_log.specs.declared.part.Part.{Part}
use Rattle.gx_found_log.specs.declared.part.Part.TheVariants.{Start, Head, Later}
use Rattle.gx_found_log.specs.Parts.{part_behind, IsBegun, may_go_on}

not_first : (a b : Bool) → (a && true) ≡ false → (a && b) ≡ false
not_first true b h = cc
not_first false b h = refl

if_not : (a b : Bool) → (b ≡ true → a ≡ true) → a ≡ false → b ≡ false
if_not a true h never = clash a (h refl) never
if_not a false h never = refl

module _ {E P : Type 0} (k : Known E P) (l : IsLawful k) where
  one_more : (log : List (Record E P)) (x : Record E P) (more : List (Record E P)) → log ++ x ∷ more ≡ (log ++ x ∷ []) ++ more
  one_more log x more = sym (append_assoc log (x ∷ []) more)

  -- a head with one record more begins each that has it
  begins_with : (log : List (Record E P)) (x : Record E P) (more : List (Record E P)) → is_head k log ≡ true → is_head k (log ++ x ∷ more) ≡ true
      → is_head k (log ++ x ∷ []) ≡ true
  begins_with [] x more head h = cc
  begins_with (Counters number counter used next ∷ notes) x more head h =
      heads_begin k l number counter used next (notes ++ x ∷ []) more
      (ap (λ (xs : List (Record E P)). is_head k (Counters number counter used next ∷ xs)) (sym (one_more notes x more)) ∙ h)
  begins_with (Pages images counter used ∷ notes) x more head h = cc
  begins_with (Adjust page change ∷ notes) x more head h = cc
  begins_with (Write u e b after leaf said ∷ notes) x more head h = cc
  begins_with (Commit u number ∷ notes) x more head h = cc
  begins_with (End u ∷ notes) x more head h = cc
  begins_with (Note u e b leaf ∷ notes) x more head h = cc

  starts_with : (x : Record E P) (more : List (Record E P)) → is_head k (x ∷ more) ≡ true → is_head k (x ∷ []) ≡ true
  starts_with (Counters number counter used next) more h = heads_begin k l number counter used next [] more h
  starts_with (Pages images counter used) more h = cc
  starts_with (Adjust page change) more h = cc
  starts_with (Write u e b after leaf said) more h = cc
  starts_with (Commit u number) more h = cc
  starts_with (End u) more h = cc
  starts_with (Note u e b leaf) more h = cc

  -- what comes next once a record has come
  pub begun_behind : (part : Part) (log : List (Record E P)) (x : Record E P) → IsBegun part k log → may_go_on part k log (x ∷ []) ≡ true
      → IsBegun (part_behind part) k (log ++ x ∷ [])
  begun_behind Start log x is h = h
  begun_behind Head log x is h = h
  begun_behind Later log x is h = log_goes_on k l log x is (and_first (follows k log x) true h)

  pub goes_behind : (part : Part) (log : List (Record E P)) (x : Record E P) (more : List (Record E P)) → may_go_on part k log (x ∷ []) ≡ true
      → may_go_on part k log (x ∷ more) ≡ may_go_on (part_behind part) k (log ++ x ∷ []) more
  goes_behind Start log x more h = ap (is_head k) (one_more log x more)
  goes_behind Head log x more h = ap (is_head k) (one_more log x more)
  goes_behind Later log x more h = ap (λ b. b && follow k (log ++ x ∷ []) more) (and_first (follows k log x) true h)

  -- what may not come may not come in front of others
  pub goes_not : (part : Part) (log : List (Record E P)) (x : Record E P) (more : List (Record E P)) → IsBegun part k log → may_go_on part k log (x ∷ []) ≡ false
      → may_go_on part k log (x ∷ more) ≡ false
  goes_not Start [] x more is never = if_not (is_head k (x ∷ [])) (is_head k (x ∷ more)) (starts_with x more) never
  goes_not Start (y ∷ log) x more is never = cc
  goes_not Head log x more is never = if_not (is_head k (log ++ x ∷ [])) (is_head k (log ++ x ∷ more)) (begins_with log x more is) never
  goes_not Later log x more is never = not_first (follows k log x) (follow k (log ++ x ∷ []) more) never
