-- What comes and goes for what a store was asked.
use Rattle.std.proofs.Common.{◌≡◌, ⊎_elim, ℕ, ◌+◌, ◌-◌, ◌≤◌, List, [], ◌∷◌, ◌++◌, length, refl, sym, ap, ◌∙◌, Bool, true, false, ◌||◌, Some, None, IsSome, arith}
use Rattle.std.proofs.Math.Decide.{ℕ_discrete}
use Rattle.std.proofs.lemmas.List.Folds.{list_any-append}
use Rattle.std.proofs.lemmas.List.Sums.{count_by-le-length, sum_by-append, sum_by-cons}
use Rattle.std.proofs.lemmas.Option.{none-some}
use Rattle.gx_node.specs.Owner.{Asking, Brings}
use Rattle.gx_page.specs.Contents.{Contents}
use Rattle.gx_disk.specs.Device as disk
use Rattle.gx_pool.specs.declared.fault.PoolFault.{PoolFault}
use Rattle.std.specs.Prelude.{Result, is_none}
use Rattle.gx_pool.specs.Bringing.{BringsAll}
use Rattle.gx_pool.specs.Creating.{Makes}
use Rattle.gx_pool.specs.Edits.{changed}
use Rattle.gx_pool.specs.Marks.{is_held}
use Rattle.gx_pool.specs.State.{State, IsSound, holding, kept}
use Rattle.gx_pool.proofs.Bringing.{same_held_kept}
use Rattle.gx_pool.proofs.Going.{go_joined, none_goes}
use Rattle.gx_pool.proofs.Places.{changed_kept, changed_other}
use Rattle.gx_store.specs.Asked.{MovesAsAsked, asked_count, brought_by, is_asked}
use Rattle.gx_store.specs.State.{Shelf}
use Rattle.gx_store.proofs.Changing.{there}

-- where the frames are the same, nothing comes or goes
pub nothing_moves : {D : Type 0} (s t : Shelf D) (asked : List Asking) → t.frames ≡ s.frames → s.used ≤ t.used → MovesAsAsked s t asked
nothing_moves s t asked same used = record {
  used = used;
  come = λ page taken is none. ap (λ frames. kept frames page) same ∙ none;
  go = none_goes s.frames t.frames (asked_count asked + (t.used - s.used)) same;
}

neither : (a b : Bool) → (a || b) ≡ false → (a ≡ false) × (b ≡ false)
neither false b is = (refl, is)
neither true b is = absurd (grind (arith, is))

-- what moves for the first and then for these, moves for both
pub moves_joined : {D : Type 0} (s t u : Shelf D) (these before : List Asking) → MovesAsAsked s t before → MovesAsAsked t u these → MovesAsAsked s u (these ++ before)
moves_joined s t u these before first next = record {
  used = omega (arith, first.used, next.used);
  come = λ page taken is none.
      let apart = neither (is_asked these page) (is_asked before page) (sym (list_any-append (λ a. is_held (brought_by a) (Some page)) these before) ∙ is) in
      next.come page (omega (arith, first.used, taken)) apart.0 (first.come page taken apart.1 none);
  go =
      let both = sum_by-append (λ a. length (brought_by a)) these before in
      go_joined s.frames t.frames u.frames (asked_count before + (t.used - s.used)) (asked_count these + (u.used - t.used)) (asked_count (these ++ before) + (u.used - s.used))
      (omega (arith, both, first.used, next.used)) first.go next.go;
}

-- what is brought comes, and as many go at most
pub bringing_moves : {D : Type 0} (passes : Contents → Bool) (d e : disk.Device) (s : Shelf D) (disk' : D) (t : State) (pages : List ℕ) (result : Result (Unit {0}) PoolFault)
    → BringsAll passes d e (holding s.frames pages) t pages result → MovesAsAsked s (record s { disk = disk'; frames = t }) (Brings pages ∷ [])
bringing_moves passes d e s disk' t pages result brought = record {
  used = omega arith;
  come = λ page taken is none. brought.alone page (neither (is_held pages (Some page)) false is).0 (same_held_kept s.frames pages page ∙ none);
  go =
      let few = count_by-le-length (λ page. is_none (kept (holding s.frames pages) page)) pages in
      let one = sum_by-cons (λ a. length (brought_by a)) (Brings pages) [] in
      record {
        gone = brought.few.gone;
        few = omega (arith, brought.few.few, few, one);
        all = λ q k was gone. brought.few.all q k (same_held_kept s.frames pages q ∙ was) gone;
      };
}

-- a page that is taken comes, and one goes at most
pub taking_moves : {D : Type 0} (s : Shelf D) (t : State) (w : Contents) → Makes s.frames t (s.used + 1) w s.batch → MovesAsAsked s (record s { frames = t; used = s.used + 1 }) []
taking_moves s t w makes = record {
  used = omega arith;
  come = λ page taken is none. ⊎_elim (λ same. same ∙ none) (λ left. left.is) (makes.others page (omega (arith, taken)));
  go = record { gone = makes.few.gone; few = omega (arith, makes.few.few); all = makes.few.all };
}

still_kept : (s : State) (page q batch : ℕ) (w : Contents) → IsSound s → IsSome (kept s page) → kept (changed s page batch w) q ≡ None → kept s q ≡ None
still_kept s page q batch w sound is gone = elim (ℕ_discrete q page) [
  | yes e ↦
      let k = there (kept s page) is in
      absurd (none-some _ (sym gone ∙ ap (λ p. kept (changed s page batch w) p) e ∙ changed_kept s page batch w k.0 sound k.1))
  | no ne ↦ sym (changed_other s page q batch w sound ne) ∙ gone
]

still_absent : (s : State) (page q batch : ℕ) (w : Contents) → IsSound s → IsSome (kept s page) → kept s q ≡ None → kept (changed s page batch w) q ≡ None
still_absent s page q batch w sound is none = elim (ℕ_discrete q page) [
  | yes e ↦ let k = there (kept s page) is in absurd (none-some k.0 (sym none ∙ ap (λ p. kept s p) e ∙ k.1))
  | no ne ↦ changed_other s page q batch w sound ne ∙ none
]

-- a change moves nothing
pub changing_moves : {D : Type 0} (s : Shelf D) (page : ℕ) (w : Contents) → IsSound s.frames → IsSome (kept s.frames page) → MovesAsAsked s (record s { frames = changed s.frames page s.batch w }) []
changing_moves s page w sound is = record {
  used = omega arith;
  come = λ q taken apart none. still_absent s.frames page q s.batch w sound is none;
  go = record { gone = []; few = omega arith; all = λ q k was gone. absurd (none-some k (sym (still_kept s.frames page q s.batch w sound is gone) ∙ was)) };
}
