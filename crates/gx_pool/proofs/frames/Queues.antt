-- Which pages are dirty, after each edit of the frames and as batches are gated.
use Rattle.std.proofs.Common.{◌≡◌, ◌≢◌, ◌∙◌, sym, ap, subst, refl, ◌⊎◌, inl, inr, ℕ, ◌+◌, ◌<◌, ◌≤◌, List, length, get_or, set, Bool, true, false, Option, Some, None, IfSome, IfNone, arith}
use Rattle.std.specs.Prelude.{is_some}
use Rattle.std.proofs.Math.Decide.{ℕ_discrete}
use Rattle.std.proofs.lemmas.Bool.{cases_lt}
use Rattle.std.proofs.lemmas.Option.{none-some}
use Rattle.gx_disk.specs.declared.layout.TheConstants.{MAX_PAGES}
use Rattle.gx_pool.specs.declared.mark.FrameMark.{FrameMark}
use Rattle.gx_pool.specs.declared.queue.Queue.{Queue}
use Rattle.gx_pool.specs.Marks.{empty, is_gated}
use Rattle.gx_pool.specs.State.{State, IsSound, IsWritable, kept, mark_at, place_of, stamp_of}
use Rattle.gx_pool.specs.Words.{has, IsFirst, NoneFrom}
use Rattle.gx_pool.specs.Queues.{AreListed, AreListedBelow, ArePlaced, IsListed, OthersKeepTheirs}
use Rattle.gx_pool.proofs.Places.{set_cases, some-injective, writable_there}

true_false : (b : Bool) → b ≡ true → b ≡ false → ⊥
true_false b is not_so = grind arith

none_one : (n : ℕ) → n ≡ 0 → n ≡ 1 → ⊥
none_one n none one = omega (arith, none, one)

-- ---- a frame's edits

stays_listed : (gated page q batch : ℕ) (old new : Queue) → OthersKeepTheirs page old new → q ≢ page → IsListed gated old q batch → IsListed gated new q batch
stays_listed gated page q batch old new others ne (inl ready) = inl (others.ready q ne ∙ ready)
stays_listed gated page q batch old new others ne (inr waits) = inr (others.waiting q ne ∙ waits.0, waits.1)

-- a frame that no other page's is has another mark, and its page is listed by it
relisted : (s : State) (i page : ℕ) (m : FrameMark) (old new : Queue) → i < length s.marks → m.page ≡ Some page → ((j : ℕ) → j ≢ i → (mark_at s j).page ≢ Some page) → AreListed s.gated s.marks old
    → ((batch : ℕ) → m.stamp ≡ Some batch → IsListed s.gated new page batch) → OthersKeepTheirs page old new → AreListed s.gated (set s.marks i m) new
relisted s i page m old new inside its alone before listed others = λ j q batch at stamped. elim (set_cases s.marks i j m empty inside) [
  | inl here ↦
      let e : page ≡ q = some-injective page q (sym its ∙ ap (λ v. v.page) (sym here.1) ∙ at) in
      subst {A = ℕ} (λ n. IsListed s.gated new n batch) e (listed batch (ap (λ v. v.stamp) (sym here.1) ∙ stamped))
  | inr other ↦
      let was : (mark_at s j).page ≡ Some q = ap (λ v. v.page) (sym other.1) ∙ at in
      stays_listed s.gated page q batch old new others (λ e. alone j other.0 (was ∙ ap Some e)) (before j q batch was (ap (λ v. v.stamp) (sym other.1) ∙ stamped))
]

pub stamped_listed : (s : State) (i page : ℕ) (stamp : Option ℕ) (old new : Queue) → IsSound s → i < length s.marks → (mark_at s i).page ≡ Some page → AreListed s.gated s.marks old
    → ((batch : ℕ) → stamp ≡ Some batch → IsListed s.gated new page batch) → OthersKeepTheirs page old new → AreListed s.gated (set s.marks i (record (mark_at s i) { stamp = stamp })) new
stamped_listed s i page stamp old new sound inside its before listed others =
    relisted s i page (record (mark_at s i) { stamp = stamp }) old new inside its (λ j ne at. ne (some-injective j i (sym (sound.back j page at) ∙ sound.back i page its))) before listed others

pub settled_listed : (s : State) (i page : ℕ) (stamp : Option ℕ) (old new : Queue) → IsSound s → i < length s.marks → place_of s page ≡ None → AreListed s.gated s.marks old
    → ((batch : ℕ) → stamp ≡ Some batch → IsListed s.gated new page batch) → OthersKeepTheirs page old new → AreListed s.gated (set s.marks i (record { page = Some page; stamp = stamp })) new
settled_listed s i page stamp old new sound inside absent before listed others =
    relisted s i page (record { page = Some page; stamp = stamp }) old new inside refl (λ j ne at. none-some j (sym absent ∙ sound.back j page at)) before listed others

pub vacated_listed : (s : State) (i : ℕ) (queue : Queue) → i < length s.marks → AreListed s.gated s.marks queue → AreListed s.gated (set s.marks i empty) queue
vacated_listed s i queue inside before = λ j q batch at stamped. elim (set_cases s.marks i j empty empty inside) [
  | inl here ↦ absurd (none-some batch (ap (λ v. v.stamp) (sym here.1) ∙ stamped))
  | inr other ↦ before j q batch (ap (λ v. v.page) (sym other.1) ∙ at) (ap (λ v. v.stamp) (sym other.1) ∙ stamped)
]

-- no frame has a dirty page
pub empty_listed : (gated : ℕ) (marks : List FrameMark) (queue : Queue) → ((k : ℕ) → get_or marks k empty ≡ empty) → AreListed gated marks queue
empty_listed gated marks queue all = λ j q batch at stamped. absurd (none-some batch (ap (λ v. v.stamp) (sym (all j)) ∙ stamped))

-- ---- as batches are gated

pub sound_placed : (s : State) → IsSound s → ArePlaced s.marks s.places
sound_placed s sound = record { numbers = sound.numbers; inside = λ page i at. (sound.there page i at).0; back = sound.back }

listed_below : (below was gated page batch : ℕ) (queue : Queue) → (page < below → gated < batch) → IsListed was queue page batch → (has queue.ready page ≡ 1) ⊎ ((has queue.waiting page ≡ 1) × (page < below → gated < batch))
listed_below below was gated page batch queue less (inl ready) = inl ready
listed_below below was gated page batch queue less (inr waits) = inr (waits.0, less)

below_none : (page gated batch : ℕ) → page < 0 → gated < batch
below_none page gated batch before = omega (arith, before)

-- of those that wait none is below 0
pub none_below : (was gated : ℕ) (marks : List FrameMark) (queue : Queue) → AreListed was marks queue → AreListedBelow 0 gated marks queue
none_below was gated marks queue before = λ i page batch at stamped. listed_below 0 was gated page batch queue (below_none page gated batch) (before i page batch at stamped)

stays_below : (from page q gated batch : ℕ) (old new : Queue) → IsFirst old.waiting from page → OthersKeepTheirs page old new → q ≢ page → (has old.ready q ≡ 1) ⊎ ((has old.waiting q ≡ 1) × (q < from → gated < batch))
    → (has new.ready q ≡ 1) ⊎ ((has new.waiting q ≡ 1) × (q < page + 1 → gated < batch))
stays_below from page q gated batch old new first others ne (inl ready) = inl (others.ready q ne ∙ ready)
stays_below from page q gated batch old new first others ne (inr waits) = inr (
  others.waiting q ne ∙ waits.0,
  λ before. elim (cases_lt q from) [
    | inl less ↦ waits.1 less
    | inr past ↦ absurd (none_one (has old.waiting q) (first.none_before q past (elim (cases_lt q page) [
      | inl below ↦ below
      | inr above ↦ absurd (ne (omega (arith, above, before)))
    ])) waits.0)
  ],
)

listed_then : (below gated page batch : ℕ) (queue : Queue) → IsListed gated queue page batch → (has queue.ready page ≡ 1) ⊎ ((has queue.waiting page ≡ 1) × (page < below → gated < batch))
listed_then below gated page batch queue (inl ready) = inl ready
listed_then below gated page batch queue (inr waits) = inr (waits.0, λ before. waits.1)

-- the next of those that wait is listed anew
pub told_next : (from page gated : ℕ) (stamp : Option ℕ) (marks : List FrameMark) (places : List (Option ℕ)) (old new : Queue) → ArePlaced marks places → IsFirst old.waiting from page
    → ((i : ℕ) → get_or places page None ≡ Some i → stamp ≡ (get_or marks i empty).stamp) → AreListedBelow from gated marks old
    → ((batch : ℕ) → stamp ≡ Some batch → IsListed gated new page batch) → OthersKeepTheirs page old new → AreListedBelow (page + 1) gated marks new
told_next from page gated stamp marks places old new placed first look before listed others = λ i q batch at stamped. elim (ℕ_discrete q page) [
  | yes e ↦
      let there = placed.back i page (at ∙ ap Some e) in
      listed_then (page + 1) gated q batch new (subst {A = ℕ} (λ n. IsListed gated new n batch) (sym e) (listed batch (look i there ∙ stamped)))
  | no ne ↦ stays_below from page q gated batch old new first others ne (before i q batch at stamped)
]

listed_at_last : (from gated page batch : ℕ) (queue : Queue) → NoneFrom queue.waiting from → (has queue.ready page ≡ 1) ⊎ ((has queue.waiting page ≡ 1) × (page < from → gated < batch)) → IsListed gated queue page batch
listed_at_last from gated page batch queue none (inl ready) = inl ready
listed_at_last from gated page batch queue none (inr waits) = inr (
  waits.0,
  elim (cases_lt page from) [
    | inl less ↦ waits.1 less
    | inr past ↦ absurd (none_one (has queue.waiting page) (none page past) waits.0)
  ],
)

-- once none waits from a number on, all are listed
pub told_all : (from gated : ℕ) (marks : List FrameMark) (queue : Queue) → NoneFrom queue.waiting from → AreListedBelow from gated marks queue → AreListed gated marks queue
told_all from gated marks queue none before = λ i page batch at stamped. listed_at_last from gated page batch queue none (before i page batch at stamped)

-- ---- the least page that may be written

-- no page below a number may
abbrev pub NoneBelow : ℕ → State → Type 0
NoneBelow n s = (q : ℕ) → q < n → IsWritable s q → ⊥

ready_one : (gated page batch : ℕ) (queue : Queue) → batch ≤ gated → IsListed gated queue page batch → has queue.ready page ≡ 1
ready_one gated page batch queue small (inl ready) = ready
ready_one gated page batch queue small (inr waits) = absurd (omega (arith, small, waits.1))

-- a page that may be written is ready
pub unready : (s : State) (queue : Queue) (page : ℕ) → IsSound s → AreListed s.gated s.marks queue → has queue.ready page ≡ 0 → IsWritable s page → ⊥
unready s queue page sound listed none is =
    let there = writable_there s page sound is in
    none_one (has queue.ready page) none (ready_one s.gated page there.1 queue there.4 (listed there.0 page there.1 there.2 there.3))

-- none may be written up to the next that is ready
pub none_ready : (s : State) (queue : Queue) (from page : ℕ) → IsSound s → AreListed s.gated s.marks queue → NoneBelow from s → IsFirst queue.ready from page → NoneBelow page s
none_ready s queue from page sound listed before first = λ q less is. elim (cases_lt q from) [
  | inl below ↦ before q below is
  | inr past ↦ unready s queue q sound listed (first.none_before q past less) is
]

-- nor is it, if it may not
pub none_passed : (s : State) (page : ℕ) → NoneBelow page s → (IsWritable s page → ⊥) → NoneBelow (page + 1) s
none_passed s page before not_this = λ q less is. elim (ℕ_discrete q page) [
  | yes e ↦ not_this (ap (λ n. is_gated s.gated (stamp_of (kept s n))) (sym e) ∙ is)
  | no ne ↦ before q (elim (cases_lt q page) [
    | inl below ↦ below
    | inr above ↦ absurd (ne (omega (arith, above, less)))
  ]) is
]

-- a frame is given for a page that may be written
pub may_written : (s : State) (page : ℕ) (found : Option ℕ) (there : Bool) → there ≡ is_some found → there ≡ true → IfSome found (λ i. IsWritable s page × (place_of s page ≡ Some i) × (i < length s.marks)) → IsWritable s page
may_written s page None there is so at = absurd (true_false there so is)
may_written s page (Some i) there is so at = at.0

-- and none is for another
pub may_not : (s : State) (page : ℕ) (found : Option ℕ) (there : Bool) → there ≡ is_some found → there ≡ false → IfNone found (is_gated s.gated (stamp_of (kept s page)) ≡ false) → IsWritable s page → ⊥
may_not s page None there is so never = λ may. true_false (is_gated s.gated (stamp_of (kept s page))) may never
may_not s page (Some i) there is so never = absurd (true_false there is so)

-- it is the least if it may
pub least_ready : (s : State) (page : ℕ) → NoneBelow page s → (q : ℕ) → IsWritable s q → page ≤ q
least_ready s page before = λ q is. elim (cases_lt q page) [
  | inl less ↦ absurd (before q less is)
  | inr past ↦ past
]

-- none may be written if none is ready from a number on
pub none_written : (s : State) (queue : Queue) (from : ℕ) → IsSound s → AreListed s.gated s.marks queue → NoneBelow from s → NoneFrom queue.ready from → (q : ℕ) → IsWritable s q → ⊥
none_written s queue from sound listed before none = λ q is. elim (cases_lt q from) [
  | inl below ↦ before q below is
  | inr past ↦ unready s queue q sound listed (none q past) is
]
