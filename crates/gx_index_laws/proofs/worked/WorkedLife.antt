-- The worked life, event by event: each law's premises are met by facts that compute.
use Rattle.std.proofs.Common.{◌≡◌, ◌≢◌, ℕ, zero, suc, Bool, true, false, ◌||◌, inr, List, [], ◌∷◌, ◌++◌, All, Some, None, refl, ap, sym, ◌∙◌, subst, le_refl, arith}
use Rattle.std.specs.Prelude.{nat_le, nat_lt, if◌then◌else◌}
use Rattle.std.specs.Option.{option_or}
use Rattle.std.specs.declared.cmp.Ordering.{Ordering}
use Rattle.std.specs.declared.cmp.Ordering.TheVariants.{Less, Equal, Greater}
use Rattle.std.specs.Ordering.{is_eq, nat_cmp}
use Rattle.std.specs.Cmp.{nat_cmp_total, tied_itself}
use Rattle.std.proofs.lemmas.Map.Lookups.{exact_unsigned}
use Rattle.std.proofs.lemmas.Bool.{leb-true, ltb-true, le-leb, ne_eqb, eq-eqb}
use Rattle.std.proofs.lemmas.List.Elements.{All-nil, All-cons}
use Rattle.gx_machine.specs.declared.call.Call.TheVariants.{Begin, Insert, Search, Commit as CommitCall}
use Rattle.gx_machine.specs.declared.reply.Reply.TheVariants.{Ok}
use Rattle.gx_machine.specs.declared.reply.Asked.TheVariants.{Now, Open}
use Rattle.gx_machine.specs.Keys.{same_entry}
use Rattle.gx_machine.specs.Sets.{IsSetOf}
use Rattle.gx_machine.specs.Worked.{number_keys}
use Rattle.gx_machine.proofs.SetsByTests.{set_of_a_test_that_agrees}
use Rattle.gx_node.specs.Lists.{Each}
use Rattle.gx_node.specs.Trees.{Pair, Child, Tree, Used, size, standing, is_entry}
use Rattle.gx_node.specs.Steps.{node_with, EntriesCover, ChangesOnly, IsSplit, IsAdding, IsMarking, Splits}
use Rattle.gx_node.specs.Looks.{LeadsTo}
use Rattle.gx_node.proofs.Sums.{each_always}
use Rattle.gx_events.specs.Slots.{Note, slot_at, noted, WithNote}
use Rattle.gx_events.specs.Engines.{stood}
use Rattle.gx_events.specs.Happenings.{Happening, Asks, Inserts, Finds, Seals, Durable, Acknowledges, Undoes, EndsUndo, Opens, Works}
use Rattle.gx_events.specs.Kinds.{changes_what_stood}
use Rattle.gx_events.proofs.WhatStood.{event_stood}
use Rattle.gx_recovery.specs.Records.{Image, Whole}
use Rattle.gx_recovery.specs.Redo.{with_page, redone}
use Rattle.gx_recovery.specs.Logged.{all_records, IsLeft}
use Rattle.gx_index_laws.specs.Classes.{Page, IsLawful, is_live}
use Rattle.gx_index_laws.specs.States.{State, Descends, Seeks, tree_now, engine_of, fresh_page, fresh_state}
use Rattle.gx_index_laws.specs.Working.{wants_pair}
use Rattle.gx_index_laws.specs.Whole.{IsWhole}
use Rattle.gx_index_laws.specs.Happening.{Happens, AreHappening}
use Rattle.gx_index_laws.specs.Openings.{is_in_opening, GoesOpening, IsRestart}
use Rattle.gx_index_laws.specs.WorkedLife.{numbers, nth, fifth, query, up_to, nth_pair, child, leaf, root, pair, item, claiming, searching, note, nth_note, state_0, state_1, state_2, state_3, state_4, state_5, state_6, state_7, state_8, state_9, state_10, state_11, state_12, state_13, committed, state_15, state_16, state_17, state_18, state_19, state_20, state_21, state_22, state_23, state_24, state_25, state_26, state_27, state_28, state_29, state_30, lost, found_log, opened, sought, restored, undone, sent, reopened, inserting, committing, descending, finding, undoing, opening, worked_events}
use Rattle.gx_index_laws.proofs.FreshIndex.{fresh_whole, fresh_seen}
use Rattle.gx_index_laws.proofs.AskedCalls.{transaction_begins, call_opens, acknowledged}
use Rattle.gx_index_laws.proofs.Answering.{look_read, look_descends, descent_again, descent_down, look_answers, look_seeks}
use Rattle.gx_index_laws.proofs.Quiet.{turned}
use Rattle.gx_index_laws.proofs.Entering.{insert_adds, undo_restores}
use Rattle.gx_index_laws.proofs.Paging.{paged}
use Rattle.gx_index_laws.proofs.Logging.{begins, synced}
use Rattle.gx_index_laws.proofs.Closing.{sealed, ended}
use Rattle.gx_index_laws.proofs.Restarts.{start_keeps, restart_goes, restarts_happen}

equal_is : (o : Ordering) → is_eq o ≡ true → o ≡ Equal
equal_is Less h = let no : ⊥ = cc in absurd no
equal_is Equal h = refl
equal_is Greater h = let no : ⊥ = cc in absurd no

pub numbers_lawful : IsLawful numbers
numbers_lawful = record {
  keys = record { total = nat_cmp_total; exact = exact_unsigned };
  rules = record {
    goes_on = λ a b c ab bc. (let x = leb-true b a ab in let y = leb-true c b bc in le-leb c a (omega (arith, x, y)));
    exact = λ a b h. exact_unsigned a b (equal_is (nat_cmp a b) h);
    itself = λ a. ap is_eq (tied_itself nat_cmp_total a);
    two = omega arith;
  };
  same = λ a b. refl;
}

-- Small facts of trees by their pages.

-- every key leads
everything_leads : (t : Tree ℕ) (wants : Pair ℕ → Bool) → LeadsTo numbers.rules t wants (λ key. true)
everything_leads t wants p u =
    each_always (λ (d : Child ℕ). (q : ℕ) → Used t q → Each (λ x. wants x ≡ true → nat_le x.key d.key ≡ true → true ≡ true) (t.node q).pairs)
    (λ d q v. each_always (λ (x : Pair ℕ). wants x ≡ true → nat_le x.key d.key ≡ true → true ≡ true) (λ x wanted covers. refl) (t.node q).pairs) (t.node p).children

-- a page beside the one that is written
beside : (a : ℕ) (content : Page ℕ) (area : ℕ → Page ℕ) (q : ℕ) → q ≢ a → (with_page a content area q).node ≡ (area q).node
beside a content area q ne = ap (λ (b : Bool). (if b then content else area q).node) (ne_eqb a q (λ e. ne (sym e)))

there_now : (a : ℕ) (content : Page ℕ) (area : ℕ → Page ℕ) → (with_page a content area a).node ≡ content.node
there_now a content area = ap (λ (b : Bool). (if b then content else area a).node) (eq-eqb a a refl)

abbrev tree_over : (ℕ → Page ℕ) → ℕ → ℕ → Tree ℕ
tree_over area used counter = record { node = λ p. (area p).node; used = used; counter = counter }

-- one page is written
changes_by : (area : ℕ → Page ℕ) (used counter a : ℕ) (content : Page ℕ) (pairs : List (Pair ℕ)) → nat_lt 0 a ≡ true → nat_le a used ≡ true
    → content.node ≡ node_with (area a).node (area a).node.nsn (area a).node.right pairs (area a).node.children
    → ChangesOnly (tree_over area used counter) (tree_over (with_page a content area) used counter) a pairs (area a).node.children
changes_by area used counter a content pairs low high is = record {
  there = (ltb-true 0 a low, leb-true a used high);
  used = refl;
  counter = refl;
  changed = there_now a content area ∙ is;
  others = λ q ne. beside a content area q ne;
}

adding_by : (area : ℕ → Page ℕ) (used counter a : ℕ) (x : Pair ℕ) (content : Page ℕ) → nat_lt 0 a ≡ true → nat_le a used ≡ true
    → content.node ≡ node_with (area a).node (area a).node.nsn (area a).node.right ((area a).node.pairs ++ x ∷ []) (area a).node.children
    → (area a).node.level ≡ 0 → nat_lt (size (area a).node) 4 ≡ true → standing (is_entry numbers.rules x.row x.key) (tree_over area used counter) ≡ 0
    → EntriesCover numbers.rules (tree_over area used counter) a x.key
    → IsAdding numbers.rules (tree_over area used counter) (tree_over (with_page a content area) used counter) a x
adding_by area used counter a x content low high is bottom room none covers = record {
  leaf = bottom;
  room = ltb-true (size (area a).node) 4 room;
  changes = changes_by area used counter a content ((area a).node.pairs ++ x ∷ []) low high is;
  absent = none;
  covered = covers;
}

-- the key is covered if the root names a leaf by a greater one
covers_two : (t : Tree ℕ) (key : ℕ) → t.used ≡ 2 → (t.node 1).children ≡ child 9 2 ∷ [] → (t.node 2).children ≡ [] → nat_le key 9 ≡ true
    → EntriesCover numbers.rules t 2 key
covers_two t key used top bottom low zero u = absurd (let h = u.0 in omega (arith, h))
covers_two t key used top bottom low (suc zero) u = subst (λ (ds : List (Child ℕ)). Each (λ d. d.page ≡ 2 → nat_le key d.key ≡ true) ds) (sym top) ((λ e. low), tt)
covers_two t key used top bottom low (suc (suc zero)) u = subst (λ (ds : List (Child ℕ)). Each (λ d. d.page ≡ 2 → nat_le key d.key ≡ true) ds) (sym bottom) tt
covers_two t key used top bottom low (suc (suc (suc q))) u = absurd (let h = u.1 in omega (arith, h, used))

covers_three : (t : Tree ℕ) (key : ℕ) → t.used ≡ 3 → (t.node 1).children ≡ child 2 2 ∷ child 4 3 ∷ [] → (t.node 2).children ≡ [] → (t.node 3).children ≡ []
    → nat_le key 4 ≡ true → EntriesCover numbers.rules t 3 key
covers_three t key used top first second low zero u = absurd (let h = u.0 in omega (arith, h))
covers_three t key used top first second low (suc zero) u =
    subst (λ (ds : List (Child ℕ)). Each (λ d. d.page ≡ 3 → nat_le key d.key ≡ true) ds) (sym top) ((λ e. absurd (omega (arith, e))), ((λ e. low), tt))
covers_three t key used top first second low (suc (suc zero)) u = subst (λ (ds : List (Child ℕ)). Each (λ d. d.page ≡ 3 → nat_le key d.key ≡ true) ds) (sym first) tt
covers_three t key used top first second low (suc (suc (suc zero))) u = subst (λ (ds : List (Child ℕ)). Each (λ d. d.page ≡ 3 → nat_le key d.key ≡ true) ds) (sym second) tt
covers_three t key used top first second low (suc (suc (suc (suc q)))) u = absurd (let h = u.1 in omega (arith, h, used))

-- one note more, after the others
noted_last : (n : Note ℕ) (notes : List (Note ℕ)) → WithNote number_keys n.entry n.was_live notes (notes ++ n ∷ [])
noted_last n [] x = refl
noted_last n (m ∷ notes) x = by (same_entry number_keys x m.entry) (noted_last n notes x)
  where
    by : (b : Bool) → noted number_keys x (notes ++ n ∷ []) ≡ option_or (noted number_keys x notes) (if same_entry number_keys x n.entry then Some n.was_live else None)
        → (if b then Some m.was_live else noted number_keys x (notes ++ n ∷ []))
        ≡ option_or (if b then Some m.was_live else noted number_keys x notes) (if same_entry number_keys x n.entry then Some n.was_live else None)
    by true rest = refl
    by false rest = rest

-- Until the commit, the committed set is empty.

record Stage (s : State ℕ) : Type 0 where
  whole : IsWhole numbers s
  nothing : IsSetOf number_keys (stood number_keys (engine_of numbers s)) []

next_stage : {old new : State ℕ} {event : Happening ℕ} → Stage old → Happens numbers old event new → changes_what_stood event ≡ false → Stage new
next_stage {old = old} {new = new} {event = event} stage h stays = record {
  whole = h.whole;
  nothing =
      set_of_a_test_that_agrees number_keys numbers_lawful.keys (stood number_keys (engine_of numbers old)) (stood number_keys (engine_of numbers new)) []
      (λ e. sym (event_stood number_keys numbers_lawful.keys (engine_of numbers old) stage.whole.sound event (engine_of numbers new) h.is_event stays e)) stage.nothing;
}

stage_0 : Stage state_0
stage_0 = record { whole = fresh_whole numbers 9 numbers_lawful (leb-true 2 8 refl); nothing = (fresh_seen numbers 9).latest }

-- The four inserts.
happens_1 : Happens numbers state_0 (Asks 1 Begin (Now Ok)) state_1
happens_1 = transaction_begins numbers numbers_lawful state_0 stage_0.whole refl 1 refl refl refl

stage_1 : Stage state_1
stage_1 = next_stage stage_0 happens_1 refl

happens_2 : Happens numbers state_1 (Asks 1 (Insert (nth 1)) Open) state_2
happens_2 = call_opens numbers numbers_lawful state_1 stage_1.whole refl 1 refl (Insert (nth 1)) refl

stage_2 : Stage state_2
stage_2 = next_stage stage_1 happens_2 refl

adds_3 : IsAdding numbers.rules (tree_now numbers state_2) (tree_now numbers state_3) 2 (nth_pair 1)
adds_3 =
    adding_by (redone (fresh_page 9) (all_records state_2.log)) 2 0 2 (nth_pair 1) (leaf 2 0 0 (up_to nth_pair 1)) refl refl refl refl refl refl
    (covers_two (tree_now numbers state_2) 1 refl refl refl refl)

happens_3 : Happens numbers state_2 (Inserts 1 (nth 1)) state_3
happens_3 =
    (insert_adds numbers numbers_lawful state_2 stage_2.whole refl 1 (claiming (up_to nth 1)) (up_to nth_note 0) (up_to nth_note 1) (nth 1) 2
    (Whole (leaf 2 0 0 (up_to nth_pair 1))) refl refl refl (noted_last (nth_note 1) (up_to nth_note 0)) adds_3).happens

stage_3 : Stage state_3
stage_3 = next_stage stage_2 happens_3 refl

happens_4 : Happens numbers state_3 (Asks 1 (Insert (nth 2)) Open) state_4
happens_4 = call_opens numbers numbers_lawful state_3 stage_3.whole refl 1 refl (Insert (nth 2)) refl

stage_4 : Stage state_4
stage_4 = next_stage stage_3 happens_4 refl

adds_5 : IsAdding numbers.rules (tree_now numbers state_4) (tree_now numbers state_5) 2 (nth_pair 2)
adds_5 =
    adding_by (redone (fresh_page 9) (all_records state_4.log)) 2 0 2 (nth_pair 2) (leaf 2 0 0 (up_to nth_pair 2)) refl refl refl refl refl refl
    (covers_two (tree_now numbers state_4) 2 refl refl refl refl)

happens_5 : Happens numbers state_4 (Inserts 1 (nth 2)) state_5
happens_5 =
    (insert_adds numbers numbers_lawful state_4 stage_4.whole refl 1 (claiming (up_to nth 2)) (up_to nth_note 1) (up_to nth_note 2) (nth 2) 2
    (Whole (leaf 2 0 0 (up_to nth_pair 2))) refl refl refl (noted_last (nth_note 2) (up_to nth_note 1)) adds_5).happens

stage_5 : Stage state_5
stage_5 = next_stage stage_4 happens_5 refl

happens_6 : Happens numbers state_5 (Asks 1 (Insert (nth 3)) Open) state_6
happens_6 = call_opens numbers numbers_lawful state_5 stage_5.whole refl 1 refl (Insert (nth 3)) refl

stage_6 : Stage state_6
stage_6 = next_stage stage_5 happens_6 refl

adds_7 : IsAdding numbers.rules (tree_now numbers state_6) (tree_now numbers state_7) 2 (nth_pair 3)
adds_7 =
    adding_by (redone (fresh_page 9) (all_records state_6.log)) 2 0 2 (nth_pair 3) (leaf 2 0 0 (up_to nth_pair 3)) refl refl refl refl refl refl
    (covers_two (tree_now numbers state_6) 3 refl refl refl refl)

happens_7 : Happens numbers state_6 (Inserts 1 (nth 3)) state_7
happens_7 =
    (insert_adds numbers numbers_lawful state_6 stage_6.whole refl 1 (claiming (up_to nth 3)) (up_to nth_note 2) (up_to nth_note 3) (nth 3) 2
    (Whole (leaf 2 0 0 (up_to nth_pair 3))) refl refl refl (noted_last (nth_note 3) (up_to nth_note 2)) adds_7).happens

stage_7 : Stage state_7
stage_7 = next_stage stage_6 happens_7 refl

happens_8 : Happens numbers state_7 (Asks 1 (Insert (nth 4)) Open) state_8
happens_8 = call_opens numbers numbers_lawful state_7 stage_7.whole refl 1 refl (Insert (nth 4)) refl

stage_8 : Stage state_8
stage_8 = next_stage stage_7 happens_8 refl

adds_9 : IsAdding numbers.rules (tree_now numbers state_8) (tree_now numbers state_9) 2 (nth_pair 4)
adds_9 =
    adding_by (redone (fresh_page 9) (all_records state_8.log)) 2 0 2 (nth_pair 4) (leaf 2 0 0 (up_to nth_pair 4)) refl refl refl refl refl refl
    (covers_two (tree_now numbers state_8) 4 refl refl refl refl)

happens_9 : Happens numbers state_8 (Inserts 1 (nth 4)) state_9
happens_9 =
    (insert_adds numbers numbers_lawful state_8 stage_8.whole refl 1 (claiming (up_to nth 4)) (up_to nth_note 3) (up_to nth_note 4) (nth 4) 2
    (Whole (leaf 2 0 0 (up_to nth_pair 4))) refl refl refl (noted_last (nth_note 4) (up_to nth_note 3)) adds_9).happens

stage_9 : Stage state_9
stage_9 = next_stage stage_8 happens_9 refl

-- The commit.

happens_10 : Happens numbers state_9 (Asks 1 CommitCall Open) state_10
happens_10 = call_opens numbers numbers_lawful state_9 stage_9.whole refl 1 refl CommitCall refl

stage_10 : Stage state_10
stage_10 = next_stage stage_9 happens_10 refl

happens_11 : Happens numbers state_10 (Seals 1 [] 1) state_11
happens_11 = (sealed numbers numbers_lawful state_10 stage_10.whole refl 1 (claiming (up_to nth 4)) (up_to nth_note 4) refl [] stage_10.nothing).happens

happens_12 : Happens numbers state_11 Works state_12
happens_12 = begins numbers numbers_lawful state_11 happens_11.whole refl

happens_13 : Happens numbers state_12 (Durable 1) state_13
happens_13 = synced numbers numbers_lawful state_12 happens_12.whole refl

happens_14 : Happens numbers state_13 (Acknowledges 1 1) committed
happens_14 = acknowledged numbers numbers_lawful state_13 happens_13.whole refl 1 1 refl (le_refl 1)

-- The search begins.

happens_15 : Happens numbers committed (Asks 2 Begin (Now Ok)) state_15
happens_15 = transaction_begins numbers numbers_lawful committed happens_14.whole refl 2 refl refl refl

happens_16 : Happens numbers state_15 (Asks 2 (Search query) Open) state_16
happens_16 = call_opens numbers numbers_lawful state_15 happens_15.whole refl 2 refl (Search query) refl

happens_17 : Happens numbers state_16 Works state_17
happens_17 = look_read numbers numbers_lawful state_16 happens_16.whole 2 (item 1 0) [] [] refl (λ key. true) (everything_leads (tree_now numbers state_16) (wants_pair numbers (slot_at 2 state_16.slots)))

-- The fifth insert looks and descends.

happens_18 : Happens numbers state_17 (Asks 1 Begin (Now Ok)) state_18
happens_18 = transaction_begins numbers numbers_lawful state_17 happens_17.whole refl 1 refl refl refl

happens_19 : Happens numbers state_18 (Asks 1 (Insert fifth) Open) state_19
happens_19 = call_opens numbers numbers_lawful state_18 happens_18.whole refl 1 refl (Insert fifth) refl

happens_20 : Happens numbers state_19 Works state_20
happens_20 = look_read numbers numbers_lawful state_19 happens_19.whole 1 (item 1 0) [] [] refl (λ key. true) (everything_leads (tree_now numbers state_19) (wants_pair numbers (slot_at 1 state_19.slots)))

happens_21 : Happens numbers state_20 Works state_21
happens_21 = look_read numbers numbers_lawful state_20 happens_20.whole 1 (item 2 0) [] [] refl (λ key. true) (everything_leads (tree_now numbers state_20) (wants_pair numbers (slot_at 1 state_20.slots)))

happens_22 : Happens numbers state_21 Works state_22
happens_22 = turned numbers numbers_lawful state_21 happens_21.whole 1 (Descends fifth 0 (item 1 0)) (look_descends numbers numbers_lawful state_21 happens_21.whole 1 fifth refl refl)

happens_23 : Happens numbers state_22 Works state_23
happens_23 =
    turned numbers numbers_lawful state_22 happens_22.whole 1 (Descends fifth 1 (item 2 0))
    (descent_down numbers numbers_lawful state_22 happens_22.whole 1 fifth 0 (item 1 0) 2 refl (ltb-true 0 1 refl) ((λ e. refl), tt))

-- The split.

abbrev before_split : ℕ → Page ℕ
before_split = redone (fresh_page 9) (all_records state_23.log)

split_others : (q : ℕ) → q ≢ 2 → q ≢ 1 → q ≢ 3 → ((tree_now numbers state_24).node q) ≡ ((tree_now numbers state_23).node q)
split_others q second first third =
    beside 3 (leaf 3 0 0 (nth_pair 3 ∷ nth_pair 4 ∷ [])) (with_page 2 (leaf 2 1 3 (nth_pair 1 ∷ nth_pair 2 ∷ [])) (with_page 1 (root (child 2 2 ∷ child 4 3 ∷ [])) before_split)) q third
    ∙ beside 2 (leaf 2 1 3 (nth_pair 1 ∷ nth_pair 2 ∷ [])) (with_page 1 (root (child 2 2 ∷ child 4 3 ∷ [])) before_split) q second
    ∙ beside 1 (root (child 2 2 ∷ child 4 3 ∷ [])) before_split q first

abbrev split_images : List (Image (Page ℕ))
split_images =
    record { page = 1; content = root (child 2 2 ∷ child 4 3 ∷ []) } ∷ record { page = 2; content = leaf 2 1 3 (nth_pair 1 ∷ nth_pair 2 ∷ []) }
    ∷ record { page = 3; content = leaf 3 0 0 (nth_pair 3 ∷ nth_pair 4 ∷ []) } ∷ []

pub splits : IsSplit numbers.rules (tree_now numbers state_23) (tree_now numbers state_24) 2 1 (false ∷ false ∷ true ∷ true ∷ []) 2 4
splits = record {
  parent = (ltb-true 0 1 refl, leb-true 1 2 refl);
  names = refl;
  room = ltb-true 1 4 refl;
  used = refl;
  counter = refl;
  split = refl;
  sibling = refl;
  named = refl;
  others = split_others;
  left_some = ltb-true 0 2 refl;
  right_some = ltb-true 0 2 refl;
  left_union = record { covers = record { pairs = (refl, (refl, tt)); children = tt }; least = λ b h. (let ps = h.pairs in ps.1.0) };
  right_union = record { covers = record { pairs = (refl, (refl, tt)); children = tt }; least = λ b h. (let ps = h.pairs in ps.1.0) };
}

happens_24 : Happens numbers state_23 Works state_24
happens_24 =
    (paged numbers numbers_lawful state_23 happens_23.whole split_images 1 3 (Splits 2 1 (false ∷ false ∷ true ∷ true ∷ []) 2 4) tt tt (leb-true 3 8 refl) refl splits).happens

happens_25 : Happens numbers state_24 Works state_25
happens_25 =
    turned numbers numbers_lawful state_24 happens_24.whole 1 (Descends fifth 0 (item 1 1)) (descent_again numbers numbers_lawful state_24 happens_24.whole 1 fifth 1 (item 2 0) refl)

happens_26 : Happens numbers state_25 Works state_26
happens_26 =
    turned numbers numbers_lawful state_25 happens_25.whole 1 (Descends fifth 1 (item 3 1))
    (descent_down numbers numbers_lawful state_25 happens_25.whole 1 fifth 0 (item 1 1) 3 refl (ltb-true 0 1 refl) ((λ e. absurd (omega (arith, e))), ((λ e. refl), tt)))

adds_27 : IsAdding numbers.rules (tree_now numbers state_26) (tree_now numbers state_27) 3 (pair 5 3 false)
adds_27 =
    adding_by (redone (fresh_page 9) (all_records state_26.log)) 3 1 3 (pair 5 3 false) (leaf 3 0 0 (nth_pair 3 ∷ nth_pair 4 ∷ pair 5 3 false ∷ [])) refl refl refl refl refl refl
    (covers_three (tree_now numbers state_26) 3 refl refl refl refl refl)

happens_27 : Happens numbers state_26 (Inserts 1 fifth) state_27
happens_27 =
    (insert_adds numbers numbers_lawful state_26 happens_26.whole refl 1 (claiming (fifth ∷ [])) [] (note fifth ∷ []) fifth 3
    (Whole (leaf 3 0 0 (nth_pair 3 ∷ nth_pair 4 ∷ pair 5 3 false ∷ []))) refl refl refl (noted_last (note fifth) []) adds_27).happens

-- The search goes on, to the right of the leaf that was split.

happens_28 : Happens numbers state_27 Works state_28
happens_28 = look_read numbers numbers_lawful state_27 happens_27.whole 2 (item 2 0) [] [] refl (λ key. true) (everything_leads (tree_now numbers state_27) (wants_pair numbers (slot_at 2 state_27.slots)))

happens_29 : Happens numbers state_28 Works state_29
happens_29 = look_read numbers numbers_lawful state_28 happens_28.whole 2 (item 3 0) [] [] refl (λ key. true) (everything_leads (tree_now numbers state_28) (wants_pair numbers (slot_at 2 state_28.slots)))

happens_30 : Happens numbers state_29 (Finds 2 query (nth 4 ∷ [])) state_30
happens_30 = look_answers numbers numbers_lawful state_29 happens_29.whole refl 2 searching [] query (nth_pair 4 ∷ []) refl refl

happens_31 : Happens numbers state_30 Works lost
happens_31 = begins numbers numbers_lawful state_30 happens_30.whole refl

-- The crash, and the opening.

pub is_left : IsLeft lost.log lost.log.area found_log
is_left = record { area_agrees = λ p none. refl; log_read = inr refl }

opened_whole : IsWhole numbers opened
opened_whole = (start_keeps numbers numbers_lawful lost happens_31.whole lost.log.area found_log is_left 4 (leb-true 4 4 refl)).whole

happens_32 : Happens numbers opened Works sought
happens_32 =
    turned numbers numbers_lawful opened opened_whole 1 (Seeks fifth 3)
    (look_seeks numbers numbers_lawful opened opened_whole 1 fifth 3 (λ live. refl) (ltb-true 0 3 refl, leb-true 3 3 refl) refl (ltb-true 0 1 refl))

lives : is_live numbers (tree_now numbers sought) fifth ≡ true
unfolding is_live
lives = refl

marks : IsMarking numbers.rules (tree_now numbers sought) (tree_now numbers restored) 3 5 3 true
marks = record {
  leaf = refl;
  changes =
      changes_by (redone opened.log.area (all_records sought.log)) 3 1 3 (leaf 3 0 0 (nth_pair 3 ∷ nth_pair 4 ∷ pair 5 3 true ∷ []))
      (nth_pair 3 ∷ nth_pair 4 ∷ pair 5 3 true ∷ []) refl refl refl;
}

happens_33 : Happens numbers sought (Undoes 1 fifth) restored
happens_33 =
    (undo_restores numbers numbers_lawful sought happens_32.whole refl 1 (claiming (fifth ∷ [])) (note fifth ∷ []) fifth false false 3
    (Whole (leaf 3 0 0 (nth_pair 3 ∷ nth_pair 4 ∷ pair 5 3 true ∷ []))) refl refl refl refl lives (ltb-true 0 1 refl) marks).happens

all_restored : (b : Bool) (was : Bool) → (if b then Some false else None) ≡ Some was → (b || false) ≡ true
all_restored true was h = refl
all_restored false was h = let no : ⊥ = cc in absurd no

happens_34 : Happens numbers restored (EndsUndo 1) undone
happens_34 =
    (ended numbers numbers_lawful restored happens_33.whole refl 1 (claiming (fifth ∷ [])) (note fifth ∷ []) refl
    (λ e was is. all_restored (same_entry number_keys e fifth) was is)).happens

happens_35 : Happens numbers undone Works sent
happens_35 = begins numbers numbers_lawful undone happens_34.whole refl

happens_36 : Happens numbers sent (Durable 1) reopened
happens_36 = synced numbers numbers_lawful sent happens_35.whole refl

abbrev InOpening : Happening ℕ → Type 0
InOpening event = is_in_opening event ≡ true

of_opening : All InOpening undoing
of_opening =
    All-cons InOpening Works (Undoes 1 fifth ∷ EndsUndo 1 ∷ Works ∷ Durable 1 ∷ []) refl
    (All-cons InOpening (Undoes 1 fifth) (EndsUndo 1 ∷ Works ∷ Durable 1 ∷ []) refl
    (All-cons InOpening (EndsUndo 1) (Works ∷ Durable 1 ∷ []) refl
    (All-cons InOpening Works (Durable 1 ∷ []) refl (All-cons InOpening (Durable 1) [] refl (All-nil InOpening)))))

pub restarts : IsRestart numbers lost opening reopened
restarts = record {
  left = is_left;
  covers = leb-true 4 4 refl;
  happening = (sought, happens_32, (restored, happens_33, (undone, happens_34, (sent, happens_35, (reopened, happens_36, refl)))));
  of_opening = of_opening;
}

pub goes : GoesOpening numbers opening reopened
goes = restart_goes numbers numbers_lawful lost opening reopened happens_31.whole restarts

happens_37 : Happens numbers lost (Opens 1) reopened
happens_37 = restarts_happen numbers numbers_lawful lost happens_31.whole opening [] reopened restarts refl

-- All of it.

joined : (events more : List (Happening ℕ)) (old middle new : State ℕ) → AreHappening numbers old events middle → AreHappening numbers middle more new
    → AreHappening numbers old (events ++ more) new
joined [] more old middle new are then_are = subst (λ (s : State ℕ). AreHappening numbers s more new) are then_are
joined (event ∷ events) more old middle new are then_are = (are.0, are.1, joined events more are.0 middle new are.2 then_are)

are_inserting : AreHappening numbers state_0 inserting state_9
are_inserting = (state_1, happens_1, (state_2, happens_2, (state_3, happens_3, (state_4, happens_4, (state_5, happens_5, (state_6, happens_6, (state_7, happens_7, (state_8, happens_8, (state_9, happens_9, refl)))))))))

are_committing : AreHappening numbers state_9 committing committed
are_committing = (state_10, happens_10, (state_11, happens_11, (state_12, happens_12, (state_13, happens_13, (committed, happens_14, refl)))))

are_descending : AreHappening numbers committed descending state_24
are_descending = (state_15, happens_15, (state_16, happens_16, (state_17, happens_17, (state_18, happens_18, (state_19, happens_19, (state_20, happens_20, (state_21, happens_21, (state_22, happens_22, (state_23, happens_23, (state_24, happens_24, refl))))))))))

are_finding : AreHappening numbers state_24 finding lost
are_finding = (state_25, happens_25, (state_26, happens_26, (state_27, happens_27, (state_28, happens_28, (state_29, happens_29, (state_30, happens_30, (lost, happens_31, refl)))))))

are_opening : AreHappening numbers lost (Opens 1 ∷ []) reopened
are_opening = (reopened, happens_37, refl)

pub worked_life : AreHappening numbers (fresh_state 9) worked_events reopened
worked_life =
    joined inserting (committing ++ (descending ++ (finding ++ Opens 1 ∷ []))) state_0 state_9 reopened are_inserting
    (joined committing (descending ++ (finding ++ Opens 1 ∷ [])) state_9 committed reopened are_committing
    (joined descending (finding ++ Opens 1 ∷ []) committed state_24 reopened are_descending
    (joined finding (Opens 1 ∷ []) state_24 lost reopened are_finding are_opening)))

pub last_whole : IsWhole numbers reopened
last_whole = happens_37.whole
