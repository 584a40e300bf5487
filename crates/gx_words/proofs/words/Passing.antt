-- If nothing is wrong with the arguments, the value of each passes its parser.
use Rattle.std.proofs.Common.{◌≡◌, ◌∙◌, ◌⊎◌, inl, inr, ◌≤◌, ◌&&◌, ◌||◌, ◌++◌, ◌∷◌, [], zero, suc, ℕ, Bool, true, false, List, Option, Some, None, refl, sym, ap, ap₂, subst, arith, length, drop, codes, cond, length-append}
use Rattle.std.specs.Prelude.{find, nat_lt, slice_get, is_some, encode_utf8}
use Rattle.std.specs.Option.{option_map_or}
use Rattle.std.specs.List.{fold}
use Rattle.std.specs.Str.{bytes_eq, chars}
use Rattle.std.proofs.lemmas.Bool.{lt-ltb, ne_eqb}
use Rattle.std.proofs.lemmas.Slice.Eq.{bytes_eq-Decides}
use Rattle.clap.specs.Facts.{explicit_source, parser_of_value, unwrap_or_range}
use Rattle.clap.specs.Faults.{action_fault, check_fault, given_default_fault, stray_fault, bundle_fault, bundle_step_fault, default_fault, defaults_fault, flag_word_fault, flags_fault, level_fault, long_fault, option_fault, other_fault, positional_fault, react_fault, settle_fault, short_fault, step_fault, turn_fault, use_fault, values_fault, walk_fault, word_fault}
use Rattle.clap.specs.Kinds.{Kinds, or_else, range_kinds, request_kinds, values_kinds}
use Rattle.clap.specs.Lexer.{long_of, short_of}
use Rattle.clap.specs.Simple.{Shape}
use Rattle.clap.specs.Takes.{is_given}
use Rattle.clap.specs.ValueTests.{accepts}
use Rattle.clap.specs.Values.{is_request, read_as, refused_kind}
use Rattle.clap.specs.Walk.{Held, Names, Outcome, Row, Rule, Step, Text, Waiting, Walk, action_of, after_flag, after_step, arg_by_id, arg_by_index, arg_by_long, arg_by_short, first_of, one_of, attached_value, bundle, bundle_met, bundle_step, default_rows, done, flag_met, has_row, idle, is_empty, is_pending, long_met, long_or_other, more_values, next, nothing_held, option, option_met, option_word, plain, plain_word, positional, positional_held, pushed, reacted, reading_by, refused, rows_after, settled, settled_rows, short_met, short_or_plain, subcommand, subcommand_met, subcommand_or_other, takes_several, takes_values, to_positional, trailing, used, used_as, used_by_id, value, values_or_missing, waits, walk, walk_from, walked, walked_from, with_default, with_values, without, word_met}
use Rattle.clap.specs.declared.builder.action.ArgAction.{ArgAction}
use Rattle.clap.specs.declared.builder.action.ArgAction.TheVariants as action
use Rattle.clap.specs.declared.error.kind.ErrorKind.{ErrorKind}
use Rattle.clap.specs.declared.error.kind.ErrorKind.TheVariants as kind
use Rattle.clap.specs.declared.builder.value_parser.Reading.{Reading}
use Rattle.clap.specs.declared.builder.value_parser.ValueParser.{ValueParser}
use Rattle.clap.specs.declared.parser.matches.ValueSource.{ValueSource}
use Rattle.clap.specs.declared.parser.matches.ValueSource.TheVariants.{CommandLine, DefaultValue}

none_first : (a b : Kinds) → or_else a b ≡ [] → a ≡ []
none_first [] b e = refl
none_first (k ∷ ks) b e = e

none_second : (a b : Kinds) → or_else a b ≡ [] → b ≡ []
none_second [] b e = e
none_second (k ∷ ks) b e = absurd (let h : k ∷ ks ≡ [] = e in cc)

pub some_kind : (k : ErrorKind) (ks : Kinds) → k ∷ ks ≡ [] → ⊥
some_kind k ks e = cc

-- values that pass, and more that pass, pass
more_pass : (i : Bool) (p : ValueParser) (xs ys : List Text) → values_kinds i p xs ≡ [] → values_kinds i p ys ≡ [] → values_kinds i p (xs ++ ys) ≡ []
more_pass i p [] ys a b = b
more_pass i p (x ∷ xs) ys a b = ap₂ or_else (none_first _ _ a) (more_pass i p xs ys (none_second _ _ a) b)

range_some : (least most n : ℕ) → 1 ≤ least → range_kinds least most n ≡ [] → 1 ≤ n
range_some least most zero l e =
    let positive : nat_lt 0 least ≡ true = lt-ltb 0 least (omega arith) in
    let bad = rw positive at e in
    absurd (some_kind _ _ bad)
range_some least most (suc n) l e = omega arith

no_request : (x : ArgAction) (again : Bool) (a : Rule) (values : List Text) (rows : List Row) → is_request x ≡ true → action_fault x again a values rows ≡ [] → ⊥
no_request action.Help again a values rows r e = some_kind _ _ e
no_request action.HelpShort again a values rows r e = some_kind _ _ e
no_request action.HelpLong again a values rows r e = some_kind _ _ e
no_request action.Version again a values rows r e = some_kind _ _ e
no_request action.Set again a values rows r e = let bad : false ≡ true = r in cc
no_request action.Append again a values rows r e = let bad : false ≡ true = r in cc
no_request action.SetTrue again a values rows r e = let bad : false ≡ true = r in cc
no_request action.SetFalse again a values rows r e = let bad : false ≡ true = r in cc
no_request action.Count again a values rows r e = let bad : false ≡ true = r in cc

-- an argument asks for help, or takes a value or more
abbrev pub IsUsable : Rule → Type 0
IsUsable a = (is_request (action_of a) ≡ true) ⊎ ((action_of a ≡ action.Set) × (1 ≤ (unwrap_or_range a.range).start_inclusive))

module _ (c : List Rule) where
  -- each of these is found in c by its id, and usable
  abbrev pub AllOwn : List Rule → Type 0
  AllOwn [] = Unit {0}
  AllOwn (a ∷ rest) = (arg_by_id c a.id ≡ Some a) × IsUsable a × AllOwn rest

  own : (p : Rule → Bool) (xs : List Rule) → AllOwn xs → (a : Rule) → find p xs ≡ Some a → (arg_by_id c a.id ≡ Some a) × IsUsable a
  own p [] all a e = absurd (let bad : ◌≡◌ {A = Option Rule} None (Some a) = e in cc)
  own p (x ∷ xs) all a e = go (p x) e (own p xs all.2 a)
    where
      go : (b : Bool) → cond b (Some x) (find p xs) ≡ Some a → (find p xs ≡ Some a → (arg_by_id c a.id ≡ Some a) × IsUsable a)
          → (arg_by_id c a.id ≡ Some a) × IsUsable a
      go true here rest =
          let same : x ≡ a = cc in
          subst (λ (y : Rule). (arg_by_id c y.id ≡ Some y) × IsUsable y) same (all.0, all.1)
      go false there rest = rest there

  -- a row is an argument's, is read as its parser says, and has a value or more, which pass that
  pub record GoodRow (r : Row) : Type 0 where
    pub rule : Rule
    pub found : arg_by_id c r.id ≡ Some rule
    pub reading : r.reading ≡ reading_by rule
    pub passes : values_fault rule r.values ≡ []
    pub some : 1 ≤ length r.values

  abbrev pub GoodRows : List Row → Type 0
  GoodRows [] = Unit {0}
  GoodRows (r ∷ rs) = GoodRow r × GoodRows rs

  without_good : (id : Text) (rows : List Row) → GoodRows rows → GoodRows (without id rows)
  without_good id [] good = tt
  without_good id (r ∷ rs) good = go (bytes_eq r.id id) (without_good id rs good.1)
    where
      go : (b : Bool) → GoodRows (without id rs) → GoodRows (cond b ([] ++ rs) (r ∷ without id rs))
      go true rest = good.1
      go false rest = (good.0, rest)

  more_good : (a : Rule) → arg_by_id c a.id ≡ Some a → (s : ValueSource) (vs : List Text) → values_fault a vs ≡ []
      → (r : Row) → GoodRow r → r.id ≡ a.id → (row : Row) → row.id ≡ r.id → row.values ≡ r.values ++ vs → row.reading ≡ r.reading → GoodRow row
  more_good a found s vs passes r good same row id values reading =
      let is : Some good.rule ≡ Some a = sym good.found ∙ (ap (arg_by_id c) same ∙ found) in
      let rule_is : good.rule ≡ a = cc in
      let old : values_fault a r.values ≡ [] = subst (λ (y : Rule). values_fault y r.values ≡ []) rule_is good.passes in
      record {
        rule = a;
        found = ap (arg_by_id c) (id ∙ same) ∙ found;
        reading = reading ∙ (good.reading ∙ ap reading_by rule_is);
        passes = rw values (more_pass a.ignore_case (parser_of_value a.parser) r.values vs old passes);
        some = rw values (omega (arith, good.some, length-append r.values vs));
      }

  with_good : (a : Rule) → arg_by_id c a.id ≡ Some a → (s : ValueSource) (vs : List Text) → values_fault a vs ≡ [] → 1 ≤ length vs
      → (rows : List Row) → GoodRows rows → GoodRows (with_values a.id (reading_by a) s vs rows)
  with_good a found s vs passes some [] good = (record { rule = a; found = found; reading = refl; passes = passes; some = some }, tt)
  with_good a found s vs passes some (r ∷ rs) good = go (bytes_eq r.id a.id) refl (with_good a found s vs passes some rs good.1)
    where
      go : (b : Bool) → bytes_eq r.id a.id ≡ b → GoodRows (with_values a.id (reading_by a) s vs rs)
          → GoodRows (cond b (more_values s vs r ++ rs) (r ∷ with_values a.id (reading_by a) s vs rs))
      go true same rest = (more_good a found s vs passes r good.0 ((bytes_eq-Decides r.id a.id).0 same) _ refl refl refl, good.1)
      go false other rest = (good.0, rest)

  module _ (again : Bool) where
    set_good : (a : Rule) → arg_by_id c a.id ≡ Some a → (x : ArgAction) → x ≡ action.Set → (vs : List Text) (rows : List Row)
        → action_fault x again a vs rows ≡ [] → 1 ≤ length vs → GoodRows rows → GoodRows (used_as x a.id (reading_by a) vs rows)
    set_good a found x is vs rows fine some good =
        let as_set : action_fault action.Set again a vs rows ≡ [] = subst (λ (y : ArgAction). action_fault y again a vs rows ≡ []) is fine in
        subst (λ (y : ArgAction). GoodRows (used_as y a.id (reading_by a) vs rows)) (sym is)
        (with_good a found CommandLine vs (none_second _ _ as_set) some (without a.id rows) (without_good a.id rows good))

    given : (a : Rule) (values : List Text) → 1 ≤ length values → values_or_missing a values ≡ values
    given a [] some = absurd (omega arith)
    given a (v ∷ vs) some = refl

    used_good : (a : Rule) → arg_by_id c a.id ≡ Some a → IsUsable a → (values : List Text) (rows : List Row)
        → use_fault again a values rows ≡ [] → GoodRows rows → GoodRows (used a values rows)
    used_good a found usable values rows fine good = elim usable [
      | inl asks ↦ absurd (no_request (action_of a) again a (values_or_missing a values) rows asks (none_second _ _ fine))
      | inr takes ↦
          let some = range_some _ _ (length values) takes.1 (none_first _ _ fine) in
          set_good a found (action_of a) takes.0 (values_or_missing a values) rows (none_second _ _ fine) (rw (given a values some) some) good
    ]

    module _ (all : AllOwn c) where
      rows_good : (pending : Option (Text × List Text)) (rows : List Row)
          → option_map_or (λ p. option_map_or (λ a. use_fault again a p.1 rows) (arg_by_id c p.0) []) pending [] ≡ []
          → GoodRows rows → GoodRows (settled_rows c pending rows)
      rows_good None rows fine good = good
      rows_good (Some p) rows fine good = go (arg_by_id c p.0) refl fine
        where
          go : (o : Option Rule) → arg_by_id c p.0 ≡ o → option_map_or (λ a. use_fault again a p.1 rows) o [] ≡ [] → GoodRows (used_by_id o p.1 rows)
          go None is fine = good
          go (Some a) is fine =
              let its = own _ c all a is in
              used_good a its.0 its.1 p.1 rows fine good

      settled_good : (h : Held) → settle_fault c again h ≡ [] → GoodRows h.rows → GoodRows (settled c h).rows
      settled_good h fine good = rows_good h.pending h.rows fine good

      reacted_good : (a : Rule) → (arg_by_id c a.id ≡ Some a) × IsUsable a → (values : List Text) (h : Held)
          → react_fault c again a values h ≡ [] → GoodRows h.rows → GoodRows (reacted c a values h).rows
      reacted_good a its values h fine good =
          used_good a its.0 its.1 values (settled c h).rows (none_second _ _ fine) (settled_good h (none_first _ _ fine) good)

      option_good : (a : Rule) → (arg_by_id c a.id ≡ Some a) × IsUsable a → (v : Option Text) (h : Held)
          → option_fault c again a v h ≡ [] → GoodRows h.rows → GoodRows (option_met c a v h).0.rows
      option_good a its (Some v) h fine good = reacted_good a its (v ∷ []) h fine good
      option_good a its None h fine good = settled_good h fine good

      flag_good : (a : Rule) → (arg_by_id c a.id ≡ Some a) × IsUsable a → (v : Option Text) (h : Held)
          → cond (is_some v) (kind.TooManyValues ∷ []) (react_fault c again a [] h) ≡ [] → GoodRows h.rows → GoodRows (flag_met c a v h).0.rows
      flag_good a its (Some v) h fine good = good
      flag_good a its None h fine good = reacted_good a its [] h fine good

      long_good : (found : Option Rule) → ((a : Rule) → found ≡ Some a → (arg_by_id c a.id ≡ Some a) × IsUsable a) → (v : Option Text) (h : Held)
          → long_fault c again found v h ≡ [] → GoodRows h.rows → GoodRows (long_met c found v h).0.rows
      long_good None its v h fine good = good
      long_good (Some a) its v h fine good = go (takes_values a) fine
        where
          go : (b : Bool) → cond b (option_fault c again a v h) (cond (is_some v) (kind.TooManyValues ∷ []) (react_fault c again a [] h)) ≡ []
              → GoodRows (cond b (option_met c a v h) (flag_met c a v h)).0.rows
          go true fine = option_good a (its a refl) v h fine good
          go false fine = flag_good a (its a refl) v h fine good

      short_good : (found : Option Rule) → ((a : Rule) → found ≡ Some a → (arg_by_id c a.id ≡ Some a) × IsUsable a) → (rest : Text) (h : Held)
          → (go_on : Held → Held × Outcome) (go_on_fault : Held → Kinds)
          → ((now : Held) → go_on_fault now ≡ [] → GoodRows now.rows → GoodRows (go_on now).0.rows)
          → short_fault c again found rest h go_on_fault ≡ [] → GoodRows h.rows → GoodRows (short_met c found rest h go_on).0.rows
      short_good None its rest h go_on go_on_fault then fine good = good
      short_good (Some a) its rest h go_on go_on_fault then fine good = go (takes_values a) fine
        where
          go : (b : Bool) → cond b (option_fault c again a (attached_value rest) h) (or_else (react_fault c again a [] h) (go_on_fault (reacted c a [] h))) ≡ []
              → GoodRows (cond b (option_met c a (attached_value rest) h) (go_on (reacted c a [] h))).0.rows
          go true fine = option_good a (its a refl) (attached_value rest) h fine good
          go false fine = then (reacted c a [] h) (none_second _ _ fine) (reacted_good a (its a refl) [] h (none_first _ _ fine) good)

      step_good : (x : Option ℕ) (flags : Text) (skip : ℕ) (so_far : Outcome) (h : Held)
          → (go_on : Text → ℕ → Outcome → Held → Held × Outcome) (go_on_fault : Text → ℕ → Held → Kinds)
          → ((flags : Text) (skip : ℕ) (so_far : Outcome) (now : Held) → go_on_fault flags skip now ≡ [] → GoodRows now.rows → GoodRows (go_on flags skip so_far now).0.rows)
          → bundle_step_fault c again x flags skip h go_on_fault ≡ [] → GoodRows h.rows → GoodRows (bundle_step c x flags skip so_far h go_on).0.rows
      step_good None flags skip so_far h go_on go_on_fault then fine good = good
      step_good (Some x) flags zero so_far h go_on go_on_fault then fine good =
          let rest = drop (length (encode_utf8 x)) flags in
          short_good (arg_by_short c x) (own _ c all) rest h (go_on rest 0 done) (go_on_fault rest 0) (then rest 0 done) fine good
      step_good (Some x) flags (suc skip) so_far h go_on go_on_fault then fine good = then (drop (length (encode_utf8 x)) flags) skip so_far h fine good

      bundle_good : (k : ℕ) (flags : Text) (skip : ℕ) (so_far : Outcome) (h : Held)
          → flags_fault c again k flags skip h ≡ [] → GoodRows h.rows → GoodRows (bundle_met c k flags skip so_far h).0.rows
      unfolding flags_fault bundle_met
      bundle_good zero flags skip so_far h fine good = good
      bundle_good (suc k) flags skip so_far h fine good =
          step_good (slice_get (chars flags) 0) flags skip so_far h (bundle_met c k) (flags_fault c again k) (bundle_good k) fine good

      plain_good : (w : Waiting) (word : Text) (h : Held) → GoodRows h.rows → GoodRows (plain_word c w word h).0.rows
      plain_good idle word h good = good
      plain_good positional word h good = good
      plain_good (option id) word h good = go (arg_by_id c id)
        where
          go : (o : Option Rule) → GoodRows (option_word o id word h).0.rows
          go None = good
          go (Some a) = good

      after_good : (w : Waiting) (word : Text) (h : Held) (o : Outcome) → GoodRows h.rows → GoodRows (after_flag c w word h o).0.rows
      after_good w word h done good = good
      after_good w word h (waits id) good = good
      after_good w word h plain good = plain_good w word h good
      after_good w word h refused good = plain_good w word h good

      short_or_plain_good : (w : Waiting) (word : Text) (flags : Option Text) (h : Held)
          → option_map_or (λ flags. bundle_fault c again flags h) flags [] ≡ [] → GoodRows h.rows → GoodRows (short_or_plain c w word flags h).0.rows
      short_or_plain_good w word None h fine good = plain_good w word h good
      short_or_plain_good w word (Some flags) h fine good =
          after_good w word _ (bundle c flags h).1 (bundle_good (length flags) flags h.skip plain (record h { skip = 0 }) fine good)

      long_or_other_good : (w : Waiting) (word : Text) (long : Option (Text × Option Text)) (h : Held)
          → flag_word_fault c again long word h ≡ [] → GoodRows h.rows → GoodRows (long_or_other c w word long h).0.rows
      long_or_other_good w word None h fine good = short_or_plain_good w word (short_of word) h fine good
      long_or_other_good w word (Some p) h fine good =
          after_good w word _ (long_met c (arg_by_long c p.0) p.1 h).1 (long_good (arg_by_long c p.0) (own _ c all) p.1 h fine good)

module _ (s : Shape) (all : AllOwn s.rules s.rules) where
  other_good : (o : Option Text) (w : Waiting) (position : ℕ) (word : Text) (h : Held) → other_fault s o word h ≡ [] → GoodRows s.rules h.rows
      → GoodRows s.rules (subcommand_or_other s.rules o w position word h).0.rows
  other_good (Some name) w position word h fine good = good
  other_good None w position word h fine good = go (bytes_eq word (45 ∷ 45 ∷ [])) fine
    where
      go : (b : Bool) → cond b [] (flag_word_fault s.rules s.args_override_self (long_of word) word h) ≡ []
          → GoodRows s.rules (cond b (h, trailing position) (long_or_other s.rules w word (long_of word) h)).0.rows
      go true fine = good
      go false fine = long_or_other_good s.rules s.args_override_self all w word (long_of word) h fine good

  word_good : (names : Names) (is_trailing : Bool) (w : Waiting) (position : ℕ) (word : Text) (h : Held) → word_fault s names is_trailing w word h ≡ []
      → GoodRows s.rules h.rows → GoodRows s.rules (word_met s.rules names is_trailing w position word h).0.rows
  word_good names true w position word h fine good = good
  word_good names false w position word h fine good = other_good (subcommand_met names w word) w position word h fine good

  positional_good : (a : Rule) (word : Text) (h : Held) → positional_fault s.rules s.args_override_self a h ≡ [] → GoodRows s.rules h.rows
      → GoodRows s.rules (positional_held s.rules a word h).rows
  positional_good a word h fine good = go (is_pending a h.pending && takes_several a) fine
    where
      go : (b : Bool) → cond b [] (settle_fault s.rules s.args_override_self h) ≡ [] → GoodRows s.rules (pushed a.id word (cond b h (settled s.rules h))).rows
      go true fine = good
      go false fine = settled_good s.rules s.args_override_self all h fine good

  after_step_good : (word : Text) (w : Walk) (h : Held) (step : Step) → step_fault s w.position h step ≡ [] → GoodRows s.rules h.rows
      → GoodRows s.rules (after_step s.rules word w h step).held.rows
  after_step_good word w h (next waiting) fine good = good
  after_step_good word w h (trailing position) fine good = good
  after_step_good word w h (subcommand name) fine good = good
  after_step_good word w h value fine good = go (arg_by_index s.rules w.position) fine
    where
      go : (o : Option Rule) → option_map_or (λ a. positional_fault s.rules s.args_override_self a h) o (stray_fault s) ≡ []
          → GoodRows s.rules (to_positional s.rules o word w h).held.rows
      go None fine = good
      go (Some a) fine = positional_good a word h fine good

  turn_good : (names : Names) (w : Walk) (word : Text) → turn_fault s names w word ≡ [] → GoodRows s.rules w.held.rows
      → GoodRows s.rules (walked s.rules names w word).held.rows
  unfolding walked
  turn_good names w word fine good = go w.stopped fine
    where
      go : (o : Option (Text × List Text))
          → (let met = word_met s.rules names w.is_trailing w.waiting w.position word w.held in
          cond (is_some o) [] (or_else (word_fault s names w.is_trailing w.waiting word w.held) (step_fault s w.position met.0 met.1)) ≡ [])
          → GoodRows s.rules (walked_from s.rules names o w word).held.rows
      go (Some p) fine = good
      go None fine =
          let met = word_met s.rules names w.is_trailing w.waiting w.position word w.held in
          after_step_good word w met.0 met.1 (none_second _ _ fine)
          (word_good names w.is_trailing w.waiting w.position word w.held (none_first _ _ fine) good)

  walk_good : (names : Names) (words : List Text) (w : Walk) → walk_fault s names w words ≡ [] → GoodRows s.rules w.held.rows
      → GoodRows s.rules (fold (walked s.rules names) w words).held.rows
  unfolding walk_fault
  walk_good names [] w fine good = good
  walk_good names (word ∷ rest) w fine good =
      walk_good names rest (walked s.rules names w word) (none_second _ _ fine) (turn_good names w word (none_first _ _ fine) good)

  default_good : (a : Rule) → arg_by_id s.rules a.id ≡ Some a → (rows : List Row) → default_fault rows a ≡ [] → GoodRows s.rules rows
      → GoodRows s.rules (with_default rows a)
  default_good a found rows fine good = go (has_row a.id rows) a.defaults fine
    where
      go : (b : Bool) (ds : List Text) → cond (b || is_empty ds) [] (given_default_fault a ds) ≡ []
          → GoodRows s.rules (cond b rows (default_rows a.id (reading_by a) ds rows))
      go true ds fine = good
      go false [] fine = good
      go false (v ∷ vs) fine =
          let filled : is_empty (v ∷ vs) ≡ false = ne_eqb _ _ (λ e. omega (arith, e)) in
          let its = none_second (request_kinds (action_of a)) (values_fault a (v ∷ vs)) (rw filled at fine) in
          with_good s.rules a found DefaultValue (v ∷ vs) its (omega arith) rows good

  defaults_good : (xs : List Rule) → AllOwn s.rules xs → (rows : List Row) → defaults_fault rows xs ≡ [] → GoodRows s.rules rows
      → GoodRows s.rules (fold with_default rows xs)
  unfolding defaults_fault
  defaults_good [] its rows fine good = good
  defaults_good (a ∷ rest) its rows fine good =
      defaults_good rest its.2 (with_default rows a) (none_second _ _ fine) (default_good a its.0 rows (none_first _ _ fine) good)

  -- what was given at a level with no fault
  pub record Passed (names : Names) (words : List Text) (has : Bool) (below : Kinds) : Type 0 where
    pub walks : walk_fault s names (walk_from nothing_held) words ≡ []
    pub below_is : below ≡ []
    pub checks : check_fault s (rows_after s.rules names words) has ≡ []
    pub good : GoodRows s.rules (rows_after s.rules names words)

  pub level_good : (names : Names) (words : List Text) (has : Bool) (below : Kinds) → level_fault s names nothing_held words has below ≡ [] → Passed names words has below
  level_good names words has below fine =
      let end = (walk s.rules names nothing_held words).held in
      let walks = none_first _ _ fine in
      let after = none_second _ _ fine in
      let then = none_second _ _ after in
      let last = none_second _ _ then in
      record {
        walks = walks;
        below_is = none_first _ _ after;
        checks = none_second _ _ last;
        good = defaults_good s.rules all (settled s.rules end).rows (none_first _ _ last)
            (settled_good s.rules s.args_override_self all end (none_first _ _ then) (walk_good names words (walk_from nothing_held) walks tt));
      }

-- ---- rows by their ids

or_true : (b : Bool) → (b || true) ≡ true
or_true true = refl
or_true false = refl

same_text : (id : Text) → bytes_eq id id ≡ true
same_text id = (bytes_eq-Decides id id).1 refl

has_with : (id other : Text) (how : Reading) (s : ValueSource) (vs : List Text) (rows : List Row) → has_row id rows ≡ true → has_row id (with_values other how s vs rows) ≡ true
has_with id other how s vs [] has = absurd (let bad : false ≡ true = has in cc)
has_with id other how s vs (r ∷ rs) has = go (bytes_eq r.id other) (bytes_eq r.id id) refl has (has_with id other how s vs rs)
  where
    go : (b x : Bool) → bytes_eq r.id id ≡ x → (x || has_row id rs) ≡ true → (has_row id rs ≡ true → has_row id (with_values other how s vs rs) ≡ true)
        → has_row id (cond b (more_values s vs r ++ rs) (r ∷ with_values other how s vs rs)) ≡ true
    go true x is has rest = rw is has
    go false true is has rest = rw is refl
    go false false is has rest = rw is (rest has)

has_own : (id : Text) (how : Reading) (s : ValueSource) (vs : List Text) (rows : List Row) → has_row id (with_values id how s vs rows) ≡ true
has_own id how s vs [] = rw (same_text id) refl
has_own id how s vs (r ∷ rs) = go (bytes_eq r.id id) refl (has_own id how s vs rs)
  where
    go : (b : Bool) → bytes_eq r.id id ≡ b → has_row id (with_values id how s vs rs) ≡ true → has_row id (cond b (more_values s vs r ++ rs) (r ∷ with_values id how s vs rs)) ≡ true
    go true is rest = rw is refl
    go false is rest = rw is rest

-- a default takes no row away
pub default_keeps : (id : Text) (rows : List Row) (a : Rule) → has_row id rows ≡ true → has_row id (with_default rows a) ≡ true
default_keeps id rows a has = go (has_row a.id rows) a.defaults
  where
    go : (b : Bool) (ds : List Text) → has_row id (cond b rows (default_rows a.id (reading_by a) ds rows)) ≡ true
    go true ds = has
    go false [] = has
    go false (v ∷ vs) = has_with id a.id (reading_by a) DefaultValue (v ∷ vs) rows has

-- an argument with a default has a row
pub default_gives : (rows : List Row) (a : Rule) → 1 ≤ length a.defaults → has_row a.id (with_default rows a) ≡ true
default_gives rows a some = go (has_row a.id rows) refl a.defaults some
  where
    go : (b : Bool) → has_row a.id rows ≡ b → (ds : List Text) → 1 ≤ length ds → has_row a.id (cond b rows (default_rows a.id (reading_by a) ds rows)) ≡ true
    go true is ds some = is
    go false is [] some = absurd (omega arith)
    go false is (v ∷ vs) some = has_own a.id (reading_by a) DefaultValue (v ∷ vs) rows

pub row_by_id : (id : Text) (rows : List Row) → has_row id rows ≡ true → (r : Row) × (find (λ r. bytes_eq r.id id) rows ≡ Some r)
row_by_id id [] has = absurd (let bad : false ≡ true = has in cc)
row_by_id id (r ∷ rs) has = go (bytes_eq r.id id) has (row_by_id id rs)
  where
    go : (b : Bool) → (b || has_row id rs) ≡ true → (has_row id rs ≡ true → (r : Row) × (find (λ r. bytes_eq r.id id) rs ≡ Some r))
        → (q : Row) × (cond b (Some r) (find (λ r. bytes_eq r.id id) rs) ≡ Some q)
    go true has rest = (r, refl)
    go false has rest = rest has

pub given_row : (id : Text) (rows : List Row) → is_given id rows ≡ true → (r : Row) × (find (λ r. bytes_eq r.id id) rows ≡ Some r)
given_row id rows has = go (find (λ r. bytes_eq r.id id) rows) refl has
  where
    go : (o : Option Row) → find (λ r. bytes_eq r.id id) rows ≡ o → option_map_or (λ r. explicit_source r.source) o false ≡ true
        → (r : Row) × (find (λ r. bytes_eq r.id id) rows ≡ Some r)
    go None is has = absurd (let bad : false ≡ true = has in cc)
    go (Some r) is has = (r, is)

-- the word that an argument was given, or has by default: it passes the argument's parser
pub record IsGood (a : Rule) (rows : List Row) : Type 0 where
  pub word : Text
  pub first : first_of a.id rows ≡ Some word
  pub read : one_of a.id rows ≡ Some (read_as (reading_by a) word)
  pub accepted : accepts a.ignore_case (parser_of_value a.parser) word ≡ true

accepted_first : (i : Bool) (p : ValueParser) (v : Text) (vs : List Text) → values_kinds i p (v ∷ vs) ≡ [] → accepts i p v ≡ true
accepted_first i p v vs fine = go (accepts i p v) refl (none_first _ _ fine)
  where
    go : (b : Bool) → accepts i p v ≡ b → cond b [] (refused_kind p ∷ []) ≡ [] → accepts i p v ≡ true
    go true is fine = is
    go false is fine = absurd (some_kind _ _ fine)

module _ (c : List Rule) where
  good_of : (id : Text) (rows : List Row) → GoodRows c rows → (r : Row) → find (λ r. bytes_eq r.id id) rows ≡ Some r → GoodRow c r × (r.id ≡ id)
  good_of id [] good r e = absurd (let bad : ◌≡◌ {A = Option Row} None (Some r) = e in cc)
  good_of id (x ∷ xs) good r e = go (bytes_eq x.id id) refl e (good_of id xs good.1 r)
    where
      go : (b : Bool) → bytes_eq x.id id ≡ b → cond b (Some x) (find (λ r. bytes_eq r.id id) xs) ≡ Some r
          → (find (λ r. bytes_eq r.id id) xs ≡ Some r → GoodRow c r × (r.id ≡ id)) → GoodRow c r × (r.id ≡ id)
      go true same here rest =
          let is : x ≡ r = cc in
          subst (λ (y : Row). GoodRow c y × (y.id ≡ id)) is (good.0, (bytes_eq-Decides x.id id).0 same)
      go false other there rest = rest there

  pub good_word : (a : Rule) → arg_by_id c a.id ≡ Some a → (rows : List Row) → GoodRows c rows → (r : Row) → find (λ r. bytes_eq r.id a.id) rows ≡ Some r → IsGood a rows
  good_word a found rows good r e =
      let its = good_of a.id rows good r e in
      let is : its.0.rule ≡ a = cc (sym its.0.found ∙ (ap (arg_by_id c) its.1 ∙ found)) in
      go r.values refl its.0.some (subst (λ (y : Rule). values_fault y r.values ≡ []) is its.0.passes) (its.0.reading ∙ ap reading_by is)
    where
      go : (vs : List Text) → r.values ≡ vs → 1 ≤ length vs → values_fault a r.values ≡ [] → r.reading ≡ reading_by a → IsGood a rows
      go [] is some passes reads = absurd (omega arith)
      go (v ∷ vs) is some passes reads = record {
        word = v;
        first = rw (e, is) refl;
        read = rw (e, is, reads) refl;
        accepted = accepted_first a.ignore_case (parser_of_value a.parser) v vs (rw is at passes);
      }

-- ---- `help` is no command that is entered

module _ (s : Shape) (enabled : s.disable_help_subcommand ≡ false) where
  abbrev NoHelp : Step → Type 0
  NoHelp (subcommand name) = bytes_eq name (codes "help") ≡ false
  NoHelp other = Unit {0}

  abbrev pub IsOther : Option (Text × List Text) → Type 0
  IsOther None = Unit {0}
  IsOther (Some p) = bytes_eq p.0 (codes "help") ≡ false

  plain_other : (w : Waiting) (word : Text) (h : Held) → NoHelp (plain_word s.rules w word h).1
  plain_other idle word h = tt
  plain_other positional word h = tt
  plain_other (option id) word h = tt

  after_other : (w : Waiting) (word : Text) (h : Held) (o : Outcome) → NoHelp (after_flag s.rules w word h o).1
  after_other w word h done = tt
  after_other w word h (waits id) = tt
  after_other w word h plain = plain_other w word h
  after_other w word h refused = plain_other w word h

  short_other : (w : Waiting) (word : Text) (flags : Option Text) (h : Held) → NoHelp (short_or_plain s.rules w word flags h).1
  short_other w word None h = plain_other w word h
  short_other w word (Some flags) h = after_other w word _ (bundle s.rules flags h).1

  long_other : (w : Waiting) (word : Text) (long : Option (Text × Option Text)) (h : Held) → NoHelp (long_or_other s.rules w word long h).1
  long_other w word None h = short_other w word (short_of word) h
  long_other w word (Some p) h = after_other w word _ (long_met s.rules (arg_by_long s.rules p.0) p.1 h).1

  some_other : (o : Option Text) (w : Waiting) (position : ℕ) (word : Text) (h : Held) → other_fault s o word h ≡ []
      → NoHelp (subcommand_or_other s.rules o w position word h).1
  some_other (Some name) w position word h fine = go (bytes_eq name (codes "help")) refl (rw enabled at fine)
    where
      go : (b : Bool) → bytes_eq name (codes "help") ≡ b → cond (b && true) (kind.DisplayHelp ∷ kind.InvalidSubcommand ∷ []) [] ≡ []
          → bytes_eq name (codes "help") ≡ false
      go true is fine = absurd (some_kind _ _ fine)
      go false is fine = is
  some_other None w position word h fine = go (bytes_eq word (45 ∷ 45 ∷ []))
    where
      go : (b : Bool) → NoHelp (cond b (h, trailing position) (long_or_other s.rules w word (long_of word) h)).1
      go true = tt
      go false = long_other w word (long_of word) h

  word_other : (names : Names) (is_trailing : Bool) (w : Waiting) (position : ℕ) (word : Text) (h : Held) → word_fault s names is_trailing w word h ≡ []
      → NoHelp (word_met s.rules names is_trailing w position word h).1
  word_other names true w position word h fine = tt
  word_other names false w position word h fine = some_other (subcommand_met names w word) w position word h fine

  step_other : (word : Text) (w : Walk) (h : Held) (step : Step) → NoHelp step → IsOther w.stopped → IsOther (after_step s.rules word w h step).stopped
  step_other word w h (next waiting) kept old = old
  step_other word w h (trailing position) kept old = old
  step_other word w h (subcommand name) kept old = kept
  step_other word w h value kept old = go (arg_by_index s.rules w.position)
    where
      go : (o : Option Rule) → IsOther (to_positional s.rules o word w h).stopped
      go None = old
      go (Some a) = tt

  turn_other : (names : Names) (w : Walk) (word : Text) → turn_fault s names w word ≡ [] → IsOther w.stopped → IsOther (walked s.rules names w word).stopped
  unfolding walked
  turn_other names w word fine old = go w.stopped fine old
    where
      go : (o : Option (Text × List Text))
          → (let met = word_met s.rules names w.is_trailing w.waiting w.position word w.held in
          cond (is_some o) [] (or_else (word_fault s names w.is_trailing w.waiting word w.held) (step_fault s w.position met.0 met.1)) ≡ [])
          → IsOther o → IsOther (walked_from s.rules names o w word).stopped
      go (Some p) fine kept = kept
      go None fine kept =
          let met = word_met s.rules names w.is_trailing w.waiting w.position word w.held in
          step_other word w met.0 met.1 (word_other names w.is_trailing w.waiting w.position word w.held (none_first _ _ fine)) old

  pub walk_other : (names : Names) (words : List Text) (w : Walk) → walk_fault s names w words ≡ [] → IsOther w.stopped
      → IsOther (fold (walked s.rules names) w words).stopped
  unfolding walk_fault
  walk_other names [] w fine old = old
  walk_other names (word ∷ rest) w fine old =
      walk_other names rest (walked s.rules names w word) (none_second _ _ fine) (turn_other names w word (none_first _ _ fine) old)
