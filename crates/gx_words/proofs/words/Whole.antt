-- If nothing is wrong with the arguments, a command was found, with all that it needs.
use Rattle.std.proofs.Common.{◌≡◌, ◌∙◌, inl, inr, ◌<◌, ◌≤◌, ◌^◌, ◌||◌, [], ◌∷◌, ℕ, Bool, true, false, not, List, Option, Some, None, refl, sym, ap, ap₂, arith, length, map, codes, cond}
use Rattle.std.specs.Prelude.{is_some, option_map, pos}
use Rattle.std.specs.List.{fold, list_any}
use Rattle.std.specs.Option.{option_map_or}
use Rattle.std.specs.Borrow.{Bor}
use Rattle.std.specs.Str.{bytes_eq}
use Rattle.std.proofs.lemmas.Slice.Eq.{bytes_eq-Decides}
use Rattle.clap.specs.Faults.{check_fault, entered_fault, fault_of, level_fault}
use Rattle.clap.specs.Facts.{parser_of_value}
use Rattle.clap.specs.Takes.{is_given}
use Rattle.clap.specs.ValueTests.{accepts}
use Rattle.clap.specs.Values.{read_as, reading_of, same_text}
use Rattle.clap.proofs.OnLiterals.{clap_on_literals}
use Rattle.clap.specs.Simple.{App, Shape, argument_words, built, built_leaf, entered, inherited, names_of, rows_at, subcommand_of}
use Rattle.clap.specs.Simple.{new_app, new_rule, with_subcommand}
use Rattle.clap.specs.Walk.{Row, Rule, Text, first_of, has_row, nothing_held, rows_after, settled, walk, walk_from, with_default}
use Rattle.clap.specs.declared.error.kind.ErrorKind.{ErrorKind}
use Rattle.clap.specs.declared.builder.value_parser.ValueParser.TheVariants as vp
use Rattle.clap.proofs.ValueTestLemmas.{accepts-Accepts}
use Rattle.gx_words.specs.Asking.{HasClass, HasDump, HasFormat, HasMigrate, HasRun, HasStorm, IsAccepted, IsWhole, class_word}
use Rattle.gx_words.specs.declared.asking.Dimensions.{Dimensions}
use Rattle.gx_words.specs.declared.asking.Dimensions.TheVariants.{Two, Three}
use Rattle.gx_words.specs.Program.{AreClasses, ClassWords, dump_app, format_app, gist_app, migrate_app, plain_app, run_app, storm_app, verify_app, with_required}
use Rattle.gx_words.proofs.words.Passing.{AllOwn, IsGood, IsOther, some_kind, default_gives, default_keeps, given_row, good_word, level_good, row_by_id, walk_other}

all_three : (x y z : Bool) (k : ErrorKind) → cond (not x || (not y || (not z || false))) (k ∷ []) [] ≡ [] → (x ≡ true) × (y ≡ true) × (z ≡ true)
all_three true true true k fine = (refl, refl, refl)
all_three false y z k fine = absurd (some_kind k [] fine)
all_three true false z k fine = absurd (some_kind k [] fine)
all_three true true false k fine = absurd (some_kind k [] fine)

both_two : (x y : Bool) (k : ErrorKind) → cond (not x || (not y || false)) (k ∷ []) [] ≡ [] → (x ≡ true) × (y ≡ true)
both_two true true k fine = (refl, refl)
both_two false y k fine = absurd (some_kind k [] fine)
both_two true false k fine = absurd (some_kind k [] fine)

that_one : (x : Bool) (k : ErrorKind) → cond (not x || false) (k ∷ []) [] ≡ [] → x ≡ true
that_one true k fine = refl
that_one false k fine = absurd (some_kind k [] fine)

-- a word that is good for a number's parser passed its test
number_accepted : (a : Rule) (rows : List Row) (lowest highest : ℕ) → a.ignore_case ≡ false → a.parser ≡ Some (vp.Signed (pos lowest) (pos highest)) → highest < 2 ^ 32
    → IsGood a rows → IsAccepted rows a.id lowest highest
number_accepted a rows lowest highest exact parser fits good = record {
  word = good.word;
  given = good.read ∙ ap (λ p. Some (read_as (reading_of (parser_of_value p)) good.word)) parser;
  accepted = accepts-Accepts false (vp.Signed (pos lowest) (pos highest)) good.word (ap₂ (λ i p. accepts i (parser_of_value p) good.word) (sym exact) (sym parser) ∙ good.accepted);
  fits = fits;
}

abbrev first_rule : List Rule → Rule
first_rule [] = new_rule []
first_rule (a ∷ rest) = a

abbrev rest_rules : List Rule → List Rule
rest_rules [] = []
rest_rules (a ∷ rest) = rest

-- of three arguments the second has a default, and so a row
second_of_three_kept : (rows : List Row) (a b c : Rule) → 1 ≤ length b.defaults → has_row b.id (fold with_default rows (a ∷ b ∷ c ∷ [])) ≡ true
second_of_three_kept rows a b c some = default_keeps b.id (with_default (with_default rows a) b) c (default_gives (with_default rows a) b some)

-- the same of the third of four
third_of_four_kept : (rows : List Row) (a b c d : Rule) → 1 ≤ length c.defaults → has_row c.id (fold with_default rows (a ∷ b ∷ c ∷ d ∷ [])) ≡ true
third_of_four_kept rows a b c d some =
    default_keeps c.id (with_default (with_default (with_default rows a) b) c) d (default_gives (with_default (with_default rows a) b) c some)

-- and of the fourth of five
fourth_of_five_kept : (rows : List Row) (a b c d e : Rule) → 1 ≤ length d.defaults → has_row d.id (fold with_default rows (a ∷ b ∷ c ∷ d ∷ e ∷ [])) ≡ true
fourth_of_five_kept rows a b c d e some =
    default_keeps d.id (with_default (with_default (with_default (with_default rows a) b) c) d) e (default_gives (with_default (with_default (with_default rows a) b) c) d some)

-- of two arguments the first has a default, and so a row
first_of_two_kept : (rows : List Row) (a b : Rule) → 1 ≤ length a.defaults → has_row a.id (fold with_default rows (a ∷ b ∷ [])) ≡ true
first_of_two_kept rows a b some = default_keeps a.id (with_default rows a) b (default_gives rows a some)

-- a word is among these, wherever they lie
any_now : (word : Text) (xs : List (Bor Text)) → list_any (λ name. same_text false name.now word) xs ≡ list_any (λ name. bytes_eq name word) (map (λ name. name.now) xs)
any_now word [] = refl
any_now word (x ∷ xs) = ap (λ b. bytes_eq x.now word || b) (any_now word xs)

one_of_two : (word : Text) (x y : Bool) → bytes_eq (codes "1") word ≡ x → bytes_eq (codes "3") word ≡ y → (x || (y || false)) ≡ true
    → (dimensions : Dimensions) × (class_word dimensions ≡ word)
one_of_two word true y first second among = (Two, (bytes_eq-Decides (codes "1") word).0 first)
one_of_two word false true first second among = (Three, (bytes_eq-Decides (codes "3") word).0 second)
one_of_two word false false first second among = absurd (let bad : false ≡ true = among in cc)

-- a word that is good for the classes' parser is one of them
class_accepted : (classes : ClassWords) → AreClasses classes → (a : Rule) (rows : List Row) → a.ignore_case ≡ false → a.parser ≡ Some (vp.Names classes) → a.id ≡ codes "class"
    → IsGood a rows → HasClass rows
class_accepted classes are a rows exact parser named good =
    let passes : accepts false (vp.Names classes) good.word ≡ true = ap₂ (λ i p. accepts i (parser_of_value p) good.word) (sym exact) (sym parser) ∙ good.accepted in
    let among : list_any (λ name. bytes_eq name good.word) (codes "1" ∷ codes "3" ∷ []) ≡ true =
    ap (list_any (λ name. bytes_eq name good.word)) (sym are) ∙ (sym (any_now good.word classes.now) ∙ passes) in
    let its = one_of_two good.word (bytes_eq (codes "1") good.word) (bytes_eq (codes "3") good.word) refl refl among in
    (its.0, ap (λ id. first_of id rows) (sym named) ∙ (good.first ∙ ap (λ w. Some w) (sym its.1)))

-- the program's arguments, with the names of classes where they lie
module _ (classes : ClassWords) (are : AreClasses classes) where
  -- and the same as its parser has them at work
  abbrev app : App
  app = with_subcommand (with_subcommand (with_subcommand (with_subcommand (with_subcommand (with_subcommand (with_subcommand (with_required (new_app (codes "gist")))
      (plain_app classes).top) (format_app classes).top) run_app.top) dump_app.top) verify_app.top) migrate_app.top) storm_app.top

  abbrev at_work : App
  at_work = built app

  -- the commands below the program as its parser has them at work
  abbrev plain_shape : Shape
  plain_shape = built_leaf (inherited app.top (plain_app classes).top)

  abbrev format_shape : Shape
  format_shape = built_leaf (inherited app.top (format_app classes).top)

  abbrev run_shape : Shape
  run_shape = built_leaf (inherited app.top run_app.top)

  abbrev dump_shape : Shape
  dump_shape = built_leaf (inherited app.top dump_app.top)

  abbrev verify_shape : Shape
  verify_shape = built_leaf (inherited app.top verify_app.top)

  abbrev migrate_shape : Shape
  migrate_shape = built_leaf (inherited app.top migrate_app.top)

  abbrev storm_shape : Shape
  storm_shape = built_leaf (inherited app.top storm_app.top)

  format_own : AllOwn format_shape.rules format_shape.rules
  unfolding clap_on_literals
  format_own = (
    refl,
    inr (refl, omega arith),
    (
      refl,
      inr (refl, omega arith),
      (
        refl,
        inr (refl, omega arith),
        (refl, inr (refl, omega arith), (refl, inl refl, tt)),
      ),
    ),
  )

  plain_own : AllOwn plain_shape.rules plain_shape.rules
  unfolding clap_on_literals
  plain_own = (
    refl,
    inr (refl, omega arith),
    (refl, inl refl, tt),
  )

  run_own : AllOwn run_shape.rules run_shape.rules
  unfolding clap_on_literals
  run_own = (
    refl,
    inr (refl, omega arith),
    (refl, inr (refl, omega arith), (refl, inl refl, tt)),
  )

  dump_own : AllOwn dump_shape.rules dump_shape.rules
  unfolding clap_on_literals
  dump_own = (
    refl,
    inr (refl, omega arith),
    (refl, inl refl, tt),
  )

  verify_own : AllOwn verify_shape.rules verify_shape.rules
  unfolding clap_on_literals
  verify_own = (
    refl,
    inr (refl, omega arith),
    (refl, inl refl, tt),
  )

  migrate_own : AllOwn migrate_shape.rules migrate_shape.rules
  unfolding clap_on_literals
  migrate_own = (
    refl,
    inr (refl, omega arith),
    (refl, inr (refl, omega arith), (refl, inr (refl, omega arith), (refl, inl refl, tt))),
  )

  storm_own : AllOwn storm_shape.rules storm_shape.rules
  unfolding clap_on_literals
  storm_own = (
    refl,
    inr (refl, omega arith),
    (refl, inr (refl, omega arith), (refl, inr (refl, omega arith), (refl, inl refl, tt))),
  )

  -- what `format` is given if nothing is wrong with it
  has_format : (words : List Text) → level_fault format_shape [] nothing_held words false [] ≡ [] → HasFormat (rows_after format_shape.rules [] words)
  unfolding clap_on_literals
  has_format words fine =
      let passed = level_good format_shape format_own [] words false [] fine in
      let rows = rows_after format_shape.rules [] words in
      let there = all_three (is_given (codes "FILE") rows) (is_given (codes "PAGES") rows) (is_given (codes "M") rows) _ passed.checks in
      let file = given_row (codes "FILE") rows there.0 in
      let pages = given_row (codes "PAGES") rows there.1 in
      let most = given_row (codes "M") rows there.2 in
      let good_file = good_word format_shape.rules _ format_own.0 rows passed.good file.0 file.1 in
      let good_pages = good_word format_shape.rules _ format_own.2.0 rows passed.good pages.0 pages.1 in
      let good_most = good_word format_shape.rules _ format_own.2.2.0 rows passed.good most.0 most.1 in
      let kept : has_row (codes "class") rows ≡ true =
      fourth_of_five_kept (settled format_shape.rules (walk format_shape.rules [] nothing_held words).held).rows (first_rule format_shape.rules) (first_rule (rest_rules format_shape.rules))
      (first_rule (rest_rules (rest_rules format_shape.rules))) (first_rule (rest_rules (rest_rules (rest_rules format_shape.rules))))
      (first_rule (rest_rules (rest_rules (rest_rules (rest_rules format_shape.rules))))) (omega arith) in
      let class = row_by_id (codes "class") rows kept in
      let good_class = good_word format_shape.rules _ format_own.2.2.2.0 rows passed.good class.0 class.1 in
      record {
        file = good_file.word;
        file_is = good_file.first;
        pages = number_accepted _ rows 8 65536 refl refl (omega arith) good_pages;
        most = number_accepted _ rows 4 100 refl refl (omega arith) good_most;
        class = class_accepted classes are _ rows refl refl refl good_class;
      }

  -- what `plain` is given if nothing is wrong with it
  has_plain : (words : List Text) → level_fault plain_shape [] nothing_held words false [] ≡ [] → HasClass (rows_after plain_shape.rules [] words)
  unfolding clap_on_literals
  has_plain words fine =
      let passed = level_good plain_shape plain_own [] words false [] fine in
      let rows = rows_after plain_shape.rules [] words in
      let kept : has_row (codes "class") rows ≡ true =
      first_of_two_kept (settled plain_shape.rules (walk plain_shape.rules [] nothing_held words).held).rows (first_rule plain_shape.rules) (first_rule (rest_rules plain_shape.rules)) (omega arith) in
      let class = row_by_id (codes "class") rows kept in
      class_accepted classes are _ rows refl refl refl (good_word plain_shape.rules _ plain_own.0 rows passed.good class.0 class.1)

  -- what `run` is given if nothing is wrong with it
  has_run : (words : List Text) → level_fault run_shape [] nothing_held words false [] ≡ [] → HasRun (rows_after run_shape.rules [] words)
  unfolding clap_on_literals
  has_run words fine =
      let passed = level_good run_shape run_own [] words false [] fine in
      let rows = rows_after run_shape.rules [] words in
      let file = given_row (codes "FILE") rows (that_one (is_given (codes "FILE") rows) _ passed.checks) in
      let kept : has_row (codes "frames") rows ≡ true =
      second_of_three_kept (settled run_shape.rules (walk run_shape.rules [] nothing_held words).held).rows (first_rule run_shape.rules) (first_rule (rest_rules run_shape.rules))
      (first_rule (rest_rules (rest_rules run_shape.rules))) (omega arith) in
      let frames = row_by_id (codes "frames") rows kept in
      let good_file = good_word run_shape.rules _ run_own.0 rows passed.good file.0 file.1 in
      let good_frames = good_word run_shape.rules _ run_own.2.0 rows passed.good frames.0 frames.1 in
      record {
        file = good_file.word;
        file_is = good_file.first;
        frames = number_accepted _ rows 16 4096 refl refl (omega arith) good_frames;
      }

  -- what `dump` is given if nothing is wrong with it
  has_dump : (words : List Text) → level_fault dump_shape [] nothing_held words false [] ≡ [] → HasDump (rows_after dump_shape.rules [] words)
  unfolding clap_on_literals
  has_dump words fine =
      let passed = level_good dump_shape dump_own [] words false [] fine in
      let rows = rows_after dump_shape.rules [] words in
      let file = given_row (codes "FILE") rows (that_one (is_given (codes "FILE") rows) _ passed.checks) in
      let good_file = good_word dump_shape.rules _ dump_own.0 rows passed.good file.0 file.1 in
      record { file = good_file.word; file_is = good_file.first }

  -- what `verify` is given if nothing is wrong with it
  has_verify : (words : List Text) → level_fault verify_shape [] nothing_held words false [] ≡ [] → HasDump (rows_after verify_shape.rules [] words)
  unfolding clap_on_literals
  has_verify words fine =
      let passed = level_good verify_shape verify_own [] words false [] fine in
      let rows = rows_after verify_shape.rules [] words in
      let file = given_row (codes "FILE") rows (that_one (is_given (codes "FILE") rows) _ passed.checks) in
      let good_file = good_word verify_shape.rules _ verify_own.0 rows passed.good file.0 file.1 in
      record { file = good_file.word; file_is = good_file.first }

  -- what `migrate` is given if nothing is wrong with it
  has_migrate : (words : List Text) → level_fault migrate_shape [] nothing_held words false [] ≡ [] → HasMigrate (rows_after migrate_shape.rules [] words)
  unfolding clap_on_literals
  has_migrate words fine =
      let passed = level_good migrate_shape migrate_own [] words false [] fine in
      let rows = rows_after migrate_shape.rules [] words in
      let there = both_two (is_given (codes "OLD") rows) (is_given (codes "NEW") rows) _ passed.checks in
      let old = given_row (codes "OLD") rows there.0 in
      let new = given_row (codes "NEW") rows there.1 in
      let kept : has_row (codes "frames") rows ≡ true =
      third_of_four_kept (settled migrate_shape.rules (walk migrate_shape.rules [] nothing_held words).held).rows (first_rule migrate_shape.rules) (first_rule (rest_rules migrate_shape.rules))
      (first_rule (rest_rules (rest_rules migrate_shape.rules))) (first_rule (rest_rules (rest_rules (rest_rules migrate_shape.rules)))) (omega arith) in
      let frames = row_by_id (codes "frames") rows kept in
      let good_old = good_word migrate_shape.rules _ migrate_own.0 rows passed.good old.0 old.1 in
      let good_new = good_word migrate_shape.rules _ migrate_own.2.0 rows passed.good new.0 new.1 in
      let good_frames = good_word migrate_shape.rules _ migrate_own.2.2.0 rows passed.good frames.0 frames.1 in
      record {
        old = good_old.word;
        old_is = good_old.first;
        new = good_new.word;
        new_is = good_new.first;
        frames = number_accepted _ rows 16 4096 refl refl (omega arith) good_frames;
      }

  -- what `storm` is given if nothing is wrong with it
  has_storm : (words : List Text) → level_fault storm_shape [] nothing_held words false [] ≡ [] → HasStorm (rows_after storm_shape.rules [] words)
  unfolding clap_on_literals
  has_storm words fine =
      let passed = level_good storm_shape storm_own [] words false [] fine in
      let rows = rows_after storm_shape.rules [] words in
      let there = all_three (is_given (codes "SEED") rows) (is_given (codes "SESSIONS") rows) (is_given (codes "CALLS") rows) _ passed.checks in
      let seed = given_row (codes "SEED") rows there.0 in
      let sessions = given_row (codes "SESSIONS") rows there.1 in
      let calls = given_row (codes "CALLS") rows there.2 in
      let good_seed = good_word storm_shape.rules _ storm_own.0 rows passed.good seed.0 seed.1 in
      let good_sessions = good_word storm_shape.rules _ storm_own.2.0 rows passed.good sessions.0 sessions.1 in
      let good_calls = good_word storm_shape.rules _ storm_own.2.2.0 rows passed.good calls.0 calls.1 in
      record {
        seed = number_accepted _ rows 0 4294967295 refl refl (omega arith) good_seed;
        sessions = number_accepted _ rows 1 8 refl refl (omega arith) good_sessions;
        calls = number_accepted _ rows 1 2000 refl refl (omega arith) good_calls;
      }

  -- ---- the program's own level

  abbrev first_shape : List Shape → Shape
  first_shape [] = (plain_app classes).top
  first_shape (s ∷ rest) = s

  abbrev rest_shapes : List Shape → List Shape
  rest_shapes [] = []
  rest_shapes (s ∷ rest) = rest

  -- the text that says how its commands are used
  abbrev help_command : Shape
  help_command = first_shape (rest_shapes (rest_shapes (rest_shapes (rest_shapes (rest_shapes (rest_shapes (rest_shapes at_work.subs)))))))

  abbrev found_by : Bool → Bool → Bool → Bool → Bool → Bool → Bool → Bool → Option Shape
  found_by is_plain is_format is_run is_dump is_verify is_migrate is_storm is_help =
      cond is_plain (Some plain_shape)
      (cond is_format (Some format_shape) (cond is_run (Some run_shape) (cond is_dump (Some dump_shape) (cond is_verify (Some verify_shape)
      (cond is_migrate (Some migrate_shape) (cond is_storm (Some storm_shape) (cond is_help (Some help_command) None)))))))

  entered_whole : (words : List Text) (is_plain is_format is_run is_dump is_verify is_migrate is_storm is_help : Bool) → (is_help ≡ true → ⊥)
      → option_map_or (λ s. level_fault s [] nothing_held words false []) (found_by is_plain is_format is_run is_dump is_verify is_migrate is_storm is_help) [] ≡ []
      → is_some (option_map (λ s. rows_at s words) (found_by is_plain is_format is_run is_dump is_verify is_migrate is_storm is_help)) ≡ true
      → IsWhole (option_map (λ s. rows_at s words) (found_by is_plain is_format is_run is_dump is_verify is_migrate is_storm is_help))
  entered_whole words true is_format is_run is_dump is_verify is_migrate is_storm is_help no_help fine met = inl (refl, has_plain words fine)
  entered_whole words false true is_run is_dump is_verify is_migrate is_storm is_help no_help fine met = inr (inl (refl, has_format words fine))
  entered_whole words false false true is_dump is_verify is_migrate is_storm is_help no_help fine met = inr (inr (inl (refl, has_run words fine)))
  entered_whole words false false false true is_verify is_migrate is_storm is_help no_help fine met = inr (inr (inr (inl (refl, has_dump words fine))))
  entered_whole words false false false false true is_migrate is_storm is_help no_help fine met = inr (inr (inr (inr (inl (refl, has_verify words fine)))))
  entered_whole words false false false false false true is_storm is_help no_help fine met = inr (inr (inr (inr (inr (inl (refl, has_migrate words fine))))))
  entered_whole words false false false false false false true is_help no_help fine met = inr (inr (inr (inr (inr (inr (refl, has_storm words fine))))))
  entered_whole words false false false false false false false true no_help fine met = absurd (no_help refl)
  entered_whole words false false false false false false false false no_help fine met = absurd (let bad : false ≡ true = met in cc)

  no_help_named : (word : Text) → bytes_eq word (codes "help") ≡ false → (bytes_eq (codes "help") word || false) ≡ true → ⊥
  no_help_named word other named = go (bytes_eq (codes "help") word) refl named
    where
      go : (b : Bool) → bytes_eq (codes "help") word ≡ b → (b || false) ≡ true → ⊥
      go true is named =
          let same : codes "help" ≡ word = (bytes_eq-Decides (codes "help") word).0 is in
          let bad : true ≡ false = sym ((bytes_eq-Decides word (codes "help")).1 (sym same)) ∙ other in
          cc
      go false is named = let bad : false ≡ true = named in cc

  stop_whole : (stop : Option (Text × List Text)) → entered_fault at_work stop ≡ [] → is_some (entered at_work stop) ≡ true
      → IsOther at_work.top refl stop → IsWhole (entered at_work stop)
  unfolding clap_on_literals
  stop_whole None fine met other = absurd (let bad : false ≡ true = met in cc)
  stop_whole (Some p) fine met other =
      entered_whole p.1 (bytes_eq (codes "plain") p.0 || false) (bytes_eq (codes "format") p.0 || false) (bytes_eq (codes "run") p.0 || false) (bytes_eq (codes "dump") p.0 || false)
      (bytes_eq (codes "verify") p.0 || false) (bytes_eq (codes "migrate") p.0 || false) (bytes_eq (codes "storm") p.0 || false) (bytes_eq (codes "help") p.0 || false) (no_help_named p.0 other) fine met

  top_own : AllOwn at_work.top.rules at_work.top.rules
  unfolding clap_on_literals
  top_own = (refl, inl refl, tt)

  -- a command is wanted at the program's own level
  command_met : (rows : List Row) (met : Bool) → check_fault at_work.top rows met ≡ [] → met ≡ true
  command_met rows true fine = refl
  command_met rows false fine = absurd (some_kind _ _ fine)

  app_whole : (words : List Text) → fault_of app words ≡ [] → IsWhole (subcommand_of app words)
  app_whole words fine =
      let given = argument_words app words in
      let stop = (walk at_work.top.rules (names_of at_work) nothing_held given).stopped in
      let passed = level_good at_work.top top_own (names_of at_work) given (is_some (entered at_work stop)) (entered_fault at_work stop) fine in
      stop_whole stop passed.below_is (command_met (rows_after at_work.top.rules (names_of at_work) given) (is_some (entered at_work stop)) passed.checks)
      (walk_other at_work.top refl (names_of at_work) given (walk_from nothing_held) passed.walks tt)

  pub whole : (words : List Text) → fault_of (gist_app classes) words ≡ [] → IsWhole (subcommand_of (gist_app classes) words)
  unfolding gist_app
  whole words fine = app_whole words fine
