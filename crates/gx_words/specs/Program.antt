-- The program: the arguments that it takes, as its parser reads them.
use Rattle.std.specs.Prelude.{◌≡◌, ◌∷◌, ℕ, List, [], Some, map, pos, codes, true, false}
use Rattle.std.specs.Borrow.{Bor}
use Rattle.clap.specs.Words.{App, Rule, Text, app_of, new_app, new_rule, rule_of, with_rule, with_subcommand}
use Rattle.clap.specs.declared.builder.arg.Arg.{Arg}
use Rattle.clap.specs.declared.builder.command.Command.{Command}
use Rattle.clap.specs.declared.builder.command.Command.TheViews.{out-Command}
use Rattle.clap.specs.declared.builder.value_parser.ValueParser.TheVariants as value

-- the same command, which now wants a subcommand
abbrev pub with_required : App → App
with_required a = record { top = record (a.top) { subcommand_required = true }; subs = a.subs }

-- an argument by its place, which has to be given
abbrev pub wanted_rule : Text → Rule
wanted_rule name = record (new_rule name) { required = true }

-- one that is a number from the lowest to the highest
abbrev pub number_rule : Text → ℕ → ℕ → Rule
number_rule name lowest highest = record (wanted_rule name) { parser = Some (value.Signed (pos lowest) (pos highest)) }

-- `--frames N`, from 16 to 4,096, and 64 if it isn't given
abbrev pub frames_rule : Rule
frames_rule = record (new_rule (codes "frames")) {
  long = Some (codes "frames");
  value_names = 1;
  parser = Some (value.Signed (pos 16) (pos 4096));
  defaults = codes "64" ∷ [];
}

-- the names of classes of keys, wherever they lie: `1` and `3`
abbrev pub ClassWords : Type 0
ClassWords = Bor (List (Bor Text))

abbrev pub AreClasses : ClassWords → Type 0
AreClasses words = map (λ word. word.now) words.now ≡ codes "1" ∷ codes "3" ∷ []

-- `--class C`, one of these names, and 1 if it isn't given
abbrev pub class_rule : ClassWords → Rule
class_rule words = record (new_rule (codes "class")) {
  long = Some (codes "class");
  value_names = 1;
  parser = Some (value.Names words);
  defaults = codes "1" ∷ [];
}

-- `plain [--class C]`
abbrev pub plain_app : ClassWords → App
plain_app words = with_rule (new_app (codes "plain")) (class_rule words)

-- `format FILE PAGES M [--class C]`, with 8 to 65,536 pages and an M from 4 to 100
abbrev pub format_app : ClassWords → App
format_app words = with_rule (with_rule (with_rule (with_rule (new_app (codes "format")) (wanted_rule (codes "FILE")))
    (number_rule (codes "PAGES") 8 65536)) (number_rule (codes "M") 4 100)) (class_rule words)

-- `run FILE [--frames N]`
abbrev pub run_app : App
run_app = with_rule (with_rule (new_app (codes "run")) (wanted_rule (codes "FILE"))) frames_rule

-- `dump FILE`
abbrev pub dump_app : App
dump_app = with_rule (new_app (codes "dump")) (wanted_rule (codes "FILE"))

-- `verify FILE`
abbrev pub verify_app : App
verify_app = with_rule (new_app (codes "verify")) (wanted_rule (codes "FILE"))

-- `migrate OLD NEW [--frames N]`
abbrev pub migrate_app : App
migrate_app = with_rule (with_rule (with_rule (new_app (codes "migrate")) (wanted_rule (codes "OLD"))) (wanted_rule (codes "NEW"))) frames_rule

-- `storm SEED SESSIONS CALLS`, with a seed below 2^32, 1 to 8 sessions and 1 to 2,000 calls
abbrev pub storm_app : App
storm_app = with_rule (with_rule (with_rule (new_app (codes "storm")) (number_rule (codes "SEED") 0 4294967295))
    (number_rule (codes "SESSIONS") 1 8)) (number_rule (codes "CALLS") 1 2000)

-- `gist`, which wants a command, and its seven commands
unfoldable pub gist_app : ClassWords → App
gist_app words = with_subcommand (with_subcommand (with_subcommand (with_subcommand (with_subcommand (with_subcommand (with_subcommand (with_required (new_app (codes "gist")))
    (plain_app words).top) (format_app words).top) run_app.top) dump_app.top) verify_app.top) migrate_app.top) storm_app.top

-- the command is this one, and none of its arguments is for the commands below it too
abbrev pub Is : App → Command → Type 0
Is app command = (app_of command ≡ app) × ((out-Command command).has_globals ≡ false)

-- the argument is read by this rule, and is its own command's alone
abbrev pub IsRule : Rule → Arg → Type 0
IsRule rule argument = (rule_of argument ≡ rule) × (argument.global ≡ false)
