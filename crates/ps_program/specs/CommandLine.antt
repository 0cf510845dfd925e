-- What the first line of the input, the command line, asks for.
use Rattle.std.specs.Prelude.{◌≡◌, ◌⊎◌, ◌==◌, ℕ, Bool, true, false, List, [], length, Option}
use Rattle.std.specs.Prelude.{None, Some, codes, filter, find, not, IsUtf8, if◌then◌else◌, ◌∷◌, ◌++◌, map}
use Rattle.std.specs.Prelude.{flat_map, ◌||◌}
use Rattle.std.specs.List.{slice_split, AllByRecursion}
use Rattle.std.specs.Option.{option_map_or}
use Rattle.std.specs.Str.{bytes_eq}
use Rattle.clap.specs.Words.{App, Row, Rule, Shape, Text, app_of, first_of, new_app, new_rule, with_subcommand}
use Rattle.clap.specs.Words.{subcommand_of, fault_of, IsAmong}
use Rattle.clap.specs.Simple.{new_shape, on_top}
use Rattle.clap.specs.declared.builder.action.ArgAction.TheVariants.{SetTrue}
use Rattle.clap.specs.declared.builder.command.Command.{Command}
use Rattle.clap.specs.declared.builder.command.Command.TheViews.{out-Command}
use Rattle.clap.specs.declared.error.kind.ErrorKind.{ErrorKind}
use Rattle.clap.specs.declared.error.kind.ErrorKind.TheVariants.{DisplayHelp}
use Rattle.ps_machine.specs.declared.key.Order.{Order}
use Rattle.ps_machine.specs.declared.key.Order.TheVariants.{Mealy, Moore}
use Rattle.ps_simulate.specs.declared.role.Role.{Role}
use Rattle.ps_simulate.specs.declared.role.Role.TheVariants.{Controller, Environment}
use Rattle.ps_program.specs.declared.commands.Line.{Line}
use Rattle.ps_program.specs.declared.commands.Line.TheVariants.{Refused, Help, Closed, Check, Judge, Sim, Lasso}
use Rattle.ps_program.specs.declared.commands.Line.TheVariants.{LassoTlsf, Verify, VerifyTlsf, Shrink, ShrinkTlsf}
use Rattle.ps_program.specs.declared.commands.Line.TheVariants.{Agree, Cert, Game, Solve, Synth, SynthTlsf, Translate}
use Rattle.ps_program.specs.declared.commands.SynthLine.{SynthLine}
use Rattle.ps_program.specs.declared.commands.TheConstants.{ON_CLOSED, ON_CHECK, ON_JUDGE, ON_SIM, ON_LASSO}
use Rattle.ps_program.specs.declared.commands.TheConstants.{ON_VERIFY, ON_SHRINK, ON_SOLVE, ON_GAME, ON_CERT}
use Rattle.ps_program.specs.declared.commands.TheConstants.{ON_AGREE, ON_TRANSLATE, ON_SYNTH, ON_HELP}
use Rattle.ps_program.specs.declared.commands.TextKind.{TextKind}
use Rattle.ps_program.specs.declared.commands.TextKind.TheVariants as kind

-- ---- the commands

-- A command: its name; its flags, each of which is written after `--`; the kinds of its texts, in order; the flags that
-- add a text, each with the kind of that text; and the flags with which the first text is of another kind, each with
-- that kind. For each choice of flags, `line` is the `Line` that the command means; `says` is what `help` says about
-- the command.
pub record Usage : Type 0 where
  pub name : Text
  pub flags : List Text
  pub texts : List TextKind
  pub added : List (Text × TextKind)
  pub replaced : List (Text × TextKind)
  pub line : (Text → Bool) → Line
  pub says : Text

abbrev pub env_flag : Text
env_flag = codes "env"

abbrev pub tlsf_flag : Text
tlsf_flag = codes "tlsf"

abbrev pub moore_flag : Text
moore_flag = codes "moore"

abbrev pub compact_flag : Text
compact_flag = codes "compact"

abbrev pub full_flag : Text
full_flag = codes "full"

abbrev pub cert_flag : Text
cert_flag = codes "cert"

-- the role of a circuit: environment if the flag `--env` is given, and otherwise controller
abbrev pub role_given : (Text → Bool) → Role
role_given given = if given env_flag then Environment else Controller

-- what `lasso` asks for: whether a specification is satisfied if the flag `--tlsf` is given, and otherwise an
-- automaton's verdict
abbrev pub lasso_given : (Text → Bool) → Line
lasso_given given = if given tlsf_flag then LassoTlsf (role_given given) else Lasso (role_given given)

-- the order of moves: Moore if the flag `--moore` is given, and otherwise Mealy
abbrev pub order_given : (Text → Bool) → Order
order_given given = if given moore_flag then Moore else Mealy

-- what `verify` asks for: the judgement by a specification if the flag `--tlsf` is given, and otherwise by an
-- automaton; a specification states the order of moves, so `--moore` and `--tlsf` exclude each other
abbrev pub verify_given : (Text → Bool) → Line
verify_given given =
    if given tlsf_flag then (if given moore_flag then Refused else VerifyTlsf (role_given given))
    else Verify (order_given given) (role_given given)

-- what `shrink` asks for: a smaller circuit by a specification if the flag `--tlsf` is given, and otherwise by an
-- automaton; `--moore` and `--tlsf` exclude each other, as they do for `verify`
abbrev pub shrink_given : (Text → Bool) → Line
shrink_given given =
    if given tlsf_flag then (if given moore_flag then Refused else ShrinkTlsf (role_given given))
    else Shrink (order_given given) (role_given given)

-- what `synth` is asked for, by its flags: the order of moves, and what is printed besides the circuit
abbrev pub synth_given : (Text → Bool) → SynthLine
synth_given given = record {
  full = given full_flag;
  cert = given cert_flag;
  order = order_given given;
  compact = given compact_flag;
}

-- what `synth` asks for: a circuit for a specification if the flag `--tlsf` is given, and otherwise for an automaton; a
-- specification states the order of moves, and only its circuit is printed, so `--tlsf` excludes each other flag
abbrev pub synth_line_given : (Text → Bool) → Line
synth_line_given given =
    if given tlsf_flag then
    (if given full_flag || given cert_flag || given moore_flag || given compact_flag then Refused else SynthTlsf)
    else Synth (synth_given given)

-- a command without a name, flags and texts; each row of the table of commands adds what it has
abbrev pub no_usage : Usage
no_usage = record {
  name = [];
  flags = [];
  texts = [];
  added = [];
  replaced = [];
  line = λ given. Refused;
  says = [];
}

abbrev pub commands : List Usage
commands =
    record no_usage {
      name = codes "closed";
      texts = kind.Game ∷ kind.Certificate ∷ [];
      line = λ given. Closed;
      says = ON_CLOSED.now;
    } ∷ record no_usage {
      name = codes "check";
      texts = kind.Game ∷ kind.Certificate ∷ [];
      line = λ given. Check;
      says = ON_CHECK.now;
    } ∷ record no_usage {
      name = codes "judge";
      flags = compact_flag ∷ [];
      texts = kind.Game ∷ kind.Solution ∷ [];
      line = λ given. Judge (given compact_flag);
      says = ON_JUDGE.now;
    } ∷ record no_usage {
      name = codes "sim";
      texts = kind.Circuit ∷ kind.Stimulus ∷ [];
      line = λ given. Sim;
      says = ON_SIM.now;
    } ∷ record no_usage {
      name = codes "lasso";
      flags = env_flag ∷ tlsf_flag ∷ [];
      texts = kind.Automaton ∷ kind.Circuit ∷ kind.Stimulus ∷ [];
      replaced = (tlsf_flag, kind.Specification) ∷ [];
      line = lasso_given;
      says = ON_LASSO.now;
    } ∷ record no_usage {
      name = codes "verify";
      flags = env_flag ∷ moore_flag ∷ tlsf_flag ∷ [];
      texts = kind.Automaton ∷ kind.Circuit ∷ [];
      replaced = (tlsf_flag, kind.Specification) ∷ [];
      line = verify_given;
      says = ON_VERIFY.now;
    } ∷ record no_usage {
      name = codes "shrink";
      flags = env_flag ∷ moore_flag ∷ tlsf_flag ∷ [];
      texts = kind.Automaton ∷ kind.Circuit ∷ [];
      replaced = (tlsf_flag, kind.Specification) ∷ [];
      line = shrink_given;
      says = ON_SHRINK.now;
    } ∷ record no_usage {
      name = codes "agree";
      texts = kind.Specification ∷ kind.Automaton ∷ [];
      line = λ given. Agree;
      says = ON_AGREE.now;
    } ∷ record no_usage {
      name = codes "translate";
      texts = kind.Specification ∷ [];
      line = λ given. Translate;
      says = ON_TRANSLATE.now;
    } ∷ record no_usage {
      name = codes "solve";
      flags = compact_flag ∷ [];
      texts = kind.Game ∷ [];
      line = λ given. Solve (given compact_flag);
      says = ON_SOLVE.now;
    } ∷ record no_usage {
      name = codes "game";
      flags = moore_flag ∷ [];
      texts = kind.Automaton ∷ [];
      line = λ given. Game (order_given given);
      says = ON_GAME.now;
    } ∷ record no_usage {
      name = codes "cert";
      flags = moore_flag ∷ compact_flag ∷ [];
      texts = kind.Automaton ∷ [];
      line = λ given. Cert (order_given given) (given compact_flag);
      says = ON_CERT.now;
    } ∷ record no_usage {
      name = codes "synth";
      flags = full_flag ∷ cert_flag ∷ moore_flag ∷ compact_flag ∷ tlsf_flag ∷ [];
      texts = kind.Automaton ∷ [];
      added = (cert_flag, kind.Certificate) ∷ [];
      replaced = (tlsf_flag, kind.Specification) ∷ [];
      line = synth_line_given;
      says = ON_SYNTH.now;
    } ∷ record no_usage {
      name = codes "help";
      line = λ given. Help;
      says = ON_HELP.now;
    } ∷ []

-- the `Line` that a command's name and flags mean; `Refused` if no command has this name
abbrev pub line_named : Text → (Text → Bool) → Line
line_named name given =
    option_map_or (λ usage. usage.line given) (find (λ usage. bytes_eq usage.name name) commands) Refused

-- ---- what the words of a command line mean

-- the words of a command line, which are separated by spaces
abbrev pub words_of : List ℕ → List Text
words_of line = filter (λ word. not (length word == 0)) (slice_split (λ byte. byte == 32) line)

-- the flag with this name, as the parser clap stores it
abbrev pub flag : Text → Rule
flag name = record (new_rule name) { long = Some name; action = Some SetTrue }

-- the command with the given name and flags, as the parser clap stores it
abbrev pub command_with : Text → List Text → Shape
command_with name flags = record (new_shape name) { rules = map flag flags }

-- the command has exactly the given flags, and no global flag (one that clap also accepts after a subcommand)
pub record HasFlags (name : Text) (flags : List Text) (command : Command) : Type 0 where
  pub shape : (app_of command).top ≡ command_with name flags
  pub local : (out-Command command).has_globals ≡ false

-- clap's description of the program without commands; the first word of a line is not the program's name
abbrev pub program : App
program = on_top (λ top. record top { no_binary_name = true; disable_help_subcommand = true }) (new_app (codes "psyn"))

-- clap's description of the program, with the given commands added one after the other
abbrev pub with_commands : App → List Usage → App
with_commands app [] = app
with_commands app (usage ∷ more) = with_commands (with_subcommand app (command_with usage.name usage.flags)) more

unfoldable pub table : App
table = with_commands program commands

-- whether the parsed words contain the flag
abbrev pub is_given : Text → List Row → Bool
is_given name rows = option_map_or (λ text. bytes_eq text (codes "true")) (first_of name rows) false

-- the `Line` that parsed words mean; `Refused` if they contain no command
abbrev pub line_said : Option (Text × List Row) → Line
line_said (Some command) = line_named command.0 (λ name. is_given name command.1)
line_said None = Refused

-- the `Line` for words that the parser refuses: `Help` if they ask for help by `--help` or `-h`, and otherwise
-- `Refused`
abbrev pub line_refused : ErrorKind → Line
line_refused DisplayHelp = Help
line_refused _ = Refused

-- the words of a command line mean this `Line`
abbrev pub Says : List Text → Line → Type 0
Says words line = ((fault_of table words ≡ []) × (line ≡ line_said (subcommand_of table words)))
    ⊎ ((kind : ErrorKind) × IsAmong kind (fault_of table words) × (line ≡ line_refused kind))

-- the first line of the input means this `Line`; a line that is not UTF-8 means `Refused`
abbrev pub IsLine : List ℕ → Line → Type 0
IsLine first_line line = (IsUtf8 first_line × Says (words_of first_line) line)
    ⊎ (¬ (IsUtf8 first_line) × (line ≡ Refused))

-- ---- the command lines that are accepted

-- whether the name of a flag is among the given words
abbrev pub is_among : List Text → Text → Bool
is_among [] name = false
is_among (flag ∷ flags) name = if bytes_eq name flag then true else is_among flags name

-- all lists that result from inserting the word at some index of the list
abbrev pub insertions : Text → List Text → List (List Text)
insertions word [] = (word ∷ []) ∷ []
insertions word (x ∷ xs) = (word ∷ (x ∷ xs)) ∷ map (λ rest. x ∷ rest) (insertions word xs)

-- all lists of some words of the given list, each at most once, in any order
abbrev pub arrangements : List Text → List (List Text)
arrangements [] = [] ∷ []
arrangements (x ∷ xs) = arrangements xs ++ flat_map (insertions x) (arrangements xs)

-- the words of a command line with a command's name and some flags
abbrev pub words_with : Text → List Text → List Text
words_with name flags = name ∷ map (λ flag. codes "--" ++ flag) flags

-- the parser accepts the words of a command line, and they mean this `Line`
abbrev pub AreRead : List Text → Line → Type 0
AreRead words line = (fault_of table words ≡ []) × (line_said (subcommand_of table words) ≡ line)

-- a line with a command's name and some of its own flags, each once, in any order, means what the table of commands
-- says: this command, or `Refused` if some of the flags exclude each other
abbrev pub LinesAreRead : Type 0
LinesAreRead =
    AllByRecursion (λ usage. AllByRecursion (λ flags. AreRead (words_with usage.name flags)
    (usage.line (is_among flags))) (arrangements usage.flags)) commands

-- the words `--help` and `-h`, each of which asks for help and for nothing else
abbrev pub AskForHelp : Type 0
AskForHelp =
    (fault_of table (codes "--help" ∷ []) ≡ DisplayHelp ∷ []) × (fault_of table (codes "-h" ∷ []) ≡ DisplayHelp ∷ [])
