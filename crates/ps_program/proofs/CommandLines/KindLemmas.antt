-- If the parser clap reports an error in a command line, the line asks for help, or psyn refuses it. It does not matter
-- which possible error of a command line clap reports, because all of them give the same result.
use Rattle.std.proofs.Common.{rules, arith, ◌≡◌, ◌⊎◌, ◌&&◌, ℕ, Bool, zero, suc, true, false, List, [], ◌∷◌, Option}
use Rattle.std.proofs.Common.{None, Some, is_some, refl, inl, inr}
use Rattle.std.specs.Prelude.{find, if◌then◌else◌}
use Rattle.std.specs.Option.{option_map_or}
use Rattle.clap.specs.Faults.{count_fault, set_fault, action_fault, use_fault, settle_fault, react_fault, option_fault}
use Rattle.clap.specs.Faults.{long_fault, short_fault, bundle_step_fault, flags_fault, flag_word_fault, other_fault}
use Rattle.clap.specs.Faults.{stray_fault, step_fault, turn_fault, walk_fault, default_fault, defaults_fault}
use Rattle.clap.specs.Faults.{level_fault, entered_fault, fault_of}
use Rattle.clap.specs.Kinds.{Kinds, IsAmong, or_else, check_kinds, range_kinds, request_kinds, value_kinds}
use Rattle.clap.specs.Kinds.{values_kinds}
use Rattle.clap.specs.Facts.{parser_of_value}
use Rattle.clap.specs.Walk.{Held, Names, Row, Rule, Step, Text, Waiting, Walk, answers_to, idle, option, positional}
use Rattle.clap.specs.Walk.{nothing_held, settled, subcommand_met, value, walked, with_default}
use Rattle.clap.specs.Simple.{App, Shape, built, label_of}
use Rattle.clap.specs.declared.builder.action.ArgAction.{ArgAction}
use Rattle.clap.specs.declared.builder.action.ArgAction.TheVariants as act
use Rattle.clap.specs.declared.builder.value_parser.ValueParser.{ValueParser}
use Rattle.clap.specs.declared.error.kind.ErrorKind.{ErrorKind}
use Rattle.clap.specs.declared.error.kind.ErrorKind.TheVariants as kind
use Rattle.ps_program.specs.declared.commands.Line.{Line}
use Rattle.ps_program.specs.declared.commands.Line.TheVariants.{Refused}
use Rattle.ps_program.specs.CommandLine.{line_refused}

-- whichever of the given kinds of errors a command line has, the meaning of the command line is the same `Line`
pub record MakeOne (kinds : Kinds) : Type 0 where
  pub line : Line
  pub same : (k : ErrorKind) → IsAmong k kinds → line_refused k ≡ line

one_none : MakeOne []
one_none = record { line = Refused; same = λ k h. absurd h }

one_only : (k : ErrorKind) → MakeOne (k ∷ [])
one_only k = record { line = line_refused k; same = grind arith }

one_else : (first next : Kinds) → MakeOne first → MakeOne next → MakeOne (or_else first next)
one_else first next f n = grind arith

one_if : (b : Bool) (first second : Kinds) → MakeOne first → MakeOne second → MakeOne (if b then first else second)
one_if b first second f s = grind arith

one_option : {X : Type 0} (kinds : X → Kinds) (o : Option X) (other : Kinds) → ((x : X) → MakeOne (kinds x)) →
    MakeOne other → MakeOne (option_map_or kinds o other)
one_option kinds o other some none = grind arith

-- ---- the errors at one occurrence of an argument

one_value : (ignore_case : Bool) (parser : ValueParser) (text : List ℕ) → MakeOne (value_kinds ignore_case parser text)
one_value ignore_case parser text = grind (arith, one_if, one_none, one_only)

one_values : (ignore_case : Bool) (parser : ValueParser) (values : List (List ℕ)) →
    MakeOne (values_kinds ignore_case parser values)
one_values ignore_case parser [] = one_none
one_values ignore_case parser (v ∷ vs) = search (rules, one_else, one_value, one_values ignore_case parser vs)

one_range : (least most n : ℕ) → MakeOne (range_kinds least most n)
one_range least most n = search (rules, one_if, one_only, one_none)

one_request : (a : ArgAction) → MakeOne (request_kinds a)
one_request a = grind (arith, one_only, one_none)

one_count : (a : Rule) (values : List Text) (rows : List Row) → MakeOne (count_fault a values rows)
one_count a values rows = grind (arith, one_value, one_values)

one_set : (again : Bool) (a : Rule) (values : List Text) (rows : List Row) → MakeOne (set_fault again a values rows)
one_set again a values rows = grind (arith, one_else, one_if, one_only, one_none, one_values)

one_action : (by : ArgAction) (again : Bool) (a : Rule) (values : List Text) (rows : List Row) →
    MakeOne (action_fault by again a values rows)
one_action act.Set again a values rows = one_set again a values rows
one_action act.SetTrue again a values rows = one_set again a values rows
one_action act.SetFalse again a values rows = one_set again a values rows
one_action act.Append again a values rows = one_values a.ignore_case (parser_of_value a.parser) values
one_action act.Count again a values rows = one_count a values rows
one_action other again a values rows = one_request other

one_use : (again : Bool) (a : Rule) (values : List Text) (rows : List Row) → MakeOne (use_fault again a values rows)
one_use again a values rows = grind (arith, one_else, one_range, one_action)

-- ---- clap goes through the words of a line

one_settle : (c : List Rule) (again : Bool) (h : Held) → MakeOne (settle_fault c again h)
one_settle c again h = search (rules, one_option, one_use, one_none)

one_react : (c : List Rule) (again : Bool) (a : Rule) (values : List Text) (h : Held) →
    MakeOne (react_fault c again a values h)
one_react c again a values h = one_else _ _ (one_settle c again h) (one_use again a values (settled c h).rows)

one_flag : (c : List Rule) (again : Bool) (a : Rule) (v : Option Text) (h : Held) → MakeOne (option_fault c again a v h)
one_flag c again a (Some v) h = one_react c again a (v ∷ []) h
one_flag c again a None h = one_settle c again h

one_long : (c : List Rule) (again : Bool) (a : Option Rule) (v : Option Text) (h : Held) →
    MakeOne (long_fault c again a v h)
one_long c again None v h = one_only kind.UnknownArgument
one_long c again (Some a) v h = search (rules, one_if, one_flag, is_some, one_only, one_react)

one_short : (c : List Rule) (again : Bool) (a : Option Rule) (rest : Text) (h : Held) (next : Held → Kinds) →
    ((h' : Held) → MakeOne (next h')) → MakeOne (short_fault c again a rest h next)
one_short c again None rest h next n = one_only kind.UnknownArgument
one_short c again (Some a) rest h next n = search (rules, one_if, one_flag, one_else, one_react)

one_bundle_step : (c : List Rule) (again : Bool) (o : Option ℕ) (flags : Text) (skip : ℕ) (h : Held)
    (next : Text → ℕ → Held → Kinds)
    → ((t : Text) (k : ℕ) (h' : Held) → MakeOne (next t k h')) → MakeOne (bundle_step_fault c again o flags skip h next)
one_bundle_step c again o flags skip h next n = search (rules, one_none, one_short)

one_flags : (c : List Rule) (again : Bool) (room : ℕ) (flags : Text) (skip : ℕ) (h : Held) →
    MakeOne (flags_fault c again room flags skip h)
unfolding flags_fault
one_flags c again zero flags skip h = one_none
one_flags c again (suc room) flags skip h = search (rules, one_bundle_step, one_flags c again room)

one_flag_word : (c : List Rule) (again : Bool) (o : Option (Text × Option Text)) (word : Text) (h : Held) →
    MakeOne (flag_word_fault c again o word h)
one_flag_word c again o word h = grind (arith, one_long, one_option, one_flags, one_none)

-- there is no subcommand `help`, or there are no subcommands at all
abbrev pub IsPlain : Shape → Names → Type 0
IsPlain s names = (s.disable_help_subcommand ≡ true) ⊎ (names ≡ [])

never : (b : Bool) → (b && false) ≡ false
never b = grind arith

one_named : (s : Shape) (name word : Text) (h : Held) → s.disable_help_subcommand ≡ true →
    MakeOne (other_fault s (Some name) word h)
one_named s name word h off = grind (arith, never, one_none)

one_unnamed : (s : Shape) (word : Text) (h : Held) → MakeOne (other_fault s None word h)
one_unnamed s word h = grind (arith, one_if, one_none, one_flag_word)

one_other : (s : Shape) (o : Option Text) (word : Text) (h : Held) → (s.disable_help_subcommand ≡ true) ⊎ (o ≡ None) →
    MakeOne (other_fault s o word h)
one_other s None word h plain = one_unnamed s word h
one_other s (Some name) word h (inl off) = one_named s name word h off
one_other s (Some name) word h (inr none) = grind (arith, one_unnamed)

no_subcommand : (waiting : Waiting) (word : Text) → subcommand_met [] waiting word ≡ None
no_subcommand idle word = refl
no_subcommand (option name) word = refl
no_subcommand positional word = refl

met_plain : (s : Shape) (names : Names) (waiting : Waiting) (word : Text) → IsPlain s names →
    (s.disable_help_subcommand ≡ true) ⊎ (subcommand_met names waiting word ≡ None)
met_plain s names waiting word h = grind (arith, no_subcommand)

one_stray : (s : Shape) → MakeOne (stray_fault s)
one_stray s = one_if s.is_leaf _ _ (one_only kind.UnknownArgument) (record {
  line = Refused;
  same = grind arith;
})

one_step : (s : Shape) (position : ℕ) (h : Held) (step : Step) → MakeOne (step_fault s position h step)
one_step s position h value = search (rules, one_option, one_if, one_none, one_settle, one_stray)
one_step s position h _ = one_none

one_turn : (s : Shape) (names : Names) (w : Walk) (word : Text) → IsPlain s names → MakeOne (turn_fault s names w word)
one_turn s names w word plain = search (rules, one_if, is_some, one_none, one_else, one_other, met_plain, one_step)

one_walk : (s : Shape) (names : Names) (w : Walk) (words : List Text) → IsPlain s names →
    MakeOne (walk_fault s names w words)
unfolding walk_fault
one_walk s names w [] plain = one_none
one_walk s names w (word ∷ rest) plain =
    one_else _ _ (one_turn s names w word plain) (one_walk s names (walked s.rules names w word) rest plain)

-- ---- after clap has gone through all words

one_default : (rows : List Row) (a : Rule) → MakeOne (default_fault rows a)
one_default rows a = grind (arith, one_if, one_none, one_else, one_request, one_values)

one_defaults : (rows : List Row) (rules : List Rule) → MakeOne (defaults_fault rows rules)
unfolding defaults_fault
one_defaults rows [] = one_none
one_defaults rows (a ∷ rest) = one_else _ _ (one_default rows a) (one_defaults (with_default rows a) rest)

one_check : (wants_help wants_subcommand wants_argument : Bool) →
    MakeOne (check_kinds wants_help wants_subcommand wants_argument)
one_check wants_help wants_subcommand wants_argument = grind (arith, one_if, one_only, one_none)

one_level : (s : Shape) (names : Names) (h : Held) (words : List Text) (has_subcommand : Bool) (below : Kinds) →
    IsPlain s names → MakeOne below → MakeOne (level_fault s names h words has_subcommand below)
one_level s names h words has_subcommand below plain b =
    search (rules, one_else, one_walk, one_settle, one_defaults, one_check)

one_entered : (a : App) (stop : Option (Text × List Text)) → MakeOne (entered_fault a stop)
one_entered a stop = one_option _ stop [] (λ p. one_option _ (find (λ s. answers_to p.0 (label_of s)) a.subs) []
    (λ s. one_level s [] nothing_held p.1 false [] (inr refl) one_none) one_none) one_none

-- if clap adds no subcommand `help`, all possible errors of a command line mean the same `Line`
pub one_fault : (a : App) (words : List Text) → (built a).top.disable_help_subcommand ≡ true →
    MakeOne (fault_of a words)
one_fault a words off = grind (arith, one_level, one_entered)
