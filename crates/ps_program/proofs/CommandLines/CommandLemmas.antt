-- The command-line parser clap, given the table of commands, reads the words of a line as the definitions state.
use Rattle.std.proofs.Common.{rules, arith, ◌≡◌, ◌⊎◌, ◌∙◌, ◌<◌, ◌+◌, ◌++◌, ℕ, List, [], ◌∷◌, ◌||◌, Bool, Bor, length}
use Rattle.std.proofs.Common.{map, take, true, false, refl, sym, inl, inr, ap, ap₂, subst}
use Prim.Native.Nat.{suc}
use Rattle.std.proofs.Math.ListN.{get_or}
use Rattle.std.proofs.Math.Seq.{take-length, take-suc}
use Rattle.std.proofs.lemmas.List.{map-append}
use Rattle.std.specs.List.{AllByRecursion}
use Rattle.std.specs.Option.{option_map_or}
use Rattle.std.specs.Prelude.{All, IfOk, Option, Result, Ok, Err, None, Some, codes, find, option_map, slice_index}
use Rattle.std.proofs.lemmas.List.Elements.{All-map}
use Rattle.std.specs.Str.{bytes_eq}
use Rattle.clap.specs.Matches.{first_value}
use Rattle.clap.specs.Simple.{is_simple}
use Rattle.clap.specs.Words.{App, Text, IsAmong, AddsSubcommand, Rule, app_of, fault_of, subcommand_of}
use Rattle.clap.specs.Words.{is_simple_and_free, rows_of, with_rule, with_subcommand}
use Rattle.clap.specs.Words as clap
use Rattle.clap.specs.declared.builder.command.Command.{Command}
use Rattle.clap.specs.declared.builder.command.Command.TheViews.{out-Command}
use Rattle.clap.specs.declared.parser.matches.Found.{Found}
use Rattle.clap.proofs.WalkLemmas.{first_value-rows}
use Rattle.clap.specs.declared.error.kind.ErrorKind.{ErrorKind}
use Rattle.clap.specs.declared.error.kind.ErrorKind.TheVariants.{DisplayHelp, OutOfMemory}
use Rattle.clap.proofs.OnLiterals.{clap_on_literals}
use Rattle.ps_program.specs.declared.commands.Line.{Line}
use Rattle.ps_program.specs.declared.commands.Line.TheVariants.{Refused}
use Rattle.ps_program.specs.CommandLine.{Usage, HasFlags, command_with, commands, flag, program, table, with_commands}
use Rattle.ps_program.specs.CommandLine.{arrangements, is_among, is_given, line_named, line_refused, line_said}
use Rattle.ps_program.specs.CommandLine.{words_with, AreRead, Says, LinesAreRead, AskForHelp}
use Rattle.ps_program.specs.Inner.Usages.{usage_of, with_flags}
use Rattle.ps_program.specs.declared.commands.Usage.{Usage as Row}

-- clap's contracts define what clap returns for each list of words, because the table of commands meets clap's
-- condition `is_simple`
pub table-simple : is_simple table ≡ true
unfolding table clap_on_literals
table-simple = refl

pub table-free : is_simple_and_free table ≡ true
unfolding table clap_on_literals
table-free = refl

-- if clap refuses words for a reason other than lack of memory, the words mean the `Line` for that kind of error
pub says_refusal : (app : App) (words : List Text) (kind : ErrorKind) → app ≡ table → (kind ≡ OutOfMemory → ⊥)
    → (kind ≡ OutOfMemory) ⊎ IsAmong kind (fault_of app words) → Says words (line_refused kind)
says_refusal app words kind same memory (inl e) = absurd (memory e)
says_refusal app words kind same memory (inr among) = inr (kind, grind arith, refl)

-- words that clap refuses mean the line `Refused`, unless they ask for help
pub line_refused-other : (kind : ErrorKind) → (kind ≡ DisplayHelp → ⊥) → line_refused kind ≡ Refused
line_refused-other kind other = grind arith

-- for the words of a command and flags: the kinds of errors that clap reports, and the `Line` that the words mean
abbrev Heard : Type 0
Heard = List ErrorKind × Line

abbrev heard : Text → List Text → Heard
heard name flags = (fault_of table (words_with name flags), line_said (subcommand_of table (words_with name flags)))

abbrev behind_first : {X : Type 0} → List X → List X
behind_first [] = []
behind_first (x ∷ xs) = xs

-- If clap reads a command's name with each choice of its flags as the expected `Line`, without errors, `AreRead` holds
-- for each choice. The premise equates two lists, with an element for each choice: what clap returns, and what is
-- expected.
choices_read : (name : Text) (line : (Text → Bool) → Line) (choices : List (List Text)) →
    map (heard name) choices ≡ map (λ flags. ([], line (is_among flags))) choices
    → AllByRecursion (λ flags. AreRead (words_with name flags) (line (is_among flags))) choices
choices_read name line [] same = tt
choices_read name line (flags ∷ more) same = grind (arith, choices_read name line more (ap behind_first same))

usages_read : (commands : List Usage) → map (λ usage. map (heard usage.name) (arrangements usage.flags)) commands
    ≡ map (λ usage. map (λ flags. ([], usage.line (is_among flags))) (arrangements usage.flags)) commands
    → AllByRecursion (λ usage. AllByRecursion (λ flags. AreRead (words_with usage.name flags)
    (usage.line (is_among flags))) (arrangements usage.flags)) commands
usages_read [] same = tt
usages_read (usage ∷ more) same = search (rules, choices_read, usages_read more (ap behind_first same))

-- for a command's name with any choice of its flags, clap returns the `Line` that the command means with these flags
pub lines_read : LinesAreRead
unfolding table clap_on_literals
lines_read = usages_read commands refl

pub help_asked : AskForHelp
unfolding table clap_on_literals
help_asked = (refl, refl)

-- if two Boolean values are false, so is their disjunction
pub none_of : {x y z : Bool} → x ≡ (y || z) → y ≡ false → z ≡ false → x ≡ false
none_of {x} {y} {z} is one other = is ∙ ap₂ (λ (a b : Bool). a || b) one other

-- the code's test whether a flag is given agrees with the definition, for the arguments that the parser found
pub given_is : (found : Found) (name : Text) (value : Option Text) → value ≡ first_value found name →
    option_map_or (λ text. bytes_eq text (codes "true")) value false ≡ is_given name (rows_of found)
given_is found name value is = grind (arith, first_value-rows)

-- ---- the table of commands while commands are added to it

-- clap's description of a program that has only one command, with its flags
abbrev pub app_with : Text → List Text → App
app_with name flags = record { top = command_with name flags; subs = [] }

-- appending the flag at index i to the flags before index i gives the first i + 1 flags
one_more : (flags : List (Bor Text)) (i : ℕ) (default : Bor Text) → i < length flags
    → map flag (map (λ given. given.now) (take i flags)) ++ flag (get_or flags i default).now ∷ [] ≡ map flag
    (map (λ given. given.now) (take (i + 1) flags))
one_more flags i default within =
    let before : List (Bor Text) = take i flags in
    let given : Bor Text = get_or flags i default in
    let next : suc i ≡ i + 1 = omega arith in
    sym (map-append flag (map (λ (each : Bor Text). each.now) before) (given.now ∷ [])) ∙ ap
    (λ (names : List Text). map flag names) (sym (map-append (λ (each : Bor Text). each.now) before (given ∷ [])) ∙ ap
    (λ (some : List (Bor Text)). map (λ (each : Bor Text). each.now) some) (sym (take-suc flags i default within)
    ∙ ap (λ (n : ℕ). take n flags) next))

pub flag_added : (old new : App) (rule : Rule) (name : Text) (flags : List (Bor Text)) (i : ℕ) (default : Bor Text) →
    i < length flags → new ≡ with_rule old rule → old ≡ app_with name (map (λ given. given.now) (take i flags)) →
    rule ≡ flag (get_or flags i default).now → new ≡ app_with name (map (λ given. given.now) (take (i + 1) flags))
flag_added old new rule name flags i default within added were is = grind (arith, one_more)

-- after the last flag has been added, the command has all its flags
pub flags_whole : (command : Command) (name : Text) (flags : List (Bor Text)) (i : ℕ) → i ≡ length flags →
    app_of command ≡ app_with name (map (λ given. given.now) (take i flags))
    → (out-Command command).has_globals ≡ false → HasFlags name (map (λ given. given.now) flags) command
flags_whole command name flags i behind is local = grind (arith, take-length)

-- the table of commands `app`, to which one more command is added
abbrev pub more : App → Text → List Text → App
more app name flags = with_subcommand app (command_with name flags)

pub grown : {E : Type 0} (result : Result Command E) (psyn command : Command) (name : Text) (flags : List Text) →
    HasFlags name flags command → IfOk result (λ whole. AddsSubcommand psyn command whole)
    → IfOk result (λ whole. app_of whole ≡ more (app_of psyn) name flags)
grown result psyn command name flags has adds = grind arith

-- ---- the table of commands that the code builds

with_one_more : (app : App) (usages : List Usage) (usage : Usage) →
    with_commands app (usages ++ usage ∷ []) ≡ more (with_commands app usages) usage.name usage.flags
with_one_more app [] usage = refl
with_one_more app (first ∷ usages) usage = with_one_more (more app first.name first.flags) usages usage

-- if the command of the row at index i is added to the commands of the rows before it, the result has the commands of
-- the first i + 1 rows of the code's table
pub row_added : (old new app : App) (rows : List Row) (i : ℕ) (default : Row) → i < length rows →
    new ≡ more old (get_or rows i default).name.now (map (λ flag. flag.now) (get_or rows i default).flags.now) →
    old ≡ with_commands app (map usage_of (take i rows)) → new ≡ with_commands app (map usage_of (take (i + 1) rows))
row_added old new app rows i default within added were =
    let row : Row = get_or rows i default in
    grind (
      arith,
      with_one_more app (map usage_of (take i rows)) (usage_of row),
      map-append usage_of (take i rows) (row ∷ []),
      take-suc rows i default within,
    )

-- the clap command that the code builds from all rows of its table equals the clap command that the definitions build
-- from all commands
pub made_table : {E : Type 0} (made : Result Command E) (rows : List Row) → map usage_of rows ≡ commands →
    IfOk made (λ command. app_of command ≡ with_commands program (map usage_of rows)) →
    IfOk made (λ command. app_of command ≡ table)
unfolding table
made_table (Ok command) rows same is = is ∙ ap (with_commands program) same
made_table (Err error) rows same is = tt

pub all_rows : (app : App) (rows : List Row) (i : ℕ) → i ≡ length rows →
    app ≡ with_commands program (map usage_of (take i rows)) → app ≡ with_commands program (map usage_of rows)
all_rows app rows i behind is = grind (arith, take-length)

-- finding a row of the code's table by a command's name gives the `Line` that the definitions give for this name
found_among : (rows : List Row) (name : Text) (given : Text → Bool) →
    option_map_or (λ row. with_flags row.line given) (find (λ row. bytes_eq row.name.now name) rows) Refused
    ≡ option_map_or (λ usage. usage.line given) (find (λ usage. bytes_eq usage.name name) (map usage_of rows)) Refused
found_among [] name given = refl
found_among (row ∷ rows) name given = grind (arith, found_among rows name given)

pub row_found : (rows : List Row) (name : Text) (given : Text → Bool) (row : Option Row) →
    map usage_of rows ≡ commands →
    row ≡ find (λ row. bytes_eq row.name.now name) rows
    → option_map_or (λ row. with_flags row.line given) row Refused ≡ line_named name given
row_found rows name given row same is =
    ap (λ (found : Option Row). option_map_or (λ row. with_flags row.line given) found Refused) is
    ∙ found_among rows name given
    ∙ ap (λ (usages : List Usage). option_map_or (λ usage. usage.line given)
    (find (λ usage. bytes_eq usage.name name) usages) Refused) same

-- a word that is longer than the name in each row of the code's table is longer than the name of each command
pub longer_than_each : (rows : List Row) (word : Text) → map usage_of rows ≡ commands →
    All (λ row. length row.name.now < length word) rows → All (λ usage. length usage.name < length word) commands
longer_than_each rows word same longer =
    let IsLonger : Usage → Type 0 = λ usage. length usage.name < length word in
    subst (All IsLonger) same (All-map IsLonger usage_of rows longer)

-- if the first byte of a word is not a hyphen, the word does not begin with a hyphen
pub no_hyphen : (word bytes : Text) → bytes ≡ word → (get_or bytes 0 0 ≡ 45 → ⊥) → slice_index word 0 ≡ 45 → ⊥
no_hyphen word bytes same plain hyphen = grind arith

-- a subcommand as a pair of its name and its parsed arguments
module _ {B : Type 0} (name_in : B → Text) (rows_in : B → List clap.Row) where
  abbrev both_in : B → Text × List clap.Row
  both_in b = (name_in b, rows_in b)

  pub one_subcommand : (met : Option B) (name : Text) (rows : List clap.Row) → Some name ≡ option_map name_in met
      → Some rows ≡ option_map (λ (both : Text × List clap.Row). both.1) (option_map both_in met)
      → option_map both_in met ≡ Some (name, rows)
  one_subcommand None name rows named had = cc
  one_subcommand (Some b) name rows named had = cc
